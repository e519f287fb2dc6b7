-- What the steps of an array in a reshape need alike.
use Rattle.std.proofs.Common.{◌≡◌, ℕ, ◌+◌, ◌-◌, ◌*◌, ◌<◌, ◌≤◌, max, Bool, true, Option, Some, None, cond, List, ◌∷◌, [], ◌++◌, length, sym, ◌∙◌, ap, subst, arith, zero-le}
use Rattle.std.specs.Prelude.{MatchOption}
use Rattle.array_state.specs.raid_types_the_Refusal.{Refusal}
use Rattle.array_state.specs.raid_types_the_Who.{Who}
use Rattle.array_state.specs.raid_types_the_Shape.{Shape}
use Rattle.array_state.specs.raid_types_the_Span.{Span}
use Rattle.array_state.specs.raid_types_the_Phase.{Phase}
use Rattle.sb_election.specs.bank_Given.{Given}
use Rattle.sb_election.specs.reshape_geometry_Geometry.{window, zeroed_stripes}
use Rattle.array_parts.specs.reshape_plan_Plans.{AreSound}
use Rattle.sb_election.specs.sb_specs_the_Members.{Members}
use Rattle.sb_election.specs.sb_specs_Reading.{is_reshaping, final_shape, role_count, next_window}
use Rattle.array_parts.specs.history_the_Entry.{Entry}
use Rattle.array_parts.specs.history_the_Event.{Event}
use Rattle.array_parts.specs.history_the_Event_TheVariants.{Step}
use Rattle.array_parts.specs.history_the_StepKind.{StepKind}
use Rattle.array_parts.specs.history_Plain.{entries_of}
use Rattle.array_parts.specs.array_members_Moving.{IsMoved}
use Rattle.array_state.specs.history_append_Losing.{losses_of}
use Rattle.array_parts.specs.reshape_request_the_Window.{Window}
use Rattle.array_parts.specs.reshape_request_the_Window_TheVariants.{Entered}
use Rattle.array_parts.specs.reshape_request_Left.{zeroed_by, IsReshapeUnderWay, IsWindowRight}
use Rattle.array_reshaping_laws.specs.array_call_specs_Calls.{IsBehind}
use Rattle.array_reshaping_laws.specs.array_specs_Parts.{RunningParts}
use Rattle.array_reshaping_laws.specs.crash_views_Windows.{moved_past}
use Rattle.array_reshaping_laws.proofs.array_reshaping_state_ReshapeLaws.{under-way-of}

-- ---- numbers

-- a step less is left
pub one-fewer : (was steps : ℕ) → was ≡ steps → 1 ≤ steps → (was - 1) + 1 ≡ steps
one-fewer was steps is some = omega (arith, is, some)

-- there is room for the entries of a step
pub room-behind : (was steps room : ℕ) → was ≡ steps → 1 ≤ steps → 50 * was < room → 49 ≤ room
room-behind was steps room is some left = omega (arith, is, some, left)

-- a buffer has room for a part of what it is long enough for
pub wide-for : (part reach long n : ℕ) → n ≡ long → part ≤ reach → 512 * reach ≤ long → 512 * part ≤ n
wide-for part reach long n is low wide = omega (arith, is, low, wide)

-- room was made for an event behind losses
pub room-made : (room : ℕ) → 50 ≤ room → 49 ≤ room
room-made room made = omega (arith, made)

-- one more is at most what it was below
pub next-within : (n most : ℕ) → n < most → n + 1 ≤ most
next-within n most below = omega (arith, below)

pub scratch-for : (long n : ℕ) → n ≡ long → 1048576 ≤ long → 8192 ≤ n
scratch-for long n is wide = omega (arith, is, wide)

-- no option is both
pub never-some : {A : Type 0} {P : Type 0} (a : A) (o : Option A) → o ≡ None → o ≡ Some a → P
never-some {A = A} a o none some = absurd (let both : ◌≡◌ {A = Option A} None (Some a) = sym none ∙ some in cc)

pub same-some : {A : Type 0} (a b : A) → Some a ≡ Some b → a ≡ b
same-some a b both = cc

-- ---- what was entered

pub taken-behind : {old new : List Entry} (who : Who) (end roles spares : ℕ) (kind : StepKind) (left told : ℕ) → left ≡ told
    → new ≡ old ++ entries_of who end (losses_of roles spares ++ Step kind left ∷ []) → IsBehind who old new (Step kind told)
taken-behind {old = old} who end roles spares kind left told same is = record {
  roles = roles;
  spares = spares;
  end = end;
  is = is ∙ ap (λ (n : ℕ). old ++ entries_of who end (losses_of roles spares ++ Step kind n ∷ [])) same;
}

pub behind-roomed : {old mid new : List Entry} (who : Who) (end roles spares : ℕ) (event : Event) → mid ≡ old
    → new ≡ mid ++ entries_of who end (losses_of roles spares ++ event ∷ []) → IsBehind who old new event
behind-roomed who end roles spares event same is = record {
  roles = roles;
  spares = spares;
  end = end;
  is = is ∙ ap (λ (l : List Entry). l ++ entries_of who end (losses_of roles spares ++ event ∷ [])) same;
}

-- nothing changed where room was made
pub unchanged-roomed : {B : Type 0} (now old : RunningParts B) (items : List Entry) → items ≡ now.parts.entries → now ≡ old → record now { parts = record now.parts { entries = items } } ≡ old
unchanged-roomed now old items same is = ap (λ (l : List Entry). record now { parts = record now.parts { entries = l } }) same ∙ is

-- ---- the members behind a step

module _ (given : Given) (old new : Members) (moved : IsMoved given old new) where
  pub under-way-moved : is_reshaping old.newest ≡ true → IsReshapeUnderWay new.newest
  under-way-moved active = under-way-of new.newest moved.placed.fit (moved.reshape.reshaping ∙ active)

  pub zeroed-moved : (zeroed : ℕ) → zeroed ≤ zeroed_by old.newest → zeroed ≤ zeroed_by new.newest
  zeroed-moved zeroed few =
      let same : zeroed_by new.newest ≡ zeroed_by old.newest = λ i. zeroed_stripes (moved.shape i) (moved.reshape.final i) (moved.size i) (moved.reshape.backward i) in
      subst (λ (n : ℕ). zeroed ≤ n) (sym same) few

  pub sound-moved : (phases : List Phase) → AreSound (final_shape old.newest) old.newest.size phases → AreSound (final_shape new.newest) new.newest.size phases
  sound-moved phases sound =
      subst (λ (s : Shape). AreSound s new.newest.size phases) (sym moved.reshape.final) (subst (λ (n : ℕ). AreSound (final_shape old.newest) n phases) (sym moved.size) sound)

  pub next-same : next_window new.newest ≡ next_window old.newest
  next-same = λ i. cond (moved.reshape.reshaping i) (window (moved.shape i) (moved.reshape.final i) (moved.size i) (moved.reshape.backward i) (moved.reshape.position i)) None

  -- a window that was the next one is entered
  pub entered-right : (w : Window) (span : Span) (sectioned : Bool) → w ≡ Entered span 0 sectioned → next_window old.newest ≡ Some span → IsWindowRight new.newest w
  entered-right w span sectioned is next = subst (λ (v : Window). IsWindowRight new.newest v) (sym is) (next-same ∙ next, zero-le)

  -- it has as many roles as it had
  pub roles-moved : (count : ℕ) → count ≡ length old.roles → length old.roles ≡ role_count old.newest → count ≤ length new.roles
  roles-moved count is roles =
      let same : role_count new.newest ≡ role_count old.newest = λ i. max (moved.shape i).disks (moved.reshape.final i).disks in
      let equal : count ≡ length new.roles = is ∙ roles ∙ sym same ∙ sym moved.placed.roles in
      omega (arith, equal)

-- whether a window was recorded or not
pub roles-past : (given : Given) (old new : Members) (span : Span) (found : Option Refusal) → MatchOption found (IsMoved given (moved_past span old) new) (λ refusal. IsMoved given old new)
    → (count : ℕ) → count ≡ length old.roles → length old.roles ≡ role_count old.newest → count ≤ length new.roles
roles-past given old new span None moved count is roles = roles-moved given (moved_past span old) new moved count is roles
roles-past given old new span (Some refusal) moved count is roles = roles-moved given old new moved count is roles
