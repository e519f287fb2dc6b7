-- What the stored superblocks say of an array that runs: what its members do.
use Rattle.std.proofs.Common.{◌≡◌, inl, inr, ℕ, nat_lt, ◌&&◌, ◌||◌, Bool, true, false, Some, List, length, refl, sym, ◌∙◌, ap, subst, arith}
use Rattle.std.proofs.lemmas.Bool.Decides.{nat_tests}
use Rattle.std.specs.Prelude.{slice_index_or, IfSome, ⊤}
use Rattle.array_reply_specs.specs.raid_types_Shapes.{has_slot}
use Rattle.array_reply_specs.specs.raid_types_the_Role.{Role}
use Rattle.array_reply_specs.specs.raid_types_the_Role_TheVariants.{Missing}
use Rattle.array_reply_specs.specs.bank_the_Operation.{Operation}
use Rattle.array_reply_specs.specs.bank_Given.{Given}
use Rattle.array_transition.specs.sb_specs_the_Members.{Members}
use Rattle.array_transition.specs.sb_specs_Reading.{Scope, holder, role_state, is_reshaping, next_window}
use Rattle.array_transition.specs.sb_specs_Reads.{SaysSame, has_spare}
use Rattle.array_transition.specs.stripe_row_Rows.{present, reading_of, members_without}
use Rattle.array_transition.proofs.stripe_row_Losses.{state_after, state_kept}
use Rattle.array_reply_specs.specs.history_the_Entry.{Entry}
use Rattle.array_transition.specs.history_World.{reading_at}
use Rattle.array_transition.specs.crash_safety_laws_Safety.{HasLiveSlot}
use Rattle.array_transition.specs.array_members_Placed.{IsPlaced}
use Rattle.array_transition.specs.array_members_Rebuilding.{Held, MayHold, AreSparesFree}
use Rattle.array_transition.specs.reshape_progress_Course.{hidden_in}
use Rattle.array_transition.specs.array_reshaping_state_Due.{unsure_in}
use Rattle.array_transition.proofs.crash_safety_laws_Without.{in-both, live-is}
use Rattle.array_transition.proofs.array_members_LiveLeft.{holder-left}
use Rattle.array_transition.specs.history_invariant_Recorded.{IsHistoryKept}
use Rattle.array_transition.specs.history_invariant_Safe.{world_in, IsNowRight, IsSafeHistory}
use Rattle.array_transition.proofs.history_invariant_Lengths.{now-drawn}
use Rattle.array_reply_specs.specs.history_invariant_laws_Reliable.{IsReliable, AreToldGone}
use Rattle.array_transition.specs.array_specs_Calls.{moving_world}
use Rattle.array_transition.specs.array_specs_Parts.{RunningParts}
use Rattle.array_grow.specs.Stored.{AreStoredAt, IsStoredBy}

-- a slot that isn't lost wasn't before
not-before : (a b : Bool) → (a || b) ≡ false → a ≡ false
not-before false b is = refl
not-before true b is = absurd (cc)

-- As long as a slot is left that is written, the superblocks are held as the members had it before they lost slots.
pub stored-now : (given : Given) (tape : List Operation) (scope : Scope) (first : ℕ) (entries : List Entry) (m : Members) (carried : ℕ → ℕ → Bool) (reshaping : Bool)
    → IsNowRight (world_in given tape scope first) given m carried reshaping entries → HasLiveSlot m → AreStoredAt (world_in given tape scope first) (length tape) m
unfolding reading_at
stored-now given tape scope first entries m carried reshaping (inr unkept) live = absurd (unkept.spent.none live)
stored-now given tape scope first entries m carried reshaping (inl (inr spent)) live = absurd (spent.none live)
stored-now given tape scope first entries m carried reshaping (inl (inl steady)) live =
    let held = steady.since.held in
    let gone = steady.since.gone in
    let read = held.updated.reads (present given tape) (λ slot. (now-drawn given tape slot 8, now-drawn given tape slot 9)) in
    let since : m ≡ members_without gone steady.former = steady.since.since in
    record {
      found = read.found;
      is = read.is;
      array = subst (λ (k : Members). SaysSame k.newest read.found.newest) (sym since) read.same.array;
      held = λ role slot holds.
          let after = ap (λ (k : Members). role_state (reading_of k) role) since ∙ state_after steady.former gone role in
          let kept = state_kept gone slot (role_state (reading_of steady.former) role) (ap holder (sym after) ∙ holds) in
          ap (λ (l : List Role). slice_index_or l role Missing) (read.same.roles ∙ sym held.said.roles) ∙ sym (after ∙ kept.same);
      spares = λ slot kept.
          read.same.spares slot (not-before (has_slot steady.former.lost slot) (has_slot gone slot) (sym (ap (λ (k : Members). has_slot k.lost slot) since ∙ in-both steady.former.lost gone slot) ∙ kept))
          ∙ ap (λ (l : List ℕ). has_spare l slot) (sym held.said.spares) ∙ sym (ap (λ (k : Members). has_spare k.spares slot) since);
    }

-- ---- a slot that has a part in the array

-- no slot that holds a role was lost
abbrev pub AreHeldUnlost : Members → Type 0
AreHeldUnlost m = (role slot : ℕ) → Held m role slot → has_slot m.lost slot ≡ false

unlost-of : (given : Given) (m : Members) → AreHeldUnlost m → AreSparesFree given m → (role slot : ℕ) → MayHold m role slot → has_slot m.lost slot ≡ false
unlost-of given m unlost free role slot (inl held) = unlost role slot held
unlost-of given m unlost free role slot (inr spare) = (free slot spare).unlost

-- a spare is live
spare-left : (given : Given) (m : Members) (slot : ℕ) → AreSparesFree given m → has_spare m.spares slot ≡ true → HasLiveSlot m
spare-left given m slot free spare = (
  slot,
  live-is m false slot ∙ in-all (nat_lt slot 32) _ (has_spare m.spares slot) below spare,
  (free slot spare).unlost,
)
  where
    below : nat_lt slot 32 ≡ true
    below = let small = (free slot spare).room.small in grind (arith, nat_tests, small)

    in-all : (small held spare : Bool) → small ≡ true → spare ≡ true → (small && ((held || spare) || false)) ≡ true
    in-all true true true a b = refl
    in-all true false true a b = refl
    in-all false held spare a b = absurd (cc)
    in-all true held false a b = absurd (cc)

member-left : (given : Given) (m : Members) → IsPlaced given m → AreHeldUnlost m → AreSparesFree given m → (role slot : ℕ) → MayHold m role slot → HasLiveSlot m
member-left given m placed unlost free role slot (inl held) = holder-left given m role slot placed unlost held
member-left given m placed unlost free role slot (inr spare) = spare-left given m slot free spare

-- So it is where a history is kept whose marks are safe.
pub stored-by : {B : Type 0} {right : Type 0} {size : ℕ} {carried : ℕ → ℕ → Bool} {reshaping : Bool} (given : Given) (tape : List Operation) (array : RunningParts B)
    → IsPlaced given array.parts.members → AreHeldUnlost array.parts.members → AreSparesFree given array.parts.members → (is_reshaping array.parts.members.newest ≡ true
    → IfSome (hidden_in array.course.window) (λ span. next_window array.parts.members.newest ≡ Some span) × IfSome (unsure_in array.course.window) (λ span. next_window array.parts.members.newest ≡ Some span))
    → (IsReliable (moving_world given tape array) array.parts.entries → AreToldGone (moving_world given tape array) array.parts.entries array.parts.members) → IsHistoryKept right (moving_world given tape array) size array.parts.entries
    → (IsReliable (moving_world given tape array) array.parts.entries → IsSafeHistory ⊤ (moving_world given tape array) given array.parts.members carried reshaping array.parts.entries)
    → IsStoredBy (moving_world given tape array) array
stored-by {carried = carried} {reshaping = reshaping} given tape array placed unlost free window gone recorded safe = record {
  begun = recorded.begun;
  ends = recorded.ends;
  unlost = unlost-of given array.parts.members unlost free;
  window = window;
  gone = gone;
  stored = λ relied role slot may.
      let world = moving_world given tape array in
      subst (λ (mark : ℕ). AreStoredAt world mark array.parts.members) (sym recorded.ended)
      (stored-now given tape world.scope array.parts.first array.parts.entries array.parts.members carried reshaping (safe relied).now
      (member-left given array.parts.members placed unlost free role slot may));
}
