-- A stripe behind the list is zeroed, from what `zero` of `reshape_window_steps` says of it: what is kept, done or refused.
use Rattle.std.proofs.Common.{◌≡◌, ◌≢◌, inr, ℕ, ◌+◌, ◌<◌, Bool, true, Option, None, List, [], ◌∷◌, ◌++◌, length, sym, ◌∙◌, ap, subst, arith}
use Rattle.std.specs.Prelude.{⊤}
use Rattle.array_fixed_laws.specs.raid_types_Sectors.{Sector}
use Rattle.array_fixed_laws.specs.raid_types_the_Refusal.{Refusal}
use Rattle.array_fixed_laws.specs.raid_types_the_Who.{Who}
use Rattle.array_fixed_laws.specs.raid_types_the_Shape.{Shape}
use Rattle.reshape_window_backup.specs.bank_the_Operation.{Operation}
use Rattle.reshape_window_backup.specs.bank_Given.{Given}
use Rattle.reshape_window_backup.specs.bank_Tape.{disk}
use Rattle.reshape_window_backup.specs.reshape_plan_Plans.{phases_steps}
use Rattle.array_reshaping_resync_laws.specs.sb_specs_the_Members.{Members}
use Rattle.array_reshaping_resync_laws.specs.sb_specs_Reading.{Scope, is_clean, is_reshaping, final_shape, next_window}
use Rattle.array_reshaping_resync_laws.proofs.sb_specs_ValidFields.{few-roles}
use Rattle.array_reshaping_resync_laws.specs.stripe_row_Rows.{reading_of, present}
use Rattle.array_reshaping_resync_laws.specs.stripe_list_Full.{RowStands}
use Rattle.array_reshaping_resync_laws.specs.history_the_Entry.{Entry}
use Rattle.array_reshaping_resync_laws.specs.history_the_Event_TheVariants.{Step, Refused}
use Rattle.array_reshaping_resync_laws.specs.history_the_StepKind_TheVariants.{Zeroed as ZeroesStripe}
use Rattle.array_reshaping_resync_laws.specs.history_Plain.{entries_of}
use Rattle.array_reshaping_resync_laws.specs.history_World.{World}
use Rattle.array_reshaping_resync_laws.specs.crash_views_Views.{Ledger}
use Rattle.array_reshaping_resync_laws.specs.crash_safety_laws_Safety.{HasLiveSlot, HasRoomLeft, IsRisen}
use Rattle.array_reshaping_resync_laws.specs.crash_safety_laws_Steady.{IsSafeOver, KeepsSafe, AreGoneTold, IsUncleanTold}
use Rattle.array_reshaping_resync_laws.specs.array_members_Moving.{Grows, IsMoved}
use Rattle.array_reshaping_resync_laws.specs.array_members_Lacking.{AreTooMany, AreLostSince, IsOfStripe, AreOtherRowsKept}
use Rattle.array_reshaping_resync_laws.specs.reshape_window_rows_Copies.{tail_of, IsZeroIn}
use Rattle.array_fixed_laws.specs.sb_safe_updates_Unused.{IsUnusedKept}
use Rattle.array_reshaping_resync_laws.specs.history_append_Losing.{losses_of}
use Rattle.array_reshaping_resync_laws.specs.reshape_request_the_Window.{Window}
use Rattle.array_reshaping_resync_laws.specs.reshape_request_the_PhasesLeft.{PhasesLeft}
use Rattle.array_reshaping_resync_laws.specs.reshape_request_Left.{zeroed_by, phases_of, grow_left, reshape_left}
use Rattle.array_reshaping_resync_laws.proofs.reshape_request_LeftLaws.{zeroing}
use Rattle.array_reshaping_resync_laws.specs.history_invariant_Recorded.{IsCallGoing}
use Rattle.array_reshaping_resync_laws.specs.history_invariant_Safe.{world_in}
use Rattle.array_reshaping_resync_laws.specs.reshape_progress_the_Course.{Course}
use Rattle.array_reshaping_resync_laws.specs.reshape_progress_Course.{past_stripe}
use Rattle.array_reshaping_resync_laws.specs.reshape_progress_Laws.{closed}
use Rattle.array_reshaping_resync_laws.proofs.reshape_progress_Courses.{zeroes-go-on}
use Rattle.array_reshaping_resync_laws.specs.stripe_region_resync_Left.{resync_left}
use Rattle.array_reshaping_resync_laws.specs.reshape_progress_resync_laws_Synced.{StandsSynced}
use Rattle.array_fixed_laws.proofs.array_reshaping_state_LeftLaws.{plans-counted, some-left}
use Rattle.array_fixed_laws.proofs.array_reshaping_state_ReshapeLaws.{through-of}
use Rattle.array_reshaping_resync_laws.specs.array_reshaping_invariant_Moving.{IsMoving}
use Rattle.array_reshaping_resync_laws.proofs.array_reshaping_invariant_MoreSteps.{zeroed-moves}
use Rattle.array_reshaping_resync_laws.proofs.array_reshaping_invariant_Pending.{none-on}
use Rattle.array_reshaping_resync_laws.proofs.array_reshaping_invariant_Staying.{refused-moves}
use Rattle.array_reshaping_resync_laws.proofs.array_reshaping_invariant_Steps.{AreMissingSince, missing-since}
use Rattle.array_fixed_laws.proofs.array_specs_Called.{not_254, risen-told}
use Rattle.array_reshaping_laws.proofs.Kept.{left_by, left-moved}

-- ---- the course

-- with one more stripe zeroed
abbrev pub zeroed_more : Course → Course
zeroed_more course = record course { zeroed = course.zeroed + 1 }

pub closed-at : (course : Course) (count : ℕ) → course ≡ closed count → course ≡ closed course.zeroed
closed-at course count is = is ∙ ap closed (sym (ap (λ (k : Course). k.zeroed) is))

pub more-closed : (course : Course) → course ≡ closed course.zeroed → zeroed_more course ≡ closed (course.zeroed + 1)
more-closed course is = ap (λ (k : Course). record k { zeroed = course.zeroed + 1 }) is

-- ---- the steps that are left

pub zero-left : (given : Given) (old new : Members) (resync : Option ℕ) (course : Course) (ahead : PhasesLeft) → IsMoved given old new → is_reshaping old.newest ≡ true → course ≡ closed course.zeroed → course.zeroed < zeroed_by old.newest
    → left_by resync new (zeroed_more course) ahead + 1 ≡ left_by resync old course ahead
zero-left given old new resync course ahead moved active is lt =
    ap (λ (n : ℕ). n + 1) (left-moved given old new resync (zeroed_more course) ahead moved)
    ∙ one (grow_left old.newest course.window (course.zeroed + 1) (phases_of ahead)) (grow_left old.newest course.window course.zeroed (phases_of ahead)) (resync_left old.newest course.window resync)
    (subst (λ (w : Window). grow_left old.newest w (course.zeroed + 1) (phases_of ahead) + 1 ≡ grow_left old.newest w course.zeroed (phases_of ahead)) (sym (ap (λ (k : Course). k.window) is))
    (zeroing old.newest course.zeroed (phases_of ahead) active lt))
  where
    one : (x y m : ℕ) → x + 1 ≡ y → x + m + 1 ≡ y + m
    one x y m fewer = omega (arith, fewer)

-- the end of the reshape is left behind it
zero-some : (given : Given) (old new : Members) (resync : Option ℕ) (course : Course) (ahead : PhasesLeft) → IsMoved given old new → is_reshaping old.newest ≡ true → course.zeroed < zeroed_by old.newest → left_by resync new (zeroed_more course) ahead ≢ 0
zero-some given old new resync course ahead moved active lt =
    some (left_by resync new (zeroed_more course) ahead) (grow_left old.newest course.window (course.zeroed + 1) (phases_of ahead)) (resync_left old.newest course.window resync) (reshape_left old.newest course.window (course.zeroed + 1)) (phases_steps (final_shape old.newest) old.newest.size (phases_of ahead))
    (left-moved given old new resync (zeroed_more course) ahead moved) (plans-counted old.newest (zeroed_more course) (phases_of ahead) active) (some-left old.newest course.window (course.zeroed + 1) (omega (arith, lt)))
  where
    some : (x y m r p : ℕ) → x ≡ y + m → r + p ≡ y → 0 < r → x ≢ 0
    some x y m r p same counted more none = absurd (omega (arith, same, counted, more, none))

-- ---- what the call left

-- what is left of an array whose next stripe behind the list is zeroed, or in part where it is refused
pub record IsZeroStep (tells : Type 0) (given : Given) (old new : Members) (tape tape' : List Operation) (zeroed roles : ℕ) : Type 0 where
  pub moved : IsMoved given old new
  pub grows : Grows tells tape tape'
  pub since : AreMissingSince old new roles
  pub clean : is_clean new.newest ≡ is_clean old.newest
  pub rise : tells → IsRisen ⊤ old new tape tape'
  pub unused : tells → IsUnusedKept old (disk given.start tape) (disk given.start tape')
  pub others : tells → AreOtherRowsKept (IsOfStripe (final_shape old.newest) (past_stripe old.newest + zeroed)) (reading_of new) (present given tape) (present given tape')
  pub safe : tells → (world : World) → (told : Ledger) → HasRoomLeft old tape tape' → AreGoneTold told new → IsUncleanTold told old
      → IsSafeOver world given told old tape → KeepsSafe world given told new tape tape'

pub zero-step : {tells : Type 0} (given : Given) (old new : Members) (tape tape' : List Operation) (shape : Shape) (stripe zeroed roles spares : ℕ) (before after : ℕ → ℕ)
    → shape ≡ final_shape old.newest → stripe ≡ past_stripe old.newest + zeroed → IsMoved given old new → Grows tells tape tape' → AreLostSince old new roles spares before after
    → is_clean new.newest ≡ is_clean old.newest → IsRisen tells old new tape tape' → (tells → IsUnusedKept old (disk given.start tape) (disk given.start tape'))
    → (tells → AreOtherRowsKept (IsOfStripe shape stripe) (reading_of new) (present given tape) (present given tape'))
    → (tells → (world : World) → (told : Ledger) → HasRoomLeft old tape tape' → AreGoneTold told new → IsUncleanTold told old
    → IsSafeOver world given told old tape → KeepsSafe world given told new tape tape')
    → IsZeroStep tells given old new tape tape' zeroed roles
zero-step given old new tape tape' shape stripe zeroed roles spares before after same at moved grows since clean rise unused others safe = record {
  moved = moved;
  grows = grows;
  since = missing-since roles moved since.vacant;
  clean = clean;
  rise = risen-told rise;
  unused = unused;
  others = λ t. subst (λ (s : Shape). AreOtherRowsKept (IsOfStripe s (past_stripe old.newest + zeroed)) (reading_of new) (present given tape) (present given tape')) same
      (subst (λ (n : ℕ). AreOtherRowsKept (IsOfStripe shape n) (reading_of new) (present given tape) (present given tape')) at (others t));
  safe = safe;
}

-- its rows stand as zeros
abbrev pub AreRowsZeroed : Type 0 → Given → Members → Members → List Operation → Shape → ℕ → Type 0
AreRowsZeroed tells given old new tape' shape stripe = tells → (list : ℕ → Sector) → IsZeroIn (tail_of old.newest) list → (row : ℕ) → IsOfStripe shape stripe row
    → RowStands (reading_of new) (present given tape') shape list row

pub rows-zeroed : {tells : Type 0} (given : Given) (old new : Members) (tape' : List Operation) (shape : Shape) (stripe zeroed : ℕ) → shape ≡ final_shape old.newest → stripe ≡ past_stripe old.newest + zeroed
    → AreRowsZeroed tells given old new tape' shape stripe → AreRowsZeroed tells given old new tape' (final_shape old.newest) (past_stripe old.newest + zeroed)
rows-zeroed {tells = tells} given old new tape' shape stripe zeroed same at stands =
    subst (λ (s : Shape). AreRowsZeroed tells given old new tape' s (past_stripe old.newest + zeroed)) same (subst (λ (n : ℕ). AreRowsZeroed tells given old new tape' shape n) at stands)

-- ---- what is kept

module _ {tells : Type 0} {given : Given} {tape tape' : List Operation} {scope : Scope} {first : ℕ} {entries : List Entry} {old new : Members} {carried : ℕ → ℕ → Bool} {resync : Option ℕ} (course : Course) {buffer : List ℕ} (ahead : PhasesLeft)
    (who : Who) (end roles spares : ℕ) (is : course ≡ closed course.zeroed) (none : next_window old.newest ≡ None) (synced : resync ≡ None)
    (was : IsMoving tells given tape scope first entries old carried resync course buffer (left_by resync old course ahead))
    (live : HasLiveSlot old) (goes : IsCallGoing entries who) (caller : who.caller ≢ 254) (at_end : tells → end ≡ length tape') (did : IsZeroStep tells given old new tape tape' course.zeroed roles) where
  -- it is refused: the rows that were written of the stripe are written again
  pub zero-refused : (refusal : Refusal) → AreTooMany new refusal
      → IsMoving tells given tape' scope first (entries ++ entries_of who end (losses_of roles spares ++ Refused refusal ∷ [])) new carried resync course buffer (left_by resync new course ahead)
  zero-refused refusal many =
      subst (λ (n : ℕ). IsMoving tells given tape' scope first (entries ++ entries_of who end (losses_of roles spares ++ Refused refusal ∷ [])) new carried resync course buffer n) (sym (left-moved given old new resync course ahead did.moved))
      (refused-moves tells given tape tape' scope first entries old new carried resync course buffer (left_by resync old course ahead) who end roles spares refusal was live goes (not_254 who.caller caller) at_end did.grows
      did.moved (few-roles new.newest did.moved.placed.fit.valid) did.since did.clean (inr many) did.rise did.unused
      (λ t sound among list stands. subst (λ (k : Course). StandsSynced sound among resync new k buffer (present given tape') list) (sym is)
      (none-on sound among resync old new (closed course.zeroed) (closed course.zeroed) buffer buffer (present given tape) (present given tape') list synced
      (λ before. (zeroes-go-on sound among given old new course.zeroed buffer (present given tape) (present given tape') list was.members_are.placed did.moved (through-of old.newest was.members_are.placed.fit was.members_are.active none) (did.others t)
      before).0)
      (subst (λ (k : Course). StandsSynced sound among resync old k buffer (present given tape) list) is stands)))
      (λ t told filled more room gone unclean. did.safe t (world_in given tape scope first) told room gone unclean))

  -- it is done
  pub zero-done : (left : ℕ) → left ≡ left_by resync new (zeroed_more course) ahead → course.zeroed < zeroed_by old.newest → AreRowsZeroed tells given old new tape' (final_shape old.newest) (past_stripe old.newest + course.zeroed)
      → IsMoving tells given tape' scope first (entries ++ entries_of who end (losses_of roles spares ++ Step ZeroesStripe left ∷ [])) new carried resync (zeroed_more course) buffer (left_by resync new (zeroed_more course) ahead)
  zero-done left told more stands =
      subst (λ (n : ℕ). IsMoving tells given tape' scope first (entries ++ entries_of who end (losses_of roles spares ++ Step ZeroesStripe left ∷ [])) new carried resync (zeroed_more course) buffer n) told
      (subst (λ (k : Course). IsMoving tells given tape' scope first (entries ++ entries_of who end (losses_of roles spares ++ Step ZeroesStripe left ∷ [])) new carried resync k buffer left) (sym (more-closed course is))
      (zeroed-moves tells given tape tape' scope first entries old new carried resync course.zeroed buffer left who end roles spares before synced live goes (not_254 who.caller caller) at_end did.grows
      (through-of old.newest was.members_are.placed.fit was.members_are.active none) more some did.moved (few-roles new.newest did.moved.placed.fit.valid) did.since did.clean did.rise did.unused did.others stands did.safe))
    where
      falls : left + 1 ≡ left_by resync old course ahead
      falls = ap (λ (n : ℕ). n + 1) told ∙ zero-left given old new resync course ahead did.moved was.members_are.active is more

      before : IsMoving tells given tape scope first entries old carried resync (closed course.zeroed) buffer (left + 1)
      before = subst (λ (n : ℕ). IsMoving tells given tape scope first entries old carried resync (closed course.zeroed) buffer n) (sym falls)
          (subst (λ (k : Course). IsMoving tells given tape scope first entries old carried resync k buffer (left_by resync old course ahead)) is was)

      some : left ≢ 0
      some zero = absurd (zero-some given old new resync course ahead did.moved was.members_are.active more (sym told ∙ zero))
