-- A stripe of the open window is copied: what the array keeps, and what it answers.
use Rattle.std.proofs.Common.{◌≡◌, ◌≢◌, inr, ℕ, ◌+◌, ◌-◌, ◌*◌, ◌<◌, ◌≤◌, ◌==◌, Bool, true, false, cond, Option, Some, None, List, [], ◌∷◌, ◌++◌, length, take, refl, sym, ◌∙◌, ap, subst, arith}
use Rattle.std.specs.Prelude.{IsFalse, ⊤}
use Rattle.array_fixed_laws.specs.raid_types_Sectors.{Sector}
use Rattle.array_fixed_laws.specs.raid_types_the_Refusal.{Refusal}
use Rattle.array_fixed_laws.specs.raid_types_the_Who.{Who}
use Rattle.array_fixed_laws.specs.raid_types_the_Span.{Span}
use Rattle.reshape_window_backup.specs.bank_the_Operation.{Operation}
use Rattle.reshape_window_backup.specs.bank_Given.{Given}
use Rattle.reshape_window_backup.specs.bank_Tape.{disk}
use Rattle.reshape_window_backup.specs.reshape_geometry_Geometry.{beyond}
use Rattle.reshape_window_backup.specs.reshape_plan_Plans.{phases_steps}
use Rattle.reshape_window_backup.specs.sb_codec_the_Sb.{Sb}
use Rattle.array_reshaping_resync_laws.specs.sb_specs_the_Members.{Members}
use Rattle.array_reshaping_resync_laws.specs.sb_specs_Reading.{Scope, is_reshaping, is_backward, is_clean, final_shape, role_count}
use Rattle.array_reshaping_resync_laws.proofs.sb_specs_ValidFields.{few-roles}
use Rattle.array_reshaping_resync_laws.specs.stripe_row_Rows.{reading_of, present}
use Rattle.array_reshaping_resync_laws.specs.stripe_list_Full.{RowStands}
use Rattle.array_reshaping_resync_laws.specs.history_the_Entry.{Entry}
use Rattle.array_reshaping_resync_laws.specs.history_the_Event_TheVariants.{Refused, Step}
use Rattle.array_reshaping_resync_laws.specs.history_the_StepKind_TheVariants.{Copied as CopiesStripe}
use Rattle.array_reshaping_resync_laws.specs.history_Plain.{entries_of}
use Rattle.array_reshaping_resync_laws.specs.history_World.{World}
use Rattle.array_reshaping_resync_laws.specs.crash_views_Views.{Ledger}
use Rattle.array_reshaping_resync_laws.specs.crash_views_Windows.{IsCopyable}
use Rattle.array_reshaping_resync_laws.specs.crash_safety_laws_Safety.{HasLiveSlot, HasRoomLeft, IsRisen}
use Rattle.array_reshaping_resync_laws.specs.crash_safety_laws_Steady.{IsSafeOver, KeepsSafe, AreGoneTold, IsUncleanTold}
use Rattle.array_reshaping_resync_laws.specs.array_members_Moving.{Grows, IsMoved}
use Rattle.array_reshaping_resync_laws.specs.array_members_Lacking.{AreTooMany, AreOtherRowsKept, IsOfStripe}
use Rattle.array_fixed_laws.specs.sb_safe_updates_Unused.{IsUnusedKept}
use Rattle.array_reshaping_resync_laws.specs.history_append_Losing.{losses_of}
use Rattle.array_reshaping_resync_laws.specs.reshape_request_the_Window_TheVariants.{Entered}
use Rattle.array_reshaping_resync_laws.specs.reshape_request_the_PhasesLeft.{PhasesLeft}
use Rattle.array_reshaping_resync_laws.specs.reshape_request_Left.{steps_from, stripes_in, phases_of, grow_left}
use Rattle.array_reshaping_resync_laws.proofs.reshape_request_LeftLaws.{copying}
use Rattle.array_reshaping_resync_laws.specs.reshape_window_rows_Copies.{tail_of, IsCopied}
use Rattle.array_reshaping_resync_laws.specs.history_invariant_Recorded.{IsCallGoing}
use Rattle.array_reshaping_resync_laws.specs.history_invariant_Safe.{world_in}
use Rattle.array_reshaping_resync_laws.specs.reshape_progress_the_Course.{Course}
use Rattle.array_reshaping_resync_laws.specs.reshape_progress_Laws.{entered, next_stripe}
use Rattle.array_reshaping_resync_laws.specs.stripe_region_resync_Left.{resync_left}
use Rattle.array_reshaping_resync_laws.proofs.reshape_progress_resync_laws_Windows.{mended-copies-go-on}
use Rattle.array_reshaping_resync_laws.specs.array_reshaping_invariant_Moving.{IsMoving}
use Rattle.array_reshaping_resync_laws.proofs.array_reshaping_invariant_Pending.{unmended-of}
use Rattle.array_reshaping_resync_laws.proofs.array_reshaping_invariant_Staying.{refused-moves}
use Rattle.array_reshaping_resync_laws.proofs.array_reshaping_invariant_Steps.{AreMissingSince, able-kept, plain-of, copied-moves}
use Rattle.array_fixed_laws.specs.array_specs_Parts.{RunningParts}
use Rattle.array_reshaping_laws.specs.Ready.{bytes_in}
use Rattle.array_fixed_laws.specs.array_specs_Calls.{IsCopyDue}
use Rattle.array_reshaping_laws.proofs.Kept.{left_by, left-moved}
use Rattle.array_reshaping_resync_laws.proofs.history_invariant_Turned.{fills-on_course}
use Rattle.array_reshaping_laws.proofs.WriteLaws.{same-span, same-count, same-flag}

-- ---- the number of a call that goes on

-- ---- the window that is open

-- a stripe of the window that is found open is to be copied, and no stripe behind the list is zeroed
pub due-is : {B : Type 0} (array : RunningParts B) (span : Span) (copied : ℕ) (sectioned : Bool) → IsCopyDue array → array.course.window ≡ Entered span copied sectioned
    → (array.course ≡ entered span copied sectioned) × (copied < stripes_in array.parts.members.newest span)
due-is array span copied sectioned due window =
    let same : Entered due.span due.copied due.sectioned ≡ Entered span copied sectioned = sym (ap (λ (c : Course). c.window) due.is) ∙ window in
    let spans = same-span due.span span due.copied copied due.sectioned sectioned same in
    let counts = same-count due.span span due.copied copied due.sectioned sectioned same in
    let flags = same-flag due.span span due.copied copied due.sectioned sectioned same in (
      due.is ∙ (λ i. entered (spans i) (counts i) (flags i)),
      subst (λ (n : ℕ). n < stripes_in array.parts.members.newest span) counts (subst (λ (s : Span). due.copied < stripes_in array.parts.members.newest s) spans due.more),
    )

-- the course with one more stripe copied
abbrev pub one_more : Course → Span → ℕ → Bool → Course
one_more course span copied sectioned = record course { window = Entered span (copied + 1) sectioned }

-- it is that of the entered window with one more
pub copied-more : (course : Course) (span s : Span) (copied n : ℕ) (sectioned b : Bool) → course.window ≡ Entered span copied sectioned → course ≡ entered s n b → one_more course span copied sectioned ≡ entered s (n + 1) b
copied-more course span s copied n sectioned b window is =
    let same : Entered span copied sectioned ≡ Entered s n b = sym window ∙ ap (λ (c : Course). c.window) is in
    let spans = same-span span s copied n sectioned b same in
    let counts = same-count span s copied n sectioned b same in
    let flags = same-flag span s copied n sectioned b same in
    λ i. one_more (is i) (spans i) (counts i) (flags i)

-- ---- the steps that are left

-- One step fewer is left, and at least one.
module _ (given : Given) (old new : Members) (resync : Option ℕ) (course : Course) (ahead : PhasesLeft) (span : Span) (copied : ℕ) (sectioned : Bool) (active : is_reshaping old.newest ≡ true)
    (is : course ≡ entered span copied sectioned) (more : copied < stripes_in old.newest span) (moved : IsMoved given old new) where
  more-is : one_more course span copied sectioned ≡ entered span (copied + 1) sectioned
  more-is = ap (λ (c : Course). one_more c span copied sectioned) is

  -- on the members as they were
  before-more : left_by resync new (one_more course span copied sectioned) ahead ≡ left_by resync old (entered span (copied + 1) sectioned) ahead
  before-more = ap (λ (c : Course). left_by resync new c ahead) more-is ∙ left-moved given old new resync (entered span (copied + 1) sectioned) ahead moved

  pub left-falls : left_by resync new (one_more course span copied sectioned) ahead + 1 ≡ left_by resync old course ahead
  left-falls =
      ap (λ (n : ℕ). n + 1) before-more
      ∙ one (grow_left old.newest (Entered span (copied + 1) sectioned) 0 (phases_of ahead)) (grow_left old.newest (Entered span copied sectioned) 0 (phases_of ahead))
      (resync_left old.newest (Entered span (copied + 1) sectioned) resync) (resync_left old.newest (Entered span copied sectioned) resync)
      (copying old.newest span sectioned copied 0 (phases_of ahead) active more) (same old.newest resync)
      ∙ sym (ap (λ (c : Course). left_by resync old c ahead) is)
    where
      one : (x y m n : ℕ) → x + 1 ≡ y → m ≡ n → x + m + 1 ≡ y + n
      one x y m n fewer same = omega (arith, fewer, same)

      same : (newest : Sb) (resync : Option ℕ) → resync_left newest (Entered span (copied + 1) sectioned) resync ≡ resync_left newest (Entered span copied sectioned) resync
      same newest None = refl
      same newest (Some mended) = refl

  pub left-some : left_by resync new (one_more course span copied sectioned) ahead ≢ 0
  left-some none = some-of (is_reshaping old.newest) (stripes_in old.newest span - (copied + 1)) (steps_from old.newest (beyond (is_backward old.newest) span) - 0)
      (phases_steps (final_shape old.newest) old.newest.size (phases_of ahead)) (resync_left old.newest (Entered span (copied + 1) sectioned) resync) active (sym before-more ∙ none)
    where
      some-of : (b : Bool) (x y z m : ℕ) → b ≡ true → cond b (x + 1 + y) 0 + z + m ≡ 0 → ⊥
      some-of true x y z m is none = omega (arith, none)
      some-of false x y z m is none = absurd (cc)

-- ---- what is kept

-- what a copy of the next stripe leaves on the members, done or not
pub record IsStripeTried (tells : Type 0) (given : Given) (tape tape' : List Operation) (old new : Members) (span : Span) (copied roles : ℕ) : Type 0 where
  pub moved : IsMoved given old new
  pub since : AreMissingSince old new roles
  pub clean : is_clean new.newest ≡ is_clean old.newest
  pub rise : tells → IsRisen ⊤ old new tape tape'
  pub unused : tells → IsUnusedKept old (disk given.start tape) (disk given.start tape')
  pub others : tells → AreOtherRowsKept (IsOfStripe (final_shape old.newest) (next_stripe old span copied)) (reading_of new) (present given tape) (present given tape')
  pub safe : tells → (world : World) → (told : Ledger) → HasRoomLeft old tape tape' → AreGoneTold told new → IsUncleanTold told old → IsCopyable world.scope old span (disk given.start tape)
      → IsSafeOver world given told old tape → KeepsSafe world given told new tape tape'

module _ (tells : Type 0) (given : Given) (tape tape' : List Operation) (scope : Scope) (first : ℕ) (entries : List Entry) (old new : Members) (carried : ℕ → ℕ → Bool)
    (resync : Option ℕ) (course : Course) (ahead : PhasesLeft) (window : List ℕ) (span : Span) (copied : ℕ) (sectioned : Bool) (who : Who) (end roles spares : ℕ)
    (was : IsMoving tells given tape scope first entries old carried resync course (bytes_in course.window window) (left_by resync old course ahead)) (is : course ≡ entered span copied sectioned) (live : HasLiveSlot old)
    (more : copied < stripes_in old.newest span) (goes : IsCallGoing entries who) (caller : IsFalse (who.caller == 254)) (at_end : tells → end ≡ length tape') (grows : Grows tells tape tape')
    (did : IsStripeTried tells given tape tape' old new span copied roles) where
  abbrev bytes : List ℕ
  bytes = take (512 * (span.hi - span.lo)) window

  opened : IsMoving tells given tape scope first entries old carried resync (entered span copied sectioned) bytes (left_by resync old course ahead)
  opened = subst (λ (c : Course). IsMoving tells given tape scope first entries old carried resync c (bytes_in c.window window) (left_by resync old course ahead)) is was

  few : role_count new.newest ≤ 16
  few = few-roles new.newest did.moved.placed.fit.valid

  -- done
  pub copied-kept : (left : ℕ) → left ≡ left_by resync new (one_more course span copied sectioned) ahead
      → (tells → (list : ℕ → Sector) → IsCopied span bytes (tail_of old.newest) list → (row : ℕ) → IsOfStripe (final_shape old.newest) (next_stripe old span copied) row
      → RowStands (reading_of new) (present given tape') (final_shape old.newest) list row)
      → IsMoving tells given tape' scope first (entries ++ entries_of who end (losses_of roles spares ++ Step CopiesStripe left ∷ [])) new carried resync (one_more course span copied sectioned) bytes
      (left_by resync new (one_more course span copied sectioned) ahead)
  copied-kept left left_is stands =
      let active = was.members_are.active in
      let fewer = left-falls given old new resync course ahead span copied sectioned active is more did.moved in
      let some = left-some given old new resync course ahead span copied sectioned active is more did.moved in
      let one : left_by resync old course ahead ≡ left + 1 = sym fewer ∙ ap (λ (n : ℕ). n + 1) (sym left_is) in
      subst (λ (n : ℕ). IsMoving tells given tape' scope first (entries ++ entries_of who end (losses_of roles spares ++ Step CopiesStripe left ∷ [])) new carried resync (one_more course span copied sectioned) bytes n) left_is
      (subst (λ (c : Course). IsMoving tells given tape' scope first (entries ++ entries_of who end (losses_of roles spares ++ Step CopiesStripe left ∷ [])) new carried resync c bytes left)
      (sym (more-is given old new resync course ahead span copied sectioned active is more did.moved))
      (copied-moves tells given tape tape' scope first entries old new carried resync span copied sectioned bytes left who end roles spares
      (subst (λ (n : ℕ). IsMoving tells given tape scope first entries old carried resync (entered span copied sectioned) bytes n) one opened) live goes caller at_end grows
      more (λ none. some (sym left_is ∙ none)) did.moved few did.since did.clean did.rise did.unused did.others stands did.safe))

  -- refused
  pub uncopied-kept : (refusal : Refusal) → AreTooMany new refusal
      → IsMoving tells given tape' scope first (entries ++ entries_of who end (losses_of roles spares ++ Refused refusal ∷ [])) new carried resync course (bytes_in course.window window) (left_by resync new course ahead)
  uncopied-kept refusal many =
      subst (λ (n : ℕ). IsMoving tells given tape' scope first (entries ++ entries_of who end (losses_of roles spares ++ Refused refusal ∷ [])) new carried resync course (bytes_in course.window window) n)
      (sym (left-moved given old new resync course ahead did.moved))
      (subst (λ (c : Course). IsMoving tells given tape' scope first (entries ++ entries_of who end (losses_of roles spares ++ Refused refusal ∷ [])) new carried resync c (bytes_in c.window window) (left_by resync old course ahead)) (sym is)
      (refused-moves tells given tape tape' scope first entries old new carried resync (entered span copied sectioned) bytes (left_by resync old course ahead) who end roles spares refusal
      opened live goes caller at_end grows did.moved few did.since did.clean (inr many) did.rise did.unused
      (λ t sound among list stands.
      (mended-copies-go-on sound among given old new resync span copied sectioned bytes (present given tape) (present given tape') list was.members_are.placed did.moved (unmended-of resync opened.beside) opened.course_is.window.0 more
      (plain-of old.newest span copied sectioned opened.course_is.window) (did.others t) stands).0)
      (λ t told fills more_told room gone unclean now. did.safe t (world_in given tape scope first) told room gone unclean
      (able-kept scope given old span copied sectioned (disk given.start tape) opened.course_is.window (opened.stored t (fills-on_course (world_in given tape scope first) entries fills)).section) now)))
