-- The steps of a reshape under way: each keeps the record, and takes one of the steps that are left.
use Rattle.std.proofs.Common.{◌≡◌, ◌≢◌, ◌⊎◌, inl, inr, ℕ, ◌+◌, ◌<◌, ◌≤◌, ◌==◌, Bool, true, false, cond, Option, Some, None, List, [], ◌∷◌, ◌++◌, length, refl, sym, ◌∙◌, ap, subst, arith, append-nil}
use Rattle.std.specs.Prelude.{IsFalse, IfSome, MatchBool, fold, ⊤}
use Rattle.std.specs.List.{list_any}
use Rattle.std.proofs.lemmas.Bool.Decides.{nat_tests}
use Rattle.history_invariant_laws.specs.raid_types_Sectors.{Sector}
use Rattle.history_invariant_laws.specs.raid_types_Shapes.{has_slot}
use Rattle.history_invariant_laws.specs.raid_types_the_Who.{Who}
use Rattle.history_invariant_laws.specs.raid_types_the_Shape.{Shape}
use Rattle.history_invariant_laws.specs.raid_types_the_Span.{Span}
use Rattle.reshape_progress_resync_laws.specs.bank_the_Operation.{Operation}
use Rattle.reshape_progress_resync_laws.specs.bank_Given.{Given}
use Rattle.reshape_progress_resync_laws.specs.bank_Tape.{disk}
use Rattle.reshape_progress_resync_laws.specs.sb_codec_the_Sb.{Sb}
use Rattle.reshape_progress_resync_laws.specs.reshape_geometry_Geometry.{stripes, is_critical}
use Rattle.reshape_progress_resync_laws.specs.sb_specs_the_Members.{Members}
use Rattle.reshape_progress_resync_laws.specs.sb_specs_Reading.{Scope, is_clean, is_backward, shape_of, final_shape, role_count}
use Rattle.reshape_progress_resync_laws.specs.stripe_row_Rows.{reading_of, present, is_missing}
use Rattle.reshape_progress_resync_laws.specs.stripe_list_Full.{RowStands}
use Rattle.reshape_progress_resync_laws.specs.history_the_Entry.{Entry}
use Rattle.reshape_progress_resync_laws.specs.history_the_Event.{Event}
use Rattle.reshape_progress_resync_laws.specs.history_the_Event_TheVariants.{Lost, SpareLost, Step}
use Rattle.reshape_progress_resync_laws.specs.history_the_LostCause_TheVariants.{Fault}
use Rattle.reshape_progress_resync_laws.specs.history_the_StepKind.{StepKind}
use Rattle.reshape_progress_resync_laws.specs.history_the_StepKind_TheVariants.{Entered as EntersWindow, Copied as CopiesStripe, Checkpointed as RecordsWindow, Zeroed as ZeroesStripe, WindowFinished as FinishesWindow, ResyncStripe}
use Rattle.reshape_progress_resync_laws.specs.history_Flat.{now}
use Rattle.reshape_progress_resync_laws.specs.history_Legal.{told_left, known_left, call_before, disturbs, left_after, is_free_step, IsStep}
use Rattle.reshape_progress_resync_laws.specs.history_Plain.{entries_of}
use Rattle.reshape_progress_resync_laws.specs.history_Sound.{OpensFit}
use Rattle.reshape_progress_resync_laws.specs.history_World.{World, opening_list}
use Rattle.reshape_progress_resync_laws.specs.crash_views_Views.{Disk, Ledger}
use Rattle.reshape_progress_resync_laws.specs.crash_views_Windows.{IsCopyable}
use Rattle.reshape_progress_resync_laws.specs.crash_safety_laws_Safety.{HasLiveSlot, HasRoomLeft, IsRisen}
use Rattle.reshape_progress_resync_laws.specs.crash_safety_laws_Steady.{IsSafeOver, KeepsSafe, AreGoneTold, IsUncleanTold}
use Rattle.reshape_progress_resync_laws.specs.array_members_Moving.{Grows, IsMoved}
use Rattle.reshape_progress_resync_laws.specs.array_members_Placed.{is_unassigned}
use Rattle.reshape_progress_resync_laws.specs.array_members_Lacking.{DoesWithout, IsOfStripe, AreOtherRowsKept}
use Rattle.reshape_progress_resync_laws.specs.sb_safe_updates_Unused.{IsUnusedKept}
use Rattle.reshape_progress_resync_laws.proofs.array_members_Fit.{list-alike, count-alike}
use Rattle.reshape_progress_resync_laws.proofs.array_members_HeldRows.{missing-before, vacant-missing}
use Rattle.history_invariant_laws.specs.history_append_Losing.{losses_of}
use Rattle.history_invariant_laws.proofs.history_append_CallLaws.{AreLossEvents, losses-are}
use Rattle.history_invariant_laws.proofs.history_append_LeftLaws.{left-behind, left-more, fold-left}
use Rattle.reshape_progress_resync_laws.specs.reshape_window_rows_Copies.{tail_of, IsCopied}
use Rattle.history_invariant_laws.specs.history_invariant_Recorded.{IsCallGoing, entry_of}
use Rattle.history_invariant_laws.specs.history_invariant_Safe.{world_in}
use Rattle.reshape_progress_resync_laws.proofs.reshape_window_steps_CopyLaws.{window-alike, critical-alike}
use Rattle.reshape_progress_resync_laws.specs.reshape_request_the_Window_TheVariants.{Entered}
use Rattle.reshape_progress_resync_laws.specs.reshape_progress_Course.{IsWindowOf, IsCourseOf, IsStoredAs, IsStored}
use Rattle.reshape_progress_resync_laws.specs.reshape_progress_Laws.{entered, next_stripe}
use Rattle.reshape_progress_resync_laws.proofs.reshape_progress_Courses.{courses-copied}
use Rattle.reshape_progress_resync_laws.proofs.Windows.{mended-copies-go-on}
use Rattle.array_reshaping_invariant.specs.Moving.{HasListInCourse, IsMoving}
use Rattle.array_reshaping_invariant.proofs.BackupKept.{stored-kept}
use Rattle.array_reshaping_invariant.proofs.MembersMove.{reshaping-moved}
use Rattle.array_reshaping_invariant.proofs.Pending.{resync-of, resync-moved, unmended-of, mended-later}
use Rattle.history_invariant_laws.proofs.Quiet.{IsQuiet}
use Rattle.array_reshaping_invariant.proofs.Quiet.{quiet-moves}
use Rattle.history_invariant_laws.proofs.history_invariant_Turned.{fills-on_course}

-- ---- a step

-- the steps between the begin of a reshape and its end, and those of a resync but for its last
abbrev pub IsStepBetween : StepKind → Type 0
IsStepBetween EntersWindow = ⊤
IsStepBetween CopiesStripe = ⊤
IsStepBetween RecordsWindow = ⊤
IsStepBetween ZeroesStripe = ⊤
IsStepBetween FinishesWindow = ⊤
IsStepBetween ResyncStripe = ⊤
IsStepBetween kind = ⊥

not-zero : (n : ℕ) → n ≢ 0 → (n == 0) ≡ false
not-zero n ne = grind (arith, nat_tests, ne)

pub quiet-step : (kind : StepKind) (left : ℕ) → IsStepBetween kind → left ≢ 0 → IsQuiet (Step kind left)
quiet-step EntersWindow left is some = record { adds = refl; gives = refl; ends = not-zero left some; still = λ x values. refl; level = λ n. refl; other = refl }
quiet-step CopiesStripe left is some = record { adds = refl; gives = refl; ends = not-zero left some; still = λ x values. refl; level = λ n. refl; other = refl }
quiet-step RecordsWindow left is some = record { adds = refl; gives = refl; ends = not-zero left some; still = λ x values. refl; level = λ n. refl; other = refl }
quiet-step ZeroesStripe left is some = record { adds = refl; gives = refl; ends = not-zero left some; still = λ x values. refl; level = λ n. refl; other = refl }
quiet-step FinishesWindow left is some = record { adds = refl; gives = refl; ends = not-zero left some; still = λ x values. refl; level = λ n. refl; other = refl }
quiet-step ResyncStripe left is some = record { adds = refl; gives = refl; ends = not-zero left some; still = λ x values. refl; level = λ n. refl; other = refl }
quiet-step kind left is some = absurd is

-- ---- the steps that are left

-- behind losses as many as before, or any
pub told-behind : (steps : ℕ) (entries : List Entry) (who : Who) (end : ℕ) (xs : List Event) → AreLossEvents xs → IfSome (told_left entries) (λ n. n ≡ steps) → IfSome (told_left (entries ++ entries_of who end xs)) (λ n. n ≡ steps)
told-behind steps entries who end xs are was =
    subst (λ (l : List Event). IfSome (told_left (entries ++ entries_of who end l)) (λ n. n ≡ steps)) (append-nil xs)
    (left-more steps entries who end (xs ++ []) was (left-behind steps who end xs [] are (λ left is. is)))

-- a step that is one less is legal
pub step-is : (world : World) (before : List Entry) (e : Entry) (kind : StepKind) (left : ℕ) → IfSome (told_left before) (λ n. n ≡ left + 1) → IsStep world before e [] kind left
step-is world before e kind left told = free (is_free_step world before kind) (known (list_any (λ e. disturbs e.event) (call_before before e ++ [])) (told_left before) told)
  where
    known : (b : Bool) (o : Option ℕ) → IfSome o (λ n. n ≡ left + 1) → IfSome (cond b None o) (λ n. left + 1 ≡ n)
    known true o is = tt
    known false None is = tt
    known false (Some n) is = sym is

    free : (b : Bool) → IfSome (known_left before e []) (λ n. left + 1 ≡ n) → MatchBool b ⊤ (IfSome (known_left before e []) (λ n. left + 1 ≡ n))
    free true is = tt
    free false is = is

-- what is left behind it is what it tells
pub told-step : (entries : List Entry) (who : Who) (end : ℕ) (xs : List Event) (kind : StepKind) (left : ℕ) → AreLossEvents xs
    → IfSome (told_left (entries ++ entries_of who end (xs ++ Step kind left ∷ []))) (λ n. n ≡ left)
told-step entries who end xs kind left are =
    subst (λ (o : Option ℕ). IfSome o (λ n. n ≡ left)) (sym (fold-left None entries (entries_of who end (xs ++ Step kind left ∷ [])) ∙ of xs are (told_left entries))) refl
  where
    of : (xs : List Event) → AreLossEvents xs → (start : Option ℕ) → fold (λ left e. left_after left e.event) start (entries_of who end (xs ++ Step kind left ∷ [])) ≡ Some left
    of [] are start = refl
    of (Lost role Fault ∷ xs) are start = of xs are None
    of (SpareLost slot ∷ xs) are start = of xs are None
    of (event ∷ xs) are start = absurd are

-- ---- members that only moved

-- what is missing then was missing, or is one of the roles that were lost
abbrev pub AreMissingSince : Members → Members → ℕ → Type 0
AreMissingSince old new roles = (role : ℕ) → role < role_count new.newest → is_missing (reading_of new) role ≡ true → (is_missing (reading_of old) role ≡ true) ⊎ (has_slot roles role ≡ true)

pub missing-moved : {given : Given} {old new : Members} (roles : ℕ) → IsMoved given old new → AreMissingSince old new roles
    → (role : ℕ) → role < role_count new.newest → is_missing (reading_of new) role ≡ true → ((role < role_count old.newest) × (is_missing (reading_of old) role ≡ true)) ⊎ (has_slot roles role ≡ true)
missing-moved {old = old} {new = new} roles moved since role lt gone = elim (since role lt gone) [
  | inl was ↦ inl (subst (λ (n : ℕ). role < n) (count-alike old.newest new.newest moved.reshape moved.shape moved.size) lt, was)
  | inr has ↦ inr has
]

-- so it is where those that no slot holds now had none before, or were lost
pub missing-since : {given : Given} {old new : Members} (roles : ℕ) → IsMoved given old new
    → ((role : ℕ) → role < role_count new.newest → is_unassigned (reading_of new) role ≡ true → (is_unassigned (reading_of old) role ≡ true) ⊎ (has_slot roles role ≡ true)) → AreMissingSince old new roles
missing-since {old = old} roles moved vacant role lt gone = elim (missing-before moved role gone) [
  | inl was ↦ inl was
  | inr none ↦ elim (vacant role lt none) [
    | inl was ↦ inl (vacant-missing (reading_of old) role was)
    | inr has ↦ inr has
  ]
]

-- ---- a stripe is copied

-- An entered window may be copied, by the headers that are kept of it.
pub able-kept : (scope : Scope) (given : Given) (m : Members) (span : Span) (copied : ℕ) (sectioned : Bool) (d : Disk) → IsWindowOf m.newest (Entered span copied sectioned)
    → IsStoredAs scope m (Entered span copied sectioned) d → IsCopyable scope m span d
able-kept scope given m span copied true d window stored = record { next = window.0; kept = inl stored }
able-kept scope given m span copied false d window stored = record { next = window.0; kept = inr (plain (is_critical (shape_of m.newest) (final_shape m.newest) m.newest.size (is_backward m.newest) span) refl) }
  where
    plain : (b : Bool) → is_critical (shape_of m.newest) (final_shape m.newest) m.newest.size (is_backward m.newest) span ≡ b → b ≡ false
    plain false is = refl
    plain true is = absurd (let must = window.2 is in cc)

pub plain-of : (newest : Sb) (span : Span) (copied : ℕ) (sectioned : Bool) → IsWindowOf newest (Entered span copied sectioned) → sectioned ≡ false
    → is_critical (shape_of newest) (final_shape newest) newest.size (is_backward newest) span ≡ false
plain-of newest span copied sectioned window none = by (is_critical (shape_of newest) (final_shape newest) newest.size (is_backward newest) span) refl
  where
    by : (b : Bool) → is_critical (shape_of newest) (final_shape newest) newest.size (is_backward newest) span ≡ b → b ≡ false
    by false is = refl
    by true is = absurd (let must = window.2 is in let both = sym must ∙ none in cc)

pub copied-moves : (tells : Type 0) (given : Given) (tape tape' : List Operation) (scope : Scope) (first : ℕ) (entries : List Entry) (old new : Members) (carried : ℕ → ℕ → Bool)
    (resync : Option ℕ) (span : Span) (copied : ℕ) (sectioned : Bool) (buffer : List ℕ) (left : ℕ) (who : Who) (end roles spares : ℕ)
    → IsMoving tells given tape scope first entries old carried resync (entered span copied sectioned) buffer (left + 1) → HasLiveSlot old → IsCallGoing entries who → IsFalse (who.caller == 254) → (tells → end ≡ length tape') → Grows tells tape tape'
    → copied < stripes (final_shape old.newest) span.lo span.hi → left ≢ 0 → IsMoved given old new → role_count new.newest ≤ 16 → AreMissingSince old new roles → is_clean new.newest ≡ is_clean old.newest
    → (tells → IsRisen ⊤ old new tape tape') → (tells → IsUnusedKept old (disk given.start tape) (disk given.start tape'))
    → (tells → AreOtherRowsKept (IsOfStripe (final_shape old.newest) (next_stripe old span copied)) (reading_of new) (present given tape) (present given tape'))
    → (tells → (list : ℕ → Sector) → IsCopied span buffer (tail_of old.newest) list → (row : ℕ) → IsOfStripe (final_shape old.newest) (next_stripe old span copied) row
    → RowStands (reading_of new) (present given tape') (final_shape old.newest) list row)
    → (tells → (world : World) → (told : Ledger) → HasRoomLeft old tape tape' → AreGoneTold told new → IsUncleanTold told old → IsCopyable world.scope old span (disk given.start tape)
    → IsSafeOver world given told old tape → KeepsSafe world given told new tape tape')
    → IsMoving tells given tape' scope first (entries ++ entries_of who end (losses_of roles spares ++ Step CopiesStripe left ∷ [])) new carried resync (entered span (copied + 1) sectioned) buffer left
copied-moves tells given tape tape' scope first entries old new carried resync span copied sectioned buffer left who end roles spares was live goes caller at_end grows more some moved few since clean rise unused others stands safe =
    quiet-moves tells given tape tape' scope first entries old new carried resync resync (entered span copied sectioned) (entered span (copied + 1) sectioned) buffer buffer (left + 1) left who end roles spares (Step CopiesStripe left)
    was live goes caller at_end grows (quiet-step CopiesStripe left tt some) (reshaping-moved scope given old new moved was.members_are) (resync-moved moved (λ some dirty. clean ∙ dirty) was.beside (resync-of was)) refl few (missing-moved roles moved since)
    (list-alike old.newest new.newest moved.reshape moved.shape moved.size) (ap (λ (s : Shape). s.level) moved.shape) clean course_is (λ t on. stored (was.stored t on) (unused t)) (told-step entries who end (losses_of roles spares) CopiesStripe left (losses-are roles spares))
    (λ t. record {
      rise = rise t;
      keeps = λ told fills more_told room gone unclean now. safe t (world_in given tape scope first) told room gone unclean
          (able-kept scope given old span copied sectioned (disk given.start tape) was.course_is.window (was.stored t (fills-on_course (world_in given tape scope first) entries fills)).section) now;
      listed = λ fills. on t (was.listed t fills);
      legal = λ fills gone level. step-is (world_in given tape' scope first) (entries ++ entries_of who end (losses_of roles spares)) (entry_of who end (Step CopiesStripe left)) CopiesStripe left
          (told-behind (left + 1) entries who end (losses_of roles spares) (losses-are roles spares) was.left_told);
    })
  where
    course_is : IsCourseOf new.newest (entered span (copied + 1) sectioned)
    course_is = record {
      window = (
        window-alike old.newest new.newest moved.reshape moved.shape moved.size ∙ was.course_is.window.0,
        subst (λ (s : Shape). copied + 1 ≤ stripes s span.lo span.hi) (sym moved.reshape.final) (omega (arith, more)),
        λ critical. was.course_is.window.2 (sym (critical-alike old.newest new.newest moved.reshape moved.shape moved.size span) ∙ critical),
      );
      through = λ some. absurd (omega (arith, some));
      few = omega arith;
    }

    stored : IsStored scope old (Entered span copied sectioned) buffer (disk given.start tape) → IsUnusedKept old (disk given.start tape) (disk given.start tape') → IsStored scope new (Entered span (copied + 1) sectioned) buffer (disk given.start tape')
    stored before kept = more_copied sectioned (stored-kept scope given old new (Entered span copied sectioned) buffer (disk given.start tape) (disk given.start tape') was.members_are moved kept before)
      where
        more_copied : (which : Bool) → IsStored scope new (Entered span copied which) buffer (disk given.start tape') → IsStored scope new (Entered span (copied + 1) which) buffer (disk given.start tape')
        more_copied true is = record { section = is.section; sectors = is.sectors; headers = is.headers }
        more_copied false is = record { section = is.section; sectors = is.sectors; headers = is.headers }

    on : tells → HasListInCourse (OpensFit (world_in given tape scope first)) old resync (entered span copied sectioned) buffer (present given tape) (now (opening_list (world_in given tape scope first)) entries)
        → HasListInCourse (OpensFit (world_in given tape scope first)) new resync (entered span (copied + 1) sectioned) buffer (present given tape') (now (opening_list (world_in given tape scope first)) entries)
    on t l = record {
      list = l.list;
      is = λ x lt. l.is x (subst (λ (n : ℕ). x < n) (list-alike old.newest new.newest moved.reshape moved.shape moved.size) lt);
      stands = (mended-copies-go-on (OpensFit (world_in given tape scope first)) (λ shape. DoesWithout shape new) given old new resync span copied sectioned buffer (present given tape) (present given tape') l.list was.members_are.placed moved
          (unmended-of resync was.beside) was.course_is.window.0 more (plain-of old.newest span copied sectioned was.course_is.window) (others t)
          (mended-later (OpensFit (world_in given tape scope first)) given old new resync (entered span copied sectioned) buffer (present given tape) l.list moved l.stands)).1
          (λ row at. stands t l.list (courses-copied ⊥ (λ shape. DoesWithout shape old) scope given old span copied sectioned buffer (present given tape) l.list was.members_are.backed was.course_is.window.0 l.stands.in_course) row at);
    }
