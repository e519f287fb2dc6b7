-- More steps of a reshape under way: a stripe behind the list is zeroed, a window is recorded; and steps that are refused.
use Rattle.std.proofs.Common.{◌≡◌, ◌≢◌, inl, ℕ, ◌+◌, ◌<◌, ◌≤◌, ◌==◌, Bool, true, Option, None, List, [], ◌∷◌, ◌++◌, length, refl, sym, ◌∙◌, ap, subst, arith}
use Rattle.std.specs.Prelude.{IsFalse, ⊤}
use Rattle.history_invariant_laws.specs.raid_types_Sectors.{Sector, zero_sector}
use Rattle.history_invariant_laws.specs.raid_types_the_Who.{Who}
use Rattle.history_invariant_laws.specs.raid_types_the_Shape.{Shape}
use Rattle.history_invariant_laws.specs.raid_types_the_Span.{Span}
use Rattle.reshape_progress_resync_laws.specs.bank_the_Operation.{Operation}
use Rattle.reshape_progress_resync_laws.specs.bank_Given.{Given}
use Rattle.reshape_progress_resync_laws.specs.bank_Tape.{IsIn, disk}
use Rattle.reshape_progress_resync_laws.specs.reshape_geometry_Geometry.{stripes, zeroed_stripes}
use Rattle.reshape_progress_resync_laws.specs.sb_specs_the_Members.{Members}
use Rattle.reshape_progress_resync_laws.specs.sb_specs_Reading.{Scope, is_clean, is_backward, shape_of, final_shape, list_length, role_count}
use Rattle.reshape_progress_resync_laws.specs.stripe_row_Rows.{reading_of, present}
use Rattle.reshape_progress_resync_laws.specs.stripe_list_Full.{RowStands}
use Rattle.reshape_progress_resync_laws.specs.history_the_Entry.{Entry}
use Rattle.reshape_progress_resync_laws.specs.history_the_Event_TheVariants.{Step}
use Rattle.reshape_progress_resync_laws.specs.history_the_StepKind_TheVariants.{Checkpointed as RecordsWindow, Zeroed as ZeroesStripe}
use Rattle.reshape_progress_resync_laws.specs.history_Flat.{now, length_of, values_of}
use Rattle.reshape_progress_resync_laws.specs.history_Plain.{entries_of}
use Rattle.reshape_progress_resync_laws.specs.history_Sound.{OpensFit}
use Rattle.reshape_progress_resync_laws.specs.history_World.{World, opening_list}
use Rattle.reshape_progress_resync_laws.specs.crash_views_Regions.{DoWithout}
use Rattle.reshape_progress_resync_laws.specs.crash_views_Views.{AreHeadersFit, Ledger}
use Rattle.reshape_progress_resync_laws.specs.crash_views_Windows.{HasNoSection, moved_past}
use Rattle.reshape_progress_resync_laws.specs.crash_safety_laws_Marking.{AreOthersPresent}
use Rattle.reshape_progress_resync_laws.specs.crash_safety_laws_Safety.{HasLiveSlot, HasRoomLeft, IsRisen}
use Rattle.reshape_progress_resync_laws.specs.crash_safety_laws_Steady.{IsMoreTold, IsSafeOver, KeepsSafe, AreGoneTold, IsUncleanTold}
use Rattle.reshape_progress_resync_laws.specs.array_members_Moving.{Grows, IsMoved}
use Rattle.reshape_progress_resync_laws.specs.array_members_Lacking.{DoesWithout, IsOfStripe, AreOtherRowsKept}
use Rattle.reshape_progress_resync_laws.proofs.array_members_Fit.{list-alike}
use Rattle.reshape_progress_resync_laws.proofs.array_members_LiveLeft.{without-left}
use Rattle.history_invariant_laws.specs.history_append_Losing.{losses_of}
use Rattle.history_invariant_laws.proofs.history_append_CallLaws.{losses-are}
use Rattle.reshape_progress_resync_laws.specs.reshape_window_rows_Copies.{tail_of, IsZeroIn}
use Rattle.reshape_progress_resync_laws.specs.sb_safe_updates_Unused.{IsUnusedKept}
use Rattle.reshape_progress_resync_laws.specs.reshape_window_steps_Recording.{IsCopiedWindow}
use Rattle.reshape_progress_resync_laws.specs.reshape_window_steps_Zeroing.{IsThrough}
use Rattle.reshape_progress_resync_laws.proofs.reshape_window_steps_ZeroLaws.{through-moved}
use Rattle.history_invariant_laws.specs.history_invariant_Recorded.{IsCallGoing, entry_of}
use Rattle.history_invariant_laws.specs.history_invariant_Safe.{world_in, IsFilledRight}
use Rattle.history_invariant_laws.specs.history_invariant_Told.{told_now}
use Rattle.history_invariant_laws.proofs.history_invariant_Lists.{newest-in}
use Rattle.reshape_progress_resync_laws.specs.reshape_request_the_Window_TheVariants.{Closed}
use Rattle.reshape_progress_resync_laws.specs.reshape_progress_Course.{AnyShape, IsCourseOf, past_stripe}
use Rattle.reshape_progress_resync_laws.specs.reshape_progress_Laws.{closed, entered, IsWindowCopied}
use Rattle.reshape_progress_resync_laws.proofs.reshape_progress_Courses.{zeroes-go-on, windows-copied}
use Rattle.reshape_progress_resync_laws.specs.Mended.{StandsSynced}
use Rattle.reshape_progress_resync_laws.proofs.Windows.{mended-records-close}
use Rattle.array_reshaping_invariant.specs.Moving.{HasListInCourse, IsMoving}
use Rattle.array_reshaping_invariant.proofs.BackupKept.{stored-kept}
use Rattle.array_reshaping_invariant.proofs.MembersMove.{reshaping-moved, reshaping-past}
use Rattle.array_reshaping_invariant.proofs.Pending.{resync-of, resync-moved, resync-unmended, unmended-of, clean-none, none-on, none-stands, mended-later, mended-whole, mended-without}
use Rattle.array_reshaping_invariant.proofs.Quiet.{quiet-moves}
use Rattle.array_reshaping_invariant.proofs.Steps.{AreMissingSince, quiet-step, missing-moved, step-is, told-behind, told-step}
use Rattle.history_invariant_laws.proofs.history_invariant_Turned.{fills-on_course}

-- ---- a stripe behind the list is zeroed

pub zeroed-moves : (tells : Type 0) (given : Given) (tape tape' : List Operation) (scope : Scope) (first : ℕ) (entries : List Entry) (old new : Members) (carried : ℕ → ℕ → Bool)
    (resync : Option ℕ) (zeroed : ℕ) (buffer : List ℕ) (left : ℕ) (who : Who) (end roles spares : ℕ)
    → IsMoving tells given tape scope first entries old carried resync (closed zeroed) buffer (left + 1) → resync ≡ None → HasLiveSlot old → IsCallGoing entries who → IsFalse (who.caller == 254) → (tells → end ≡ length tape') → Grows tells tape tape'
    → IsThrough old.newest → zeroed < zeroed_stripes (shape_of old.newest) (final_shape old.newest) old.newest.size (is_backward old.newest) → left ≢ 0
    → IsMoved given old new → role_count new.newest ≤ 16 → AreMissingSince old new roles → is_clean new.newest ≡ is_clean old.newest
    → (tells → IsRisen ⊤ old new tape tape') → (tells → IsUnusedKept old (disk given.start tape) (disk given.start tape'))
    → (tells → AreOtherRowsKept (IsOfStripe (final_shape old.newest) (past_stripe old.newest + zeroed)) (reading_of new) (present given tape) (present given tape'))
    → (tells → (list : ℕ → Sector) → IsZeroIn (tail_of old.newest) list → (row : ℕ) → IsOfStripe (final_shape old.newest) (past_stripe old.newest + zeroed) row
    → RowStands (reading_of new) (present given tape') (final_shape old.newest) list row)
    → (tells → (world : World) → (told : Ledger) → HasRoomLeft old tape tape' → AreGoneTold told new → IsUncleanTold told old
    → IsSafeOver world given told old tape → KeepsSafe world given told new tape tape')
    → IsMoving tells given tape' scope first (entries ++ entries_of who end (losses_of roles spares ++ Step ZeroesStripe left ∷ [])) new carried resync (closed (zeroed + 1)) buffer left
zeroed-moves tells given tape tape' scope first entries old new carried resync zeroed buffer left who end roles spares was none live goes caller at_end grows through more some moved few since clean rise unused others stands safe =
    quiet-moves tells given tape tape' scope first entries old new carried resync resync (closed zeroed) (closed (zeroed + 1)) buffer buffer (left + 1) left who end roles spares (Step ZeroesStripe left)
    was live goes caller at_end grows (quiet-step ZeroesStripe left tt some) (reshaping-moved scope given old new moved was.members_are) (resync-moved moved (λ some dirty. clean ∙ dirty) (inl tt) (resync-of was)) refl few (missing-moved roles moved since)
    (list-alike old.newest new.newest moved.reshape moved.shape moved.size) (ap (λ (s : Shape). s.level) moved.shape) clean course_is
    (λ t on. stored-kept scope given old new Closed buffer (disk given.start tape) (disk given.start tape') was.members_are moved (unused t) (was.stored t on))
    (told-step entries who end (losses_of roles spares) ZeroesStripe left (losses-are roles spares))
    (λ t. record {
      rise = rise t;
      keeps = λ told fills more_told room gone unclean here. safe t (world_in given tape scope first) told room gone unclean here;
      listed = λ fills. on t (was.listed t fills);
      legal = λ fills gone level. step-is (world_in given tape' scope first) (entries ++ entries_of who end (losses_of roles spares)) (entry_of who end (Step ZeroesStripe left)) ZeroesStripe left
          (told-behind (left + 1) entries who end (losses_of roles spares) (losses-are roles spares) was.left_told);
    })
  where
    course_is : IsCourseOf new.newest (closed (zeroed + 1))
    course_is = record {
      window = tt;
      through = λ some. through-moved given old new moved through;
      few = subst (λ (n : ℕ). zeroed + 1 ≤ n) (sym (λ i. zeroed_stripes (moved.shape i) (moved.reshape.final i) (moved.size i) (moved.reshape.backward i))) (omega (arith, more));
    }

    on : tells → HasListInCourse (OpensFit (world_in given tape scope first)) old resync (closed zeroed) buffer (present given tape) (now (opening_list (world_in given tape scope first)) entries)
        → HasListInCourse (OpensFit (world_in given tape scope first)) new resync (closed (zeroed + 1)) buffer (present given tape') (now (opening_list (world_in given tape scope first)) entries)
    on t l = record {
      list = l.list;
      is = λ x lt. l.is x (subst (λ (n : ℕ). x < n) (list-alike old.newest new.newest moved.reshape moved.shape moved.size) lt);
      stands = none-on (OpensFit (world_in given tape scope first)) (λ shape. DoesWithout shape new) resync old new (closed zeroed) (closed (zeroed + 1)) buffer buffer (present given tape) (present given tape') l.list none
          (λ before. (zeroes-go-on (OpensFit (world_in given tape scope first)) (λ shape. DoesWithout shape new) given old new zeroed buffer (present given tape) (present given tape') l.list was.members_are.placed moved through (others t) before).1
          (λ row at. stands t (λ x. zero_sector) (λ x at. refl) row at))
          (mended-later (OpensFit (world_in given tape scope first)) given old new resync (closed zeroed) buffer (present given tape) l.list moved l.stands);
    }

-- ---- a window is recorded

pub recorded-moves : (tells : Type 0) (given : Given) (tape tape' : List Operation) (scope : Scope) (first : ℕ) (entries : List Entry) (old new : Members) (carried : ℕ → ℕ → Bool)
    (resync : Option ℕ) (span : Span) (sectioned : Bool) (buffer : List ℕ) (left : ℕ) (who : Who) (end roles spares : ℕ)
    → IsMoving tells given tape scope first entries old carried resync (entered span (stripes (final_shape old.newest) span.lo span.hi) sectioned) buffer (left + 1)
    → IsCallGoing entries who → IsFalse (who.caller == 254) → (tells → end ≡ length tape') → Grows tells tape tape' → left ≢ 0
    → IsMoved given (moved_past span old) new → role_count new.newest ≤ 16 → AreMissingSince old new roles → DoWithout old → is_clean new.newest ≡ is_clean old.newest
    → (tells → IsRisen ⊤ old new tape tape') → (tells → AreOthersPresent (present given tape) (present given tape'))
    → (tells → AreHeadersFit scope old (disk given.start tape) → HasNoSection scope new (disk given.start tape') × AreHeadersFit scope new (disk given.start tape'))
    → (tells → (world : World) → (told : Ledger) → HasRoomLeft old tape tape' → AreGoneTold told new → IsUncleanTold told old → (list : ℕ → Sector)
    → IsCopiedWindow (OpensFit world) world.scope told old span list (present given tape) (disk given.start tape)
    → IsSafeOver world given told old tape → KeepsSafe world given told new tape tape')
    → IsMoving tells given tape' scope first (entries ++ entries_of who end (losses_of roles spares ++ Step RecordsWindow left ∷ [])) new carried resync (closed 0) buffer left
recorded-moves tells given tape tape' scope first entries old new carried resync span sectioned buffer left who end roles spares was goes caller at_end grows some moved few since does clean rise others plain safe =
    quiet-moves tells given tape tape' scope first entries old new carried resync resync (entered span (stripes (final_shape old.newest) span.lo span.hi) sectioned) (closed 0) buffer buffer (left + 1) left who end roles spares (Step RecordsWindow left)
    was (without-left given old was.members_are.placed was.members_are.unlost does) goes caller at_end grows (quiet-step RecordsWindow left tt some) (reshaping-past scope given old new span was.course_is.window.0 moved was.members_are)
    (resync-unmended new resync (closed 0) (unmended-of resync was.beside) (λ any some. clean ∙ was.dirty does some)) refl few (missing-moved roles moved since)
    (list-alike (moved_past span old).newest new.newest moved.reshape moved.shape moved.size) (ap (λ (s : Shape). s.level) moved.shape) clean
    (record { window = tt; through = λ some. absurd (omega (arith, some)); few = omega arith })
    (λ t on. let now = plain t (was.stored t on).headers in record { section = now.0; sectors = tt; headers = now.1 })
    (told-step entries who end (losses_of roles spares) RecordsWindow left (losses-are roles spares))
    (λ t. record {
      rise = rise t;
      keeps = λ told fills more_told room gone unclean here.
          let l = was.listed t fills in
          safe t (world_in given tape scope first) told room gone unclean l.list (copied t fills told more_told l) here;
      listed = λ fills. on t (was.listed t fills);
      legal = λ fills gone level. step-is (world_in given tape' scope first) (entries ++ entries_of who end (losses_of roles spares)) (entry_of who end (Step RecordsWindow left)) RecordsWindow left
          (told-behind (left + 1) entries who end (losses_of roles spares) (losses-are roles spares) was.left_told);
    })
  where
    all : ℕ
    all = stripes (final_shape old.newest) span.lo span.hi

    copied : (t : tells) → IsFilledRight (world_in given tape scope first) entries → (told : Ledger) → IsMoreTold (told_now (world_in given tape scope first) carried true entries) told
        → (l : HasListInCourse (OpensFit (world_in given tape scope first)) old resync (entered span (stripes (final_shape old.newest) span.lo span.hi) sectioned) buffer (present given tape) (now (opening_list (world_in given tape scope first)) entries))
        → IsCopiedWindow (OpensFit (world_in given tape scope first)) scope told old span l.list (present given tape) (disk given.start tape)
    copied t fills told more l = record {
      allowed = λ x lt. more.values x (within x lt) (l.list x) (subst (λ (v : Sector). IsIn (values_of (opening_list (world_in given tape scope first)) entries x) v) (sym (l.is x lt))
          (newest-in (opening_list (world_in given tape scope first)) entries x (within x lt)));
      window = done.window;
      stands = done.stands;
      rows_are = λ is enough so. (windows-copied (OpensFit (world_in given tape scope first)) old span sectioned buffer (present given tape) l.list
          (none-stands (OpensFit (world_in given tape scope first)) AnyShape resync old (entered span (stripes (final_shape old.newest) span.lo span.hi) sectioned) buffer (present given tape) l.list
          (clean-none old resync (entered span (stripes (final_shape old.newest) span.lo span.hi) sectioned) (resync-of was) enough is) whole)).rows_are so;
      headers = (was.stored t (fills-on_course (world_in given tape scope first) entries fills)).headers;
      zeros = λ so x tail. l.stands.in_course.zeros tail.forth x tail.past;
    }
      where
        whole : StandsSynced (OpensFit (world_in given tape scope first)) AnyShape resync old (entered span (stripes (final_shape old.newest) span.lo span.hi) sectioned) buffer (present given tape) l.list
        whole = mended-whole (OpensFit (world_in given tape scope first)) resync old (entered span (stripes (final_shape old.newest) span.lo span.hi) sectioned) buffer (present given tape) l.list does l.stands

        done : IsWindowCopied ⊥ old span (present given tape) l.list
        done = windows-copied ⊥ old span sectioned buffer (present given tape) l.list whole.in_course

        within : (x : ℕ) → x < list_length old.newest → x < length_of (length (opening_list (world_in given tape scope first))) entries
        within x lt = let size = (was.recorded t).sized in omega (arith, lt, size)

    on : tells → HasListInCourse (OpensFit (world_in given tape scope first)) old resync (entered span (stripes (final_shape old.newest) span.lo span.hi) sectioned) buffer (present given tape) (now (opening_list (world_in given tape scope first)) entries)
        → HasListInCourse (OpensFit (world_in given tape scope first)) new resync (closed 0) buffer (present given tape') (now (opening_list (world_in given tape scope first)) entries)
    on t l = record {
      list = l.list;
      is = λ x lt. l.is x (subst (λ (n : ℕ). x < n) (list-alike (moved_past span old).newest new.newest moved.reshape moved.shape moved.size) lt);
      stands = mended-without (OpensFit (world_in given tape scope first)) resync new (closed 0) buffer (present given tape') l.list
          (mended-records-close (OpensFit (world_in given tape scope first)) scope given old new resync span sectioned buffer (present given tape) (present given tape') l.list was.members_are.backed was.members_are.placed
          (unmended-of resync was.beside) was.course_is.window.0 moved (others t)
          (mended-whole (OpensFit (world_in given tape scope first)) resync old (entered span (stripes (final_shape old.newest) span.lo span.hi) sectioned) buffer (present given tape) l.list does l.stands));
    }
