-- A call that meets the open window finishes it first: what is left is copied, and the position behind it is recorded; or it is refused, and the window stays open.
use Rattle.std.proofs.Common.{◌≡◌, ◌≢◌, inr, ℕ, ◌<◌, ◌≤◌, ◌==◌, Bool, true, Option, List, [], ◌∷◌, ◌++◌, length, refl, sym, ◌∙◌, ap, subst, arith}
use Rattle.std.specs.Prelude.{IsFalse, ⊤}
use Rattle.history_invariant_laws.specs.raid_types_Sectors.{Sector}
use Rattle.history_invariant_laws.specs.raid_types_the_Refusal.{Refusal}
use Rattle.history_invariant_laws.specs.raid_types_the_Who.{Who}
use Rattle.history_invariant_laws.specs.raid_types_the_Shape.{Shape}
use Rattle.history_invariant_laws.specs.raid_types_the_Span.{Span}
use Rattle.reshape_progress_resync_laws.specs.bank_the_Operation.{Operation}
use Rattle.reshape_progress_resync_laws.specs.bank_Given.{Given}
use Rattle.reshape_progress_resync_laws.specs.bank_Tape.{IsIn, disk}
use Rattle.reshape_progress_resync_laws.specs.reshape_geometry_Geometry.{stripes}
use Rattle.reshape_progress_resync_laws.specs.sb_specs_the_Members.{Members}
use Rattle.reshape_progress_resync_laws.specs.sb_specs_Reading.{Scope, is_clean, final_shape, list_length, role_count}
use Rattle.reshape_progress_resync_laws.specs.stripe_row_Rows.{reading_of, present}
use Rattle.reshape_progress_resync_laws.specs.history_the_Entry.{Entry}
use Rattle.reshape_progress_resync_laws.specs.history_the_Event_TheVariants.{Refused, Step}
use Rattle.reshape_progress_resync_laws.specs.history_the_StepKind_TheVariants.{WindowFinished as FinishesWindow}
use Rattle.reshape_progress_resync_laws.specs.history_Flat.{now, length_of, values_of}
use Rattle.reshape_progress_resync_laws.specs.history_Plain.{entries_of}
use Rattle.reshape_progress_resync_laws.specs.history_Sound.{OpensFit}
use Rattle.reshape_progress_resync_laws.specs.history_World.{World, opening_list}
use Rattle.reshape_progress_resync_laws.specs.crash_views_Regions.{DoWithout}
use Rattle.reshape_progress_resync_laws.specs.crash_views_Views.{AreHeadersFit, Ledger}
use Rattle.reshape_progress_resync_laws.specs.crash_views_Windows.{HasNoSection, moved_past}
use Rattle.reshape_progress_resync_laws.specs.crash_safety_laws_Safety.{HasRoomLeft, IsRisen}
use Rattle.reshape_progress_resync_laws.specs.crash_safety_laws_Steady.{IsMoreTold, IsSafeOver, KeepsSafe, AreGoneTold, IsUncleanTold}
use Rattle.reshape_progress_resync_laws.specs.sb_safe_updates_Unused.{IsUnusedKept}
use Rattle.reshape_progress_resync_laws.specs.array_members_Moving.{Grows, IsMoved}
use Rattle.reshape_progress_resync_laws.specs.array_members_Lacking.{DoesWithout, AreTooMany, AreOtherRowsKept}
use Rattle.reshape_progress_resync_laws.proofs.array_members_Fit.{list-alike}
use Rattle.reshape_progress_resync_laws.proofs.array_members_LiveLeft.{without-left}
use Rattle.reshape_progress_resync_laws.specs.reshape_window_rows_Copies.{tail_of, IsCopied}
use Rattle.reshape_window_io.specs.Finishing.{IsOfRest, AreStripesCopied, IsOpenWindow}
use Rattle.history_invariant_laws.specs.history_append_Losing.{losses_of}
use Rattle.history_invariant_laws.proofs.history_append_CallLaws.{losses-are}
use Rattle.history_invariant_laws.specs.history_invariant_Recorded.{IsCallGoing}
use Rattle.history_invariant_laws.specs.history_invariant_Safe.{world_in, IsFilledRight}
use Rattle.history_invariant_laws.specs.history_invariant_Told.{told_now}
use Rattle.history_invariant_laws.proofs.history_invariant_Lists.{newest-in}
use Rattle.reshape_progress_resync_laws.specs.reshape_progress_Course.{AnyShape}
use Rattle.reshape_progress_resync_laws.specs.reshape_progress_Laws.{closed, entered}
use Rattle.reshape_progress_resync_laws.proofs.reshape_progress_Courses.{courses-copied, list-beside, rows-beside}
use Rattle.reshape_progress_resync_laws.specs.Mended.{StandsSynced}
use Rattle.reshape_progress_resync_laws.proofs.Windows.{mended-rests-go-on, mended-finishes-close}
use Rattle.array_reshaping_invariant.specs.Moving.{HasListInCourse, IsMoving}
use Rattle.array_reshaping_invariant.proofs.MembersMove.{reshaping-past}
use Rattle.array_reshaping_invariant.proofs.Pending.{resync-of, resync-unmended, unmended-of, clean-none, none-stands, mended-whole, mended-without}
use Rattle.array_reshaping_invariant.proofs.Quiet.{quiet-moves}
use Rattle.array_reshaping_invariant.proofs.Staying.{refused-moves}
use Rattle.array_reshaping_invariant.proofs.Steps.{AreMissingSince, quiet-step, missing-moved, told-step, able-kept, plain-of}
use Rattle.history_invariant_laws.proofs.history_invariant_Turned.{fills-on_course}

-- ---- the open window

-- What is kept of it is what the call asks, by whatever tells more than the history does.
pub window-open : (tells : Type 0) (given : Given) (tape : List Operation) (scope : Scope) (first : ℕ) (entries : List Entry) (old : Members) (carried : ℕ → ℕ → Bool)
    (resync : Option ℕ) (span : Span) (copied : ℕ) (sectioned : Bool) (buffer : List ℕ) (left : ℕ) → IsMoving tells given tape scope first entries old carried resync (entered span copied sectioned) buffer left → tells
    → IsFilledRight (world_in given tape scope first) entries → DoWithout old → (told : Ledger) → IsMoreTold (told_now (world_in given tape scope first) carried true entries) told
    → (l : HasListInCourse (OpensFit (world_in given tape scope first)) old resync (entered span copied sectioned) buffer (present given tape) (now (opening_list (world_in given tape scope first)) entries))
    → IsOpenWindow (OpensFit (world_in given tape scope first)) scope told old span buffer copied l.list (present given tape) (disk given.start tape)
window-open tells given tape scope first entries old carried resync span copied sectioned buffer left was t fills enough told more l = record {
  able = able-kept scope given old span copied sectioned (disk given.start tape) was.course_is.window (was.stored t (fills-on_course (world_in given tape scope first) entries fills)).section;
  written = λ row at. l.stands.in_course.copied enough.final row at;
  buffered = courses-copied ⊥ (λ shape. DoesWithout shape old) scope given old span copied sectioned buffer (present given tape) l.list was.members_are.backed was.course_is.window.0 l.stands.in_course;
  allowed = λ x lt. more.values x (within x lt) (l.list x) (subst (λ (v : Sector). IsIn (values_of (opening_list (world_in given tape scope first)) entries x) v) (sym (l.is x lt))
      (newest-in (opening_list (world_in given tape scope first)) entries x (within x lt)));
  stands = list-beside ⊥ old span copied sectioned buffer (present given tape) l.list whole.in_course;
  rows_are = λ is few so. rows-beside (OpensFit (world_in given tape scope first)) old span copied sectioned buffer (present given tape) l.list
      (none-stands (OpensFit (world_in given tape scope first)) AnyShape resync old (entered span copied sectioned) buffer (present given tape) l.list (clean-none old resync (entered span copied sectioned) (resync-of was) few is) whole) so;
  headers = (was.stored t (fills-on_course (world_in given tape scope first) entries fills)).headers;
  zeros = λ so x tail. l.stands.in_course.zeros tail.forth x tail.past;
}
  where
    whole : StandsSynced (OpensFit (world_in given tape scope first)) AnyShape resync old (entered span copied sectioned) buffer (present given tape) l.list
    whole = mended-whole (OpensFit (world_in given tape scope first)) resync old (entered span copied sectioned) buffer (present given tape) l.list enough l.stands

    within : (x : ℕ) → x < list_length old.newest → x < length_of (length (opening_list (world_in given tape scope first))) entries
    within x lt = let size = (was.recorded t).sized in omega (arith, lt, size)

-- ---- the call

-- What it leaves, whether it is done or refused: of the rows those of the stripes left to copy are written and no others, and it is safe from an open window. No
-- more roles are missing before it than the shapes in force tolerate: that is judged first.
pub record IsRestWritten (tells : Type 0) (given : Given) (tape tape' : List Operation) (old new : Members) (span : Span) (copied : ℕ) (buffer : List ℕ) (roles : ℕ) : Type 0 where
  pub few : role_count new.newest ≤ 16
  pub since : AreMissingSince old new roles
  pub enough : DoWithout old
  pub clean : is_clean new.newest ≡ is_clean old.newest
  pub rise : tells → IsRisen ⊤ old new tape tape'
  pub unused : tells → IsUnusedKept old (disk given.start tape) (disk given.start tape')
  pub others : tells → AreOtherRowsKept (IsOfRest (final_shape old.newest) span copied) (reading_of new) (present given tape) (present given tape')
  pub safe : tells → (world : World) → (told : Ledger) → HasRoomLeft old tape tape' → AreGoneTold told new → IsUncleanTold told old → (list : ℕ → Sector)
      → IsOpenWindow (OpensFit world) world.scope told old span buffer copied list (present given tape) (disk given.start tape)
      → IsSafeOver world given told old tape → KeepsSafe world given told new tape tape'

module _ (tells : Type 0) (given : Given) (tape tape' : List Operation) (scope : Scope) (first : ℕ) (entries : List Entry) (old new : Members) (carried : ℕ → ℕ → Bool)
    (resync : Option ℕ) (span : Span) (copied : ℕ) (sectioned : Bool) (buffer : List ℕ) (who : Who) (end roles spares : ℕ)
    (goes : IsCallGoing entries who) (caller : IsFalse (who.caller == 254)) (at_end : tells → end ≡ length tape') (grows : Grows tells tape tape')
    (did : IsRestWritten tells given tape tape' old new span copied buffer roles) where
  -- The window is finished, and none is open: so many steps are left as it tells.
  pub finished-moves : (former left : ℕ) → IsMoving tells given tape scope first entries old carried resync (entered span copied sectioned) buffer former → left ≢ 0 → IsMoved given (moved_past span old) new
      → (tells → (list : ℕ → Sector) → IsCopied span buffer (tail_of old.newest) list → AreStripesCopied (final_shape old.newest) span copied old (present given tape) list
      → AreStripesCopied (final_shape old.newest) span (stripes (final_shape old.newest) span.lo span.hi) new (present given tape') list)
      → (tells → AreHeadersFit scope old (disk given.start tape) → HasNoSection scope new (disk given.start tape') × AreHeadersFit scope new (disk given.start tape'))
      → IsMoving tells given tape' scope first (entries ++ entries_of who end (losses_of roles spares ++ Step FinishesWindow left ∷ [])) new carried resync (closed 0) buffer left
  finished-moves former left was some moved stands plain =
      quiet-moves tells given tape tape' scope first entries old new carried resync resync (entered span copied sectioned) (closed 0) buffer buffer former left who end roles spares (Step FinishesWindow left)
      was (without-left given old was.members_are.placed was.members_are.unlost did.enough) goes caller at_end grows (quiet-step FinishesWindow left tt some) (reshaping-past scope given old new span was.course_is.window.0 moved was.members_are)
      (resync-unmended new resync (closed 0) (unmended-of resync was.beside) (λ any some. did.clean ∙ was.dirty did.enough some)) refl did.few (missing-moved roles moved did.since)
      (list-alike (moved_past span old).newest new.newest moved.reshape moved.shape moved.size) (ap (λ (s : Shape). s.level) moved.shape) did.clean
      (record { window = tt; through = λ some. absurd (omega (arith, some)); few = omega arith })
      (λ t on. let now = plain t (was.stored t on).headers in record { section = now.0; sectors = tt; headers = now.1 })
      (told-step entries who end (losses_of roles spares) FinishesWindow left (losses-are roles spares))
      (λ t. record {
        rise = did.rise t;
        keeps = λ told fills more room gone unclean here.
            let l = was.listed t fills in
            did.safe t (world_in given tape scope first) told room gone unclean l.list (window-open tells given tape scope first entries old carried resync span copied sectioned buffer former was t fills did.enough told more l) here;
        listed = λ fills. on t (was.listed t fills);
        legal = λ fills gone level. tt;
      })
    where
      on : tells → HasListInCourse (OpensFit (world_in given tape scope first)) old resync (entered span copied sectioned) buffer (present given tape) (now (opening_list (world_in given tape scope first)) entries)
          → HasListInCourse (OpensFit (world_in given tape scope first)) new resync (closed 0) buffer (present given tape') (now (opening_list (world_in given tape scope first)) entries)
      on t l = record {
        list = l.list;
        is = λ x lt. l.is x (subst (λ (n : ℕ). x < n) (list-alike (moved_past span old).newest new.newest moved.reshape moved.shape moved.size) lt);
        stands = mended-without (OpensFit (world_in given tape scope first)) resync new (closed 0) buffer (present given tape') l.list
            (mended-finishes-close (OpensFit (world_in given tape scope first)) given old new resync span copied sectioned buffer (present given tape) (present given tape') l.list was.members_are.placed (unmended-of resync was.beside) moved
            was.course_is.window.0 (plain-of old.newest span copied sectioned was.course_is.window) (did.others t)
            (stands t l.list (courses-copied ⊥ (λ shape. DoesWithout shape old) scope given old span copied sectioned buffer (present given tape) l.list was.members_are.backed was.course_is.window.0 l.stands.in_course)
            (λ row at. l.stands.in_course.copied did.enough.final row at))
            (mended-whole (OpensFit (world_in given tape scope first)) resync old (entered span copied sectioned) buffer (present given tape) l.list did.enough l.stands));
      }

  -- It is refused: the window is open as before, and what was copied of it in the call is copied again.
  pub unfinished-moves : (left : ℕ) (refusal : Refusal) → IsMoving tells given tape scope first entries old carried resync (entered span copied sectioned) buffer left → IsMoved given old new → AreTooMany new refusal
      → IsMoving tells given tape' scope first (entries ++ entries_of who end (losses_of roles spares ++ Refused refusal ∷ [])) new carried resync (entered span copied sectioned) buffer left
  unfinished-moves left refusal was moved many =
      refused-moves tells given tape tape' scope first entries old new carried resync (entered span copied sectioned) buffer left who end roles spares refusal was (without-left given old was.members_are.placed was.members_are.unlost did.enough) goes caller at_end grows moved did.few did.since did.clean (inr many) did.rise did.unused
      (λ t sound among list stands. (mended-rests-go-on sound among given old new resync span copied sectioned buffer (present given tape) (present given tape') list was.members_are.placed moved (unmended-of resync was.beside) was.course_is.window.0
      (plain-of old.newest span copied sectioned was.course_is.window) (did.others t) stands).0)
      (λ t told fills more room gone unclean here.
      let l = was.listed t fills in
      did.safe t (world_in given tape scope first) told room gone unclean l.list (window-open tells given tape scope first entries old carried resync span copied sectioned buffer left was t fills did.enough told more l) here)
