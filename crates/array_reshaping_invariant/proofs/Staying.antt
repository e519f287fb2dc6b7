-- A call that leaves the course of the reshape as it is: it reads, or it is refused.
use Rattle.std.proofs.Common.{◌≡◌, ◌⊎◌, inl, inr, ℕ, ◌<◌, ◌≤◌, ◌==◌, Bool, true, Option, List, [], ◌∷◌, ◌++◌, length, refl, sym, ◌∙◌, ap, subst}
use Rattle.std.specs.Prelude.{IsFalse, ⊤}
use Rattle.history_invariant_laws.specs.raid_types_Sectors.{Sector}
use Rattle.history_invariant_laws.specs.raid_types_Shapes.{tolerance, tolerance_of}
use Rattle.history_invariant_laws.specs.raid_types_the_Refusal.{Refusal}
use Rattle.history_invariant_laws.specs.raid_types_the_Refusal_TheVariants.{BackupFault}
use Rattle.history_invariant_laws.specs.raid_types_the_Who.{Who}
use Rattle.history_invariant_laws.specs.raid_types_the_Shape.{Shape}
use Rattle.reshape_progress_resync_laws.specs.bank_the_Operation.{Operation}
use Rattle.reshape_progress_resync_laws.specs.bank_Given.{Given}
use Rattle.reshape_progress_resync_laws.specs.bank_Tape.{disk}
use Rattle.reshape_progress_resync_laws.specs.sb_codec_the_Sb.{Sb}
use Rattle.reshape_progress_resync_laws.specs.reshape_geometry_Geometry.{stripes, zeroed_stripes}
use Rattle.reshape_progress_resync_laws.specs.sb_specs_the_Members.{Members}
use Rattle.reshape_progress_resync_laws.specs.sb_specs_Reading.{Scope, is_clean, shape_of, role_count}
use Rattle.reshape_progress_resync_laws.specs.stripe_row_Rows.{present}
use Rattle.reshape_progress_resync_laws.specs.history_the_Entry.{Entry}
use Rattle.reshape_progress_resync_laws.specs.history_the_Event.{Event}
use Rattle.reshape_progress_resync_laws.specs.history_the_Event_TheVariants.{Refused}
use Rattle.reshape_progress_resync_laws.specs.history_Legal.{level_at, IsRefusedRight, IsLegalEvent}
use Rattle.reshape_progress_resync_laws.specs.history_Plain.{entries_of}
use Rattle.reshape_progress_resync_laws.specs.history_Sound.{OpensFit}
use Rattle.reshape_progress_resync_laws.specs.crash_views_Views.{Ledger}
use Rattle.reshape_progress_resync_laws.specs.crash_safety_laws_Safety.{HasLiveSlot, HasRoomLeft, IsRisen}
use Rattle.reshape_progress_resync_laws.specs.crash_safety_laws_Steady.{IsMoreTold, IsSafeOver, KeepsSafe, AreGoneTold, IsUncleanTold}
use Rattle.reshape_progress_resync_laws.specs.array_members_Placed.{HaveSameReshape}
use Rattle.reshape_progress_resync_laws.specs.array_members_Moving.{Grows, IsMoved}
use Rattle.reshape_progress_resync_laws.specs.array_members_Lacking.{DoesWithout, AreTooMany}
use Rattle.reshape_progress_resync_laws.specs.sb_safe_updates_Unused.{IsUnusedKept}
use Rattle.reshape_progress_resync_laws.proofs.array_members_Fit.{list-alike}
use Rattle.history_invariant_laws.specs.history_append_Losing.{losses_of}
use Rattle.history_invariant_laws.proofs.history_append_CallLaws.{losses-are}
use Rattle.history_invariant_laws.proofs.history_append_LeftLaws.{TellLeft, left-behind, left-more}
use Rattle.reshape_progress_resync_laws.proofs.reshape_window_steps_CopyLaws.{window-alike, critical-alike}
use Rattle.reshape_progress_resync_laws.proofs.reshape_window_steps_ZeroLaws.{through-moved}
use Rattle.history_invariant_laws.specs.history_invariant_Recorded.{IsCallGoing, entry_of}
use Rattle.history_invariant_laws.specs.history_invariant_Safe.{world_in, IsFilledRight}
use Rattle.history_invariant_laws.specs.history_invariant_Told.{told_now}
use Rattle.reshape_progress_resync_laws.specs.reshape_progress_the_Course.{Course}
use Rattle.reshape_progress_resync_laws.specs.reshape_request_the_Window.{Window}
use Rattle.reshape_progress_resync_laws.specs.reshape_request_the_Window_TheVariants.{Closed, Entered, Unsure}
use Rattle.reshape_progress_resync_laws.specs.reshape_progress_Course.{IsWindowOf, IsCourseOf}
use Rattle.reshape_progress_resync_laws.specs.Mended.{StandsSynced}
use Rattle.history_invariant_laws.specs.Reliable.{IsReliable, AreToldGone}
use Rattle.array_reshaping_invariant.specs.Moving.{IsMoving}
use Rattle.array_reshaping_invariant.proofs.BackupKept.{stored-kept}
use Rattle.array_reshaping_invariant.proofs.MembersMove.{reshaping-moved}
use Rattle.array_reshaping_invariant.proofs.Pending.{resync-of, resync-moved, mended-later}
use Rattle.history_invariant_laws.proofs.Quiet.{IsQuiet}
use Rattle.array_reshaping_invariant.proofs.Quiet.{quiet-moves}
use Rattle.array_reshaping_invariant.proofs.Refusals.{quiet-refusal, refused-right}
use Rattle.array_reshaping_invariant.proofs.Steps.{AreMissingSince, missing-moved}

-- ---- the course on members that moved

window-moved : (old new : Sb) → HaveSameReshape old new → shape_of new ≡ shape_of old → new.size ≡ old.size → (window : Window) → IsWindowOf old window → IsWindowOf new window
window-moved old new reshape shape size Closed is = tt
window-moved old new reshape shape size (Entered span copied sectioned) is = (
  window-alike old new reshape shape size ∙ is.0,
  subst (λ (s : Shape). copied ≤ stripes s span.lo span.hi) (sym reshape.final) is.1,
  λ critical. is.2 (sym (critical-alike old new reshape shape size span) ∙ critical),
)
window-moved old new reshape shape size (Unsure span) is = window-alike old new reshape shape size ∙ is

pub course-moved : (given : Given) (old new : Members) (course : Course) → IsMoved given old new → IsCourseOf old.newest course → IsCourseOf new.newest course
course-moved given old new course moved was = record {
  window = window-moved old.newest new.newest moved.reshape moved.shape moved.size course.window was.window;
  through = λ some. through-moved given old new moved (was.through some);
  few = subst (λ (n : ℕ). course.zeroed ≤ n) (sym (λ i. zeroed_stripes (moved.shape i) (moved.reshape.final i) (moved.size i) (moved.reshape.backward i))) was.few;
}

-- ---- a call that leaves it

pub stays-moves : (tells : Type 0) (given : Given) (tape tape' : List Operation) (scope : Scope) (first : ℕ) (entries : List Entry) (old new : Members) (carried : ℕ → ℕ → Bool)
    (resync : Option ℕ) (course : Course) (buffer : List ℕ) (left : ℕ) (who : Who) (end roles spares : ℕ) (event : Event)
    → IsMoving tells given tape scope first entries old carried resync course buffer left → HasLiveSlot old → IsCallGoing entries who → IsFalse (who.caller == 254) → (tells → end ≡ length tape') → Grows tells tape tape'
    → IsQuiet event → TellLeft left who end (event ∷ []) → IsMoved given old new → role_count new.newest ≤ 16 → AreMissingSince old new roles → is_clean new.newest ≡ is_clean old.newest
    → (tells → IsRisen ⊤ old new tape tape') → (tells → IsUnusedKept old (disk given.start tape) (disk given.start tape'))
    → (tells → (sound : Type 0) (among : Shape → Type 0) (list : ℕ → Sector) → StandsSynced sound among resync old course buffer (present given tape) list → StandsSynced sound among resync new course buffer (present given tape') list)
    → (tells → (told : Ledger) → IsFilledRight (world_in given tape scope first) entries → IsMoreTold (told_now (world_in given tape scope first) carried true entries) told
    → HasRoomLeft old tape tape' → AreGoneTold told new → IsUncleanTold told old → IsSafeOver (world_in given tape scope first) given told old tape → KeepsSafe (world_in given tape scope first) given told new tape tape')
    → (tells → IsReliable (world_in given tape scope first) entries
    → AreToldGone (world_in given tape' scope first) (entries ++ entries_of who end (losses_of roles spares)) new
    → level_at (world_in given tape' scope first) (entries ++ entries_of who end (losses_of roles spares)) ≡ level_at (world_in given tape scope first) entries
    → IsLegalEvent (world_in given tape' scope first) (entries ++ entries_of who end (losses_of roles spares)) (entry_of who end event) [] event)
    → IsMoving tells given tape' scope first (entries ++ entries_of who end (losses_of roles spares ++ event ∷ [])) new carried resync course buffer left
stays-moves tells given tape tape' scope first entries old new carried resync course buffer left who end roles spares event was live goes caller at_end grows quiet tell moved few since clean rise unused stands keeps legal =
    quiet-moves tells given tape tape' scope first entries old new carried resync resync course course buffer buffer left left who end roles spares event
    was live goes caller at_end grows quiet (reshaping-moved scope given old new moved was.members_are) (resync-moved moved (λ some dirty. clean ∙ dirty) was.beside (resync-of was)) refl few (missing-moved roles moved since)
    (list-alike old.newest new.newest moved.reshape moved.shape moved.size) (ap (λ (s : Shape). s.level) moved.shape) clean (course-moved given old new course moved was.course_is)
    (λ t on. stored-kept scope given old new course.window buffer (disk given.start tape) (disk given.start tape') was.members_are moved (unused t) (was.stored t on))
    (left-more left entries who end (losses_of roles spares ++ event ∷ []) was.left_told (left-behind left who end (losses_of roles spares) (event ∷ []) (losses-are roles spares) tell))
    (λ t. record {
      rise = rise t;
      keeps = keeps t;
      listed = λ fills.
          let l = was.listed t fills in
          record {
            list = l.list;
            is = λ x lt. l.is x (subst (λ (n : ℕ). x < n) (list-alike old.newest new.newest moved.reshape moved.shape moved.size) lt);
            stands = stands t (OpensFit (world_in given tape scope first)) (λ shape. DoesWithout shape new) l.list
                (mended-later (OpensFit (world_in given tape scope first)) given old new resync course buffer (present given tape) l.list moved l.stands);
          };
      legal = legal t;
    })

-- ---- a call that is refused

pub refused-moves : (tells : Type 0) (given : Given) (tape tape' : List Operation) (scope : Scope) (first : ℕ) (entries : List Entry) (old new : Members) (carried : ℕ → ℕ → Bool)
    (resync : Option ℕ) (course : Course) (buffer : List ℕ) (left : ℕ) (who : Who) (end roles spares : ℕ) (refusal : Refusal)
    → IsMoving tells given tape scope first entries old carried resync course buffer left → HasLiveSlot old → IsCallGoing entries who → IsFalse (who.caller == 254) → (tells → end ≡ length tape') → Grows tells tape tape'
    → IsMoved given old new → role_count new.newest ≤ 16 → AreMissingSince old new roles → is_clean new.newest ≡ is_clean old.newest → (refusal ≡ BackupFault) ⊎ AreTooMany new refusal
    → (tells → IsRisen ⊤ old new tape tape') → (tells → IsUnusedKept old (disk given.start tape) (disk given.start tape'))
    → (tells → (sound : Type 0) (among : Shape → Type 0) (list : ℕ → Sector) → StandsSynced sound among resync old course buffer (present given tape) list → StandsSynced sound among resync new course buffer (present given tape') list)
    → (tells → (told : Ledger) → IsFilledRight (world_in given tape scope first) entries → IsMoreTold (told_now (world_in given tape scope first) carried true entries) told
    → HasRoomLeft old tape tape' → AreGoneTold told new → IsUncleanTold told old → IsSafeOver (world_in given tape scope first) given told old tape → KeepsSafe (world_in given tape scope first) given told new tape tape')
    → IsMoving tells given tape' scope first (entries ++ entries_of who end (losses_of roles spares ++ Refused refusal ∷ [])) new carried resync course buffer left
refused-moves tells given tape tape' scope first entries old new carried resync course buffer left who end roles spares refusal was live goes caller at_end grows moved few since clean why rise unused stands keeps =
    stays-moves tells given tape tape' scope first entries old new carried resync course buffer left who end roles spares (Refused refusal) was live goes caller at_end grows (quiet-refusal refusal) (λ told is. is) moved few since clean rise unused stands keeps
    (λ t fills gone level. right t fills gone level why)
  where
    right : tells → IsReliable (world_in given tape scope first) entries → AreToldGone (world_in given tape' scope first) (entries ++ entries_of who end (losses_of roles spares)) new
        → level_at (world_in given tape' scope first) (entries ++ entries_of who end (losses_of roles spares)) ≡ level_at (world_in given tape scope first) entries
        → (refusal ≡ BackupFault) ⊎ AreTooMany new refusal
        → IsLegalEvent (world_in given tape' scope first) (entries ++ entries_of who end (losses_of roles spares)) (entry_of who end (Refused refusal)) [] (Refused refusal)
    right t fills gone level (inl is) = subst (λ (r : Refusal). IsRefusedRight (world_in given tape' scope first) (entries ++ entries_of who end (losses_of roles spares)) r) (sym is) tt
    right t fills gone level (inr many) = refused-right (world_in given tape' scope first) (entries ++ entries_of who end (losses_of roles spares)) given new moved.placed gone
        (ap tolerance_of level ∙ was.levelled t fills ∙ ap tolerance (sym moved.shape)) refusal many
