-- A role that is failed by command in an array in a reshape.
use Rattle.std.proofs.Common.{◌≡◌, ◌⊎◌, inl, inr, ℕ, ◌<◌, ◌≤◌, ◌==◌, Bool, true, Option, None, List, [], ◌∷◌, ◌++◌, length, refl, ◌∙◌, ap, subst}
use Rattle.std.specs.Prelude.{IsFalse, ⊤}
use Rattle.history_invariant_laws.specs.raid_types_the_Who.{Who}
use Rattle.history_invariant_laws.specs.raid_types_the_Shape.{Shape}
use Rattle.reshape_progress_resync_laws.specs.bank_the_Operation.{Operation}
use Rattle.reshape_progress_resync_laws.specs.bank_Given.{Given}
use Rattle.reshape_progress_resync_laws.specs.bank_Tape.{disk}
use Rattle.reshape_progress_resync_laws.specs.sb_specs_the_Members.{Members}
use Rattle.reshape_progress_resync_laws.specs.sb_specs_Reading.{Scope, is_clean, list_length, role_count}
use Rattle.reshape_progress_resync_laws.specs.stripe_row_Rows.{reading_of, present, is_missing}
use Rattle.reshape_progress_resync_laws.specs.history_the_Entry.{Entry}
use Rattle.reshape_progress_resync_laws.specs.history_the_Event_TheVariants.{Lost, Failed}
use Rattle.reshape_progress_resync_laws.specs.history_the_LostCause_TheVariants.{Command}
use Rattle.reshape_progress_resync_laws.specs.history_Plain.{entries_of}
use Rattle.reshape_progress_resync_laws.specs.history_Sound.{OpensFit}
use Rattle.reshape_progress_resync_laws.specs.history_World.{World}
use Rattle.reshape_progress_resync_laws.specs.crash_views_Views.{Ledger}
use Rattle.reshape_progress_resync_laws.specs.crash_safety_laws_Marking.{AreOthersPresent}
use Rattle.reshape_progress_resync_laws.specs.crash_safety_laws_Safety.{HasLiveSlot, HasRoomLeft, IsRisen}
use Rattle.reshape_progress_resync_laws.specs.crash_safety_laws_Steady.{IsSafeOver, KeepsSafe, AreGoneTold, IsUncleanTold}
use Rattle.reshape_progress_resync_laws.specs.array_members_Moving.{Grows, IsMoved}
use Rattle.reshape_progress_resync_laws.specs.array_members_Lacking.{DoesWithout}
use Rattle.reshape_progress_resync_laws.specs.sb_safe_updates_Unused.{IsUnusedKept}
use Rattle.reshape_progress_resync_laws.proofs.array_members_Fit.{list-alike, count-alike}
use Rattle.history_invariant_laws.specs.history_append_Losing.{losses_of}
use Rattle.history_invariant_laws.proofs.history_append_CallLaws.{losses-are}
use Rattle.history_invariant_laws.proofs.history_append_LeftLaws.{left-behind, left-more}
use Rattle.history_invariant_laws.specs.history_invariant_Recorded.{IsCallGoing}
use Rattle.history_invariant_laws.specs.history_invariant_Safe.{world_in}
use Rattle.reshape_progress_resync_laws.specs.reshape_progress_the_Course.{Course}
use Rattle.reshape_progress_resync_laws.proofs.Mended.{mended-courses-move}
use Rattle.array_reshaping_invariant.specs.Moving.{IsMoving}
use Rattle.history_invariant_laws.proofs.Behind.{AreLostOrMissing}
use Rattle.history_invariant_laws.proofs.Failed.{IsFailedOrAmong, early-failed, legal-failed}
use Rattle.array_reshaping_invariant.proofs.BackupKept.{stored-kept}
use Rattle.array_reshaping_invariant.proofs.MembersMove.{reshaping-moved}
use Rattle.array_reshaping_invariant.proofs.Pending.{resync-of, resync-moved, mended-later}
use Rattle.array_reshaping_invariant.proofs.Quiet.{early-moves}
use Rattle.array_reshaping_invariant.proofs.Staying.{course-moved}

-- What the call leaves: its slot is taken out, and what is missing is named.
pub record IsTakenOut (tells : Type 0) (given : Given) (tape tape' : List Operation) (old new : Members) (role roles : ℕ) : Type 0 where
  pub moved : IsMoved given old new
  pub few : role_count new.newest ≤ 16
  pub since : (other : ℕ) → other < role_count new.newest → is_missing (reading_of new) other ≡ true → (is_missing (reading_of old) other ≡ true) ⊎ IsFailedOrAmong role roles other
  pub clean : is_clean new.newest ≡ is_clean old.newest
  pub rise : tells → IsRisen ⊤ old new tape tape'
  pub others : tells → AreOthersPresent (present given tape) (present given tape')
  pub unused : tells → IsUnusedKept old (disk given.start tape) (disk given.start tape')
  pub safe : tells → (world : World) → (told : Ledger) → HasRoomLeft old tape tape' → AreGoneTold told new → IsUncleanTold told old → IsSafeOver world given told old tape → KeepsSafe world given told new tape tape'

pub failed-moves : (tells : Type 0) (given : Given) (tape tape' : List Operation) (scope : Scope) (first : ℕ) (entries : List Entry) (old new : Members) (carried : ℕ → ℕ → Bool)
    (resync : Option ℕ) (course : Course) (buffer : List ℕ) (left : ℕ) (who : Who) (end role roles spares : ℕ)
    → IsMoving tells given tape scope first entries old carried resync course buffer left → HasLiveSlot old → IsCallGoing entries who → IsFalse (who.caller == 254) → (tells → end ≡ length tape') → Grows tells tape tape'
    → IsTakenOut tells given tape tape' old new role roles
    → IsMoving tells given tape' scope first (entries ++ entries_of who end ((Lost role Command ∷ losses_of roles spares) ++ Failed role ∷ [])) new carried resync course buffer left
failed-moves tells given tape tape' scope first entries old new carried resync course buffer left who end role roles spares was live goes caller at_end grows did =
    early-moves tells given tape tape' scope first entries old new carried resync resync course course buffer buffer left left who end (Lost role Command ∷ losses_of roles spares) (IsFailedOrAmong role roles) (Failed role)
    was live goes caller at_end grows (record { adds = refl; gives = refl; ends = refl; still = λ x values. refl; level = λ n. refl; other = refl })
    (reshaping-moved scope given old new did.moved was.members_are) (resync-moved did.moved (λ some dirty. did.clean ∙ dirty) was.beside (resync-of was)) refl did.few (early-failed role roles spares) missing list-same (ap (λ (s : Shape). s.level) did.moved.shape) did.clean
    (course-moved given old new course did.moved was.course_is)
    (λ t on. stored-kept scope given old new course.window buffer (disk given.start tape) (disk given.start tape') was.members_are did.moved (did.unused t) (was.stored t on))
    (left-more left entries who end ((Lost role Command ∷ losses_of roles spares) ++ Failed role ∷ []) was.left_told
    (λ told is. left-behind left who end (losses_of roles spares) (Failed role ∷ []) (losses-are roles spares) (λ told is. is) None tt))
    (λ t. record {
      rise = did.rise t;
      keeps = λ told fills more room gone unclean before. did.safe t (world_in given tape scope first) told room gone unclean before;
      listed = λ fills.
          let l = was.listed t fills in
          record {
            list = l.list;
            is = λ x lt. l.is x (subst (λ (n : ℕ). x < n) list-same lt);
            stands = mended-courses-move (OpensFit (world_in given tape scope first)) (λ shape. DoesWithout shape new) given old new resync course buffer (present given tape) (present given tape') l.list was.members_are.placed did.moved (did.others t)
                (mended-later (OpensFit (world_in given tape scope first)) given old new resync course buffer (present given tape) l.list did.moved l.stands);
          };
      legal = λ fills gone level. legal-failed (world_in given tape' scope first) entries who end role roles spares;
    })
  where
    list-same : list_length new.newest ≡ list_length old.newest
    list-same = list-alike old.newest new.newest did.moved.reshape did.moved.shape did.moved.size

    missing : AreLostOrMissing old new (IsFailedOrAmong role roles)
    missing other lt gone = elim (did.since other lt gone) [
      | inl was_gone ↦ inl (subst (λ (n : ℕ). other < n) (count-alike old.newest new.newest did.moved.reshape did.moved.shape did.moved.size) lt, was_gone)
      | inr told ↦ inr told
    ]
