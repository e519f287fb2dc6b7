-- A call that makes no device call, and enters one event, whether a live slot is left or not.
use Rattle.std.proofs.Common.{◌≡◌, ℕ, ◌==◌, Bool, true, Option, List, [], ◌∷◌, ◌++◌, length, refl, sym, ◌∙◌, ap, subst}
use Rattle.std.specs.Prelude.{IsFalse}
use Rattle.history_invariant_laws.specs.raid_types_Shapes.{tolerance_of}
use Rattle.history_invariant_laws.specs.raid_types_the_Who.{Who}
use Rattle.reshape_progress_resync_laws.specs.bank_the_Operation.{Operation}
use Rattle.reshape_progress_resync_laws.specs.bank_Given.{Given}
use Rattle.reshape_progress_resync_laws.specs.sb_specs_the_Members.{Members}
use Rattle.reshape_progress_resync_laws.specs.sb_specs_Reading.{Scope, list_length}
use Rattle.reshape_progress_resync_laws.proofs.sb_specs_ValidFields.{few-roles}
use Rattle.reshape_progress_resync_laws.specs.history_the_Entry.{Entry}
use Rattle.reshape_progress_resync_laws.specs.history_the_Event.{Event}
use Rattle.reshape_progress_resync_laws.specs.history_Flat.{now}
use Rattle.reshape_progress_resync_laws.specs.history_Legal.{IsLegalEvent}
use Rattle.reshape_progress_resync_laws.specs.history_Plain.{entries_of}
use Rattle.reshape_progress_resync_laws.specs.history_World.{opening_list}
use Rattle.history_invariant_laws.proofs.history_append_LeftLaws.{TellLeft, left-more}
use Rattle.history_invariant_laws.specs.history_invariant_Recorded.{IsCallGoing, entry_of}
use Rattle.history_invariant_laws.specs.history_invariant_Safe.{world_in}
use Rattle.history_invariant_laws.proofs.history_invariant_Entered.{adds_only}
use Rattle.reshape_progress_resync_laws.specs.reshape_progress_the_Course.{Course}
use Rattle.history_invariant_laws.specs.Reliable.{IsReliable}
use Rattle.array_reshaping_invariant.specs.Moving.{IsMoving}
use Rattle.history_invariant_laws.proofs.Behind.{early-none, and-true}
use Rattle.history_invariant_laws.proofs.Quiet.{IsQuiet, IsLeftBehind, last-left, resting-leaves, quiet-now}
use Rattle.array_reshaping_invariant.proofs.Pending.{pending-on}
use Rattle.array_reshaping_invariant.proofs.Quiet.{listed-later}

pub resting-moves : (tells : Type 0) (given : Given) (tape : List Operation) (scope : Scope) (first : ℕ) (entries : List Entry) (m : Members) (carried : ℕ → ℕ → Bool)
    (resync : Option ℕ) (course : Course) (buffer : List ℕ) (left : ℕ) (who : Who) (end : ℕ) (event : Event)
    → IsMoving tells given tape scope first entries m carried resync course buffer left → IsCallGoing entries who → IsFalse (who.caller == 254) → (tells → end ≡ length tape)
    → IsQuiet event → TellLeft left who end (event ∷ [])
    → (tells → IsReliable (world_in given tape scope first) entries → IsLegalEvent (world_in given tape scope first) entries (entry_of who end event) [] event)
    → IsMoving tells given tape scope first (entries ++ entries_of who end (event ∷ [])) m carried resync course buffer left
resting-moves tells given tape scope first entries m carried resync course buffer left who end event was goes caller at_end quiet tell legal = record {
  slots = was.slots;
  members_are = was.members_are;
  course_is = was.course_is;
  sizes_are = was.sizes_are;
  left_told = left-more left entries who end (event ∷ []) was.left_told tell;
  progress = was.progress;
  beside = was.beside;
  pending = λ t. pending-on (entries_of who end (event ∷ [])) (leaves t) (and-true (adds_only event) true quiet.adds refl) ∙ was.pending t;
  dirty = was.dirty;
  levelled = λ t right. ap tolerance_of (leaves t).levelled ∙ was.levelled t ((leaves t).right right);
  gone = λ t. (leaves t).gone;
  unclean = λ t. (leaves t).unclean;
  recorded = λ t. (leaves t).recorded;
  last_step = λ t. last-left given tape tape scope first entries (list_length m.newest) m carried true who end [] event (leaves t) (at_end t) quiet.other refl (was.last_step t).past;
  stored = was.stored;
  listed = λ t. listed-later given tape scope first entries (entries ++ entries_of who end (event ∷ [])) m carried resync course buffer tape (now (opening_list (world_in given tape scope first)) entries) (leaves t)
      (quiet-now (opening_list (world_in given tape scope first)) entries who end [] (λ role. ⊥) event early-none quiet) (was.listed t);
  safe = λ t. (leaves t).safe;
}
  where
    Then : ℕ → Type 0
    Then e = (IsReliable (world_in given tape scope first) entries → IsLegalEvent (world_in given tape scope first) entries (entry_of who e event) [] event)
        → IsLeftBehind given tape scope first entries (entries ++ entries_of who e (event ∷ [])) m carried true tape

    leaves : tells → IsLeftBehind given tape scope first entries (entries ++ entries_of who end (event ∷ [])) m carried true tape
    leaves t = subst Then (sym (at_end t))
        (λ right. resting-leaves given tape scope first entries m carried true who event goes caller quiet (few-roles m.newest was.members_are.placed.fit.valid) was.sizes_are (was.gone t) (was.unclean t) (was.recorded t) (was.safe t) right)
        (legal t)
