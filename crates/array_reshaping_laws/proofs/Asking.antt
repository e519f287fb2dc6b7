-- What an array in a reshape tells of itself, and what it keeps after that, and after its end.
use Rattle.std.proofs.Common.{◌≡◌, ◌≢◌, ℕ, ◌++◌, Bool, Option, List, [], ◌∷◌, length, refl, sym, ◌∙◌, arith}
use Rattle.array_fixed_laws.specs.raid_types_the_Who.{Who}
use Rattle.array_fixed_laws.specs.raid_types_the_Status.{Status}
use Rattle.reshape_window_backup.specs.bank_the_Operation.{Operation}
use Rattle.reshape_window_backup.specs.bank_Given.{Given}
use Rattle.array_reshaping_resync_laws.specs.sb_specs_the_Members.{Members}
use Rattle.array_reshaping_resync_laws.specs.sb_specs_Reading.{Scope}
use Rattle.array_reshaping_resync_laws.proofs.stripe_row_Lacks.{unequal}
use Rattle.array_reshaping_resync_laws.specs.history_the_Entry.{Entry}
use Rattle.array_reshaping_resync_laws.specs.history_the_Epoch.{Epoch}
use Rattle.array_reshaping_resync_laws.specs.history_the_Event_TheVariants.{Shown, Halted}
use Rattle.array_reshaping_resync_laws.specs.history_Epochs.{world_of}
use Rattle.array_reshaping_resync_laws.specs.history_Flat.{next_number}
use Rattle.array_reshaping_resync_laws.specs.history_Plain.{entries_of}
use Rattle.array_reshaping_resync_laws.proofs.history_SoundLaws.{stays-throughout}
use Rattle.array_reshaping_resync_laws.proofs.history_laws_NumberLaws.{safe-throughout}
use Rattle.array_reshaping_resync_laws.proofs.history_append_LeftLaws.{keeps-left}
use Rattle.array_fixed_laws.specs.array_call_specs_Kept.{scope_in}
use Rattle.array_reshaping_resync_laws.specs.history_invariant_Recorded.{entry_of}
use Rattle.array_reshaping_resync_laws.proofs.history_invariant_Records.{begins-going}
use Rattle.array_fixed_laws.specs.history_invariant_laws_Reliable.{IsReliable}
use Rattle.array_fixed_laws.proofs.history_invariant_laws_Quiet.{IsQuiet}
use Rattle.array_reshaping_resync_laws.specs.reshape_progress_the_Course.{Course}
use Rattle.array_reshaping_resync_laws.specs.array_reshaping_invariant_Moving.{IsMoving}
use Rattle.array_reshaping_resync_laws.proofs.array_reshaping_invariant_Resting.{resting-moves}
use Rattle.array_fixed_laws.specs.array_specs_Parts.{RunningParts}
use Rattle.array_fixed_laws.specs.array_specs_Calls.{IsStatusFor, IsEpochKept}

-- two statuses that tell the same array are the same
pub status-same : {B : Type 0} (array : RunningParts B) (one other : Status) → IsStatusFor array one → IsStatusFor array other → one ≡ other
status-same array one other a b i = record {
  shape = (a.shape ∙ sym b.shape) i;
  target = (a.target ∙ sym b.target) i;
  position = (a.position ∙ sym b.position) i;
  size = (a.size ∙ sym b.size) i;
  length = (a.length ∙ sym b.length) i;
  visible = (a.visible ∙ sym b.visible) i;
  clean = (a.clean ∙ sym b.clean) i;
  events = (a.events ∙ sym b.events) i;
  left = (a.left ∙ sym b.left) i;
  roles = (a.roles ∙ sym b.roles) i;
  spares = (a.spares ∙ sym b.spares) i;
}

shown-quiet : (status : Status) → IsQuiet (Shown status)
shown-quiet status = record { adds = refl; gives = refl; ends = refl; still = λ x values. refl; level = λ n. refl; other = refl }

halted-quiet : IsQuiet Halted
halted-quiet = record { adds = refl; gives = refl; ends = refl; still = λ x values. refl; level = λ n. refl; other = refl }

-- what an array keeps behind a call that makes no device call
module _ {tells : Type 0} {given : Given} {tape : List Operation} {scope : Scope} {first : ℕ} {entries : List Entry} {members : Members} {carried : ℕ → ℕ → Bool} {resync : Option ℕ} {course : Course} {buffer : List ℕ} {left : ℕ}
    (who : Who) (end : ℕ) (was : IsMoving tells given tape scope first entries members carried resync course buffer left)
    (number : who.number ≡ next_number who.caller entries) (caller : who.caller ≢ 254) (at_end : tells → end ≡ length tape) where
  pub shown-moves : (status : Status) → status.left ≡ left → IsMoving tells given tape scope first (entries ++ entries_of who end (Shown status ∷ [])) members carried resync course buffer left
  shown-moves status steps = resting-moves tells given tape scope first entries members carried resync course buffer left who end (Shown status) was (begins-going entries who number) (unequal who.caller 254 caller) at_end
      (shown-quiet status) (λ told is. steps) (λ t right. keeps-left left entries (entry_of who end (Shown status)) [] status.left was.left_told steps)

  pub halted-moves : IsMoving tells given tape scope first (entries ++ entries_of who end (Halted ∷ [])) members carried resync course buffer left
  halted-moves = resting-moves tells given tape scope first entries members carried resync course buffer left who end Halted was (begins-going entries who number) (unequal who.caller 254 caller) at_end
      halted-quiet (λ told is. is) (λ t right. tt)

-- the epoch that is handed out
pub epoch-kept : {tells : Type 0} {members : Members} {carried : ℕ → ℕ → Bool} {resync : Option ℕ} {course : Course} {buffer : List ℕ} {left : ℕ} (given : Given) (tape : List Operation) (backup : Option ℕ) (epoch : Epoch)
    → IsMoving tells given tape (scope_in given epoch.uuid epoch.given backup) epoch.first epoch.entries.items members carried resync course buffer left → tells → epoch.last ≡ length tape
    → IsReliable (world_of given tape backup epoch) epoch.entries.items → IsEpochKept given tape backup epoch
epoch-kept given tape backup epoch was t last right =
    let recorded = was.recorded t in
    let world = world_of given tape backup epoch in
    let safe = was.safe t right.fills right.room in
    record {
      begins = omega (arith, recorded.begun, last);
      ends = omega (arith, last);
      legal = recorded.legal right;
      safe = safe-throughout world epoch.entries.items epoch.last (omega (arith, last)) safe.past;
      sound = stays-throughout world epoch.entries.items epoch.last (omega (arith, last)) (safe.sound tt);
      reshaped = recorded.reshaped right;
    }
