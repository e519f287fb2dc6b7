-- What an array without an active reshape tells of itself, and what it keeps after that, and after its end.
use Rattle.std.proofs.Common.{◌≡◌, ◌≢◌, inl, ℕ, ◌++◌, Option, List, [], ◌∷◌, length, refl, sym, ◌∙◌, arith}
use Rattle.array_specs.specs.raid_types_the_Refusal.{Refusal}
use Rattle.array_fixed_invariant.specs.raid_types_the_Who.{Who}
use Rattle.array_specs.specs.raid_types_the_Status.{Status}
use Rattle.array_fixed_invariant.specs.bank_the_Operation.{Operation}
use Rattle.array_fixed_invariant.specs.bank_Given.{Given}
use Rattle.array_fixed_invariant.specs.sb_specs_the_Members.{Members}
use Rattle.array_fixed_invariant.specs.sb_specs_Reading.{Scope}
use Rattle.array_fixed_invariant.specs.history_the_Entry.{Entry}
use Rattle.array_fixed_invariant.specs.history_the_Epoch.{Epoch}
use Rattle.array_fixed_invariant.specs.history_the_Event_TheVariants.{Shown, Halted, Refused}
use Rattle.array_fixed_invariant.specs.history_Epochs.{world_of}
use Rattle.array_fixed_invariant.specs.history_Flat.{next_number}
use Rattle.array_fixed_invariant.specs.history_Legal.{IsRefusedRight}
use Rattle.array_fixed_invariant.specs.history_Plain.{entries_of}
use Rattle.array_fixed_invariant.proofs.history_SoundLaws.{stays-throughout}
use Rattle.array_fixed_invariant.proofs.history_laws_NumberLaws.{safe-throughout}
use Rattle.array_fixed_invariant.specs.array_members_the_Work.{Work}
use Rattle.array_fixed_invariant.specs.array_members_Lacking.{AreTooMany}
use Rattle.array_fixed_invariant.proofs.history_append_LeftLaws.{left-more, keeps-left}
use Rattle.array_fixed_invariant.specs.array_call_specs_Kept.{scope_in}
use Rattle.array_fixed_invariant.specs.history_invariant_Recorded.{entry_of}
use Rattle.array_fixed_invariant.specs.history_invariant_Safe.{world_in}
use Rattle.array_fixed_invariant.proofs.history_invariant_Records.{begins-going}
use Rattle.array_fixed_invariant.specs.history_invariant_laws_Reliable.{IsReliable}
use Rattle.array_fixed_invariant.specs.Still.{IsStill}
use Rattle.array_fixed_invariant.proofs.Refusals.{too-many-refused, refused-right}
use Rattle.array_fixed_invariant.proofs.Resting.{resting-stands}
use Rattle.array_specs.specs.Parts.{RunningParts}
use Rattle.array_specs.specs.Calls.{IsEpochKept}
use Rattle.array_specs.specs.Still.{IsStillStatus}
use Rattle.array_specs.proofs.Called.{not_254}

-- two statuses that tell the same array are the same
pub status-same : {B : Type 0} (array : RunningParts B) (one other : Status) → IsStillStatus array one → IsStillStatus array other → one ≡ other
status-same array one other a b i = record {
  shape = (a.shape ∙ sym b.shape) i;
  target = (a.target ∙ sym b.target) i;
  position = (a.position ∙ sym b.position) i;
  size = (a.size ∙ sym b.size) i;
  length = (a.length ∙ sym b.length) i;
  visible = (a.visible ∙ sym b.visible) i;
  clean = (a.clean ∙ sym b.clean) i;
  events = (a.events ∙ sym b.events) i;
  left = (a.left ∙ sym b.left) i;
  roles = (a.roles ∙ sym b.roles) i;
  spares = (a.spares ∙ sym b.spares) i;
}

-- what an array keeps behind a call that makes no device call
module _ {tells : Type 0} {given : Given} {tape : List Operation} {scope : Scope} {first : ℕ} {entries : List Entry} {members : Members} {work : Work} {left : ℕ}
    (who : Who) (end : ℕ) (was : IsStill tells given tape scope first entries members work left)
    (number : who.number ≡ next_number who.caller entries) (caller : who.caller ≢ 254) (at_end : tells → end ≡ length tape) where
  pub shown-stands : (status : Status) → status.left ≡ left → IsStill tells given tape scope first (entries ++ entries_of who end (Shown status ∷ [])) members work left
  shown-stands status steps = resting-stands tells given tape scope first entries members work left left who end (Shown status) was (begins-going entries who number) (not_254 who.caller caller) at_end
      (record { adds = refl; gives = refl; still = λ x values. refl; level = λ n. refl }) (inl refl) (left-more left entries who end (Shown status ∷ []) was.left_told (λ told is. steps))
      (λ t right. keeps-left left entries (entry_of who end (Shown status)) [] status.left was.left_told steps)

  pub halted-stands : IsStill tells given tape scope first (entries ++ entries_of who end (Halted ∷ [])) members work left
  halted-stands = resting-stands tells given tape scope first entries members work left left who end Halted was (begins-going entries who number) (not_254 who.caller caller) at_end
      (record { adds = refl; gives = refl; still = λ x values. refl; level = λ n. refl }) (inl refl) (left-more left entries who end (Halted ∷ []) was.left_told (λ told is. is)) (λ t right. tt)

  -- and behind one that is refused before it makes any
  pub refused-alone : (refusal : Refusal) → (tells → IsReliable (world_in given tape scope first) entries → IsRefusedRight (world_in given tape scope first) entries refusal)
      → IsStill tells given tape scope first (entries ++ entries_of who end (Refused refusal ∷ [])) members work left
  refused-alone refusal right = resting-stands tells given tape scope first entries members work left left who end (Refused refusal) was (begins-going entries who number) (not_254 who.caller caller) at_end
      (record { adds = refl; gives = refl; still = λ x values. refl; level = λ n. refl }) (inl refl) (left-more left entries who end (Refused refusal ∷ []) was.left_told (λ told is. is)) right

  -- since too many are missing
  pub many-alone : (refusal : Refusal) → AreTooMany members refusal → IsStill tells given tape scope first (entries ++ entries_of who end (Refused refusal ∷ [])) members work left
  many-alone refusal many = refused-alone refusal (λ t right. refused-right (world_in given tape scope first) entries given members was.members_are.placed work.resync (was.gone t right) (was.levelled t right) (was.pending t)
      refusal (too-many-refused work.resync members refusal many))

-- the epoch that is handed out
pub epoch-kept : {tells : Type 0} {members : Members} {work : Work} {left : ℕ} (given : Given) (tape : List Operation) (backup : Option ℕ) (epoch : Epoch)
    → IsStill tells given tape (scope_in given epoch.uuid epoch.given backup) epoch.first epoch.entries.items members work left → tells → epoch.last ≡ length tape
    → IsReliable (world_of given tape backup epoch) epoch.entries.items → IsEpochKept given tape backup epoch
epoch-kept given tape backup epoch was t last right =
    let recorded = was.recorded t in
    let world = world_of given tape backup epoch in
    let safe = was.safe t right.fills right.room in
    record {
      begins = omega (arith, recorded.begun, last);
      ends = omega (arith, last);
      legal = recorded.legal right;
      safe = safe-throughout world epoch.entries.items epoch.last (omega (arith, last)) safe.past;
      sound = stays-throughout world epoch.entries.items epoch.last (omega (arith, last)) (safe.sound tt);
      reshaped = recorded.reshaped right;
    }
