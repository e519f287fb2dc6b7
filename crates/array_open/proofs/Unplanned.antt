-- An opening enters losses alone, so no plan is open; and what it found of an array in a reshape tells the reshape.
use Rattle.std.proofs.Common.{◌≡◌, ℕ, true, false, List, [], ◌∷◌, Option, Some, MatchOption, refl, sym, ◌∙◌, ap, subst}
use Rattle.std.specs.Prelude.{⊤}
use Rattle.array_create_assemble.specs.raid_types_the_Who.{Who}
use Rattle.array_create_assemble.specs.bank_the_Operation.{Operation}
use Rattle.array_create_assemble.specs.bank_Given.{Given}
use Rattle.array_create_assemble.specs.bank_Tape.{contents}
use Rattle.array_create_assemble.specs.sb_specs_the_Members.{Members}
use Rattle.array_create_assemble.specs.sb_specs_Election.{reading_in}
use Rattle.array_create_assemble.specs.sb_specs_Reading.{Reading, reading, is_reshaping, role_count, shape_of}
use Rattle.array_steps.specs.stripe_row_Rows.{reading_of}
use Rattle.array_create_assemble.specs.history_the_Event.{Event}
use Rattle.array_create_assemble.specs.history_the_LostCause.{LostCause}
use Rattle.array_create_assemble.specs.history_Plain.{entries_of}
use Rattle.array_create_assemble.specs.history_Reshaped.{open_plans}
use Rattle.array_create_assemble.specs.history_World.{reading_at}
use Rattle.array_create_assemble.specs.array_members_Parts.{Parts}
use Rattle.array_steps.specs.array_call_specs_Kept.{scope_in}
use Rattle.array_steps.specs.array_call_specs_Adopting.{opener, absent_losses, IsAdopted}
use Rattle.array_steps.specs.array_specs_Parts.{RunningParts}
use Rattle.array_steps.specs.array_specs_Calls.{moving_world}
use Rattle.array_steps.specs.array_specs_Plans.{KeepsShape}
use Rattle.array_reshaping_open_laws.specs.Opening.{AreOpenedMoving}
use Rattle.array_reshaping_open_laws.proofs.Losses.{all-found, events-are}
use Rattle.array_steps.proofs.history_laws_OneShapeGrowing.{loss_events}
use Rattle.array_open.specs.Adopted.{IsMovingAdopted}

-- ---- no plan is open

losses-unplanned : (who : Who) (end : ℕ) (found : List (ℕ × LostCause)) → open_plans (entries_of who end (loss_events found)) ≡ []
losses-unplanned who end [] = refl
losses-unplanned who end (x ∷ found) = losses-unplanned who end found

absent-unplanned : (who : Who) (end : ℕ) (r : Reading) (n : ℕ) → open_plans (entries_of who end (absent_losses r n)) ≡ []
absent-unplanned who end r n = ap (λ (l : List Event). open_plans (entries_of who end l)) (sym (events-are r n)) ∙ losses-unplanned who end (all-found r n)

pub still-unplanned : {B tells : Type 0} {device : B} {tape : List Operation} {slots : ℕ} {backup : Option ℕ} {members : Members} {made : Parts B} → IsAdopted tells device tape slots backup members made → open_plans made.entries ≡ []
still-unplanned {members = members} {made = made} adopted = ap open_plans adopted.entries ∙ absent-unplanned opener made.first (reading_of members) (shape_of members.newest).disks

pub moving-unplanned : {B tells : Type 0} {bank : Given} {tape : List Operation} {slots backup : ℕ} {former : Members} {made : RunningParts B} → IsMovingAdopted tells bank tape slots backup former made
    → open_plans made.parts.entries ≡ []
moving-unplanned {made = made} adopted = ap open_plans adopted.entries ∙ absent-unplanned opener made.parts.first (reading_of made.parts.members) (role_count made.parts.members.newest)

-- ---- the reshape is told

module _ {B tells : Type 0} (bank : Given) (tape : List Operation) {slots backup : ℕ} {former : Members} (made : RunningParts B) (opened : AreOpenedMoving tells bank tape slots backup former)
    (adopted : IsMovingAdopted tells bank tape slots backup former made) (t : tells) where
  -- what it was opened by
  says-here : reading_at (moving_world bank tape made) made.parts.first ≡ Some (reading_in bank.slots former)
  unfolding reading_at
  says-here = (λ i. reading (scope_in bank (adopted.uuid i) (adopted.given i) (adopted.backup_is i)) (contents bank.start tape (adopted.first t i))) ∙ (opened.stored t).says

  turned-here : KeepsShape (moving_world bank tape made) made.parts.entries → ⊥
  turned-here keeps = absurd (
      let told : is_reshaping former.newest ≡ false = subst (λ (o : Option Reading). MatchOption o ⊤ (λ r. is_reshaping r.newest ≡ false)) says-here keeps.found in
      let both : true ≡ false = sym opened.active ∙ told in
      cc)

-- so it is over a bank that has the same operations since
pub moving-turned : {B tells : Type 0} (bank bank' : Given) (tape tape' : List Operation) {slots backup : ℕ} {former : Members} (made : RunningParts B) → AreOpenedMoving tells bank tape slots backup former
    → IsMovingAdopted tells bank tape slots backup former made → bank' ≡ bank → (tells → tape' ≡ tape) → tells → KeepsShape (moving_world bank' tape' made) made.parts.entries → ⊥
moving-turned bank bank' tape tape' made opened adopted given same t keeps =
    turned-here bank tape made opened adopted t
    (subst (λ (l : List Operation). KeepsShape (moving_world bank l made) made.parts.entries) (same t)
    (subst (λ (b : Given). KeepsShape (moving_world b tape' made) made.parts.entries) given keeps))
