use Rattle.std.proofs.Common.{◌≡◌, ◌≤◌, ◌&&◌, ◌||◌, Bool, true, false, nat_lt, not, inl, inr, refl, sym, ◌∙◌, ap, arith}
use Rattle.std.proofs.lemmas.Bool.{cases_lt}
use Rattle.std.proofs.lemmas.Bool.Decides.{nat_tests}
use Rattle.array_reshaping_steps.specs.raid_types_Shapes.{has_slot}
use Rattle.array_reshaping_steps.specs.stripe_row_Rows.{reading_of}
use Rattle.array_reshaping_steps.proofs.sb_specs_SlotSets.{none_above}
use Rattle.array_reshaping_steps.specs.array_members_Placed.{is_unassigned}
use Rattle.array_transition.proofs.ending.late_roles.Goals as goal

apart : (a b c : Bool) → ((a && not b) && not c) ≡ (a && not (b || c))
apart true true c = refl
apart true false c = refl
apart false b c = refl

pub returns : goal.returns
returns c role =
    elim (cases_lt role 32) [
      | inl below ↦ c.without.ensures role below ∙ ap (λ (b : Bool). b && not (has_slot c.args.roles role)) (c.newly_unassigned.ensures role)
          ∙ apart (nat_lt role c.args.disks && is_unassigned (reading_of c.args.members.now) role) (has_slot c.args.first role) (has_slot c.args.roles role)
      | inr above ↦ none_above c.without.result role (omega arith) above
          ∙ sym (ap (λ (b : Bool). (b && is_unassigned (reading_of c.args.members.now) role) && not (has_slot c.args.first role || has_slot c.args.roles role)) (past above))
    ]
  where
    past : 32 ≤ role → nat_lt role c.args.disks ≡ false
    past above = let few = c.requires.few in grind (arith, nat_tests, above, few)
