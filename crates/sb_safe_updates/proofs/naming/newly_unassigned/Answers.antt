use Rattle.std.proofs.Common.{◌≡◌, ◌≤◌, ◌&&◌, Bool, false, nat_lt, not, inl, inr, sym, ◌∙◌, ap, arith}
use Rattle.std.proofs.lemmas.Bool.{cases_lt}
use Rattle.std.proofs.lemmas.Bool.Decides.{nat_tests}
use Rattle.raid_layout.specs.raid_types_Shapes.{has_slot}
use Rattle.array_members.specs.stripe_row_Rows.{reading_of}
use Rattle.array_members.specs.Placed.{is_unassigned}
use Rattle.sb_update.proofs.sb_specs_SlotSets.{none_above}
use Rattle.sb_safe_updates.proofs.naming.newly_unassigned.Goals as goal

pub returns : goal.returns
returns c role = elim (cases_lt role 32) [
  | inl below ↦ c.without.ensures role below ∙ ap (λ (b : Bool). b && not (has_slot c.args.before role)) (c.unassigned_roles.ensures role)
  | inr above ↦ none_above c.without.result role (omega arith) above
      ∙ sym (ap (λ (b : Bool). (b && is_unassigned (reading_of c.args.members.now) role) && not (has_slot c.args.before role)) (past above))
]
  where
    past : 32 ≤ role → nat_lt role c.args.disks ≡ false
    past above = let few = c.requires.few in grind (arith, nat_tests, above, few)
