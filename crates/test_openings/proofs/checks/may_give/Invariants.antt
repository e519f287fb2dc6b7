use Rattle.std.proofs.Common.{◌≡◌, ◌<◌, ℕ, false}
use Rattle.sb_specs.specs.declared.change.Give.TheVariants.{Same}
use Rattle.sb_specs.specs.Update.{IsRoleGive, give_of, is_live}
use Rattle.test_openings.proofs.checks.may_give.Given as goal

abbrev pub invariant-loop-slot : goal.invariant-loop-slot
invariant-loop-slot l = record {
  gives : (s : ℕ) → s < l.slot → IsRoleGive (give_of l.change.gives s);
  alone : (s : ℕ) → s < l.slot → is_live l.members.roles l.members.spares s ≡ false → give_of l.change.gives s ≡ Same;
}
