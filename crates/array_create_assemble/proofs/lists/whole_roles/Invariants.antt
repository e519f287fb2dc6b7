use Rattle.std.proofs.Common.{◌≡◌}
use Rattle.array_found_laws.specs.raid_types_the_Role_TheVariants.{Whole}
use Rattle.array_found_laws.specs.raid_types_Search.{tabulate}
use Rattle.array_create_assemble.proofs.lists.whole_roles.Given as goal

abbrev pub invariant-loop-role : goal.invariant-loop-role
invariant-loop-role l = l.roles ≡ tabulate l.role (λ role. Whole role)
