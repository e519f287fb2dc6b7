use Rattle.std.proofs.Common.{◌≡◌, ◌++◌, [], ◌∷◌, List, length, sym, ap, ◌∙◌, arith}
use Rattle.array_found_laws.specs.raid_types_the_Role.{Role}
use Rattle.array_found_laws.specs.raid_types_the_Role_TheVariants.{Whole}
use Rattle.array_found_laws.proofs.raid_types_Tabulated.{length-tabulate}
use Rattle.array_create_assemble.proofs.EntryLaws.{tabulated-none, tabulated-more}
use Rattle.array_create_assemble.proofs.lists.whole_roles.Goals as goal

pub loop-role-init : goal.loop-role-init
loop-role-init c = c.in_ok-roles.ensures ∙ sym (tabulated-none (λ role. Whole role))

pub push-requires : goal.push-requires
push-requires c =
    let count : length c.loop-role.roles ≡ c.loop-role.role = ap (λ (l : List Role). length l) c.loop-role.invariant ∙ length-tabulate c.loop-role.role (λ role. Whole role) in
    omega (arith, count, c.requires, c.loop-role-test.true)

pub loop-role-preserved : goal.loop-role-preserved
loop-role-preserved c =
    c.push.ensures ∙ ap (λ (l : List Role). l ++ Whole c.loop-role.role ∷ []) c.loop-role.invariant ∙ sym (tabulated-more c.loop-role.role (λ role. Whole role))
