use Rattle.std.proofs.Common.{◌∙◌, ap, arith}
use Rattle.std.proofs.lemmas.List.{get_or_default}
use Rattle.std.proofs.lemmas.List.Folds.{Any-from_list_any}
use Rattle.raid_types.specs.declared.status.Role.TheVariants.{Missing}
use Rattle.sb_specs.specs.Update.{is_held_by}
use Rattle.test_openings.proofs.checks.are_holders.Goals as goal

pub returns : goal.returns
returns g c = λ _ slot any.
    let roles = c.args.members.now.roles in
    let (role, state, low, at, held) = Any-from_list_any (is_held_by slot) roles any in
    c.loop-role.invariant role slot (omega (arith, low, c.loop-role-test.false, c.len-role-end.ensures))
    (ap (is_held_by slot) (get_or_default roles role Missing state low ∙ at) ∙ held)
