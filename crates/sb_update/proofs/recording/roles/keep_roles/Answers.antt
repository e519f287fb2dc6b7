use Rattle.std.proofs.Common.{List, take, ◌∙◌, ap, arith}
use Rattle.bank.specs.raid_types_the_Role.{Role}
use Rattle.bank.specs.raid_types_the_Role_TheVariants.{Missing}
use Rattle.sb_specs.specs.raid_types_Search.{tabulate}
use Rattle.sb_specs.specs.Outcome.{planned_state}
use Rattle.sb_update.proofs.RoleStates.{take-tabulate}
use Rattle.sb_update.proofs.recording.roles.keep_roles.Goals as goal

pub returns : goal.returns
returns c =
    let m = c.args.members.now in
    let count = c.role_count-count.result in
    let few = c.requires.count in
    let state = planned_state m.roles c.args.gives.now m.lost in
    ap (λ (r : List Role). record m { roles = r })
    (c.put_states.ensures ∙ ap (take count) c.planned_states-states.ensures ∙ take-tabulate Missing count 16 state (omega (arith, few, c.role_count-count.ensures))
    ∙ ap (λ n. tabulate n state) c.role_count-count.ensures)
