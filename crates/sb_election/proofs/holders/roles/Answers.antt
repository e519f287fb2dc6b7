use Rattle.std.proofs.Common.{rules, arith, ap, length, add-one}
use Rattle.sb_specs.specs.raid_types_Search.{tabulate}
use Rattle.sb_specs.proofs.raid_types_Tabulated.{length-tabulate}
use Rattle.sb_specs.specs.Reading.{holder_from}
use Rattle.sb_election.proofs.holders.roles.Goals as goal

pub loop-role-init : goal.loop-role-init
unfolding tabulate
loop-role-init c = search rules

pub push-requires : goal.push-requires
push-requires c =
    omega (arith, ap length c.loop-role.invariant, length-tabulate c.loop-role.role (λ role. holder_from c.args.newest.now role 0 c.args.own.now))

pub loop-role-preserved : goal.loop-role-preserved
unfolding tabulate
loop-role-preserved c = rw add-one (cc)
