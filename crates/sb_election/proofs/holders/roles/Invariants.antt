use Rattle.std.proofs.Common.{◌≡◌}
use Rattle.sb_specs.specs.raid_types_Search.{tabulate}
use Rattle.sb_specs.specs.Reading.{holder_from}
use Rattle.sb_election.proofs.holders.roles.Given as goal

-- the roles below this one
abbrev pub invariant-loop-role : goal.invariant-loop-role
invariant-loop-role l = l.roles ≡ tabulate l.role (λ role. holder_from l.newest role 0 l.own)
