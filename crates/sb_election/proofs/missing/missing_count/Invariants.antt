use Rattle.std.proofs.Common.{◌≡◌, ◌≤◌}
use Rattle.sb_specs.specs.raid_types_Search.{count_below}
use Rattle.sb_specs.specs.Verdict.{is_missing}
use Rattle.sb_election.proofs.missing.missing_count.Given as goal

-- those below this role
abbrev pub invariant-loop-role : goal.invariant-loop-role
invariant-loop-role l = record {
  count : l.missing ≡ count_below l.role (is_missing l.roles);
  few : l.missing ≤ l.role;
}
