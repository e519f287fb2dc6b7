use Rattle.std.proofs.Common.{◌≡◌, drop}
use Rattle.sb_specs.specs.Verdict.{shared_dev}
use Rattle.sb_election.proofs.numbers.shared_dev.Given as goal

-- the lowest from this place on
abbrev pub invariant-loop-slot : goal.invariant-loop-slot
invariant-loop-slot l = l.least ≡ shared_dev (drop l.slot l.fresh)
