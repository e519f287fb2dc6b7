use Rattle.std.proofs.Common.{◌≡◌, drop}
use Rattle.sb_specs.specs.Reading.{newest_of}
use Rattle.sb_election.proofs.found.newest.Given as goal

-- the newest from this slot on
abbrev pub invariant-loop-slot : goal.invariant-loop-slot
invariant-loop-slot l = l.newest ≡ newest_of (drop l.slot l.own)
