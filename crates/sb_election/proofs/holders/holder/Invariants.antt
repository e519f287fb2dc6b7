use Rattle.std.proofs.Common.{◌≡◌, drop}
use Rattle.sb_specs.specs.Reading.{holder_from}
use Rattle.sb_election.proofs.holders.holder.Given as goal

-- none of the slots before this one
abbrev pub invariant-loop-slot : goal.invariant-loop-slot
invariant-loop-slot l = holder_from l.newest l.role 0 l.own ≡ holder_from l.newest l.role l.slot (drop l.slot l.own)
