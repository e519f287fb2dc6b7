use Rattle.std.proofs.Common.{◌≡◌, ◌++◌, drop, slice_index}
use Rattle.sb_specs.specs.Verdict.{fresh_from}
use Rattle.sb_election.proofs.fresh.fresh.Given as goal

-- those before this slot are there
abbrev pub invariant-loop-slot : goal.invariant-loop-slot
invariant-loop-slot l =
    fresh_from l.newest (slice_index l.lengths) 0 l.own ≡ l.slots.items ++ fresh_from l.newest (slice_index l.lengths) l.slot (drop l.slot l.own)
