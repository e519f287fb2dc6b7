use Rattle.std.proofs.Common.{◌≡◌, ◌≤◌, ◌++◌, length, drop, slice_index}
use Rattle.sb_specs.specs.Reading.{spares_from}
use Rattle.sb_election.proofs.fresh.spares.Given as goal

-- those before this slot are there
abbrev pub invariant-loop-slot : goal.invariant-loop-slot
invariant-loop-slot l = record {
  found : spares_from l.newest (slice_index l.lengths) 0 l.own ≡ l.slots ++ spares_from l.newest (slice_index l.lengths) l.slot (drop l.slot l.own);
  few : length l.slots ≤ l.slot;
}
