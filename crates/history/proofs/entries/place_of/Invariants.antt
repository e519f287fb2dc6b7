use Rattle.std.proofs.Common.{◌≡◌, ◌+◌, drop}
use Rattle.history.specs.EntryList.{counter_place}
use Rattle.history.proofs.entries.place_of.Given as goal

abbrev pub invariant-loop-place : goal.invariant-loop-place
invariant-loop-place l = counter_place l.counters l.caller ≡ l.place + counter_place (drop l.place l.counters) l.caller
