use Rattle.std.proofs.Common.{◌≡◌, drop}
use Rattle.history.specs.EntryList.{counted}
use Rattle.history.proofs.entries.number_of.Given as goal

abbrev pub invariant-loop-counter : goal.invariant-loop-counter
invariant-loop-counter l = counted l.counters l.caller ≡ counted (drop l.counter-index l.counters) l.caller
