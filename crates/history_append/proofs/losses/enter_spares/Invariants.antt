use Rattle.std.proofs.Common.{◌≡◌, ◌+◌, ◌≤◌, ◌++◌, length}
use Rattle.array_members.specs.history_Plain.{entries_of}
use Rattle.history_append.specs.Losing.{spare_losses, IsSameEpoch}
use Rattle.history_append.proofs.losses.enter_spares.Given as goal

abbrev pub invariant-loop-slot : goal.invariant-loop-slot
invariant-loop-slot l = record {
  items : l.epoch.entries.items ≡ l.fn.epoch.entries.items ++ entries_of l.who l.end (spare_losses l.spares l.slot);
  room : l.fn.epoch.entries.room ≤ l.epoch.entries.room + l.slot;
  number : l.who.number ≤ length l.epoch.entries.items;
  same : IsSameEpoch l.fn.epoch l.epoch;
}
