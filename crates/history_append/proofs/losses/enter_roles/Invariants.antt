use Rattle.std.proofs.Common.{◌≡◌, ◌+◌, ◌≤◌, ◌++◌, length}
use Rattle.array_members.specs.history_Plain.{entries_of}
use Rattle.history_append.specs.Losing.{role_losses, IsSameEpoch}
use Rattle.history_append.proofs.losses.enter_roles.Given as goal

abbrev pub invariant-loop-role : goal.invariant-loop-role
invariant-loop-role l = record {
  items : l.epoch.entries.items ≡ l.fn.epoch.entries.items ++ entries_of l.who l.end (role_losses l.roles l.role);
  room : l.fn.epoch.entries.room ≤ l.epoch.entries.room + l.role;
  number : l.who.number ≤ length l.epoch.entries.items;
  same : IsSameEpoch l.fn.epoch l.epoch;
}
