use Rattle.std.proofs.Common.{◌≡◌, ◌+◌, ◌≤◌, ◌++◌}
use Rattle.sb_add_spare.specs.stripe_row_Rows.{reading_of}
use Rattle.sb_add_spare.specs.history_Plain.{entries_of}
use Rattle.array_call_laws.specs.history_append_Losing.{IsSameEpoch}
use Rattle.array_call_laws.specs.array_call_specs_Adopting.{opener, absent_losses}
use Rattle.array_state.proofs.absent.append_absent.Given as goal

abbrev pub invariant-loop-role : goal.invariant-loop-role
invariant-loop-role l = record {
  items : l.epoch.entries.items ≡ l.fn.epoch.entries.items ++ entries_of opener l.end (absent_losses (reading_of l.members) l.role);
  room : l.fn.epoch.entries.room ≤ l.epoch.entries.room + l.role;
  same : IsSameEpoch l.fn.epoch l.epoch;
  last : l.fn.epoch.last ≡ l.end → l.epoch.last ≡ l.end;
}
