use Rattle.std.proofs.Common.{◌≡◌, ◌≤◌, ◌-◌, length, drop, take}
use Rattle.std.specs.Prelude.{vec_len, vec_capacity}
use Rattle.lane_lock.specs.Turns.{resting, fresh}
use Rattle.lane_lock.specs.Passes.{AreNew}
use Rattle.lane_lock.proofs.lock.Lock.start.Given as goal

abbrev pub invariant-loop-dealt : goal.invariant-loop-dealt
invariant-loop-dealt g l = record {
  few : l.dealt ≤ length l.callers;
  len : vec_len l.passes ≡ l.dealt;
  room : length l.callers ≤ vec_capacity l.passes;
  id : l.group.seat.table_id ≡ l.lock.table.shared.table_id;
  group : l.group.seat.me.0 ≡ resting l.fn.value l.fn.value (fresh (drop l.dealt l.callers));
  new : AreNew l.lock.table.shared.table_id l.fn.value (take l.dealt l.callers) l.passes.items;
  value : l.lock.table.shared.key.value ≡ l.fn.value;
  callers : l.lock.table.shared.key.callers.items ≡ l.callers;
}

abbrev pub decreases-loop-dealt : goal.decreases-loop-dealt
decreases-loop-dealt g l = length l.callers - l.dealt
