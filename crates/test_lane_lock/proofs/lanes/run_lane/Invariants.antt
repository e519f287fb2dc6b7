use Rattle.std.proofs.Common.{◌≡◌, ◌≤◌, ◌++◌, ◌-◌, length}
use Rattle.std.specs.Prelude.{vec_capacity}
use Rattle.lane_lock.specs.Turns.{mine_of}
use Rattle.test_lane_lock.specs.Lanes.{calls_made, AreDone}
use Rattle.test_lane_lock.proofs.lanes.run_lane.Given as goal

abbrev pub invariant-loop-done : goal.invariant-loop-done
invariant-loop-done g l = record {
  same : l.pass.seat.table_id ≡ l.fn.pass.seat.table_id;
  caller : l.pass.caller ≡ l.fn.pass.caller;
  few : l.done ≤ length l.requests;
  len : length l.replies.items ≡ l.done;
  room : length l.requests ≤ vec_capacity l.replies;
  done : AreDone l.replies.items;
  mine : mine_of l.pass.seat.me.0.hands ≡ mine_of l.fn.pass.seat.me.0.hands ++ calls_made l.requests l.replies.items;
}

abbrev pub decreases-loop-done : goal.decreases-loop-done
decreases-loop-done g l = length l.requests - l.done
