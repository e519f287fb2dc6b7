use Rattle.std.proofs.Common.{◌≡◌}
use Rattle.test_lane_lock.proofs.turns.alternate.Given as goal

abbrev pub invariant-loop-round : goal.invariant-loop-round
invariant-loop-round g l = l.pass.seat.table_id ≡ l.fn.pass.seat.table_id
