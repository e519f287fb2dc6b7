use Rattle.std.proofs.Common.{◌≡◌, ◌++◌, List}
use Rattle.lane_lock.specs.declared.lock.Pass.{Pass}
use Rattle.lane_lock.specs.Passes.{EachPass}
use Rattle.lane_lock.proofs.Passes.{AreBehind}
use Rattle.lane_lock.proofs.lock.Lock.close.Given as goal

-- the passes that were taken stand at the group
abbrev pub invariant-loop-pass : goal.invariant-loop-pass
invariant-loop-pass g l = record {
  id : l.group.seat.table_id ≡ l.self.table.shared.table_id;
  lock : EachPass (λ p. p.seat.table_id ≡ l.self.table.shared.table_id) l.passes.items;
  behind : (rest : List (Pass g.row.T.Denot g.row.Q.Denot)) × (l.passes.items ++ rest ≡ l.fn.passes.items) × AreBehind g.T.Served.ways rest l.group.seat.me.0;
}

abbrev pub decreases-loop-pass : goal.decreases-loop-pass
decreases-loop-pass g l = goal.left-loop-pass g l
