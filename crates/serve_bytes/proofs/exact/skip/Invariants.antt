use Rattle.std.proofs.Common.{◌-◌, ◌≤◌}
use Rattle.serve_bytes.proofs.Filling.{Passed}
use Rattle.serve_bytes.proofs.exact.skip.Given as goal

abbrev pub invariant-loop-left : goal.invariant-loop-left
invariant-loop-left g l = record {
  below : l.left ≤ l.count;
  passed : Passed g.S.Source.tells (g.S.Source.left l.initial.source) (g.S.Source.left l.source) (l.count - l.left);
  faults : g.S.Source.faults_of l.initial.source ≤ g.S.Source.faults_of l.source;
}

abbrev pub decreases-loop-left : goal.decreases-loop-left
decreases-loop-left g l = l.left
