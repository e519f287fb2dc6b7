use Rattle.std.proofs.Common.{length, ◌-◌, ◌≤◌}
use Rattle.serve_bytes.proofs.Filling.{Filled}
use Rattle.serve_bytes.proofs.exact.read_exact.Given as goal

abbrev pub invariant-loop-done : goal.invariant-loop-done
invariant-loop-done g l = record {
  filled : Filled g.S.Source.tells (g.S.Source.left l.initial.source) (g.S.Source.left l.source) l.into l.done;
  faults : g.S.Source.faults_of l.initial.source ≤ g.S.Source.faults_of l.source;
}

abbrev pub decreases-loop-done : goal.decreases-loop-done
decreases-loop-done g l = length l.initial.into - l.done
