-- what was read so far is the front of what was left, and no pull lowers the count
use Rattle.std.proofs.Common.{◌≡◌, ◌≤◌, ◌-◌, ◌++◌, length}
use Rattle.run_scripts.proofs.text.read_text.Given as goal

abbrev pub invariant-loop-piece : goal.invariant-loop-piece
invariant-loop-piece g l = record {
  moved : g.S.Source.tells → g.S.Source.left l.initial.source ≡ l.text.items ++ g.S.Source.left l.source;
  within : length l.text.items ≤ 1048577;
  never_falls : g.S.Source.faults_of l.initial.source ≤ g.S.Source.faults_of l.source;
}

abbrev pub decreases-loop-piece : goal.decreases-loop-piece
decreases-loop-piece g l = 1048577 - length l.text.items
