-- As many refusals as lines so far.
use Rattle.std.proofs.Common.{◌≡◌, ◌≤◌, ◌++◌, take, vec_capacity}
use Rattle.run_blocks.specs.Answers.{refusals}
use Rattle.run_blocks.proofs.answering.refuse_lines.Given as goal

abbrev pub invariant-loop-i : goal.invariant-loop-i
invariant-loop-i l = record {
  answers : l.whats.items ≡ l.fn.whats.items ++ refusals (take l.i l.lines);
  room : vec_capacity l.fn.whats ≤ vec_capacity l.whats;
}
