use Rattle.std.proofs.Common.{◌≡◌, ◌+◌, ◌*◌, ◌-◌, ◌≤◌, ◌++◌, length, drop, vec_capacity}
use Rattle.script.specs.Texts.{runs_text}
use Rattle.script.proofs.reply.push_runs.Given as goal

-- what is written so far, with the runs of the sectors that are left, is the whole
abbrev pub invariant-loop-start : goal.invariant-loop-start
invariant-loop-start l = record {
  within : l.start ≤ length l.sectors;
  whole : l.text.items ++ runs_text (l.at + l.start) (drop l.start l.sectors) ≡ l.fn.text.items ++ runs_text l.at l.sectors;
  few : length l.text.items ≤ length l.fn.text.items + 1100 * l.start;
  room : vec_capacity l.fn.text ≤ vec_capacity l.text;
}

abbrev pub decreases-loop-start : goal.decreases-loop-start
decreases-loop-start l = length l.sectors - l.start
