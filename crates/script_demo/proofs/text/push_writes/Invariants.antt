use Rattle.std.proofs.Common.{◌≡◌, ◌+◌, ◌-◌, ◌*◌, ◌≤◌, length, ◌++◌, vec_capacity}
use Rattle.script_demo.specs.Demo.{writes_from}
use Rattle.script_demo.proofs.text.push_writes.Given as goal

-- what is written so far, with the lines that are left, is the whole
abbrev pub invariant-loop-j : goal.invariant-loop-j
invariant-loop-j l = record {
  whole : l.text.items ++ writes_from l.j (l.count - l.j) ≡ l.fn.text.items ++ writes_from 0 l.count;
  few : length l.text.items ≤ length l.fn.text.items + 51 * l.j;
  room : vec_capacity l.fn.text ≤ vec_capacity l.text;
}
