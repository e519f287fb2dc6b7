use Rattle.std.proofs.Common.{◌≡◌, ◌+◌, ◌*◌, ◌≤◌, length, ◌++◌, drop, vec_capacity}
use Rattle.script_status.specs.Texts.{spare_lines}
use Rattle.script_status.proofs.detail.push_spares.Given as goal

-- what is written so far, with the lines of the spares that are left, is the whole
abbrev pub invariant-loop-slot : goal.invariant-loop-slot
invariant-loop-slot l = record {
  whole : l.text.items ++ spare_lines (drop l.slot-index l.slots) ≡ l.fn.text.items ++ spare_lines l.slots;
  few : length l.text.items ≤ length l.fn.text.items + 40 * l.slot-index;
  room : vec_capacity l.fn.text ≤ vec_capacity l.text;
}
