use Rattle.std.proofs.Common.{◌≡◌, ◌+◌, ◌*◌, ◌≤◌, ◌++◌, length, drop, map, vec_capacity, decimal}
use Rattle.script.specs.Texts.{refused, spaced}
use Rattle.script.proofs.reply.push_refused.Given as goal

-- what is written so far, with the values that are left, is the whole
abbrev pub invariant-loop-value : goal.invariant-loop-value
invariant-loop-value l = record {
  whole : l.text.items ++ spaced (map decimal (drop l.value-index l.values)) ≡ l.fn.text.items ++ refused l.number l.name (map decimal l.values);
  few : length l.text.items ≤ length l.fn.text.items + (29 + length l.name + 21 * l.value-index);
  room : vec_capacity l.fn.text ≤ vec_capacity l.text;
}
