use Rattle.std.proofs.Common.{◌≡◌, ◌++◌, take}
use Rattle.tool_losses.specs.Healths.{state_lines}
use Rattle.tool_losses.proofs.states.push_states.Given as goal

-- those of the entries so far
abbrev pub invariant-loop-at : goal.invariant-loop-at
invariant-loop-at l = l.into.items ≡ l.initial.into.items ++ state_lines (take l.at l.entries.items)
