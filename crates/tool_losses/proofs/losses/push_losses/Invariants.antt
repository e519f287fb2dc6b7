use Rattle.std.proofs.Common.{◌≡◌, ◌++◌, take}
use Rattle.std.specs.Option.{option_copied}
use Rattle.tool_losses.specs.Losses.{loss_lines}
use Rattle.tool_losses.proofs.losses.push_losses.Given as goal

-- those of the entries so far
abbrev pub invariant-loop-at : goal.invariant-loop-at
invariant-loop-at l = l.into.items ≡ l.initial.into.items ++ loss_lines l.slots (option_copied l.newest) (take l.at l.entries.items)
