use Rattle.std.proofs.Common.{◌≡◌}
use Rattle.tool_files.specs.Lines.{examine_lines}
use Rattle.tool_files.proofs.scripts.examine_script.Given as goal

-- those of the slots so far
abbrev pub invariant-loop-slot : goal.invariant-loop-slot
invariant-loop-slot l = l.text.items ≡ examine_lines l.slot
