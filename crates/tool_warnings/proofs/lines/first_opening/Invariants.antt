-- The lines that are left decide.
use Rattle.std.proofs.Common.{◌≡◌, drop}
use Rattle.tool_warnings.specs.Asked.{first_opening}
use Rattle.tool_warnings.proofs.lines.first_opening.Given as goal

abbrev pub invariant-loop-numbered : goal.invariant-loop-numbered
invariant-loop-numbered l = first_opening l.lines ≡ first_opening (drop l.numbered-index l.lines)
