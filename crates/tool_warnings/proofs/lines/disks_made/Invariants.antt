-- The lines that are left decide.
use Rattle.std.proofs.Common.{◌≡◌, drop}
use Rattle.tool_warnings.specs.Asked.{disks_made}
use Rattle.tool_warnings.proofs.lines.disks_made.Given as goal

abbrev pub invariant-loop-numbered : goal.invariant-loop-numbered
invariant-loop-numbered l = disks_made l.lines ≡ disks_made (drop l.numbered-index l.lines)
