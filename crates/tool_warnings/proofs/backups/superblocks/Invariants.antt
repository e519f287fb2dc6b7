-- those that were seen and those that are left are all of them
use Rattle.std.proofs.Common.{◌≡◌, ◌++◌, drop}
use Rattle.tool_warnings.specs.Looks.{superblocks_of}
use Rattle.tool_warnings.proofs.backups.superblocks.Given as goal

abbrev pub invariant-loop-looked : goal.invariant-loop-looked
invariant-loop-looked l = l.seen.items ++ superblocks_of (drop l.looked-index l.slots) ≡ superblocks_of l.slots
