-- what is appended and the lines that are left are all of them
use Rattle.std.proofs.Common.{◌≡◌, ◌++◌, drop}
use Rattle.std.specs.List.{flat_map}
use Rattle.tool_warnings.specs.Locks.{lock_line}
use Rattle.tool_warnings.proofs.locks.push_locks.Given as goal

abbrev pub invariant-loop-looked : goal.invariant-loop-looked
invariant-loop-looked l = l.into.items ++ flat_map lock_line (drop l.looked-index l.slots) ≡ l.initial.into.items ++ flat_map lock_line l.slots
