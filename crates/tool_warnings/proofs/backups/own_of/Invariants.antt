-- those so far and those that are left are all of them
use Rattle.std.proofs.Common.{◌≡◌, ◌++◌, drop, map}
use Rattle.sb_specs.specs.Reading.{of_array}
use Rattle.tool_warnings.proofs.backups.own_of.Given as goal

abbrev pub invariant-loop-superblock : goal.invariant-loop-superblock
invariant-loop-superblock l = l.own.items ++ map (of_array l.uuid) (drop l.superblock-index l.seen) ≡ map (of_array l.uuid) l.seen
