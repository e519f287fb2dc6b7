use Rattle.std.proofs.Common.{arith}
use Rattle.sb_specs.specs.Reading.{shape_of, target_of}
use Rattle.tool_warnings.proofs.NeededLaws.{too_many, none-needed}
use Rattle.tool_warnings.proofs.reshapes.needs_section.Goals as goal

pub returns-then-old_disks-from : goal.returns-then-old_disks-from
returns-then-old_disks-from c =
    none-needed c.args.newest.now (shape_of c.args.newest.now) (target_of c.args.newest.now)
    (too_many (shape_of c.args.newest.now) (omega (arith, c.old_disks.ensures.value, c.from.ensures)))
