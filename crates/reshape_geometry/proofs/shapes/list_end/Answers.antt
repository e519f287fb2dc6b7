use Rattle.std.proofs.Common.{arith}
use Rattle.reshape_geometry.proofs.Valid.{bounded_pair, same_list_end}
use Rattle.reshape_geometry.proofs.shapes.list_end.Goals as goal

pub overflow_mul-result : goal.overflow_mul-result
overflow_mul-result c =
    let b = bounded_pair c.args.old.now c.args.new.now c.args.size c.requires in
    let same = same_list_end c.args.old.now c.args.new.now c.args.size c.min.result c.data_disks.result c.data_disks-2.result c.data_disks.ensures c.data_disks-2.ensures c.min.ensures in
    omega (arith, same, b.short_list)

pub returns : goal.returns
returns c =
    let b = bounded_pair c.args.old.now c.args.new.now c.args.size c.requires in
    let same = same_list_end c.args.old.now c.args.new.now c.args.size c.min.result c.data_disks.result c.data_disks-2.result c.data_disks.ensures c.data_disks-2.ensures c.min.ensures in
    record { value = same; short = omega (arith, same, b.short_list) }
