use Rattle.std.proofs.Common.{ap, arith}
use Rattle.reshape_sb_takeover.proofs.raid_layout_Limits.{limited}
use Rattle.array_takeover_laws.specs.raid_types_the_Shape.{Shape}
use Rattle.array_fixed_sync.specs.sb_specs_Reading.{shape_of}
use Rattle.array_fixed_sync.proofs.array_fixed_laws_Left.{left-few}
use Rattle.array_takeover.proofs.taking.told_of.Goals as goal

pub overflow_cast-count : goal.overflow_cast-count
overflow_cast-count c =
    let few = (limited (shape_of c.args.members.now.newest) c.requires.fit.valid.old).most in
    let same = ap (λ (s : Shape). s.disks) c.requires.shape in
    let count = c.requires.roles in
    let long = c.len-count.ensures in
    omega (arith, few, same, count, long)

pub overflow_add-result : goal.overflow_add-result
overflow_add-result c =
    let few = left-few c.args.work.now c.args.members.now c.requires.fit.valid.old c.requires.size in omega (arith, few, c.steps_left-own.ensures, c.planned_left.ensures.few)

pub unassigned_roles-requires-clause-few : goal.unassigned_roles-requires-clause-few
unassigned_roles-requires-clause-few c =
    let few = (limited (shape_of c.args.members.now.newest) c.requires.fit.valid.old).most in
    let same = ap (λ (s : Shape). s.disks) c.requires.shape in
    let count = c.requires.roles in
    let long = c.len-count.ensures in
    omega (arith, few, same, count, long)
