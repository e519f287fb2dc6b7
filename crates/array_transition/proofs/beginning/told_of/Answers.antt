use Rattle.std.proofs.Common.{arith}
use Rattle.array_reshaping_steps.proofs.sb_specs_ValidFields.{few-roles}
use Rattle.array_transition.proofs.beginning.told_of.Goals as goal

pub overflow_cast-count : goal.overflow_cast-count
overflow_cast-count c =
    let few = few-roles c.args.members.now.newest c.requires.fit.valid in
    let count = c.requires.roles in
    let long = c.len-count.ensures in
    omega (arith, few, count, long)

pub unassigned_roles-requires-clause-few : goal.unassigned_roles-requires-clause-few
unassigned_roles-requires-clause-few c =
    let few = few-roles c.args.members.now.newest c.requires.fit.valid in
    let count = c.requires.roles in
    let long = c.len-count.ensures in
    omega (arith, few, count, long)
