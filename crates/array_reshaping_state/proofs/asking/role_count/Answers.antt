use Rattle.std.proofs.Common.{arith}
use Rattle.reshape_progress.proofs.sb_specs_ValidFields.{few-roles}
use Rattle.array_reshaping_state.proofs.asking.role_count.Goals as goal

pub overflow_cast-result : goal.overflow_cast-result
overflow_cast-result c =
    let few = few-roles c.args.members.now.newest c.requires.fit.valid in
    let roles = c.requires.roles in
    let long = c.len.ensures in
    omega (arith, few, roles, long)
