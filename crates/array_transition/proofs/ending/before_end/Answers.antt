use Rattle.std.proofs.Common.{ℕ, ◌&&◌, nat_lt, ◌∙◌, ap, arith}
use Rattle.array_reshaping_steps.proofs.sb_specs_ValidFields.{few-roles}
use Rattle.array_reshaping_steps.specs.stripe_row_Rows.{reading_of}
use Rattle.array_reshaping_steps.specs.array_members_Placed.{is_unassigned}
use Rattle.array_transition.proofs.ending.before_end.Goals as goal

pub overflow_cast-count : goal.overflow_cast-count
overflow_cast-count c =
    let few = few-roles c.args.members.now.newest c.requires.fit.valid in
    let count = c.requires.roles in
    let long = c.len-count.ensures in
    omega (arith, few, count, long)

pub unassigned_roles-requires-clause-few : goal.unassigned_roles-requires-clause-few
unassigned_roles-requires-clause-few c =
    let few = few-roles c.args.members.now.newest c.requires.fit.valid in
    let count = c.requires.roles in
    let long = c.len-count.ensures in
    omega (arith, few, count, long)

pub returns-clause-vacant : goal.returns-clause-vacant
returns-clause-vacant c role =
    c.unassigned_roles.ensures role ∙ ap (λ (n : ℕ). nat_lt role n && is_unassigned (reading_of c.args.members.now) role) c.len-count.ensures
