use Rattle.std.proofs.Common.{◌≡◌, ◌+◌, List, ◌++◌, take, drop, map, slice_set, slice_index_or, ◌∙◌, ap, sym, subst, arith}
use Rattle.sb_specs.specs.raid_types_the_Role.{Role}
use Rattle.sb_specs.specs.raid_types_the_Role_TheVariants.{Missing}
use Rattle.stripe_row.specs.Rows.{role_without}
use Rattle.stripe_row.proofs.Tables.{changed-more}
use Rattle.stripe_row.proofs.lose.lose_roles.Goals as goal

pub loop-role-preserved : goal.loop-role-preserved
loop-role-preserved c =
    let t = c.args.roles.now in
    let i = c.loop-role.role in
    let step = changed-more (role_without c.args.lost) t i Missing (omega (arith, c.loop-role-test.true, c.len-role-end.ensures)) in
    c.set.ensures
    ∙ ap (λ (s : Role). slice_set c.loop-role.roles i s) (c.role_without-state.ensures ∙ ap (role_without c.args.lost) c.get.ensures)
    ∙ subst (λ (l : List Role). slice_set l i (role_without c.args.lost (slice_index_or l i Missing)) ≡ map (role_without c.args.lost) (take (i + 1) t) ++ drop (i + 1) t) (sym c.loop-role.invariant) step
