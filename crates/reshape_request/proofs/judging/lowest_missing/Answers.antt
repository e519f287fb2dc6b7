use Rattle.std.proofs.Common.{sym, ◌∙◌, arith}
use Rattle.history.proofs.raid_types_Least.{least_below-none}
use Rattle.stripe_row.proofs.sb_specs_Searches.{least_below-first}
use Rattle.stripe_row.specs.sb_specs_Reading.{role_count}
use Rattle.stripe_row.specs.Rows.{reading_of, is_missing}
use Rattle.reshape_request.proofs.judging.lowest_missing.Goals as goal

pub returns-then-is_missing : goal.returns-then-is_missing
returns-then-is_missing c =
    let m = c.args.members.now in
    sym (least_below-first (role_count m.newest) (is_missing (reading_of m)) c.loop-role.role (omega arith) (sym c.is_missing.ensures ∙ c.if-is_missing.true) c.loop-role.invariant)

pub returns : goal.returns
returns c =
    let m = c.args.members.now in
    sym (least_below-none (role_count m.newest) (is_missing (reading_of m)) (λ j lt. c.loop-role.invariant j (omega (arith, lt, c.loop-role-test.false))))
