use Rattle.std.proofs.Common.{sym, ◌∙◌, arith}
use Rattle.array_fixed_sync.proofs.sb_specs_Searches.{least_below-first}
use Rattle.array_fixed_sync.specs.sb_specs_Reading.{role_count}
use Rattle.array_fixed_sync.specs.stripe_row_Rows.{reading_of, is_missing}
use Rattle.array_takeover.proofs.choosing.lowest_missing.Goals as goal

pub returns-then-is_missing : goal.returns-then-is_missing
returns-then-is_missing c =
    let m = c.args.members.now in
    least_below-first (role_count m.newest) (is_missing (reading_of m)) c.loop-role.role (omega arith) (sym c.is_missing.ensures ∙ c.if-is_missing.true) c.loop-role.invariant

pub returns : goal.returns
returns c = λ j lt. c.loop-role.invariant j (omega (arith, lt, c.loop-role-test.false))
