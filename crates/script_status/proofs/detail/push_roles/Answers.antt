use Rattle.std.proofs.Common.{◌+◌, ◌++◌, drop, le_trans, arith}
use Rattle.script_status.specs.Texts.{role_lines}
use Rattle.script_status.proofs.LoopLines.{one_role, all_roles}
use Rattle.script_status.proofs.detail.push_roles.Goals as goal
use Rattle.script.proofs.AppendLaws.{failed, goes_on, ends}

pub loop-role-preserved : goal.loop-role-preserved
loop-role-preserved c =
    let now = c.loop-role.invariant in
    let told = c.in_ok-push_role.ensures in
    let whole = c.args.text.now.items ++ role_lines 0 c.args.roles.now in
    record {
      whole = goes_on (role_lines (c.loop-role.role + 1) (drop (c.loop-role.role + 1) c.args.roles.now)) whole told.appended
          (one_role c.args.roles.now c.loop-role.role _ c.loop-role.text.items whole c.loop-role-test.true now.whole);
      few = omega (arith, now.few, told.short.few);
      room = le_trans now.room told.appended.room;
    }

pub returns-in_err-push_role-clause-appended : goal.returns-in_err-push_role-clause-appended
returns-in_err-push_role-clause-appended c =
    let now = c.loop-role.invariant in
    let whole = role_lines 0 c.args.roles.now in
    failed c.from_residual.ensures.0 (ends (role_lines (c.loop-role.role + 1) (drop (c.loop-role.role + 1) c.args.roles.now)) whole now.room
    (one_role c.args.roles.now c.loop-role.role _ c.loop-role.text.items (c.args.text.now.items ++ whole) c.loop-role-test.true now.whole)
    c.in_err-push_role.ensures.appended)

pub returns-clause-appended : goal.returns-clause-appended
returns-clause-appended c =
    let now = c.loop-role.invariant in
    let whole = c.args.text.now.items ++ role_lines 0 c.args.roles.now in
    record { whole = all_roles c.args.roles.now c.loop-role.role c.loop-role.text.items whole c.loop-role-test.false now.whole; full = tt; room = now.room }
