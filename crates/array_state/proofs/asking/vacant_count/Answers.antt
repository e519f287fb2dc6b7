use Rattle.std.proofs.Common.{sym, arith}
use Rattle.sb_add_spare.specs.stripe_row_Rows.{reading_of}
use Rattle.sb_add_spare.proofs.stripe_row_Tables.{count_below-none, count_below-le, count_step}
use Rattle.sb_add_spare.specs.array_members_Placed.{is_unassigned}
use Rattle.array_state.proofs.asking.vacant_count.Goals.{then-is_unassigned, else-is_unassigned}
use Rattle.array_state.proofs.asking.vacant_count.Goals as goal

pub loop-role-init : goal.loop-role-init
loop-role-init c = sym (count_below-none (is_unassigned (reading_of c.args.members.now)))

pub overflow_add-count : goal.overflow_add-count
overflow_add-count c = omega (arith, c.loop-role.invariant, count_below-le c.loop-role.role (is_unassigned (reading_of c.args.members.now)), c.loop-role-test.true, c.ranges.disks.fits)

pub loop-role-preserved : goal.loop-role-preserved
loop-role-preserved c = elim c.if-is_unassigned.branch [
  | then-is_unassigned w ↦
      count_step c.loop-role.role (is_unassigned (reading_of c.args.members.now)) c.is_unassigned.result c.loop-role.count c.if-is_unassigned.count c.loop-role.invariant c.is_unassigned.ensures
      (rw w.if-is_unassigned.true (omega (arith, w.count-is)))
  | else-is_unassigned w ↦
      count_step c.loop-role.role (is_unassigned (reading_of c.args.members.now)) c.is_unassigned.result c.loop-role.count c.if-is_unassigned.count c.loop-role.invariant c.is_unassigned.ensures
      (rw w.if-is_unassigned.false (omega (arith, w.count-is)))
]

pub returns-clause-few : goal.returns-clause-few
returns-clause-few c = omega (arith, c.loop-role.invariant, count_below-le c.loop-role.role (is_unassigned (reading_of c.args.members.now)), c.loop-role.auto.role-end, c.requires.disks)
