use Rattle.std.proofs.Common.{sym, arith}
use Rattle.stripe_row.specs.Rows.{reading_of, is_missing}
use Rattle.stripe_row.proofs.Tables.{count_below-none, count_below-le, count_step}
use Rattle.stripe_row.proofs.lose.missing_count.Goals.{then-is_missing, else-is_missing}
use Rattle.stripe_row.proofs.lose.missing_count.Goals as goal

pub loop-role-init : goal.loop-role-init
loop-role-init c = sym (count_below-none (is_missing (reading_of c.args.members.now)))

pub overflow_add-count : goal.overflow_add-count
overflow_add-count c = omega (arith, c.loop-role.invariant, count_below-le c.loop-role.role (is_missing (reading_of c.args.members.now)), c.loop-role-test.true, c.ranges.disks.fits)

pub loop-role-preserved : goal.loop-role-preserved
loop-role-preserved c = elim c.if-is_missing.branch [
  | then-is_missing w ↦
      count_step c.loop-role.role (is_missing (reading_of c.args.members.now)) c.is_missing.result c.loop-role.count c.if-is_missing.count c.loop-role.invariant c.is_missing.ensures
      (rw w.if-is_missing.true (omega (arith, w.count-is)))
  | else-is_missing w ↦
      count_step c.loop-role.role (is_missing (reading_of c.args.members.now)) c.is_missing.result c.loop-role.count c.if-is_missing.count c.loop-role.invariant c.is_missing.ensures
      (rw w.if-is_missing.false (omega (arith, w.count-is)))
]
