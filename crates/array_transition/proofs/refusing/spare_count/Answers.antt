use Rattle.std.proofs.Common.{sym, arith}
use Rattle.array_reshaping_steps.specs.sb_specs_Reads.{has_spare}
use Rattle.array_reshaping_steps.proofs.stripe_row_Tables.{count_below-none, count_below-le, count_step}
use Rattle.array_transition.proofs.refusing.spare_count.Goals.{then-is_spare, else-is_spare}
use Rattle.array_transition.proofs.refusing.spare_count.Goals as goal

pub loop-slot-init : goal.loop-slot-init
loop-slot-init c = sym (count_below-none (has_spare c.args.members.now.spares))

pub overflow_add-count : goal.overflow_add-count
overflow_add-count c =
    omega (arith, c.loop-slot.invariant, count_below-le c.loop-slot.slot (has_spare c.args.members.now.spares), c.loop-slot-test.true)

pub loop-slot-preserved : goal.loop-slot-preserved
loop-slot-preserved c =
    elim c.if-is_spare.branch [
      | then-is_spare w ↦
          count_step c.loop-slot.slot (has_spare c.args.members.now.spares) c.is_spare.result c.loop-slot.count c.if-is_spare.count c.loop-slot.invariant c.is_spare.ensures
          (rw w.if-is_spare.true (omega (arith, w.count-is)))
      | else-is_spare w ↦
          count_step c.loop-slot.slot (has_spare c.args.members.now.spares) c.is_spare.result c.loop-slot.count c.if-is_spare.count c.loop-slot.invariant c.is_spare.ensures
          (rw w.if-is_spare.false (omega (arith, w.count-is)))
    ]

pub returns-clause-few : goal.returns-clause-few
returns-clause-few c =
    omega (arith, c.loop-slot.invariant, count_below-le c.loop-slot.slot (has_spare c.args.members.now.spares), c.loop-slot.auto.slot-end)
