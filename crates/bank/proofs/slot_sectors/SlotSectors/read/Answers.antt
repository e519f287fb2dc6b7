use Rattle.std.proofs.Common.{◌∙◌, arith, below_more}
use Rattle.bank.proofs.Present.{copied_below, copied_here}
use Rattle.bank.proofs.slot_sectors.SlotSectors.read.Goals as goal

pub loop-i-preserved : goal.loop-i-preserved
loop-i-preserved c = below_more _ _
    (λ j lt. copied_below c.loop-i.into c.copy_from_slice.new.self c.loop-i.i j lt (omega arith) ∙ c.loop-i.invariant j lt)
    (copied_here c.loop-i.into c.copy_from_slice.new.self c.loop-i.i (omega arith) (omega (arith, c.copy_from_slice.ensures.len)) ∙ c.copy_from_slice.ensures.after ∙ c.sector.ensures)

pub overflow_add-at : goal.overflow_add-at
overflow_add-at c = omega (arith, c.requires.within, c.count-i-end.ensures.short, c.loop-i-test.true)
