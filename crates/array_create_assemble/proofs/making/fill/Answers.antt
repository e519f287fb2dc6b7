use Rattle.std.proofs.Common.{subst}
use Rattle.bank.specs.Given.{Given}
use Rattle.sb_add_spare.specs.stripe_row_Rows.{present}
use Rattle.array_create_assemble.specs.Filling.{AreStored, AreSlotsDone}
use Rattle.array_create_assemble.proofs.FillLaws.{below-then}
use Rattle.array_create_assemble.proofs.FirstLaws.{slots-both}
use Rattle.array_create_assemble.proofs.making.fill.Goals as goal

pub returns-in-Err-store_members-clause-tape : goal.returns-in-Err-store_members-clause-tape
returns-in-Err-store_members-clause-tape g c = λ told.
    below-then c.args.spec.now.shape.disks _ _ _ (c.zero_members.ensures.tape told) (c.store_members.ensures.tape told)

pub returns-in-Ok-store_members-clause-stored : goal.returns-in-Ok-store_members-clause-stored
returns-in-Ok-store_members-clause-stored g c = λ told.
    subst (λ (b : Given). AreStored b c.args.spec.now.shape.disks c.store_members.new.own (present b (g.B.Bank.tape c.store_members.new.bank)))
    c.zero_members.ensures.given (c.in-Ok-store_members.ensures.stored told)

pub returns-in-Ok-store_members-clause-done : goal.returns-in-Ok-store_members-clause-done
returns-in-Ok-store_members-clause-done g c = λ told.
    slots-both (g.B.Bank.given c.args.bank.now).start c.args.spec.now.shape.disks (g.B.Bank.tape c.args.bank.now) (g.B.Bank.tape c.zero_members.new.bank)
    (g.B.Bank.tape c.store_members.new.bank) (c.in-Ok.ensures.done told)
    (subst (λ (b : Given). AreSlotsDone b.start c.args.spec.now.shape.disks (g.B.Bank.tape c.zero_members.new.bank) (g.B.Bank.tape c.store_members.new.bank))
    c.zero_members.ensures.given (c.in-Ok-store_members.ensures.done told))

pub returns-in-Ok-store_members-clause-tape : goal.returns-in-Ok-store_members-clause-tape
returns-in-Ok-store_members-clause-tape g c = λ told.
    below-then c.args.spec.now.shape.disks _ _ _ (c.zero_members.ensures.tape told) (c.store_members.ensures.tape told)
