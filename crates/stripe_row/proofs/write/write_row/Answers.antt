use Rattle.std.proofs.Common.{arith}
use Rattle.stripe_row.proofs.Turns.{marks_last}
use Rattle.stripe_row.proofs.Written.{members_without-none, row_written}
use Rattle.stripe_row.proofs.write.write_row.Goals as goal

pub returns-then-tolerance-missing_count-clause-members :
    goal.returns-then-tolerance-missing_count-clause-members
returns-then-tolerance-missing_count-clause-members g c = members_without-none c.args.members.now

pub lose_slots-requires-clause-small : goal.lose_slots-requires-clause-small
lose_slots-requires-clause-small g c = λ role slot is. (c.requires.row.holders role slot is).small

pub returns-clause-good : goal.returns-clause-good
returns-clause-good g c = λ told. (row_written c.args.members.now c.lose_slots.new.members c.write_new-lost.result
    (g.B.Bank.given c.args.bank.now) (g.B.Bank.given c.write_new-lost.new.bank) (g.B.Bank.tape c.args.bank.now) (g.B.Bank.tape c.write_new-lost.new.bank)
    c.args.shape.now c.args.row c.args.from.now c.args.changed c.lose_slots.ensures c.write_new-lost.ensures.given c.requires.apart (c.requires.others told)
    (marks_last c.write_new-lost.ensures.each_mark told) (c.write_new-lost.ensures.written told) c.write_new-lost.ensures.good c.requires.row.below (omega (arith, c.if-tolerance-missing_count-2.false, c.tolerance-2.ensures, c.missing_count-2.ensures))).good

pub returns-clause-sectors : goal.returns-clause-sectors
returns-clause-sectors g c = λ told. (row_written c.args.members.now c.lose_slots.new.members c.write_new-lost.result
    (g.B.Bank.given c.args.bank.now) (g.B.Bank.given c.write_new-lost.new.bank) (g.B.Bank.tape c.args.bank.now) (g.B.Bank.tape c.write_new-lost.new.bank)
    c.args.shape.now c.args.row c.args.from.now c.args.changed c.lose_slots.ensures c.write_new-lost.ensures.given c.requires.apart (c.requires.others told)
    (marks_last c.write_new-lost.ensures.each_mark told) (c.write_new-lost.ensures.written told) c.write_new-lost.ensures.good c.requires.row.below (omega (arith, c.if-tolerance-missing_count-2.false, c.tolerance-2.ensures, c.missing_count-2.ensures))).sectors
