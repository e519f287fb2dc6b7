use Rattle.std.proofs.Common.{ℕ, List, [], subst}
use Rattle.bank.specs.Tape.{Did, disk}
use Rattle.bank.proofs.Calls.{did_marks}
use Rattle.bank_backup.specs.Written.{cleared_header}
use Rattle.bank_backup.specs.Storing.{header_operations, IsHeading}
use Rattle.bank_backup.proofs.StoringLaws.{heading-along, headed-by}
use Rattle.bank_backup.proofs.CallLaws.{on-ok}
use Rattle.bank_backup.proofs.section.clear_section.Goals as goal

pub returns-clause-did : goal.returns-clause-did
returns-clause-did g c =
    subst (λ (h : List ℕ). Did g.B.Bank.tells c.store_header.result (g.B.Bank.tape c.args.bank.now) (g.B.Bank.tape c.store_header.new.bank) (header_operations c.args.slot h)) c.encode-header.ensures c.store_header.ensures.did

pub returns-clause-each_mark : goal.returns-clause-each_mark
returns-clause-each_mark g c =
    let d = disk (g.B.Bank.given c.args.bank.now).start (g.B.Bank.tape c.args.bank.now) in
    did_marks (IsHeading c.args.slot (cleared_header c.args.uuid.now) d) _ (heading-along c.args.slot (cleared_header c.args.uuid.now) d) (returns-clause-did g c)

pub returns-clause-stored : goal.returns-clause-stored
returns-clause-stored g c = on-ok c.store_header.result (λ ok told.
    headed-by c.args.slot (cleared_header c.args.uuid.now) [] (g.B.Bank.given c.args.bank.now).start (g.B.Bank.tape c.args.bank.now) (g.B.Bank.tape c.store_header.new.bank) ((returns-clause-did g c).all told ok))
