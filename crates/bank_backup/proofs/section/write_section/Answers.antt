use Rattle.std.proofs.Common.{ℕ, List, [], ◌∷◌, ◌++◌, subst}
use Rattle.bank.specs.declared.bank.Operation.TheVariants.{Write}
use Rattle.bank.specs.Tape.{Did, disk}
use Rattle.bank.proofs.Calls.{did_marks}
use Rattle.bank_backup.specs.Written.{header_of}
use Rattle.bank_backup.specs.Storing.{section_operations, header_operations, HasSomeOf, IsStoringOrNaming}
use Rattle.bank_backup.proofs.StoringLaws.{section-along, named-by, storing-by, naming-by}
use Rattle.bank_backup.proofs.CallLaws.{on-ok}
use Rattle.bank_backup.proofs.section.write_section.Goals as goal

pub returns-clause-did : goal.returns-clause-did
returns-clause-did g c =
    subst (λ (h : List ℕ). Did g.B.Bank.tells c.store_and_name.result (g.B.Bank.tape c.args.bank.now) (g.B.Bank.tape c.store_and_name.new.bank)
    (section_operations c.args.slot c.args.from.now ++ header_operations c.args.slot h)) c.encode-header.ensures c.store_and_name.ensures.did

pub returns-clause-attempted : goal.returns-clause-attempted
returns-clause-attempted g c = λ is told.
    subst (λ (h : List ℕ). HasSomeOf (Write c.args.slot 0 h ∷ []) (g.B.Bank.tape c.args.bank.now ++ section_operations c.args.slot c.args.from.now) (g.B.Bank.tape c.store_and_name.new.bank))
    c.encode-header.ensures (c.store_and_name.ensures.attempted is told)

pub returns-clause-each_mark : goal.returns-clause-each_mark
returns-clause-each_mark g c =
    let d = disk (g.B.Bank.given c.args.bank.now).start (g.B.Bank.tape c.args.bank.now) in
    let h = header_of c.args.uuid.now c.args.span.now in
    did_marks (IsStoringOrNaming c.args.slot h c.args.from.now d) _ (section-along c.args.slot c.args.from.now d h) (returns-clause-did g c)

pub returns-clause-stored : goal.returns-clause-stored
returns-clause-stored g c = on-ok c.store_and_name.result (λ ok told.
    named-by c.args.slot (header_of c.args.uuid.now c.args.span.now) c.args.from.now (g.B.Bank.given c.args.bank.now).start (g.B.Bank.tape c.args.bank.now)
    (g.B.Bank.tape c.store_and_name.new.bank) ((returns-clause-did g c).all told ok))

pub returns-clause-untouched : goal.returns-clause-untouched
returns-clause-untouched g c = λ is told.
    storing-by c.args.slot (header_of c.args.uuid.now c.args.span.now) c.args.from.now (g.B.Bank.given c.args.bank.now).start (g.B.Bank.tape c.args.bank.now)
    (g.B.Bank.tape c.store_and_name.new.bank) (c.store_and_name.ensures.before is told)

pub returns-clause-unsure : goal.returns-clause-unsure
returns-clause-unsure g c = λ is told.
    naming-by c.args.slot (header_of c.args.uuid.now c.args.span.now) c.args.from.now (g.B.Bank.given c.args.bank.now).start (g.B.Bank.tape c.args.bank.now)
    (g.B.Bank.tape c.store_and_name.new.bank) (returns-clause-attempted g c is told)
