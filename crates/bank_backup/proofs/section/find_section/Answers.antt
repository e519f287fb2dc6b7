use Rattle.std.proofs.Common.{ℕ, sym, ◌∙◌, length, arith}
use Rattle.bank.specs.Tape.{contents}
use Rattle.bank.proofs.Causes.{faulted_longer}
use Rattle.bank.specs.raid_types_Sectors.{Sector}
use Rattle.bank_backup.proofs.CallLaws.{not-filled, no-room, found-by, read-one}
use Rattle.bank_backup.proofs.section.find_section.Goals as goal
use Rattle.bank_backup.proofs.section.find_section.Goals.{then-span-via-then-span, then-span-via-else-span+then-len-span}

pub returns-then-span-clause-found : goal.returns-then-span-clause-found
returns-then-span-clause-found g c = λ told.
    let given = g.B.Bank.given c.args.bank.now in
    let slot : ℕ → Sector = contents given.start (g.B.Bank.tape c.args.bank.now) (length (g.B.Bank.tape c.args.bank.now)) c.args.slot in
    elim c.then-span.branch [
      | then-span-via-then-span w ↦ not-filled c.args.uuid.now (given.sectors c.args.slot) slot c.args.span.now (omega arith)
      | then-span-via-else-span+then-len-span w ↦ no-room c.args.uuid.now (given.sectors c.args.slot) slot c.args.span.now (omega arith)
    ]

pub returns-then-not-names-clause-found : goal.returns-then-not-names-clause-found
returns-then-not-names-clause-found g c = λ told.
    let given = g.B.Bank.given c.args.bank.now in
    let slot : ℕ → Sector = contents given.start (g.B.Bank.tape c.args.bank.now) (length (g.B.Bank.tape c.args.bank.now)) c.args.slot in
    sym c.if-not-names.true
    ∙ found-by c.args.uuid.now (given.sectors c.args.slot) slot c.args.span.now c.read.new.into c.names.result (read-one slot 0 c.read.new.into (omega arith) (c.in-Ok.ensures.ok told)) c.names.ensures (omega arith)

pub returns-in-Err-read-clause-failed : goal.returns-in-Err-read-clause-failed
returns-in-Err-read-clause-failed g c =
    faulted_longer c.args.slot (g.B.Bank.faults_of c.args.bank.now) (g.B.Bank.faults_of c.read.new.self) (g.B.Bank.faults_of c.read-2.new.self) (g.B.Bank.faults_of c.read-2.new.self)
    (c.read.ensures.cause.never_falls c.args.slot) (omega arith) (c.read-2.ensures.cause.never_falls c.args.slot) (c.in-Err-read.ensures.cause.failed cc)

pub returns-in-Ok-read-clause-found : goal.returns-in-Ok-read-clause-found
returns-in-Ok-read-clause-found g c = λ told.
    let given = g.B.Bank.given c.args.bank.now in
    let slot : ℕ → Sector = contents given.start (g.B.Bank.tape c.args.bank.now) (length (g.B.Bank.tape c.args.bank.now)) c.args.slot in
    sym c.if-not-names.false
    ∙ found-by c.args.uuid.now (given.sectors c.args.slot) slot c.args.span.now c.read.new.into c.names.result (read-one slot 0 c.read.new.into (omega arith) (c.in-Ok.ensures.ok told)) c.names.ensures (omega arith)
