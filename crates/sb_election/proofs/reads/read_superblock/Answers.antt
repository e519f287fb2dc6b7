use Rattle.std.proofs.Common.{arith, length}
use Rattle.sb_specs.specs.bank_Tape.{contents}
use Rattle.sb_election.proofs.Decoded.{decoded, readable, in-sectors}
use Rattle.sb_election.proofs.reads.read_superblock.Goals as goal

pub returns-clause-found : goal.returns-clause-found
returns-clause-found g c = λ tells.
    let given = g.B.Bank.given c.args.bank.now in
    let tape = g.B.Bank.tape c.args.bank.now in
    decoded (given.sectors c.args.slot) (contents given.start tape (length tape) c.args.slot) c.read.new.into c.decoded.result
    (omega (arith, c.len.ensures)) (omega arith) (c.in-Ok.ensures.ok tells) c.decoded.ensures.valid c.decoded.ensures.fields

pub returns-clause-writable : goal.returns-clause-writable
returns-clause-writable g c =
    readable (g.B.Bank.given c.args.bank.now) c.args.slot c.read.new.into c.decoded.result c.requires (omega (arith, c.len.ensures))
    c.decoded.ensures.valid c.decoded.ensures.fields

pub returns-clause-sectors : goal.returns-clause-sectors
returns-clause-sectors g c = λ tells sb is.
    let given = g.B.Bank.given c.args.bank.now in
    let tape = g.B.Bank.tape c.args.bank.now in
    in-sectors (contents given.start tape (length tape) c.args.slot) c.read.new.into (omega arith) c.decoded.ensures.bytes (c.in-Ok.ensures.ok tells)
