use Rattle.std.proofs.Common.{◌≡◌, ◌≤◌, ◌∙◌, ap, arith, length, take}
use Rattle.std.proofs.lemmas.List.{length-take-le}
use Rattle.sb_specs.specs.bank_Given.{Given}
use Rattle.sb_election.proofs.Elected.{elected, none-elected, lengths-taken}
use Rattle.sb_election.proofs.elect.Goals as goal

pub returns-in-Err-clause-elected : goal.returns-in-Err-clause-elected
returns-in-Err-clause-elected g c =
    none-elected g.B.Bank.tells (g.B.Bank.given c.args.bank.now) _ c.args.backup c.args.uuid
    (g.B.Bank.faults_of c.args.bank.now) (g.B.Bank.faults_of c.read_superblocks.new.bank) _ (λ own. tt)

pub returns-clause-elected : goal.returns-clause-elected
returns-clause-elected g c =
    let given : Given = g.B.Bank.given c.args.bank.now in
    let slots : c.slots-slots.result ≡ given.slots = c.slots-slots.ensures ∙ ap (λ (g : Given). g.slots) c.read_superblocks.ensures.given in
    let enough : given.slots ≤ length c.lengths-lengths.result = omega (arith, c.lengths-lengths.ensures.count, c.requires) in
    elected g.B.Bank.tells given _ c.args.backup c.args.uuid (g.B.Bank.faults_of c.args.bank.now) (g.B.Bank.faults_of c.read_superblocks.new.bank)
    c.elect_seen.result c.in-Ok.found.0 c.in-Ok.found.1 (take c.slots-slots.result c.lengths-lengths.result)
    (length-take-le c.slots-slots.result c.lengths-lengths.result (omega (arith, slots, enough)) ∙ slots)
    (lengths-taken given (g.B.Bank.given c.read_superblocks.new.bank) c.slots-slots.result c.lengths-lengths.result c.read_superblocks.ensures.given
    c.slots-slots.ensures enough c.lengths-lengths.ensures.each)
    c.in-Ok.ensures.seen c.in-Ok.ensures.lost c.elect_seen.ensures
