use Rattle.std.proofs.Common.{◌≡◌, ◌≤◌, ◌∙◌, ap, arith, length, take}
use Rattle.std.proofs.lemmas.List.{length-take-le}
use Rattle.bank.specs.Given.{Given}
use Rattle.bank.specs.Tape.{contents}
use Rattle.sb_election.proofs.Elected.{lengths-taken}
use Rattle.array_create_assemble.specs.Opening.{AreFlushed}
use Rattle.sb_add_spare.proofs.array_members_Flushed.{contents-added}
use Rattle.array_create_assemble.proofs.Judged.{ok-found, ok-aside, err-caused, ok-writable, ok-own, ok-named, ok-sectors, given-as, on-ok, counted-by}
use Rattle.array_create_assemble.proofs.opening.find.Goals as goal

pub returns-in-Err-clause-contents : goal.returns-in-Err-clause-contents
returns-in-Err-clause-contents g c = λ told.
    contents-added (g.B.Bank.given c.args.bank.now).start (g.B.Bank.tape c.args.bank.now) (g.B.Bank.tape c.look.new.bank) (c.look.ensures.tape told)

pub returns-clause-contents : goal.returns-clause-contents
returns-clause-contents g c = λ told.
    contents-added (g.B.Bank.given c.args.bank.now).start (g.B.Bank.tape c.args.bank.now) (g.B.Bank.tape c.look.new.bank) (c.look.ensures.tape told)

pub returns-clause-found : goal.returns-clause-found
returns-clause-found g c =
    let bank : Given = g.B.Bank.given c.args.bank.now in
    let slots : c.slots.result ≡ bank.slots = c.slots.ensures ∙ ap (λ (b : Given). b.slots) c.look.ensures.given in
    let enough : bank.slots ≤ length c.lengths-lengths.result = omega (arith, c.lengths-lengths.ensures.count, c.requires.slots) in
    ok-found g.B.Bank.tells bank _ c.args.backup c.args.uuid (g.B.Bank.faults_of c.args.bank.now) (g.B.Bank.faults_of c.look.new.bank)
    (take c.slots.result c.lengths-lengths.result) c.in-Ok.found.seen c.in-Ok.found.lost c.in-Ok.found.given c.judge.result
    c.requires.slots c.in-Ok.ensures.count
    (length-take-le c.slots.result c.lengths-lengths.result (omega (arith, slots, enough)) ∙ slots)
    (lengths-taken bank (g.B.Bank.given c.look.new.bank) c.slots.result c.lengths-lengths.result c.look.ensures.given
    c.slots.ensures enough c.lengths-lengths.ensures.each)
    c.in-Ok.ensures.seen c.in-Ok.ensures.lost c.in-Ok.ensures.slots c.judge.ensures.judged

pub returns-clause-refused : goal.returns-clause-refused
returns-clause-refused g c =
    let bank : Given = g.B.Bank.given c.args.bank.now in
    let slots : c.slots.result ≡ bank.slots = c.slots.ensures ∙ ap (λ (b : Given). b.slots) c.look.ensures.given in
    let enough : bank.slots ≤ length c.lengths-lengths.result = omega (arith, c.lengths-lengths.ensures.count, c.requires.slots) in
    err-caused g.B.Bank.tells bank _ c.args.backup c.args.uuid (g.B.Bank.faults_of c.args.bank.now) (g.B.Bank.faults_of c.look.new.bank)
    (take c.slots.result c.lengths-lengths.result) c.in-Ok.found.seen c.in-Ok.found.lost c.in-Ok.found.given c.judge.result
    c.requires.slots c.in-Ok.ensures.count
    (length-take-le c.slots.result c.lengths-lengths.result (omega (arith, slots, enough)) ∙ slots)
    (lengths-taken bank (g.B.Bank.given c.look.new.bank) c.slots.result c.lengths-lengths.result c.look.ensures.given
    c.slots.ensures enough c.lengths-lengths.ensures.each)
    c.in-Ok.ensures.seen c.in-Ok.ensures.lost c.in-Ok.ensures.slots c.judge.ensures.judged

pub returns-clause-writable : goal.returns-clause-writable
returns-clause-writable g c =
    let bank : Given = g.B.Bank.given c.args.bank.now in
    let slots : c.slots.result ≡ bank.slots = c.slots.ensures ∙ ap (λ (b : Given). b.slots) c.look.ensures.given in
    let enough : bank.slots ≤ length c.lengths-lengths.result = omega (arith, c.lengths-lengths.ensures.count, c.requires.slots) in
    ok-writable g.B.Bank.tells bank (contents bank.start (g.B.Bank.tape c.look.new.bank) (length (g.B.Bank.tape c.look.new.bank))) c.args.backup c.args.uuid (g.B.Bank.faults_of c.args.bank.now) (g.B.Bank.faults_of c.look.new.bank)
    (take c.slots.result c.lengths-lengths.result) c.in-Ok.found.seen c.in-Ok.found.lost c.in-Ok.found.given c.judge.result
    c.requires.slots c.in-Ok.ensures.count
    (length-take-le c.slots.result c.lengths-lengths.result (omega (arith, slots, enough)) ∙ slots)
    (lengths-taken bank (g.B.Bank.given c.look.new.bank) c.slots.result c.lengths-lengths.result c.look.ensures.given
    c.slots.ensures enough c.lengths-lengths.ensures.each)
    c.in-Ok.ensures.seen c.in-Ok.ensures.lost c.in-Ok.ensures.slots c.judge.ensures.judged c.in-Ok.ensures.writable

pub returns-clause-aside : goal.returns-clause-aside
returns-clause-aside g c =
    let bank : Given = g.B.Bank.given c.args.bank.now in
    let slots : c.slots.result ≡ bank.slots = c.slots.ensures ∙ ap (λ (b : Given). b.slots) c.look.ensures.given in
    let enough : bank.slots ≤ length c.lengths-lengths.result = omega (arith, c.lengths-lengths.ensures.count, c.requires.slots) in
    ok-aside g.B.Bank.tells bank (contents bank.start (g.B.Bank.tape c.look.new.bank) (length (g.B.Bank.tape c.look.new.bank))) c.args.backup c.args.uuid (g.B.Bank.faults_of c.args.bank.now) (g.B.Bank.faults_of c.look.new.bank)
    (take c.slots.result c.lengths-lengths.result) c.in-Ok.found.seen c.in-Ok.found.lost c.in-Ok.found.given c.judge.result
    c.requires.slots c.in-Ok.ensures.count
    (length-take-le c.slots.result c.lengths-lengths.result (omega (arith, slots, enough)) ∙ slots)
    (lengths-taken bank (g.B.Bank.given c.look.new.bank) c.slots.result c.lengths-lengths.result c.look.ensures.given
    c.slots.ensures enough c.lengths-lengths.ensures.each)
    c.in-Ok.ensures.seen c.in-Ok.ensures.lost c.in-Ok.ensures.slots c.judge.ensures.judged c.in-Ok.ensures.aside

pub returns-clause-own : goal.returns-clause-own
returns-clause-own g c =
    let bank : Given = g.B.Bank.given c.args.bank.now in
    let slots : c.slots.result ≡ bank.slots = c.slots.ensures ∙ ap (λ (b : Given). b.slots) c.look.ensures.given in
    let enough : bank.slots ≤ length c.lengths-lengths.result = omega (arith, c.lengths-lengths.ensures.count, c.requires.slots) in
    ok-own g.B.Bank.tells bank (contents bank.start (g.B.Bank.tape c.look.new.bank) (length (g.B.Bank.tape c.look.new.bank))) c.args.backup c.args.uuid (g.B.Bank.faults_of c.args.bank.now) (g.B.Bank.faults_of c.look.new.bank)
    (take c.slots.result c.lengths-lengths.result) c.in-Ok.found.seen c.in-Ok.found.lost c.in-Ok.found.given c.judge.result
    c.requires.slots c.in-Ok.ensures.count
    (length-take-le c.slots.result c.lengths-lengths.result (omega (arith, slots, enough)) ∙ slots)
    (lengths-taken bank (g.B.Bank.given c.look.new.bank) c.slots.result c.lengths-lengths.result c.look.ensures.given
    c.slots.ensures enough c.lengths-lengths.ensures.each)
    c.in-Ok.ensures.seen c.in-Ok.ensures.lost c.in-Ok.ensures.slots c.judge.ensures.judged c.in-Ok.ensures.none

pub returns-clause-named : goal.returns-clause-named
returns-clause-named g c =
    let bank : Given = g.B.Bank.given c.args.bank.now in
    let slots : c.slots.result ≡ bank.slots = c.slots.ensures ∙ ap (λ (b : Given). b.slots) c.look.ensures.given in
    let enough : bank.slots ≤ length c.lengths-lengths.result = omega (arith, c.lengths-lengths.ensures.count, c.requires.slots) in
    ok-named g.B.Bank.tells bank (contents bank.start (g.B.Bank.tape c.look.new.bank) (length (g.B.Bank.tape c.look.new.bank))) c.args.backup c.args.uuid (g.B.Bank.faults_of c.args.bank.now) (g.B.Bank.faults_of c.look.new.bank)
    (take c.slots.result c.lengths-lengths.result) c.in-Ok.found.seen c.in-Ok.found.lost c.in-Ok.found.given c.judge.result
    c.requires.slots c.in-Ok.ensures.count
    (length-take-le c.slots.result c.lengths-lengths.result (omega (arith, slots, enough)) ∙ slots)
    (lengths-taken bank (g.B.Bank.given c.look.new.bank) c.slots.result c.lengths-lengths.result c.look.ensures.given
    c.slots.ensures enough c.lengths-lengths.ensures.each)
    c.in-Ok.ensures.seen c.in-Ok.ensures.lost c.in-Ok.ensures.slots c.judge.ensures.judged

pub returns-clause-counted : goal.returns-clause-counted
returns-clause-counted g c =
    let bank : Given = g.B.Bank.given c.args.bank.now in
    let slots : c.slots.result ≡ bank.slots = c.slots.ensures ∙ ap (λ (b : Given). b.slots) c.look.ensures.given in
    let enough : bank.slots ≤ length c.lengths-lengths.result = omega (arith, c.lengths-lengths.ensures.count, c.requires.slots) in
    on-ok c.judge.result (counted-by bank (take c.slots.result c.lengths-lengths.result)
    (lengths-taken bank (g.B.Bank.given c.look.new.bank) c.slots.result c.lengths-lengths.result c.look.ensures.given
    c.slots.ensures enough c.lengths-lengths.ensures.each) c.judge.ensures.counted)

pub returns-clause-sectors : goal.returns-clause-sectors
returns-clause-sectors g c =
    let bank : Given = g.B.Bank.given c.args.bank.now in
    let slots : c.slots.result ≡ bank.slots = c.slots.ensures ∙ ap (λ (b : Given). b.slots) c.look.ensures.given in
    let enough : bank.slots ≤ length c.lengths-lengths.result = omega (arith, c.lengths-lengths.ensures.count, c.requires.slots) in
    ok-sectors g.B.Bank.tells bank (contents bank.start (g.B.Bank.tape c.look.new.bank) (length (g.B.Bank.tape c.look.new.bank))) c.args.backup c.args.uuid (g.B.Bank.faults_of c.args.bank.now) (g.B.Bank.faults_of c.look.new.bank)
    (take c.slots.result c.lengths-lengths.result) c.in-Ok.found.seen c.in-Ok.found.lost c.in-Ok.found.given c.judge.result
    c.requires.slots c.in-Ok.ensures.count
    (length-take-le c.slots.result c.lengths-lengths.result (omega (arith, slots, enough)) ∙ slots)
    (lengths-taken bank (g.B.Bank.given c.look.new.bank) c.slots.result c.lengths-lengths.result c.look.ensures.given
    c.slots.ensures enough c.lengths-lengths.ensures.each)
    c.in-Ok.ensures.seen c.in-Ok.ensures.lost c.in-Ok.ensures.slots c.judge.ensures.judged (contents bank.start (g.B.Bank.tape c.look.new.bank) (length (g.B.Bank.tape c.look.new.bank))) c.in-Ok.ensures.sectors

pub returns-clause-flushed : goal.returns-clause-flushed
returns-clause-flushed g c =
    given-as c.judge.result c.in-Ok.found.given
    (λ given. g.B.Bank.tells → AreFlushed (g.B.Bank.given c.args.bank.now).start (g.B.Bank.tape c.look.new.bank) given)
    c.judge.ensures.given c.in-Ok.ensures.flushed
