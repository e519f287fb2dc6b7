use Rattle.std.proofs.Common.{◌≡◌, ℕ, List, length, subst, sym, ap, ◌∙◌, nat_lt}
use Rattle.std.specs.Prelude.{not, ◌&&◌}
use Rattle.array_found_laws.specs.raid_types_Shapes.{has_slot}
use Rattle.bank.specs.declared.bank.Operation.{Operation}
use Rattle.bank.specs.Given.{Given}
use Rattle.bank.specs.Tape.{Contents, contents}
use Rattle.array_found_laws.specs.sb_specs_Found.{AreInSectors}
use Rattle.sb_add_spare.specs.array_members_Flushing.{AreTried, OnlyFlushesAdded, OnlyItsSlotsFail}
use Rattle.sb_add_spare.proofs.array_members_Flushed.{contents-added}
use Rattle.array_create_assemble.proofs.LookedAt.{aside-left, writable-left, sectors-left, seen-given, rest-none}
use Rattle.array_create_assemble.proofs.slots.look.Goals as goal

pub returns-clause-seen : goal.returns-clause-seen
returns-clause-seen g c = λ told.
    let bank : Given = g.B.Bank.given c.args.bank.now in
    let same : g.B.Bank.given c.read_superblocks.new.bank ≡ bank = c.read_superblocks.ensures.given in
    let bits : (s : ℕ) → has_slot c.others-given.result s ≡ (nat_lt s bank.slots && not (has_slot c.flush_slots-lost.result s)) =
    λ s. c.others-given.ensures s
    ∙ ap (λ n. nat_lt s n && not (has_slot c.flush_slots-lost.result s))
    (c.slots.ensures ∙ ap (λ (b : Given). b.slots) (c.flush_slots-lost.ensures.given ∙ same)) in
    seen-given g.B.Bank.tells bank (g.B.Bank.tape c.args.bank.now) (g.B.Bank.tape c.read_superblocks.new.bank) (g.B.Bank.tape c.flush_slots-lost.new.bank)
    c.args.backup (g.B.Bank.faults_of c.args.bank.now) (g.B.Bank.faults_of c.read_superblocks.new.bank) (g.B.Bank.faults_of c.flush_slots-lost.new.bank)
    c.in-Ok.found.0 c.forget.new.seen c.in-Ok.found.1 c.flush_slots-lost.result c.others-given.result
    c.requires c.flush_slots-lost.ensures.range c.in-Ok.ensures.seen c.in-Ok.ensures.lost c.read_superblocks.ensures.faults c.read_superblocks.ensures.tape
    (subst (λ (b : Given). AreTried g.B.Bank.tells b (g.B.Bank.tape c.flush_slots-lost.new.bank) b.slots c.in-Ok.found.1 c.flush_slots-lost.result
    (g.B.Bank.faults_of c.read_superblocks.new.bank) (g.B.Bank.faults_of c.flush_slots-lost.new.bank)) same c.flush_slots-lost.ensures.tried)
    c.flush_slots-lost.ensures.tape
    (subst (λ (b : Given). OnlyItsSlotsFail b (g.B.Bank.faults_of c.read_superblocks.new.bank) (g.B.Bank.faults_of c.flush_slots-lost.new.bank)) same
    c.flush_slots-lost.ensures.counts)
    c.forget.ensures.each c.forget.ensures.count bits told

pub returns-clause-rest : goal.returns-clause-rest
returns-clause-rest g c =
    rest-none (g.B.Bank.given c.args.bank.now).slots c.in-Ok.found.0 c.forget.new.seen c.flush_slots-lost.result c.in-Ok.ensures.rest
    c.forget.ensures.each c.forget.ensures.count

pub returns-clause-aside : goal.returns-clause-aside
returns-clause-aside g c =
    aside-left c.args.backup c.in-Ok.found.0 c.forget.new.seen c.flush_slots-lost.result c.forget.ensures.each c.forget.ensures.count c.in-Ok.ensures.aside

pub returns-clause-writable : goal.returns-clause-writable
returns-clause-writable g c =
    writable-left (g.B.Bank.given c.args.bank.now) c.in-Ok.found.0 c.forget.new.seen c.flush_slots-lost.result
    c.forget.ensures.each c.forget.ensures.count c.in-Ok.ensures.writable

pub returns-clause-sectors : goal.returns-clause-sectors
returns-clause-sectors g c = λ told.
    let start : Contents = (g.B.Bank.given c.args.bank.now).start in
    let same : contents start (g.B.Bank.tape c.flush_slots-lost.new.bank) (length (g.B.Bank.tape c.flush_slots-lost.new.bank)) ≡ contents start (g.B.Bank.tape c.args.bank.now) (length (g.B.Bank.tape c.args.bank.now)) =
    contents-added start (g.B.Bank.tape c.args.bank.now) (g.B.Bank.tape c.flush_slots-lost.new.bank)
    (subst (λ (tape : List Operation). OnlyFlushesAdded tape (g.B.Bank.tape c.flush_slots-lost.new.bank)) (c.read_superblocks.ensures.tape told) (c.flush_slots-lost.ensures.tape told)) in
    subst (λ (k : Contents). AreInSectors k c.forget.new.seen) (sym same)
    (sectors-left (contents start (g.B.Bank.tape c.args.bank.now) (length (g.B.Bank.tape c.args.bank.now))) c.in-Ok.found.0 c.forget.new.seen c.flush_slots-lost.result
    c.forget.ensures.each c.forget.ensures.count (c.in-Ok.ensures.sectors told))
