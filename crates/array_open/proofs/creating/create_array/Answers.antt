use Rattle.std.proofs.Common.{◌≡◌, inr, ℕ, List, Some, None, sym, ◌∙◌, ap, subst, arith}
use Rattle.array_create_assemble.specs.raid_types_the_Fault.{Fault}
use Rattle.array_create_assemble.specs.raid_types_the_Fault_TheVariants.{Refused, NoMemory}
use Rattle.array_create_assemble.specs.raid_types_the_Refusal.{Refusal}
use Rattle.array_create_assemble.specs.raid_types_the_Refusal_TheVariants.{UuidInUse}
use Rattle.array_create_assemble.specs.bank_the_Operation.{Operation}
use Rattle.array_create_assemble.specs.bank_Given.{Given}
use Rattle.array_create_assemble.specs.Filling.{OnlyBelow}
use Rattle.array_steps.specs.stripe_row_Rows.{present}
use Rattle.array_create_assemble.specs.array_members_Flushing.{OnlyItsSlotsFail, OnlyFlushesAdded}
use Rattle.array_steps.specs.array_call_specs_Adopting.{IsAdoptable, IsAdopted}
use Rattle.array_create_assemble.specs.declared.opening.Opened.{Opened}
use Rattle.array_create_assemble.specs.Opening.{scope_of}
use Rattle.array_create_assemble.specs.Creating.{create_refusal}
use Rattle.array_create_assemble.specs.Made.{used_slot, HasCreateCause}
use Rattle.array_create_assemble.specs.Running.{IsCreated}
use Rattle.array_create_assemble.proofs.RunningLaws.{new-adoptable, new-failed, created, ok-then}
use Rattle.array_open.proofs.Aside.{made-aside}
use Rattle.array_open.proofs.FoundArrays.{err-then}
use Rattle.array_open.proofs.Handed.{never-refused, adopted-on, back-on, ok-any}
use Rattle.array_open.proofs.creating.create_array.Goals as goal

pub run_still-requires-clause-adoptable : goal.run_still-requires-clause-adoptable
run_still-requires-clause-adoptable g c =
    let bank : Given = g.B.Bank.given c.args.bank in
    let tape : List Operation = g.B.Bank.tape c.make.new.bank in
    let opened : Opened = c.in-Ok.opened in
    subst (λ (b : Given). IsAdoptable g.B.Bank.tells b tape (scope_of b c.args.backup opened.given opened.members.newest.set_uuid) opened.members) (sym c.make.ensures.slots)
    (new-adoptable bank tape c.args.backup c.args.spec opened c.in-Ok.ensures.new c.in-Ok.ensures.opened c.requires.few c.in-Ok.ensures.flushed c.in-Ok.ensures.sectors)

pub run_still-requires-clause-failed : goal.run_still-requires-clause-failed
run_still-requires-clause-failed g c slot known out =
    let bank : Given = g.B.Bank.given c.args.bank in
    new-failed bank (g.B.Bank.tape c.make.new.bank) c.args.backup c.args.spec c.in-Ok.opened c.in-Ok.ensures.new c.in-Ok.ensures.opened (g.B.Bank.faults_of c.make.new.bank) slot
    (omega (arith, known, ap (λ (b : Given). b.slots) c.make.ensures.slots)) out

pub run_still-requires-clause-aside : goal.run_still-requires-clause-aside
run_still-requires-clause-aside g c =
    made-aside (g.B.Bank.given c.args.bank) c.args.backup c.args.spec c.in-Ok.opened c.in-Ok.ensures.new c.requires.last c.in-Ok.ensures.unrefused

pub returns-clause-created : goal.returns-clause-created
returns-clause-created g c =
    let bank : Given = g.B.Bank.given c.args.bank in
    let tape : List Operation = g.B.Bank.tape c.make.new.bank in
    let opened : Opened = c.in-Ok.opened in
    ok-then c.run_still.result
    (λ made. IsAdopted g.B.Bank.tells c.make.new.bank tape opened.given c.args.backup opened.members made.parts)
    (λ made. IsCreated g.B.Bank.tells bank (g.B.Bank.tape made.parts.bank) c.args.backup c.args.spec made.parts)
    (λ made adopted. subst (λ (b : g.row.B.Denot). IsCreated g.B.Bank.tells bank (g.B.Bank.tape b) c.args.backup c.args.spec made.parts) (sym adopted.bank_is)
    (created c.make.new.bank bank tape c.args.backup opened made.parts adopted c.args.spec c.in-Ok.ensures.new c.in-Ok.ensures.opened c.in-Ok.ensures.zeros))
    c.run_still.ensures.run

pub returns-clause-unrefused : goal.returns-clause-unrefused
returns-clause-unrefused g c = ok-any c.run_still.result _ c.in-Ok.ensures.unrefused

pub returns-clause-tape : goal.returns-clause-tape
returns-clause-tape g c = adopted-on g.B.Bank.tells c.make.new.bank (g.B.Bank.tape c.make.new.bank) c.in-Ok.opened.given c.args.backup c.in-Ok.opened.members c.run_still.result (λ b. g.B.Bank.tells → OnlyBelow c.args.spec.shape.disks (g.B.Bank.tape c.args.bank) (g.B.Bank.tape b)) c.run_still.ensures.run c.make.ensures.tape

pub returns-clause-left_tape : goal.returns-clause-left_tape
returns-clause-left_tape g c = back-on c.make.new.bank c.run_still.result (λ b. g.B.Bank.tells → OnlyBelow c.args.spec.shape.disks (g.B.Bank.tape c.args.bank) (g.B.Bank.tape b)) c.run_still.ensures.handed_back c.make.ensures.tape

pub returns-clause-given : goal.returns-clause-given
returns-clause-given g c = adopted-on g.B.Bank.tells c.make.new.bank (g.B.Bank.tape c.make.new.bank) c.in-Ok.opened.given c.args.backup c.in-Ok.opened.members c.run_still.result (λ b. g.B.Bank.given b ≡ g.B.Bank.given c.args.bank) c.run_still.ensures.run c.make.ensures.slots

pub returns-clause-left_given : goal.returns-clause-left_given
returns-clause-left_given g c = back-on c.make.new.bank c.run_still.result (λ b. g.B.Bank.given b ≡ g.B.Bank.given c.args.bank) c.run_still.ensures.handed_back c.make.ensures.slots

pub returns-clause-counts : goal.returns-clause-counts
returns-clause-counts g c = adopted-on g.B.Bank.tells c.make.new.bank (g.B.Bank.tape c.make.new.bank) c.in-Ok.opened.given c.args.backup c.in-Ok.opened.members c.run_still.result (λ b. OnlyItsSlotsFail (g.B.Bank.given c.args.bank) (g.B.Bank.faults_of c.args.bank) (g.B.Bank.faults_of b)) c.run_still.ensures.run c.make.ensures.counts

pub returns-clause-left_counts : goal.returns-clause-left_counts
returns-clause-left_counts g c = back-on c.make.new.bank c.run_still.result (λ b. OnlyItsSlotsFail (g.B.Bank.given c.args.bank) (g.B.Bank.faults_of c.args.bank) (g.B.Bank.faults_of b)) c.run_still.ensures.handed_back c.make.ensures.counts

pub returns-clause-refused : goal.returns-clause-refused
returns-clause-refused g c =
    let bank : Given = g.B.Bank.given c.args.bank in
    err-then c.run_still.result (λ e. e.1 ≡ NoMemory)
    (λ e. HasCreateCause g.B.Bank.tells bank (present bank (g.B.Bank.tape c.args.bank)) c.args.backup c.args.spec (g.B.Bank.faults_of c.args.bank) (g.B.Bank.faults_of e.0) e.1)
    (λ e is. subst (λ (f : Fault). HasCreateCause g.B.Bank.tells bank (present bank (g.B.Bank.tape c.args.bank)) c.args.backup c.args.spec (g.B.Bank.faults_of c.args.bank) (g.B.Bank.faults_of e.0) f) (sym is)
    (inr (c.in-Ok.ensures.unrefused, tt))) c.run_still.ensures.short

pub returns-clause-free : goal.returns-clause-free
returns-clause-free g c =
    let bank : Given = g.B.Bank.given c.args.bank in
    let opened : Opened = c.in-Ok.opened in
    ok-then c.run_still.result
    (λ made. IsAdopted g.B.Bank.tells c.make.new.bank (g.B.Bank.tape c.make.new.bank) opened.given c.args.backup opened.members made.parts)
    (λ made. g.B.Bank.tells → used_slot (scope_of bank c.args.backup made.parts.given c.args.spec.uuid) (present bank (g.B.Bank.tape c.args.bank)) c.args.spec.shape.disks ≡ None)
    (λ made adopted. subst (λ (n : ℕ). g.B.Bank.tells → used_slot (scope_of bank c.args.backup n c.args.spec.uuid) (present bank (g.B.Bank.tape c.args.bank)) c.args.spec.shape.disks ≡ None) (sym adopted.given) c.in-Ok.ensures.free)
    c.run_still.ensures.run

pub returns-clause-untouched : goal.returns-clause-untouched
returns-clause-untouched g c =
    back-on c.make.new.bank c.run_still.result (λ b. (refusal : Refusal) → create_refusal (g.B.Bank.given c.args.bank) c.args.backup c.args.spec ≡ Some refusal → b ≡ c.args.bank) c.run_still.ensures.handed_back c.make.ensures.untouched

pub returns-clause-unwritten : goal.returns-clause-unwritten
returns-clause-unwritten g c =
    err-then c.run_still.result (λ e. e.1 ≡ NoMemory) (λ e. (slot : ℕ) → e.1 ≡ Refused (UuidInUse slot) → g.B.Bank.tells → OnlyFlushesAdded (g.B.Bank.tape c.args.bank) (g.B.Bank.tape e.0))
    (λ e is slot was t. absurd (never-refused (UuidInUse slot) (sym is ∙ was))) c.run_still.ensures.short
