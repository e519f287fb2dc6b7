use Rattle.std.proofs.Common.{◌≡◌, false, None, List, [], length, take, sym, ◌∙◌, ap, subst, arith}
use Rattle.array_create_assemble.specs.raid_types_the_Fault_TheVariants.{NoMemory}
use Rattle.array_create_assemble.specs.bank_the_Operation.{Operation}
use Rattle.array_create_assemble.specs.bank_Given.{Given, sizes}
use Rattle.array_create_assemble.specs.bank_Tape.{contents}
use Rattle.array_create_assemble.specs.sb_specs_Reading.{is_reshaping}
use Rattle.array_steps.specs.stripe_row_Rows.{present}
use Rattle.array_create_assemble.specs.array_members_Flushing.{OnlyFlushesAdded, OnlyItsSlotsFail}
use Rattle.array_steps.specs.array_call_specs_Adopting.{IsAdoptable, IsAdopted}
use Rattle.array_reshaping_open_laws.specs.reshape_request_Left.{phases_of}
use Rattle.array_create_assemble.specs.declared.opening.Opened.{Opened}
use Rattle.array_create_assemble.specs.Opening.{scope_of, HasFoundNone}
use Rattle.array_create_assemble.proofs.StillFit.{found-fit}
use Rattle.array_create_assemble.proofs.Adopting.{adoptable}
use Rattle.array_create_assemble.proofs.RunningLaws.{slots-failed, ok-then}
use Rattle.array_reshaping_open_laws.specs.array_found_laws_Found.{AreElected}
use Rattle.array_reshaping_open_laws.proofs.array_found_laws_Placed.{placed-found, unlost-found, free-found}
use Rattle.array_reshaping_open_laws.specs.Opening.{AreOpenedMoving}
use Rattle.array_open.specs.Adopted.{IsMovingAdopted, IsNotAdopted}
use Rattle.array_open.specs.Found.{IsRunningFound}
use Rattle.array_open.proofs.Aside.{found-aside}
use Rattle.array_open.proofs.FoundArrays.{ok-both, err-then, err-both, opened-still, still-found, found-there, moving-found, no-memory, counts-both, none-found, not-adopted}
use Rattle.array_open.proofs.Handed.{adopted-on, back-on}
use Rattle.array_open.proofs.finding.open_running.Goals as goal

pub run_moving-requires-clause-opened : goal.run_moving-requires-clause-opened
run_moving-requires-clause-opened g c =
    let bank : Given = g.B.Bank.given c.args.bank in
    let tape : List Operation = g.B.Bank.tape c.find.new.bank in
    let opened : Opened = c.in-Ok.found in
    let found = c.in-Ok.ensures in
    subst (λ (b : Given). AreOpenedMoving g.B.Bank.tells b tape opened.given c.in-Some.slot opened.members) (sym c.find.ensures.slots)
    (found-there bank tape c.in-Some.slot c.args.backup c.in-Some.is c.args.uuid opened c.requires.few found.found (sym c.is_reshaping.ensures ∙ c.if-is_reshaping.true) found.aside found.writable found.own found.counted
    found.given.known found.sectors found.flushed)

pub run_moving-requires-clause-failed : goal.run_moving-requires-clause-failed
run_moving-requires-clause-failed g c slot known out =
    slots-failed (g.B.Bank.given c.args.bank) c.in-Ok.found.given (g.B.Bank.faults_of c.args.bank) (g.B.Bank.faults_of c.find.new.bank) c.find.ensures.counts.never_falls c.in-Ok.ensures.given
    slot (omega (arith, known, ap (λ (b : Given). b.slots) c.find.ensures.slots)) out

pub run_still-requires-clause-adoptable : goal.run_still-requires-clause-adoptable
run_still-requires-clause-adoptable g c =
    let bank : Given = g.B.Bank.given c.args.bank in
    let tape : List Operation = g.B.Bank.tape c.find.new.bank in
    let opened : Opened = c.in-Ok.found in
    let found = c.in-Ok.ensures in
    let still : is_reshaping opened.members.newest ≡ false = sym c.is_reshaping.ensures ∙ c.if-is_reshaping.false in
    let are : AreElected bank opened.given opened.members = record { few = c.requires.few; elected = found.found.elected; lost = found.found.lost; own = found.own; writable = found.writable; counted = found.counted } in
    let fit = found-fit (sizes bank).sectors (take bank.slots opened.members.own) opened.members.lost opened.members found.found.elected still in
    subst (λ (b : Given). IsAdoptable g.B.Bank.tells b tape (scope_of b c.args.backup opened.given opened.members.newest.set_uuid) opened.members) (sym c.find.ensures.slots)
    (adoptable bank tape c.args.backup c.args.uuid opened c.requires.few (opened-still bank (contents bank.start tape (length tape)) c.args.backup c.args.uuid opened found.found still) found.given.known found.flushed found.sectors
    (placed-found bank opened.given opened.members are fit) (unlost-found bank opened.given opened.members are fit) (free-found bank opened.given opened.members are fit))

pub run_still-requires-clause-failed : goal.run_still-requires-clause-failed
run_still-requires-clause-failed g c slot known out =
    slots-failed (g.B.Bank.given c.args.bank) c.in-Ok.found.given (g.B.Bank.faults_of c.args.bank) (g.B.Bank.faults_of c.find.new.bank) c.find.ensures.counts.never_falls c.in-Ok.ensures.given
    slot (omega (arith, known, ap (λ (b : Given). b.slots) c.find.ensures.slots)) out

pub run_still-requires-clause-aside : goal.run_still-requires-clause-aside
run_still-requires-clause-aside g c =
    let bank : Given = g.B.Bank.given c.args.bank in
    let tape : List Operation = g.B.Bank.tape c.find.new.bank in
    let opened : Opened = c.in-Ok.found in
    let found = c.in-Ok.ensures in
    found-aside bank (contents bank.start tape (length tape)) c.args.backup c.args.uuid opened c.requires.few found.found (sym c.is_reshaping.ensures ∙ c.if-is_reshaping.false) found.aside found.writable found.own found.counted

pub returns-else-is_reshaping-clause-found : goal.returns-else-is_reshaping-clause-found
returns-else-is_reshaping-clause-found g c =
    let tells = g.B.Bank.tells in
    let bank : Given = g.B.Bank.given c.args.bank in
    let tape : List Operation = g.B.Bank.tape c.find.new.bank in
    let opened : Opened = c.in-Ok.found in
    let found = c.in-Ok.ensures in
    ok-then c.run_still.result
    (λ run. IsAdopted tells c.find.new.bank tape opened.given c.args.backup opened.members run.parts × ((phases_of run.ahead ≡ []) × (run.limit ≡ None)))
    (λ run. IsRunningFound tells bank (g.B.Bank.tape run.parts.bank) c.args.backup c.args.uuid (g.B.Bank.faults_of c.args.bank) (g.B.Bank.faults_of run.parts.bank) run)
    (λ run did. still-found g.B.Bank.tape g.B.Bank.faults_of c.find.new.bank bank c.args.backup c.args.uuid (g.B.Bank.faults_of c.args.bank) opened
    (opened-still bank (contents bank.start tape (length tape)) c.args.backup c.args.uuid opened found.found (sym c.is_reshaping.ensures ∙ c.if-is_reshaping.false)) found.given found.named run did.0 did.1.0 did.1.1)
    (ok-both (λ run. IsAdopted tells c.find.new.bank tape opened.given c.args.backup opened.members run.parts) (λ run. (phases_of run.ahead ≡ []) × (run.limit ≡ None)) c.run_still.result c.run_still.ensures.run
    (ok-both (λ run. phases_of run.ahead ≡ []) (λ run. run.limit ≡ None) c.run_still.result c.run_still.ensures.planless c.run_still.ensures.unlimited))

pub returns-in-Some-clause-found : goal.returns-in-Some-clause-found
returns-in-Some-clause-found g c =
    let tells = g.B.Bank.tells in
    let bank : Given = g.B.Bank.given c.args.bank in
    let tape : List Operation = g.B.Bank.tape c.find.new.bank in
    let opened : Opened = c.in-Ok.found in
    let found = c.in-Ok.ensures in
    let did = c.run_moving.ensures in
    ok-then c.run_moving.result
    (λ run. IsMovingAdopted tells (g.B.Bank.given c.find.new.bank) tape opened.given c.in-Some.slot opened.members run
    × ((tells → g.B.Bank.tape run.parts.bank ≡ tape) × OnlyItsSlotsFail (g.B.Bank.given c.find.new.bank) (g.B.Bank.faults_of c.find.new.bank) (g.B.Bank.faults_of run.parts.bank)))
    (λ run. IsRunningFound tells bank (g.B.Bank.tape run.parts.bank) c.args.backup c.args.uuid (g.B.Bank.faults_of c.args.bank) (g.B.Bank.faults_of run.parts.bank) run)
    (λ run now. moving-found g.B.Bank.tape g.B.Bank.faults_of bank tape c.in-Some.slot c.args.backup c.in-Some.is c.args.uuid (g.B.Bank.faults_of c.args.bank) (g.B.Bank.faults_of c.find.new.bank) opened found.found
    (found-there bank tape c.in-Some.slot c.args.backup c.in-Some.is c.args.uuid opened c.requires.few found.found (sym c.is_reshaping.ensures ∙ c.if-is_reshaping.true) found.aside found.writable found.own found.counted
    found.given.known found.sectors found.flushed) c.find.ensures.counts.never_falls found.given found.named run now.1.0 now.1.1.never_falls
    (subst (λ (b : Given). IsMovingAdopted tells b tape opened.given c.in-Some.slot opened.members run) c.find.ensures.slots now.0))
    (ok-both (λ run. IsMovingAdopted tells (g.B.Bank.given c.find.new.bank) tape opened.given c.in-Some.slot opened.members run)
    (λ run. (tells → g.B.Bank.tape run.parts.bank ≡ tape) × OnlyItsSlotsFail (g.B.Bank.given c.find.new.bank) (g.B.Bank.faults_of c.find.new.bank) (g.B.Bank.faults_of run.parts.bank))
    c.run_moving.result did.run (ok-both (λ run. tells → g.B.Bank.tape run.parts.bank ≡ tape)
    (λ run. OnlyItsSlotsFail (g.B.Bank.given c.find.new.bank) (g.B.Bank.faults_of c.find.new.bank) (g.B.Bank.faults_of run.parts.bank)) c.run_moving.result did.tape did.counts))

pub returns-in-Some-clause-counts : goal.returns-in-Some-clause-counts
returns-in-Some-clause-counts g c =
    let bank : Given = g.B.Bank.given c.args.bank in
    ok-then c.run_moving.result (λ run. OnlyItsSlotsFail (g.B.Bank.given c.find.new.bank) (g.B.Bank.faults_of c.find.new.bank) (g.B.Bank.faults_of run.parts.bank))
    (λ run. OnlyItsSlotsFail bank (g.B.Bank.faults_of c.args.bank) (g.B.Bank.faults_of run.parts.bank))
    (λ run now. counts-both bank (g.B.Bank.faults_of c.args.bank) (g.B.Bank.faults_of c.find.new.bank) (g.B.Bank.faults_of run.parts.bank) c.find.ensures.counts
    (subst (λ (b : Given). OnlyItsSlotsFail b (g.B.Bank.faults_of c.find.new.bank) (g.B.Bank.faults_of run.parts.bank)) c.find.ensures.slots now)) c.run_moving.ensures.counts

pub returns-in-Some-clause-left_counts : goal.returns-in-Some-clause-left_counts
returns-in-Some-clause-left_counts g c =
    let bank : Given = g.B.Bank.given c.args.bank in
    err-then c.run_moving.result (λ e. OnlyItsSlotsFail (g.B.Bank.given c.find.new.bank) (g.B.Bank.faults_of c.find.new.bank) (g.B.Bank.faults_of e.0))
    (λ e. OnlyItsSlotsFail bank (g.B.Bank.faults_of c.args.bank) (g.B.Bank.faults_of e.0))
    (λ e now. counts-both bank (g.B.Bank.faults_of c.args.bank) (g.B.Bank.faults_of c.find.new.bank) (g.B.Bank.faults_of e.0) c.find.ensures.counts
    (subst (λ (b : Given). OnlyItsSlotsFail b (g.B.Bank.faults_of c.find.new.bank) (g.B.Bank.faults_of e.0)) c.find.ensures.slots now)) c.run_moving.ensures.left_counts

pub returns-in-Some-clause-refused : goal.returns-in-Some-clause-refused
returns-in-Some-clause-refused g c =
    let tells = g.B.Bank.tells in
    let bank : Given = g.B.Bank.given c.args.bank in
    let tape : List Operation = g.B.Bank.tape c.find.new.bank in
    let opened : Opened = c.in-Ok.found in
    let found = c.in-Ok.ensures in
    err-then c.run_moving.result
    (λ e. IsNotAdopted c.in-Some.slot c.find.new.bank e.0 (g.B.Bank.faults_of c.find.new.bank) (g.B.Bank.faults_of e.0) e.1
    × OnlyItsSlotsFail (g.B.Bank.given c.find.new.bank) (g.B.Bank.faults_of c.find.new.bank) (g.B.Bank.faults_of e.0))
    (λ e. HasFoundNone tells bank (present bank (g.B.Bank.tape c.args.bank)) c.args.backup c.args.uuid (g.B.Bank.faults_of c.args.bank) (g.B.Bank.faults_of e.0) e.1)
    (λ e now. none-found tells bank (present bank (g.B.Bank.tape c.args.bank)) (contents bank.start tape (length tape)) c.args.backup c.args.uuid (g.B.Bank.faults_of c.args.bank) (g.B.Bank.faults_of e.0) e.1 c.find.ensures.contents
    (not-adopted bank (contents bank.start tape (length tape)) c.in-Some.slot c.args.backup c.in-Some.is c.args.uuid (g.B.Bank.faults_of c.args.bank) (g.B.Bank.faults_of c.find.new.bank) (g.B.Bank.faults_of e.0) c.find.new.bank e.0
    opened e.1 c.requires.few found.found (sym c.is_reshaping.ensures ∙ c.if-is_reshaping.true) found.given c.find.ensures.counts.never_falls now.1.never_falls now.0))
    (err-both (λ e. IsNotAdopted c.in-Some.slot c.find.new.bank e.0 (g.B.Bank.faults_of c.find.new.bank) (g.B.Bank.faults_of e.0) e.1)
    (λ e. OnlyItsSlotsFail (g.B.Bank.given c.find.new.bank) (g.B.Bank.faults_of c.find.new.bank) (g.B.Bank.faults_of e.0)) c.run_moving.result c.run_moving.ensures.refused c.run_moving.ensures.left_counts)

pub returns-else-is_reshaping-clause-tape : goal.returns-else-is_reshaping-clause-tape
returns-else-is_reshaping-clause-tape g c =
    adopted-on g.B.Bank.tells c.find.new.bank (g.B.Bank.tape c.find.new.bank) c.in-Ok.found.given c.args.backup c.in-Ok.found.members c.run_still.result (λ b. g.B.Bank.tells → OnlyFlushesAdded (g.B.Bank.tape c.args.bank) (g.B.Bank.tape b)) c.run_still.ensures.run c.find.ensures.tape

pub returns-else-is_reshaping-clause-left_tape : goal.returns-else-is_reshaping-clause-left_tape
returns-else-is_reshaping-clause-left_tape g c =
    back-on c.find.new.bank c.run_still.result (λ b. g.B.Bank.tells → OnlyFlushesAdded (g.B.Bank.tape c.args.bank) (g.B.Bank.tape b)) c.run_still.ensures.handed_back c.find.ensures.tape

pub returns-else-is_reshaping-clause-contents : goal.returns-else-is_reshaping-clause-contents
returns-else-is_reshaping-clause-contents g c =
    adopted-on g.B.Bank.tells c.find.new.bank (g.B.Bank.tape c.find.new.bank) c.in-Ok.found.given c.args.backup c.in-Ok.found.members c.run_still.result (λ b. g.B.Bank.tells → contents (g.B.Bank.given c.args.bank).start (g.B.Bank.tape b) (length (g.B.Bank.tape b)) ≡ contents (g.B.Bank.given c.args.bank).start (g.B.Bank.tape c.args.bank) (length (g.B.Bank.tape c.args.bank))) c.run_still.ensures.run c.find.ensures.contents

pub returns-else-is_reshaping-clause-left_contents : goal.returns-else-is_reshaping-clause-left_contents
returns-else-is_reshaping-clause-left_contents g c =
    back-on c.find.new.bank c.run_still.result (λ b. g.B.Bank.tells → contents (g.B.Bank.given c.args.bank).start (g.B.Bank.tape b) (length (g.B.Bank.tape b)) ≡ contents (g.B.Bank.given c.args.bank).start (g.B.Bank.tape c.args.bank) (length (g.B.Bank.tape c.args.bank))) c.run_still.ensures.handed_back c.find.ensures.contents

pub returns-else-is_reshaping-clause-given : goal.returns-else-is_reshaping-clause-given
returns-else-is_reshaping-clause-given g c =
    adopted-on g.B.Bank.tells c.find.new.bank (g.B.Bank.tape c.find.new.bank) c.in-Ok.found.given c.args.backup c.in-Ok.found.members c.run_still.result (λ b. g.B.Bank.given b ≡ g.B.Bank.given c.args.bank) c.run_still.ensures.run c.find.ensures.slots

pub returns-else-is_reshaping-clause-left_given : goal.returns-else-is_reshaping-clause-left_given
returns-else-is_reshaping-clause-left_given g c =
    back-on c.find.new.bank c.run_still.result (λ b. g.B.Bank.given b ≡ g.B.Bank.given c.args.bank) c.run_still.ensures.handed_back c.find.ensures.slots

pub returns-else-is_reshaping-clause-counts : goal.returns-else-is_reshaping-clause-counts
returns-else-is_reshaping-clause-counts g c =
    adopted-on g.B.Bank.tells c.find.new.bank (g.B.Bank.tape c.find.new.bank) c.in-Ok.found.given c.args.backup c.in-Ok.found.members c.run_still.result (λ b. OnlyItsSlotsFail (g.B.Bank.given c.args.bank) (g.B.Bank.faults_of c.args.bank) (g.B.Bank.faults_of b)) c.run_still.ensures.run c.find.ensures.counts

pub returns-else-is_reshaping-clause-left_counts : goal.returns-else-is_reshaping-clause-left_counts
returns-else-is_reshaping-clause-left_counts g c =
    back-on c.find.new.bank c.run_still.result (λ b. OnlyItsSlotsFail (g.B.Bank.given c.args.bank) (g.B.Bank.faults_of c.args.bank) (g.B.Bank.faults_of b)) c.run_still.ensures.handed_back c.find.ensures.counts

pub returns-else-is_reshaping-clause-refused : goal.returns-else-is_reshaping-clause-refused
returns-else-is_reshaping-clause-refused g c =
    let bank : Given = g.B.Bank.given c.args.bank in
    let there = present bank (g.B.Bank.tape c.args.bank) in
    err-then c.run_still.result (λ e. e.1 ≡ NoMemory) (λ e. HasFoundNone g.B.Bank.tells bank there c.args.backup c.args.uuid (g.B.Bank.faults_of c.args.bank) (g.B.Bank.faults_of e.0) e.1)
    (λ e is. no-memory g.B.Bank.tells bank there c.args.backup c.args.uuid (g.B.Bank.faults_of c.args.bank) (g.B.Bank.faults_of e.0) e.1 is) c.run_still.ensures.short

pub returns-in-Err-clause-refused : goal.returns-in-Err-clause-refused
returns-in-Err-clause-refused g c =
    let bank : Given = g.B.Bank.given c.args.bank in
    let tape : List Operation = g.B.Bank.tape c.find.new.bank in
    none-found g.B.Bank.tells bank (present bank (g.B.Bank.tape c.args.bank)) (contents bank.start tape (length tape)) c.args.backup c.args.uuid (g.B.Bank.faults_of c.args.bank) (g.B.Bank.faults_of c.find.new.bank) c.in-Err.fault
    c.find.ensures.contents c.in-Err.ensures.refused

pub returns-in-Some-clause-tape : goal.returns-in-Some-clause-tape
returns-in-Some-clause-tape g c =
    ok-then c.run_moving.result (λ run. g.B.Bank.tells → g.B.Bank.tape run.parts.bank ≡ g.B.Bank.tape c.find.new.bank)
    (λ run. g.B.Bank.tells → OnlyFlushesAdded (g.B.Bank.tape c.args.bank) (g.B.Bank.tape run.parts.bank))
    (λ run is t. subst (λ (l : List Operation). OnlyFlushesAdded (g.B.Bank.tape c.args.bank) l) (sym (is t)) (c.find.ensures.tape t)) c.run_moving.ensures.tape

pub returns-in-Some-clause-left_tape : goal.returns-in-Some-clause-left_tape
returns-in-Some-clause-left_tape g c =
    err-then c.run_moving.result (λ e. g.B.Bank.tells → g.B.Bank.tape e.0 ≡ g.B.Bank.tape c.find.new.bank)
    (λ e. g.B.Bank.tells → OnlyFlushesAdded (g.B.Bank.tape c.args.bank) (g.B.Bank.tape e.0))
    (λ e is t. subst (λ (l : List Operation). OnlyFlushesAdded (g.B.Bank.tape c.args.bank) l) (sym (is t)) (c.find.ensures.tape t)) c.run_moving.ensures.left_tape

pub returns-in-Some-clause-contents : goal.returns-in-Some-clause-contents
returns-in-Some-clause-contents g c =
    ok-then c.run_moving.result (λ run. g.B.Bank.tells → g.B.Bank.tape run.parts.bank ≡ g.B.Bank.tape c.find.new.bank)
    (λ run. g.B.Bank.tells → contents (g.B.Bank.given c.args.bank).start (g.B.Bank.tape run.parts.bank) (length (g.B.Bank.tape run.parts.bank)) ≡ contents (g.B.Bank.given c.args.bank).start (g.B.Bank.tape c.args.bank) (length (g.B.Bank.tape c.args.bank)))
    (λ run is t. subst (λ (l : List Operation). contents (g.B.Bank.given c.args.bank).start l (length l) ≡ contents (g.B.Bank.given c.args.bank).start (g.B.Bank.tape c.args.bank) (length (g.B.Bank.tape c.args.bank))) (sym (is t)) (c.find.ensures.contents t)) c.run_moving.ensures.tape

pub returns-in-Some-clause-left_contents : goal.returns-in-Some-clause-left_contents
returns-in-Some-clause-left_contents g c =
    err-then c.run_moving.result (λ e. g.B.Bank.tells → g.B.Bank.tape e.0 ≡ g.B.Bank.tape c.find.new.bank)
    (λ e. g.B.Bank.tells → contents (g.B.Bank.given c.args.bank).start (g.B.Bank.tape e.0) (length (g.B.Bank.tape e.0)) ≡ contents (g.B.Bank.given c.args.bank).start (g.B.Bank.tape c.args.bank) (length (g.B.Bank.tape c.args.bank)))
    (λ e is t. subst (λ (l : List Operation). contents (g.B.Bank.given c.args.bank).start l (length l) ≡ contents (g.B.Bank.given c.args.bank).start (g.B.Bank.tape c.args.bank) (length (g.B.Bank.tape c.args.bank))) (sym (is t)) (c.find.ensures.contents t)) c.run_moving.ensures.left_tape

pub returns-in-Some-clause-given : goal.returns-in-Some-clause-given
returns-in-Some-clause-given g c =
    ok-then c.run_moving.result (λ run. g.B.Bank.given run.parts.bank ≡ g.B.Bank.given c.find.new.bank) (λ run. g.B.Bank.given run.parts.bank ≡ g.B.Bank.given c.args.bank) (λ run is. is ∙ c.find.ensures.slots) c.run_moving.ensures.given

pub returns-in-Some-clause-left_given : goal.returns-in-Some-clause-left_given
returns-in-Some-clause-left_given g c =
    err-then c.run_moving.result (λ e. g.B.Bank.given e.0 ≡ g.B.Bank.given c.find.new.bank) (λ e. g.B.Bank.given e.0 ≡ g.B.Bank.given c.args.bank) (λ e is. is ∙ c.find.ensures.slots) c.run_moving.ensures.left_given
