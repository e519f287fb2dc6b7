use Rattle.std.proofs.Common.{refl, ◌∙◌, subst, arith, ap}
use Rattle.std.proofs.Common.{◌≡◌, ◌/◌, ℕ, List, length}
use Rattle.run_specs.specs.bank_Given.{IsFaulted}
use Rattle.run_specs.specs.raid_types_Sectors.{Sector, sectors_of}
use Rattle.run_specs.specs.sb_specs_Reading.{is_reshaping, list_length}
use Rattle.run_specs.specs.history_the_Entry.{Entry}
use Rattle.run_specs.specs.history_the_Request_TheVariants.{Write as AsksWrite}
use Rattle.run_specs.specs.history_Flat.{visible_of}
use Rattle.run_specs.specs.array_Calls.{IsWriteLackedIn}
use Rattle.run_specs.specs.array_specs_Parts.{visible_in}
use Rattle.run_specs.specs.array_reply_specs_Replies.{RunningFits}
use Rattle.run_specs.specs.script_the_Line_TheVariants.{Write as WriteLine}
use Rattle.run_specs.proofs.AskLaws.{on_no_memory, asked_with, with-grew, written_reply, written_none, seeded_count}
use Rattle.run_requests.proofs.Sizes.{sized-none, sized-written}
use Rattle.run_specs.proofs.Told.{told_none, write_told_by}
use Rattle.run_requests.proofs.Barred.{barred-backup, barred-still, barred-end}
use Rattle.run_requests.proofs.Called.{called-length, script-numbered, all-seen}
use Rattle.run_specs.specs.Caused.{record_of}
use Rattle.run_specs.specs.Records.{IsLeftAt}
use Rattle.run_specs.specs.reshape_request_Left.{phases_of}
use Rattle.run_specs.specs.reshape_request_the_PhasesLeft.{PhasesLeft}
use Rattle.run_specs.specs.script_Seeds.{seeded}
use Rattle.run_specs.proofs.Turned.{told-same, told-still, asked-unstepped, told-active, write-tellable}
use Rattle.run_requests.proofs.Lefts.{left-called, left-written}
use Rattle.run_requests.proofs.asks.ask_write.Goals as goal

pub write-answer-requires-clause-some : goal.write-answer-requires-clause-some
write-answer-requires-clause-some g c =
    let count = seeded_count c.as_bytes.result.now c.args.seed c.args.at c.args.count (c.as_bytes.ensures.sectors ∙ c.in-Ok.ensures) in omega (arith, count, c.requires.some)

pub write-answer-requires-clause-few : goal.write-answer-requires-clause-few
write-answer-requires-clause-few g c =
    let count = seeded_count c.as_bytes.result.now c.args.seed c.args.at c.args.count (c.as_bytes.ensures.sectors ∙ c.in-Ok.ensures) in omega (arith, count, c.requires.few)

pub write-answer-requires-clause-short : goal.write-answer-requires-clause-short
write-answer-requires-clause-short g c =
    let count = seeded_count c.as_bytes.result.now c.args.seed c.args.at c.args.count (c.as_bytes.ensures.sectors ∙ c.in-Ok.ensures) in omega (arith, count, c.requires.short)

pub returns-then-wants_memory-clause-asked : goal.returns-then-wants_memory-clause-asked
returns-then-wants_memory-clause-asked g c =
    written_none (list_length c.args.array.now.parts.members.newest) c.args.at (sectors_of c.as_bytes.result.now) c.script_call-who.result c.args.array.now.parts.entries c.write-answer.new.array.parts.entries c.write-answer.result
    c.write-answer.ensures.answered (c.wants_memory.ensures.yes c.if-wants_memory.true)

pub last_place-requires : goal.last_place-requires
last_place-requires g c =
    let old = c.args.array.now in
    let did = c.write-answer.ensures in
    with-grew (written_reply (list_length old.parts.members.newest) c.args.at (sectors_of c.as_bytes.result.now) c.script_call-who.result old.parts.entries c.write-answer.new.array.parts.entries c.write-answer.result
    (script-numbered old.parts.entries c.script_call-who.result c.script_call-who.ensures)
    (barred-end (visible_in old) c.args.at (visible_of (list_length old.parts.members.newest) old.parts.entries) c.as_bytes.result.now (IsWriteLackedIn old c.args.at (length c.as_bytes.result.now / 512)) old.parts.members c.write-answer.new.array.parts.members c.write-answer.result did.caused (all-seen old c.visible.ensures.sized c.visible.ensures.limited))
    did.answered (c.wants_memory.ensures.no c.if-wants_memory.false)).1

pub returns-clause-asked : goal.returns-clause-asked
returns-clause-asked g c =
    let old = c.args.array.now in
    let size = list_length old.parts.members.newest in
    let did = c.write-answer.ensures in
    let was = written_reply size c.args.at (sectors_of c.as_bytes.result.now) c.script_call-who.result old.parts.entries c.write-answer.new.array.parts.entries c.write-answer.result
    (script-numbered old.parts.entries c.script_call-who.result c.script_call-who.ensures)
    (barred-end (visible_in old) c.args.at (visible_of size old.parts.entries) c.as_bytes.result.now (IsWriteLackedIn old c.args.at (length c.as_bytes.result.now / 512)) old.parts.members c.write-answer.new.array.parts.members c.write-answer.result did.caused (all-seen old c.visible.ensures.sized c.visible.ensures.limited))
    did.answered (c.wants_memory.ensures.no c.if-wants_memory.false) in
    asked_with (WriteLine c.args.at c.args.count c.args.seed) c.last_place.result was.1
    (λ (before : List Entry) (e : Entry) (fits : RunningFits size before e (AsksWrite c.args.at (sectors_of c.as_bytes.result.now))). subst (λ (b : List Sector). RunningFits size before e (AsksWrite c.args.at b)) (c.as_bytes.ensures.sectors ∙ c.in-Ok.ensures) fits)
    c.script_call-who.ensures c.last_place.ensures

pub returns-then-wants_memory-clause-unchanged : goal.returns-then-wants_memory-clause-unchanged
returns-then-wants_memory-clause-unchanged g c = on_no_memory c.write-answer.result c.write-answer.ensures.unchanged (c.wants_memory.ensures.yes c.if-wants_memory.true)

pub returns-then-wants_memory-clause-told : goal.returns-then-wants_memory-clause-told
returns-then-wants_memory-clause-told g c =
    let old = c.args.array.now in
    let did = c.write-answer.ensures in
    let size = list_length old.parts.members.newest in
    let before = g.B.Bank.faults_of old.parts.bank in
    let now = g.B.Bank.faults_of c.write-answer.new.array.parts.bank in
    write_told_by old.parts.backup before now size c.args.at (sectors_of c.as_bytes.result.now) c.script_call-who.result c.write-answer.result
    (λ barred. barred-backup (is_reshaping old.parts.members.newest) old.parts.backup (λ slot. IsFaulted slot before now)
    (barred-still size c.args.at (sectors_of c.as_bytes.result.now) c.script_call-who.result old.parts.entries c.write-answer.new.array.parts.entries (is_reshaping old.parts.members.newest) c.write-answer.result did.answered_still barred)
    did.backed (did.backup barred)) did.answered

pub returns-then-wants_memory-clause-sized : goal.returns-then-wants_memory-clause-sized
returns-then-wants_memory-clause-sized g c =
    sized-written (list_length c.args.array.now.parts.members.newest) c.args.at (sectors_of c.as_bytes.result.now) c.script_call-who.result c.write-answer.result (called-length c.write-answer.ensures.called) c.write-answer.ensures.answered

pub returns-clause-told : goal.returns-clause-told
returns-clause-told g c =
    let old = c.args.array.now in
    let did = c.write-answer.ensures in
    let size = list_length old.parts.members.newest in
    let before = g.B.Bank.faults_of old.parts.bank in
    let now = g.B.Bank.faults_of c.write-answer.new.array.parts.bank in
    write_told_by old.parts.backup before now size c.args.at (sectors_of c.as_bytes.result.now) c.script_call-who.result c.write-answer.result
    (λ barred. barred-backup (is_reshaping old.parts.members.newest) old.parts.backup (λ slot. IsFaulted slot before now)
    (barred-still size c.args.at (sectors_of c.as_bytes.result.now) c.script_call-who.result old.parts.entries c.write-answer.new.array.parts.entries (is_reshaping old.parts.members.newest) c.write-answer.result did.answered_still barred)
    did.backed (did.backup barred)) did.answered

pub returns-clause-sized : goal.returns-clause-sized
returns-clause-sized g c =
    sized-written (list_length c.args.array.now.parts.members.newest) c.args.at (sectors_of c.as_bytes.result.now) c.script_call-who.result c.write-answer.result (called-length c.write-answer.ensures.called) c.write-answer.ensures.answered

pub returns-in-Err-clause-told : goal.returns-in-Err-clause-told
returns-in-Err-clause-told g c = told_none c.args.array.now.parts.backup (g.B.Bank.faults_of c.args.array.now.parts.bank) (g.B.Bank.faults_of c.args.array.now.parts.bank) refl

pub returns-in-Err-clause-sized : goal.returns-in-Err-clause-sized
returns-in-Err-clause-sized g c = sized-none refl refl

pub returns-then-wants_memory-clause-turning : goal.returns-then-wants_memory-clause-turning
returns-then-wants_memory-clause-turning g c =
    told-still (on_no_memory c.write-answer.result c.write-answer.ensures.unchanged (c.wants_memory.ensures.yes c.if-wants_memory.true)) c.requires.turning

pub returns-clause-turning : goal.returns-clause-turning
returns-clause-turning g c =
    let asked = returns-clause-asked g c in
    told-same asked (asked-unstepped (AsksWrite c.args.at (seeded c.args.seed c.args.at c.args.count)) (WriteLine c.args.at c.args.count c.args.seed) asked refl (λ fits. fits)) c.write-answer.ensures.active (ap (λ (p : PhasesLeft). phases_of p) c.write-answer.ensures.called.same.ahead) c.requires.turning

pub returns-clause-tellable : goal.returns-clause-tellable
returns-clause-tellable g c =
    let old = c.args.array.now in
    let did = c.write-answer.ensures in
    write-tellable (list_length old.parts.members.newest) c.args.at (sectors_of c.as_bytes.result.now) c.script_call-who.result old.parts.entries c.write-answer.new.array.parts.entries c.write-answer.result c.last_place.result
    did.answered (c.wants_memory.ensures.no c.if-wants_memory.false) (λ barred. told-active (is_reshaping old.parts.members.newest) (phases_of old.ahead) old.parts.entries c.requires.turning (did.barred barred)) c.last_place.ensures

pub returns-clause-left : goal.returns-clause-left
returns-clause-left g c =
    let old = c.args.array.now in
    let new = c.write-answer.new.array in
    let did = c.write-answer.ensures in
    let count : length c.as_bytes.result.now / 512 ≡ c.args.count = seeded_count c.as_bytes.result.now c.args.seed c.args.at c.args.count (c.as_bytes.ensures.sectors ∙ c.in-Ok.ensures) in
    subst (λ (n : ℕ). IsLeftAt (g.B.Bank.faults_of old.parts.bank) (g.B.Bank.faults_of new.parts.bank) (record_of old) (record_of new) (WriteLine c.args.at n c.args.seed) new.parts.entries c.last_place.result) count
    (left-written (g.B.Bank.faults_of old.parts.bank) (g.B.Bank.faults_of new.parts.bank) old new c.script_call-who.result c.last_place.result c.last_place.ensures (list_length old.parts.members.newest) (left-called did.called did.active did.failed)
    c.args.at (length c.as_bytes.result.now / 512) c.args.seed (sectors_of c.as_bytes.result.now) c.write-answer.result did.answered did.caused (c.wants_memory.ensures.no c.if-wants_memory.false))
