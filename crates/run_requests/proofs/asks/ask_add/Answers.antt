use Rattle.std.proofs.Common.{List, refl, ap}
use Rattle.run_specs.specs.history_the_Entry.{Entry}
use Rattle.run_specs.specs.history_the_Event_TheVariants.{Added}
use Rattle.run_specs.specs.history_the_Request_TheVariants.{Add as AsksAdd}
use Rattle.run_specs.specs.history_OneShape.{OneShapeFits}
use Rattle.run_specs.specs.sb_specs_Reading.{list_length}
use Rattle.run_specs.specs.array_specs_Parts.{RunningParts}
use Rattle.run_specs.specs.script_the_Line_TheVariants.{Add as AddLine}
use Rattle.run_specs.proofs.AskLaws.{on_no_memory, grew, asked_at, answered_reply, answered_none, spares_told, spares_short}
use Rattle.run_requests.proofs.Sizes.{sized-answered}
use Rattle.run_requests.proofs.Called.{added-length}
use Rattle.run_specs.proofs.Told.{told_added}
use Rattle.run_specs.proofs.array_reply_specs_Fitting.{fits-add}
use Rattle.run_specs.specs.reshape_request_Left.{phases_of}
use Rattle.run_specs.specs.reshape_request_the_PhasesLeft.{PhasesLeft}
use Rattle.run_specs.specs.Caused.{record_of}
use Rattle.run_requests.proofs.CausedLaws.{added-judged}
use Rattle.run_requests.proofs.Lefts.{with-spare, left-added}
use Rattle.run_specs.proofs.Turned.{told-same, told-still, asked-unstepped, asked-told}
use Rattle.run_requests.proofs.asks.ask_add.Goals as goal

pub returns-then-wants_memory-clause-asked : goal.returns-then-wants_memory-clause-asked
returns-then-wants_memory-clause-asked g c =
    answered_none (list_length c.args.array.now.parts.members.newest) (AsksAdd c.args.slot) c.script_call-who.result c.args.array.now.parts.entries c.add-answer.new.array.parts.entries (Added c.args.slot) c.add-answer.result
    c.add-answer.ensures.answered (c.wants_memory.ensures.yes c.if-wants_memory.true)

pub last_place-requires : goal.last_place-requires
last_place-requires g c =
    grew (answered_reply (list_length c.args.array.now.parts.members.newest) (AsksAdd c.args.slot) c.script_call-who.result c.args.array.now.parts.entries c.add-answer.new.array.parts.entries (Added c.args.slot) c.add-answer.result
    c.add-answer.ensures.answered (c.wants_memory.ensures.no c.if-wants_memory.false)).1

pub returns-clause-asked : goal.returns-clause-asked
returns-clause-asked g c =
    let size = list_length c.args.array.now.parts.members.newest in
    let was = answered_reply size (AsksAdd c.args.slot) c.script_call-who.result c.args.array.now.parts.entries c.add-answer.new.array.parts.entries (Added c.args.slot) c.add-answer.result
    c.add-answer.ensures.answered (c.wants_memory.ensures.no c.if-wants_memory.false) in
    asked_at (AddLine c.args.slot) c.last_place.result was.1 (λ (before : List Entry) (e : Entry) (fits : OneShapeFits size before e (AsksAdd c.args.slot)). fits-add size before e c.args.slot fits) c.script_call-who.ensures c.last_place.ensures

pub returns-then-wants_memory-clause-unchanged : goal.returns-then-wants_memory-clause-unchanged
returns-then-wants_memory-clause-unchanged g c = on_no_memory c.add-answer.result c.add-answer.ensures.unchanged (c.wants_memory.ensures.yes c.if-wants_memory.true)

pub returns-then-wants_memory-clause-spares : goal.returns-then-wants_memory-clause-spares
returns-then-wants_memory-clause-spares g c =
    spares_short c.args.array.now.parts c.add-answer.new.array.parts (ap (λ (a : RunningParts g.row.B.Denot). a.parts) (on_no_memory c.add-answer.result c.add-answer.ensures.unchanged (c.wants_memory.ensures.yes c.if-wants_memory.true)))

pub returns-clause-spares : goal.returns-clause-spares
returns-clause-spares g c =
    spares_told (list_length c.args.array.now.parts.members.newest) c.args.slot c.script_call-who.result (g.B.Bank.given c.args.array.now.parts.bank) c.args.array.now.parts.backup c.args.array.now.parts.entries c.add-answer.new.array.parts.entries c.args.array.now.parts.members c.add-answer.new.array.parts.members
    (g.B.Bank.faults_of c.args.array.now.parts.bank) (g.B.Bank.faults_of c.add-answer.new.array.parts.bank) c.add-answer.result
    c.add-answer.ensures.answered c.add-answer.ensures.caused (c.wants_memory.ensures.no c.if-wants_memory.false) c.add-answer.ensures.called.spares

pub returns-then-wants_memory-clause-told : goal.returns-then-wants_memory-clause-told
returns-then-wants_memory-clause-told g c =
    told_added c.args.array.now.parts.backup (g.B.Bank.faults_of c.args.array.now.parts.bank) (g.B.Bank.faults_of c.add-answer.new.array.parts.bank) (list_length c.args.array.now.parts.members.newest) c.args.slot c.script_call-who.result (g.B.Bank.given c.args.array.now.parts.bank) c.args.array.now.parts.backup c.args.array.now.parts.entries c.add-answer.new.array.parts.entries c.args.array.now.parts.members c.add-answer.new.array.parts.members c.add-answer.result
    c.add-answer.ensures.answered c.add-answer.ensures.caused

pub returns-then-wants_memory-clause-sized : goal.returns-then-wants_memory-clause-sized
returns-then-wants_memory-clause-sized g c =
    sized-answered (list_length c.args.array.now.parts.members.newest) (AsksAdd c.args.slot) c.script_call-who.result (Added c.args.slot) c.add-answer.result (added-length c.add-answer.ensures.called) (λ n. refl) c.add-answer.ensures.answered

pub returns-clause-told : goal.returns-clause-told
returns-clause-told g c =
    told_added c.args.array.now.parts.backup (g.B.Bank.faults_of c.args.array.now.parts.bank) (g.B.Bank.faults_of c.add-answer.new.array.parts.bank) (list_length c.args.array.now.parts.members.newest) c.args.slot c.script_call-who.result (g.B.Bank.given c.args.array.now.parts.bank) c.args.array.now.parts.backup c.args.array.now.parts.entries c.add-answer.new.array.parts.entries c.args.array.now.parts.members c.add-answer.new.array.parts.members c.add-answer.result
    c.add-answer.ensures.answered c.add-answer.ensures.caused

pub returns-clause-sized : goal.returns-clause-sized
returns-clause-sized g c =
    sized-answered (list_length c.args.array.now.parts.members.newest) (AsksAdd c.args.slot) c.script_call-who.result (Added c.args.slot) c.add-answer.result (added-length c.add-answer.ensures.called) (λ n. refl) c.add-answer.ensures.answered

pub returns-then-wants_memory-clause-turning : goal.returns-then-wants_memory-clause-turning
returns-then-wants_memory-clause-turning g c =
    told-still (on_no_memory c.add-answer.result c.add-answer.ensures.unchanged (c.wants_memory.ensures.yes c.if-wants_memory.true)) c.requires.turning

pub returns-clause-turning : goal.returns-clause-turning
returns-clause-turning g c =
    let asked = returns-clause-asked g c in
    told-same asked (asked-unstepped (AsksAdd c.args.slot) (AddLine c.args.slot) asked refl (λ fits. fits)) c.add-answer.ensures.active (ap (λ (p : PhasesLeft). phases_of p) c.add-answer.ensures.called.same.ahead) c.requires.turning

pub returns-clause-tellable : goal.returns-clause-tellable
returns-clause-tellable g c = asked-told (AsksAdd c.args.slot) (AddLine c.args.slot) (returns-clause-asked g c) refl refl (λ fits. fits)

pub returns-clause-judged : goal.returns-clause-judged
returns-clause-judged g c =
    added-judged (list_length c.args.array.now.parts.members.newest) c.script_call-who.result (g.B.Bank.given c.args.array.now.parts.bank) (record_of c.args.array.now) c.add-answer.new.array.parts.entries c.last_place.result c.last_place.ensures c.args.slot
    c.add-answer.new.array.parts.members (g.B.Bank.faults_of c.args.array.now.parts.bank) (g.B.Bank.faults_of c.add-answer.new.array.parts.bank) c.add-answer.result
    c.add-answer.ensures.answered c.add-answer.ensures.caused (c.wants_memory.ensures.no c.if-wants_memory.false)

pub returns-clause-left : goal.returns-clause-left
returns-clause-left g c =
    let did = c.add-answer.ensures in
    left-added (g.B.Bank.faults_of c.args.array.now.parts.bank) (g.B.Bank.faults_of c.add-answer.new.array.parts.bank) c.args.array.now c.add-answer.new.array c.script_call-who.result c.last_place.result c.last_place.ensures
    (list_length c.args.array.now.parts.members.newest) c.args.slot (with-spare did.called did.active did.failed) (g.B.Bank.given c.args.array.now.parts.bank) c.add-answer.result did.answered did.caused (c.wants_memory.ensures.no c.if-wants_memory.false)
