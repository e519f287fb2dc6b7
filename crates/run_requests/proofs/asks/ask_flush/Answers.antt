use Rattle.std.proofs.Common.{List, refl, ap}
use Rattle.run_specs.specs.history_the_Entry.{Entry}
use Rattle.run_specs.specs.history_the_Event_TheVariants.{Flushed}
use Rattle.run_specs.specs.history_the_Request_TheVariants.{Flush as AsksFlush}
use Rattle.run_specs.specs.history_OneShape.{OneShapeFits}
use Rattle.run_specs.specs.sb_specs_Reading.{list_length}
use Rattle.run_specs.specs.script_the_Line_TheVariants.{Flush as FlushLine}
use Rattle.run_specs.proofs.AskLaws.{on_no_memory, grew, asked_at, answered_reply, answered_none}
use Rattle.run_requests.proofs.Sizes.{sized-answered}
use Rattle.run_requests.proofs.Called.{called-length}
use Rattle.run_specs.proofs.Told.{told_answered, flush_told}
use Rattle.run_specs.proofs.array_reply_specs_Fitting.{fits-flush}
use Rattle.run_specs.specs.reshape_request_Left.{phases_of}
use Rattle.run_specs.specs.reshape_request_the_PhasesLeft.{PhasesLeft}
use Rattle.run_specs.proofs.Turned.{told-same, told-still, asked-unstepped, asked-told}
use Rattle.run_requests.proofs.Lefts.{left-called, left-flushed}
use Rattle.run_requests.proofs.asks.ask_flush.Goals as goal

pub returns-then-wants_memory-clause-asked : goal.returns-then-wants_memory-clause-asked
returns-then-wants_memory-clause-asked g c =
    answered_none (list_length c.args.array.now.parts.members.newest) AsksFlush c.script_call-who.result c.args.array.now.parts.entries c.flush-answer.new.array.parts.entries Flushed c.flush-answer.result
    c.flush-answer.ensures.answered (c.wants_memory.ensures.yes c.if-wants_memory.true)

pub last_place-requires : goal.last_place-requires
last_place-requires g c =
    grew (answered_reply (list_length c.args.array.now.parts.members.newest) AsksFlush c.script_call-who.result c.args.array.now.parts.entries c.flush-answer.new.array.parts.entries Flushed c.flush-answer.result
    c.flush-answer.ensures.answered (c.wants_memory.ensures.no c.if-wants_memory.false)).1

pub returns-clause-asked : goal.returns-clause-asked
returns-clause-asked g c =
    let size = list_length c.args.array.now.parts.members.newest in
    let was = answered_reply size AsksFlush c.script_call-who.result c.args.array.now.parts.entries c.flush-answer.new.array.parts.entries Flushed c.flush-answer.result
    c.flush-answer.ensures.answered (c.wants_memory.ensures.no c.if-wants_memory.false) in
    asked_at FlushLine c.last_place.result was.1 (λ (before : List Entry) (e : Entry) (fits : OneShapeFits size before e AsksFlush). fits-flush size before e fits) c.script_call-who.ensures c.last_place.ensures

pub returns-then-wants_memory-clause-unchanged : goal.returns-then-wants_memory-clause-unchanged
returns-then-wants_memory-clause-unchanged g c = on_no_memory c.flush-answer.result c.flush-answer.ensures.unchanged (c.wants_memory.ensures.yes c.if-wants_memory.true)

pub returns-then-wants_memory-clause-told : goal.returns-then-wants_memory-clause-told
returns-then-wants_memory-clause-told g c =
    told_answered c.args.array.now.parts.backup (g.B.Bank.faults_of c.args.array.now.parts.bank) (g.B.Bank.faults_of c.flush-answer.new.array.parts.bank) (list_length c.args.array.now.parts.members.newest) AsksFlush c.script_call-who.result Flushed c.flush-answer.result (flush_told c.args.array.now.parts.backup (g.B.Bank.faults_of c.args.array.now.parts.bank) (g.B.Bank.faults_of c.flush-answer.new.array.parts.bank)) c.flush-answer.ensures.answered

pub returns-then-wants_memory-clause-sized : goal.returns-then-wants_memory-clause-sized
returns-then-wants_memory-clause-sized g c =
    sized-answered (list_length c.args.array.now.parts.members.newest) AsksFlush c.script_call-who.result Flushed c.flush-answer.result (called-length c.flush-answer.ensures.called) (λ n. refl) c.flush-answer.ensures.answered

pub returns-clause-told : goal.returns-clause-told
returns-clause-told g c =
    told_answered c.args.array.now.parts.backup (g.B.Bank.faults_of c.args.array.now.parts.bank) (g.B.Bank.faults_of c.flush-answer.new.array.parts.bank) (list_length c.args.array.now.parts.members.newest) AsksFlush c.script_call-who.result Flushed c.flush-answer.result (flush_told c.args.array.now.parts.backup (g.B.Bank.faults_of c.args.array.now.parts.bank) (g.B.Bank.faults_of c.flush-answer.new.array.parts.bank)) c.flush-answer.ensures.answered

pub returns-clause-sized : goal.returns-clause-sized
returns-clause-sized g c =
    sized-answered (list_length c.args.array.now.parts.members.newest) AsksFlush c.script_call-who.result Flushed c.flush-answer.result (called-length c.flush-answer.ensures.called) (λ n. refl) c.flush-answer.ensures.answered

pub returns-then-wants_memory-clause-turning : goal.returns-then-wants_memory-clause-turning
returns-then-wants_memory-clause-turning g c =
    told-still (on_no_memory c.flush-answer.result c.flush-answer.ensures.unchanged (c.wants_memory.ensures.yes c.if-wants_memory.true)) c.requires.turning

pub returns-clause-turning : goal.returns-clause-turning
returns-clause-turning g c =
    let asked = returns-clause-asked g c in
    told-same asked (asked-unstepped AsksFlush FlushLine asked refl (λ fits. fits)) c.flush-answer.ensures.active (ap (λ (p : PhasesLeft). phases_of p) c.flush-answer.ensures.called.same.ahead) c.requires.turning

pub returns-clause-tellable : goal.returns-clause-tellable
returns-clause-tellable g c = asked-told AsksFlush FlushLine (returns-clause-asked g c) refl refl (λ fits. fits)

pub returns-clause-left : goal.returns-clause-left
returns-clause-left g c =
    let old = c.args.array.now in
    let new = c.flush-answer.new.array in
    let did = c.flush-answer.ensures in
    left-flushed (g.B.Bank.faults_of old.parts.bank) (g.B.Bank.faults_of new.parts.bank) old new c.script_call-who.result c.last_place.result c.last_place.ensures (list_length old.parts.members.newest) (left-called did.called did.active did.failed)
    c.flush-answer.result did.answered did.caused (c.wants_memory.ensures.no c.if-wants_memory.false)
