use Rattle.std.proofs.Common.{List, refl, ap}
use Rattle.run_specs.specs.history_the_Entry.{Entry}
use Rattle.run_specs.specs.history_the_Event_TheVariants.{Failed}
use Rattle.run_specs.specs.history_the_Request_TheVariants.{Fail as AsksFail}
use Rattle.run_specs.specs.history_OneShape.{OneShapeFits}
use Rattle.run_specs.specs.sb_specs_Reading.{list_length}
use Rattle.run_specs.specs.script_the_Line_TheVariants.{Fail as FailLine}
use Rattle.run_specs.proofs.AskLaws.{on_no_memory, grew, asked_at, answered_reply, answered_none}
use Rattle.run_requests.proofs.Sizes.{sized-answered}
use Rattle.run_requests.proofs.Called.{called-length}
use Rattle.run_specs.proofs.Told.{told_answered, fail_told}
use Rattle.run_specs.proofs.array_reply_specs_Fitting.{fits-fail}
use Rattle.run_specs.specs.reshape_request_Left.{phases_of}
use Rattle.run_specs.specs.reshape_request_the_PhasesLeft.{PhasesLeft}
use Rattle.run_specs.specs.Caused.{record_of}
use Rattle.run_requests.proofs.CausedLaws.{failed-judged}
use Rattle.run_requests.proofs.Lefts.{less-called, left-failed}
use Rattle.run_specs.proofs.Turned.{told-same, told-still, asked-unstepped, asked-told}
use Rattle.run_requests.proofs.asks.ask_fail.Goals as goal

pub returns-then-wants_memory-clause-asked : goal.returns-then-wants_memory-clause-asked
returns-then-wants_memory-clause-asked g c =
    answered_none (list_length c.args.array.now.parts.members.newest) (AsksFail c.args.role) c.script_call-who.result c.args.array.now.parts.entries c.fail-answer.new.array.parts.entries (Failed c.args.role) c.fail-answer.result
    c.fail-answer.ensures.answered (c.wants_memory.ensures.yes c.if-wants_memory.true)

pub last_place-requires : goal.last_place-requires
last_place-requires g c =
    grew (answered_reply (list_length c.args.array.now.parts.members.newest) (AsksFail c.args.role) c.script_call-who.result c.args.array.now.parts.entries c.fail-answer.new.array.parts.entries (Failed c.args.role) c.fail-answer.result
    c.fail-answer.ensures.answered (c.wants_memory.ensures.no c.if-wants_memory.false)).1

pub returns-clause-asked : goal.returns-clause-asked
returns-clause-asked g c =
    let size = list_length c.args.array.now.parts.members.newest in
    let was = answered_reply size (AsksFail c.args.role) c.script_call-who.result c.args.array.now.parts.entries c.fail-answer.new.array.parts.entries (Failed c.args.role) c.fail-answer.result
    c.fail-answer.ensures.answered (c.wants_memory.ensures.no c.if-wants_memory.false) in
    asked_at (FailLine c.args.role) c.last_place.result was.1 (λ (before : List Entry) (e : Entry) (fits : OneShapeFits size before e (AsksFail c.args.role)). fits-fail size before e c.args.role fits) c.script_call-who.ensures c.last_place.ensures

pub returns-then-wants_memory-clause-unchanged : goal.returns-then-wants_memory-clause-unchanged
returns-then-wants_memory-clause-unchanged g c = on_no_memory c.fail-answer.result c.fail-answer.ensures.unchanged (c.wants_memory.ensures.yes c.if-wants_memory.true)

pub returns-then-wants_memory-clause-told : goal.returns-then-wants_memory-clause-told
returns-then-wants_memory-clause-told g c =
    told_answered c.args.array.now.parts.backup (g.B.Bank.faults_of c.args.array.now.parts.bank) (g.B.Bank.faults_of c.fail-answer.new.array.parts.bank) (list_length c.args.array.now.parts.members.newest) (AsksFail c.args.role) c.script_call-who.result (Failed c.args.role) c.fail-answer.result (fail_told c.args.array.now.parts.backup (g.B.Bank.faults_of c.args.array.now.parts.bank) (g.B.Bank.faults_of c.fail-answer.new.array.parts.bank) c.args.role) c.fail-answer.ensures.answered

pub returns-then-wants_memory-clause-sized : goal.returns-then-wants_memory-clause-sized
returns-then-wants_memory-clause-sized g c =
    sized-answered (list_length c.args.array.now.parts.members.newest) (AsksFail c.args.role) c.script_call-who.result (Failed c.args.role) c.fail-answer.result (called-length c.fail-answer.ensures.called) (λ n. refl) c.fail-answer.ensures.answered

pub returns-clause-told : goal.returns-clause-told
returns-clause-told g c =
    told_answered c.args.array.now.parts.backup (g.B.Bank.faults_of c.args.array.now.parts.bank) (g.B.Bank.faults_of c.fail-answer.new.array.parts.bank) (list_length c.args.array.now.parts.members.newest) (AsksFail c.args.role) c.script_call-who.result (Failed c.args.role) c.fail-answer.result (fail_told c.args.array.now.parts.backup (g.B.Bank.faults_of c.args.array.now.parts.bank) (g.B.Bank.faults_of c.fail-answer.new.array.parts.bank) c.args.role) c.fail-answer.ensures.answered

pub returns-clause-sized : goal.returns-clause-sized
returns-clause-sized g c =
    sized-answered (list_length c.args.array.now.parts.members.newest) (AsksFail c.args.role) c.script_call-who.result (Failed c.args.role) c.fail-answer.result (called-length c.fail-answer.ensures.called) (λ n. refl) c.fail-answer.ensures.answered

pub returns-then-wants_memory-clause-turning : goal.returns-then-wants_memory-clause-turning
returns-then-wants_memory-clause-turning g c =
    told-still (on_no_memory c.fail-answer.result c.fail-answer.ensures.unchanged (c.wants_memory.ensures.yes c.if-wants_memory.true)) c.requires.turning

pub returns-clause-turning : goal.returns-clause-turning
returns-clause-turning g c =
    let asked = returns-clause-asked g c in
    told-same asked (asked-unstepped (AsksFail c.args.role) (FailLine c.args.role) asked refl (λ fits. fits)) c.fail-answer.ensures.active (ap (λ (p : PhasesLeft). phases_of p) c.fail-answer.ensures.called.same.ahead) c.requires.turning

pub returns-clause-tellable : goal.returns-clause-tellable
returns-clause-tellable g c = asked-told (AsksFail c.args.role) (FailLine c.args.role) (returns-clause-asked g c) refl refl (λ fits. fits)

pub returns-clause-judged : goal.returns-clause-judged
returns-clause-judged g c =
    failed-judged (list_length c.args.array.now.parts.members.newest) c.script_call-who.result (g.B.Bank.given c.args.array.now.parts.bank) (record_of c.args.array.now) c.fail-answer.new.array.parts.entries c.last_place.result c.last_place.ensures c.args.role
    c.fail-answer.new.array.parts.members c.fail-answer.result c.fail-answer.ensures.answered c.fail-answer.ensures.caused (c.wants_memory.ensures.no c.if-wants_memory.false)

pub returns-clause-left : goal.returns-clause-left
returns-clause-left g c =
    let did = c.fail-answer.ensures in
    left-failed (g.B.Bank.faults_of c.args.array.now.parts.bank) (g.B.Bank.faults_of c.fail-answer.new.array.parts.bank) c.args.array.now c.fail-answer.new.array c.script_call-who.result c.last_place.result c.last_place.ensures
    (list_length c.args.array.now.parts.members.newest) c.args.role (less-called did.called did.active) c.fail-answer.result did.answered did.caused (c.wants_memory.ensures.no c.if-wants_memory.false)
