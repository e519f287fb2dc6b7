use Rattle.std.proofs.Common.{length, refl}
use Rattle.run_specs.specs.sb_specs_Reading.{list_length}
use Rattle.run_specs.specs.history_the_Event_TheVariants.{Visible}
use Rattle.run_specs.specs.history_the_Request_TheVariants.{Visible as AsksVisible}
use Rattle.run_specs.specs.script_the_Line_TheVariants.{ArraySize as ArraySizeLine}
use Rattle.run_specs.specs.reshape_request_Left.{phases_of}
use Rattle.run_specs.specs.array_specs_Calls.{moving_world}
use Rattle.run_specs.specs.array_specs_Parts.{visible_in}
use Rattle.run_specs.specs.Caused.{record_of}
use Rattle.run_specs.proofs.AskLaws.{on_no_memory, asked_with, with-grew}
use Rattle.run_requests.proofs.Called.{replied-some, replied-none}
use Rattle.run_requests.proofs.Lefts.{left-limited}
use Rattle.run_requests.proofs.CausedLaws.{visible-judged}
use Rattle.run_specs.proofs.Turned.{told-still, told-grown, asked-unstepped, asked-told}
use Rattle.run_requests.proofs.asks.ask_visible.Goals as goal

pub returns-then-wants_memory-clause-asked : goal.returns-then-wants_memory-clause-asked
returns-then-wants_memory-clause-asked g c =
    replied-none (list_length c.args.array.now.parts.members.newest) (AsksVisible c.args.limit) c.script_call-who.result c.args.array.now.parts.entries c.set_visible-answer.new.array.parts.entries (Visible c.args.limit (visible_in c.set_visible-answer.new.array)) c.set_visible-answer.result
    c.set_visible-answer.ensures.answered (c.wants_memory.ensures.yes c.if-wants_memory.true)

pub last_place-requires : goal.last_place-requires
last_place-requires g c =
    with-grew (replied-some (list_length c.args.array.now.parts.members.newest) (AsksVisible c.args.limit) c.script_call-who.result c.args.array.now.parts.entries c.set_visible-answer.new.array.parts.entries (Visible c.args.limit (visible_in c.set_visible-answer.new.array)) c.set_visible-answer.result
    c.set_visible-answer.ensures.answered (c.wants_memory.ensures.no c.if-wants_memory.false)).1

pub returns-clause-asked : goal.returns-clause-asked
returns-clause-asked g c =
    asked_with (ArraySizeLine c.args.limit) c.last_place.result
    (replied-some (list_length c.args.array.now.parts.members.newest) (AsksVisible c.args.limit) c.script_call-who.result c.args.array.now.parts.entries c.set_visible-answer.new.array.parts.entries (Visible c.args.limit (visible_in c.set_visible-answer.new.array)) c.set_visible-answer.result
    c.set_visible-answer.ensures.answered (c.wants_memory.ensures.no c.if-wants_memory.false)).1
    (λ before e fits. fits) c.script_call-who.ensures c.last_place.ensures

pub returns-then-wants_memory-clause-unchanged : goal.returns-then-wants_memory-clause-unchanged
returns-then-wants_memory-clause-unchanged g c = on_no_memory c.set_visible-answer.result c.set_visible-answer.ensures.unchanged (c.wants_memory.ensures.yes c.if-wants_memory.true)

pub returns-then-wants_memory-clause-turning : goal.returns-then-wants_memory-clause-turning
returns-then-wants_memory-clause-turning g c =
    told-still (on_no_memory c.set_visible-answer.result c.set_visible-answer.ensures.unchanged (c.wants_memory.ensures.yes c.if-wants_memory.true)) c.requires.turning

pub returns-clause-turning : goal.returns-clause-turning
returns-clause-turning g c =
    let asked = returns-clause-asked g c in
    told-grown g.B.Bank.tells g.B.Bank.given g.B.Bank.tape g.B.Bank.faults_of c.args.array.now c.set_visible-answer.new.array c.set_visible-answer.ensures.went c.requires.turning asked
    (asked-unstepped (AsksVisible c.args.limit) (ArraySizeLine c.args.limit) asked refl (λ fits. fits))

pub returns-clause-tellable : goal.returns-clause-tellable
returns-clause-tellable g c = asked-told (AsksVisible c.args.limit) (ArraySizeLine c.args.limit) (returns-clause-asked g c) refl refl (λ fits. fits)

pub returns-clause-judged : goal.returns-clause-judged
returns-clause-judged g c =
    let did = c.set_visible-answer.ensures in
    let old = c.args.array.now in
    visible-judged (list_length old.parts.members.newest) c.script_call-who.result (g.B.Bank.given old.parts.bank) (record_of old) c.set_visible-answer.new.array.parts.entries c.last_place.result c.last_place.ensures
    g.B.Bank.tells (moving_world (g.B.Bank.given old.parts.bank) (g.B.Bank.tape old.parts.bank) old) (length (phases_of old.ahead)) old.parts.members c.args.limit old c.set_visible-answer.new.array c.set_visible-answer.result
    did.fits did.judged did.limited refl (c.wants_memory.ensures.no c.if-wants_memory.false)

pub returns-clause-left : goal.returns-clause-left
returns-clause-left g c =
    let did = c.set_visible-answer.ensures in
    let old = c.args.array.now in
    left-limited (g.B.Bank.faults_of old.parts.bank) (g.B.Bank.faults_of c.set_visible-answer.new.array.parts.bank) old c.set_visible-answer.new.array c.script_call-who.result c.last_place.result c.last_place.ensures
    g.B.Bank.tells (moving_world (g.B.Bank.given old.parts.bank) (g.B.Bank.tape old.parts.bank) old) (length (phases_of old.ahead)) old.parts.members c.args.limit c.set_visible-answer.result
    did.fits did.limited (c.wants_memory.ensures.no c.if-wants_memory.false)
