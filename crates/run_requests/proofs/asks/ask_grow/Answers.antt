use Rattle.std.proofs.Common.{length, refl, sym}
use Rattle.run_specs.specs.sb_specs_Reading.{list_length}
use Rattle.run_specs.specs.history_the_Event_TheVariants.{Planned}
use Rattle.run_specs.specs.history_the_Request_TheVariants.{Grow as AsksGrow}
use Rattle.run_specs.specs.script_the_Line_TheVariants.{Grow as GrowLine}
use Rattle.run_specs.specs.reshape_request_Left.{phases_of}
use Rattle.run_specs.specs.array_Calls.{running_left}
use Rattle.run_specs.specs.array_specs_Calls.{moving_world}
use Rattle.run_specs.specs.Caused.{record_of}
use Rattle.run_specs.proofs.AskLaws.{on_no_memory, asked_with, with-grew}
use Rattle.run_requests.proofs.Called.{replied-some, replied-none, all-seen}
use Rattle.run_requests.proofs.Lefts.{left-planned}
use Rattle.run_requests.proofs.CausedLaws.{grown-judged}
use Rattle.run_specs.proofs.Turned.{told-still, told-grown, asked-unstepped, asked-told}
use Rattle.run_requests.proofs.asks.ask_grow.Goals as goal

pub returns-then-wants_memory-clause-asked : goal.returns-then-wants_memory-clause-asked
returns-then-wants_memory-clause-asked g c =
    replied-none (list_length c.args.array.now.parts.members.newest) (AsksGrow c.args.wish) c.script_call-who.result c.args.array.now.parts.entries c.plan_grow-answer.new.array.parts.entries (Planned (running_left c.plan_grow-answer.new.array) c.args.wish) c.plan_grow-answer.result
    c.plan_grow-answer.ensures.answered (c.wants_memory.ensures.yes c.if-wants_memory.true)

pub last_place-requires : goal.last_place-requires
last_place-requires g c =
    with-grew (replied-some (list_length c.args.array.now.parts.members.newest) (AsksGrow c.args.wish) c.script_call-who.result c.args.array.now.parts.entries c.plan_grow-answer.new.array.parts.entries (Planned (running_left c.plan_grow-answer.new.array) c.args.wish) c.plan_grow-answer.result
    c.plan_grow-answer.ensures.answered (c.wants_memory.ensures.no c.if-wants_memory.false)).1

pub returns-clause-asked : goal.returns-clause-asked
returns-clause-asked g c =
    asked_with (GrowLine c.args.wish) c.last_place.result
    (replied-some (list_length c.args.array.now.parts.members.newest) (AsksGrow c.args.wish) c.script_call-who.result c.args.array.now.parts.entries c.plan_grow-answer.new.array.parts.entries (Planned (running_left c.plan_grow-answer.new.array) c.args.wish) c.plan_grow-answer.result
    c.plan_grow-answer.ensures.answered (c.wants_memory.ensures.no c.if-wants_memory.false)).1
    (λ before e fits. fits) c.script_call-who.ensures c.last_place.ensures

pub returns-then-wants_memory-clause-unchanged : goal.returns-then-wants_memory-clause-unchanged
returns-then-wants_memory-clause-unchanged g c = on_no_memory c.plan_grow-answer.result c.plan_grow-answer.ensures.unchanged (c.wants_memory.ensures.yes c.if-wants_memory.true)

pub returns-then-wants_memory-clause-turning : goal.returns-then-wants_memory-clause-turning
returns-then-wants_memory-clause-turning g c =
    told-still (on_no_memory c.plan_grow-answer.result c.plan_grow-answer.ensures.unchanged (c.wants_memory.ensures.yes c.if-wants_memory.true)) c.requires.turning

pub returns-clause-turning : goal.returns-clause-turning
returns-clause-turning g c =
    let asked = returns-clause-asked g c in
    told-grown g.B.Bank.tells g.B.Bank.given g.B.Bank.tape g.B.Bank.faults_of c.args.array.now c.plan_grow-answer.new.array c.plan_grow-answer.ensures.went c.requires.turning asked
    (asked-unstepped (AsksGrow c.args.wish) (GrowLine c.args.wish) asked refl (λ fits. fits))

pub returns-clause-tellable : goal.returns-clause-tellable
returns-clause-tellable g c = asked-told (AsksGrow c.args.wish) (GrowLine c.args.wish) (returns-clause-asked g c) refl refl (λ fits. fits)

pub returns-clause-judged : goal.returns-clause-judged
returns-clause-judged g c =
    let did = c.plan_grow-answer.ensures in
    let old = c.args.array.now in
    let new = c.plan_grow-answer.new.array in
    grown-judged (list_length old.parts.members.newest) c.script_call-who.result (g.B.Bank.given old.parts.bank) (record_of old) new.parts.entries c.last_place.result c.last_place.ensures c.args.wish
    (sym (all-seen old c.visible.ensures.sized c.visible.ensures.limited))
    g.B.Bank.tells (moving_world (g.B.Bank.given old.parts.bank) (g.B.Bank.tape old.parts.bank) old) (moving_world (g.B.Bank.given new.parts.bank) (g.B.Bank.tape new.parts.bank) new) (g.B.Bank.given new.parts.bank) new c.plan_grow-answer.result
    did.fits did.judged did.planned did.left did.as_before.members (c.wants_memory.ensures.no c.if-wants_memory.false)

pub returns-clause-left : goal.returns-clause-left
returns-clause-left g c =
    let did = c.plan_grow-answer.ensures in
    let old = c.args.array.now in
    let new = c.plan_grow-answer.new.array in
    left-planned (g.B.Bank.faults_of old.parts.bank) (g.B.Bank.faults_of new.parts.bank) old new c.script_call-who.result c.last_place.result c.last_place.ensures
    g.B.Bank.tells (moving_world (g.B.Bank.given old.parts.bank) (g.B.Bank.tape old.parts.bank) old) (moving_world (g.B.Bank.given new.parts.bank) (g.B.Bank.tape new.parts.bank) new) (g.B.Bank.given new.parts.bank)
    (length (phases_of old.ahead)) old.parts.members c.args.wish c.plan_grow-answer.result did.fits did.as_before did.limit did.planned did.refused (c.wants_memory.ensures.no c.if-wants_memory.false)
