use Rattle.run_requests.proofs.Statuses.{shown_detail, shown_mdstat, shown_told}
use Rattle.std.proofs.Common.{◌++◌, refl, ap}
use Rattle.run_specs.specs.array_specs_Parts.{RunningParts}
use Rattle.run_requests.proofs.Sizes.{sized-none, sized-entered}
use Rattle.run_specs.proofs.Told.{told_none, told_entered}
use Rattle.run_requests.proofs.Called.{reshape-length}
use Rattle.run_specs.specs.sb_specs_the_Members.{Members}
use Rattle.run_specs.specs.sb_specs_Reading.{is_reshaping, list_length}
use Rattle.run_specs.specs.reshape_request_Left.{phases_of}
use Rattle.run_specs.specs.reshape_request_the_PhasesLeft.{PhasesLeft}
use Rattle.run_specs.proofs.Turned.{told-same, told-still, asked-tellable, shown-unstepped, shown-told}
use Rattle.run_requests.proofs.Lefts.{left-untouched}
use Rattle.run_requests.proofs.shows.ask_show.Goals as goal

pub returns-clause-asked : goal.returns-clause-asked
returns-clause-asked g c =
    let did = c.in-Ok.ensures in
    shown_detail c.args.array.now c.status.new.array.parts.entries c.last_place.result c.script_call-who.result c.in-Ok.status c.script_call-who.ensures did.entered did.told c.last_place.ensures c.visible.ensures.sized c.visible.ensures.limited did.few.0 did.few.1

pub returns-clause-asked_brief : goal.returns-clause-asked_brief
returns-clause-asked_brief g c =
    let did = c.in-Ok.ensures in
    shown_mdstat c.args.array.now c.status.new.array.parts.entries c.last_place.result c.script_call-who.result c.in-Ok.status c.script_call-who.ensures did.entered did.told c.last_place.ensures c.visible.ensures.sized c.visible.ensures.limited did.few.0 did.few.1

pub returns-clause-shown : goal.returns-clause-shown
returns-clause-shown g c =
    let did = c.in-Ok.ensures in
    shown_told c.args.array.now c.status.new.array.parts.entries c.last_place.result c.script_call-who.result c.in-Ok.status c.script_call-who.ensures did.entered did.told c.last_place.ensures c.visible.ensures.sized c.visible.ensures.limited did.few.0 did.few.1

pub returns-clause-told : goal.returns-clause-told
returns-clause-told g c = told_entered c.args.array.now.parts.backup (g.B.Bank.faults_of c.args.array.now.parts.bank) (g.B.Bank.faults_of c.status.new.array.parts.bank) c.in-Ok.ensures.entered tt

pub returns-in-Err-clause-told : goal.returns-in-Err-clause-told
returns-in-Err-clause-told g c =
    told_none c.args.array.now.parts.backup (g.B.Bank.faults_of c.args.array.now.parts.bank) (g.B.Bank.faults_of c.status.new.array.parts.bank) (ap (λ (a : RunningParts g.row.B.Denot). a.parts.entries) c.in-Err.ensures.unchanged)

pub returns-clause-sized : goal.returns-clause-sized
returns-clause-sized g c = sized-entered (reshape-length c.in-Ok.ensures.same) (λ n. refl) c.in-Ok.ensures.entered

pub returns-in-Err-clause-sized : goal.returns-in-Err-clause-sized
returns-in-Err-clause-sized g c = sized-none (reshape-length c.in-Err.ensures.same) (ap (λ (a : RunningParts g.row.B.Denot). a.parts.entries) c.in-Err.ensures.unchanged)

pub returns-clause-turning : goal.returns-clause-turning
returns-clause-turning g c =
    let asked = returns-clause-asked g c in
    let did = c.in-Ok.ensures in
    told-same asked (shown-unstepped (list_length c.args.array.now.parts.members.newest) (c.args.array.now.parts.entries ++ asked.inner) asked.event asked.fits) (ap (λ (m : Members). is_reshaping m.newest) did.members) (ap (λ (p : PhasesLeft). phases_of p) did.same.ahead) c.requires.turning

pub returns-clause-tellable : goal.returns-clause-tellable
returns-clause-tellable g c =
    let asked = returns-clause-asked g c in
    asked-tellable asked (shown-told (list_length c.args.array.now.parts.members.newest) (c.args.array.now.parts.entries ++ asked.inner) asked.event asked.fits)

pub returns-in-Err-clause-turning : goal.returns-in-Err-clause-turning
returns-in-Err-clause-turning g c = told-still c.in-Err.ensures.unchanged c.requires.turning

pub returns-clause-left : goal.returns-clause-left
returns-clause-left g c =
    let did = c.in-Ok.ensures in
    left-untouched did.same did.members did.work
