use Rattle.std.proofs.Common.{◌≡◌}
use Rattle.array_open.specs.sb_specs_Reading.{list_length}
use Rattle.history_append.specs.history_the_Event_TheVariants.{Added}
use Rattle.history_append.specs.history_the_Request_TheVariants.{Add as AsksAdd}
use Rattle.array_open.specs.array_call_specs_Calls.{IsEndOf}
use Rattle.array_reply_specs.proofs.Fitting.{fits-add}
use Rattle.array_requests.proofs.Plain.{IsCallAnswered, answered-so, told-answer}
use Rattle.array_requests.proofs.Told.{told-answered, add-told}
use Rattle.array_requests.proofs.GoneOn.{plain-added, gone-added}
use Rattle.array_requests.proofs.Arms.{told-unchanged}
use Rattle.array_requests.proofs.performing.add.Given.{Over}
use Rattle.array_requests.proofs.performing.add.Goals as goal
use Rattle.array_open.proofs.Handed.{ok-any}

entered : (g : Over) (c : goal.After-told g)
    → IsCallAnswered (list_length c.args.array.now.parts.members.newest) (AsksAdd c.args.slot) c.args.who c.args.array.now.parts.entries c.add-answer.new.array.parts.entries (Added c.args.slot) c.add-answer.result
entered g c =
    answered-so (list_length c.args.array.now.parts.members.newest) (AsksAdd c.args.slot) c.args.who c.args.array.now.parts.entries c.add-answer.new.array.parts.entries (Added c.args.slot) c.add-answer.result
    (λ before e fits. fits-add (list_length c.args.array.now.parts.members.newest) before e c.args.slot fits) c.add-answer.ensures.answered

pub returns-clause-replied : goal.returns-clause-replied
returns-clause-replied g c =
    told-answer (list_length c.args.array.now.parts.members.newest) (AsksAdd c.args.slot) c.args.who c.args.array.now.parts.entries c.add-answer.new.array.parts.entries (Added c.args.slot) c.add-answer.result c.told.result c.told.ensures (entered g c)

pub returns-clause-went : goal.returns-clause-went
returns-clause-went g c =
    let old = c.args.array.now in
    let new = c.add-answer.new.array in
    let size = list_length old.parts.members.newest in
    let did = c.add-answer.ensures in
    let bank = g.B.Bank.given old.parts.bank in
    gone-added g.B.Bank.tells g.B.Bank.given g.B.Bank.tape g.B.Bank.faults_of old new size c.args.slot c.args.who bank old.parts.backup c.add-answer.result (entered g c)
    (plain-added g.B.Bank.tells g.B.Bank.given g.B.Bank.tape g.B.Bank.faults_of old new did.called did.given did.active) did.called.spares did.caused
    (told-answered old.parts.backup (g.B.Bank.faults_of old.parts.bank) (g.B.Bank.faults_of new.parts.bank) size (AsksAdd c.args.slot) c.args.who old.parts.entries new.parts.entries (Added c.args.slot) c.add-answer.result
    (add-told old.parts.backup (g.B.Bank.faults_of old.parts.bank) (g.B.Bank.faults_of new.parts.bank) size c.args.slot bank old.parts.backup old.parts.members new.parts.members c.add-answer.result did.caused) (entered g c))

pub returns-clause-unchanged : goal.returns-clause-unchanged
returns-clause-unchanged g c = told-unchanged (c.add-answer.new.array ≡ c.args.array.now) (Added c.args.slot) c.add-answer.result c.told.result c.told.ensures c.add-answer.ensures.unchanged

pub returns-clause-ended : goal.returns-clause-ended
returns-clause-ended g c = ok-any c.told.result (IsEndOf g.B.Bank.tells c.add-answer.new.array.parts.first c.add-answer.new.array.parts.entries (g.B.Bank.tape c.add-answer.new.array.parts.bank)) c.add-answer.ensures.called.ended
