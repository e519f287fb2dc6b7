use Rattle.std.proofs.Common.{◌≡◌}
use Rattle.array_open.specs.sb_specs_Reading.{list_length}
use Rattle.history_append.specs.history_the_Event_TheVariants.{Failed}
use Rattle.history_append.specs.history_the_Request_TheVariants.{Fail as AsksFail}
use Rattle.array_open.specs.array_call_specs_Calls.{IsEndOf}
use Rattle.array_reply_specs.proofs.Fitting.{fits-fail}
use Rattle.array_requests.proofs.Plain.{IsCallAnswered, answered-so, told-answer}
use Rattle.array_requests.proofs.Told.{told-answered, fail-told}
use Rattle.array_requests.proofs.GoneOn.{plain-called, gone-answered}
use Rattle.array_requests.proofs.Arms.{told-unchanged}
use Rattle.array_requests.proofs.performing.fail.Given.{Over}
use Rattle.array_requests.proofs.performing.fail.Goals as goal
use Rattle.array_open.proofs.Handed.{ok-any}

entered : (g : Over) (c : goal.After-told g)
    → IsCallAnswered (list_length c.args.array.now.parts.members.newest) (AsksFail c.args.role) c.args.who c.args.array.now.parts.entries c.fail-answer.new.array.parts.entries (Failed c.args.role) c.fail-answer.result
entered g c =
    answered-so (list_length c.args.array.now.parts.members.newest) (AsksFail c.args.role) c.args.who c.args.array.now.parts.entries c.fail-answer.new.array.parts.entries (Failed c.args.role) c.fail-answer.result
    (λ before e fits. fits-fail (list_length c.args.array.now.parts.members.newest) before e c.args.role fits) c.fail-answer.ensures.answered

pub returns-clause-replied : goal.returns-clause-replied
returns-clause-replied g c =
    told-answer (list_length c.args.array.now.parts.members.newest) (AsksFail c.args.role) c.args.who c.args.array.now.parts.entries c.fail-answer.new.array.parts.entries (Failed c.args.role) c.fail-answer.result c.told.result c.told.ensures (entered g c)

pub returns-clause-went : goal.returns-clause-went
returns-clause-went g c =
    let old = c.args.array.now in
    let new = c.fail-answer.new.array in
    let size = list_length old.parts.members.newest in
    let did = c.fail-answer.ensures in
    gone-answered g.B.Bank.tells g.B.Bank.given g.B.Bank.tape g.B.Bank.faults_of old new size (AsksFail c.args.role) c.args.who (Failed c.args.role) c.fail-answer.result (entered g c)
    (plain-called g.B.Bank.tells g.B.Bank.given g.B.Bank.tape g.B.Bank.faults_of old new did.called did.given did.active) did.called.spares
    (told-answered old.parts.backup (g.B.Bank.faults_of old.parts.bank) (g.B.Bank.faults_of new.parts.bank) size (AsksFail c.args.role) c.args.who old.parts.entries new.parts.entries (Failed c.args.role) c.fail-answer.result
    (fail-told old.parts.backup (g.B.Bank.faults_of old.parts.bank) (g.B.Bank.faults_of new.parts.bank) size c.args.role (Failed c.args.role) c.fail-answer.result) (entered g c))

pub returns-clause-unchanged : goal.returns-clause-unchanged
returns-clause-unchanged g c = told-unchanged (c.fail-answer.new.array ≡ c.args.array.now) (Failed c.args.role) c.fail-answer.result c.told.result c.told.ensures c.fail-answer.ensures.unchanged

pub returns-clause-ended : goal.returns-clause-ended
returns-clause-ended g c = ok-any c.told.result (IsEndOf g.B.Bank.tells c.fail-answer.new.array.parts.first c.fail-answer.new.array.parts.entries (g.B.Bank.tape c.fail-answer.new.array.parts.bank)) c.fail-answer.ensures.called.ended
