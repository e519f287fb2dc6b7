use Rattle.std.proofs.Common.{true, length, Result, refl, sym, ◌∙◌, subst, arith}
use Rattle.run_requests.specs.bank_Given.{NeverFalls}
use Rattle.run_requests.specs.raid_types_the_NoMemory.{NoMemory}
use Rattle.run_requests.specs.script_the_Line.{Line}
use Rattle.run_requests.specs.script_the_Line_TheVariants.{Read, Write, Flush, Fail, Add, ArraySize, Grow, Step, Wait, Detail, Mdstat}
use Rattle.run_requests.specs.run_specs_the_Outside_TheVariants.{Alerts as ToldAlerts}
use Rattle.run_requests.specs.run_specs_the_Answered_TheVariants.{Outside as IsOutside}
use Rattle.run_requests.specs.raid_types_the_Refusal_TheVariants.{Running as RefusedRunning}
use Rattle.run_requests.specs.run_specs_Making.{setting_of}
use Rattle.run_requests.specs.run_specs_Replies.{IsRefusedOutside}
use Rattle.run_requests.specs.run_specs_States.{running_history, histories_in, bank_in, IsTurnOrNone, IsTurn}
use Rattle.run_requests.specs.run_specs_the_Answered.{Answered}
use Rattle.run_requests.specs.run_specs_the_State.{State}
use Rattle.run_requests.specs.run_specs_the_State_TheVariants.{Running as IsRunning}
use Rattle.run_requests.specs.run_specs_Ended.{IsRunKept}
use Rattle.run_requests.proofs.Legal.{going_grown, going_asked}
use Rattle.run_requests.proofs.run_specs_Losses.{losses-of, losses-steps, held-before, on-lost, on-added}
use Rattle.run_requests.proofs.Called.{epoch-opening, epoch-later, ran-sized, ran-later, ran-on, parts-unchanged, told-backup}
use Rattle.run_requests.specs.sb_specs_Reading.{list_length}
use Rattle.run_requests.specs.run_specs_Caused.{record_of}
use Rattle.run_requests.proofs.CausedLaws.{unjudged-asked, detail-judged, mdstat-judged}
use Rattle.run_requests.proofs.RecordLaws.{untouched-asked, stepped-asked}
use Rattle.run_line_answers.proofs.Turns.{turn_of_ask, turn_of_wait, turn_refused, turn_alerts, going_read, going_write, going_flush, going_fail, going_add, going_visible, going_grow, going_steps}
use Rattle.run_requests.proofs.Statuses.{going_detail, going_mdstat}
use Rattle.run_requests.specs.run_specs_Written.{HasWritten}
use Rattle.run_requests.proofs.Writing.{written-nothing, written_going}
use Rattle.run_line_answers.proofs.answers.answer_running.Goals as goal
use Rattle.run_requests.proofs.array_members_SafeStretch.{grows-longer}

pub ask_write-requires-clause-turning : goal.ask_write-requires-clause-turning
ask_write-requires-clause-turning g c = c.requires.own.turning

pub ask_read-requires-clause-turning : goal.ask_read-requires-clause-turning
ask_read-requires-clause-turning g c = c.requires.own.turning

pub ask_flush-requires : goal.ask_flush-requires
ask_flush-requires g c = record { turning = c.requires.own.turning }

pub ask_fail-requires : goal.ask_fail-requires
ask_fail-requires g c = record { turning = c.requires.own.turning }

pub ask_add-requires : goal.ask_add-requires
ask_add-requires g c = record { turning = c.requires.own.turning }

pub ask_steps-requires-clause-turning : goal.ask_steps-requires-clause-turning
ask_steps-requires-clause-turning g c = c.requires.own.turning

pub ask_wait-requires-clause-turning : goal.ask_wait-requires-clause-turning
ask_wait-requires-clause-turning g c = c.requires.own.turning

pub ask_show-requires : goal.ask_show-requires
ask_show-requires g c = record { turning = c.requires.own.turning }

pub ask_show-requires-in-Mdstat : goal.ask_show-requires-in-Mdstat
ask_show-requires-in-Mdstat g c = record { turning = c.requires.own.turning }

pub ask_visible-requires : goal.ask_visible-requires
ask_visible-requires g c = record { turning = c.requires.own.turning }

pub ask_grow-requires : goal.ask_grow-requires
ask_grow-requires g c = record { turning = c.requires.own.turning }

pub returns-in-Read-clause-answered : goal.returns-in-Read-clause-answered
returns-in-Read-clause-answered g c =
    let array = c.args.array in
    let new = c.ask_read.new.array in
    let did = c.ask_read.ensures in
    let same = did.same in
    let on = c.goes_on in
    subst (λ (l : Line). IsTurnOrNone (setting_of g.B.Bank.tells (g.B.Bank.given array.parts.bank) (g.B.Bank.tape array.parts.bank) (g.B.Bank.tape (bank_in on.result.0)) c.args.backup (g.B.Bank.faults_of array.parts.bank) (g.B.Bank.faults_of (bank_in on.result.0))) (IsRunning array c.args.epochs) on.result.0 l on.result.1) (sym c.in-Read.is)
    (subst (λ (s : State g.row.B.Denot). IsTurnOrNone (setting_of g.B.Bank.tells (g.B.Bank.given array.parts.bank) (g.B.Bank.tape array.parts.bank) (g.B.Bank.tape (bank_in s)) c.args.backup (g.B.Bank.faults_of array.parts.bank) (g.B.Bank.faults_of (bank_in s))) (IsRunning array c.args.epochs) s (Read c.in-Read.at c.in-Read.count) on.result.1) (sym on.ensures.state)
    (subst (λ (r : Result Answered NoMemory). IsTurnOrNone (setting_of g.B.Bank.tells (g.B.Bank.given array.parts.bank) (g.B.Bank.tape array.parts.bank) (g.B.Bank.tape new.parts.bank) c.args.backup (g.B.Bank.faults_of array.parts.bank) (g.B.Bank.faults_of new.parts.bank)) (IsRunning array c.args.epochs) (IsRunning new c.args.epochs) (Read c.in-Read.at c.in-Read.count) r) (sym on.ensures.answer)
    (turn_of_ask (setting_of g.B.Bank.tells (g.B.Bank.given array.parts.bank) (g.B.Bank.tape array.parts.bank) (g.B.Bank.tape new.parts.bank) c.args.backup (g.B.Bank.faults_of array.parts.bank) (g.B.Bank.faults_of new.parts.bank)) array new c.args.epochs c.requires.own (losses-of (setting_of g.B.Bank.tells (g.B.Bank.given array.parts.bank) (g.B.Bank.tape array.parts.bank) (g.B.Bank.tape new.parts.bank) c.args.backup (g.B.Bank.faults_of array.parts.bank) (g.B.Bank.faults_of new.parts.bank)) (running_history new.parts) (held-before (g.B.Bank.given array.parts.bank) c.args.backup (running_history array.parts) (running_history new.parts) array.parts.members did.grows (epoch-opening same) c.requires.former.held) did.losses (told-backup c.requires.former.backup_is did.told)) same.uuid same.given same.first did.sized did.turning on.ensures.told
    (Read c.in-Read.at c.in-Read.count) c.ask_read.result (λ p asked. going_read c.in-Read.at c.in-Read.count asked) (grows-longer did.grows) did.ended did.tellable (same.backup ∙ c.requires.former.backup_is) (unjudged-asked (list_length array.parts.members.newest) (Read c.in-Read.at c.in-Read.count) array.parts.entries new.parts.entries (g.B.Bank.given array.parts.bank) (record_of array) c.ask_read.result did.asked (λ event. tt)) did.left did.asked)))

pub returns-in-Write-clause-answered : goal.returns-in-Write-clause-answered
returns-in-Write-clause-answered g c =
    let array = c.args.array in
    let new = c.ask_write.new.array in
    let did = c.ask_write.ensures in
    let same = did.same in
    let on = c.goes_on-in-Write in
    subst (λ (l : Line). IsTurnOrNone (setting_of g.B.Bank.tells (g.B.Bank.given array.parts.bank) (g.B.Bank.tape array.parts.bank) (g.B.Bank.tape (bank_in on.result.0)) c.args.backup (g.B.Bank.faults_of array.parts.bank) (g.B.Bank.faults_of (bank_in on.result.0))) (IsRunning array c.args.epochs) on.result.0 l on.result.1) (sym c.in-Write.is)
    (subst (λ (s : State g.row.B.Denot). IsTurnOrNone (setting_of g.B.Bank.tells (g.B.Bank.given array.parts.bank) (g.B.Bank.tape array.parts.bank) (g.B.Bank.tape (bank_in s)) c.args.backup (g.B.Bank.faults_of array.parts.bank) (g.B.Bank.faults_of (bank_in s))) (IsRunning array c.args.epochs) s (Write c.in-Write.at c.in-Write.count c.in-Write.seed) on.result.1) (sym on.ensures.state)
    (subst (λ (r : Result Answered NoMemory). IsTurnOrNone (setting_of g.B.Bank.tells (g.B.Bank.given array.parts.bank) (g.B.Bank.tape array.parts.bank) (g.B.Bank.tape new.parts.bank) c.args.backup (g.B.Bank.faults_of array.parts.bank) (g.B.Bank.faults_of new.parts.bank)) (IsRunning array c.args.epochs) (IsRunning new c.args.epochs) (Write c.in-Write.at c.in-Write.count c.in-Write.seed) r) (sym on.ensures.answer)
    (turn_of_ask (setting_of g.B.Bank.tells (g.B.Bank.given array.parts.bank) (g.B.Bank.tape array.parts.bank) (g.B.Bank.tape new.parts.bank) c.args.backup (g.B.Bank.faults_of array.parts.bank) (g.B.Bank.faults_of new.parts.bank)) array new c.args.epochs c.requires.own (losses-of (setting_of g.B.Bank.tells (g.B.Bank.given array.parts.bank) (g.B.Bank.tape array.parts.bank) (g.B.Bank.tape new.parts.bank) c.args.backup (g.B.Bank.faults_of array.parts.bank) (g.B.Bank.faults_of new.parts.bank)) (running_history new.parts) (held-before (g.B.Bank.given array.parts.bank) c.args.backup (running_history array.parts) (running_history new.parts) array.parts.members did.grows (epoch-opening same) c.requires.former.held) did.losses (told-backup c.requires.former.backup_is did.told)) same.uuid same.given same.first did.sized did.turning on.ensures.told
    (Write c.in-Write.at c.in-Write.count c.in-Write.seed) c.ask_write.result (λ p asked. going_write c.in-Write.at c.in-Write.count c.in-Write.seed asked) (grows-longer did.grows) did.ended did.tellable (same.backup ∙ c.requires.former.backup_is) (unjudged-asked (list_length array.parts.members.newest) (Write c.in-Write.at c.in-Write.count c.in-Write.seed) array.parts.entries new.parts.entries (g.B.Bank.given array.parts.bank) (record_of array) c.ask_write.result did.asked (λ event. tt)) did.left did.asked)))

pub returns-in-Flush-clause-answered : goal.returns-in-Flush-clause-answered
returns-in-Flush-clause-answered g c =
    let array = c.args.array in
    let new = c.ask_flush.new.array in
    let did = c.ask_flush.ensures in
    let same = did.same in
    let on = c.goes_on-in-Flush in
    subst (λ (l : Line). IsTurnOrNone (setting_of g.B.Bank.tells (g.B.Bank.given array.parts.bank) (g.B.Bank.tape array.parts.bank) (g.B.Bank.tape (bank_in on.result.0)) c.args.backup (g.B.Bank.faults_of array.parts.bank) (g.B.Bank.faults_of (bank_in on.result.0))) (IsRunning array c.args.epochs) on.result.0 l on.result.1) (sym c.in-Flush.is)
    (subst (λ (s : State g.row.B.Denot). IsTurnOrNone (setting_of g.B.Bank.tells (g.B.Bank.given array.parts.bank) (g.B.Bank.tape array.parts.bank) (g.B.Bank.tape (bank_in s)) c.args.backup (g.B.Bank.faults_of array.parts.bank) (g.B.Bank.faults_of (bank_in s))) (IsRunning array c.args.epochs) s Flush on.result.1) (sym on.ensures.state)
    (subst (λ (r : Result Answered NoMemory). IsTurnOrNone (setting_of g.B.Bank.tells (g.B.Bank.given array.parts.bank) (g.B.Bank.tape array.parts.bank) (g.B.Bank.tape new.parts.bank) c.args.backup (g.B.Bank.faults_of array.parts.bank) (g.B.Bank.faults_of new.parts.bank)) (IsRunning array c.args.epochs) (IsRunning new c.args.epochs) Flush r) (sym on.ensures.answer)
    (turn_of_ask (setting_of g.B.Bank.tells (g.B.Bank.given array.parts.bank) (g.B.Bank.tape array.parts.bank) (g.B.Bank.tape new.parts.bank) c.args.backup (g.B.Bank.faults_of array.parts.bank) (g.B.Bank.faults_of new.parts.bank)) array new c.args.epochs c.requires.own (losses-of (setting_of g.B.Bank.tells (g.B.Bank.given array.parts.bank) (g.B.Bank.tape array.parts.bank) (g.B.Bank.tape new.parts.bank) c.args.backup (g.B.Bank.faults_of array.parts.bank) (g.B.Bank.faults_of new.parts.bank)) (running_history new.parts) (held-before (g.B.Bank.given array.parts.bank) c.args.backup (running_history array.parts) (running_history new.parts) array.parts.members did.grows (epoch-opening same) c.requires.former.held) did.losses (told-backup c.requires.former.backup_is did.told)) same.uuid same.given same.first did.sized did.turning on.ensures.told
    Flush c.ask_flush.result (λ p asked. going_flush asked) (grows-longer did.grows) did.ended did.tellable (same.backup ∙ c.requires.former.backup_is) (unjudged-asked (list_length array.parts.members.newest) Flush array.parts.entries new.parts.entries (g.B.Bank.given array.parts.bank) (record_of array) c.ask_flush.result did.asked (λ event. tt)) did.left did.asked)))

pub returns-in-Detail-clause-answered : goal.returns-in-Detail-clause-answered
returns-in-Detail-clause-answered g c =
    let array = c.args.array in
    let new = c.ask_show.new.array in
    let did = c.ask_show.ensures in
    let same = did.same in
    let on = c.goes_on-in-Detail in
    subst (λ (l : Line). IsTurnOrNone (setting_of g.B.Bank.tells (g.B.Bank.given array.parts.bank) (g.B.Bank.tape array.parts.bank) (g.B.Bank.tape (bank_in on.result.0)) c.args.backup (g.B.Bank.faults_of array.parts.bank) (g.B.Bank.faults_of (bank_in on.result.0))) (IsRunning array c.args.epochs) on.result.0 l on.result.1) (sym c.in-Detail.is)
    (subst (λ (s : State g.row.B.Denot). IsTurnOrNone (setting_of g.B.Bank.tells (g.B.Bank.given array.parts.bank) (g.B.Bank.tape array.parts.bank) (g.B.Bank.tape (bank_in s)) c.args.backup (g.B.Bank.faults_of array.parts.bank) (g.B.Bank.faults_of (bank_in s))) (IsRunning array c.args.epochs) s Detail on.result.1) (sym on.ensures.state)
    (subst (λ (r : Result Answered NoMemory). IsTurnOrNone (setting_of g.B.Bank.tells (g.B.Bank.given array.parts.bank) (g.B.Bank.tape array.parts.bank) (g.B.Bank.tape new.parts.bank) c.args.backup (g.B.Bank.faults_of array.parts.bank) (g.B.Bank.faults_of new.parts.bank)) (IsRunning array c.args.epochs) (IsRunning new c.args.epochs) Detail r) (sym on.ensures.answer)
    (turn_of_ask (setting_of g.B.Bank.tells (g.B.Bank.given array.parts.bank) (g.B.Bank.tape array.parts.bank) (g.B.Bank.tape new.parts.bank) c.args.backup (g.B.Bank.faults_of array.parts.bank) (g.B.Bank.faults_of new.parts.bank)) array new c.args.epochs c.requires.own (losses-of (setting_of g.B.Bank.tells (g.B.Bank.given array.parts.bank) (g.B.Bank.tape array.parts.bank) (g.B.Bank.tape new.parts.bank) c.args.backup (g.B.Bank.faults_of array.parts.bank) (g.B.Bank.faults_of new.parts.bank)) (running_history new.parts) (held-before (g.B.Bank.given array.parts.bank) c.args.backup (running_history array.parts) (running_history new.parts) array.parts.members did.grows (epoch-opening same) c.requires.former.held) did.losses (told-backup c.requires.former.backup_is did.told)) same.uuid same.given same.first did.sized did.turning on.ensures.told
    Detail c.ask_show.result (λ p asked. going_detail asked) (grows-longer did.grows) did.ended did.tellable (same.backup ∙ c.requires.former.backup_is) (detail-judged (g.B.Bank.given array.parts.bank) array new.parts.entries c.ask_show.result did.shown) (untouched-asked (list_length array.parts.members.newest) Detail array.parts.entries new.parts.entries (g.B.Bank.faults_of array.parts.bank) (g.B.Bank.faults_of new.parts.bank) (record_of array) (record_of new) c.ask_show.result did.asked did.left (λ event is. is)) did.asked)))

pub returns-in-Mdstat-clause-answered : goal.returns-in-Mdstat-clause-answered
returns-in-Mdstat-clause-answered g c =
    let array = c.args.array in
    let new = c.ask_show-in-Mdstat.new.array in
    let did = c.ask_show-in-Mdstat.ensures in
    let same = did.same in
    let on = c.goes_on-in-Mdstat in
    subst (λ (l : Line). IsTurnOrNone (setting_of g.B.Bank.tells (g.B.Bank.given array.parts.bank) (g.B.Bank.tape array.parts.bank) (g.B.Bank.tape (bank_in on.result.0)) c.args.backup (g.B.Bank.faults_of array.parts.bank) (g.B.Bank.faults_of (bank_in on.result.0))) (IsRunning array c.args.epochs) on.result.0 l on.result.1) (sym c.in-Mdstat.is)
    (subst (λ (s : State g.row.B.Denot). IsTurnOrNone (setting_of g.B.Bank.tells (g.B.Bank.given array.parts.bank) (g.B.Bank.tape array.parts.bank) (g.B.Bank.tape (bank_in s)) c.args.backup (g.B.Bank.faults_of array.parts.bank) (g.B.Bank.faults_of (bank_in s))) (IsRunning array c.args.epochs) s Mdstat on.result.1) (sym on.ensures.state)
    (subst (λ (r : Result Answered NoMemory). IsTurnOrNone (setting_of g.B.Bank.tells (g.B.Bank.given array.parts.bank) (g.B.Bank.tape array.parts.bank) (g.B.Bank.tape new.parts.bank) c.args.backup (g.B.Bank.faults_of array.parts.bank) (g.B.Bank.faults_of new.parts.bank)) (IsRunning array c.args.epochs) (IsRunning new c.args.epochs) Mdstat r) (sym on.ensures.answer)
    (turn_of_ask (setting_of g.B.Bank.tells (g.B.Bank.given array.parts.bank) (g.B.Bank.tape array.parts.bank) (g.B.Bank.tape new.parts.bank) c.args.backup (g.B.Bank.faults_of array.parts.bank) (g.B.Bank.faults_of new.parts.bank)) array new c.args.epochs c.requires.own (losses-of (setting_of g.B.Bank.tells (g.B.Bank.given array.parts.bank) (g.B.Bank.tape array.parts.bank) (g.B.Bank.tape new.parts.bank) c.args.backup (g.B.Bank.faults_of array.parts.bank) (g.B.Bank.faults_of new.parts.bank)) (running_history new.parts) (held-before (g.B.Bank.given array.parts.bank) c.args.backup (running_history array.parts) (running_history new.parts) array.parts.members did.grows (epoch-opening same) c.requires.former.held) did.losses (told-backup c.requires.former.backup_is did.told)) same.uuid same.given same.first did.sized did.turning on.ensures.told
    Mdstat c.ask_show-in-Mdstat.result (λ p asked. going_mdstat asked) (grows-longer did.grows) did.ended did.tellable (same.backup ∙ c.requires.former.backup_is) (mdstat-judged (g.B.Bank.given array.parts.bank) array new.parts.entries c.ask_show-in-Mdstat.result did.shown) (untouched-asked (list_length array.parts.members.newest) Mdstat array.parts.entries new.parts.entries (g.B.Bank.faults_of array.parts.bank) (g.B.Bank.faults_of new.parts.bank) (record_of array) (record_of new) c.ask_show-in-Mdstat.result did.asked_brief did.left (λ event is. is)) did.asked_brief)))

pub returns-in-Fail-clause-answered : goal.returns-in-Fail-clause-answered
returns-in-Fail-clause-answered g c =
    let array = c.args.array in
    let new = c.ask_fail.new.array in
    let did = c.ask_fail.ensures in
    let same = did.same in
    let on = c.goes_on-in-Fail in
    subst (λ (l : Line). IsTurnOrNone (setting_of g.B.Bank.tells (g.B.Bank.given array.parts.bank) (g.B.Bank.tape array.parts.bank) (g.B.Bank.tape (bank_in on.result.0)) c.args.backup (g.B.Bank.faults_of array.parts.bank) (g.B.Bank.faults_of (bank_in on.result.0))) (IsRunning array c.args.epochs) on.result.0 l on.result.1) (sym c.in-Fail.is)
    (subst (λ (s : State g.row.B.Denot). IsTurnOrNone (setting_of g.B.Bank.tells (g.B.Bank.given array.parts.bank) (g.B.Bank.tape array.parts.bank) (g.B.Bank.tape (bank_in s)) c.args.backup (g.B.Bank.faults_of array.parts.bank) (g.B.Bank.faults_of (bank_in s))) (IsRunning array c.args.epochs) s (Fail c.in-Fail.role) on.result.1) (sym on.ensures.state)
    (subst (λ (r : Result Answered NoMemory). IsTurnOrNone (setting_of g.B.Bank.tells (g.B.Bank.given array.parts.bank) (g.B.Bank.tape array.parts.bank) (g.B.Bank.tape new.parts.bank) c.args.backup (g.B.Bank.faults_of array.parts.bank) (g.B.Bank.faults_of new.parts.bank)) (IsRunning array c.args.epochs) (IsRunning new c.args.epochs) (Fail c.in-Fail.role) r) (sym on.ensures.answer)
    (turn_of_ask (setting_of g.B.Bank.tells (g.B.Bank.given array.parts.bank) (g.B.Bank.tape array.parts.bank) (g.B.Bank.tape new.parts.bank) c.args.backup (g.B.Bank.faults_of array.parts.bank) (g.B.Bank.faults_of new.parts.bank)) array new c.args.epochs c.requires.own (losses-of (setting_of g.B.Bank.tells (g.B.Bank.given array.parts.bank) (g.B.Bank.tape array.parts.bank) (g.B.Bank.tape new.parts.bank) c.args.backup (g.B.Bank.faults_of array.parts.bank) (g.B.Bank.faults_of new.parts.bank)) (running_history new.parts) (held-before (g.B.Bank.given array.parts.bank) c.args.backup (running_history array.parts) (running_history new.parts) array.parts.members did.grows (epoch-opening same) c.requires.former.held) did.losses (told-backup c.requires.former.backup_is did.told)) same.uuid same.given same.first did.sized did.turning on.ensures.told
    (Fail c.in-Fail.role) c.ask_fail.result (λ p asked. going_fail c.in-Fail.role asked) (grows-longer did.grows) did.ended did.tellable (same.backup ∙ c.requires.former.backup_is) did.judged did.left did.asked)))

pub returns-in-Add-clause-answered : goal.returns-in-Add-clause-answered
returns-in-Add-clause-answered g c =
    let array = c.args.array in
    let new = c.ask_add.new.array in
    let did = c.ask_add.ensures in
    let same = did.same in
    let on = c.goes_on-in-Add in
    subst (λ (l : Line). IsTurnOrNone (setting_of g.B.Bank.tells (g.B.Bank.given array.parts.bank) (g.B.Bank.tape array.parts.bank) (g.B.Bank.tape (bank_in on.result.0)) c.args.backup (g.B.Bank.faults_of array.parts.bank) (g.B.Bank.faults_of (bank_in on.result.0))) (IsRunning array c.args.epochs) on.result.0 l on.result.1) (sym c.in-Add.is)
    (subst (λ (s : State g.row.B.Denot). IsTurnOrNone (setting_of g.B.Bank.tells (g.B.Bank.given array.parts.bank) (g.B.Bank.tape array.parts.bank) (g.B.Bank.tape (bank_in s)) c.args.backup (g.B.Bank.faults_of array.parts.bank) (g.B.Bank.faults_of (bank_in s))) (IsRunning array c.args.epochs) s (Add c.in-Add.slot) on.result.1) (sym on.ensures.state)
    (subst (λ (r : Result Answered NoMemory). IsTurnOrNone (setting_of g.B.Bank.tells (g.B.Bank.given array.parts.bank) (g.B.Bank.tape array.parts.bank) (g.B.Bank.tape new.parts.bank) c.args.backup (g.B.Bank.faults_of array.parts.bank) (g.B.Bank.faults_of new.parts.bank)) (IsRunning array c.args.epochs) (IsRunning new c.args.epochs) (Add c.in-Add.slot) r) (sym on.ensures.answer)
    (turn_of_ask (setting_of g.B.Bank.tells (g.B.Bank.given array.parts.bank) (g.B.Bank.tape array.parts.bank) (g.B.Bank.tape new.parts.bank) c.args.backup (g.B.Bank.faults_of array.parts.bank) (g.B.Bank.faults_of new.parts.bank)) array new c.args.epochs c.requires.own (losses-of (setting_of g.B.Bank.tells (g.B.Bank.given array.parts.bank) (g.B.Bank.tape array.parts.bank) (g.B.Bank.tape new.parts.bank) c.args.backup (g.B.Bank.faults_of array.parts.bank) (g.B.Bank.faults_of new.parts.bank)) (running_history new.parts) (held-before (g.B.Bank.given array.parts.bank) c.args.backup (running_history array.parts) (running_history new.parts) array.parts.members did.grows (epoch-opening same) c.requires.former.held) did.losses (told-backup c.requires.former.backup_is did.told)) same.uuid same.given same.first did.sized did.turning on.ensures.told
    (Add c.in-Add.slot) c.ask_add.result (λ p asked. going_add c.in-Add.slot asked) (grows-longer did.grows) did.ended did.tellable (same.backup ∙ c.requires.former.backup_is) did.judged did.left did.asked)))

pub returns-in-ArraySize-clause-answered : goal.returns-in-ArraySize-clause-answered
returns-in-ArraySize-clause-answered g c =
    let array = c.args.array in
    let new = c.ask_visible.new.array in
    let did = c.ask_visible.ensures in
    let went = did.went in
    let same = went.same in
    let on = c.goes_on-in-ArraySize in
    subst (λ (l : Line). IsTurnOrNone (setting_of g.B.Bank.tells (g.B.Bank.given array.parts.bank) (g.B.Bank.tape array.parts.bank) (g.B.Bank.tape (bank_in on.result.0)) c.args.backup (g.B.Bank.faults_of array.parts.bank) (g.B.Bank.faults_of (bank_in on.result.0))) (IsRunning array c.args.epochs) on.result.0 l on.result.1) (sym c.in-ArraySize.is)
    (subst (λ (s : State g.row.B.Denot). IsTurnOrNone (setting_of g.B.Bank.tells (g.B.Bank.given array.parts.bank) (g.B.Bank.tape array.parts.bank) (g.B.Bank.tape (bank_in s)) c.args.backup (g.B.Bank.faults_of array.parts.bank) (g.B.Bank.faults_of (bank_in s))) (IsRunning array c.args.epochs) s (ArraySize c.in-ArraySize.limit) on.result.1) (sym on.ensures.state)
    (subst (λ (r : Result Answered NoMemory). IsTurnOrNone (setting_of g.B.Bank.tells (g.B.Bank.given array.parts.bank) (g.B.Bank.tape array.parts.bank) (g.B.Bank.tape new.parts.bank) c.args.backup (g.B.Bank.faults_of array.parts.bank) (g.B.Bank.faults_of new.parts.bank)) (IsRunning array c.args.epochs) (IsRunning new c.args.epochs) (ArraySize c.in-ArraySize.limit) r) (sym on.ensures.answer)
    (turn_of_ask (setting_of g.B.Bank.tells (g.B.Bank.given array.parts.bank) (g.B.Bank.tape array.parts.bank) (g.B.Bank.tape new.parts.bank) c.args.backup (g.B.Bank.faults_of array.parts.bank) (g.B.Bank.faults_of new.parts.bank)) array new c.args.epochs c.requires.own (losses-steps (setting_of g.B.Bank.tells (g.B.Bank.given array.parts.bank) (g.B.Bank.tape array.parts.bank) (g.B.Bank.tape new.parts.bank) c.args.backup (g.B.Bank.faults_of array.parts.bank) (g.B.Bank.faults_of new.parts.bank)) array.parts.entries (running_history new.parts) array.parts.members (held-before (g.B.Bank.given array.parts.bank) c.args.backup (running_history array.parts) (running_history new.parts) array.parts.members went.grows (epoch-opening same) c.requires.former.held) went.more went.grown went.losses (told-backup c.requires.former.backup_is went.refusals)) same.uuid same.given same.first (ran-sized went) did.turning on.ensures.told
    (ArraySize c.in-ArraySize.limit) c.ask_visible.result (λ p asked. going_visible c.in-ArraySize.limit asked) (grows-longer went.grows) did.ended did.tellable (same.backup ∙ c.requires.former.backup_is) did.judged did.left did.asked)))

pub returns-in-Grow-clause-answered : goal.returns-in-Grow-clause-answered
returns-in-Grow-clause-answered g c =
    let array = c.args.array in
    let new = c.ask_grow.new.array in
    let did = c.ask_grow.ensures in
    let went = did.went in
    let same = went.same in
    let on = c.goes_on-in-Grow in
    subst (λ (l : Line). IsTurnOrNone (setting_of g.B.Bank.tells (g.B.Bank.given array.parts.bank) (g.B.Bank.tape array.parts.bank) (g.B.Bank.tape (bank_in on.result.0)) c.args.backup (g.B.Bank.faults_of array.parts.bank) (g.B.Bank.faults_of (bank_in on.result.0))) (IsRunning array c.args.epochs) on.result.0 l on.result.1) (sym c.in-Grow.is)
    (subst (λ (s : State g.row.B.Denot). IsTurnOrNone (setting_of g.B.Bank.tells (g.B.Bank.given array.parts.bank) (g.B.Bank.tape array.parts.bank) (g.B.Bank.tape (bank_in s)) c.args.backup (g.B.Bank.faults_of array.parts.bank) (g.B.Bank.faults_of (bank_in s))) (IsRunning array c.args.epochs) s (Grow c.in-Grow.wish) on.result.1) (sym on.ensures.state)
    (subst (λ (r : Result Answered NoMemory). IsTurnOrNone (setting_of g.B.Bank.tells (g.B.Bank.given array.parts.bank) (g.B.Bank.tape array.parts.bank) (g.B.Bank.tape new.parts.bank) c.args.backup (g.B.Bank.faults_of array.parts.bank) (g.B.Bank.faults_of new.parts.bank)) (IsRunning array c.args.epochs) (IsRunning new c.args.epochs) (Grow c.in-Grow.wish) r) (sym on.ensures.answer)
    (turn_of_ask (setting_of g.B.Bank.tells (g.B.Bank.given array.parts.bank) (g.B.Bank.tape array.parts.bank) (g.B.Bank.tape new.parts.bank) c.args.backup (g.B.Bank.faults_of array.parts.bank) (g.B.Bank.faults_of new.parts.bank)) array new c.args.epochs c.requires.own (losses-steps (setting_of g.B.Bank.tells (g.B.Bank.given array.parts.bank) (g.B.Bank.tape array.parts.bank) (g.B.Bank.tape new.parts.bank) c.args.backup (g.B.Bank.faults_of array.parts.bank) (g.B.Bank.faults_of new.parts.bank)) array.parts.entries (running_history new.parts) array.parts.members (held-before (g.B.Bank.given array.parts.bank) c.args.backup (running_history array.parts) (running_history new.parts) array.parts.members went.grows (epoch-opening same) c.requires.former.held) went.more went.grown went.losses (told-backup c.requires.former.backup_is went.refusals)) same.uuid same.given same.first (ran-sized went) did.turning on.ensures.told
    (Grow c.in-Grow.wish) c.ask_grow.result (λ p asked. going_grow c.in-Grow.wish asked) (grows-longer went.grows) did.ended did.tellable (same.backup ∙ c.requires.former.backup_is) did.judged did.left did.asked)))

pub returns-in-Step-clause-answered : goal.returns-in-Step-clause-answered
returns-in-Step-clause-answered g c =
    let array = c.args.array in
    let new = c.ask_steps.new.array in
    let did = c.ask_steps.ensures in
    let went = did.went in
    let same = went.same in
    let on = c.goes_on-in-Step in
    subst (λ (l : Line). IsTurnOrNone (setting_of g.B.Bank.tells (g.B.Bank.given array.parts.bank) (g.B.Bank.tape array.parts.bank) (g.B.Bank.tape (bank_in on.result.0)) c.args.backup (g.B.Bank.faults_of array.parts.bank) (g.B.Bank.faults_of (bank_in on.result.0))) (IsRunning array c.args.epochs) on.result.0 l on.result.1) (sym c.in-Step.is)
    (subst (λ (s : State g.row.B.Denot). IsTurnOrNone (setting_of g.B.Bank.tells (g.B.Bank.given array.parts.bank) (g.B.Bank.tape array.parts.bank) (g.B.Bank.tape (bank_in s)) c.args.backup (g.B.Bank.faults_of array.parts.bank) (g.B.Bank.faults_of (bank_in s))) (IsRunning array c.args.epochs) s (Step c.in-Step.most) on.result.1) (sym on.ensures.state)
    (subst (λ (r : Result Answered NoMemory). IsTurnOrNone (setting_of g.B.Bank.tells (g.B.Bank.given array.parts.bank) (g.B.Bank.tape array.parts.bank) (g.B.Bank.tape new.parts.bank) c.args.backup (g.B.Bank.faults_of array.parts.bank) (g.B.Bank.faults_of new.parts.bank)) (IsRunning array c.args.epochs) (IsRunning new c.args.epochs) (Step c.in-Step.most) r) (sym on.ensures.answer)
    (turn_of_ask (setting_of g.B.Bank.tells (g.B.Bank.given array.parts.bank) (g.B.Bank.tape array.parts.bank) (g.B.Bank.tape new.parts.bank) c.args.backup (g.B.Bank.faults_of array.parts.bank) (g.B.Bank.faults_of new.parts.bank)) array new c.args.epochs c.requires.own (losses-steps (setting_of g.B.Bank.tells (g.B.Bank.given array.parts.bank) (g.B.Bank.tape array.parts.bank) (g.B.Bank.tape new.parts.bank) c.args.backup (g.B.Bank.faults_of array.parts.bank) (g.B.Bank.faults_of new.parts.bank)) array.parts.entries (running_history new.parts) array.parts.members (held-before (g.B.Bank.given array.parts.bank) c.args.backup (running_history array.parts) (running_history new.parts) array.parts.members went.grows (epoch-opening same) c.requires.former.held) went.more went.grown went.losses (told-backup c.requires.former.backup_is went.refusals)) same.uuid same.given same.first (ran-sized went) did.turning on.ensures.told
    (Step c.in-Step.most) c.ask_steps.result (λ p asked. going_steps c.in-Step.most asked) (grows-longer went.grows) did.ended did.tellable (same.backup ∙ c.requires.former.backup_is) did.judged (stepped-asked (list_length array.parts.members.newest) c.in-Step.most array.parts.entries new.parts.entries (g.B.Bank.faults_of array.parts.bank) (g.B.Bank.faults_of new.parts.bank) (record_of array) (record_of new) c.ask_steps.result did.asked did.stepped) did.asked)))

pub returns-in-Wait-clause-answered : goal.returns-in-Wait-clause-answered
returns-in-Wait-clause-answered g c =
    let array = c.args.array in
    let new = c.ask_wait.new.array in
    let did = c.ask_wait.ensures in
    let went = did.went in
    let same = went.same in
    let on = c.goes_on-in-Wait in
    subst (λ (l : Line). IsTurnOrNone (setting_of g.B.Bank.tells (g.B.Bank.given array.parts.bank) (g.B.Bank.tape array.parts.bank) (g.B.Bank.tape (bank_in on.result.0)) c.args.backup (g.B.Bank.faults_of array.parts.bank) (g.B.Bank.faults_of (bank_in on.result.0))) (IsRunning array c.args.epochs) on.result.0 l on.result.1) (sym c.in-Wait.is)
    (subst (λ (s : State g.row.B.Denot). IsTurnOrNone (setting_of g.B.Bank.tells (g.B.Bank.given array.parts.bank) (g.B.Bank.tape array.parts.bank) (g.B.Bank.tape (bank_in s)) c.args.backup (g.B.Bank.faults_of array.parts.bank) (g.B.Bank.faults_of (bank_in s))) (IsRunning array c.args.epochs) s Wait on.result.1) (sym on.ensures.state)
    (subst (λ (r : Result Answered NoMemory). IsTurnOrNone (setting_of g.B.Bank.tells (g.B.Bank.given array.parts.bank) (g.B.Bank.tape array.parts.bank) (g.B.Bank.tape new.parts.bank) c.args.backup (g.B.Bank.faults_of array.parts.bank) (g.B.Bank.faults_of new.parts.bank)) (IsRunning array c.args.epochs) (IsRunning new c.args.epochs) Wait r) (sym on.ensures.answer)
    (turn_of_wait (setting_of g.B.Bank.tells (g.B.Bank.given array.parts.bank) (g.B.Bank.tape array.parts.bank) (g.B.Bank.tape new.parts.bank) c.args.backup (g.B.Bank.faults_of array.parts.bank) (g.B.Bank.faults_of new.parts.bank)) array new c.args.epochs c.requires.own (losses-steps (setting_of g.B.Bank.tells (g.B.Bank.given array.parts.bank) (g.B.Bank.tape array.parts.bank) (g.B.Bank.tape new.parts.bank) c.args.backup (g.B.Bank.faults_of array.parts.bank) (g.B.Bank.faults_of new.parts.bank)) array.parts.entries (running_history new.parts) array.parts.members (held-before (g.B.Bank.given array.parts.bank) c.args.backup (running_history array.parts) (running_history new.parts) array.parts.members went.grows (epoch-opening same) c.requires.former.held) went.more went.grown went.losses (told-backup c.requires.former.backup_is went.refusals)) same.uuid same.given same.first (ran-sized went) did.turning on.ensures.told
    c.ask_wait.result (grows-longer went.grows) did.ended did.tellable (same.backup ∙ c.requires.former.backup_is) did.stepped did.asked)))

pub returns-in-Create-clause-answered : goal.returns-in-Create-clause-answered
returns-in-Create-clause-answered g c =
    let array = c.args.array in
    let setting = setting_of g.B.Bank.tells (g.B.Bank.given array.parts.bank) (g.B.Bank.tape array.parts.bank) (g.B.Bank.tape array.parts.bank) c.args.backup (g.B.Bank.faults_of array.parts.bank) (g.B.Bank.faults_of array.parts.bank) in
    subst (λ (what : Answered). IsTurn setting (IsRunning array c.args.epochs) (IsRunning array c.args.epochs) c.args.line what) (sym c.refused.ensures)
    (turn_refused setting array c.args.epochs c.args.line c.requires.own (λ t. omega arith) (subst (λ (l : Line). IsRefusedOutside setting true (length (g.B.Bank.tape array.parts.bank)) l RefusedRunning) (sym c.in-Create.is) refl))

pub returns-in-Alerts-clause-answered : goal.returns-in-Alerts-clause-answered
returns-in-Alerts-clause-answered g c =
    let array = c.args.array in
    let setting = setting_of g.B.Bank.tells (g.B.Bank.given array.parts.bank) (g.B.Bank.tape array.parts.bank) (g.B.Bank.tape array.parts.bank) c.args.backup (g.B.Bank.faults_of array.parts.bank) (g.B.Bank.faults_of array.parts.bank) in
    turn_alerts setting array c.args.epochs c.args.line c.args.alerts c.requires.own (λ t. omega arith) c.in-Alerts.is

pub returns-in-Assemble-clause-answered : goal.returns-in-Assemble-clause-answered
returns-in-Assemble-clause-answered g c =
    let array = c.args.array in
    let setting = setting_of g.B.Bank.tells (g.B.Bank.given array.parts.bank) (g.B.Bank.tape array.parts.bank) (g.B.Bank.tape array.parts.bank) c.args.backup (g.B.Bank.faults_of array.parts.bank) (g.B.Bank.faults_of array.parts.bank) in
    subst (λ (what : Answered). IsTurn setting (IsRunning array c.args.epochs) (IsRunning array c.args.epochs) c.args.line what) (sym c.refused-in-Assemble.ensures)
    (turn_refused setting array c.args.epochs c.args.line c.requires.own (λ t. omega arith) (subst (λ (l : Line). IsRefusedOutside setting true (length (g.B.Bank.tape array.parts.bank)) l RefusedRunning) (sym c.in-Assemble.is) refl))

pub returns-in-Read-clause-former : goal.returns-in-Read-clause-former
returns-in-Read-clause-former g c =
    let array = c.args.array in
    let new = c.ask_read.new.array in
    let did = c.ask_read.ensures in
    subst (λ (s : State g.row.B.Denot). IsRunKept g.B.Bank.tells (g.B.Bank.given array.parts.bank) (g.B.Bank.tape (bank_in s)) c.args.backup s) (sym c.goes_on.ensures.state)
    (going_asked (g.B.Bank.given array.parts.bank) (λ (b : g.row.B.Denot). g.B.Bank.tape b) c.args.backup array.parts new.parts c.args.epochs.items c.ask_read.result did.grows (epoch-later did.same did.losses) did.same.backup (on-lost new.parts.entries did.held did.spares) did.ended (parts-unchanged array new c.ask_read.result did.unchanged) c.requires.former)

pub returns-in-Write-clause-former : goal.returns-in-Write-clause-former
returns-in-Write-clause-former g c =
    let array = c.args.array in
    let new = c.ask_write.new.array in
    let did = c.ask_write.ensures in
    subst (λ (s : State g.row.B.Denot). IsRunKept g.B.Bank.tells (g.B.Bank.given array.parts.bank) (g.B.Bank.tape (bank_in s)) c.args.backup s) (sym c.goes_on-in-Write.ensures.state)
    (going_asked (g.B.Bank.given array.parts.bank) (λ (b : g.row.B.Denot). g.B.Bank.tape b) c.args.backup array.parts new.parts c.args.epochs.items c.ask_write.result did.grows (epoch-later did.same did.losses) did.same.backup (on-lost new.parts.entries did.held did.spares) did.ended (parts-unchanged array new c.ask_write.result did.unchanged) c.requires.former)

pub returns-in-Flush-clause-former : goal.returns-in-Flush-clause-former
returns-in-Flush-clause-former g c =
    let array = c.args.array in
    let new = c.ask_flush.new.array in
    let did = c.ask_flush.ensures in
    subst (λ (s : State g.row.B.Denot). IsRunKept g.B.Bank.tells (g.B.Bank.given array.parts.bank) (g.B.Bank.tape (bank_in s)) c.args.backup s) (sym c.goes_on-in-Flush.ensures.state)
    (going_asked (g.B.Bank.given array.parts.bank) (λ (b : g.row.B.Denot). g.B.Bank.tape b) c.args.backup array.parts new.parts c.args.epochs.items c.ask_flush.result did.grows (epoch-later did.same did.losses) did.same.backup (on-lost new.parts.entries did.held did.spares) did.ended (parts-unchanged array new c.ask_flush.result did.unchanged) c.requires.former)

pub returns-in-Detail-clause-former : goal.returns-in-Detail-clause-former
returns-in-Detail-clause-former g c =
    let array = c.args.array in
    let new = c.ask_show.new.array in
    let did = c.ask_show.ensures in
    subst (λ (s : State g.row.B.Denot). IsRunKept g.B.Bank.tells (g.B.Bank.given array.parts.bank) (g.B.Bank.tape (bank_in s)) c.args.backup s) (sym c.goes_on-in-Detail.ensures.state)
    (going_asked (g.B.Bank.given array.parts.bank) (λ (b : g.row.B.Denot). g.B.Bank.tape b) c.args.backup array.parts new.parts c.args.epochs.items c.ask_show.result did.grows (epoch-later did.same did.losses) did.same.backup (on-lost new.parts.entries did.held did.spares) did.ended (parts-unchanged array new c.ask_show.result did.unchanged) c.requires.former)

pub returns-in-Mdstat-clause-former : goal.returns-in-Mdstat-clause-former
returns-in-Mdstat-clause-former g c =
    let array = c.args.array in
    let new = c.ask_show-in-Mdstat.new.array in
    let did = c.ask_show-in-Mdstat.ensures in
    subst (λ (s : State g.row.B.Denot). IsRunKept g.B.Bank.tells (g.B.Bank.given array.parts.bank) (g.B.Bank.tape (bank_in s)) c.args.backup s) (sym c.goes_on-in-Mdstat.ensures.state)
    (going_asked (g.B.Bank.given array.parts.bank) (λ (b : g.row.B.Denot). g.B.Bank.tape b) c.args.backup array.parts new.parts c.args.epochs.items c.ask_show-in-Mdstat.result did.grows (epoch-later did.same did.losses) did.same.backup (on-lost new.parts.entries did.held did.spares) did.ended (parts-unchanged array new c.ask_show-in-Mdstat.result did.unchanged) c.requires.former)

pub returns-in-Fail-clause-former : goal.returns-in-Fail-clause-former
returns-in-Fail-clause-former g c =
    let array = c.args.array in
    let new = c.ask_fail.new.array in
    let did = c.ask_fail.ensures in
    subst (λ (s : State g.row.B.Denot). IsRunKept g.B.Bank.tells (g.B.Bank.given array.parts.bank) (g.B.Bank.tape (bank_in s)) c.args.backup s) (sym c.goes_on-in-Fail.ensures.state)
    (going_asked (g.B.Bank.given array.parts.bank) (λ (b : g.row.B.Denot). g.B.Bank.tape b) c.args.backup array.parts new.parts c.args.epochs.items c.ask_fail.result did.grows (epoch-later did.same did.losses) did.same.backup (on-lost new.parts.entries did.held did.spares) did.ended (parts-unchanged array new c.ask_fail.result did.unchanged) c.requires.former)

pub returns-in-Add-clause-former : goal.returns-in-Add-clause-former
returns-in-Add-clause-former g c =
    let array = c.args.array in
    let new = c.ask_add.new.array in
    let did = c.ask_add.ensures in
    subst (λ (s : State g.row.B.Denot). IsRunKept g.B.Bank.tells (g.B.Bank.given array.parts.bank) (g.B.Bank.tape (bank_in s)) c.args.backup s) (sym c.goes_on-in-Add.ensures.state)
    (going_asked (g.B.Bank.given array.parts.bank) (λ (b : g.row.B.Denot). g.B.Bank.tape b) c.args.backup array.parts new.parts c.args.epochs.items c.ask_add.result did.grows (epoch-later did.same did.losses) did.same.backup (on-added new.parts.entries did.held did.spares) did.ended (parts-unchanged array new c.ask_add.result did.unchanged) c.requires.former)

pub returns-in-ArraySize-clause-former : goal.returns-in-ArraySize-clause-former
returns-in-ArraySize-clause-former g c =
    let array = c.args.array in
    let new = c.ask_visible.new.array in
    let did = c.ask_visible.ensures in
    let went = did.went in
    subst (λ (s : State g.row.B.Denot). IsRunKept g.B.Bank.tells (g.B.Bank.given array.parts.bank) (g.B.Bank.tape (bank_in s)) c.args.backup s) (sym c.goes_on-in-ArraySize.ensures.state)
    (going_asked (g.B.Bank.given array.parts.bank) (λ (b : g.row.B.Denot). g.B.Bank.tape b) c.args.backup array.parts new.parts c.args.epochs.items c.ask_visible.result went.grows (ran-later went) went.same.backup (ran-on went) did.ended (parts-unchanged array new c.ask_visible.result did.unchanged) c.requires.former)

pub returns-in-Grow-clause-former : goal.returns-in-Grow-clause-former
returns-in-Grow-clause-former g c =
    let array = c.args.array in
    let new = c.ask_grow.new.array in
    let did = c.ask_grow.ensures in
    let went = did.went in
    subst (λ (s : State g.row.B.Denot). IsRunKept g.B.Bank.tells (g.B.Bank.given array.parts.bank) (g.B.Bank.tape (bank_in s)) c.args.backup s) (sym c.goes_on-in-Grow.ensures.state)
    (going_asked (g.B.Bank.given array.parts.bank) (λ (b : g.row.B.Denot). g.B.Bank.tape b) c.args.backup array.parts new.parts c.args.epochs.items c.ask_grow.result went.grows (ran-later went) went.same.backup (ran-on went) did.ended (parts-unchanged array new c.ask_grow.result did.unchanged) c.requires.former)

pub returns-in-Step-clause-former : goal.returns-in-Step-clause-former
returns-in-Step-clause-former g c =
    let array = c.args.array in
    let new = c.ask_steps.new.array in
    let did = c.ask_steps.ensures in
    let went = did.went in
    subst (λ (s : State g.row.B.Denot). IsRunKept g.B.Bank.tells (g.B.Bank.given array.parts.bank) (g.B.Bank.tape (bank_in s)) c.args.backup s) (sym c.goes_on-in-Step.ensures.state)
    (going_asked (g.B.Bank.given array.parts.bank) (λ (b : g.row.B.Denot). g.B.Bank.tape b) c.args.backup array.parts new.parts c.args.epochs.items c.ask_steps.result went.grows (ran-later went) went.same.backup (ran-on went) did.ended (parts-unchanged array new c.ask_steps.result did.unchanged) c.requires.former)

pub returns-in-Wait-clause-former : goal.returns-in-Wait-clause-former
returns-in-Wait-clause-former g c =
    let array = c.args.array in
    let new = c.ask_wait.new.array in
    let did = c.ask_wait.ensures in
    let went = did.went in
    subst (λ (s : State g.row.B.Denot). IsRunKept g.B.Bank.tells (g.B.Bank.given array.parts.bank) (g.B.Bank.tape (bank_in s)) c.args.backup s) (sym c.goes_on-in-Wait.ensures.state)
    (going_grown (g.B.Bank.given array.parts.bank) c.args.backup array.parts new.parts c.args.epochs.items went.grows (ran-later went) went.same.backup (ran-on went) did.ended c.requires.former)

pub returns-in-ArraySize-clause-never_falls : goal.returns-in-ArraySize-clause-never_falls
returns-in-ArraySize-clause-never_falls g c =
    subst (λ (s : State g.row.B.Denot). NeverFalls (g.B.Bank.faults_of c.args.array.parts.bank) (g.B.Bank.faults_of (bank_in s))) (sym c.goes_on-in-ArraySize.ensures.state) c.ask_visible.ensures.went.never_falls

pub returns-in-Grow-clause-never_falls : goal.returns-in-Grow-clause-never_falls
returns-in-Grow-clause-never_falls g c =
    subst (λ (s : State g.row.B.Denot). NeverFalls (g.B.Bank.faults_of c.args.array.parts.bank) (g.B.Bank.faults_of (bank_in s))) (sym c.goes_on-in-Grow.ensures.state) c.ask_grow.ensures.went.never_falls

pub returns-in-Step-clause-never_falls : goal.returns-in-Step-clause-never_falls
returns-in-Step-clause-never_falls g c =
    subst (λ (s : State g.row.B.Denot). NeverFalls (g.B.Bank.faults_of c.args.array.parts.bank) (g.B.Bank.faults_of (bank_in s))) (sym c.goes_on-in-Step.ensures.state) c.ask_steps.ensures.went.never_falls

pub returns-in-Wait-clause-never_falls : goal.returns-in-Wait-clause-never_falls
returns-in-Wait-clause-never_falls g c =
    subst (λ (s : State g.row.B.Denot). NeverFalls (g.B.Bank.faults_of c.args.array.parts.bank) (g.B.Bank.faults_of (bank_in s))) (sym c.goes_on-in-Wait.ensures.state) c.ask_wait.ensures.went.never_falls

pub returns-in-Read-clause-never_falls : goal.returns-in-Read-clause-never_falls
returns-in-Read-clause-never_falls g c =
    subst (λ (s : State g.row.B.Denot). NeverFalls (g.B.Bank.faults_of c.args.array.parts.bank) (g.B.Bank.faults_of (bank_in s))) (sym c.goes_on.ensures.state) c.ask_read.ensures.never_falls

pub returns-in-Write-clause-never_falls : goal.returns-in-Write-clause-never_falls
returns-in-Write-clause-never_falls g c =
    subst (λ (s : State g.row.B.Denot). NeverFalls (g.B.Bank.faults_of c.args.array.parts.bank) (g.B.Bank.faults_of (bank_in s))) (sym c.goes_on-in-Write.ensures.state) c.ask_write.ensures.never_falls

pub returns-in-Flush-clause-never_falls : goal.returns-in-Flush-clause-never_falls
returns-in-Flush-clause-never_falls g c =
    subst (λ (s : State g.row.B.Denot). NeverFalls (g.B.Bank.faults_of c.args.array.parts.bank) (g.B.Bank.faults_of (bank_in s))) (sym c.goes_on-in-Flush.ensures.state) c.ask_flush.ensures.never_falls

pub returns-in-Detail-clause-never_falls : goal.returns-in-Detail-clause-never_falls
returns-in-Detail-clause-never_falls g c =
    subst (λ (s : State g.row.B.Denot). NeverFalls (g.B.Bank.faults_of c.args.array.parts.bank) (g.B.Bank.faults_of (bank_in s))) (sym c.goes_on-in-Detail.ensures.state) c.ask_show.ensures.never_falls

pub returns-in-Mdstat-clause-never_falls : goal.returns-in-Mdstat-clause-never_falls
returns-in-Mdstat-clause-never_falls g c =
    subst (λ (s : State g.row.B.Denot). NeverFalls (g.B.Bank.faults_of c.args.array.parts.bank) (g.B.Bank.faults_of (bank_in s))) (sym c.goes_on-in-Mdstat.ensures.state) c.ask_show-in-Mdstat.ensures.never_falls

pub returns-in-Fail-clause-never_falls : goal.returns-in-Fail-clause-never_falls
returns-in-Fail-clause-never_falls g c =
    subst (λ (s : State g.row.B.Denot). NeverFalls (g.B.Bank.faults_of c.args.array.parts.bank) (g.B.Bank.faults_of (bank_in s))) (sym c.goes_on-in-Fail.ensures.state) c.ask_fail.ensures.never_falls

pub returns-in-Add-clause-never_falls : goal.returns-in-Add-clause-never_falls
returns-in-Add-clause-never_falls g c =
    subst (λ (s : State g.row.B.Denot). NeverFalls (g.B.Bank.faults_of c.args.array.parts.bank) (g.B.Bank.faults_of (bank_in s))) (sym c.goes_on-in-Add.ensures.state) c.ask_add.ensures.never_falls

pub returns-in-Read-clause-written : goal.returns-in-Read-clause-written
returns-in-Read-clause-written g c =
    let did = c.ask_read.ensures in
    written_going g.B.Bank.tells (g.B.Bank.given c.args.array.parts.bank) (λ (b : g.row.B.Denot). g.B.Bank.tape b) c.args.backup (λ (b : g.row.B.Denot). g.B.Bank.faults_of b) c.args.array c.ask_read.new.array c.args.epochs c.goes_on.result.0 c.args.line c.goes_on.result.1
    c.goes_on.ensures.state did.same.first did.grows c.requires.former (returns-in-Read-clause-former g c)

pub returns-in-Write-clause-written : goal.returns-in-Write-clause-written
returns-in-Write-clause-written g c =
    let did = c.ask_write.ensures in
    written_going g.B.Bank.tells (g.B.Bank.given c.args.array.parts.bank) (λ (b : g.row.B.Denot). g.B.Bank.tape b) c.args.backup (λ (b : g.row.B.Denot). g.B.Bank.faults_of b) c.args.array c.ask_write.new.array c.args.epochs c.goes_on-in-Write.result.0 c.args.line c.goes_on-in-Write.result.1
    c.goes_on-in-Write.ensures.state did.same.first did.grows c.requires.former (returns-in-Write-clause-former g c)

pub returns-in-Flush-clause-written : goal.returns-in-Flush-clause-written
returns-in-Flush-clause-written g c =
    let did = c.ask_flush.ensures in
    written_going g.B.Bank.tells (g.B.Bank.given c.args.array.parts.bank) (λ (b : g.row.B.Denot). g.B.Bank.tape b) c.args.backup (λ (b : g.row.B.Denot). g.B.Bank.faults_of b) c.args.array c.ask_flush.new.array c.args.epochs c.goes_on-in-Flush.result.0 c.args.line c.goes_on-in-Flush.result.1
    c.goes_on-in-Flush.ensures.state did.same.first did.grows c.requires.former (returns-in-Flush-clause-former g c)

pub returns-in-Detail-clause-written : goal.returns-in-Detail-clause-written
returns-in-Detail-clause-written g c =
    let did = c.ask_show.ensures in
    written_going g.B.Bank.tells (g.B.Bank.given c.args.array.parts.bank) (λ (b : g.row.B.Denot). g.B.Bank.tape b) c.args.backup (λ (b : g.row.B.Denot). g.B.Bank.faults_of b) c.args.array c.ask_show.new.array c.args.epochs c.goes_on-in-Detail.result.0 c.args.line c.goes_on-in-Detail.result.1
    c.goes_on-in-Detail.ensures.state did.same.first did.grows c.requires.former (returns-in-Detail-clause-former g c)

pub returns-in-Mdstat-clause-written : goal.returns-in-Mdstat-clause-written
returns-in-Mdstat-clause-written g c =
    let did = c.ask_show-in-Mdstat.ensures in
    written_going g.B.Bank.tells (g.B.Bank.given c.args.array.parts.bank) (λ (b : g.row.B.Denot). g.B.Bank.tape b) c.args.backup (λ (b : g.row.B.Denot). g.B.Bank.faults_of b) c.args.array c.ask_show-in-Mdstat.new.array c.args.epochs c.goes_on-in-Mdstat.result.0 c.args.line c.goes_on-in-Mdstat.result.1
    c.goes_on-in-Mdstat.ensures.state did.same.first did.grows c.requires.former (returns-in-Mdstat-clause-former g c)

pub returns-in-Fail-clause-written : goal.returns-in-Fail-clause-written
returns-in-Fail-clause-written g c =
    let did = c.ask_fail.ensures in
    written_going g.B.Bank.tells (g.B.Bank.given c.args.array.parts.bank) (λ (b : g.row.B.Denot). g.B.Bank.tape b) c.args.backup (λ (b : g.row.B.Denot). g.B.Bank.faults_of b) c.args.array c.ask_fail.new.array c.args.epochs c.goes_on-in-Fail.result.0 c.args.line c.goes_on-in-Fail.result.1
    c.goes_on-in-Fail.ensures.state did.same.first did.grows c.requires.former (returns-in-Fail-clause-former g c)

pub returns-in-Add-clause-written : goal.returns-in-Add-clause-written
returns-in-Add-clause-written g c =
    let did = c.ask_add.ensures in
    written_going g.B.Bank.tells (g.B.Bank.given c.args.array.parts.bank) (λ (b : g.row.B.Denot). g.B.Bank.tape b) c.args.backup (λ (b : g.row.B.Denot). g.B.Bank.faults_of b) c.args.array c.ask_add.new.array c.args.epochs c.goes_on-in-Add.result.0 c.args.line c.goes_on-in-Add.result.1
    c.goes_on-in-Add.ensures.state did.same.first did.grows c.requires.former (returns-in-Add-clause-former g c)

pub returns-in-ArraySize-clause-written : goal.returns-in-ArraySize-clause-written
returns-in-ArraySize-clause-written g c =
    let did = c.ask_visible.ensures in
    written_going g.B.Bank.tells (g.B.Bank.given c.args.array.parts.bank) (λ (b : g.row.B.Denot). g.B.Bank.tape b) c.args.backup (λ (b : g.row.B.Denot). g.B.Bank.faults_of b) c.args.array c.ask_visible.new.array c.args.epochs c.goes_on-in-ArraySize.result.0 c.args.line c.goes_on-in-ArraySize.result.1
    c.goes_on-in-ArraySize.ensures.state did.went.same.first did.went.grows c.requires.former (returns-in-ArraySize-clause-former g c)

pub returns-in-Grow-clause-written : goal.returns-in-Grow-clause-written
returns-in-Grow-clause-written g c =
    let did = c.ask_grow.ensures in
    written_going g.B.Bank.tells (g.B.Bank.given c.args.array.parts.bank) (λ (b : g.row.B.Denot). g.B.Bank.tape b) c.args.backup (λ (b : g.row.B.Denot). g.B.Bank.faults_of b) c.args.array c.ask_grow.new.array c.args.epochs c.goes_on-in-Grow.result.0 c.args.line c.goes_on-in-Grow.result.1
    c.goes_on-in-Grow.ensures.state did.went.same.first did.went.grows c.requires.former (returns-in-Grow-clause-former g c)

pub returns-in-Step-clause-written : goal.returns-in-Step-clause-written
returns-in-Step-clause-written g c =
    let did = c.ask_steps.ensures in
    written_going g.B.Bank.tells (g.B.Bank.given c.args.array.parts.bank) (λ (b : g.row.B.Denot). g.B.Bank.tape b) c.args.backup (λ (b : g.row.B.Denot). g.B.Bank.faults_of b) c.args.array c.ask_steps.new.array c.args.epochs c.goes_on-in-Step.result.0 c.args.line c.goes_on-in-Step.result.1
    c.goes_on-in-Step.ensures.state did.went.same.first did.went.grows c.requires.former (returns-in-Step-clause-former g c)

pub returns-in-Wait-clause-written : goal.returns-in-Wait-clause-written
returns-in-Wait-clause-written g c =
    let did = c.ask_wait.ensures in
    written_going g.B.Bank.tells (g.B.Bank.given c.args.array.parts.bank) (λ (b : g.row.B.Denot). g.B.Bank.tape b) c.args.backup (λ (b : g.row.B.Denot). g.B.Bank.faults_of b) c.args.array c.ask_wait.new.array c.args.epochs c.goes_on-in-Wait.result.0 c.args.line c.goes_on-in-Wait.result.1
    c.goes_on-in-Wait.ensures.state did.went.same.first did.went.grows c.requires.former (returns-in-Wait-clause-former g c)

pub returns-in-Create-clause-written : goal.returns-in-Create-clause-written
returns-in-Create-clause-written g c told =
    let array = c.args.array in
    let setting = setting_of g.B.Bank.tells (g.B.Bank.given array.parts.bank) (g.B.Bank.tape array.parts.bank) (g.B.Bank.tape array.parts.bank) c.args.backup (g.B.Bank.faults_of array.parts.bank) (g.B.Bank.faults_of array.parts.bank) in
    written-nothing setting (histories_in (IsRunning array c.args.epochs)) (HasWritten (g.B.Bank.given array.parts.bank) c.args.backup c.args.line _) (omega arith)

pub returns-in-Alerts-clause-written : goal.returns-in-Alerts-clause-written
returns-in-Alerts-clause-written g c told =
    let array = c.args.array in
    let setting = setting_of g.B.Bank.tells (g.B.Bank.given array.parts.bank) (g.B.Bank.tape array.parts.bank) (g.B.Bank.tape array.parts.bank) c.args.backup (g.B.Bank.faults_of array.parts.bank) (g.B.Bank.faults_of array.parts.bank) in
    written-nothing setting (histories_in (IsRunning array c.args.epochs)) (HasWritten (g.B.Bank.given array.parts.bank) c.args.backup c.args.line (IsOutside (ToldAlerts c.args.alerts))) (omega arith)

pub returns-in-Assemble-clause-written : goal.returns-in-Assemble-clause-written
returns-in-Assemble-clause-written g c told =
    let array = c.args.array in
    let setting = setting_of g.B.Bank.tells (g.B.Bank.given array.parts.bank) (g.B.Bank.tape array.parts.bank) (g.B.Bank.tape array.parts.bank) c.args.backup (g.B.Bank.faults_of array.parts.bank) (g.B.Bank.faults_of array.parts.bank) in
    written-nothing setting (histories_in (IsRunning array c.args.epochs)) (HasWritten (g.B.Bank.given array.parts.bank) c.args.backup c.args.line _) (omega arith)
