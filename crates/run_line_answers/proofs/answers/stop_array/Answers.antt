use Rattle.std.proofs.Common.{◌≡◌, ◌+◌, ◌-◌, ◌≤◌, [], ◌∷◌, ◌++◌, ℕ, Option, Ok, Err, refl, sym, ◌∙◌, ap, subst, arith}
use Rattle.run_requests.specs.raid_types_the_Fault.{Fault}
use Rattle.run_requests.specs.history_the_Epoch.{Epoch}
use Rattle.run_requests.specs.history_the_Event.{Event}
use Rattle.run_requests.specs.run_specs_Histories.{history_of, is_end}
use Rattle.run_requests.specs.sb_specs_Reading.{list_length}
use Rattle.run_requests.specs.array_members_Lacking.{AreTooMany}
use Rattle.run_requests.specs.array_call_specs_Calls.{IsUnsettled, IsFaultFor}
use Rattle.run_requests.specs.script_the_Line_TheVariants.{Stop as AsksStop}
use Rattle.run_requests.specs.run_specs_Making.{setting_of}
use Rattle.run_requests.specs.run_specs_States.{running_history, IsTurn}
use Rattle.run_requests.specs.run_specs_the_Answered.{Answered}
use Rattle.run_requests.specs.run_specs_the_State_TheVariants.{Idle as IsIdle, Running as IsRunning}
use Rattle.run_requests.proofs.run_specs_AskLaws.{asked_stop, asked_unstopped, behind_grew}
use Rattle.run_requests.specs.array_specs_Calls.{IsEpochKept}
use Rattle.run_requests.specs.array_reply_specs_Replies.{IsRefusalToldBy}
use Rattle.run_requests.specs.bank_Given.{Given}
use Rattle.run_requests.specs.run_specs_Ended.{IfReliable, IfShapeKept}
use Rattle.run_requests.specs.array_fixed_laws_Plain.{IsPlainEpoch}
use Rattle.run_requests.proofs.Legal.{going_grown, former_more, legal_epoch}
use Rattle.run_requests.proofs.Sizes.{sized-none, sized-behind}
use Rattle.run_requests.proofs.run_specs_Told.{told_none, told_behind, stop_told}
use Rattle.run_requests.proofs.run_specs_Losses.{losses-of, held-before, on-lost}
use Rattle.run_requests.specs.reshape_request_Left.{phases_of}
use Rattle.run_requests.specs.reshape_request_the_PhasesLeft.{PhasesLeft}
use Rattle.run_requests.specs.run_specs_Caused.{record_of}
use Rattle.run_requests.proofs.CausedLaws.{unjudged-asked}
use Rattle.run_requests.proofs.run_specs_Turned.{told-same, told-alike, asked-tellable, stop-unstepped, stop-told}
use Rattle.run_requests.proofs.Called.{called-length, same-epoch, epoch-opening, epoch-later}
use Rattle.run_requests.proofs.Lefts.{left-called, left-unstopped}
use Rattle.run_line_answers.proofs.Turns.{turn_ended, turn_asked, no_turn, at_the_end}
use Rattle.run_requests.specs.run_specs_Written.{HasWritten}
use Rattle.run_requests.proofs.Writing.{written_ended, written_going}
use Rattle.run_line_answers.proofs.answers.stop_array.Goals as goal
use Rattle.run_requests.proofs.array_members_SafeStretch.{grows-longer}

pub overflow_sub-len : goal.overflow_sub-len
overflow_sub-len g c = subst (λ n. 1 ≤ n) (sym c.len.ensures) (behind_grew c.script_call-who.result c.in-Ok.ensures.stopped)

place : (n k : ℕ) → 1 ≤ n → k ≡ n → (k - 1) + 1 ≡ n
place n k some is = omega arith

pub returns-in-Ok-clause-answered : goal.returns-in-Ok-clause-answered
returns-in-Ok-clause-answered g c =
    let array = c.args.array in
    let epoch : Epoch = c.in-Ok.ended.1 in
    let did = c.in-Ok.ensures in
    let items : c.push_reserved.new.self.items ≡ c.args.epochs.items ++ epoch ∷ [] = c.push_reserved.ensures.items in
    let setting = setting_of g.B.Bank.tells (g.B.Bank.given array.parts.bank) (g.B.Bank.tape array.parts.bank) (g.B.Bank.tape c.in-Ok.ended.0) c.args.backup (g.B.Bank.faults_of array.parts.bank) (g.B.Bank.faults_of c.in-Ok.ended.0) in
    let grew = behind_grew c.script_call-who.result did.stopped in
    let asked = asked_stop (list_length array.parts.members.newest) (c.len.result - 1) c.script_call-who.result c.script_call-who.ensures did.stopped (place _ _ grew c.len.ensures) in
    subst (λ (what : Answered). IsTurn setting (IsRunning array c.args.epochs) (IsIdle c.in-Ok.ended.0 c.push_reserved.new.self) AsksStop what) (sym c.inside-what.ensures)
    (turn_ended setting array epoch c.in-Ok.ended.0 c.args.epochs c.push_reserved.new.self items c.requires.own (losses-of setting (history_of epoch) (held-before (g.B.Bank.given array.parts.bank) c.args.backup (running_history array.parts) (history_of epoch) array.parts.members did.grows (record { uuid = did.uuid; given = did.slots; first = did.first }) c.requires.former.held) did.losses (told_behind c.args.backup (g.B.Bank.faults_of array.parts.bank) (g.B.Bank.faults_of c.in-Ok.ended.0) did.stopped tt)) did.uuid did.slots did.first AsksStop (c.len.result - 1) asked.0 (asked-tellable asked.0 (stop-told asked.0.event asked.0.fits)) did.losses tt
    (λ t. at_the_end setting array.parts.entries epoch.entries.items asked.0 epoch.first t (grows-longer did.grows t) did.ended) (ap (λ (e : Event). is_end e) (asked.1)))

pub last_place-requires : goal.last_place-requires
last_place-requires g c =
    behind_grew c.script_call-who.result (subst (λ (f : Fault). IsUnsettled c.script_call-who.result c.args.array.parts.entries c.in-Err.left.0.parts.entries f) c.in-Refused.is c.in-Err.ensures.refused)

pub returns-in-NoMemory-clause-answered : goal.returns-in-NoMemory-clause-answered
returns-in-NoMemory-clause-answered g c =
    let array = c.args.array in
    let left = c.in-Err.left.0 in
    let did = c.in-Err.ensures in
    let setting = setting_of g.B.Bank.tells (g.B.Bank.given array.parts.bank) (g.B.Bank.tape array.parts.bank) (g.B.Bank.tape left.parts.bank) c.args.backup (g.B.Bank.faults_of array.parts.bank) (g.B.Bank.faults_of left.parts.bank) in
    let same = did.called.same.array in
    no_turn setting array left c.args.epochs c.requires.own (losses-of setting (running_history left.parts) (held-before (g.B.Bank.given array.parts.bank) c.args.backup (running_history array.parts) (running_history left.parts) array.parts.members did.called.grows (epoch-opening (same-epoch did.called.same)) c.requires.former.held) did.called.losses (told_none c.args.backup (g.B.Bank.faults_of array.parts.bank) (g.B.Bank.faults_of left.parts.bank) (subst (λ (f : Fault). IsUnsettled c.script_call-who.result array.parts.entries left.parts.entries f) c.in-NoMemory.is did.refused))) same.uuid same.given same.first (sized-none (called-length did.called) (subst (λ (f : Fault). IsUnsettled c.script_call-who.result array.parts.entries left.parts.entries f) c.in-NoMemory.is did.refused))
    (told-alike (subst (λ (f : Fault). IsUnsettled c.script_call-who.result array.parts.entries left.parts.entries f) c.in-NoMemory.is did.refused) did.left_active (ap (λ (p : PhasesLeft). phases_of p) did.called.same.ahead) c.requires.own.turning) c.left.ensures.told AsksStop
    (subst (λ (f : Fault). IsUnsettled c.script_call-who.result array.parts.entries left.parts.entries f) c.in-NoMemory.is did.refused)

pub returns-in-Refused-clause-answered : goal.returns-in-Refused-clause-answered
returns-in-Refused-clause-answered g c =
    let array = c.args.array in
    let left = c.in-Err.left.0 in
    let did = c.in-Err.ensures in
    let setting = setting_of g.B.Bank.tells (g.B.Bank.given array.parts.bank) (g.B.Bank.tape array.parts.bank) (g.B.Bank.tape left.parts.bank) c.args.backup (g.B.Bank.faults_of array.parts.bank) (g.B.Bank.faults_of left.parts.bank) in
    let same = did.called.same.array in
    let size = list_length array.parts.members.newest in
    let was = subst (λ (f : Fault). IsUnsettled c.script_call-who.result array.parts.entries left.parts.entries f) c.in-Refused.is did.refused in
    let asked = asked_unstopped size c.last_place.result size array.parts.members left.parts.members c.script_call-who.result _ c.script_call-who.ensures was
    (subst (λ (f : Fault). IsFaultFor size 0 AreTooMany array.parts.members left.parts.members f) c.in-Refused.is did.caused) c.last_place.ensures in
    subst (λ (what : Answered). IsTurn setting (IsRunning array c.args.epochs) (IsRunning left c.args.epochs) AsksStop what) (sym c.inside-what-in-Refused.ensures)
    (turn_asked setting array left c.args.epochs c.requires.own (losses-of setting (running_history left.parts) (held-before (g.B.Bank.given array.parts.bank) c.args.backup (running_history array.parts) (running_history left.parts) array.parts.members did.called.grows (epoch-opening (same-epoch did.called.same)) c.requires.former.held) did.called.losses (told_behind c.args.backup (g.B.Bank.faults_of array.parts.bank) (g.B.Bank.faults_of left.parts.bank) was (subst (λ (e : Event). IsRefusalToldBy c.args.backup (g.B.Bank.faults_of array.parts.bank) (g.B.Bank.faults_of left.parts.bank) e) (asked.1) (stop_told c.args.backup (g.B.Bank.faults_of array.parts.bank) (g.B.Bank.faults_of left.parts.bank) asked.0.event asked.0.fits)))) same.uuid same.given same.first (sized-behind (called-length did.called) (λ n. refl) was)
    (told-same asked.0 (stop-unstepped asked.0.event asked.0.fits) did.left_active (ap (λ (p : PhasesLeft). phases_of p) did.called.same.ahead) c.requires.own.turning) c.left.ensures.told AsksStop c.last_place.result asked.0
    (asked-tellable asked.0 (stop-told asked.0.event asked.0.fits)) (same.backup ∙ c.requires.former.backup_is)
    (unjudged-asked size AsksStop array.parts.entries left.parts.entries setting.given (record_of array) (Ok c.last_place.result) asked.0 (λ event. tt))
    (left-unstopped setting.before setting.now array left asked.0 _ asked.1 (left-called did.called did.left_active did.left_failed)
    (subst (λ (f : Fault). IsFaultFor size 0 AreTooMany array.parts.members left.parts.members f) c.in-Refused.is did.caused)) (λ t. at_the_end setting array.parts.entries left.parts.entries asked.0 left.parts.first t (grows-longer did.called.grows t) did.called.ended) (ap (λ (e : Event). is_end e) (asked.1)))

pub returns-in-Ok-clause-former : goal.returns-in-Ok-clause-former
returns-in-Ok-clause-former g c =
    let array = c.args.array in
    let epoch : Epoch = c.in-Ok.ended.1 in
    let did = c.in-Ok.ensures in
    let items : c.push_reserved.new.self.items ≡ c.args.epochs.items ++ epoch ∷ [] = c.push_reserved.ensures.items in
    let given = g.B.Bank.given array.parts.bank in
    let tape = g.B.Bank.tape c.in-Ok.ended.0 in
    let backup = c.requires.former.backup_is in
    let right : g.B.Bank.tells → IfReliable given tape c.args.backup epoch (IsEpochKept given tape c.args.backup epoch) = λ told. subst (λ (b : Option ℕ). IfReliable given tape b epoch (IsEpochKept given tape b epoch)) backup
    (subst (λ (known : Given). IfReliable known tape array.parts.backup epoch (IsEpochKept known tape array.parts.backup epoch)) did.given (did.right told)) in
    let plain : g.B.Bank.tells → IfShapeKept given tape c.args.backup epoch (IsPlainEpoch given tape c.args.backup epoch) = λ told. subst (λ (b : Option ℕ). IfShapeKept given tape b epoch (IsPlainEpoch given tape b epoch)) backup
    (subst (λ (known : Given). IfShapeKept known tape array.parts.backup epoch (IsPlainEpoch known tape array.parts.backup epoch)) did.given (did.plain told)) in
    former_more given c.args.backup array.parts c.args.epochs.items c.push_reserved.new.self.items epoch items did.grows did.first c.requires.former
    (legal_epoch given c.args.backup array.parts c.args.epochs.items epoch did.grows (record { uuid = did.uuid; given = did.slots; first = did.first }) c.requires.former did.ends right plain)
    did.last right

pub returns-in-NoMemory-clause-former : goal.returns-in-NoMemory-clause-former
returns-in-NoMemory-clause-former g c =
    let did = c.in-Err.ensures in
    going_grown (g.B.Bank.given c.args.array.parts.bank) c.args.backup c.args.array.parts c.in-Err.left.0.parts c.args.epochs.items did.called.grows (epoch-later (same-epoch did.called.same) did.called.losses) did.called.same.array.backup (on-lost c.in-Err.left.0.parts.entries did.called.held did.called.spares) did.called.ended c.requires.former

pub returns-in-Refused-clause-former : goal.returns-in-Refused-clause-former
returns-in-Refused-clause-former g c =
    let did = c.in-Err.ensures in
    going_grown (g.B.Bank.given c.args.array.parts.bank) c.args.backup c.args.array.parts c.in-Err.left.0.parts c.args.epochs.items did.called.grows (epoch-later (same-epoch did.called.same) did.called.losses) did.called.same.array.backup (on-lost c.in-Err.left.0.parts.entries did.called.held did.called.spares) did.called.ended c.requires.former

pub returns-in-Ok-clause-written : goal.returns-in-Ok-clause-written
returns-in-Ok-clause-written g c told =
    let array = c.args.array in
    let epoch : Epoch = c.in-Ok.ended.1 in
    let did = c.in-Ok.ensures in
    let items : c.push_reserved.new.self.items ≡ c.args.epochs.items ++ epoch ∷ [] = c.push_reserved.ensures.items in
    let setting = setting_of g.B.Bank.tells (g.B.Bank.given array.parts.bank) (g.B.Bank.tape array.parts.bank) (g.B.Bank.tape c.in-Ok.ended.0) c.args.backup (g.B.Bank.faults_of array.parts.bank) (g.B.Bank.faults_of c.in-Ok.ended.0) in
    written_ended setting array c.in-Ok.ended.0 epoch c.args.epochs c.push_reserved.new.self (HasWritten (g.B.Bank.given array.parts.bank) c.args.backup AsksStop _) items did.first (c.requires.former.begun told) (grows-longer did.grows told)
    (c.requires.former.ended told) (did.ended told)

pub returns-in-NoMemory-clause-written : goal.returns-in-NoMemory-clause-written
returns-in-NoMemory-clause-written g c =
    let did = c.in-Err.ensures in
    written_going g.B.Bank.tells (g.B.Bank.given c.args.array.parts.bank) (λ (b : g.row.B.Denot). g.B.Bank.tape b) c.args.backup (λ (b : g.row.B.Denot). g.B.Bank.faults_of b) c.args.array c.in-Err.left.0 c.args.epochs (IsRunning c.in-Err.left.0 c.args.epochs) AsksStop (Err _)
    refl did.called.same.array.first did.called.grows c.requires.former (returns-in-NoMemory-clause-former g c)

pub returns-in-Refused-clause-written : goal.returns-in-Refused-clause-written
returns-in-Refused-clause-written g c =
    let did = c.in-Err.ensures in
    written_going g.B.Bank.tells (g.B.Bank.given c.args.array.parts.bank) (λ (b : g.row.B.Denot). g.B.Bank.tape b) c.args.backup (λ (b : g.row.B.Denot). g.B.Bank.faults_of b) c.args.array c.in-Err.left.0 c.args.epochs (IsRunning c.in-Err.left.0 c.args.epochs) AsksStop (Ok _)
    refl did.called.same.array.first did.called.grows c.requires.former (returns-in-Refused-clause-former g c)
