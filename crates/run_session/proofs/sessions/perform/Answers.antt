use Rattle.std.proofs.Common.{◌≡◌, ℕ, ◌+◌, ◌-◌, ◌≤◌, false, Option, List, [], length, take, drop, None, refl, sym, ◌∙◌, ap, subst, arith, length-drop}
use Rattle.std.specs.Prelude.{IfSome, IsTrue}
use Rattle.std.proofs.Math.Seq.{drop-drop}
use Rattle.std.proofs.lemmas.List.{take_all}
use Rattle.run_blocks.specs.bank_Given.{Given}
use Rattle.run_blocks.specs.script_Script.{are_in_turn}
use Rattle.run_blocks.specs.script_the_Numbered.{Numbered}
use Rattle.run_blocks.specs.script_the_Lane_TheVariants.{Script as InScript}
use Rattle.run_blocks.specs.run_specs_Ended.{IsRunKept}
use Rattle.run_blocks.specs.run_specs_Making.{setting_of}
use Rattle.run_blocks.specs.run_specs_Records.{IsRecordStored}
use Rattle.run_blocks.specs.run_specs_States.{histories_in, bank_in, course_in, record_in}
use Rattle.run_blocks.specs.history_monitor_Hooks.{wanted_by}
use Rattle.run_blocks.specs.history_monitor_the_Past.{Past}
use Rattle.run_blocks.specs.run_specs_Replies.{at_rest, course_of}
use Rattle.run_session.specs.declared.sessions.Stop.{Stop}
use Rattle.run_session.specs.Sessions.{IsCourse, IsTurnStep}
use Rattle.run_session.specs.Alerting.{entries_in, AreAlertsTold, IsWatching, IsTurnScanned}
use Rattle.run_session.proofs.Alerted.{told_of, watching-none, turn_so}
use Rattle.run_blocks.specs.run_specs_the_LineReply.{LineReply}
use Rattle.run_session.specs.declared.sessions.Session.{Session}
use Rattle.run_blocks.specs.run_specs_the_State_TheVariants.{Idle}
use Rattle.run_blocks.proofs.run_specs_Causes.{grows-none}
use Rattle.run_blocks.proofs.array_members_MovedLaws.{grows-then}
use Rattle.run_blocks.proofs.run_requests_Legal.{former_none}
use Rattle.run_session.proofs.Showing.{none-stopped}
use Rattle.run_session.proofs.Steps.{performed_none, shown_none, turn_step, turn_count}
use Rattle.run_session.proofs.Unmoved.{grows-same}
use Rattle.run_session.proofs.sessions.perform.Goals as goal

-- the lines from this one on
rest-whole : (lines : List Numbered) (n : ℕ) → take (length lines - n) (drop n lines) ≡ drop n lines
rest-whole lines n = take_all (length lines - n) (drop n lines) (let long = length-drop n lines in omega (arith, long))

pub returns-then-is_some-clause-performed : goal.returns-then-is_some-clause-performed
returns-then-is_some-clause-performed g c =
    let was = c.loop-next.invariant in
    let did = c.perform_turn-after.ensures in
    let after = c.perform_turn-after.result.0 in
    let count = c.perform_turn-after.result.1 in
    let stored = subst (λ (given : Given). IfSome (record_in after.state) (IsRecordStored g.B.Bank.tells given (g.B.Bank.tape (bank_in after.state)))) (did.given ∙ was.given) c.check_stored.ensures.stored in
    let whole = rest-whole c.args.lines.now c.loop-next.next in
    let long = ap (λ (l : List Numbered). length l) whole ∙ length-drop c.loop-next.next c.args.lines.now in
    let fits : length c.loop-next.session.replies.items + count ≤ length c.args.lines.now = omega (arith, was.count, did.within, long, c.loop-next-test.true) in
    let step = subst (λ (l : List Numbered). IsTurnStep g.K.Sink.tells (setting_of g.B.Bank.tells (g.B.Bank.given c.args.bank) (g.B.Bank.tape (bank_in c.loop-next.session.state)) (g.B.Bank.tape (bank_in after.state)) c.args.backup (g.B.Bank.faults_of (bank_in c.loop-next.session.state)) (g.B.Bank.faults_of (bank_in after.state))) c.loop-next.session after (take count l) (g.K.Sink.taken c.loop-next.out) (g.K.Sink.taken c.perform_turn-after.new.out)) (whole ∙ ap (λ (n : ℕ). drop n c.args.lines.now) (sym was.count))
    (subst (λ (given : Given). IsTurnStep g.K.Sink.tells (setting_of g.B.Bank.tells given (g.B.Bank.tape (bank_in c.loop-next.session.state)) (g.B.Bank.tape (bank_in after.state)) c.args.backup (g.B.Bank.faults_of (bank_in c.loop-next.session.state)) (g.B.Bank.faults_of (bank_in after.state))) c.loop-next.session after (take count (take (length c.args.lines.now - c.loop-next.next) (drop c.loop-next.next c.args.lines.now))) (g.K.Sink.taken c.loop-next.out) (g.K.Sink.taken c.perform_turn-after.new.out)) was.given did.step) in
    (turn_step after was.never_falls did.never_falls was.grows did.grows was.going was.performed stored count did.some fits (g.K.Sink.faults_of c.perform_turn-after.new.out) was.shown step did.cause did.sink_never_falls).0

pub returns-then-is_some-clause-shown : goal.returns-then-is_some-clause-shown
returns-then-is_some-clause-shown g c =
    let was = c.loop-next.invariant in
    let did = c.perform_turn-after.ensures in
    let after = c.perform_turn-after.result.0 in
    let count = c.perform_turn-after.result.1 in
    let stored = subst (λ (given : Given). IfSome (record_in after.state) (IsRecordStored g.B.Bank.tells given (g.B.Bank.tape (bank_in after.state)))) (did.given ∙ was.given) c.check_stored.ensures.stored in
    let whole = rest-whole c.args.lines.now c.loop-next.next in
    let long = ap (λ (l : List Numbered). length l) whole ∙ length-drop c.loop-next.next c.args.lines.now in
    let fits : length c.loop-next.session.replies.items + count ≤ length c.args.lines.now = omega (arith, was.count, did.within, long, c.loop-next-test.true) in
    let step = subst (λ (l : List Numbered). IsTurnStep g.K.Sink.tells (setting_of g.B.Bank.tells (g.B.Bank.given c.args.bank) (g.B.Bank.tape (bank_in c.loop-next.session.state)) (g.B.Bank.tape (bank_in after.state)) c.args.backup (g.B.Bank.faults_of (bank_in c.loop-next.session.state)) (g.B.Bank.faults_of (bank_in after.state))) c.loop-next.session after (take count l) (g.K.Sink.taken c.loop-next.out) (g.K.Sink.taken c.perform_turn-after.new.out)) (whole ∙ ap (λ (n : ℕ). drop n c.args.lines.now) (sym was.count))
    (subst (λ (given : Given). IsTurnStep g.K.Sink.tells (setting_of g.B.Bank.tells given (g.B.Bank.tape (bank_in c.loop-next.session.state)) (g.B.Bank.tape (bank_in after.state)) c.args.backup (g.B.Bank.faults_of (bank_in c.loop-next.session.state)) (g.B.Bank.faults_of (bank_in after.state))) c.loop-next.session after (take count (take (length c.args.lines.now - c.loop-next.next) (drop c.loop-next.next c.args.lines.now))) (g.K.Sink.taken c.loop-next.out) (g.K.Sink.taken c.perform_turn-after.new.out)) was.given did.step) in
    (turn_step after was.never_falls did.never_falls was.grows did.grows was.going was.performed stored count did.some fits (g.K.Sink.faults_of c.perform_turn-after.new.out) was.shown step did.cause did.sink_never_falls).1

pub returns-then-is_some-clause-alerts : goal.returns-then-is_some-clause-alerts
returns-then-is_some-clause-alerts g c =
    let was = c.loop-next.invariant in
    let did = c.perform_turn-after.ensures in
    let after = c.perform_turn-after.result.0 in
    let count = c.perform_turn-after.result.1 in
    let whole = rest-whole c.args.lines.now c.loop-next.next in
    let long = ap (λ (l : List Numbered). length l) whole ∙ length-drop c.loop-next.next c.args.lines.now in
    let fits : length c.loop-next.session.replies.items + count ≤ length c.args.lines.now = omega (arith, was.count, did.within, long, c.loop-next-test.true) in
    let step = subst (λ (l : List Numbered). IsTurnStep g.K.Sink.tells (setting_of g.B.Bank.tells (g.B.Bank.given (bank_in c.loop-next.session.state)) (g.B.Bank.tape (bank_in c.loop-next.session.state)) (g.B.Bank.tape (bank_in after.state)) c.args.backup (g.B.Bank.faults_of (bank_in c.loop-next.session.state)) (g.B.Bank.faults_of (bank_in after.state))) c.loop-next.session after (take count l) (g.K.Sink.taken c.loop-next.out) (g.K.Sink.taken c.perform_turn-after.new.out)) (whole ∙ ap (λ (n : ℕ). drop n c.args.lines.now) (sym was.count)) did.step in
    let scan = subst (λ (l : List Numbered). IsTurnScanned (goal.G-post g (wanted_by c.args.hook.now)) (entries_in c.loop-next.session.state) c.loop-next.monitor c.perform_turn-after.new.monitor (drop (length c.loop-next.session.replies.items) after.replies.items) (take count l)) (whole ∙ ap (λ (n : ℕ). drop n c.args.lines.now) (sym was.count)) did.alerts in
    let course = subst (λ (o : Option Stop). IsCourse o (histories_in c.loop-next.session.state) (drop (length c.loop-next.session.replies.items) c.args.lines.now) (course_of (histories_in c.loop-next.session.state) (at_rest 0) (take (length c.loop-next.session.replies.items) c.args.lines.now) c.loop-next.session.replies.items) (course_in c.loop-next.session.state)) was.going was.performed.course in
    (turn_so (goal.G-post g (wanted_by c.args.hook.now)) _ _ c.args.lines.now c.loop-next.session after c.loop-next.monitor c.perform_turn-after.new.monitor was.performed.replies course was.alerts was.watching count did.some fits scan step).0

pub perform_turn-after-requires-clause-begins : goal.perform_turn-after-requires-clause-begins
perform_turn-after-requires-clause-begins g c κs lives = c.loop-next.invariant.watching.scanned

pub loop-next-init : goal.loop-next-init
loop-next-init g c =
    let session : Session g.row.B.Denot = record { state = Idle c.args.bank c.new-2.result; replies = c.new-3.result; buffer = c.in-Ok.buffer; shown = 0; refused = false; stopped = None } in
    record {
      going = refl;
      within = omega arith;
      turns = c.requires.turns;
      room = omega (arith, c.in-Ok.ensures.exact);
      count = ap (λ (l : List LineReply). length l) c.new-3.ensures.items;
      performed = performed_none c.args.lines.now session c.args.bank c.new-2.result refl c.new-2.ensures.items c.new-3.ensures.items refl None refl;
      shown = shown_none g.K.Sink.tells c.args.lines.now session (g.K.Sink.taken c.args.out.now) (g.K.Sink.faults_of c.args.out.now) c.new-3.ensures.items refl refl;
      former = λ t. former_none (g.B.Bank.given c.args.bank) (g.B.Bank.tape c.args.bank) c.args.backup (length (g.B.Bank.tape c.args.bank)) c.new-2.result.items c.new-2.ensures.items;
      never_falls = λ s. omega arith;
      grows = grows-none (g.B.Bank.tape c.args.bank);
      alerts = subst (λ (rs : List LineReply). AreAlertsTold (goal.G-post g (wanted_by c.args.hook.now)) (histories_in session.state) (at_rest 0) [] c.args.lines.now rs) (sym c.new-3.ensures.items) tt;
      watching = subst (λ (rs : List LineReply). IsWatching (goal.G-post g (wanted_by c.args.hook.now)) c.new-monitor.result [] (told_of (histories_in session.state) (at_rest 0) [] c.args.lines.now rs)) (sym c.new-3.ensures.items)
          (subst (λ (p : Past). IsWatching (goal.G-post g (wanted_by c.args.hook.now)) p [] []) (sym c.new-monitor.ensures) (watching-none (goal.G-post g (wanted_by c.args.hook.now))));
      given = refl;
    }

pub loop-next-preserved : goal.loop-next-preserved
loop-next-preserved g c =
    let was = c.loop-next.invariant in
    let did = c.perform_turn-after.ensures in
    let after = c.perform_turn-after.result.0 in
    let count = c.perform_turn-after.result.1 in
    let stored = subst (λ (given : Given). IfSome (record_in after.state) (IsRecordStored g.B.Bank.tells given (g.B.Bank.tape (bank_in after.state)))) (did.given ∙ was.given) c.check_stored.ensures.stored in
    let whole = rest-whole c.args.lines.now c.loop-next.next in
    let long = ap (λ (l : List Numbered). length l) whole ∙ length-drop c.loop-next.next c.args.lines.now in
    let fits : length c.loop-next.session.replies.items + count ≤ length c.args.lines.now = omega (arith, was.count, did.within, long, c.loop-next-test.true) in
    let step = subst (λ (l : List Numbered). IsTurnStep g.K.Sink.tells (setting_of g.B.Bank.tells (g.B.Bank.given c.args.bank) (g.B.Bank.tape (bank_in c.loop-next.session.state)) (g.B.Bank.tape (bank_in after.state)) c.args.backup (g.B.Bank.faults_of (bank_in c.loop-next.session.state)) (g.B.Bank.faults_of (bank_in after.state))) c.loop-next.session after (take count l) (g.K.Sink.taken c.loop-next.out) (g.K.Sink.taken c.perform_turn-after.new.out)) (whole ∙ ap (λ (n : ℕ). drop n c.args.lines.now) (sym was.count))
    (subst (λ (given : Given). IsTurnStep g.K.Sink.tells (setting_of g.B.Bank.tells given (g.B.Bank.tape (bank_in c.loop-next.session.state)) (g.B.Bank.tape (bank_in after.state)) c.args.backup (g.B.Bank.faults_of (bank_in c.loop-next.session.state)) (g.B.Bank.faults_of (bank_in after.state))) c.loop-next.session after (take count (take (length c.args.lines.now - c.loop-next.next) (drop c.loop-next.next c.args.lines.now))) (g.K.Sink.taken c.loop-next.out) (g.K.Sink.taken c.perform_turn-after.new.out)) was.given did.step) in
    let now = turn_step after was.never_falls did.never_falls was.grows did.grows was.going was.performed stored count did.some fits (g.K.Sink.faults_of c.perform_turn-after.new.out) was.shown step did.cause did.sink_never_falls in
    let going : after.stopped ≡ None = none-stopped after.stopped (sym c.is_some.ensures ∙ c.if-is_some.false) in
    let raw = subst (λ (l : List Numbered). IsTurnStep g.K.Sink.tells (setting_of g.B.Bank.tells (g.B.Bank.given (bank_in c.loop-next.session.state)) (g.B.Bank.tape (bank_in c.loop-next.session.state)) (g.B.Bank.tape (bank_in after.state)) c.args.backup (g.B.Bank.faults_of (bank_in c.loop-next.session.state)) (g.B.Bank.faults_of (bank_in after.state))) c.loop-next.session after (take count l) (g.K.Sink.taken c.loop-next.out) (g.K.Sink.taken c.perform_turn-after.new.out)) (whole ∙ ap (λ (n : ℕ). drop n c.args.lines.now) (sym was.count)) did.step in
    let scan = subst (λ (l : List Numbered). IsTurnScanned (goal.G-post g (wanted_by c.args.hook.now)) (entries_in c.loop-next.session.state) c.loop-next.monitor c.perform_turn-after.new.monitor (drop (length c.loop-next.session.replies.items) after.replies.items) (take count l)) (whole ∙ ap (λ (n : ℕ). drop n c.args.lines.now) (sym was.count)) did.alerts in
    let course = subst (λ (o : Option Stop). IsCourse o (histories_in c.loop-next.session.state) (drop (length c.loop-next.session.replies.items) c.args.lines.now) (course_of (histories_in c.loop-next.session.state) (at_rest 0) (take (length c.loop-next.session.replies.items) c.args.lines.now) c.loop-next.session.replies.items) (course_in c.loop-next.session.state)) was.going was.performed.course in
    let so = turn_so (goal.G-post g (wanted_by c.args.hook.now)) _ _ c.args.lines.now c.loop-next.session after c.loop-next.monitor c.perform_turn-after.new.monitor was.performed.replies course was.alerts was.watching count did.some fits scan raw in
    record {
      going = going;
      within = omega (arith, was.count, fits);
      turns = subst (λ (l : List Numbered). IsTrue (are_in_turn InScript l)) (ap (λ (l : List Numbered). drop count l) whole ∙ drop-drop count c.loop-next.next c.args.lines.now) did.turns;
      room = did.room;
      count = turn_count after was.never_falls did.never_falls was.grows did.grows was.going was.performed stored count did.some fits going step ∙ ap (λ (n : ℕ). n + count) was.count;
      performed = now.0;
      shown = now.1;
      former = subst (λ (given : Given). IsRunKept g.B.Bank.tells given (g.B.Bank.tape (bank_in after.state)) c.args.backup after.state) was.given did.former;
      never_falls = λ s. omega (arith, was.never_falls s, did.never_falls s);
      grows = grows-then was.grows did.grows;
      alerts = so.0;
      watching = subst (λ (p : Past). IsWatching (goal.G-post g (wanted_by c.args.hook.now)) p (entries_in after.state) (told_of (histories_in after.state) (at_rest 0) [] c.args.lines.now after.replies.items)) (sym c.watch.ensures) (so.1 going);
      given = did.given ∙ was.given;
    }

pub returns-then-is_some-clause-former : goal.returns-then-is_some-clause-former
returns-then-is_some-clause-former g c =
    subst (λ (given : Given). IsRunKept g.B.Bank.tells given (g.B.Bank.tape (bank_in c.perform_turn-after.result.0.state)) c.args.backup c.perform_turn-after.result.0.state) c.loop-next.invariant.given c.perform_turn-after.ensures.former

pub perform_turn-after-requires-clause-former : goal.perform_turn-after-requires-clause-former
perform_turn-after-requires-clause-former g c κs lives =
    subst (λ (given : Given). IsRunKept g.B.Bank.tells given (g.B.Bank.tape (bank_in c.loop-next.session.state)) c.args.backup c.loop-next.session.state) (sym c.loop-next.invariant.given) c.loop-next.invariant.former

pub returns-then-is_some-clause-grows : goal.returns-then-is_some-clause-grows
returns-then-is_some-clause-grows g c = grows-then c.loop-next.invariant.grows c.perform_turn-after.ensures.grows

pub returns-in_default-clause-former : goal.returns-in_default-clause-former
returns-in_default-clause-former g c told =
    former_none (g.B.Bank.given c.args.bank) (g.B.Bank.tape c.args.bank) c.args.backup (length (g.B.Bank.tape c.args.bank)) c.new.result.items c.new.ensures.items

pub returns-in_default-clause-grows : goal.returns-in_default-clause-grows
returns-in_default-clause-grows g c = grows-same refl
