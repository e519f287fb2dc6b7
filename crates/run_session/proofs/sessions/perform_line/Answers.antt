use Rattle.std.proofs.Common.{take, ◌+◌, ◌≡◌, ℕ, [], ◌++◌, ◌∷◌, length, List, Result, inl, refl, ◌∙◌, ap, subst, arith}
use Rattle.run_blocks.specs.raid_types_the_NoMemory.{NoMemory}
use Rattle.run_blocks.specs.run_specs_the_LineReply.{LineReply}
use Rattle.run_session.specs.declared.sessions.Made.{Made}
use Rattle.run_blocks.specs.Shown.{reply_text}
use Rattle.run_blocks.specs.run_specs_Making.{setting_of}
use Rattle.run_blocks.specs.run_specs_States.{histories_in, bank_in, course_in}
use Rattle.run_session.specs.Sessions.{counted, IsRepliedOrNot}
use Rattle.run_blocks.proofs.run_specs_Causes.{grows-none}
use Rattle.run_blocks.proofs.run_specs_Losses.{losses-kept}
use Rattle.run_blocks.proofs.run_line_answers_Turns.{grown_kept}
use Rattle.run_blocks.specs.run_specs_Written.{MayWrite}
use Rattle.run_blocks.proofs.run_requests_Writing.{written-nothing}
use Rattle.std.specs.Prelude.{IfOk}
use Rattle.run_blocks.specs.history_monitor_Hooks.{wanted_by}
use Rattle.run_session.specs.Alerting.{entries_in, IsScanned}
use Rattle.run_session.proofs.Alerted.{first-scanned, nothing-scanned}
use Rattle.run_session.proofs.sessions.perform_line.Goals as goal

pub returns-then-is_err-clause-step : goal.returns-then-is_err-clause-step
returns-then-is_err-clause-step g c =
    let state = c.args.session.state in
    let faults = g.B.Bank.faults_of (bank_in state) in
    record {
      none = record { own = c.requires.own; losses = losses-kept (setting_of g.B.Bank.tells (g.B.Bank.given (bank_in state)) (g.B.Bank.tape (bank_in state)) (g.B.Bank.tape (bank_in state)) c.args.backup faults faults) (histories_in state); grown = grown_kept (histories_in state); course = inl refl; written = λ t. written-nothing (setting_of g.B.Bank.tells (g.B.Bank.given (bank_in state)) (g.B.Bank.tape (bank_in state)) (g.B.Bank.tape (bank_in state)) c.args.backup faults faults) (histories_in state) (MayWrite (g.B.Bank.given (bank_in state)) c.args.backup (course_in state).running c.args.numbered.line) (omega arith) };
      same = c.reserve.ensures.items;
      refused = refl;
      taken = refl;
      shown = refl;
    }

pub returns-in-Ok-push-clause-step : goal.returns-in-Ok-push-clause-step
returns-in-Ok-push-clause-step g c =
    let setting = setting_of g.B.Bank.tells (g.B.Bank.given (bank_in c.args.session.state)) (g.B.Bank.tape (bank_in c.args.session.state)) (g.B.Bank.tape (bank_in c.reply_to-state.result.0)) c.args.backup (g.B.Bank.faults_of (bank_in c.args.session.state)) (g.B.Bank.faults_of (bank_in c.reply_to-state.result.0)) in
    let made : Made = c.in-Ok.made in
    let replied = subst (λ (r : Result Made NoMemory). IsRepliedOrNot setting c.args.session.state c.reply_to-state.result.0 c.args.numbered c.reply_to-state.new.text.items r) c.in-Ok.is c.reply_to-state.ensures.replied in
    let items : c.push_reserved.new.self.items ≡ c.args.session.replies.items ++ made.reply ∷ [] =
    c.push_reserved.ensures.items ∙ ap (λ (l : List LineReply). l ++ made.reply ∷ []) c.reserve.ensures.items in
    let piece : c.as_slice-text.result.now ≡ reply_text (histories_in c.reply_to-state.result.0) c.args.numbered.line made.reply = c.as_slice-text.ensures.value ∙ replied.1 in
    record {
      reply = record { made = made; replied = replied.0; more = items; refused = refl };
      taken = λ told. c.in-Ok-push.ensures.pushed.whole told ∙ ap (λ (t : List ℕ). g.K.Sink.taken c.args.out.now ++ t) piece;
      shown = c.saturating_add.ensures ∙ ap (λ (t : List ℕ). counted (c.args.session.shown + length t)) piece;
    }

pub returns-in-Err-clause-step : goal.returns-in-Err-clause-step
returns-in-Err-clause-step g c =
    let setting = setting_of g.B.Bank.tells (g.B.Bank.given (bank_in c.args.session.state)) (g.B.Bank.tape (bank_in c.args.session.state)) (g.B.Bank.tape (bank_in c.reply_to-state.result.0)) c.args.backup (g.B.Bank.faults_of (bank_in c.args.session.state)) (g.B.Bank.faults_of (bank_in c.reply_to-state.result.0)) in
    let made : Made = c.in-Ok.made in
    let replied = subst (λ (r : Result Made NoMemory). IsRepliedOrNot setting c.args.session.state c.reply_to-state.result.0 c.args.numbered c.reply_to-state.new.text.items r) c.in-Ok.is c.reply_to-state.ensures.replied in
    let items : c.push_reserved.new.self.items ≡ c.args.session.replies.items ++ made.reply ∷ [] =
    c.push_reserved.ensures.items ∙ ap (λ (l : List LineReply). l ++ made.reply ∷ []) c.reserve.ensures.items in
    let piece : c.as_slice-text.result.now ≡ reply_text (histories_in c.reply_to-state.result.0) c.args.numbered.line made.reply = c.as_slice-text.ensures.value ∙ replied.1 in
    record {
      reply = record { made = made; replied = replied.0; more = items; refused = refl };
      taken = λ told. let part = c.in-Err.ensures.pushed.front told in (part.0, part.1 ∙ ap (λ (t : List ℕ). g.K.Sink.taken c.args.out.now ++ take part.0 t) piece);
      shown = refl;
    }

pub returns-then-is_err-clause-grows : goal.returns-then-is_err-clause-grows
returns-then-is_err-clause-grows g c = grows-none (g.B.Bank.tape (bank_in c.args.session.state))

pub returns-then-is_err-clause-alerts : goal.returns-then-is_err-clause-alerts
returns-then-is_err-clause-alerts g c = nothing-scanned (goal.G-post g (wanted_by c.args.hook.now)) (entries_in c.args.session.state) c.args.monitor.now c.args.monitor.now c.args.session.replies.items c.reserve.new.self.items c.reserve.ensures.items

pub returns-in_default-clause-alerts : goal.returns-in_default-clause-alerts
returns-in_default-clause-alerts g c = nothing-scanned (goal.G-post g (wanted_by c.args.hook.now)) (entries_in c.args.session.state) c.args.monitor.now c.reply_to-state.new.monitor c.args.session.replies.items c.reserve.new.self.items c.reserve.ensures.items

pub returns-in-Ok-push-clause-alerts : goal.returns-in-Ok-push-clause-alerts
returns-in-Ok-push-clause-alerts g c =
    let made : Made = c.in-Ok.made in
    let items : c.push_reserved.new.self.items ≡ c.args.session.replies.items ++ made.reply ∷ [] =
    c.push_reserved.ensures.items ∙ ap (λ (l : List LineReply). l ++ made.reply ∷ []) c.reserve.ensures.items in
    first-scanned (goal.G-post g (wanted_by c.args.hook.now)) (entries_in c.args.session.state) c.args.monitor.now c.reply_to-state.new.monitor c.args.session.replies.items c.push_reserved.new.self.items made.reply items
    (subst (λ (r : Result Made NoMemory). IfOk r (λ made. IsScanned (goal.G-post g (wanted_by c.args.hook.now)) (entries_in c.args.session.state) c.args.monitor.now c.reply_to-state.new.monitor made.reply.what)) c.in-Ok.is c.reply_to-state.ensures.alerts)

pub returns-in-Err-clause-alerts : goal.returns-in-Err-clause-alerts
returns-in-Err-clause-alerts g c =
    let made : Made = c.in-Ok.made in
    let items : c.push_reserved.new.self.items ≡ c.args.session.replies.items ++ made.reply ∷ [] =
    c.push_reserved.ensures.items ∙ ap (λ (l : List LineReply). l ++ made.reply ∷ []) c.reserve.ensures.items in
    first-scanned (goal.G-post g (wanted_by c.args.hook.now)) (entries_in c.args.session.state) c.args.monitor.now c.reply_to-state.new.monitor c.args.session.replies.items c.push_reserved.new.self.items made.reply items
    (subst (λ (r : Result Made NoMemory). IfOk r (λ made. IsScanned (goal.G-post g (wanted_by c.args.hook.now)) (entries_in c.args.session.state) c.args.monitor.now c.reply_to-state.new.monitor made.reply.what)) c.in-Ok.is c.reply_to-state.ensures.alerts)
