use Rattle.std.proofs.Common.{◌+◌, ◌≤◌, Result, sym, subst, arith, vec_capacity}
use Rattle.std.specs.Prelude.{IfOk}
use Rattle.run_blocks.specs.raid_types_the_NoMemory.{NoMemory}
use Rattle.run_blocks.specs.history_monitor_Hooks.{wanted_by}
use Rattle.run_session.specs.Alerting.{entries_in, IsScanned}
use Rattle.run_blocks.specs.run_specs_the_Answered.{Answered}
use Rattle.run_blocks.specs.run_specs_Making.{setting_of}
use Rattle.run_blocks.specs.Shown.{longest_reply, more_room, IsAnswerShort}
use Rattle.run_blocks.specs.run_specs_States.{histories_in, bank_in, IsNamed}
use Rattle.run_session.proofs.Replied.{turn_named, turn_short, turn_replied}
use Rattle.run_session.proofs.sessions.reply_to.Goals as goal

pub is_answer_refused-refused-requires : goal.is_answer_refused-refused-requires
is_answer_refused-refused-requires g c = record { named = turn_named _ c.args.state c.answer_line-state.result.0 c.args.numbered.line c.answer_line-state.ensures.answered c.in-Ok.is }

pub reply_of-reply-requires : goal.reply_of-reply-requires
reply_of-reply-requires g c = record { named = turn_named _ c.args.state c.answer_line-state.result.0 c.args.numbered.line c.answer_line-state.ensures.answered c.in-Ok.is }

pub returns-clause-replied : goal.returns-clause-replied
returns-clause-replied g c =
    let setting = setting_of g.B.Bank.tells (g.B.Bank.given (bank_in c.args.state)) (g.B.Bank.tape (bank_in c.args.state)) (g.B.Bank.tape (bank_in c.answer_line-state.result.0)) c.args.backup (g.B.Bank.faults_of (bank_in c.args.state)) (g.B.Bank.faults_of (bank_in c.answer_line-state.result.0)) in
    let made = c.reply_of-reply.ensures in (
      turn_replied setting c.args.state c.answer_line-state.result.0 c.args.numbered c.reply_of-reply.result c.is_answer_refused-refused.result c.answer_line-state.ensures.answered c.in-Ok.is made.what made.line made.lane made.end made.at_end
          c.is_answer_refused-refused.ensures c.answer_line-state.ensures.written,
      c.put_text.ensures.text,
    )

pub put_text-requires : goal.put_text-requires
put_text-requires g c =
    let made = c.reply_of-reply.ensures in
    let named = turn_named _ c.args.state c.answer_line-state.result.0 c.args.numbered.line c.answer_line-state.ensures.answered c.in-Ok.is in
    let short = turn_short _ c.args.state c.answer_line-state.result.0 c.args.numbered.line c.answer_line-state.ensures.answered c.in-Ok.is (vec_capacity c.answer_line-state.new.text) c.requires.limits
    (subst (λ (r : Result Answered NoMemory). IfOk r (λ what. longest_reply + more_room what ≤ vec_capacity c.answer_line-state.new.text)) c.in-Ok.is c.answer_line-state.ensures.room) in
    record {
      named = subst (λ (w : Answered). IsNamed (histories_in c.answer_line-state.result.0) w) (sym made.what) named;
      short = subst (λ (w : Answered). IsAnswerShort (vec_capacity c.answer_line-state.new.text) (histories_in c.answer_line-state.result.0) w) (sym made.what) short;
      room = (let room = c.requires.room in let wider = c.answer_line-state.ensures.wider in omega (arith, room, wider));
    }

pub returns-clause-alerts : goal.returns-clause-alerts
returns-clause-alerts g c =
    subst (λ (w : Answered). IsScanned (goal.G-post g (wanted_by c.args.hook.now)) (entries_in c.args.state) c.args.monitor.now c.answer_line-state.new.monitor w) (sym c.reply_of-reply.ensures.what)
    (subst (λ (r : Result Answered NoMemory). IfOk r (λ what. IsScanned (goal.G-post g (wanted_by c.args.hook.now)) (entries_in c.args.state) c.args.monitor.now c.answer_line-state.new.monitor what)) c.in-Ok.is c.answer_line-state.ensures.alerts)
