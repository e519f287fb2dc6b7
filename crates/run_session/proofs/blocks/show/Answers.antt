use Rattle.std.proofs.Common.{◌≡◌, ℕ, take, ◌++◌, ◌||◌, ◌+◌, Bool, List, length, refl, sym, ◌∙◌, ap, subst, arith, vec_capacity}
use Rattle.run_blocks.specs.script_the_Numbered.{Numbered}
use Rattle.run_blocks.specs.run_specs_the_Answered.{Answered}
use Rattle.run_blocks.specs.run_specs_the_LineReply.{LineReply}
use Rattle.run_blocks.specs.run_specs_Histories.{History}
use Rattle.run_blocks.specs.run_specs_Replies.{IsEnd}
use Rattle.run_blocks.specs.run_specs_States.{histories_in, bank_in, IsNamed}
use Rattle.run_blocks.specs.Shown.{reply_text, IsAnswerShort}
use Rattle.run_session.specs.Sessions.{counted, IsEndNow, IsMadeOf}
use Rattle.run_blocks.proofs.Shortness.{short_wider}
use Rattle.run_session.proofs.blocks.show.Goals as goal

-- the reply that was made
made-of : (tells : Type 0) (mark : ℕ) (histories : List History) (numbered : Numbered) (what : Answered) (reply : LineReply) → reply.line ≡ numbered.number → reply.lane ≡ numbered.lane → reply.what ≡ what → IsEnd histories reply what → IsEndNow tells mark reply what
    → IsMadeOf tells mark histories numbered what reply
made-of tells mark histories numbered what reply line lane is end at_end = record {
  line = line;
  lane = lane;
  what_is = is;
  end = subst (λ (w : Answered). IsEnd histories reply w) (sym is) end;
  at_end = subst (λ (w : Answered). IsEndNow tells mark reply w) (sym is) at_end;
}

pub put_text-requires : goal.put_text-requires
put_text-requires g c =
    let made = c.reply_of-reply.ensures in
    record {
      named = subst (λ (w : Answered). IsNamed (histories_in c.args.session.state) w) (sym made.what) c.requires.named;
      short = subst (λ (w : Answered). IsAnswerShort (vec_capacity c.args.session.buffer) (histories_in c.args.session.state) w) (sym made.what)
          (short_wider (histories_in c.args.session.state) c.args.what 0 (vec_capacity c.args.session.buffer) (omega arith) c.requires.short);
      room = c.requires.room;
    }

pub returns-in-Ok-clause-shown : goal.returns-in-Ok-clause-shown
returns-in-Ok-clause-shown g c =
    let reply : LineReply = c.reply_of-reply.result in
    let piece : c.as_slice-text.result.now ≡ reply_text (histories_in c.args.session.state) c.args.numbered.line reply = c.as_slice-text.ensures.value ∙ c.put_text.ensures.text in
    record {
      reply = reply;
      made = made-of g.B.Bank.tells (length (g.B.Bank.tape (bank_in c.args.session.state))) (histories_in c.args.session.state) c.args.numbered c.args.what reply c.reply_of-reply.ensures.line c.reply_of-reply.ensures.lane c.reply_of-reply.ensures.what c.reply_of-reply.ensures.end c.reply_of-reply.ensures.at_end;
      more = c.push_reserved.ensures.items;
      refused = ap (λ (b : Bool). c.args.session.refused || b) c.is_answer_refused.ensures;
      shown = (
        λ told. c.in-Ok.ensures.pushed.whole told ∙ ap (λ (t : List ℕ). g.K.Sink.taken c.args.out.now ++ t) piece,
        c.saturating_add.ensures ∙ ap (λ (t : List ℕ). counted (c.args.session.shown + length t)) piece,
      );
    }

pub returns-in-Err-clause-shown : goal.returns-in-Err-clause-shown
returns-in-Err-clause-shown g c =
    let reply : LineReply = c.reply_of-reply.result in
    let piece : c.as_slice-text.result.now ≡ reply_text (histories_in c.args.session.state) c.args.numbered.line reply = c.as_slice-text.ensures.value ∙ c.put_text.ensures.text in
    record {
      reply = reply;
      made = made-of g.B.Bank.tells (length (g.B.Bank.tape (bank_in c.args.session.state))) (histories_in c.args.session.state) c.args.numbered c.args.what reply c.reply_of-reply.ensures.line c.reply_of-reply.ensures.lane c.reply_of-reply.ensures.what c.reply_of-reply.ensures.end c.reply_of-reply.ensures.at_end;
      more = c.push_reserved.ensures.items;
      refused = ap (λ (b : Bool). c.args.session.refused || b) c.is_answer_refused.ensures;
      shown = (
        λ told. let part = c.in-Err.ensures.pushed.front told in (part.0, part.1 ∙ ap (λ (t : List ℕ). g.K.Sink.taken c.args.out.now ++ take part.0 t) piece),
        refl,
      );
    }
