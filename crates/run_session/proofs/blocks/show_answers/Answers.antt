use Rattle.std.proofs.Common.{◌≡◌, ℕ, ◌+◌, ◌++◌, List, [], ◌∷◌, None, Some, Option, length, refl, sym, ap, ◌∙◌, subst, append_assoc, length-append, append-nil, arith}
use Rattle.std.proofs.Math.ListN.{get_or}
use Rattle.std.specs.List.{All}
use Rattle.std.specs.Vec.Iter.{into_iter_items}
use Rattle.std.proofs.lemmas.List.Elements.{All-same, All-tail}
use Rattle.run_blocks.specs.run_specs_the_Answered.{Answered}
use Rattle.run_blocks.specs.run_specs_the_LineReply.{LineReply}
use Rattle.run_blocks.specs.run_specs_the_State.{State}
use Rattle.run_blocks.specs.run_specs_States.{histories_in, bank_in, IsNamed}
use Rattle.run_session.specs.declared.sessions.Session.{Session}
use Rattle.run_session.specs.declared.sessions.Stop.{Stop}
use Rattle.run_session.specs.declared.sessions.Stop.TheVariants.{NoMemory as WantsMemory}
use Rattle.run_blocks.specs.Shown.{IsAnswerShort}
use Rattle.run_session.specs.Sessions.{IsOneShown, AreShownOf}
use Rattle.run_session.proofs.BlockReplies.{past-end}
use Rattle.run_session.proofs.Showing.{none-shown, next-shown, next-stopped, none-stopped, short-shown, whole-shown}
use Rattle.run_session.proofs.blocks.show_answers.Goals as goal

pub loop-what-init : goal.loop-what-init
loop-what-init g c =
    let gives = c.into_iter-what-iterator.ensures.into_iter_gives in
    let items = gives.0 in
    let len = gives.1 in
    let hs = histories_in c.args.session.state in
    record {
      whole = items;
      len = (let long = ap (λ (l : List Answered). length l) items in omega (arith, len, long));
      index = refl;
      state = refl;
      room = c.requires.room;
      spare = omega (arith, c.requires.spare);
      shown = none-shown g.K.Sink.tells g.B.Bank.tells (length (g.B.Bank.tape (bank_in c.args.session.state))) hs c.args.session c.args.session c.args.lines.now c.args.whats.items (g.K.Sink.taken c.args.out.now) None refl (λ told. sym (append-nil (g.K.Sink.taken c.args.out.now))) refl refl refl;
      named = All-same (λ what. IsNamed hs what) _ _ items c.requires.named;
      short = All-same (λ what. IsAnswerShort 0 hs what) _ _ items c.requires.short;
      falls = omega arith;
    }

pub loop-what-preserved : goal.loop-what-preserved
loop-what-preserved g c =
    let was = c.loop-what.invariant in
    let hs = histories_in c.args.session.state in
    let mark = length (g.B.Bank.tape (bank_in c.args.session.state)) in
    let new = c.show-session.result in
    let steps : into_iter_items c.loop-what.what-iterator ≡ c.in-Some.what ∷ into_iter_items c.next.new.self = c.in-Some.ensures.steps.0 in
    let gone = c.in-Some.ensures.steps.1 in
    let whole : c.args.whats.items ≡ c.loop-what.yielded ++ c.in-Some.what ∷ into_iter_items c.next.new.self = sym was.whole ∙ ap (λ (l : List Answered). c.loop-what.yielded ++ l) steps in
    let one = subst (λ (s : State g.row.B.Denot). IsOneShown g.K.Sink.tells g.B.Bank.tells (length (g.B.Bank.tape (bank_in s))) c.loop-what.session new (get_or c.args.lines.now c.loop-what.i past-end) c.in-Some.what (g.K.Sink.taken c.loop-what.out) (g.K.Sink.taken c.show-session.new.out)) was.state c.show-session.ensures.shown in
    let next = next-shown mark hs c.args.session c.loop-what.session new c.args.lines.now c.args.whats.items (g.K.Sink.taken c.args.out.now) (g.K.Sink.taken c.loop-what.out) (g.K.Sink.taken c.show-session.new.out) c.loop-what.i was.shown past-end c.loop-what.yielded c.in-Some.what (into_iter_items c.next.new.self) whole
    was.index c.requires.few (ap (λ (s : State g.row.B.Denot). histories_in s) was.state) one in
    let going : new.stopped ≡ None = none-stopped new.stopped (sym c.is_some.ensures ∙ c.if-is_some.false) in
    record {
      whole = append_assoc c.loop-what.yielded (c.in-Some.what ∷ []) (into_iter_items c.next.new.self) ∙ sym whole;
      len = (let long = was.len in let short = ap (λ (l : List Answered). length l) steps in omega (arith, long, short, gone));
      index = ap (λ (n : ℕ). n + 1) was.index ∙ sym (length-append c.loop-what.yielded (c.in-Some.what ∷ []));
      state = c.show-session.ensures.state ∙ was.state;
      room = c.show-session.ensures.room;
      spare = (let count = ap (λ (l : List LineReply). length l) one.more ∙ length-append c.loop-what.session.replies.items (one.reply ∷ []) in omega (arith, count, was.spare, c.show-session.ensures.spare));
      shown = subst (λ (o : Option Stop). (shown : AreShownOf g.K.Sink.tells g.B.Bank.tells mark hs c.args.session new c.args.lines.now c.args.whats.items o (g.K.Sink.taken c.args.out.now) (g.K.Sink.taken c.show-session.new.out)) × (length shown.made ≡ c.loop-what.i + 1)) going next;
      named = All-tail (λ what. IsNamed hs what) c.in-Some.what (into_iter_items c.next.new.self) (subst (λ (l : List Answered). All (λ what. IsNamed hs what) l) steps was.named);
      short = All-tail (λ what. IsAnswerShort 0 hs what) c.in-Some.what (into_iter_items c.next.new.self) (subst (λ (l : List Answered). All (λ what. IsAnswerShort 0 hs what) l) steps was.short);
      falls = omega (arith, was.falls, c.show-session.ensures.sink_never_falls);
    }

pub returns-then-is_some-clause-shown : goal.returns-then-is_some-clause-shown
returns-then-is_some-clause-shown g c =
    let was = c.loop-what.invariant in
    let hs = histories_in c.args.session.state in
    let mark = length (g.B.Bank.tape (bank_in c.args.session.state)) in
    let new = c.show-session.result in
    let steps : into_iter_items c.loop-what.what-iterator ≡ c.in-Some.what ∷ into_iter_items c.next.new.self = c.in-Some.ensures.steps.0 in
    let whole : c.args.whats.items ≡ c.loop-what.yielded ++ c.in-Some.what ∷ into_iter_items c.next.new.self = sym was.whole ∙ ap (λ (l : List Answered). c.loop-what.yielded ++ l) steps in
    let one = subst (λ (s : State g.row.B.Denot). IsOneShown g.K.Sink.tells g.B.Bank.tells (length (g.B.Bank.tape (bank_in s))) c.loop-what.session new (get_or c.args.lines.now c.loop-what.i past-end) c.in-Some.what (g.K.Sink.taken c.loop-what.out) (g.K.Sink.taken c.show-session.new.out)) was.state c.show-session.ensures.shown in
    next-stopped mark hs c.args.session c.loop-what.session new c.args.lines.now c.args.whats.items (g.K.Sink.taken c.args.out.now) (g.K.Sink.taken c.loop-what.out) (g.K.Sink.taken c.show-session.new.out) c.loop-what.i was.shown past-end c.loop-what.yielded c.in-Some.what (into_iter_items c.next.new.self) whole
    was.index c.requires.few (ap (λ (s : State g.row.B.Denot). histories_in s) was.state) one (sym c.is_some.ensures ∙ c.if-is_some.true)

pub returns-then-i-lines-clause-shown : goal.returns-then-i-lines-clause-shown
returns-then-i-lines-clause-shown g c =
    let mid = c.loop-what.session in
    let new : Session g.row.B.Denot = record { state = mid.state; replies = mid.replies; buffer = mid.buffer; shown = mid.shown; refused = mid.refused; stopped = Some WantsMemory } in
    let short = short-shown c.args.session mid new c.loop-what.i refl refl refl c.loop-what.invariant.shown in
    record { shown = short.0; all = (let count = short.1 in omega (arith, count, c.if-i-lines.true)) }

pub returns-clause-shown : goal.returns-clause-shown
returns-clause-shown g c =
    let was = c.loop-what.invariant in
    let mid = c.loop-what.session in
    let new : Session g.row.B.Denot = record { state = mid.state; replies = mid.replies; buffer = mid.buffer; shown = mid.shown; refused = mid.refused; stopped = None } in
    let whole = whole-shown c.args.session mid new c.loop-what.i refl refl refl was.shown in
    let long = ap (λ (l : List Answered). length l) was.whole in
    let sum = length-append c.loop-what.yielded (into_iter_items c.loop-what.what-iterator) in
    record { shown = whole.0; all = (let count = whole.1 in omega (arith, count, long, sum, was.index, c.requires.few, c.if-i-lines.false)) }
