use Rattle.std.proofs.Common.{◌≡◌, ℕ, List, [], length, get_or, eqb, arith, rules, refl, sym, ap, ◌∙◌}
use Rattle.std.proofs.lemmas.Iterator.Splits.{YieldsList-from_slice_split}
use Rattle.std.proofs.lemmas.Iterator.Consumers.{YieldsList-turn, YieldsList-end}
use Rattle.std.proofs.lemmas.List.{length_push, get_or_past}
use borrow.Author.Tests.{tests}
use Rattle.script.specs.Script.{lines_of, without_end}
use Rattle.script.proofs.ScriptLaws.{at_turn}
use Rattle.script_mistakes.proofs.explained.line_at.Goals as goal

pub returns-then-left-eq0 : goal.returns-then-left-eq0
returns-then-left-eq0 c =
    let here = (at_turn (lines_of c.args.text.now) (length c.loop-line.yielded) c.in-Some.line.now
    (YieldsList-turn (YieldsList-from_slice_split _ (λ b. eqb b 10) (without_end c.args.text.now)
    (rw c.into_iter-line-iterator.ensures.into_iter_gives (c.split-line-items.ensures.rest ∙ c.without_last_newline.ensures))
    (rw c.into_iter-line-iterator.ensures.into_iter_gives c.split-line-items.ensures.done) refl (λ x b q h. search (rules, tests)))
    c.loop-line.yielded _ c.loop-line.yielded_by _ _ c.in-Some.line c.in-Some.is c.next.ensures.steps)) in
    let at : length c.loop-line.yielded ≡ c.args.index = omega (arith, c.loop-line.invariant, c.if-left-eq0.true) in
    here.1 ∙ ap (λ i. get_or (lines_of c.args.text.now) i []) at

pub returns : goal.returns
returns c =
    let done = YieldsList-end (YieldsList-from_slice_split _ (λ b. eqb b 10) (without_end c.args.text.now)
    (rw c.into_iter-line-iterator.ensures.into_iter_gives (c.split-line-items.ensures.rest ∙ c.without_last_newline.ensures))
    (rw c.into_iter-line-iterator.ensures.into_iter_gives c.split-line-items.ensures.done) refl (λ x b q h. search (rules, tests)))
    c.loop-line.yielded _ c.loop-line.yielded_by _ _ c.in-None.is c.next.ensures.steps in
    sym (get_or_past (lines_of c.args.text.now) c.args.index [] (omega (arith, done.1, c.loop-line.invariant)))
