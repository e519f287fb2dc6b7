use Rattle.std.proofs.Common.{◌≡◌, ◌+◌, take, not, ◌++◌, ◌∷◌, true, false, Result, Ok, Err, get_or, [], List, length, eqb, arith, rules, refl, sym, ap, ◌∙◌}
use Rattle.std.proofs.lemmas.Iterator.Splits.{YieldsList-from_slice_split}
use Rattle.std.proofs.lemmas.Iterator.Consumers.{YieldsList-turn, YieldsList-end}
use Rattle.std.proofs.lemmas.List.{length_push}
use Rattle.std.specs.Result.{OnOk, is_err}
use borrow.Author.Tests.{tests}
use Rattle.script.specs.Grammar.{meaning_of}
use Rattle.script.specs.Script.{lines_of, without_end, is_refused, asked, in_turn}
use Rattle.script.specs.declared.grammar.Meaning.TheVariants.{PassedOver, Opens, Asks}
use Rattle.script.specs.declared.lines.Numbered.{Numbered}
use Rattle.script.proofs.ScriptLaws.{so_far-start, so_far-bad, so_far-long, so_far-silent, so_far-asked, none_left, past_limit, too_long, bad_at, all_read, all_within, all_by_lanes, all_in_turn, unended, at_turn}
use Rattle.script.proofs.lines.read_lines.Goals as goal

pub returns-then-text-gt-MOST_BYTES-clause-bad : goal.returns-then-text-gt-MOST_BYTES-clause-bad
returns-then-text-gt-MOST_BYTES-clause-bad c = too_long c.args.blocks c.args.text.now (omega arith)

pub loop-line-init : goal.loop-line-init
loop-line-init c = (refl, rw (c.new-turns.ensures.script, c.new-turns.ensures.waiting) (so_far-start c.args.blocks (lines_of c.args.text.now)))

pub returns-then-number-gt-MOST_LINES-clause-bad : goal.returns-then-number-gt-MOST_LINES-clause-bad
returns-then-number-gt-MOST_LINES-clause-bad c =
    let here = (at_turn (lines_of c.args.text.now) (length c.loop-line.yielded) c.in-Some.line.now
    (YieldsList-turn (YieldsList-from_slice_split _ (λ b. eqb b 10) (without_end c.args.text.now)
    (rw c.into_iter-line-iterator.ensures.into_iter_gives (c.split-line-items.ensures.rest ∙ c.without_last_newline.ensures))
    (rw c.into_iter-line-iterator.ensures.into_iter_gives c.split-line-items.ensures.done) refl (λ x b q h. search (rules, tests)))
    c.loop-line.yielded _ c.loop-line.yielded_by _ _ c.in-Some.line c.in-Some.is c.next.ensures.steps)) in
    let count = c.loop-line.invariant.0 in
    let bad = so_far-long (c.loop-line.invariant.1) (here.0) (omega (arith, count)) in
    bad_at c.args.blocks c.args.text.now (length c.loop-line.yielded) (omega arith) bad ∙ ap (λ k. Err (k + 1)) (sym count)

pub loop-line-preserved-in-PassedOver : goal.loop-line-preserved-in-PassedOver
loop-line-preserved-in-PassedOver c =
    let here = (at_turn (lines_of c.args.text.now) (length c.loop-line.yielded) c.in-Some.line.now
    (YieldsList-turn (YieldsList-from_slice_split _ (λ b. eqb b 10) (without_end c.args.text.now)
    (rw c.into_iter-line-iterator.ensures.into_iter_gives (c.split-line-items.ensures.rest ∙ c.without_last_newline.ensures))
    (rw c.into_iter-line-iterator.ensures.into_iter_gives c.split-line-items.ensures.done) refl (λ x b q h. search (rules, tests)))
    c.loop-line.yielded _ c.loop-line.yielded_by _ _ c.in-Some.line c.in-Some.is c.next.ensures.steps)) in
    let count = c.loop-line.invariant.0 in
    let means : PassedOver ≡ meaning_of c.loop-line.inside (get_or (lines_of c.args.text.now) (length c.loop-line.yielded) []) =
    sym c.in-PassedOver.is ∙ c.meaning_of_line-meaning.ensures ∙ ap (meaning_of c.loop-line.inside) (here.1) in
    let kept = so_far-silent (c.loop-line.invariant.1) (here.0) PassedOver means (omega (arith, count)) refl refl (λ e. e) in
    (rw length_push (ap (λ n. n + 1) count), rw (length_push c.loop-line.yielded c.in-Some.line, c.is_inside_after-inside.ensures, c.in-PassedOver.is) kept)

pub loop-line-preserved-then-blocks : goal.loop-line-preserved-then-blocks
loop-line-preserved-then-blocks c =
    let here = (at_turn (lines_of c.args.text.now) (length c.loop-line.yielded) c.in-Some.line.now
    (YieldsList-turn (YieldsList-from_slice_split _ (λ b. eqb b 10) (without_end c.args.text.now)
    (rw c.into_iter-line-iterator.ensures.into_iter_gives (c.split-line-items.ensures.rest ∙ c.without_last_newline.ensures))
    (rw c.into_iter-line-iterator.ensures.into_iter_gives c.split-line-items.ensures.done) refl (λ x b q h. search (rules, tests)))
    c.loop-line.yielded _ c.loop-line.yielded_by _ _ c.in-Some.line c.in-Some.is c.next.ensures.steps)) in
    let count = c.loop-line.invariant.0 in
    let means : Opens ≡ meaning_of c.loop-line.inside (get_or (lines_of c.args.text.now) (length c.loop-line.yielded) []) =
    sym c.in-Opens.is ∙ c.meaning_of_line-meaning.ensures ∙ ap (meaning_of c.loop-line.inside) (here.1) in
    let kept = so_far-silent (c.loop-line.invariant.1) (here.0) Opens means (omega (arith, count)) refl (ap not c.if-blocks.true) (λ e. absurd (cc)) in
    (rw length_push (ap (λ n. n + 1) count), rw (length_push c.loop-line.yielded c.in-Some.line, c.is_inside_after-inside.ensures, c.in-Opens.is) kept)

pub returns-in-Opens-2-clause-bad : goal.returns-in-Opens-2-clause-bad
returns-in-Opens-2-clause-bad c =
    let here = (at_turn (lines_of c.args.text.now) (length c.loop-line.yielded) c.in-Some.line.now
    (YieldsList-turn (YieldsList-from_slice_split _ (λ b. eqb b 10) (without_end c.args.text.now)
    (rw c.into_iter-line-iterator.ensures.into_iter_gives (c.split-line-items.ensures.rest ∙ c.without_last_newline.ensures))
    (rw c.into_iter-line-iterator.ensures.into_iter_gives c.split-line-items.ensures.done) refl (λ x b q h. search (rules, tests)))
    c.loop-line.yielded _ c.loop-line.yielded_by _ _ c.in-Some.line c.in-Some.is c.next.ensures.steps)) in
    let count = c.loop-line.invariant.0 in
    let refused : is_refused c.args.blocks (asked (take (length c.loop-line.yielded) (lines_of c.args.text.now))) c.meaning_of_line-meaning.result ≡ true =
    ap (is_refused c.args.blocks (asked (take (length c.loop-line.yielded) (lines_of c.args.text.now)))) c.in-Opens-2.is ∙ ap not c.if-blocks.false in
    let bad = so_far-bad (c.loop-line.invariant.1) (here.0) c.meaning_of_line-meaning.result (c.meaning_of_line-meaning.ensures ∙ ap (meaning_of c.loop-line.inside) (here.1)) (omega (arith, count)) refused in
    bad_at c.args.blocks c.args.text.now (length c.loop-line.yielded) (omega arith) bad ∙ ap (λ k. Err (k + 1)) (sym count)

pub returns-in-Bad-clause-bad : goal.returns-in-Bad-clause-bad
returns-in-Bad-clause-bad c =
    let here = (at_turn (lines_of c.args.text.now) (length c.loop-line.yielded) c.in-Some.line.now
    (YieldsList-turn (YieldsList-from_slice_split _ (λ b. eqb b 10) (without_end c.args.text.now)
    (rw c.into_iter-line-iterator.ensures.into_iter_gives (c.split-line-items.ensures.rest ∙ c.without_last_newline.ensures))
    (rw c.into_iter-line-iterator.ensures.into_iter_gives c.split-line-items.ensures.done) refl (λ x b q h. search (rules, tests)))
    c.loop-line.yielded _ c.loop-line.yielded_by _ _ c.in-Some.line c.in-Some.is c.next.ensures.steps)) in
    let count = c.loop-line.invariant.0 in
    let refused : is_refused c.args.blocks (asked (take (length c.loop-line.yielded) (lines_of c.args.text.now))) c.meaning_of_line-meaning.result ≡ true =
    ap (is_refused c.args.blocks (asked (take (length c.loop-line.yielded) (lines_of c.args.text.now)))) c.in-Bad.is in
    let bad = so_far-bad (c.loop-line.invariant.1) (here.0) c.meaning_of_line-meaning.result (c.meaning_of_line-meaning.ensures ∙ ap (meaning_of c.loop-line.inside) (here.1)) (omega (arith, count)) refused in
    bad_at c.args.blocks c.args.text.now (length c.loop-line.yielded) (omega arith) bad ∙ ap (λ k. Err (k + 1)) (sym count)

pub returns-then-sectors-gt-MOST_SECTORS-clause-bad : goal.returns-then-sectors-gt-MOST_SECTORS-clause-bad
returns-then-sectors-gt-MOST_SECTORS-clause-bad c =
    let here = (at_turn (lines_of c.args.text.now) (length c.loop-line.yielded) c.in-Some.line.now
    (YieldsList-turn (YieldsList-from_slice_split _ (λ b. eqb b 10) (without_end c.args.text.now)
    (rw c.into_iter-line-iterator.ensures.into_iter_gives (c.split-line-items.ensures.rest ∙ c.without_last_newline.ensures))
    (rw c.into_iter-line-iterator.ensures.into_iter_gives c.split-line-items.ensures.done) refl (λ x b q h. search (rules, tests)))
    c.loop-line.yielded _ c.loop-line.yielded_by _ _ c.in-Some.line c.in-Some.is c.next.ensures.steps)) in
    let count = c.loop-line.invariant.0 in
    let size = c.sectors-sectors.ensures in
    let means : Asks c.in-Asks.lane c.in-Asks.line ≡ meaning_of c.loop-line.inside (get_or (lines_of c.args.text.now) (length c.loop-line.yielded) []) =
    sym c.in-Asks.is ∙ c.meaning_of_line-meaning.ensures ∙ ap (meaning_of c.loop-line.inside) (here.1) in
    let past = past_limit (c.loop-line.invariant.1) (here.0) c.in-Asks.lane c.in-Asks.line (omega (arith, size)) in
    let bad = so_far-bad (c.loop-line.invariant.1) (here.0) (Asks c.in-Asks.lane c.in-Asks.line) means (omega (arith, count)) past in
    bad_at c.args.blocks c.args.text.now (length c.loop-line.yielded) (omega arith) bad ∙ ap (λ k. Err (k + 1)) (sym count)

on_ok : {T E P : Type 0} (r : Result T E) → is_err r ≡ false → OnOk r P → P
on_ok (Ok x) good p = p
on_ok (Err e) good p = absurd (cc)

pub loop-line-preserved : goal.loop-line-preserved
loop-line-preserved c =
    let here = (at_turn (lines_of c.args.text.now) (length c.loop-line.yielded) c.in-Some.line.now
    (YieldsList-turn (YieldsList-from_slice_split _ (λ b. eqb b 10) (without_end c.args.text.now)
    (rw c.into_iter-line-iterator.ensures.into_iter_gives (c.split-line-items.ensures.rest ∙ c.without_last_newline.ensures))
    (rw c.into_iter-line-iterator.ensures.into_iter_gives c.split-line-items.ensures.done) refl (λ x b q h. search (rules, tests)))
    c.loop-line.yielded _ c.loop-line.yielded_by _ _ c.in-Some.line c.in-Some.is c.next.ensures.steps)) in
    let count = c.loop-line.invariant.0 in
    let size = c.sectors-sectors.ensures in
    let good : is_err c.push.result ≡ false = sym c.is_err.ensures.value ∙ c.if-is_err.false in
    let means : Asks c.in-Asks.lane c.in-Asks.line ≡ meaning_of c.loop-line.inside (get_or (lines_of c.args.text.now) (length c.loop-line.yielded) []) =
    sym c.in-Asks.is ∙ c.meaning_of_line-meaning.ensures ∙ ap (meaning_of c.loop-line.inside) (here.1) in
    let left = none_left (c.loop-line.invariant.1) (here.0) c.in-Asks.lane c.in-Asks.line c.push.new.self.waiting.items means
    (on_ok c.push.result good c.push.ensures.ended) (on_ok c.push.result good c.push.ensures.kept) in
    let turn : (more : List Numbered) → c.push.new.self.script.items ++ in_turn c.push.new.self.waiting.items more
    ≡ c.loop-line.turns.script.items ++ in_turn c.loop-line.turns.waiting.items (record { number = length c.loop-line.yielded + 1; lane = c.in-Asks.lane; line = c.in-Asks.line } ∷ more) =
    λ more. on_ok c.push.result good c.push.ensures.turns more
    ∙ ap (λ n. c.loop-line.turns.script.items ++ in_turn c.loop-line.turns.waiting.items (record { number = n + 1; lane = c.in-Asks.lane; line = c.in-Asks.line } ∷ more)) count in
    let kept = so_far-asked (c.loop-line.invariant.1) (here.0) c.in-Asks.lane c.in-Asks.line c.push.new.self.script.items c.push.new.self.waiting.items
    means (omega (arith, count)) (omega (arith, size)) turn left in
    (rw length_push (ap (λ n. n + 1) count), rw (length_push c.loop-line.yielded c.in-Some.line, c.is_inside_after-inside.ensures, c.in-Asks.is, size) kept)

pub returns-then-inside-clause-bad : goal.returns-then-inside-clause-bad
returns-then-inside-clause-bad c =
    let done = YieldsList-end (YieldsList-from_slice_split _ (λ b. eqb b 10) (without_end c.args.text.now)
    (rw c.into_iter-line-iterator.ensures.into_iter_gives (c.split-line-items.ensures.rest ∙ c.without_last_newline.ensures))
    (rw c.into_iter-line-iterator.ensures.into_iter_gives c.split-line-items.ensures.done) refl (λ x b q h. search (rules, tests)))
    c.loop-line.yielded _ c.loop-line.yielded_by _ _ c.in-None.is c.next.ensures.steps in
    unended c.args.text.now (omega arith) (c.loop-line.invariant.1) (done.1) c.if-inside.true ∙ ap (λ k. Err (k + 1)) (sym (c.loop-line.invariant.0))

pub returns-clause-lines : goal.returns-clause-lines
returns-clause-lines c =
    let done = YieldsList-end (YieldsList-from_slice_split _ (λ b. eqb b 10) (without_end c.args.text.now)
    (rw c.into_iter-line-iterator.ensures.into_iter_gives (c.split-line-items.ensures.rest ∙ c.without_last_newline.ensures))
    (rw c.into_iter-line-iterator.ensures.into_iter_gives c.split-line-items.ensures.done) refl (λ x b q h. search (rules, tests)))
    c.loop-line.yielded _ c.loop-line.yielded_by _ _ c.in-None.is c.next.ensures.steps in
    all_read c.args.text.now (omega arith) (c.loop-line.invariant.1) (done.1) c.if-inside.false

pub returns-clause-limits : goal.returns-clause-limits
returns-clause-limits c =
    let done = YieldsList-end (YieldsList-from_slice_split _ (λ b. eqb b 10) (without_end c.args.text.now)
    (rw c.into_iter-line-iterator.ensures.into_iter_gives (c.split-line-items.ensures.rest ∙ c.without_last_newline.ensures))
    (rw c.into_iter-line-iterator.ensures.into_iter_gives c.split-line-items.ensures.done) refl (λ x b q h. search (rules, tests)))
    c.loop-line.yielded _ c.loop-line.yielded_by _ _ c.in-None.is c.next.ensures.steps in
    all_within c.args.text.now (omega arith) (c.loop-line.invariant.1) (done.1) c.if-inside.false

pub returns-clause-lanes : goal.returns-clause-lanes
returns-clause-lanes c =
    let done = YieldsList-end (YieldsList-from_slice_split _ (λ b. eqb b 10) (without_end c.args.text.now)
    (rw c.into_iter-line-iterator.ensures.into_iter_gives (c.split-line-items.ensures.rest ∙ c.without_last_newline.ensures))
    (rw c.into_iter-line-iterator.ensures.into_iter_gives c.split-line-items.ensures.done) refl (λ x b q h. search (rules, tests)))
    c.loop-line.yielded _ c.loop-line.yielded_by _ _ c.in-None.is c.next.ensures.steps in
    all_by_lanes c.args.text.now (omega arith) (c.loop-line.invariant.1) (done.1) c.if-inside.false

pub returns-clause-turns : goal.returns-clause-turns
returns-clause-turns c =
    let done = YieldsList-end (YieldsList-from_slice_split _ (λ b. eqb b 10) (without_end c.args.text.now)
    (rw c.into_iter-line-iterator.ensures.into_iter_gives (c.split-line-items.ensures.rest ∙ c.without_last_newline.ensures))
    (rw c.into_iter-line-iterator.ensures.into_iter_gives c.split-line-items.ensures.done) refl (λ x b q h. search (rules, tests)))
    c.loop-line.yielded _ c.loop-line.yielded_by _ _ c.in-None.is c.next.ensures.steps in
    all_in_turn c.args.text.now (omega arith) (c.loop-line.invariant.1) (done.1) c.if-inside.false
