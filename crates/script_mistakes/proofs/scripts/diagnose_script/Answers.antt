use Rattle.std.proofs.Common.{◌≡◌, ◌≢◌, ℕ, ◌+◌, ◌<◌, ◌≤◌, take, ◌++◌, ◌∷◌, true, false, Result, Ok, Err, get_or, [], List, length, eqb, arith, rules, refl, sym, ap, subst, Bool, ◌∙◌, true≢false}
use Rattle.std.proofs.lemmas.Iterator.Splits.{YieldsList-from_slice_split}
use Rattle.std.proofs.lemmas.Iterator.Consumers.{YieldsList-turn, YieldsList-end}
use Rattle.std.proofs.lemmas.List.{length_push}
use borrow.Author.Tests.{tests}
use Rattle.script.specs.Grammar.{meaning_of}
use Rattle.script.specs.Mistakes.{IsDiagnosis}
use Rattle.script.specs.Script.{lines_of, without_end, is_inside, most_lines, most_sectors, total_sectors, asked}
use Rattle.script.specs.declared.grammar.Meaning.TheVariants.{Bad}
use Rattle.script.proofs.ScriptLaws.{too_long, bad_at, at_turn}
use Rattle.script_mistakes.specs.Reasons.{sectors_in}
use Rattle.script_mistakes.proofs.ReadLaws.{read_to-start, read_to-bad, read_to-long, read_to-over, read_to-total, read_to-more, read_inside, read_to-open, read_to-end}
use Rattle.script_mistakes.proofs.scripts.diagnose_script.Goals as goal

pub returns-then-text-gt-MOST_BYTES-clause-line : goal.returns-then-text-gt-MOST_BYTES-clause-line
returns-then-text-gt-MOST_BYTES-clause-line c = too_long true c.args.text.now (omega arith)

pub loop-line-init : goal.loop-line-init
loop-line-init c = (refl, read_to-start (lines_of c.args.text.now))

pub returns-then-number-gt-MOST_LINES-clause-line : goal.returns-then-number-gt-MOST_LINES-clause-line
returns-then-number-gt-MOST_LINES-clause-line c =
    let here = (at_turn (lines_of c.args.text.now) (length c.loop-line.yielded) c.in-Some.line.now
    (YieldsList-turn (YieldsList-from_slice_split _ (λ b. eqb b 10) (without_end c.args.text.now)
    (rw c.into_iter-line-iterator.ensures.into_iter_gives (c.split-line-items.ensures.rest ∙ c.without_last_newline.ensures))
    (rw c.into_iter-line-iterator.ensures.into_iter_gives c.split-line-items.ensures.done) refl (λ x b q h. search (rules, tests)))
    c.loop-line.yielded _ c.loop-line.yielded_by _ _ c.in-Some.line c.in-Some.is c.next.ensures.steps)) in
    let count = c.loop-line.invariant.0 in
    let bad = read_to-long (c.loop-line.invariant.1) (here.0) (omega (arith, count)) in
    bad_at true c.args.text.now (length c.loop-line.yielded) (omega arith) bad ∙ ap (λ k. Err (k + 1)) (sym count)

pub returns-then-number-gt-MOST_LINES-clause-reason : goal.returns-then-number-gt-MOST_LINES-clause-reason
returns-then-number-gt-MOST_LINES-clause-reason c =
    let here = (at_turn (lines_of c.args.text.now) (length c.loop-line.yielded) c.in-Some.line.now
    (YieldsList-turn (YieldsList-from_slice_split _ (λ b. eqb b 10) (without_end c.args.text.now)
    (rw c.into_iter-line-iterator.ensures.into_iter_gives (c.split-line-items.ensures.rest ∙ c.without_last_newline.ensures))
    (rw c.into_iter-line-iterator.ensures.into_iter_gives c.split-line-items.ensures.done) refl (λ x b q h. search (rules, tests)))
    c.loop-line.yielded _ c.loop-line.yielded_by _ _ c.in-Some.line c.in-Some.is c.next.ensures.steps)) in
    let count = c.loop-line.invariant.0 in
    omega (arith, count, here.0)

pub returns-in-Err-clause-line : goal.returns-in-Err-clause-line
returns-in-Err-clause-line c =
    let here = (at_turn (lines_of c.args.text.now) (length c.loop-line.yielded) c.in-Some.line.now
    (YieldsList-turn (YieldsList-from_slice_split _ (λ b. eqb b 10) (without_end c.args.text.now)
    (rw c.into_iter-line-iterator.ensures.into_iter_gives (c.split-line-items.ensures.rest ∙ c.without_last_newline.ensures))
    (rw c.into_iter-line-iterator.ensures.into_iter_gives c.split-line-items.ensures.done) refl (λ x b q h. search (rules, tests)))
    c.loop-line.yielded _ c.loop-line.yielded_by _ _ c.in-Some.line c.in-Some.is c.next.ensures.steps)) in
    let count = c.loop-line.invariant.0 in
    let means : Bad ≡ meaning_of c.loop-line.inside (get_or (lines_of c.args.text.now) (length c.loop-line.yielded) []) =
    sym (c.in-Err.ensures.bad.0 refl) ∙ ap (meaning_of c.loop-line.inside) (here.1) in
    let bad = read_to-bad (c.loop-line.invariant.1) (here.0) Bad means refl (omega (arith, count)) in
    bad_at true c.args.text.now (length c.loop-line.yielded) (omega arith) bad ∙ ap (λ k. Err (k + 1)) (sym count)

pub returns-in-Err-clause-reason : goal.returns-in-Err-clause-reason
returns-in-Err-clause-reason c =
    let here = (at_turn (lines_of c.args.text.now) (length c.loop-line.yielded) c.in-Some.line.now
    (YieldsList-turn (YieldsList-from_slice_split _ (λ b. eqb b 10) (without_end c.args.text.now)
    (rw c.into_iter-line-iterator.ensures.into_iter_gives (c.split-line-items.ensures.rest ∙ c.without_last_newline.ensures))
    (rw c.into_iter-line-iterator.ensures.into_iter_gives c.split-line-items.ensures.done) refl (λ x b q h. search (rules, tests)))
    c.loop-line.yielded _ c.loop-line.yielded_by _ _ c.in-Some.line c.in-Some.is c.next.ensures.steps)) in
    let count = c.loop-line.invariant.0 in
    let P : List ℕ → Type 0 = λ line. IsDiagnosis (is_inside (take (length c.loop-line.yielded) (lines_of c.args.text.now))) line c.in-Err.diagnosis.column c.in-Err.diagnosis.width c.in-Err.diagnosis.mistake in
    let Q = λ (inside : Bool). IsDiagnosis inside c.in-Some.line.now c.in-Err.diagnosis.column c.in-Err.diagnosis.width c.in-Err.diagnosis.mistake in
    (length c.loop-line.yielded, ap (λ k. k + 1) count, subst P (here.1) (subst Q c.loop-line.invariant.1.inside_is c.in-Err.ensures.diagnosis))

pub returns-then-sectors-gt-MOST_SECTORS-clause-line : goal.returns-then-sectors-gt-MOST_SECTORS-clause-line
returns-then-sectors-gt-MOST_SECTORS-clause-line c =
    let here = (at_turn (lines_of c.args.text.now) (length c.loop-line.yielded) c.in-Some.line.now
    (YieldsList-turn (YieldsList-from_slice_split _ (λ b. eqb b 10) (without_end c.args.text.now)
    (rw c.into_iter-line-iterator.ensures.into_iter_gives (c.split-line-items.ensures.rest ∙ c.without_last_newline.ensures))
    (rw c.into_iter-line-iterator.ensures.into_iter_gives c.split-line-items.ensures.done) refl (λ x b q h. search (rules, tests)))
    c.loop-line.yielded _ c.loop-line.yielded_by _ _ c.in-Some.line c.in-Some.is c.next.ensures.steps)) in
    let count = c.loop-line.invariant.0 in
    let means : c.in-Ok.meaning ≡ meaning_of c.loop-line.inside (get_or (lines_of c.args.text.now) (length c.loop-line.yielded) []) =
    c.in-Ok.ensures.meaning ∙ ap (meaning_of c.loop-line.inside) (here.1) in
    let size = c.sectors_in-sectors.ensures in
    let bad = read_to-over (c.loop-line.invariant.1) (here.0) c.in-Ok.meaning means (omega (arith, size)) (omega (arith, count)) in
    bad_at true c.args.text.now (length c.loop-line.yielded) (omega arith) bad ∙ ap (λ k. Err (k + 1)) (sym count)

pub returns-then-sectors-gt-MOST_SECTORS-clause-reason : goal.returns-then-sectors-gt-MOST_SECTORS-clause-reason
returns-then-sectors-gt-MOST_SECTORS-clause-reason c =
    let here = (at_turn (lines_of c.args.text.now) (length c.loop-line.yielded) c.in-Some.line.now
    (YieldsList-turn (YieldsList-from_slice_split _ (λ b. eqb b 10) (without_end c.args.text.now)
    (rw c.into_iter-line-iterator.ensures.into_iter_gives (c.split-line-items.ensures.rest ∙ c.without_last_newline.ensures))
    (rw c.into_iter-line-iterator.ensures.into_iter_gives c.split-line-items.ensures.done) refl (λ x b q h. search (rules, tests)))
    c.loop-line.yielded _ c.loop-line.yielded_by _ _ c.in-Some.line c.in-Some.is c.next.ensures.steps)) in
    let count = c.loop-line.invariant.0 in
    let means : c.in-Ok.meaning ≡ meaning_of c.loop-line.inside (get_or (lines_of c.args.text.now) (length c.loop-line.yielded) []) =
    c.in-Ok.ensures.meaning ∙ ap (meaning_of c.loop-line.inside) (here.1) in
    let size = c.sectors_in-sectors.ensures in
    let total = read_to-total (c.loop-line.invariant.1) (here.0) c.in-Ok.meaning means in
    let P : ℕ → Type 0 = λ n. most_sectors < total_sectors (asked (take (n + 1) (lines_of c.args.text.now))) in
    subst P (sym count) (omega (arith, total, size))

pub loop-line-preserved : goal.loop-line-preserved
loop-line-preserved c =
    let here = (at_turn (lines_of c.args.text.now) (length c.loop-line.yielded) c.in-Some.line.now
    (YieldsList-turn (YieldsList-from_slice_split _ (λ b. eqb b 10) (without_end c.args.text.now)
    (rw c.into_iter-line-iterator.ensures.into_iter_gives (c.split-line-items.ensures.rest ∙ c.without_last_newline.ensures))
    (rw c.into_iter-line-iterator.ensures.into_iter_gives c.split-line-items.ensures.done) refl (λ x b q h. search (rules, tests)))
    c.loop-line.yielded _ c.loop-line.yielded_by _ _ c.in-Some.line c.in-Some.is c.next.ensures.steps)) in
    let count = c.loop-line.invariant.0 in
    let means : c.in-Ok.meaning ≡ meaning_of c.loop-line.inside (get_or (lines_of c.args.text.now) (length c.loop-line.yielded) []) =
    c.in-Ok.ensures.meaning ∙ ap (meaning_of c.loop-line.inside) (here.1) in
    let size = c.sectors_in-sectors.ensures in
    let good : c.in-Ok.meaning ≢ Bad = λ bad. true≢false (sym (c.in-Ok.ensures.bad.1 (sym c.in-Ok.ensures.meaning ∙ bad))) in
    let more = read_to-more (c.loop-line.invariant.1) (here.0) c.in-Ok.meaning means good (omega (arith, count)) (omega (arith, size)) in
    (rw length_push (ap (λ n. n + 1) count), rw (length_push c.loop-line.yielded c.in-Some.line, c.is_inside_after-inside.ensures, size) more)

pub returns-then-inside-clause-line : goal.returns-then-inside-clause-line
returns-then-inside-clause-line c =
    let done = YieldsList-end (YieldsList-from_slice_split _ (λ b. eqb b 10) (without_end c.args.text.now)
    (rw c.into_iter-line-iterator.ensures.into_iter_gives (c.split-line-items.ensures.rest ∙ c.without_last_newline.ensures))
    (rw c.into_iter-line-iterator.ensures.into_iter_gives c.split-line-items.ensures.done) refl (λ x b q h. search (rules, tests)))
    c.loop-line.yielded _ c.loop-line.yielded_by _ _ c.in-None.is c.next.ensures.steps in
    read_to-open c.args.text.now (omega arith) (c.loop-line.invariant.1) (done.1) c.if-inside.true ∙ ap (λ k. Err (k + 1)) (sym (c.loop-line.invariant.0))

pub returns-then-inside-clause-reason : goal.returns-then-inside-clause-reason
returns-then-inside-clause-reason c =
    let done = YieldsList-end (YieldsList-from_slice_split _ (λ b. eqb b 10) (without_end c.args.text.now)
    (rw c.into_iter-line-iterator.ensures.into_iter_gives (c.split-line-items.ensures.rest ∙ c.without_last_newline.ensures))
    (rw c.into_iter-line-iterator.ensures.into_iter_gives c.split-line-items.ensures.done) refl (λ x b q h. search (rules, tests)))
    c.loop-line.yielded _ c.loop-line.yielded_by _ _ c.in-None.is c.next.ensures.steps in
    read_inside c.args.text.now (omega arith) (c.loop-line.invariant.1) (done.1) ∙ c.if-inside.true

pub returns-clause-line : goal.returns-clause-line
returns-clause-line c =
    let done = YieldsList-end (YieldsList-from_slice_split _ (λ b. eqb b 10) (without_end c.args.text.now)
    (rw c.into_iter-line-iterator.ensures.into_iter_gives (c.split-line-items.ensures.rest ∙ c.without_last_newline.ensures))
    (rw c.into_iter-line-iterator.ensures.into_iter_gives c.split-line-items.ensures.done) refl (λ x b q h. search (rules, tests)))
    c.loop-line.yielded _ c.loop-line.yielded_by _ _ c.in-None.is c.next.ensures.steps in
    read_to-end c.args.text.now (omega arith) (c.loop-line.invariant.1) (done.1) c.if-inside.false
