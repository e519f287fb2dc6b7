use Rattle.std.proofs.Common.{inl, inr, sym, ◌∙◌, arith}
use Rattle.std.proofs.lemmas.Bool.{cases_lt}
use Rattle.array_reshaping_state.proofs.FirstLaws.{found-first, found-torn, none-first, fine-on}
use Rattle.array_reshaping_state.proofs.refusing.lacking_from.Goals as goal

pub returns-then-is_some-clause-first : goal.returns-then-is_some-clause-first
returns-then-is_some-clause-first c =
    let was = c.loop-at.invariant in
    found-first c.args.members.now c.args.first c.args.count c.loop-at.at c.stretch_at-stretch.result.shape c.too_many_of-refusal.result was.from c.loop-at-test.true c.stretch_at-stretch.ensures.shape was.fine
    (sym c.is_some.ensures ∙ c.if-is_some.true) c.too_many_of-refusal.ensures

pub returns-then-is_some-clause-why : goal.returns-then-is_some-clause-why
returns-then-is_some-clause-why c =
    found-torn c.args.members.now c.args.first c.args.count _ c.loop-at.at c.stretch_at-stretch.result.shape c.too_many_of-refusal.result c.loop-at.invariant.from c.loop-at-test.true c.stretch_at-stretch.ensures.shape
    (sym c.is_some.ensures ∙ c.if-is_some.true) c.too_many_of-refusal.ensures

pub loop-at-preserved : goal.loop-at-preserved
loop-at-preserved c =
    let was = c.loop-at.invariant in
    let did = c.stretch_at-stretch.ensures in
    record {
      from = let from = was.from in let some = did.some in omega (arith, from, some);
      fine = λ x low high. elim (cases_lt x c.loop-at.at) [
        | inl before ↦ was.fine x low before
        | inr here ↦ fine-on c.args.members.now c.stretch_at-stretch.result.shape c.loop-at.at c.stretch_at-stretch.result.end c.too_many_of-refusal.result did.one
            (sym c.is_some.ensures ∙ c.if-is_some.false) c.too_many_of-refusal.ensures x here high
      ];
    }

pub returns-clause-first : goal.returns-clause-first
returns-clause-first c =
    let end = c.loop-at-test.false in
    none-first c.args.members.now c.args.first c.args.count (λ x low high. c.loop-at.invariant.fine x low (omega (arith, high, end)))

pub returns-clause-why : goal.returns-clause-why
returns-clause-why c = λ x low high. let end = c.loop-at-test.false in c.loop-at.invariant.fine x low (omega (arith, high, end))
