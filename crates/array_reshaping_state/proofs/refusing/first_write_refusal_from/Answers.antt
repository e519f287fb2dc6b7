use Rattle.std.proofs.Common.{◌≤◌, ◌+◌, refl, sym, ◌∙◌, arith}
use Rattle.array_reshaping_state.specs.First.{list_refusal}
use Rattle.array_reshaping_state.proofs.FirstLaws.{past-first, told-here, none-here, torn-write, fine-all, write-judged}
use Rattle.array_reshaping_state.proofs.refusing.first_write_refusal_from.Goals as goal

pub runs_of-cut-requires-clause-some : goal.runs_of-cut-requires-clause-some
runs_of-cut-requires-clause-some c = let some = c.requires.some in omega (arith, some)

pub runs_of-cut-requires-clause-within : goal.runs_of-cut-requires-clause-within
runs_of-cut-requires-clause-within c = let within = c.if-visible-at.false in let inside = c.requires.visible in omega (arith, within, inside)

pub returns-then-visible-at-clause-first : goal.returns-then-visible-at-clause-first
returns-then-visible-at-clause-first c = past-first c.args.visible _ _ c.if-visible-at.true

pub returns-then-visible-at-clause-why : goal.returns-then-visible-at-clause-why
returns-then-visible-at-clause-why c = (refl, c.if-visible-at.true, refl)

pub returns-then-is_some-clause-first : goal.returns-then-is_some-clause-first
returns-then-is_some-clause-first c =
    told-here c.args.visible _ c.lacking_from-refusal.result (list_refusal c.args.at c.args.count c.args.members.now) (let within = c.if-visible-at.false in omega (arith, within)) c.lacking_from-refusal.ensures.first

pub returns-then-is_some-clause-why : goal.returns-then-is_some-clause-why
returns-then-is_some-clause-why c =
    torn-write c.args.visible c.args.relied c.args.at c.args.count c.args.members.now c.requires.fit (let within = c.if-visible-at.false in omega (arith, within)) _ c.args.window c.lacking_from-refusal.result
    (sym c.is_some.ensures ∙ c.if-is_some.true) c.lacking_from-refusal.ensures.why

pub returns-clause-first : goal.returns-clause-first
returns-clause-first c =
    none-here _ c.args.visible _ c.lacking_from-refusal.result (list_refusal c.args.at c.args.count c.args.members.now) (let within = c.if-visible-at.false in omega (arith, within)) c.lacking_from-refusal.ensures.first
    (sym c.is_some.ensures ∙ c.if-is_some.false)

pub returns-clause-why : goal.returns-clause-why
returns-clause-why c =
    let within : c.args.at + c.args.count ≤ c.args.visible = (let past = c.if-visible-at.false in omega (arith, past)) in
    write-judged c.args.visible c.args.relied c.args.at c.args.count c.args.members.now c.requires.fit within c.args.window c.runs_of-cut.result.low c.runs_of-cut.result.high c.runs_of-cut.ensures
    (fine-all c.args.visible c.args.relied c.args.at c.args.count c.args.members.now c.requires.fit within c.lacking_from-refusal.result (sym c.is_some.ensures ∙ c.if-is_some.false) c.lacking_from-refusal.ensures.why)
    c.first_runs_refusal.result c.first_runs_refusal.ensures
