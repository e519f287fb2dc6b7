use Rattle.std.proofs.Common.{sym, subst, ◌∙◌, Option}
use Rattle.std.specs.Prelude.{MatchOption}
use Rattle.history.specs.raid_types_the_Refusal.{Refusal}
use Rattle.reshape_request.specs.Asked.{asked_of, IsFirst, IsUngrowable}
use Rattle.reshape_request.proofs.FirstLaws.{judged, exactly, none-exactly, unrefused-plan}
use Rattle.reshape_request.proofs.judging.judge_grow.Goals as goal

pub returns-clause-exact : goal.returns-clause-exact
returns-clause-exact c =
    let a = asked_of c.args.members.now c.args.resync c.args.phases c.args.visible c.args.backup in
    let wish = c.args.wish.now in
    exactly a wish c.first_refusal.result (subst (λ (o : Option Refusal). MatchOption o ((r : Refusal) → IsUngrowable a wish r → ⊥) (IsFirst a wish)) (sym c.first_refusal.ensures) (judged a wish))

pub returns-clause-none : goal.returns-clause-none
returns-clause-none c =
    let a = asked_of c.args.members.now c.args.resync c.args.phases c.args.visible c.args.backup in
    let wish = c.args.wish.now in
    none-exactly a wish c.first_refusal.result (subst (λ (o : Option Refusal). MatchOption o ((r : Refusal) → IsUngrowable a wish r → ⊥) (IsFirst a wish)) (sym c.first_refusal.ensures) (judged a wish))

pub returns-clause-planned : goal.returns-clause-planned
returns-clause-planned c = λ none. unrefused-plan (asked_of c.args.members.now c.args.resync c.args.phases c.args.visible c.args.backup) c.args.wish.now (sym c.first_refusal.ensures ∙ none)
