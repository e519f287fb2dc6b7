use Rattle.std.proofs.Common.{◌≡◌, ◌∙◌, ◌==◌, ℕ, slice_index, subst, arith}
use Rattle.std.proofs.lemmas.Bool.{eqb-true}
use Rattle.std.proofs.lemmas.List.{get_or_default}
use Rattle.std.proofs.lemmas.List.Folds.{Any-from_list_any}
use Rattle.sb_specs.specs.Update.{own_in}
use Rattle.sb_specs.specs.Writing.{IsMember}
use Rattle.test_openings.proofs.checks.are_spares.Goals as goal

pub returns : goal.returns
returns g c = λ _ slot any.
    let spares = c.args.members.now.spares in
    let (place, spare, low, at, same) = Any-from_list_any (λ s. s == slot) spares any in
    let is : slice_index spares place ≡ slot = get_or_default spares place 0 spare low ∙ at ∙ eqb-true spare slot same in
    subst (λ (s : ℕ). IsMember (g.B.Bank.given c.args.bank.now) (own_in c.args.members.now.own s) s) is
    (c.loop-place.invariant place (omega (arith, low, c.loop-place-test.false, c.len-place-end.ensures)))
