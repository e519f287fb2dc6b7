use Rattle.std.proofs.Common.{inl, inr, le_trans, le_of_lt, sym, ◌∙◌, subst}
use Rattle.std.proofs.lemmas.Bool.{cases_lt}
use Rattle.stripe_io.specs.raid_types_the_Shape.{Shape}
use Rattle.stripe_io.specs.array_members_Lacking.{DoesWithout}
use Rattle.stripe_region_read.proofs.UnreadLaws.{none-match}
use Rattle.stripe_region_read.proofs.fetching.too_many_in.Goals as goal

pub loop-at-preserved : goal.loop-at-preserved
loop-at-preserved c =
    let did = c.stretch_at-stretch.ensures in
    let was = c.loop-at.invariant in
    record {
      from = le_trans was.from (le_of_lt did.some);
      fine = λ x low high. elim (cases_lt x c.loop-at.at) [
        | inl before ↦ was.fine x low before
        | inr here ↦ subst (λ (s : Shape). DoesWithout s c.args.members.now) (sym (did.one x here high))
            (none-match _ c.too_many_of-refusal.result (sym c.is_some.ensures ∙ c.if-is_some.false) c.too_many_of-refusal.ensures)
      ];
    }
