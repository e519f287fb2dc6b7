use Rattle.std.proofs.Common.{inl, inr, sym, ◌∙◌, arith, ◌≤◌, ℕ, subst}
use Rattle.std.proofs.lemmas.Bool.{cases_lt}
use Rattle.stripe_region_read.proofs.StretchLaws.{list-short, data-few}
use Rattle.stripe_region_read.proofs.UnreadLaws.{none-match, told-unread, none-unread}
use Rattle.stripe_io.proofs.array_members_Fit.{force-valid, force-multiple, force-disks}
use Rattle.stripe_region_read.proofs.fetching.first_list_refusal.Goals as goal

pub first_read_refusal-refusal-requires-clause-within : goal.first_read_refusal-refusal-requires-clause-within
first_read_refusal-refusal-requires-clause-within c =
    let did = c.stretch_at-stretch.ensures in
    let short = list-short c.args.members.now.newest c.stretch_at-stretch.result.shape did.force in
    let end = did.within in
    let some = did.some in
    omega (arith, short, end, some, c.requires.within)

pub first_read_refusal-refusal-requires-clause-short : goal.first_read_refusal-refusal-requires-clause-short
first_read_refusal-refusal-requires-clause-short c =
    let did = c.stretch_at-stretch.ensures in
    let short = list-short c.args.members.now.newest c.stretch_at-stretch.result.shape did.force in
    let few = data-few c.args.members.now.newest c.requires.fit c.stretch_at-stretch.result.shape did.force in
    let end = did.within in
    let some = did.some in
    omega (arith, short, few, end, some, c.requires.within)

pub returns-then-is_some-2 : goal.returns-then-is_some-2
returns-then-is_some-2 c =
    let did = c.stretch_at-stretch.ensures in
    told-unread c.args.members.now c.stretch_at-stretch.result.shape c.args.relied c.relied_rows-rows.result c.loop-at.at c.stretch_at-stretch.result.end did.some did.one c.relied_rows-rows.ensures.rows
    _ c.args.from c.args.to c.loop-at.invariant.from did.within c.first_read_refusal-refusal.result (sym c.is_some-in-loop-at.ensures ∙ c.if-is_some-2.true) c.first_read_refusal-refusal.ensures

pub loop-at-preserved : goal.loop-at-preserved
loop-at-preserved c =
    let did = c.stretch_at-stretch.ensures in
    let was = c.loop-at.invariant in
    record {
      from = let early = was.from in let some = did.some in omega (arith, early, some);
      fine = λ x low high. elim (cases_lt x c.loop-at.at) [
        | inl before ↦ was.fine x low before
        | inr here ↦ none-unread c.args.members.now c.stretch_at-stretch.result.shape c.args.relied c.relied_rows-rows.result c.loop-at.at c.stretch_at-stretch.result.end did.some did.one c.relied_rows-rows.ensures.rows
            c.first_read_refusal-refusal.result (sym c.is_some-in-loop-at.ensures ∙ c.if-is_some-2.false) c.first_read_refusal-refusal.ensures x here high
      ];
    }

pub returns : goal.returns
returns c = λ x low high is.
    let end = c.loop-at-test.false in
    elim is [
      | inl above ↦ absurd (let few = none-match _ c.too_many_in-refusal.result (sym c.is_some.ensures ∙ c.if-is_some.false) c.too_many_in-refusal.ensures x low high in omega (arith, above, few))
      | inr un ↦ c.loop-at.invariant.fine x low (omega (arith, high, end)) un
    ]

pub first_read_refusal-refusal-requires-clause-shape : goal.first_read_refusal-refusal-requires-clause-shape
first_read_refusal-refusal-requires-clause-shape c = force-valid c.args.members.now.newest c.requires.fit c.stretch_at-stretch.result.shape c.stretch_at-stretch.ensures.force

pub first_read_refusal-refusal-requires-clause-multiple : goal.first_read_refusal-refusal-requires-clause-multiple
first_read_refusal-refusal-requires-clause-multiple c = force-multiple c.args.members.now.newest c.requires.fit c.stretch_at-stretch.result.shape c.stretch_at-stretch.ensures.force

pub first_read_refusal-refusal-requires-clause-roles : goal.first_read_refusal-refusal-requires-clause-roles
first_read_refusal-refusal-requires-clause-roles c = subst (λ (n : ℕ). c.stretch_at-stretch.result.shape.disks ≤ n) (sym c.requires.roles) (force-disks c.args.members.now.newest c.requires.fit c.stretch_at-stretch.result.shape c.stretch_at-stretch.ensures.force)
