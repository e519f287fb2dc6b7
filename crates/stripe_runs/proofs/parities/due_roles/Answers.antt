use Rattle.std.proofs.Common.{◌≡◌, ℕ, ◌+◌, ◌||◌, ◌<◌, length, get_or, set, inl, inr, sym, ◌∙◌, ap, subst, arith, length-set, get_or-set_same, get_or-set_other}
use Rattle.std.specs.Prelude.{slice_index}
use Rattle.std.proofs.lemmas.Bool.{cases_eq}
use Rattle.raid_layout.specs.raid_types_Shapes.{has_slot}
use Rattle.raid_layout.specs.raid_types_the_RowRoles.{RowRoles}
use Rattle.raid_layout.specs.Layout.{row_roles}
use Rattle.stripe_row.specs.Writes.{is_parity}
use Rattle.stripe_runs.specs.Writing.{is_due_in}
use Rattle.stripe_runs.proofs.ReadLaws.{roles_along}
use Rattle.stripe_runs.proofs.parities.due_roles.Goals as goal

pub loop-j-preserved : goal.loop-j-preserved
loop-j-preserved c =
    let was = c.loop-j.invariant in
    let j = c.loop-j.j in
    let set' = c.with_parity.result in
    let due = c.loop-j.due in
    let shape = c.args.shape.now in
    let row = c.args.run.row in
    let room : j < length due = omega (arith, was.whole, c.requires.few, c.loop-j-test.true) in
    let are : c.row_of-roles.result ≡ row_roles shape (row + j) = c.row_of-roles.ensures.roles ∙ roles_along shape row j (c.requires.stripe j c.loop-j-test.true) in
    record {
      whole = length-set due j set' ∙ was.whole;
      there = λ i role lt. elim (cases_eq i j) [
        | inl same ↦ subst (λ (k : ℕ). has_slot (get_or (set due j set') k 0) role ≡ is_due_in shape c.args.run c.args.changed.now k role) (sym same)
            (ap (λ (n : ℕ). has_slot n role) (get_or-set_same due j set' 0 room) ∙ c.with_parity.ensures role
            ∙ ap (λ (rs : RowRoles). has_slot (slice_index c.args.changed.now (c.args.run.at + j)) role || is_parity rs role) are)
        | inr other ↦ ap (λ (n : ℕ). has_slot n role) (get_or-set_other due j i set' 0 other) ∙ was.there i role (omega (arith, lt, other))
      ];
    }
