use Rattle.std.proofs.Common.{◌≡◌, ◌/◌, ℕ, length, inl, inr, sym, ◌∙◌, ap, subst, arith}
use Rattle.std.proofs.lemmas.Bool.{cases_eq}
use Rattle.raid_layout.specs.Layout.{place}
use Rattle.stripe_row.specs.raid_parity_Rows.{sector_of}
use Rattle.stripe_list.specs.Writing.{IsOther}
use Rattle.stripe_list.proofs.rows.change_row.Goals as goal

pub loop-role-preserved : goal.loop-role-preserved
loop-role-preserved c =
    let was = c.loop-role.invariant in
    let did = c.change_role.ensures in
    let shape = c.args.shape.now in
    let count = length c.args.from.now / 512 in
    record {
      size = omega (arith, c.change_role.auto.bytes, was.size);
      changed = λ role x lt placed low high. elim (cases_eq role c.loop-role.role) [
        | inl same ↦ ap (λ (r : ℕ). sector_of c.change_role.new.bytes r) same
            ∙ did.changed x (subst (λ (r : ℕ). place shape x ≡ record { role = r; row = c.args.row }) same placed) low high
        | inr other ↦ did.others role other ∙ was.changed role x (omega (arith, lt, other)) placed low high
      ];
      kept = λ role lt apart. elim (cases_eq role c.loop-role.role) [
        | inl same ↦ ap (λ (r : ℕ). sector_of c.change_role.new.bytes r) same
            ∙ did.kept (subst (λ (r : ℕ). IsOther shape c.args.first count r c.args.row) same apart)
            ∙ was.ahead c.loop-role.role (omega arith) ∙ ap (λ (r : ℕ). sector_of c.args.bytes.now r) (sym same)
        | inr other ↦ did.others role other ∙ was.kept role (omega (arith, lt, other)) apart
      ];
      ahead = λ role le. did.others role (λ same. absurd (omega (arith, le, same))) ∙ was.ahead role (omega (arith, le));
    }

pub returns-clause-changed : goal.returns-clause-changed
returns-clause-changed c = λ role x lt placed low high. c.loop-role.invariant.changed role x (omega (arith, c.loop-role-test.false, lt)) placed low high
