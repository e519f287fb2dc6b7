use Rattle.std.proofs.Common.{rules, ◌≡◌, ℕ, ◌<◌, true, false, get_or, eqb, eq-eqb, Option, Some, inl, inr, refl, sym, ◌∙◌, ap, arith}
use Rattle.std.specs.Option.{option_eq}
use Rattle.sb_safe_updates.specs.raid_types_the_RowRoles.{RowRoles}
use Rattle.sb_safe_updates.specs.raid_parity_Rows.{IsRowRoles}
use Rattle.sb_safe_updates.proofs.stripe_row_NewRow.{new_row}
use Rattle.stripe_io.proofs.FillingLaws.{made-full, plain-full}
use Rattle.stripe_io.proofs.filling.make_sector.Goals as goal

pub returns-then-roles-role : goal.returns-then-roles-role
returns-then-roles-role c = record {
  full = λ list own.
      let roles = c.row_of-roles.result in
      let are = c.row_of-roles.ensures in
      let disks : roles.disks ≡ c.args.shape.now.disks = ap (λ (rs : RowRoles). rs.disks) are.roles in
      let valid : IsRowRoles roles = search rules in
      let small : (place : ℕ) → get_or c.syndromes.new.row place 0 < 256 = λ place. let h = c.type_inv.bytes place in omega (arith, h) in
      (new_row c.args.shape.now c.args.row roles c.args.bytes.now c.syndromes.new.row are.roles valid (c.syndromes.auto.row ∙ c.requires.size) small c.syndromes.ensures.good c.syndromes.ensures.data).sectors
      c.args.role c.requires.role ∙ made-full c.args.shape.now list c.args.row c.args.bytes.now c.requires.shape own c.args.role c.requires.role;
}

pub returns-else-eq : goal.returns-else-eq
returns-else-eq c = record {
  full = λ list own. plain-full c.args.shape.now list c.args.row c.args.bytes.now c.requires.shape own c.args.role c.requires.role
      (λ parity. elim parity [
        | inl p ↦ c.if-roles-role.false (ap (λ (rs : RowRoles). rs.p) c.row_of-roles.ensures.roles ∙ sym p)
        | inr q ↦ absurd (
            let found : c.row_of-roles.result.q ≡ Some c.args.role = ap (λ (rs : RowRoles). rs.q) c.row_of-roles.ensures.roles ∙ q in
            let same : c.eq.result ≡ eqb c.args.role c.args.role = c.eq.ensures ∙ ap (λ (o : Option ℕ). option_eq eqb o (Some c.args.role)) found in
            let yes : true ≡ false = sym (same ∙ eq-eqb c.args.role c.args.role refl) ∙ c.if-eq.false in
            cc
            )
      ]);
}
