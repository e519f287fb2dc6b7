use Rattle.std.proofs.Common.{◌≡◌, ℕ, Bool, true, false, inl, inr, sym, ◌∙◌, ap, subst, arith}
use Rattle.std.proofs.lemmas.Bool.{cases_eq}
use Rattle.raid_layout.specs.raid_types_Shapes.{has_slot}
use Rattle.raid_layout.specs.Layout.{row_roles}
use Rattle.stripe_row.proofs.raid_parity_Columns.{bool_cases}
use Rattle.stripe_row.proofs.sb_specs_SlotSets.{none_there}
use Rattle.stripe_row.specs.Writes.{is_parity}
use Rattle.stripe_list.specs.Writing.{HasOther, IsChanged}
use Rattle.stripe_list.proofs.rows.changed_roles.Goals as goal

false-true : {X : Type 0} {b : Bool} → b ≡ false → b ≡ true → X
false-true off on = absurd (cc)

pub loop-role-init : goal.loop-role-init
loop-role-init c = record {
  changed = λ role there. false-true (none_there role) there;
  left = λ role lt not plain. absurd (omega (arith, lt));
}

pub loop-role-preserved : goal.loop-role-preserved
loop-role-preserved c =
    let was = c.loop-role.invariant in
    let did = c.with_changed-changed.ensures in
    let shape = c.args.shape.now in
    record {
      changed = λ role there. elim (did.changed role there) [
        | inl before ↦ was.changed role before
        | inr here ↦ subst (λ (r : ℕ). IsChanged shape c.args.first c.args.count r c.args.row) (sym here.0) here.1
      ];
      left = λ role lt not plain. elim (cases_eq role c.loop-role.role) [
        | inl same ↦ subst (λ (r : ℕ). HasOther shape c.args.first c.args.count r c.args.row) (sym same)
            (did.left (ap (has_slot c.with_changed-changed.result) (sym same) ∙ not) (ap (is_parity (row_roles shape c.args.row)) (sym same) ∙ plain))
        | inr other ↦ was.left role (omega (arith, lt, other)) (elim (bool_cases (has_slot c.loop-role.changed role)) [
          | inl here ↦ false-true not (did.stay role here)
          | inr gone ↦ gone
        ]) plain
      ];
    }
