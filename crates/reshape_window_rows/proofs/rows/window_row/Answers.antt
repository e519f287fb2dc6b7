use Rattle.std.proofs.Common.{◌≡◌, ℕ, inl, inr, sym, ◌∙◌, ap, subst, arith}
use Rattle.std.proofs.lemmas.Bool.{cases_eq}
use Rattle.raid_layout.specs.Layout.{row_roles}
use Rattle.reshape_begin_end.specs.raid_parity_Rows.{sector_of}
use Rattle.reshape_begin_end.specs.stripe_row_Writes.{is_parity}
use Rattle.reshape_begin_end.specs.stripe_list_Full.{full_sector}
use Rattle.reshape_window_rows.proofs.rows.window_row.Goals as goal

pub loop-role-preserved : goal.loop-role-preserved
loop-role-preserved c =
    let was = c.loop-role.invariant in
    let did = c.put_role.ensures in
    record {
      size = omega (arith, c.put_role.auto.into, was.size);
      full = λ tail list own copied role lt here. elim (cases_eq role c.loop-role.role) [
        | inl same ↦ subst (λ (r : ℕ). sector_of c.put_role.new.into r ≡ full_sector c.args.shape.now list c.args.row r) (sym same)
            (did.full tail list own copied (ap (is_parity (row_roles c.args.shape.now c.args.row)) (sym same) ∙ here))
        | inr other ↦ did.others role other ∙ was.full tail list own copied role (omega (arith, lt, other)) here
      ];
    }

pub returns : goal.returns
returns c = record { full = λ tail list own copied role lt here. c.loop-role.invariant.full tail list own copied role (omega (arith, lt, c.loop-role-test.false)) here }
