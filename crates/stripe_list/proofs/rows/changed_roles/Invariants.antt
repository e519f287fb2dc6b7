use Rattle.std.proofs.Common.{◌≡◌, ◌<◌, ℕ, true, false}
use Rattle.raid_layout.specs.raid_types_Shapes.{has_slot}
use Rattle.raid_layout.specs.Layout.{row_roles}
use Rattle.stripe_row.specs.Writes.{is_parity}
use Rattle.stripe_list.specs.Writing.{HasOther, IsChanged}
use Rattle.stripe_list.proofs.rows.changed_roles.Given as goal

abbrev pub invariant-loop-role : goal.invariant-loop-role
invariant-loop-role l = record {
  changed : (role : ℕ) → has_slot l.changed role ≡ true → IsChanged l.shape l.first l.count role l.row;
  left : (role : ℕ) → role < l.role → has_slot l.changed role ≡ false → is_parity (row_roles l.shape l.row) role ≡ false → HasOther l.shape l.first l.count role l.row;
}
