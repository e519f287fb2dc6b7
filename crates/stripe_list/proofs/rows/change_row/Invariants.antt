use Rattle.std.proofs.Common.{◌≡◌, ◌+◌, ◌-◌, ◌*◌, ◌/◌, ◌<◌, ◌≤◌, ℕ, length}
use Rattle.raid_layout.specs.Layout.{place}
use Rattle.stripe_row.specs.raid_parity_Rows.{sector_of}
use Rattle.stripe_list.specs.Writing.{IsOther}
use Rattle.stripe_list.proofs.rows.change_row.Given as goal

abbrev pub invariant-loop-role : goal.invariant-loop-role
invariant-loop-role l = record {
  size : length l.bytes ≡ 512 * l.shape.disks;
  changed : (role x : ℕ) → role < l.role → place l.shape x ≡ record { role = role; row = l.row } → l.first ≤ x → x < l.first + length l.from / 512
      → sector_of l.bytes role ≡ sector_of l.from (x - l.first);
  kept : (role : ℕ) → role < l.role → IsOther l.shape l.first (length l.from / 512) role l.row → sector_of l.bytes role ≡ sector_of l.fn.bytes role;
  ahead : (role : ℕ) → l.role ≤ role → sector_of l.bytes role ≡ sector_of l.fn.bytes role;
}
