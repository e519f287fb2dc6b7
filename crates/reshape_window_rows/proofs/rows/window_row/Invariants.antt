use Rattle.std.proofs.Common.{◌≡◌, ◌*◌, ◌<◌, ℕ, false, length}
use Rattle.raid_layout.specs.raid_types_the_Span.{Span}
use Rattle.raid_layout.specs.raid_types_Sectors.{Sector}
use Rattle.raid_layout.specs.Layout.{row_roles}
use Rattle.reshape_begin_end.specs.raid_parity_Rows.{sector_of}
use Rattle.reshape_begin_end.specs.stripe_row_Writes.{is_parity}
use Rattle.reshape_begin_end.specs.stripe_list_Full.{full_sector}
use Rattle.reshape_window_rows.specs.Copies.{IsCopied, IsOwnRow}
use Rattle.reshape_window_rows.proofs.rows.window_row.Given as goal

abbrev pub invariant-loop-role : goal.invariant-loop-role
invariant-loop-role l = record {
  size : length l.into ≡ 512 * l.shape.disks;
  full : (tail : Span) (list : ℕ → Sector) → IsOwnRow l.shape l.span tail l.row → IsCopied l.span l.buffer tail list
      → (role : ℕ) → role < l.role → is_parity (row_roles l.shape l.row) role ≡ false → sector_of l.into role ≡ full_sector l.shape list l.row role;
}
