use Rattle.std.proofs.Common.{◌≡◌, ◌+◌, ◌<◌, ℕ}
use Rattle.raid_layout.specs.raid_types_the_Span.{Span}
use Rattle.raid_layout.specs.raid_types_Sectors.{Sector}
use Rattle.reshape_begin_end.specs.stripe_list_Buffers.{buffered}
use Rattle.reshape_begin_end.specs.stripe_list_Full.{full_sector}
use Rattle.reshape_window_rows.specs.Copies.{IsCopied, IsOwnRow}
use Rattle.reshape_window_rows.proofs.runs.make_rows.Given as goal

abbrev pub invariant-loop-i : goal.invariant-loop-i
invariant-loop-i l = record {
  full : (tail : Span) (list : ℕ → Sector) → IsCopied l.span l.buffer tail list → (i : ℕ) → i < l.i → IsOwnRow l.shape l.span tail (l.from + i)
      → (role : ℕ) → role < l.shape.disks → buffered l.rows i role ≡ full_sector l.shape list (l.from + i) role;
}
