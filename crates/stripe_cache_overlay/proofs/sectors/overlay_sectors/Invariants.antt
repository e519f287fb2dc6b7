use Rattle.std.proofs.Common.{◌≡◌, ◌+◌, ◌≤◌, ◌<◌, ℕ, length}
use Rattle.raid_layout.specs.Layout.{place}
use Rattle.raid_parity.specs.Rows.{sector_of}
use Rattle.stripe_delayed_rows.specs.stripe_cache_Rows.{held_row}
use Rattle.stripe_cache_overlay.specs.Overlaid.{IsOver, AreSameRows}
use Rattle.stripe_cache_overlay.proofs.sectors.overlay_sectors.Given as goal

abbrev pub invariant-loop-i : goal.invariant-loop-i
invariant-loop-i l = record {
  size : length l.into ≡ length l.fn.into;
  long : 8192 ≤ length l.scratch;
  laid : (k : ℕ) → k < l.i → IsOver (held_row l.side (place l.shape (l.first + k)).row l.fn.cache) (place l.shape (l.first + k)).role (sector_of l.fn.into k) (sector_of l.into k);
  rest : (k : ℕ) → l.i ≤ k → sector_of l.into k ≡ sector_of l.fn.into k;
  same : AreSameRows l.fn.cache l.cache;
}
