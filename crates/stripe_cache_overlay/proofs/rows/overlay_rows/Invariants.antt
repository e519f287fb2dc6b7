use Rattle.std.proofs.Common.{◌≡◌, ◌<◌, ◌≤◌, ℕ}
use Rattle.std.specs.Prelude.{slice_index}
use Rattle.stripe_list.specs.Buffers.{buffered}
use Rattle.stripe_delayed_rows.specs.stripe_cache_Rows.{held_row}
use Rattle.stripe_cache_overlay.specs.Overlaid.{IsOver, AreSameRows}
use Rattle.stripe_cache_overlay.proofs.rows.overlay_rows.Given as goal

abbrev pub invariant-loop-i : goal.invariant-loop-i
invariant-loop-i l = record {
  laid : (k role : ℕ) → k < l.i → role < l.shape.disks → IsOver (held_row l.side (slice_index l.rows k) l.fn.cache) role (buffered l.fn.buffer k role) (buffered l.buffer k role);
  rest : (k role : ℕ) → l.i ≤ k → role < l.shape.disks → buffered l.buffer k role ≡ buffered l.fn.buffer k role;
  same : AreSameRows l.fn.cache l.cache;
}
