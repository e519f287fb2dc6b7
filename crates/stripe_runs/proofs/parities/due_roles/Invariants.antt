use Rattle.std.proofs.Common.{◌≡◌, ◌<◌, ℕ, length}
use Rattle.std.specs.Prelude.{slice_index}
use Rattle.raid_layout.specs.raid_types_Shapes.{has_slot}
use Rattle.raid_parity_simd.specs.Buffers.{buffer_rows}
use Rattle.stripe_runs.specs.Writing.{is_due_in}
use Rattle.stripe_runs.proofs.parities.due_roles.Given as goal

abbrev pub invariant-loop-j : goal.invariant-loop-j
invariant-loop-j l = record {
  whole : length l.due ≡ buffer_rows;
  there : (i role : ℕ) → i < l.j → has_slot (slice_index l.due i) role ≡ is_due_in l.shape l.run l.changed i role;
}
