use Rattle.std.proofs.Common.{◌≡◌, ℕ, length}
use Rattle.std.specs.Prelude.{slice_index}
use Rattle.bank.specs.Picks.{IsLastFlush}
use Rattle.bank.proofs.replay.last_flushes.Given as goal

abbrev pub invariant-loop-place : goal.invariant-loop-place
invariant-loop-place l = record {
  count : length l.marks.items ≡ length l.slots.items;
  each : (s : ℕ) → IsLastFlush l.tape l.place s (slice_index l.marks.items s);
}
