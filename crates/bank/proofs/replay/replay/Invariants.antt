use Rattle.std.proofs.Common.{◌≡◌, ℕ, length, take}
use Rattle.std.specs.Prelude.{slice_index}
use Rattle.bank.specs.Memory.{sector_of, sectors_of}
use Rattle.bank.specs.Tape.{value_after}
use Rattle.bank.specs.Picks.{kept, is_taken}
use Rattle.bank.proofs.replay.replay.Given as goal

abbrev pub invariant-loop-place : goal.invariant-loop-place
invariant-loop-place l = record {
  count : length l.slots.items ≡ length l.initial.slots.items;
  sectors : (s : ℕ) → sectors_of l.slots.items s ≡ sectors_of l.initial.slots.items s;
  each : (s k : ℕ) → sector_of l.slots.items s k
      ≡ value_after s k (sector_of l.initial.slots.items s k) (kept (is_taken l.pick (slice_index l.marks.items s)) 0 (take l.place l.tape));
}
