use Rattle.std.proofs.Common.{◌≡◌, ℕ, ◌<◌, ◌≤◌, get_or}
use Rattle.std.specs.Int.Bits.{bit_xor}
use Rattle.raid_parity.proofs.sectors.add_sector.Given as goal

abbrev pub invariant-loop-at : goal.invariant-loop-at
invariant-loop-at l = record {
  done : (k : ℕ) → k < l.at → get_or l.sum k 0 ≡ bit_xor (get_or l.fn.sum k 0) (get_or l.sector k 0);
  untouched : (k : ℕ) → l.at ≤ k → get_or l.sum k 0 ≡ get_or l.fn.sum k 0;
}
