use Rattle.std.proofs.Common.{◌≡◌, ℕ, ◌<◌, ◌≤◌, get_or}
use Rattle.std.specs.Int.Bits.{bit_xor}
use Rattle.raid_gf256.specs.Field.{double}
use Rattle.raid_parity.proofs.sectors.add_to_both.Given as goal

abbrev pub invariant-loop-at : goal.invariant-loop-at
invariant-loop-at l = record {
  plain : (k : ℕ) → k < l.at → get_or l.plain k 0 ≡ bit_xor (get_or l.fn.plain k 0) (get_or l.sector k 0);
  weighed : (k : ℕ) → k < l.at → get_or l.weighed k 0 ≡ bit_xor (double (get_or l.fn.weighed k 0)) (get_or l.sector k 0);
  plain_untouched : (k : ℕ) → l.at ≤ k → get_or l.plain k 0 ≡ get_or l.fn.plain k 0;
  weighed_untouched : (k : ℕ) → l.at ≤ k → get_or l.weighed k 0 ≡ get_or l.fn.weighed k 0;
}
