use Rattle.std.proofs.Common.{◌≡◌, ℕ, ◌-◌, ◌<◌, length, get_or}
use Rattle.std.specs.Int.Bits.{bit_xor}
use lib.Lanes.{Each1}
use Rattle.raid_parity.specs.raid_gf256_Field.{product, product_of_bits}
use Rattle.raid_parity_simd.proofs.sectors.times_lanes.Given as goal

abbrev pub invariant-loop-bit : goal.invariant-loop-bit
invariant-loop-bit l = record {
  lanes : length l.sum ≡ 64;
  terms : length l.term ≡ 64;
  bytes : Each1 (λ x. x < 256) l.term;
  value : (i : ℕ) → i < 64 → bit_xor (get_or l.sum i 0) (product_of_bits (8 - l._bit) l.left (get_or l.term i 0)) ≡ product l.factor (get_or l.fn.v i 0);
}
