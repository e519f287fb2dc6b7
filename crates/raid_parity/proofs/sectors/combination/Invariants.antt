use Rattle.std.proofs.Common.{◌≡◌, ℕ, ◌<◌, length, get_or}
use Rattle.std.specs.Int.Bits.{bit_xor}
use Rattle.raid_gf256.specs.Field.{product}
use Rattle.raid_parity.proofs.sectors.combination.Given as goal

abbrev pub invariant-loop-at : goal.invariant-loop-at
invariant-loop-at l = record {
  whole : length l.sum ≡ 512;
  done : (k : ℕ) → k < l.at → get_or l.sum k 0 ≡ bit_xor (product l.left_factor (get_or l.left k 0)) (product l.right_factor (get_or l.right k 0));
}
