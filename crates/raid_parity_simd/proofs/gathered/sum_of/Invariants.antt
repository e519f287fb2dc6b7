use Rattle.std.proofs.Common.{◌≡◌, ℕ, ◌+◌, ◌*◌, ◌<◌, ◌≤◌, length, get_or}
use Rattle.raid_parity_simd.specs.Places.{plain_sum}
use Rattle.raid_parity_simd.proofs.gathered.sum_of.Given as goal

-- the blocks that were summed
abbrev pub invariant-loop-block : goal.invariant-loop-block
invariant-loop-block l = record {
  whole : length l.sum ≡ length l.fn.sum;
  done : (k : ℕ) → k < l.block * 64 → get_or l.sum k 0 ≡ plain_sum l.places.count (λ j. get_or l.bytes (get_or l.places.list j 0 + k) 0);
  behind : (k : ℕ) → l.block * 64 ≤ k → get_or l.sum k 0 ≡ get_or l.fn.sum k 0;
}
