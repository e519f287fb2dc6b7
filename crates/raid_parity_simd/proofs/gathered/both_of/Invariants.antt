use Rattle.std.proofs.Common.{◌≡◌, ℕ, ◌+◌, ◌*◌, ◌<◌, ◌≤◌, length, get_or}
use Rattle.raid_parity_simd.specs.Places.{plain_sum, weighed_sum}
use Rattle.raid_parity_simd.proofs.gathered.both_of.Given as goal

-- the blocks that were summed
abbrev pub invariant-loop-block : goal.invariant-loop-block
invariant-loop-block l = record {
  plain_whole : length l.plain ≡ length l.fn.plain;
  weighed_whole : length l.weighed ≡ length l.fn.weighed;
  plain_done : (k : ℕ) → k < l.block * 64 → get_or l.plain k 0 ≡ plain_sum l.places.count (λ j. get_or l.bytes (get_or l.places.list j 0 + k) 0);
  weighed_done : (k : ℕ) → k < l.block * 64 → get_or l.weighed k 0 ≡ weighed_sum l.places.count (λ j. get_or l.bytes (get_or l.places.list j 0 + k) 0);
  plain_behind : (k : ℕ) → l.block * 64 ≤ k → get_or l.plain k 0 ≡ get_or l.fn.plain k 0;
  weighed_behind : (k : ℕ) → l.block * 64 ≤ k → get_or l.weighed k 0 ≡ get_or l.fn.weighed k 0;
}
