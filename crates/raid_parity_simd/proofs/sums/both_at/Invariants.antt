use Rattle.std.proofs.Common.{◌≡◌, ℕ, ◌+◌, ◌<◌, get_or}
use Rattle.raid_parity_simd.specs.Places.{plain_sum, weighed_sum}
use Rattle.raid_parity_simd.proofs.sums.both_at.Given as goal

-- the sums of the parts below this one
abbrev pub invariant-loop-j : goal.invariant-loop-j
invariant-loop-j l = record {
  plain : (i : ℕ) → i < 64 → get_or l.plain i 0 ≡ plain_sum l.j (λ k. get_or l.here (get_or l.places.list k 0 + i) 0);
  weighed : (i : ℕ) → i < 64 → get_or l.weighed i 0 ≡ weighed_sum l.j (λ k. get_or l.here (get_or l.places.list k 0 + i) 0);
}
