use Rattle.std.proofs.Common.{◌≡◌, ℕ, ◌+◌, ◌<◌, get_or}
use Rattle.raid_parity_simd.specs.Places.{plain_sum}
use Rattle.raid_parity_simd.proofs.sums.sum_at.Given as goal

-- the sum of the parts below this one
abbrev pub invariant-loop-j : goal.invariant-loop-j
invariant-loop-j l = (i : ℕ) → i < 64 → get_or l.sum i 0 ≡ plain_sum l.j (λ k. get_or l.here (get_or l.places.list k 0 + i) 0)
