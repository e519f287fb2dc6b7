use Rattle.std.proofs.Common.{◌≡◌, ℕ, ◌-◌, ◌<◌, get_or, length}
use Rattle.raid_parity_simd.specs.Parts.{role_limit}
use Rattle.raid_parity_simd.specs.Places.{plain_sum, weighed_sum}
use Rattle.raid_parity_simd.proofs.Falling.{plain_from, weighed_from}
use Rattle.raid_parity_simd.proofs.places.data_places.Given as goal

-- the places of the exponents down to the one that was reached
abbrev pub invariant-loop-k : goal.invariant-loop-k
invariant-loop-k l = record {
  whole : length l.list ≡ role_limit;
  of_role : (j : ℕ) → j < l.k → (role : ℕ) × (role < l.roles.disks) × (get_or l.list j 0 ≡ get_or l.starts role 0);
  plain : (f : ℕ → ℕ) → ((role : ℕ) → role < l.roles.disks → f (get_or l.starts role 0) < 256)
      → plain_sum l.k (λ j. f (get_or l.list j 0)) ≡ plain_from l.roles l.q (λ role. f (get_or l.starts role 0)) (l.roles.disks - 2 - l.k);
  weighed : (f : ℕ → ℕ) → ((role : ℕ) → role < l.roles.disks → f (get_or l.starts role 0) < 256)
      → weighed_sum l.k (λ j. f (get_or l.list j 0)) ≡ weighed_from l.roles l.q (λ role. f (get_or l.starts role 0)) (l.roles.disks - 2 - l.k);
}
