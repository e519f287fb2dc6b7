use Rattle.std.proofs.Common.{◌≡◌, ℕ, ◌<◌, ◌≤◌, ◌||◌, eqb, cond, get_or, length}
use Rattle.raid_parity.specs.Exponents.{is_q}
use Rattle.raid_parity_simd.specs.Parts.{role_limit}
use Rattle.raid_parity_simd.specs.Places.{plain_sum}
use Rattle.raid_parity_simd.proofs.places.other_places.Given as goal

-- the places of the roles below this one
abbrev pub invariant-loop-other : goal.invariant-loop-other
invariant-loop-other l = record {
  whole : length l.list ≡ role_limit;
  few : l.count ≤ l.other;
  of_role : (j : ℕ) → j < l.count → (r : ℕ) × (r < l.roles.disks) × (get_or l.list j 0 ≡ get_or l.starts r 0);
  sum : (f : ℕ → ℕ) → plain_sum l.count (λ j. f (get_or l.list j 0)) ≡ plain_sum l.other (λ r. cond (eqb r l.role || is_q l.roles r) 0 (f (get_or l.starts r 0)));
}
