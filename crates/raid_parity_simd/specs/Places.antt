-- Where the parts begin that are summed, and what the sums over them are.
use Rattle.std.specs.Prelude.{ℕ, zero, suc, ◌<◌, ◌≤◌, ◌≡◌, ◌||◌, ◌==◌, if◌then◌else◌, List, slice_index, bit_xor}
use Rattle.raid_parity.specs.raid_gf256_Field.{double}
use Rattle.raid_parity.specs.raid_types_the_RowRoles.{RowRoles}
use Rattle.raid_parity.specs.raid_types_Search.{tabulate}
use Rattle.raid_parity.specs.Exponents.{is_q}
use Rattle.raid_parity.specs.Parity.{p_byte, q_byte}

-- the exclusive or of f 0, f 1, and so on up to f (n - 1)
unfoldable pub plain_sum : ℕ → (ℕ → ℕ) → ℕ
plain_sum zero f = 0
plain_sum (suc n) f = bit_xor (plain_sum n f) (f n)

-- the same, but what was summed is doubled before each of them
unfoldable pub weighed_sum : ℕ → (ℕ → ℕ) → ℕ
weighed_sum zero f = 0
weighed_sum (suc n) f = bit_xor (double (weighed_sum n f)) (f n)

-- so many places, each of which is the start of a role's part
pub record ArePlaces (disks : ℕ) (starts list : List ℕ) (count : ℕ) : Type 0 where
  pub few : count ≤ disks
  pub of_role : (j : ℕ) → j < count → (role : ℕ) × (role < disks) × (slice_index list j ≡ slice_index starts role)

-- The places of the data, from the greatest exponent down: the sums over them are the P and the Q of whatever lies there.
pub record AreDataPlaces (roles : RowRoles) (q : ℕ) (starts list : List ℕ) (count : ℕ) : Type 0 where
  pub places : ArePlaces roles.disks starts list count
  pub plain : (f : ℕ → ℕ) → ((role : ℕ) → role < roles.disks → f (slice_index starts role) < 256)
      → plain_sum count (λ j. f (slice_index list j)) ≡ p_byte roles (tabulate roles.disks (λ role. f (slice_index starts role)))
  pub weighed : (f : ℕ → ℕ) → ((role : ℕ) → role < roles.disks → f (slice_index starts role) < 256)
      → weighed_sum count (λ j. f (slice_index list j)) ≡ q_byte roles q (tabulate roles.disks (λ role. f (slice_index starts role)))

-- The places of all roles but this one and Q.
pub record AreOtherPlaces (roles : RowRoles) (role : ℕ) (starts list : List ℕ) (count : ℕ) : Type 0 where
  pub places : ArePlaces roles.disks starts list count
  pub sum : (f : ℕ → ℕ) → plain_sum count (λ j. f (slice_index list j))
      ≡ plain_sum roles.disks (λ other. if (other == role) || is_q roles other then 0 else f (slice_index starts other))
