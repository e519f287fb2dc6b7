-- The parts of roles in a list of bytes: so many bytes of each role, from a start of its own on.
use Rattle.std.specs.Prelude.{ℕ, ◌+◌, ◌*◌, ◌/◌, ◌<◌, ◌≤◌, ◌≡◌, ◌⊎◌, ◌==◌, ◌||◌, if◌then◌else◌, List, slice_index, bit_xor}
use Rattle.raid_parity.specs.raid_gf256_Field.{product}
use Rattle.raid_parity.specs.raid_types_the_RowRoles.{RowRoles}
use Rattle.raid_parity.specs.raid_types_Search.{tabulate}
use Rattle.raid_parity.specs.Parity.{p_byte, q_byte}
use Rattle.raid_parity_simd.specs.declared.order.TheConstants.{MOST_ROLES}

-- the most roles of a row
abbrev pub role_limit : ℕ
role_limit = MOST_ROLES

-- byte k of a role's part, and of each
abbrev pub part_byte : List ℕ → List ℕ → ℕ → ℕ → ℕ
part_byte bytes starts role k = slice_index bytes (slice_index starts role + k)

abbrev pub part_bytes : ℕ → List ℕ → List ℕ → ℕ → List ℕ
part_bytes disks bytes starts k = tabulate disks (λ role. part_byte bytes starts role k)

-- Parts of this length lie in so many bytes, role after role, none over another; they are cut into blocks of 64.
pub record AreParts (disks : ℕ) (starts : List ℕ) (len size : ℕ) : Type 0 where
  pub within : (role : ℕ) → role < disks → slice_index starts role + len ≤ size
  pub rising : (role other : ℕ) → role < other → other < disks → slice_index starts role + len ≤ slice_index starts other
  pub cut : len ≡ 64 * (len / 64)

-- the place is none of these
abbrev pub IsOutside : ℕ → ℕ → ℕ → Type 0
IsOutside start len place = (place < start) ⊎ (start + len ≤ place)

-- a byte of each role, with 0 for two that lack
abbrev pub emptied : (ℕ → ℕ) → ℕ → ℕ → ℕ → ℕ
emptied f first second role = if (role == first) || (role == second) then 0 else f role

-- the rest of the equation of P times a factor, with that of the equation of Q times another
abbrev pub solved : RowRoles → ℕ → ℕ → ℕ → (ℕ → ℕ) → ℕ
solved roles q plain_factor weighed_factor f =
    bit_xor (product plain_factor (bit_xor (p_byte roles (tabulate roles.disks f)) (f roles.p)))
    (product weighed_factor (bit_xor (q_byte roles q (tabulate roles.disks f)) (f q)))
