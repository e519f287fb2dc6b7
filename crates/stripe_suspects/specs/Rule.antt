-- The rule by which a suspect is found: from the differences of P and of Q, byte by byte.
use Rattle.std.specs.Prelude.{◌≡◌, ℕ, ◌<◌, Bool, true, ◌==◌, if◌then◌else◌, List, slice_index, bit_xor, Some}
use Rattle.raid_parity.specs.raid_types_the_RowRoles.{RowRoles}
use Rattle.raid_parity.specs.raid_types_Search.{tabulate}
use Rattle.raid_types.specs.Sectors.{Sector, IsSector}
use Rattle.raid_parity.specs.raid_gf256_Field.{product, power_of_two}
use Rattle.raid_parity.specs.Exponents.{exponent}
use Rattle.raid_parity.specs.Parity.{p_byte, q_byte}
use Rattle.raid_parity.specs.Rows.{IsRowRoles}
use Rattle.stripe_suspects.specs.declared.judged.Judged.{Judged}
use Rattle.stripe_suspects.specs.declared.judged.Judged.TheVariants.{Good, Suspect, Unknown}
use Rattle.stripe_suspects.specs.Suspects.{IsSuspect, IsBad}

-- byte `at` of each role
abbrev pub column_of : RowRoles → (ℕ → Sector) → ℕ → List ℕ
column_of roles sectors at = tabulate roles.disks (λ role. slice_index (sectors role) at)

-- the difference between P, as the data give it, and the sector that stands there
abbrev pub p_difference : RowRoles → (ℕ → Sector) → ℕ → ℕ
p_difference roles sectors at = bit_xor (p_byte roles (column_of roles sectors at)) (slice_index (sectors roles.p) at)

-- the same of Q
abbrev pub q_difference : RowRoles → ℕ → (ℕ → Sector) → ℕ → ℕ
q_difference roles q sectors at = bit_xor (q_byte roles q (column_of roles sectors at)) (slice_index (sectors q) at)

-- Another byte of this role explains the differences e of P and f of Q: P where f is zero, Q where e is zero, and a data role where f
-- is e times its power of two.
abbrev pub explains : RowRoles → ℕ → ℕ → ℕ → ℕ → Bool
explains roles q role e f =
    if role == roles.p then f == 0 else (if role == q then e == 0 else f == product (power_of_two (exponent roles q role)) e)

-- it does so for each byte of the sector
abbrev pub Explains : RowRoles → ℕ → ℕ → (ℕ → ℕ) → (ℕ → ℕ) → Type 0
Explains roles q role e f = (at : ℕ) → at < 512 → explains roles q role (e at) (f at) ≡ true

-- no byte differs
abbrev pub AreZero : (ℕ → ℕ) → (ℕ → ℕ) → Type 0
AreZero e f = (at : ℕ) → at < 512 → (e at ≡ 0) × (f at ≡ 0)

-- what the rule finds from these differences
abbrev pub IsFound : RowRoles → ℕ → (ℕ → ℕ) → (ℕ → ℕ) → Judged → Type 0
IsFound roles q e f Good = AreZero e f
IsFound roles q e f (Suspect role) = (AreZero e f → ⊥) × (role < roles.disks) × Explains roles q role e f
IsFound roles q e f Unknown = (AreZero e f → ⊥) × ((role : ℕ) → role < roles.disks → Explains roles q role e f → ⊥)

-- a bad row has one suspect at most
abbrev pub SuspectsAreUnique : Type 0
SuspectsAreUnique = (roles : RowRoles) (sectors : ℕ → Sector) (one two : ℕ) → IsRowRoles roles
    → ((role : ℕ) → role < roles.disks → IsSector (sectors role))
    → IsSuspect roles sectors one → IsSuspect roles sectors two → one ≡ two

-- and it is the role by which the differences are explained
pub record IsFoundExactly (roles : RowRoles) (q : ℕ) (sectors : ℕ → Sector) (role : ℕ) : Type 0 where
  pub found : Explains roles q role (p_difference roles sectors) (q_difference roles q sectors) → IsSuspect roles sectors role
  pub only : IsSuspect roles sectors role → Explains roles q role (p_difference roles sectors) (q_difference roles q sectors)

abbrev pub TheRuleIsExact : Type 0
TheRuleIsExact = (roles : RowRoles) (q : ℕ) (sectors : ℕ → Sector) (role : ℕ) → IsRowRoles roles → roles.q ≡ Some q
    → ((role : ℕ) → role < roles.disks → IsSector (sectors role)) → IsBad roles sectors → role < roles.disks
    → IsFoundExactly roles q sectors role
