-- The parity equations of a row, and what they give of roles that are lacking. A column is one byte of each role.
use Rattle.std.specs.Prelude.{ℕ, ◌+◌, ◌/◌, ◌%◌, ◌^◌, Bool, true, ◌&&◌, ◌==◌, if◌then◌else◌, List, [], ◌∷◌, length, map, slice_index, slice_set, bit_xor, Option, Some, None, unwrap_or, IsTrue, ◌<◌}
use Rattle.raid_types.specs.declared.places.RowRoles.{RowRoles}
use Rattle.raid_types.specs.Search.{tabulate, least_below}
use Rattle.raid_types.specs.Sectors.{Sector, zero_sector}
use Rattle.raid_parity.specs.Exponents.{is_data, is_q, exponent}
use Rattle.raid_gf256.specs.Field.{product, power_of_two}

-- the exclusive or of weight r * byte over the data roles r, counted from this role on
abbrev pub data_sum : (ℕ → ℕ) → RowRoles → ℕ → List ℕ → ℕ
data_sum weight roles role [] = 0
data_sum weight roles role (byte ∷ column) =
    bit_xor (if is_data roles role then product (weight role) byte else 0) (data_sum weight roles (role + 1) column)

-- the exclusive or of the data
abbrev pub p_byte : RowRoles → List ℕ → ℕ
p_byte roles column = data_sum (λ role. 1) roles 0 column

-- the sum of the data, each times the power of two that its exponent says
abbrev pub q_byte : RowRoles → ℕ → List ℕ → ℕ
q_byte roles q column = data_sum (λ role. power_of_two (exponent roles q role)) roles 0 column

-- P is the one
abbrev pub p_holds : RowRoles → List ℕ → Bool
p_holds roles column = p_byte roles column == slice_index column roles.p

-- Q, where there is one, is the other
abbrev pub q_holds_at : RowRoles → List ℕ → Option ℕ → Bool
q_holds_at roles column None = true
q_holds_at roles column (Some q) = q_byte roles q column == slice_index column q

abbrev pub q_holds : RowRoles → List ℕ → Bool
q_holds roles column = q_holds_at roles column roles.q

-- The equations that are used where these roles are lacking: where only Q is, that of Q; where one other role is,
-- that of P; else both.
abbrev pub fits : RowRoles → List ℕ → List ℕ → Bool
fits roles [] column = true
fits roles (one ∷ []) column = if is_q roles one then q_holds roles column else p_holds roles column
fits roles (one ∷ two ∷ more) column = p_holds roles column && q_holds roles column

-- the lacking roles take the digits of n to the base 256
abbrev pub with_digits : List ℕ → ℕ → List ℕ → List ℕ
with_digits [] n column = column
with_digits (role ∷ lacking) n column = with_digits lacking (n / 256) (slice_set column role (n % 256))

-- The column with its lacking roles filled: all values of these bytes are tried, and the equations tell.
unfoldable pub filled : RowRoles → List ℕ → List ℕ → List ℕ
filled roles lacking column =
    with_digits lacking (unwrap_or (least_below (256 ^ length lacking) (λ n. fits roles lacking (with_digits lacking n column))) 0) column

-- A row: for each role its sector, or none where no disk holds it.
abbrev pub Row : Type 0
Row = List (Option Sector)

-- the roles without a sector, counted from this role on
abbrev pub lacking_from : ℕ → Row → List ℕ
lacking_from role [] = []
lacking_from role (None ∷ row) = role ∷ lacking_from (role + 1) row
lacking_from role (Some sector ∷ row) = lacking_from (role + 1) row

abbrev pub lacking_in : Row → List ℕ
lacking_in row = lacking_from 0 row

-- one byte of each role
abbrev pub column : Row → ℕ → List ℕ
column row at = map (λ sector. slice_index (unwrap_or sector zero_sector) at) row

-- a role's sector, with what is lacking filled
unfoldable pub fill : RowRoles → Row → ℕ → Sector
fill roles row role = tabulate 512 (λ at. slice_index (filled roles (lacking_in row) (column row at)) role)

-- every byte of the row, with what is lacking filled, meets both equations
abbrev pub AreEquationsMet : RowRoles → Row → Type 0
AreEquationsMet roles row = (at : ℕ) → at < 512 →
    IsTrue (p_holds roles (filled roles (lacking_in row) (column row at)) && q_holds roles (filled roles (lacking_in row) (column row at)))
