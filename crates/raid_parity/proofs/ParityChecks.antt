-- Exponents and the parity of a column, computed.
use Rattle.std.proofs.Common.{◌≡◌, ℕ, zero, suc, Bool, ◌&&◌, cond, bit_xor, [], ◌∷◌, true, false, refl, sym, ap, eq-eqb, ◌∙◌, get_or, Some, None, lit≤}
use Rattle.raid_types.specs.declared.places.RowRoles.{RowRoles}
use Rattle.raid_types.specs.Search.{least_below}
use Rattle.raid_types.specs.Sectors.{Sector}
use Rattle.raid_types.proofs.Tabulated.{get_or-tabulate}
use Rattle.raid_parity.specs.Exponents.{is_data, exponent}
use Rattle.raid_gf256.specs.Field.{double, product_of_bits, product, power_of_two}
use Rattle.raid_parity.specs.Parity.{Row, filled, fill, lacking_in, column, p_byte, p_holds, q_holds, AreEquationsMet}

-- level 6 on 5 disks, stripe 0: P on role 4 and Q on role 0; left-asymmetric, stripe 2: P on role 2 and Q on role 3
abbrev zeroth : RowRoles
zeroth = record { disks = 5; p = 4; q = Some 0 }

abbrev second : RowRoles
second = record { disks = 5; p = 2; q = Some 3 }

zeroth_exponents : (exponent zeroth 0 1 ∷ exponent zeroth 0 2 ∷ exponent zeroth 0 3 ∷ []) ≡ 0 ∷ 1 ∷ 2 ∷ []
zeroth_exponents = refl

second_exponents : (exponent second 3 4 ∷ exponent second 3 0 ∷ exponent second 3 1 ∷ []) ≡ 0 ∷ 1 ∷ 2 ∷ []
second_exponents = refl

-- the parity of the bytes 1 and 1
abbrev small : RowRoles
small = record { disks = 4; p = 2; q = Some 3 }

ones_p : p_holds small (1 ∷ 1 ∷ 0 ∷ 3 ∷ []) ≡ true
unfolding product_of_bits product
ones_p = refl

ones_q : q_holds small (1 ∷ 1 ∷ 0 ∷ 3 ∷ []) ≡ true
unfolding double product_of_bits product power_of_two
ones_q = refl

one_lacking : filled small (1 ∷ []) (1 ∷ 99 ∷ 0 ∷ 3 ∷ []) ≡ 1 ∷ 1 ∷ 0 ∷ 3 ∷ []
unfolding least_below filled product_of_bits product
one_lacking = refl

-- level 5 on three disks, P on role 2: the first byte of role 1 is the sum of those of roles 0 and 2
abbrev three : RowRoles
three = record { disks = 3; p = 2; q = None }

abbrev without_one : Sector → Row
without_one zeroth = Some zeroth ∷ None ∷ Some (2 ∷ 0 ∷ []) ∷ []

first-byte : (roles : RowRoles) (row : Row) (role : ℕ) → get_or (fill roles row role) 0 0 ≡ get_or (filled roles (lacking_in row) (column row 0)) role 0
unfolding fill
first-byte roles row role = get_or-tabulate 512 (λ at. get_or (filled roles (lacking_in row) (column row at)) role 0) 0 0 (lit≤ tt)

two_found : get_or (filled three (lacking_in (without_one (0 ∷ 0 ∷ []))) (column (without_one (0 ∷ 0 ∷ [])) 0)) 1 0 ≡ 2
unfolding least_below filled product_of_bits product
two_found = refl

three_found : get_or (filled three (lacking_in (without_one (1 ∷ []))) (column (without_one (1 ∷ [])) 0)) 1 0 ≡ 3
unfolding least_below filled product_of_bits product
three_found = refl

pub from_none : get_or (fill three (without_one (0 ∷ 0 ∷ [])) 1) 0 0 ≡ 2
from_none = first-byte three (without_one (0 ∷ 0 ∷ [])) 1 ∙ two_found

pub from_one : get_or (fill three (without_one (1 ∷ [])) 1) 0 0 ≡ 3
from_one = first-byte three (without_one (1 ∷ [])) 1 ∙ three_found

-- a row whose parity was left behind isn't good
pub left_after : AreEquationsMet three (Some (1 ∷ []) ∷ Some [] ∷ Some [] ∷ []) → ⊥
unfolding filled product_of_bits product
left_after met = wrong (met 0 (lit≤ tt))
  where
    wrong : (p_holds three (filled three [] (1 ∷ 0 ∷ 0 ∷ [])) && q_holds three (filled three [] (1 ∷ 0 ∷ 0 ∷ []))) ≡ true → ⊥
    wrong same = absurd (cc)

-- an empty row is good, wherever its P is
zero_sum : (a b c : Bool)
    → bit_xor (cond a (product 1 0) 0) (bit_xor (cond b (product 1 0) 0) (bit_xor (cond c (product 1 0) 0) 0)) ≡ 0
unfolding product_of_bits product
zero_sum true true true = refl
zero_sum true true false = refl
zero_sum true false true = refl
zero_sum true false false = refl
zero_sum false true true = refl
zero_sum false true false = refl
zero_sum false false true = refl
zero_sum false false false = refl

zero_at : (p : ℕ) → get_or {A = ℕ} (0 ∷ 0 ∷ 0 ∷ []) p 0 ≡ 0
zero_at zero = refl
zero_at (suc zero) = refl
zero_at (suc (suc zero)) = refl
zero_at (suc (suc (suc p))) = refl

abbrev roles_at : ℕ → RowRoles
roles_at p = record { disks = 3; p = p; q = None }

pub zero_row : (p : ℕ) → AreEquationsMet (roles_at p) (Some [] ∷ Some [] ∷ Some [] ∷ [])
unfolding filled
zero_row p at below =
    ap (λ b. b && true) (eq-eqb (p_byte (roles_at p) (0 ∷ 0 ∷ 0 ∷ [])) (get_or (0 ∷ 0 ∷ 0 ∷ []) p 0)
    (zero_sum (is_data (roles_at p) 0) (is_data (roles_at p) 1) (is_data (roles_at p) 2) ∙ sym (zero_at p)))
