-- What the rests of both equations are multiplied with, where two roles are missing.
use Rattle.std.specs.Prelude.{ℕ, ◌<◌, ◌≡◌, bit_xor}
use Rattle.raid_parity.specs.raid_gf256_Field.{product}
use Rattle.raid_parity.specs.raid_types_the_RowRoles.{RowRoles}
use Rattle.raid_parity.specs.Rows.{p_weight, q_weight}

-- The factors of the first role, and those of the second: the weights of the other over the determinant of both.
pub record AreFactors (roles : RowRoles) (q first second : ℕ) (first_p first_q second_p second_q : ℕ) : Type 0 where
  pub over : ℕ
  pub small : over < 256
  pub inverse : product (bit_xor (product (p_weight roles first) (q_weight roles q second)) (product (p_weight roles second) (q_weight roles q first))) over ≡ 1
  pub first_plain : first_p ≡ product over (q_weight roles q second)
  pub first_weighed : first_q ≡ product over (p_weight roles second)
  pub second_plain : second_p ≡ product over (q_weight roles q first)
  pub second_weighed : second_q ≡ product over (p_weight roles first)
