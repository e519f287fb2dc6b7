-- The test of one bit, by a mask.
use Rattle.std.proofs.Common.{◌≡◌, ◌<◌, ℕ, ◌*◌, ◌^◌, nat_eq, bit_and, arith}
use Rattle.std.specs.Prelude.{not}
use Rattle.std.specs.Int.{bit_at}
use Rattle.std.proofs.lemmas.Bool.Decides.{nat_tests}
use Rattle.std.proofs.lemmas.Nat.Bits.{and_pow, bit_at-lt}

one_bit : (b p : ℕ) → b < 2 → 0 < p → not (nat_eq (b * p) 0) ≡ nat_eq b 1
one_bit b p small some = grind (arith, nat_tests)

pub masked : (n k p : ℕ) → p ≡ 2 ^ k → 0 < p → not (nat_eq (bit_and n p) 0) ≡ nat_eq (bit_at n k) 1
masked n k p e some = rw e (rw (and_pow n k) (one_bit (bit_at n k) (2 ^ k) (bit_at-lt n k) (rw (← e) some)))
