-- Bytes that are all zero, and the bits that any of them has.
use Rattle.std.proofs.Common.{◌≡◌, inl, inr, ℕ, ◌+◌, ◌<◌, bit_or, refl, ap, ap₂, ◌∙◌, arith}
use Rattle.std.proofs.lemmas.Bool.{cases_lt}
use Rattle.std.proofs.lemmas.Nat.{le_or_l, le_or_r}

-- `all` has no bit exactly where the bytes of both below a place are zero
pub record IsUnion (all at : ℕ) (f g : ℕ → ℕ) : Type 0 where
  pub none : all ≡ 0 → (k : ℕ) → k < at → (f k ≡ 0) × (g k ≡ 0)
  pub some : ((k : ℕ) → k < at → (f k ≡ 0) × (g k ≡ 0)) → all ≡ 0

pub no-bytes : (f g : ℕ → ℕ) → IsUnion 0 0 f g
no-bytes f g = record { none = λ zero k lt. absurd (omega (arith, lt)); some = λ all. refl }

pub one-more : (all at : ℕ) (f g : ℕ → ℕ) → IsUnion all at f g → IsUnion (bit_or all (bit_or (f at) (g at))) (at + 1) f g
one-more all at f g was = record {
  none = λ zero k lt.
      let first : all ≡ 0 = omega (arith, zero, le_or_l all (bit_or (f at) (g at))) in
      let rest : bit_or (f at) (g at) ≡ 0 = omega (arith, zero, le_or_r all (bit_or (f at) (g at))) in
      elim (cases_lt k at) [
        | inl below ↦ was.none first k below
        | inr past ↦
            let here : k ≡ at = omega (arith, lt, past) in
            let one : f at ≡ 0 = omega (arith, rest, le_or_l (f at) (g at)) in
            let two : g at ≡ 0 = omega (arith, rest, le_or_r (f at) (g at)) in
            (ap f here ∙ one, ap g here ∙ two)
      ];
  some = λ zeros.
      let first : all ≡ 0 = was.some (λ k lt. zeros k (omega (arith, lt))) in
      let here = zeros at (omega (arith)) in
      ap₂ bit_or first (ap₂ bit_or here.0 here.1);
}
