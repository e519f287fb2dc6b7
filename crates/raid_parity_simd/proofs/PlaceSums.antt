-- Sums over the places that were listed.
use Rattle.std.proofs.Common.{◌≡◌, ℕ, zero, suc, ◌+◌, ◌<◌, List, length, get_or, refl, sym, ap, ap₂, ◌∙◌, arith}
use Rattle.std.proofs.Math.ListN.{set}
use Rattle.std.proofs.lemmas.List.{get_or-set_same, get_or-set_other}
use Rattle.std.specs.Int.Bits.{bit_xor}
use Rattle.raid_parity.specs.raid_gf256_Field.{double}
use Rattle.raid_parity.proofs.Totals.{total, total-suc, total-none}
use Rattle.raid_parity_simd.specs.Places.{plain_sum, weighed_sum}

pub plain_sum-none : (f : ℕ → ℕ) → plain_sum 0 f ≡ 0
unfolding plain_sum
plain_sum-none f = refl

pub weighed_sum-none : (f : ℕ → ℕ) → weighed_sum 0 f ≡ 0
unfolding weighed_sum
weighed_sum-none f = refl

plain_sum-suc : (n : ℕ) (f : ℕ → ℕ) → plain_sum (suc n) f ≡ bit_xor (plain_sum n f) (f n)
unfolding plain_sum
plain_sum-suc n f = refl

weighed_sum-suc : (n : ℕ) (f : ℕ → ℕ) → weighed_sum (suc n) f ≡ bit_xor (double (weighed_sum n f)) (f n)
unfolding weighed_sum
weighed_sum-suc n f = refl

next : (n : ℕ) → n + 1 ≡ suc n
next n = omega arith

pub plain_sum-next : (n : ℕ) (f : ℕ → ℕ) → plain_sum (n + 1) f ≡ bit_xor (plain_sum n f) (f n)
plain_sum-next n f = ap (λ k. plain_sum k f) (next n) ∙ plain_sum-suc n f

pub weighed_sum-next : (n : ℕ) (f : ℕ → ℕ) → weighed_sum (n + 1) f ≡ bit_xor (double (weighed_sum n f)) (f n)
weighed_sum-next n f = ap (λ k. weighed_sum k f) (next n) ∙ weighed_sum-suc n f

pub plain_sum-same : (n : ℕ) (f g : ℕ → ℕ) → ((j : ℕ) → j < n → f j ≡ g j) → plain_sum n f ≡ plain_sum n g
unfolding plain_sum
plain_sum-same zero f g same = refl
plain_sum-same (suc n) f g same = ap₂ bit_xor (plain_sum-same n f g (λ j lt. same j (omega arith))) (same n (omega arith))

pub weighed_sum-same : (n : ℕ) (f g : ℕ → ℕ) → ((j : ℕ) → j < n → f j ≡ g j) → weighed_sum n f ≡ weighed_sum n g
unfolding weighed_sum
weighed_sum-same zero f g same = refl
weighed_sum-same (suc n) f g same = ap₂ (λ x y. bit_xor (double x) y) (weighed_sum-same n f g (λ j lt. same j (omega arith))) (same n (omega arith))

pub plain_sum-total : (n : ℕ) (f : ℕ → ℕ) → plain_sum n f ≡ total n f
unfolding plain_sum
plain_sum-total zero f = sym (total-none f)
plain_sum-total (suc n) f = ap (λ x. bit_xor x (f n)) (plain_sum-total n f) ∙ sym (total-suc n f)

-- one place more
pub plain_sum-listed : (list : List ℕ) (k x : ℕ) (f : ℕ → ℕ) → k < length list
    → plain_sum (k + 1) (λ j. f (get_or (set list k x) j 0)) ≡ bit_xor (plain_sum k (λ j. f (get_or list j 0))) (f x)
plain_sum-listed list k x f lt =
    plain_sum-next k (λ j. f (get_or (set list k x) j 0))
    ∙ ap₂ bit_xor (plain_sum-same k (λ j. f (get_or (set list k x) j 0)) (λ j. f (get_or list j 0)) (λ j l. ap f (get_or-set_other list k j x 0 (λ e. omega arith))))
    (ap f (get_or-set_same list k x 0 lt))

pub weighed_sum-listed : (list : List ℕ) (k x : ℕ) (f : ℕ → ℕ) → k < length list
    → weighed_sum (k + 1) (λ j. f (get_or (set list k x) j 0)) ≡ bit_xor (double (weighed_sum k (λ j. f (get_or list j 0)))) (f x)
weighed_sum-listed list k x f lt =
    weighed_sum-next k (λ j. f (get_or (set list k x) j 0))
    ∙ ap₂ (λ a b. bit_xor (double a) b)
    (weighed_sum-same k (λ j. f (get_or (set list k x) j 0)) (λ j. f (get_or list j 0)) (λ j l. ap f (get_or-set_other list k j x 0 (λ e. omega arith))))
    (ap f (get_or-set_same list k x 0 lt))
