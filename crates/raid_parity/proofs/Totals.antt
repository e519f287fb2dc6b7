-- Sums in the field: f 0 + f 1 + .. + f (n - 1).
use Rattle.std.proofs.Common.{◌≡◌, ◌≢◌, ℕ, zero, suc, ◌<◌, inl, inr, cond, eqb, eq-eqb, ne_eqb, refl, sym, ap, ap₂, ◌∙◌, arith}
use Rattle.std.proofs.lemmas.Bool.{cases_lt, cases_eq}
use Rattle.std.specs.Int.Bits.{bit_xor, xor_assoc, xor_self, xor_zero_l, xor_zero_r, xor_lt}
use Rattle.raid_gf256.specs.Field.{double}
use Rattle.raid_gf256.proofs.FieldLaws.{swap_middle, double-zero, double-add}

pub total : ℕ → (ℕ → ℕ) → ℕ
total zero f = 0
total (suc n) f = bit_xor (total n f) (f n)

pub total-suc : (n : ℕ) (f : ℕ → ℕ) → total (suc n) f ≡ bit_xor (total n f) (f n)
unfolding total
total-suc n f = refl

pub total-none : (f : ℕ → ℕ) → total 0 f ≡ 0
unfolding total
total-none f = refl

pub total-same : (n : ℕ) (f g : ℕ → ℕ) → ((r : ℕ) → r < n → f r ≡ g r) → total n f ≡ total n g
unfolding total
total-same zero f g same = refl
total-same (suc n) f g same = ap₂ bit_xor (total-same n f g (λ r lt. same r (omega arith))) (same n (omega arith))

pub total-zero : (n : ℕ) (f : ℕ → ℕ) → ((r : ℕ) → r < n → f r ≡ 0) → total n f ≡ 0
unfolding total
total-zero zero f zeros = refl
total-zero (suc n) f zeros = ap₂ bit_xor (total-zero n f (λ r lt. zeros r (omega arith))) (zeros n (omega arith))

pub total-add : (n : ℕ) (f g : ℕ → ℕ) → total n (λ r. bit_xor (f r) (g r)) ≡ bit_xor (total n f) (total n g)
unfolding total
total-add zero f g = refl
total-add (suc n) f g = ap (λ x. bit_xor x (bit_xor (f n) (g n))) (total-add n f g) ∙ swap_middle (total n f) (total n g) (f n) (g n)

pub total-lt : (n : ℕ) (f : ℕ → ℕ) → ((r : ℕ) → r < n → f r < 256) → total n f < 256
unfolding total
total-lt zero f small = omega arith
total-lt (suc n) f small = xor_lt 8 (total n f) (f n) (total-lt n f (λ r lt. small r (omega arith))) (small n (omega arith))

pub total-double : (n : ℕ) (f : ℕ → ℕ) → ((r : ℕ) → r < n → f r < 256) → double (total n f) ≡ total n (λ r. double (f r))
unfolding total
total-double zero f small = double-zero
total-double (suc n) f small =
    double-add (total n f) (f n) (total-lt n f (λ r lt. small r (omega arith))) (small n (omega arith))
    ∙ ap (λ x. bit_xor x (double (f n))) (total-double n f (λ r lt. small r (omega arith)))

-- where all others are 0
pub total-alone : (n m : ℕ) (f : ℕ → ℕ) → m < n → ((r : ℕ) → r < n → r ≢ m → f r ≡ 0) → total n f ≡ f m
unfolding total
total-alone zero m f lt zeros = absurd (omega arith)
total-alone (suc n) m f lt zeros =
    elim (cases_lt m n) [
      | inl below ↦
          ap₂ bit_xor (total-alone n m f below (λ r l ne. zeros r (omega arith) ne)) (zeros n (omega arith) (λ e. omega arith))
          ∙ xor_zero_r (f m)
      | inr top ↦
          let e : m ≡ n = omega arith in
          ap (λ x. bit_xor x (f n)) (total-zero n f (λ r l. zeros r (omega arith) (λ e2. omega arith)))
          ∙ xor_zero_l (f n) ∙ ap f (sym e)
    ]

-- f with another value at m
abbrev pub put : (ℕ → ℕ) → ℕ → ℕ → ℕ → ℕ
put f m x r = cond (eqb r m) x (f r)

pub put-same : (f : ℕ → ℕ) (m x : ℕ) → put f m x m ≡ x
put-same f m x = ap (λ b. cond b x (f m)) (eq-eqb m m refl)

pub put-other : (f : ℕ → ℕ) (m x r : ℕ) → r ≢ m → put f m x r ≡ f r
put-other f m x r ne = ap (λ b. cond b x (f r)) (ne_eqb r m ne)

-- a term that was 0 gets a value
pub total-put : (n m x : ℕ) (f : ℕ → ℕ) → m < n → f m ≡ 0 → total n (put f m x) ≡ bit_xor (total n f) x
total-put n m x f lt nothing =
    total-same n (put f m x) (λ r. bit_xor (f r) (put (λ k. 0) m x r)) (λ r l. elim (cases_eq r m) [
      | inl e ↦ rw e (put-same f m x ∙ sym (ap₂ bit_xor nothing (put-same (λ k. 0) m x) ∙ xor_zero_l x))
      | inr ne ↦ put-other f m x r ne ∙ sym (ap (bit_xor (f r)) (put-other (λ k. 0) m x r ne) ∙ xor_zero_r (f r))
    ])
    ∙ total-add n f (put (λ k. 0) m x)
    ∙ ap (bit_xor (total n f)) (total-alone n m (put (λ k. 0) m x) lt (λ r l ne. put-other (λ k. 0) m x r ne) ∙ put-same (λ k. 0) m x)

-- two that have the sum 0 are equal
pub xor_same : (a b : ℕ) → bit_xor a b ≡ 0 → a ≡ b
xor_same a b e =
    sym (xor_zero_r a) ∙ ap (bit_xor a) (sym (xor_self b)) ∙ sym (xor_assoc a b b) ∙ ap (λ x. bit_xor x b) e ∙ xor_zero_l b

pub same_xor : (a b : ℕ) → a ≡ b → bit_xor a b ≡ 0
same_xor a b e = ap (λ x. bit_xor x b) e ∙ xor_self b
