-- How many numbers pass, one after the other.
use Rattle.std.proofs.Common.{◌≡◌, ℕ, zero, suc, ◌+◌, ◌<◌, ◌≤◌, Bool, true, false, cond, inl, inr, refl, sym, ◌∙◌, ap, arith}
use Rattle.std.proofs.lemmas.Bool.{cases_lt}
use mir.Val.{bool_byte}
use Rattle.sb_update.specs.raid_types_Search.{count_below}

count-suc : (n : ℕ) (f : ℕ → Bool) → count_below (suc n) f ≡ count_below n f + cond (f n) 1 0
unfolding count_below
count-suc n f = refl

pub count-more : (n : ℕ) (f : ℕ → Bool) → count_below (n + 1) f ≡ count_below n f + cond (f n) 1 0
count-more n f = ap (λ (k : ℕ). count_below k f) (let e : n + 1 ≡ suc n = omega arith in e) ∙ count-suc n f

pub count-most : (n : ℕ) (f : ℕ → Bool) → count_below n f ≤ n
unfolding count_below
count-most zero f = omega arith
count-most (suc n) f = let ih = count-most n f in of (f n) ih
  where
    of : (b : Bool) → count_below n f ≤ n → count_below n f + cond b 1 0 ≤ suc n
    of true le = omega (arith, le)
    of false le = omega (arith, le)

pub count-none : (f : ℕ → Bool) → count_below 0 f ≡ 0
unfolding count_below
count-none f = refl

pub as-many : (b : Bool) (n : ℕ) → n ≡ cond b 1 0 → n ≤ 1
as-many true n is = omega (arith, is)
as-many false n is = omega (arith, is)

pub byte-is : (b : Bool) → bool_byte b ≡ cond b 1 0
byte-is true = refl
byte-is false = refl

one-less : (a b k : ℕ) → suc a ≤ b → k ≤ 1 → suc a ≤ b + k
one-less a b k le small = omega (arith, le)

-- a number that passes is counted from the next one on
pub count-strict : (n s : ℕ) (f : ℕ → Bool) → s < n → f s ≡ true → suc (count_below s f) ≤ count_below n f
count-strict zero s f lt passes = absurd (omega (arith, lt))
count-strict (suc n) s f lt passes = elim (cases_lt s n) [
  | inl below ↦ (
      let ih = count-strict n s f below passes in
      let more = count-suc n f in
      omega (arith, ih, more))
  | inr above ↦ (
      let same : s ≡ n = omega (arith, lt, above) in
      let here : count_below (suc n) f ≡ count_below n f + 1 = count-suc n f ∙ ap (λ (b : Bool). count_below n f + cond b 1 0) (ap f (sym same) ∙ passes) in
      let count : count_below s f ≡ count_below n f = ap (λ (k : ℕ). count_below k f) same in
      omega (arith, here, count))
]

-- each number that is below the count is that of one that passes
pub count-find : (n k : ℕ) (f : ℕ → Bool) → k < count_below n f → (s : ℕ) × (s < n) × (f s ≡ true) × (count_below s f ≡ k)
count-find zero k f lt = absurd (let none = count-none f in omega (arith, lt, none))
count-find (suc n) k f lt = elim (cases_lt k (count_below n f)) [
  | inl below ↦ (let ih = count-find n k f below in (ih.0, (let le = ih.1 in omega (arith, le)), ih.2, ih.3))
  | inr above ↦ of (f n) refl above
]
  where
    of : (b : Bool) → f n ≡ b → count_below n f ≤ k → (s : ℕ) × (s < suc n) × (f s ≡ true) × (count_below s f ≡ k)
    of true is above =
        let here : count_below (suc n) f ≡ count_below n f + 1 = count-suc n f ∙ ap (λ (b : Bool). count_below n f + cond b 1 0) is in
        (n, omega arith, is, omega (arith, here, lt, above))
    of false is above = absurd (
        let here : count_below (suc n) f ≡ count_below n f + 0 = count-suc n f ∙ ap (λ (b : Bool). count_below n f + cond b 1 0) is in
        omega (arith, here, lt, above)
        )
