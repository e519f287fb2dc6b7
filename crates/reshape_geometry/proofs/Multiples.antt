-- The least common multiple, found by trying and by the greatest common divisor.
use Rattle.std.proofs.Common.{◌≡◌, ℕ, zero, suc, ◌+◌, ◌-◌, ◌*◌, ◌/◌, ◌%◌, ◌<◌, ◌≤◌, Bool, true, false, cond, Option, Some, None, refl, sym, ap, subst, ◌∙◌, inl, inr, arith}
use Rattle.std.specs.Prelude.{MatchOption, unwrap_or}
use Rattle.std.specs.Option.{option_or}
use Rattle.std.specs.Int.{IsGcd, ◌∣◌}
use Rattle.std.proofs.lemmas.Bool.{cases_lt, cases_eq, eqb-true, eq-eqb, both_ways}
use Rattle.std.proofs.Math.Nat.{dvd-mul_right, dvd-mul_left, dvd_antisymm, mul-dvd-mul_right, dvd_of_mul-dvd-mul_left, mul-div_cancel', div-mul_cancel, dvd-mod_iff, dvd_of_mod-eq-zero, mod-lt, eq_of_mul-eq-mul_left, mul_comm, mul_assoc, mul-pos, mul-le-mul_left, pos_of_dvd_of_pos}
use Rattle.raid_types.specs.Search.{least_below}
use Rattle.raid_types.specs.Shapes.{is_multiple}
use Rattle.reshape_geometry.specs.Geometry.{common_multiple, IsLeastCommonMultiple}

-- ---- the least number that passes

-- what the search over the numbers below n tells: the least one that passes, or that none does
abbrev Searched : ℕ → (ℕ → Bool) → Option ℕ → Type 0
Searched n test o =
    MatchOption o ((i : ℕ) → i < n → test i ≡ false) (λ k. (k < n) × (test k ≡ true) × ((i : ℕ) → i < k → test i ≡ false))

none_more : (n : ℕ) (test : ℕ → Bool) → ((i : ℕ) → i < n → test i ≡ false) → test n ≡ false → (i : ℕ) → i < suc n → test i ≡ false
none_more n test before here i lt =
    elim (cases_eq i n) [
      | inl e ↦ subst (λ (k : ℕ). test k ≡ false) (sym e) here
      | inr ne ↦ before i (omega arith)
    ]

here_more : (n : ℕ) (test : ℕ → Bool) (b : Bool) → test n ≡ b → ((i : ℕ) → i < n → test i ≡ false) → Searched (suc n) test (cond b (Some n) None)
here_more n test true e before = (omega arith, e, before)
here_more n test false e before = none_more n test before e

one_more : (n : ℕ) (test : ℕ → Bool) (o : Option ℕ) → Searched n test o → Searched (suc n) test (option_or o (cond (test n) (Some n) None))
one_more n test (Some k) (below, here, before) = (omega arith, here, before)
one_more n test None before = here_more n test (test n) refl before

searched : (n : ℕ) (test : ℕ → Bool) → Searched n test (least_below n test)
unfolding least_below
searched zero test = λ i lt. absurd (omega arith)
searched (suc n) test = one_more n test (least_below n test) (searched n test)

-- ---- the least common multiple

multiple_tells : (n k : ℕ) → is_multiple n k ≡ true → k ∣ n
multiple_tells n k e = subst (λ (x : ℕ). k ∣ x) (eqb-true _ _ e) (dvd-mul_left k (n / k))

multiple_from : (n k : ℕ) → k ∣ n → is_multiple n k ≡ true
multiple_from n k d = eq-eqb _ _ (div-mul_cancel k d)

abbrev common_test : ℕ → ℕ → ℕ → Bool
common_test a b k = is_multiple (a * (k + 1)) b

-- a common multiple below the one that was found would have passed
no_lesser : (a b k m : ℕ) → 0 < a → ((i : ℕ) → i < k → common_test a b i ≡ false) → 0 < m → a ∣ m → b ∣ m → a * (k + 1) ≤ m
no_lesser a b k m pa before pm am bm =
    let e : a * (m / a) ≡ m = mul-div_cancel' a am in
    elim (cases_lt k (m / a)) [
      | inl lt ↦ (let le : a * (k + 1) ≤ a * (m / a) = mul-le-mul_left a (omega arith) in omega (arith, le, e))
      | inr ge ↦ elim (cases_eq (m / a) 0) [
        | inl z ↦ (let flat : a * (m / a) ≡ a * 0 = ap (λ (x : ℕ). a * x) z in absurd (omega (arith, flat, e)))
        | inr nz ↦ (
            let back : m / a - 1 + 1 ≡ m / a = omega arith in
            let whole : a * (m / a - 1 + 1) ≡ m = ap (λ (x : ℕ). a * x) back ∙ e in
            let passes : common_test a b (m / a - 1) ≡ true = multiple_from _ b (subst (λ (x : ℕ). b ∣ x) (sym whole) bm) in
            absurd (both_ways _ (before (m / a - 1) (omega arith)) passes))
      ]
    ]

from_search : (a b : ℕ) (o : Option ℕ) → 0 < a → 0 < b → Searched b (common_test a b) o → IsLeastCommonMultiple a b (a * (unwrap_or o 0 + 1))
from_search a b (Some k) pa pb (below, here, before) = record {
  positive = (let le : a * 1 ≤ a * (k + 1) = mul-le-mul_left a (omega arith) in omega (arith, le));
  first = dvd-mul_right a (k + 1);
  second = multiple_tells _ b here;
  least = λ m pm am bm. no_lesser a b k m pa before pm am bm;
}
from_search a b None pa pb none =
    let back : b - 1 + 1 ≡ b = omega arith in
    let passes : common_test a b (b - 1) ≡ true = multiple_from _ b (subst (λ (x : ℕ). b ∣ a * x) (sym back) (dvd-mul_left b a)) in
    absurd (both_ways _ (none (b - 1) (omega arith)) passes)

pub least_common : (a b : ℕ) → 0 < a → 0 < b → IsLeastCommonMultiple a b (common_multiple a b)
least_common a b pa pb = from_search a b _ pa pb (searched b (common_test a b))

-- ---- by the greatest common divisor

-- each common multiple is a multiple of the least
common_is_multiple : (a b l m : ℕ) → IsLeastCommonMultiple a b l → a ∣ m → b ∣ m → l ∣ m
common_is_multiple a b l m c am bm =
    elim (cases_eq (m % l) 0) [
      | inl z ↦ dvd_of_mod-eq-zero l z
      | inr nz ↦ (
          let less : m % l < l = mod-lt m c.positive in
          let le : l ≤ m % l = c.least (m % l) (omega arith) ((dvd-mod_iff a c.first).1 am) ((dvd-mod_iff b c.second).1 bm) in
          absurd (omega (arith, less, le)))
    ]

regroup : (g a b : ℕ) → a * (g * b) ≡ (g * a) * b
regroup g a b = omega arith

-- a divisor of a and b that the least common multiple leaves of their product: as great as any other
cofactor : (a b g l : ℕ) → 0 < a → 0 < b → IsGcd a b g → IsLeastCommonMultiple a b l → (q : ℕ) × (l * q ≡ a * b) × (q ∣ g)
cofactor a b g l pa pb gcd c =
    let q = a * b / l in
    let el : l * q ≡ a * b = mul-div_cancel' l (common_is_multiple a b l (a * b) c (dvd-mul_right a b) (dvd-mul_left b a)) in
    let by_b : b * q ∣ b * a = subst (λ (x : ℕ). b * q ∣ x) (el ∙ mul_comm a b) (mul-dvd-mul_right b c.second q) in
    let by_a : a * q ∣ a * b = subst (λ (x : ℕ). a * q ∣ x) el (mul-dvd-mul_right a c.first q) in
    (q, el, gcd.2 q (dvd_of_mul-dvd-mul_left {k = b} q {n = a} pb by_b) (dvd_of_mul-dvd-mul_left {k = a} q {n = b} pa by_a))

-- the product over the greatest common divisor is a common multiple
common_by_divisor : (a b g l : ℕ) → IsGcd a b g → IsLeastCommonMultiple a b l → l ∣ a / g * b
common_by_divisor a b g l gcd c =
    let ea : g * (a / g) ≡ a = mul-div_cancel' g gcd.0 in
    let eb : g * (b / g) ≡ b = mul-div_cancel' g gcd.1 in
    let turned : a / g * b ≡ a * (b / g) =
    ap (λ (x : ℕ). a / g * x) (sym eb) ∙ regroup g (a / g) (b / g) ∙ ap (λ (x : ℕ). x * (b / g)) ea in
    common_is_multiple a b l (a / g * b) c (subst (λ (x : ℕ). a ∣ x) (sym turned) (dvd-mul_right a (b / g))) (dvd-mul_left b (a / g))

pub by_divisor : (a b g l : ℕ) → 0 < a → 0 < b → IsGcd a b g → IsLeastCommonMultiple a b l → a / g * b ≡ l
by_divisor a b g l pa pb gcd c =
    let ea : g * (a / g) ≡ a = mul-div_cancel' g gcd.0 in
    let pg : 0 < g = pos_of_dvd_of_pos gcd.0 pa in
    let m = a / g * b in
    let whole : g * m ≡ a * b = sym (mul_assoc g (a / g) b) ∙ ap (λ (x : ℕ). x * b) ea in
    let of_l : l * (m / l) ≡ m = mul-div_cancel' l (common_by_divisor a b g l gcd c) in
    let found = cofactor a b g l pa pb gcd c in
    let twice : l * (g * (m / l)) ≡ l * found.0 = regroup g l (m / l) ∙ mul_assoc g l (m / l) ∙ ap (λ (x : ℕ). g * x) of_l ∙ whole ∙ sym found.1 in
    let as_q : g * (m / l) ≡ found.0 = eq_of_mul-eq-mul_left l c.positive _ _ twice in
    let same : found.0 ≡ g = dvd_antisymm found.2 (subst (λ (x : ℕ). g ∣ x) as_q (dvd-mul_right g (m / l))) in
    eq_of_mul-eq-mul_left g pg _ _ (whole ∙ sym found.1 ∙ ap (λ (x : ℕ). l * x) same ∙ mul_comm l g)

-- the least common multiple is at most the product
pub at_most_product : (a b l : ℕ) → 0 < a → 0 < b → IsLeastCommonMultiple a b l → l ≤ a * b
at_most_product a b l pa pb c = c.least (a * b) (mul-pos pa pb) (dvd-mul_right a b) (dvd-mul_left b a)
