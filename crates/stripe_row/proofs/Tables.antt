-- Role lists of which the first states were changed, and how many of the first roles are missing.
use Rattle.std.proofs.Common.{◌≡◌, inl, inr, ℕ, zero, suc, ◌+◌, ◌<◌, ◌≤◌, Bool, true, false, cond, List, [], ◌∷◌, ◌++◌, length, take, drop, map, set, get_or, refl, sym, ◌∙◌, ap, arith}
use Rattle.std.proofs.lemmas.Bool.{cases_lt}
use Rattle.raid_parity_simd.specs.raid_types_Search.{count_below}

-- one state more was changed
changed-suc : {X : Type 0} (f : X → X) (table : List X) (i : ℕ) (d : X) → i < length table
    → set (map f (take i table) ++ drop i table) i (f (get_or (map f (take i table) ++ drop i table) i d)) ≡ map f (take (suc i) table) ++ drop (suc i) table
changed-suc f [] i d lt = absurd (omega (arith, lt))
changed-suc f (x ∷ table) zero d lt = refl
changed-suc {X = X} f (x ∷ table) (suc i) d lt = ap (λ (l : List X). f x ∷ l) (changed-suc f table i d (omega (arith, lt)))

pub changed-more : {X : Type 0} (f : X → X) (table : List X) (i : ℕ) (d : X) → i < length table
    → set (map f (take i table) ++ drop i table) i (f (get_or (map f (take i table) ++ drop i table) i d)) ≡ map f (take (i + 1) table) ++ drop (i + 1) table
changed-more f table i d lt =
    let next : suc i ≡ i + 1 = omega arith in
    changed-suc f table i d lt ∙ ap (λ (n : ℕ). map f (take n table) ++ drop n table) next

-- an element of a list that was changed
pub get_or-map : {X : Type 0} (f : X → X) (table : List X) (i : ℕ) (d : X) → f d ≡ d → get_or (map f table) i d ≡ f (get_or table i d)
get_or-map f [] i d same = sym same
get_or-map f (x ∷ table) zero d same = refl
get_or-map f (x ∷ table) (suc i) d same = get_or-map f table i d same

pub length-mapped : {X : Type 0} (f : X → X) (table : List X) → length (map f table) ≡ length table
length-mapped f [] = refl
length-mapped f (x ∷ table) = ap suc (length-mapped f table)

-- ---- counts

count_below-suc : (n : ℕ) (test : ℕ → Bool) → count_below (suc n) test ≡ count_below n test + cond (test n) 1 0
unfolding count_below
count_below-suc n test = refl

pub count_below-more : (n : ℕ) (test : ℕ → Bool) → count_below (n + 1) test ≡ count_below n test + cond (test n) 1 0
count_below-more n test =
    let next : n + 1 ≡ suc n = omega arith in
    ap (λ (m : ℕ). count_below m test) next ∙ count_below-suc n test

pub count_below-none : (test : ℕ → Bool) → count_below 0 test ≡ 0
unfolding count_below
count_below-none test = refl

at_most_one : (b : Bool) → cond b 1 0 ≤ 1
at_most_one true = omega arith
at_most_one false = omega arith

pub count_below-le : (n : ℕ) (test : ℕ → Bool) → count_below n test ≤ n
count_below-le zero test = omega (arith, count_below-none test)
count_below-le (suc n) test = omega (arith, count_below-suc n test, count_below-le n test, at_most_one (test n))

passing : (b : Bool) → b ≡ true → ◌≡◌ {A = ℕ} (cond b 1 0) 1
passing true met = refl
passing false met = absurd (cc)

-- one test more
pub count_step : (n : ℕ) (test : ℕ → Bool) (b : Bool) (count next : ℕ) → count ≡ count_below n test → b ≡ test n → next ≡ count + cond b 1 0 → next ≡ count_below (n + 1) test
count_step n test b count next is bit more =
    more ∙ ap (λ (x : ℕ). x + cond b 1 0) is ∙ ap (λ (x : Bool). count_below n test + cond x 1 0) bit ∙ sym (count_below-more n test)

-- one that passes counts above those below it
pub count_below-above : (n a : ℕ) (test : ℕ → Bool) → a < n → test a ≡ true → count_below a test + 1 ≤ count_below n test
count_below-above zero a test lt passes = absurd (omega (arith, lt))
count_below-above (suc n) a test lt passes = elim (cases_lt a n) [
  | inl below ↦ omega (arith, count_below-suc n test, count_below-above n a test below passes)
  | inr above ↦
      let same : n ≡ a = omega (arith, lt, above) in
      let here : ◌≡◌ {A = ℕ} (cond (test n) 1 0) 1 = passing (test n) (ap test same ∙ passes) in
      let below : count_below n test ≡ count_below a test = ap (λ (m : ℕ). count_below m test) same in
      omega (arith, count_below-suc n test, here, below)
]
