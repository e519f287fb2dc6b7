-- Elements of a list of numbers.
use Rattle.std.proofs.Common.{◌≡◌, ℕ, ◌<◌, ◌⊎◌, inl, inr, Bool, true, false, List, length, nat_eq, refl, sym, subst, arith, eqb-true}
use Rattle.std.specs.Prelude.{Contains, slice_index_or}
use Rattle.std.specs.List.{list_any}
use Rattle.std.proofs.lemmas.Bool.Decides.{nat_tests}
use Rattle.std.proofs.lemmas.List.Folds.{Any-from_list_any, list_any_at}
use Rattle.std.proofs.lemmas.List.Elements.{All-contains_itself}

-- what a test finds is there
pub contains-from_test : (xs : List ℕ) (x : ℕ) → list_any (λ y. nat_eq y x) xs ≡ true → Contains xs x
contains-from_test xs x found =
    let some = Any-from_list_any (λ y. nat_eq y x) xs found in
    let same : some.1 ≡ x = eqb-true some.1 x some.4 in
    (some.0, some.2, subst (λ (v : ℕ). slice_index_or xs some.0 v ≡ v) same some.3)

-- the element at a place is there
pub contains-at : (xs : List ℕ) (k : ℕ) → k < length xs → Contains xs (slice_index_or xs k 0)
contains-at xs k lt = All-contains_itself xs k 0 lt

itself : (n : ℕ) → nat_eq n n ≡ true
itself n = grind (arith, nat_tests)

-- a number is there or it isn't
pub contains_or_not : (xs : List ℕ) (x : ℕ) → Contains xs x ⊎ (Contains xs x → ⊥)
contains_or_not xs x = by (list_any (λ y. nat_eq y x) xs) refl
  where
    by : (b : Bool) → list_any (λ y. nat_eq y x) xs ≡ b → Contains xs x ⊎ (Contains xs x → ⊥)
    by true e = inl (contains-from_test xs x e)
    by false e = inr (λ has.
        let found : list_any (λ y. nat_eq y x) xs ≡ true = list_any_at (λ y. nat_eq y x) xs has.0 x has.1 (subst (λ (v : ℕ). nat_eq v x ≡ true) (sym has.2) (itself x)) in
        absurd (cc))
