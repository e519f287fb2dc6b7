-- Plain facts of tests, and of tests on lists.
use Rattle.std.proofs.Common.{◌≡◌, ℕ, zero, suc, ◌&&◌, ◌||◌, Bool, true, false, not, List, [], ◌∷◌, ◌++◌, take, drop, refl, sym, ◌∙◌, ap₂}
use Rattle.std.specs.List.{list_any}
use Rattle.std.proofs.lemmas.List.Folds.{list_any-append}

pub neither : (a b : Bool) → (a || b) ≡ false → (a ≡ false) × (b ≡ false)
neither true b e = absurd (cc)
neither false b e = (refl, e)

pub or-none : (a b : Bool) → b ≡ false → (a || b) ≡ a
or-none true b e = refl
or-none false b e = e

pub or-left : (a b : Bool) → a ≡ true → (a || b) ≡ true
or-left true b e = refl
or-left false b e = absurd (cc)

pub or-right : (a b : Bool) → b ≡ true → (a || b) ≡ true
or-right true b e = refl
or-right false b e = e

pub or-assoc : (a b c : Bool) → ((a || b) || c) ≡ (a || (b || c))
or-assoc true b c = refl
or-assoc false b c = refl

-- what was so before, or began since, whatever ended it in between
pub weaken : (was ends begins later : Bool) → ((was && not ends || begins) || later) ≡ true → (was || (begins || later)) ≡ true
weaken true ends begins later e = refl
weaken false ends begins later e = e

pub none-before : {A : Type 0} (p : A → Bool) (xs ys : List A) → list_any p (xs ++ ys) ≡ false → list_any p xs ≡ false
none-before p xs ys none = (neither (list_any p xs) (list_any p ys) (sym (list_any-append p xs ys) ∙ none)).0

pub none-take : {A : Type 0} (p : A → Bool) (n : ℕ) (xs : List A) → list_any p xs ≡ false → list_any p (take n xs) ≡ false
none-take p zero xs none = refl
none-take p (suc n) [] none = refl
none-take p (suc n) (x ∷ xs) none =
    let parts = neither (p x) (list_any p xs) none in
    ap₂ (λ (a b : Bool). a || b) parts.0 (none-take p n xs parts.1)

pub none-drop : {A : Type 0} (p : A → Bool) (n : ℕ) (xs : List A) → list_any p xs ≡ false → list_any p (drop n xs) ≡ false
none-drop p zero xs none = none
none-drop p (suc n) [] none = refl
none-drop p (suc n) (x ∷ xs) none = none-drop p n xs (neither (p x) (list_any p xs) none).1
