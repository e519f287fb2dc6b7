-- A tabulated list has its length, and its element at each place.
use Rattle.std.proofs.Common.{◌≡◌, ℕ, zero, suc, ◌<◌, ◌⊎◌, inl, inr, List, [], ◌∷◌, ◌++◌, length, get_or, refl, ◌∙◌, subst, length-append, arith, eq-or-lt_of_le, le_of_suc-le-suc}
use Rattle.std.proofs.Math.ListN.{get_or-append}
use Rattle.std.proofs.Math.Seq.{get_or-append_seam}
use Rattle.raid_types.specs.Search.{tabulate}

pub length-tabulate : {X : Type 0} (n : ℕ) (f : ℕ → X) → length (tabulate n f) ≡ n
unfolding tabulate
length-tabulate zero f = refl
length-tabulate (suc n) f =
    let ih : length (tabulate n f) ≡ n = length-tabulate n f in
    length-append (tabulate n f) (f n ∷ []) ∙ omega (arith, ih)

-- the element behind a list of n
at_end : {X : Type 0} (xs : List X) (y : X) (n : ℕ) (d : X) → length xs ≡ n → get_or (xs ++ y ∷ []) n d ≡ y
at_end xs y n d e = subst (λ m. get_or (xs ++ y ∷ []) m d ≡ y) e (get_or-append_seam xs y [] d)

one_more : {X : Type 0} (xs : List X) (f : ℕ → X) (n k : ℕ) (d : X) → length xs ≡ n → (k < n → get_or xs k d ≡ f k)
    → (k ≡ n) ⊎ (k < n) → get_or (xs ++ f n ∷ []) k d ≡ f k
one_more xs f n k d e below (inl same) = rw same (at_end xs (f n) n d e)
one_more xs f n k d e below (inr less) = get_or-append xs (f n ∷ []) d k (rw e less) ∙ below less

pub get_or-tabulate : {X : Type 0} (n : ℕ) (f : ℕ → X) (k : ℕ) (d : X) → k < n → get_or (tabulate n f) k d ≡ f k
unfolding tabulate
get_or-tabulate zero f k d h = absurd (omega (arith, h))
get_or-tabulate (suc n) f k d h =
    one_more (tabulate n f) f n k d (length-tabulate n f) (get_or-tabulate n f k d) (eq-or-lt_of_le (le_of_suc-le-suc h))
