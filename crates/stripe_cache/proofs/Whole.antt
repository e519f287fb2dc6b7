-- The lengths of rows.
use Rattle.std.proofs.Common.{◌≡◌, ℕ, zero, suc, ◌*◌, ◌/◌, List, [], ◌∷◌, length, drop, ◌++◌, refl, sym, ap, ap₂, ◌∙◌, arith, length-drop}
use Rattle.std.proofs.lemmas.List.{take-append-drop}
use Rattle.raid_types.specs.Sectors.{first_sectors, sectors_of, IsWhole}

pub length-first_sectors : (n : ℕ) (bytes : List ℕ) → length (first_sectors n bytes) ≡ n
length-first_sectors zero bytes = refl
length-first_sectors (suc n) bytes = let ih : length (first_sectors n (drop 512 bytes)) ≡ n = length-first_sectors n (drop 512 bytes) in omega (arith, ih)

-- a row of as many sectors as these bytes
pub same_length : (bytes : List ℕ) (body : List (List ℕ)) (n : ℕ) → IsWhole bytes → sectors_of bytes ≡ body → n ≡ 512 * length body → n ≡ length bytes
same_length bytes body n whole is e =
    e ∙ ap (λ body. 512 * length body) (sym is) ∙ ap (λ k. 512 * k) (length-first_sectors (length bytes / 512) bytes) ∙ sym whole

-- whole rows of one length that have the same sectors are one
first_sectors-only : (n : ℕ) (xs ys : List ℕ) → length xs ≡ 512 * n → length ys ≡ 512 * n → first_sectors n xs ≡ first_sectors n ys → xs ≡ ys
first_sectors-only zero [] [] hx hy same = refl
first_sectors-only zero (x ∷ xs) ys hx hy same = absurd (omega (arith, hx))
first_sectors-only zero [] (y ∷ ys) hx hy same = absurd (omega (arith, hy))
first_sectors-only (suc n) xs ys hx hy same =
    sym (take-append-drop 512 xs)
    ∙ ap₂ (λ a b. a ++ b) (heads _ _ _ _ same)
    (first_sectors-only n (drop 512 xs) (drop 512 ys) (length-drop 512 xs ∙ omega (arith, hx)) (length-drop 512 ys ∙ omega (arith, hy)) (tails _ _ _ _ same))
    ∙ take-append-drop 512 ys
  where
    heads : (a b : List ℕ) (xs ys : List (List ℕ)) → a ∷ xs ≡ b ∷ ys → a ≡ b
    heads a b xs ys h = cc

    tails : (a b : List ℕ) (xs ys : List (List ℕ)) → a ∷ xs ≡ b ∷ ys → xs ≡ ys
    tails a b xs ys h = cc

pub sectors_of-only : (xs ys : List ℕ) → IsWhole xs → length xs ≡ length ys → sectors_of xs ≡ sectors_of ys → xs ≡ ys
sectors_of-only xs ys whole lengths same =
    first_sectors-only (length xs / 512) xs ys whole (sym lengths ∙ whole) (same ∙ ap (λ n. first_sectors (n / 512) ys) (sym lengths))
