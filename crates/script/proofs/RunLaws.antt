-- Rows of equal kinds at the front of a list of sectors.
use Rattle.std.proofs.Common.{◌≡◌, ℕ, zero, suc, ◌+◌, ◌%◌, ◌^◌, ◌<◌, Bool, true, false, cond, List, [], ◌∷◌, ◌++◌, length, drop, replicate, get_or, refl, sym, ap, ap₂, ◌∙◌, arith, add-one, drop-cons, ◌&&◌, append_assoc}
use Rattle.std.proofs.lemmas.List.{drop-drop}
use Rattle.std.specs.List.{flat_map}
use Rattle.std.proofs.Math.Seq.{drop-length}
use Rattle.std.proofs.lemmas.Bool.{eqb-true, eq-eqb}
use Rattle.std.specs.Cmp.Lexicographic.{same_text}
use Rattle.std.specs.Str.{bytes_eq}
use Rattle.history.specs.raid_types_Sectors.{Sector}
use Rattle.script.specs.Texts.{Kind, Zero, Seed, Hex, kind_of, kinds, is_same, joined, runs, run_text, runs_text}
use Rattle.script.proofs.KindLaws.{kind_of-same, kinds-same, place_after, low_bits_wrapped}

bytes_same : (bs : List ℕ) → bytes_eq bs bs ≡ true
bytes_same [] = refl
bytes_same (b ∷ bs) = ap₂ (λ p q. p && q) (eq-eqb b b refl) (bytes_same bs)

is_same_refl : (kind : Kind) → is_same kind kind ≡ true
is_same_refl Zero = refl
is_same_refl (Seed s) = eq-eqb s s refl
is_same_refl (Hex a) = bytes_same a

same_kind : (a b : Kind) → is_same a b ≡ true → a ≡ b
same_kind Zero Zero e = refl
same_kind Zero (Seed t) e = absurd (cc)
same_kind Zero (Hex b) e = absurd (cc)
same_kind (Seed s) Zero e = absurd (cc)
same_kind (Seed s) (Seed t) e = ap Seed (eqb-true s t e)
same_kind (Seed s) (Hex b) e = absurd (cc)
same_kind (Hex a) Zero e = absurd (cc)
same_kind (Hex a) (Seed t) e = absurd (cc)
same_kind (Hex a) (Hex b) e = ap Hex (same_text a b (sym e))

-- the first of these is of another kind, or there is none
abbrev FirstDiffers : Kind → List Kind → Type 0
FirstDiffers kind [] = Unit {0}
FirstDiffers kind (first ∷ others) = is_same kind first ≡ false

joined-differs : (k j : Kind) (rs : List (Kind × ℕ)) → is_same k j ≡ false → joined k (joined j rs) ≡ (k, 1) ∷ joined j rs
joined-differs k j [] e = rw e refl
joined-differs k j ((first, count) ∷ others) e = by_test (is_same j first)
  where
    by_test : (b : Bool) → joined k (cond b ((j, count + 1) ∷ others) ((j, 1) ∷ (first, count) ∷ others))
        ≡ (k, 1) ∷ cond b ((j, count + 1) ∷ others) ((j, 1) ∷ (first, count) ∷ others)
    by_test true = rw e refl
    by_test false = rw e refl

runs-differs : (kind : Kind) (others : List Kind) → FirstDiffers kind others → runs (kind ∷ others) ≡ (kind, 1) ∷ runs others
runs-differs kind [] differs = refl
runs-differs kind (first ∷ others) differs = joined-differs kind first (runs others) differs

runs-replicate : (n : ℕ) (kind : Kind) (others : List Kind) → FirstDiffers kind others
    → runs (replicate (suc n) kind ++ others) ≡ (kind, suc n) ∷ runs others
runs-replicate zero kind others differs = runs-differs kind others differs
runs-replicate (suc n) kind others differs =
    ap (joined kind) (runs-replicate n kind others differs)
    ∙ ap (λ b. cond b ((kind, suc n + 1) ∷ runs others) ((kind, 1) ∷ (kind, suc n) ∷ runs others)) (is_same_refl kind)
    ∙ ap (λ m. (kind, m) ∷ runs others) (add-one (suc n))

run_of : (n : ℕ) (kind : Kind) (others : List Kind) → 0 < n → FirstDiffers kind others
    → runs (replicate n kind ++ others) ≡ (kind, n) ∷ runs others
run_of zero kind others some differs = absurd (omega (arith, some))
run_of (suc n) kind others some differs = runs-replicate n kind others differs

one_more : (n : ℕ) (kind : Kind) (others : List Kind) → replicate n kind ++ kind ∷ others ≡ replicate (suc n) kind ++ others
one_more zero kind others = refl
one_more (suc n) kind others = ap (λ ks. kind ∷ ks) (one_more n kind others)

-- the kinds from a place on begin with the kind there
kinds-at : (x i : ℕ) (sectors : List Sector) (d : Sector) → i < length sectors
    → kinds (x + i) (drop i sectors) ≡ kind_of (x + i) (get_or sectors i d) ∷ kinds (x + (i + 1)) (drop (i + 1) sectors)
kinds-at x i sectors d less =
    let e : x + i + 1 ≡ x + (i + 1) = omega arith in
    ap (kinds (x + i)) (drop-cons sectors i d less)
    ∙ ap₂ (λ y others. kind_of (x + i) (get_or sectors i d) ∷ kinds y others) e (ap (λ n. drop n sectors) (sym (add-one i)))

-- the first i sectors are of this kind
pub record IsRow (x i : ℕ) (kind : Kind) (sectors : List Sector) : Type 0 where
  pub row : kinds x sectors ≡ replicate i kind ++ kinds (x + i) (drop i sectors)

-- the next sector, seen at a place with the same low bits
next_kind : (x i : ℕ) (kind next : Kind) (sectors : List Sector) (d : Sector) → i < length sectors → IsRow x i kind sectors
    → next ≡ kind_of ((x + i) % 2 ^ 64) (get_or sectors i d)
    → kinds x sectors ≡ replicate i kind ++ next ∷ kinds (x + (i + 1)) (drop (i + 1) sectors)
next_kind x i kind next sectors d less row e =
    row.row ∙ ap (λ ks. replicate i kind ++ ks)
    (kinds-at x i sectors d less
    ∙ ap (λ k. k ∷ kinds (x + (i + 1)) (drop (i + 1) sectors))
    (sym (e ∙ kind_of-same ((x + i) % 2 ^ 64) (x + i) (get_or sectors i d) (low_bits_wrapped (x + i)))))

pub row_goes_on : (x i : ℕ) (kind next : Kind) (sectors : List Sector) (d : Sector) → i < length sectors → IsRow x i kind sectors
    → next ≡ kind_of ((x + i) % 2 ^ 64) (get_or sectors i d) → is_same kind next ≡ true → IsRow x (i + 1) kind sectors
row_goes_on x i kind next sectors d less row e same = record {
  row =
      next_kind x i kind next sectors d less row e
      ∙ ap (λ k. replicate i kind ++ k ∷ kinds (x + (i + 1)) (drop (i + 1) sectors)) (sym (same_kind kind next same))
      ∙ one_more i kind (kinds (x + (i + 1)) (drop (i + 1) sectors))
      ∙ ap (λ n. replicate n kind ++ kinds (x + (i + 1)) (drop (i + 1) sectors)) (sym (add-one i));
}

-- the first run, and the runs behind it
abbrev pub IsFirstRun : ℕ → ℕ → Kind → List Sector → Type 0
IsFirstRun x i kind sectors = runs (kinds x sectors) ≡ (kind, i) ∷ runs (kinds (x + i) (drop i sectors))

pub row_stops : (x i : ℕ) (kind next : Kind) (sectors : List Sector) (d : Sector) → i < length sectors → 0 < i → IsRow x i kind sectors
    → next ≡ kind_of ((x + i) % 2 ^ 64) (get_or sectors i d) → is_same kind next ≡ false → IsFirstRun x i kind sectors
row_stops x i kind next sectors d less some row e differs =
    let others : List Kind = kinds (x + (i + 1)) (drop (i + 1) sectors) in
    let there : kinds (x + i) (drop i sectors) ≡ next ∷ others =
    kinds-at x i sectors d less
    ∙ ap (λ k. k ∷ others) (sym (e ∙ kind_of-same ((x + i) % 2 ^ 64) (x + i) (get_or sectors i d) (low_bits_wrapped (x + i)))) in
    ap runs (next_kind x i kind next sectors d less row e)
    ∙ run_of i kind (next ∷ others) some differs
    ∙ ap (λ ks. (kind, i) ∷ runs ks) (sym there)

pub row_ends : (x i : ℕ) (kind : Kind) (sectors : List Sector) → i ≡ length sectors → 0 < i → IsRow x i kind sectors → IsFirstRun x i kind sectors
row_ends x i kind sectors e some row =
    let nothing : drop i sectors ≡ [] = ap (λ n. drop n sectors) e ∙ drop-length sectors in
    let none_there : kinds (x + i) (drop i sectors) ≡ [] = ap (kinds (x + i)) nothing in
    ap runs (row.row ∙ ap (λ ks. replicate i kind ++ ks) none_there)
    ∙ run_of i kind [] some tt
    ∙ ap (λ ks. (kind, i) ∷ runs ks) (sym none_there)

-- one more run is written, and the runs that are left go on behind it
pub run_written : (text more whole : List ℕ) (at start count : ℕ) (kind : Kind) (sectors rest : List Sector) → rest ≡ drop start sectors
    → text ++ runs_text (at + start) (drop start sectors) ≡ whole
    → IsFirstRun ((at + start) % 2 ^ 64) count kind rest
    → more ≡ text ++ run_text (kind, count)
    → more ++ runs_text (at + (start + count)) (drop (start + count) sectors) ≡ whole
run_written text more whole at start count kind sectors rest from_start before run written =
    let here : ℕ = (at + start) % 2 ^ 64 in
    let low : here % 2 ^ 32 ≡ (at + start) % 2 ^ 32 = low_bits_wrapped (at + start) in
    let left : List Kind = kinds (at + (start + count)) (drop (start + count) sectors) in
    let e : at + start + count ≡ at + (start + count) = omega arith in
    let moved : kinds (here + count) (drop count rest) ≡ left =
    kinds-same (here + count) (at + start + count) (drop count rest) (place_after here (at + start) count low)
    ∙ ap₂ kinds e (ap (drop count) from_start ∙ drop-drop count start sectors) in
    let first : runs (kinds (at + start) rest) ≡ (kind, count) ∷ runs left =
    ap runs (kinds-same (at + start) here rest (sym low)) ∙ run ∙ ap (λ ks. (kind, count) ∷ runs ks) moved in
    ap (λ t. t ++ flat_map run_text (runs left)) written
    ∙ append_assoc text (run_text (kind, count)) (flat_map run_text (runs left))
    ∙ ap (λ rs. text ++ flat_map run_text rs) (sym first)
    ∙ ap (λ ss. text ++ runs_text (at + start) ss) from_start
    ∙ before
