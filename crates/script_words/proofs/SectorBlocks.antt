-- A sector, 64 bytes at a time.
use Rattle.std.proofs.Common.{◌≡◌, ℕ, ◌+◌, ◌*◌, ◌-◌, ◌%◌, ◌<◌, ◌≤◌, ◌^◌, Bool, true, false, not, cond, eqb, nat_eq, eqb-true, ◌&&◌, map, replicate, w8, List, [], ◌∷◌, ◌++◌, length, take, get_or, refl, sym, ap, ap₂, ◌∙◌, arith, bytes_eq, inl, inr}
use Rattle.std.specs.Simd.Lanes.{chunk, put_chunk, zip2}
use lib.Lanes.{mask_l, top}
use Rattle.std.proofs.lemmas.Bool.{cases_lt, agree_below_at}
use Rattle.std.proofs.lemmas.Bool.Decides.{nat_tests}
use Rattle.std.proofs.lemmas.List.{take_all, take-append-drop, take-take, drop-take, length-map, length-replicate}
use Rattle.std.proofs.lemmas.Simd.{get_or-put_chunk_below, get_or-put_chunk_at, length-zip2, get_or-zip2, get_or-replicate, tops_compared, mask_l-mod}
use Rattle.script_words.specs.declared.sector_bytes.TheConstants.{COUNTS}
use lib.Pointwise.{bytes_decides}

-- ---- two blocks of 64 bytes

none_differ : (xs ys : List ℕ) → length xs ≡ length ys → nat_eq (mask_l (zip2 (λ (a b : ℕ). not (eqb a b)) xs ys)) 0 ≡ bytes_eq xs ys
none_differ [] [] long = refl
none_differ [] (y ∷ ys) long = absurd (omega (arith, long))
none_differ (x ∷ xs) [] long = absurd (omega (arith, long))
none_differ (x ∷ xs) (y ∷ ys) long =
    one (eqb x y) (mask_l (zip2 (λ (a b : ℕ). not (eqb a b)) xs ys)) ∙ ap (λ (b : Bool). eqb x y && b) (none_differ xs ys (omega (arith, long)))
  where
    one : (t : Bool) (m : ℕ) → nat_eq (cond (not t) 1 0 + 2 * m) 0 ≡ (t && nat_eq m 0)
    one true m = grind (arith, nat_tests)
    one false m = grind (arith, nat_tests)

abbrev compared : ℕ → ℕ → ℕ
compared a b = cond (not (eqb a b)) 255 0

pub same_by_mask : (xs ys : List ℕ) → length xs ≡ 64 → length ys ≡ 64 → nat_eq (mask_l (map (top 7) (zip2 (λ (a b : ℕ). cond (not (eqb a b)) 255 0) xs ys)) % 2 ^ 64) 0 ≡ bytes_eq xs ys
same_by_mask xs ys long long' =
    let small = mask_l-mod (map (top 7) (zip2 compared xs ys)) 64
    (omega (arith, long, long', length-map (zip2 compared xs ys) (top 7), length-zip2 compared xs ys (long ∙ sym long'))) in
    ap (λ (n : ℕ). nat_eq n 0) small ∙ ap (λ (ms : List Bool). nat_eq (mask_l ms) 0) (tops_compared w8 (λ (a b : ℕ). not (eqb a b)) xs ys)
    ∙ none_differ xs ys (long ∙ sym long')

-- ---- two sectors

-- 64 bytes more
take_more_block : (at : ℕ) (xs : List ℕ) → take (at + 64) xs ≡ take at xs ++ chunk at 64 xs
take_more_block at xs = sym (take-append-drop at (take (at + 64) xs)) ∙ ap₂ (λ (a b : List ℕ). a ++ b) (take-take at (at + 64) xs (omega arith)) (drop-take at 64 xs)

-- two sectors, alike up to a block, and in it too
pub alike_further : (block : ℕ) (left right : List ℕ) → take (64 * block) left ≡ take (64 * block) right
    → bytes_eq (chunk (64 * block) 64 left) (chunk (64 * block) 64 right) ≡ true → take (64 * (block + 1)) left ≡ take (64 * (block + 1)) right
alike_further block left right before here =
    let next : 64 * (block + 1) ≡ 64 * block + 64 = omega arith in
    let same = (bytes_decides (chunk (64 * block) 64 left) (chunk (64 * block) 64 right)).0 here in
    ap (λ (n : ℕ). take n left) next ∙ take_more_block (64 * block) left ∙ ap₂ (λ (a b : List ℕ). a ++ b) before same
    ∙ sym (take_more_block (64 * block) right) ∙ ap (λ (n : ℕ). take n right) (sym next)

by_test : (b : Bool) → (b ≡ true → ⊥) → false ≡ b
by_test true no_way = absurd (no_way refl)
by_test false no_way = refl

pub not_alike : (at : ℕ) (left right : List ℕ) → bytes_eq (chunk at 64 left) (chunk at 64 right) ≡ false → false ≡ bytes_eq left right
not_alike at left right differ = by_test (bytes_eq left right) (λ e.
    let same : chunk at 64 left ≡ chunk at 64 right = ap (λ (l : List ℕ). chunk at 64 l) ((bytes_decides left right).0 e) in
    let yes = (bytes_decides (chunk at 64 left) (chunk at 64 right)).1 same in absurd (cc))

pub all_alike : (n : ℕ) (left right : List ℕ) → length left ≡ 512 → length right ≡ 512 → 512 ≤ n → take n left ≡ take n right → true ≡ bytes_eq left right
all_alike n left right long long' all same =
    sym ((bytes_decides left right).1 (sym (take_all n left (omega (arith, long, all))) ∙ same ∙ take_all n right (omega (arith, long', all))))

-- ---- bytes that count on

abbrev added : ℕ → ℕ → ℕ
added a b = (a + b) % 256

pub added-len : (v : List ℕ) (more : ℕ) → length v ≡ 64 → length (zip2 (λ (a b : ℕ). (a + b) % 256) v (replicate 64 more)) ≡ 64
added-len v more long = length-zip2 added v (replicate 64 more) (long ∙ sym (length-replicate 64 more)) ∙ long

pub added_at : (v : List ℕ) (more i : ℕ) → length v ≡ 64 → i < 64 → get_or (zip2 (λ (a b : ℕ). (a + b) % 256) v (replicate 64 more)) i 0 ≡ (get_or v i 0 + more) % 256
added_at v more i long lt =
    get_or-zip2 added v (replicate 64 more) i 0 0 0 (omega (arith, long, lt)) (omega (arith, lt, length-replicate 64 more))
    ∙ ap (λ (n : ℕ). (get_or v i 0 + n) % 256) (get_or-replicate 64 i more 0 lt)

abbrev counts_on : ℕ → Bool
counts_on i = nat_eq (get_or COUNTS i 0) i

pub count_at : (i : ℕ) → i < 64 → get_or COUNTS i 0 ≡ i
count_at i lt = eqb-true (get_or COUNTS i 0) i (agree_below_at counts_on (λ (n : ℕ). true) 64 i refl lt)

-- one block more is stored
pub counted_further : (first start block k : ℕ) (xs ys : List ℕ) → length xs ≡ 512 → length ys ≡ 64 → block < 8 → start ≡ (first + 64 * block) % 256
    → ((i : ℕ) → i < 64 → get_or ys i 0 ≡ (start + i) % 256) → ((i : ℕ) → i < 64 * block → get_or xs i 0 ≡ (first + i) % 256)
    → k < 64 * (block + 1) → get_or (put_chunk (64 * block) xs ys) k 0 ≡ (first + k) % 256
counted_further first start block k xs ys long lanes few begins here before lt = elim (cases_lt k (64 * block)) [
  | inl below ↦ get_or-put_chunk_below (64 * block) xs ys k 0 below ∙ before k below
  | inr past ↦
      let j : ℕ = k - 64 * block in
      let place : 64 * block + (k - 64 * block) ≡ k = omega (arith, past) in
      let within : k - 64 * block < 64 = omega (arith, lt, past) in
      let value : (start + (k - 64 * block)) % 256 ≡ (first + k) % 256 = omega (arith, begins, past) in
      ap (λ (n : ℕ). get_or (put_chunk (64 * block) xs ys) n 0) (sym place)
      ∙ get_or-put_chunk_at (64 * block) xs ys (k - 64 * block) 0 (omega (arith, within, lanes)) (omega (arith, lanes, long, few)) ∙ here (k - 64 * block) within ∙ value
]
