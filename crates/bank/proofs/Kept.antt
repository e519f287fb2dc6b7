-- The image that a pick makes: its writes carried out one by one, and that a stop may leave it.
use Rattle.std.proofs.Common.{◌≡◌, ◌⊎◌, inl, inr, ⊎_elim, ℕ, zero, suc, ◌+◌, ◌-◌, ◌<◌, ◌≤◌, Bool, true, false, ◌||◌, if◌then◌else◌, List, [], ◌∷◌, ◌++◌, length, take, drop, get_or, Some, refl, sym, ◌∙◌, ap, subst, arith, le_refl}
use Rattle.std.specs.Prelude.{slice_get, slice_range}
use Rattle.std.proofs.lemmas.Bool.{cases_eq, lt-ltb, le-ltb}
use Rattle.std.proofs.lemmas.Bool.Decides.{nat_tests}
use Rattle.std.proofs.lemmas.List.{take_more, take-take, take-append-drop, drop-take, length-take-le}
use Rattle.raid_types.specs.Sectors.{Sector}
use Rattle.bank.specs.declared.bank.Operation.{Operation}
use Rattle.bank.specs.declared.bank.Operation.TheVariants.{Write, Flush}
use Rattle.bank.specs.declared.image.Pick.{Pick}
use Rattle.bank.specs.Tape.{Contents, contents, after_one, value_after, IsImage}
use Rattle.bank.specs.Memory.{sector_of}
use Rattle.bank.specs.Picks.{IsLastFlush, keeps, kept, IsPicked, is_taken}
use Rattle.bank.proofs.Laws.{value_after-append}
use Rattle.bank.proofs.Flushes.{last_flush-unique}

-- ---- lists of kept operations

kept-append : (keep : ℕ → Bool) (place : ℕ) (xs ys : List Operation) → kept keep place (xs ++ ys) ≡ kept keep place xs ++ kept keep (place + length xs) ys
kept-append keep place [] ys = let same : place ≡ place + 0 = omega arith in ap (λ (n : ℕ). kept keep n ys) same
kept-append keep place (x ∷ xs) ys =
    let rest = kept-append keep (place + 1) xs ys in
    let next : (place + 1) + length xs ≡ place + suc (length xs) = omega arith in
    ap (λ (l : List Operation). if keep place then x ∷ l else l) (rest ∙ ap (λ (n : ℕ). kept keep (place + 1) xs ++ kept keep n ys) next)
    ∙ inside (keep place) (kept keep (place + 1) xs) (kept keep (place + suc (length xs)) ys)
  where
    inside : (b : Bool) (ls rs : List Operation) → (if b then x ∷ (ls ++ rs) else (ls ++ rs)) ≡ (if b then x ∷ ls else ls) ++ rs
    inside true ls rs = refl
    inside false ls rs = refl

kept-all : (keep : ℕ → Bool) (place : ℕ) (xs : List Operation) → ((i : ℕ) → place ≤ i → i < place + length xs → keep i ≡ true) → kept keep place xs ≡ xs
kept-all keep place [] every = refl
kept-all keep place (x ∷ xs) every =
    ap (λ (b : Bool). if b then x ∷ kept keep (place + 1) xs else kept keep (place + 1) xs) (every place (omega arith) (omega arith))
    ∙ ap (λ (l : List Operation). x ∷ l) (kept-all keep (place + 1) xs (λ i low high. every i (omega arith) (omega arith)))

kept-same : (keep other : ℕ → Bool) (place : ℕ) (xs : List Operation) → ((i : ℕ) → place ≤ i → keep i ≡ other i) → kept keep place xs ≡ kept other place xs
kept-same keep other place [] same = refl
kept-same keep other place (x ∷ xs) same =
    (λ j. if same place (le_refl place) j then x ∷ kept keep (place + 1) xs else kept keep (place + 1) xs)
    ∙ ap (λ (l : List Operation). if other place then x ∷ l else l) (kept-same keep other (place + 1) xs (λ i low. same i (omega arith)))

-- ---- one operation on

pub kept_step : (s k : ℕ) (v : Sector) (keep : ℕ → Bool) (tape : List Operation) (i : ℕ) (d : Operation) → i < length tape
    → value_after s k v (kept keep 0 (take (i + 1) tape))
    ≡ (if keep i then after_one s k (get_or tape i d) (value_after s k v (kept keep 0 (take i tape))) else value_after s k v (kept keep 0 (take i tape)))
kept_step s k v keep tape i d lt =
    let size : length (take i tape) ≡ i = length-take-le i tape (omega arith) in
    let place : 0 + length (take i tape) ≡ i = omega (arith, size) in
    ap (λ (l : List Operation). value_after s k v (kept keep 0 l)) (take_more tape i d lt)
    ∙ ap (λ (l : List Operation). value_after s k v l) (kept-append keep 0 (take i tape) (get_or tape i d ∷ []))
    ∙ value_after-append s k v (kept keep 0 (take i tape)) (kept keep (0 + length (take i tape)) (get_or tape i d ∷ []))
    ∙ ap (λ (n : ℕ). value_after s k (value_after s k v (kept keep 0 (take i tape))) (kept keep n (get_or tape i d ∷ []))) place
    ∙ one (keep i)
  where
    one : (b : Bool) → value_after s k (value_after s k v (kept keep 0 (take i tape))) (if b then get_or tape i d ∷ [] else [])
        ≡ (if b then after_one s k (get_or tape i d) (value_after s k v (kept keep 0 (take i tape))) else value_after s k v (kept keep 0 (take i tape)))
    one true = refl
    one false = refl

-- all before the last flush, and what is kept since
taken-before : (pick : Pick) (f i : ℕ) → i < f → is_taken pick f i ≡ true
taken-before pick f i lt = ap (λ (b : Bool). b || keeps pick i) (lt-ltb i f lt)

taken-since : (pick : Pick) (f i : ℕ) → f ≤ i → is_taken pick f i ≡ keeps pick i
taken-since pick f i le = ap (λ (b : Bool). b || keeps pick i) (le-ltb i f le)

taken_is_kept : (pick : Pick) (s k : ℕ) (v : Sector) (tape : List Operation) (f : ℕ) → f ≤ length tape
    → value_after s k v (kept (is_taken pick f) 0 tape) ≡ value_after s k (value_after s k v (take f tape)) (kept (keeps pick) f (drop f tape))
taken_is_kept pick s k v tape f le =
    let size : length (take f tape) ≡ f = length-take-le f tape le in
    let place : 0 + length (take f tape) ≡ f = omega (arith, size) in
    ap (λ (l : List Operation). value_after s k v (kept (is_taken pick f) 0 l)) (sym (take-append-drop f tape))
    ∙ ap (λ (l : List Operation). value_after s k v l) (kept-append (is_taken pick f) 0 (take f tape) (drop f tape)
    ∙ (λ j. kept-all (is_taken pick f) 0 (take f tape) (λ i low high. taken-before pick f i (omega (arith, size))) j ++ kept (is_taken pick f) (place j) (drop f tape)))
    ∙ value_after-append s k v (take f tape) (kept (is_taken pick f) f (drop f tape))
    ∙ ap (λ (l : List Operation). value_after s k (value_after s k v (take f tape)) l) (kept-same (is_taken pick f) (keeps pick) f (drop f tape) (λ i low. taken-since pick f i low))

-- ---- the mark's own tape

get-take : (xs : List Operation) (m i : ℕ) → i < m → slice_get (take m xs) i ≡ slice_get xs i
get-take [] zero i lt = refl
get-take [] (suc m) i lt = refl
get-take (x ∷ xs) zero i lt = absurd (omega arith)
get-take (x ∷ xs) (suc m) zero lt = refl
get-take (x ∷ xs) (suc m) (suc i) lt = get-take xs m i (omega arith)

pub last_flush-take : (tape : List Operation) (m s f : ℕ) → m ≤ length tape → IsLastFlush (take m tape) (length (take m tape)) s f → IsLastFlush tape m s f
last_flush-take tape m s f le was =
    let size : length (take m tape) ≡ m = length-take-le m tape le in
    let in_time : f ≤ m = omega (arith, was.in_time, size) in
    record {
      in_time = in_time;
      last = ⊎_elim (λ none. inl none) (λ at. inr (at.0, at.1, sym (get-take tape m at.0 (omega (arith, at.1, in_time))) ∙ at.2)) was.last;
      none_since = λ i low high hit. was.none_since i low (omega (arith, size)) (get-take tape m i high ∙ hit);
    }

range-take : (tape : List Operation) (m f : ℕ) → f ≤ m → drop f (take m tape) ≡ slice_range tape f m
range-take tape m f le =
    let whole : m ≡ f + (m - f) = omega arith in
    ap (λ (n : ℕ). drop f (take n tape)) whole ∙ drop-take f (m - f) tape

-- what is made is the image that was asked for
pub made_is_picked : (pick : Pick) (start c : Contents) (tape : List Operation) (m : ℕ) (marks : ℕ → ℕ) → m ≤ length tape
    → ((s : ℕ) → IsLastFlush (take m tape) (length (take m tape)) s (marks s))
    → ((s k : ℕ) → c s k ≡ value_after s k (start s k) (kept (is_taken pick (marks s)) 0 (take m tape)))
    → IsPicked pick start tape m c
made_is_picked pick start c tape m marks le flushes made s k f last =
    let here = last_flush-take tape m s (marks s) le (flushes s) in
    let same : marks s ≡ f = last_flush-unique tape m s (marks s) f here last in
    let size : length (take m tape) ≡ m = length-take-le m tape le in
    made s k ∙ ap (λ (n : ℕ). value_after s k (start s k) (kept (is_taken pick n) 0 (take m tape))) same
    ∙ taken_is_kept pick s k (start s k) (take m tape) f (omega (arith, last.in_time, size))
    ∙ ap (λ (l : List Operation). value_after s k (value_after s k (start s k) l) (kept (keeps pick) f (drop f (take m tape)))) (take-take f m tape last.in_time)
    ∙ ap (λ (l : List Operation). value_after s k (contents start tape f s k) (kept (keeps pick) f l)) (range-take tape m f last.in_time)

-- ---- and one that a stop may leave

-- one operation leaves a value, or writes it
one-of : (s k : ℕ) (op : Operation) (v : Sector) → (after_one s k op v ≡ v) ⊎ (op ≡ Write s k (after_one s k op v))
one-of s k (Flush t) v = inl refl
one-of s k (Write t j w) v = elim (cases_eq t s) [
  | inl same ↦ elim (cases_eq j k) [
    | inl same' ↦
        let now : after_one s k (Write t j w) v ≡ w = grind (arith, nat_tests) in
        inr ((λ i. Write (same i) (same' i) w) ∙ ap (λ (x : Sector). Write s k x) (sym now))
    | inr other ↦ inl (grind (arith, nat_tests))
  ]
  | inr other ↦ inl (grind (arith, nat_tests))
]

abbrev IsOneOf : ℕ → ℕ → Sector → List Operation → Sector → Type 0
IsOneOf s k v ops y = (y ≡ v) ⊎ ((i : ℕ) × (i < length ops) × (slice_get ops i ≡ Some (Write s k y)))

later : (s k : ℕ) (v y : Sector) (op : Operation) (ops : List Operation) → IsOneOf s k v ops y → IsOneOf s k v (op ∷ ops) y
later s k v y op ops (inl same) = inl same
later s k v y op ops (inr at) = inr (suc at.0, omega (arith, at.1), at.2)

first : (s k : ℕ) (v y : Sector) (op : Operation) (ops : List Operation) → (after_one s k op v ≡ v) ⊎ (op ≡ Write s k (after_one s k op v))
    → IsOneOf s k (after_one s k op v) ops y → IsOneOf s k v (op ∷ ops) y
first s k v y op ops one (inr at) = inr (suc at.0, omega (arith, at.1), at.2)
first s k v y op ops (inl kept) (inl same) = inl (same ∙ kept)
first s k v y op ops (inr wrote) (inl same) = inr (0, omega arith, ap (λ (x : Operation). Some x) (wrote ∙ ap (λ (x : Sector). Write s k x) (sym same)))

-- a value after some kept operations was there before, or one of them wrote it
value-of_kept : (s k : ℕ) (keep : ℕ → Bool) (place : ℕ) (v : Sector) (ops : List Operation) → IsOneOf s k v ops (value_after s k v (kept keep place ops))
value-of_kept s k keep place v [] = inl refl
value-of_kept s k keep place v (op ∷ ops) =
    by_keep (keep place) (value-of_kept s k keep (place + 1) v ops) (value-of_kept s k keep (place + 1) (after_one s k op v) ops)
  where
    by_keep : (b : Bool) → IsOneOf s k v ops (value_after s k v (kept keep (place + 1) ops)) → IsOneOf s k (after_one s k op v) ops (value_after s k (after_one s k op v) (kept keep (place + 1) ops))
        → IsOneOf s k v (op ∷ ops) (value_after s k v (if b then op ∷ kept keep (place + 1) ops else kept keep (place + 1) ops))
    by_keep false without with = later s k v (value_after s k v (kept keep (place + 1) ops)) op ops without
    by_keep true without with = first s k v (value_after s k (after_one s k op v) (kept keep (place + 1) ops)) op ops (one-of s k op v) with

get-range : (tape : List Operation) (f m i : ℕ) (y : Operation) → i < length (slice_range tape f m) → slice_get (slice_range tape f m) i ≡ Some y → (f + i < m) × (slice_get tape (f + i) ≡ Some y)
get-range tape f m i y lt is =
    let short : i < m - f = omega (arith, lt, length-take-most (m - f) (drop f tape)) in
    (omega (arith, short), sym (get-drop tape f i) ∙ sym (get-take (drop f tape) (m - f) i short) ∙ is)
  where
    length-take-most : (n : ℕ) (xs : List Operation) → length (take n xs) ≤ n
    length-take-most zero xs = omega arith
    length-take-most (suc n) [] = omega arith
    length-take-most (suc n) (x ∷ xs) = omega (arith, length-take-most n xs)

    get-drop : (xs : List Operation) (f i : ℕ) → slice_get (drop f xs) i ≡ slice_get xs (f + i)
    get-drop xs zero i = let same : i ≡ 0 + i = omega arith in ap (λ (n : ℕ). slice_get xs n) same
    get-drop [] (suc f) i = refl
    get-drop (x ∷ xs) (suc f) i = get-drop xs f i ∙ (let same : suc (f + i) ≡ suc f + i = omega arith in ap (λ (n : ℕ). slice_get (x ∷ xs) n) same)

-- each image that is made is one that a stop may leave
pub picked-image : (pick : Pick) (start c : Contents) (tape : List Operation) (m : ℕ) (marks : ℕ → ℕ) → ((s : ℕ) → IsLastFlush tape m s (marks s))
    → IsPicked pick start tape m c → IsImage start tape m c
picked-image pick start c tape m marks flushes picked s k =
    let f : ℕ = marks s in
    let last = flushes s in
    let value = picked s k f last in
    record {
      flushed = f;
      in_time = last.in_time;
      last = last.last;
      none_since = last.none_since;
      choice = ⊎_elim (λ same. inl (value ∙ same))
          (λ at.
          let place = get-range tape f m at.0 (Write s k (value_after s k (contents start tape f s k) (kept (keeps pick) f (slice_range tape f m)))) at.1 at.2 in
          inr (f + at.0, omega arith, place.0, place.1 ∙ ap (λ (x : Sector). Some (Write s k x)) (sym value)))
          (value-of_kept s k (keeps pick) f (contents start tape f s k) (slice_range tape f m));
    }

-- both, of what the code makes
pub image_made : (pick : Pick) (start copied made : List (List Sector)) (tape read : List Operation) (m : ℕ) (marks : ℕ → ℕ) → m ≤ length tape → read ≡ tape → copied ≡ start
    → ((s : ℕ) → IsLastFlush (take m read) (length (take m read)) s (marks s))
    → ((s k : ℕ) → sector_of made s k ≡ value_after s k (sector_of copied s k) (kept (is_taken pick (marks s)) 0 (take m read)))
    → IsImage (sector_of start) tape m (sector_of made) × IsPicked pick (sector_of start) tape m (sector_of made)
image_made pick start copied made tape read m marks le same same' flushes replayed =
    let flushes' : (s : ℕ) → IsLastFlush (take m tape) (length (take m tape)) s (marks s) = λ s. subst (λ (l : List Operation). IsLastFlush (take m l) (length (take m l)) s (marks s)) same (flushes s) in
    let picked = made_is_picked pick (sector_of start) (sector_of made) tape m marks le flushes'
    (λ s k. replayed s k ∙ (λ j. value_after s k (sector_of (same' j) s k) (kept (is_taken pick (marks s)) 0 (take m (same j))))) in
    (picked-image pick (sector_of start) (sector_of made) tape m marks (λ s. last_flush-take tape m s (marks s) le (flushes' s)) picked, picked)
