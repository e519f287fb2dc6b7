-- The words of a line, taken off one after the other.
use Rattle.std.proofs.Common.{◌≡◌, ℕ, suc, ◌+◌, ◌<◌, ◌≤◌, Bool, true, false, cond, not, ltb, List, [], ◌∷◌, length, take, drop, get_or, filter, refl, sym, ap, ap₂, ◌∙◌, arith, drop-cons, ◌⊎◌, inl, inr, Some, None}
use Rattle.std.proofs.lemmas.Bool.Decides.{nat_tests}
use Rattle.std.proofs.lemmas.Bool.{cases_lt}
use Rattle.std.proofs.lemmas.List.{take_all, drop_all, length-take-le}
use Rattle.std.proofs.lemmas.List.Splits.{slice_split_first, slice_split_none}
use Rattle.std.proofs.lemmas.List.Sums.{fails_before_first, passes_at_first, prefix_len-le-length}
use Rattle.std.proofs.lemmas.List.Elements.{All-from_get_or}
use Rattle.std.specs.Option.{unwrap_or}
use Rattle.std.specs.List.{position, position_or_len, slice_split, onto_first}
use Rattle.script_words.specs.Numbers.{is_space, words_of}

abbrev is_other : ℕ → Bool
is_other b = not (is_space b)

by_place : (p : ℕ → Bool) (xs : List ℕ) → (position p xs ≡ Some (position_or_len p xs)) × (position_or_len p xs < length xs)
    ⊎ (position p xs ≡ None) × (length xs ≤ position_or_len p xs)
by_place p xs = at_end (cases_lt (position_or_len p xs) (length xs))
  where
    at_end : (position_or_len p xs < length xs) ⊎ (length xs ≤ position_or_len p xs)
        → (position p xs ≡ Some (position_or_len p xs)) × (position_or_len p xs < length xs)
        ⊎ (position p xs ≡ None) × (length xs ≤ position_or_len p xs)
    at_end (inl found) =
        let t : ltb (position_or_len p xs) (length xs) ≡ true = grind (arith, nat_tests) in
        inl (ap (λ b. cond b (Some (position_or_len p xs)) None) t, found)
    at_end (inr past) =
        let t : ltb (position_or_len p xs) (length xs) ≡ false = grind (arith, nat_tests) in
        inr (ap (λ b. cond b (Some (position_or_len p xs)) None) t, past)

pub position_some : (p : ℕ → Bool) (xs : List ℕ) (i : ℕ) → position p xs ≡ Some i → (i ≡ position_or_len p xs) × (i < length xs)
position_some p xs i found = by_cases (by_place p xs)
  where
    by_cases : (position p xs ≡ Some (position_or_len p xs)) × (position_or_len p xs < length xs)
        ⊎ (position p xs ≡ None) × (length xs ≤ position_or_len p xs)
        → (i ≡ position_or_len p xs) × (i < length xs)
    by_cases (inl here) = let e : i ≡ position_or_len p xs = cc (here.0) in (e, omega (arith, e, here))
    by_cases (inr nowhere) = absurd (cc (nowhere.0))

pub position_none : (p : ℕ → Bool) (xs : List ℕ) → position p xs ≡ None → length xs ≤ position_or_len p xs
position_none p xs nothing = by_cases (by_place p xs)
  where
    by_cases : (position p xs ≡ Some (position_or_len p xs)) × (position_or_len p xs < length xs)
        ⊎ (position p xs ≡ None) × (length xs ≤ position_or_len p xs)
        → length xs ≤ position_or_len p xs
    by_cases (inl here) = absurd (cc (here.0))
    by_cases (inr nowhere) = nowhere.1

pub place_or_len : (p : ℕ → Bool) (xs : List ℕ) → unwrap_or (position p xs) (length xs) ≡ position_or_len p xs
place_or_len p xs = by_cases (by_place p xs)
  where
    by_cases : (position p xs ≡ Some (position_or_len p xs)) × (position_or_len p xs < length xs)
        ⊎ (position p xs ≡ None) × (length xs ≤ position_or_len p xs)
        → unwrap_or (position p xs) (length xs) ≡ position_or_len p xs
    by_cases (inl here) = ap (λ o. unwrap_or o (length xs)) here.0
    by_cases (inr nowhere) =
        let most = prefix_len-le-length (λ x. not (p x)) xs in
        ap (λ o. unwrap_or o (length xs)) nowhere.0 ∙ omega (arith, most, nowhere)

-- one space at the front is no word
words_of-space : (b : ℕ) (line : List ℕ) → is_space b ≡ true → words_of (b ∷ line) ≡ words_of line
words_of-space b line e =
    ap (λ s. filter (λ word. ltb 0 (length word)) (cond s ([] ∷ slice_split is_space line) (onto_first b (slice_split is_space line)))) e

-- nor are several
pub words_of-skip : (line : List ℕ) → words_of (drop (position_or_len is_other line) line) ≡ words_of line
words_of-skip [] = refl
words_of-skip (b ∷ line) = at_byte (is_space b) refl (words_of-skip line)
  where
    at_byte : (s : Bool) → is_space b ≡ s → words_of (drop (position_or_len is_other line) line) ≡ words_of line
        → words_of (drop (cond (not (not s)) (1 + position_or_len is_other line) 0) (b ∷ line)) ≡ words_of (b ∷ line)
    at_byte true e later =
        let more : 1 + position_or_len is_other line ≡ suc (position_or_len is_other line) = omega arith in
        ap (λ k. words_of (drop k (b ∷ line))) more ∙ later ∙ sym (words_of-space b line e)
    at_byte false e later = refl

-- a line of spaces alone has no word
pub words_of-spaces : (line : List ℕ) → position is_other line ≡ None → words_of line ≡ []
words_of-spaces line nothing =
    sym (words_of-skip line) ∙ ap words_of (drop_all (position_or_len is_other line) line (position_none is_other line nothing))

-- a word at the front is followed by the other words
pub words_of-first : (line : List ℕ) → 0 < position_or_len is_space line
    → words_of line ≡ take (position_or_len is_space line) line ∷ words_of (drop (position_or_len is_space line) line)
words_of-first line some = at_end (cases_lt (position_or_len is_space line) (length line))
  where
    at_end : (position_or_len is_space line < length line) ⊎ (length line ≤ position_or_len is_space line)
        → words_of line ≡ take (position_or_len is_space line) line ∷ words_of (drop (position_or_len is_space line) line)
    at_end (inl found) =
        let n = position_or_len is_space line in
        let size = length-take-le n line (omega arith) in
        let long : ltb 0 (length (take n line)) ≡ true = grind (arith, nat_tests) in
        let more : suc n ≡ n + 1 = omega arith in
        ap (filter (λ word. ltb 0 (length word))) (slice_split_first is_space line 0 found)
        ∙ ap (λ b. cond b (take n line ∷ words_of (drop (n + 1) line)) (words_of (drop (n + 1) line))) long
        ∙ ap (λ words. take n line ∷ words)
        (ap (λ k. words_of (drop k line)) (sym more)
        ∙ sym (words_of-space (get_or line n 0) (drop (suc n) line) (passes_at_first is_space line 0 found))
        ∙ ap words_of (sym (drop-cons line n 0 found)))
    at_end (inr past) =
        let n = position_or_len is_space line in
        let most = prefix_len-le-length (λ b. not (is_space b)) line in
        let long : ltb 0 (length line) ≡ true = grind (arith, nat_tests) in
        let alone = slice_split_none is_space line (All-from_get_or (λ b. is_space b ≡ false) line 0 (λ i h. fails_before_first is_space line i 0 (omega (arith, h)))) in
        ap (filter (λ word. ltb 0 (length word))) alone
        ∙ ap (λ b. cond b (line ∷ []) []) long
        ∙ ap₂ (λ word words. word ∷ words) (sym (take_all n line past)) (sym (ap words_of (drop_all n line past)))

not_true : (s : Bool) → not s ≡ true → s ≡ false
not_true true h = absurd (cc)
not_true false h = refl

-- the word that follows the first spaces, and the words behind it
pub words_of-next : (line : List ℕ) (start stop : ℕ) → position is_other line ≡ Some start
    → stop ≡ unwrap_or (position is_space (drop start line)) (length (drop start line))
    → words_of line ≡ take stop (drop start line) ∷ words_of (drop stop (drop start line))
words_of-next line start stop found upto =
    let here = position_some is_other line start found in
    let first = drop-cons line start 0 (here.1) in
    let within : position_or_len is_other line < length line = omega (arith, here) in
    let other = ap (λ k. is_space (get_or line k 0)) (here.0) ∙ not_true (is_space (get_or line (position_or_len is_other line) 0)) (passes_at_first is_other line 0 within) in
    let size = ap (position_or_len is_space) first ∙ ap (λ s. cond (not s) (1 + position_or_len is_space (drop (suc start) line)) 0) other in
    sym (words_of-skip line) ∙ ap (λ k. words_of (drop k line)) (sym (here.0))
    ∙ words_of-first (drop start line) (omega (arith, size))
    ∙ ap (λ k. take k (drop start line) ∷ words_of (drop k (drop start line))) (sym (upto ∙ place_or_len is_space (drop start line)))
