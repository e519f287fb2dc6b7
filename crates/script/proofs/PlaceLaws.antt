-- Where the words of a line stand.
use Rattle.std.proofs.Common.{◌≡◌, ℕ, suc, ◌+◌, ◌-◌, ◌<◌, ◌≤◌, min, Bool, true, false, cond, not, ltb, List, [], ◌∷◌, length, take, drop, get_or, filter, refl, sym, ap, ap₂, ◌∙◌, arith, ◌⊎◌, inl, inr, Option, Some, None, drop-cons, drop-drop}
use Rattle.std.proofs.lemmas.Bool.{cases_lt}
use Rattle.std.proofs.lemmas.List.{drop_all, length-drop, length-take-le, drop-take, drop_min, get_or-drop}
use Rattle.std.proofs.lemmas.List.Sums.{passes_at_first}
use Rattle.std.specs.Option.{unwrap_or}
use Rattle.std.specs.List.{position, position_or_len}
use Rattle.script_words.specs.Numbers.{is_space, words_of}
use Rattle.script_words.proofs.WordsLaws.{place_or_len, words_of-skip, words_of-first}
use Rattle.script.specs.Mistakes.{StandsAt}

abbrev is_other : ℕ → Bool
is_other b = not (is_space b)

not_true : (s : Bool) → not s ≡ true → s ≡ false
not_true true h = absurd (cc)
not_true false h = refl

-- what a line is from its first byte on that is no space
abbrev pub found_in : List ℕ → List ℕ
found_in line = drop (unwrap_or (position is_other line) (length line)) line

abbrev pub word_len : List ℕ → ℕ
word_len line = unwrap_or (position is_space line) (length line)

pub found-words : (line : List ℕ) → words_of (found_in line) ≡ words_of line
found-words line = ap (λ n. words_of (drop n line)) (place_or_len is_other line) ∙ words_of-skip line

-- it is empty, or begins with a word
found_cases : (line : List ℕ) → (found_in line ≡ []) ⊎ (0 < position_or_len is_space (found_in line))
found_cases line = at_end (cases_lt (position_or_len is_other line) (length line))
  where
    same : unwrap_or (position is_other line) (length line) ≡ position_or_len is_other line
    same = place_or_len is_other line

    at_end : (position_or_len is_other line < length line) ⊎ (length line ≤ position_or_len is_other line)
        → (found_in line ≡ []) ⊎ (0 < position_or_len is_space (found_in line))
    at_end (inl within) =
        let n = position_or_len is_other line in
        let first = drop-cons line n 0 within in
        let other = not_true (is_space (get_or line n 0)) (passes_at_first is_other line 0 within) in
        let size = ap (position_or_len is_space) (ap (λ k. drop k line) same ∙ first) ∙ ap (λ s. cond (not s) (1 + position_or_len is_space (drop (suc n) line)) 0) other in
        inr (omega (arith, size))
    at_end (inr past) = inl (ap (λ k. drop k line) same ∙ drop_all (position_or_len is_other line) line past)

-- the words behind the first
pub behind-words : (line : List ℕ) → words_of (drop (word_len (found_in line)) (found_in line)) ≡ drop 1 (words_of line)
behind-words line = by_cases (found_cases line)
  where
    by_cases : (found_in line ≡ []) ⊎ (0 < position_or_len is_space (found_in line)) → words_of (drop (word_len (found_in line)) (found_in line)) ≡ drop 1 (words_of line)
    by_cases (inl none) =
        ap (λ l. words_of (drop (word_len l) l)) none ∙ sym (ap (drop 1) (sym (found-words line) ∙ ap words_of none))
    by_cases (inr some) =
        ap (λ n. words_of (drop n (found_in line))) (place_or_len is_space (found_in line))
        ∙ sym (ap (drop 1) (sym (found-words line) ∙ words_of-first (found_in line) some))

-- the first word, or none
pub first-word : (line : List ℕ) → take (word_len (found_in line)) (found_in line) ≡ get_or (words_of line) 0 []
first-word line = by_cases (found_cases line)
  where
    by_cases : (found_in line ≡ []) ⊎ (0 < position_or_len is_space (found_in line)) → take (word_len (found_in line)) (found_in line) ≡ get_or (words_of line) 0 []
    by_cases (inl none) =
        ap (λ l. take (word_len l) l) none ∙ sym (ap (λ ws. get_or ws 0 []) (sym (found-words line) ∙ ap words_of none))
    by_cases (inr some) =
        ap (λ n. take n (found_in line)) (place_or_len is_space (found_in line))
        ∙ sym (ap (λ ws. get_or ws 0 []) (sym (found-words line) ∙ words_of-first (found_in line) some))

-- ---- ends of ends

ends_of_ends : (text line rest : List ℕ) → line ≡ drop (length text - length line) text → length line ≤ length text
    → rest ≡ drop (length line - length rest) line → length rest ≤ length line → rest ≡ drop (length text - length rest) text
ends_of_ends text line rest end_is within rest_is shorter =
    let apart : length text - length rest ≡ (length text - length line) + (length line - length rest) = omega (arith, within, shorter) in
    rest_is ∙ ap (drop (length line - length rest)) end_is ∙ drop-drop (length line - length rest) (length text - length line) text
    ∙ ap (λ n. drop n text) (sym apart)

-- one word further
module _ (text line rest : List ℕ) (more left : ℕ) (end_is : line ≡ drop (length text - length line) text) (within : length line ≤ length text)
    (words : words_of line ≡ drop (length (words_of text) - more) (words_of text)) (few : more ≤ length (words_of text)) (goes : left < more)
    (behind : words_of rest ≡ drop 1 (words_of line)) (rest_is : rest ≡ drop (length line - length rest) line) (shorter : length rest ≤ length line) where
  pub further-tail : rest ≡ drop (length text - length rest) text
  further-tail = ends_of_ends text line rest end_is within rest_is shorter

  pub further-words : words_of rest ≡ drop (length (words_of text) - (more - 1)) (words_of text)
  further-words =
      let n = length (words_of text) in
      let step : n - (more - 1) ≡ n - more + 1 = omega (arith, few, goes) in
      behind ∙ ap (drop 1) words ∙ drop-drop 1 (n - more) (words_of text) ∙ ap (λ k. drop k (words_of text)) (sym step)

-- where the wrong word stands
module _ (text line found : List ℕ) (more left skip width kept : ℕ) (end_is : line ≡ drop (length text - length line) text) (within : length line ≤ length text)
    (words : words_of line ≡ drop (length (words_of text) - more) (words_of text)) (few : length (words_of text) - more ≤ length (words_of text) - left) (ended : more ≤ left)
    (found_is : found ≡ found_in line) (found_tail : found ≡ drop (length line - length found) line) (shorter : length found ≤ length line)
    (width_is : width ≡ word_len found) (inside : width ≤ length found) (kept_is : kept ≡ min skip width) where
  same_count : length (words_of text) - more ≡ length (words_of text) - left
  same_count = omega (arith, few, ended)

  tail : found ≡ drop (length text - length found) text
  tail = ends_of_ends text line found end_is within found_tail shorter

  left_words : words_of found ≡ drop (length (words_of text) - left) (words_of text)
  left_words = ap words_of found_is ∙ found-words line ∙ words ∙ ap (λ n. drop n (words_of text)) same_count

  word_is : take width found ≡ get_or (words_of text) (length (words_of text) - left) []
  word_is =
      ap₂ take width_is found_is ∙ ap (λ l. take (word_len l) (found_in line)) found_is ∙ first-word line
      ∙ ap (λ ws. get_or ws 0 []) (words ∙ ap (λ n. drop n (words_of text)) same_count)
      ∙ get_or-drop (length (words_of text) - left) (words_of text) 0 [] ∙ ap (λ n. get_or (words_of text) n []) (let e : length (words_of text) - left + 0 ≡ length (words_of text) - left = omega arith in e)

  word_size : length (get_or (words_of text) (length (words_of text) - left) []) ≡ width
  word_size = ap length (sym word_is) ∙ length-take-le width found inside

  pub stands : StandsAt text (length (words_of text) - left) skip (length text - length found + kept) (width - kept)
  stands = record {
    start = length text - length found;
    words = ap words_of (sym tail) ∙ left_words;
    column_is = ap (λ k. length text - length found + k) (kept_is ∙ ap (min skip) (sym word_size));
    bytes =
        let whole : kept + (width - kept) ≡ width = omega (arith, at_most) in
        ap (take (width - kept)) (sym (drop-drop kept (length text - length found) text) ∙ ap (drop kept) (sym tail))
        ∙ sym (drop-take kept (width - kept) found)
        ∙ ap (λ n. drop kept (take n found)) whole
        ∙ ap (drop kept) word_is
        ∙ ap (λ k. drop k (get_or (words_of text) (length (words_of text) - left) [])) (kept_is ∙ ap (min skip) (sym word_size))
        ∙ drop_min skip (get_or (words_of text) (length (words_of text) - left) []);
    within = omega (arith, at_most, inside, shorter, within);
  }
    where
      at_most : kept ≤ width
      at_most = let h = kept_is in omega (arith, h)
