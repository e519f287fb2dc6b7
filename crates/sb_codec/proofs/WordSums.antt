-- Sums of words of bytes that stand one behind the other.
use Rattle.std.proofs.Common.{◌≡◌, ℕ, zero, suc, ◌+◌, ◌-◌, ◌*◌, ◌%◌, ◌^◌, ◌<◌, ◌≤◌, List, [], ◌∷◌, ◌++◌, length, drop, sym, ap, ◌∙◌, arith, length-append, drop_at}
use Rattle.std.proofs.lemmas.List.{drop-drop}
use Rattle.byteorder.specs.Endian.{little_number}
use Rattle.sb_codec.specs.Superblock.{word_sum}

pub word_sum-append : (words : ℕ) (a b : List ℕ) → length a ≡ 4 * words → word_sum (a ++ b) ≡ word_sum a + word_sum b
word_sum-append zero [] b whole = omega arith
word_sum-append (suc words) [] b whole = absurd (omega arith)
word_sum-append words (p ∷ []) b whole = absurd (omega arith)
word_sum-append words (p ∷ q ∷ []) b whole = absurd (omega arith)
word_sum-append words (p ∷ q ∷ r ∷ []) b whole = absurd (omega arith)
word_sum-append zero (p ∷ q ∷ r ∷ s ∷ a) b whole = absurd (omega arith)
word_sum-append (suc words) (p ∷ q ∷ r ∷ s ∷ a) b whole =
    let rest = word_sum-append words a b (omega arith) in
    omega (arith, rest)

-- a word in front
pub word_sum-word : (word rest : List ℕ) → length word ≡ 4 → word_sum (word ++ rest) ≡ little_number 4 word + word_sum rest
word_sum-word (p ∷ q ∷ r ∷ s ∷ []) rest four = omega arith
word_sum-word [] rest four = absurd (omega arith)
word_sum-word (p ∷ []) rest four = absurd (omega arith)
word_sum-word (p ∷ q ∷ []) rest four = absurd (omega arith)
word_sum-word (p ∷ q ∷ r ∷ []) rest four = absurd (omega arith)
word_sum-word (p ∷ q ∷ r ∷ s ∷ t ∷ word) rest four = absurd (omega arith)

-- the total of all words but those in the rest
pub record IsSummed (bytes rest : List ℕ) (size total : ℕ) : Type 0 where
  pub four : size ≡ 4
  pub within : length rest ≤ length bytes
  pub suffix : drop (length bytes - length rest) bytes ≡ rest
  pub words : (length bytes - length rest) % 4 ≡ 0
  pub sum : total + word_sum rest ≡ word_sum bytes
  pub bound : total + 2 ^ 32 * length rest ≤ 2 ^ 32 * length bytes

pub summed-more : (bytes rest word after : List ℕ) (size next total value : ℕ) → IsSummed bytes rest size total → next ≡ size
    → rest ≡ word ++ after → length word ≡ size → value ≡ little_number 4 word → value < 2 ^ 32
    → IsSummed bytes after next (total + value)
summed-more bytes rest word after size next total value before same split whole is small =
    let four : length word ≡ 4 = whole ∙ before.four in
    let count : length rest ≡ 4 + length after = ap length split ∙ length-append word after ∙ ap (λ (n : ℕ). n + length after) four in
    let sums : word_sum rest ≡ value + word_sum after =
    ap word_sum split ∙ word_sum-word word after four ∙ ap (λ (n : ℕ). n + word_sum after) (sym is) in
    let within : length rest ≤ length bytes = before.within in
    let place : length bytes - length after ≡ (length bytes - length rest) + 4 = omega arith in
    let suffix : drop (length bytes - length after) bytes ≡ after =
    ap (λ (n : ℕ). drop n bytes) place ∙ sym (drop-drop 4 (length bytes - length rest) bytes)
    ∙ ap (drop 4) (before.suffix ∙ split) ∙ drop_at word after 4 four in
    record {
      four = same ∙ before.four;
      within = omega arith;
      suffix = suffix;
      words = omega arith;
      sum = omega arith;
      bound = omega arith;
    }

-- bytes with the four at 216 taken as zero
pub word_sum-unsummed : (front back : List ℕ) → length front ≡ 216
    → word_sum (front ++ (0 ∷ 0 ∷ 0 ∷ 0 ∷ []) ++ back) ≡ word_sum front + word_sum back
word_sum-unsummed front back long =
    let zeros : List ℕ = 0 ∷ 0 ∷ 0 ∷ 0 ∷ [] in
    let whole : length (front ++ zeros) ≡ 220 = length-append front zeros ∙ ap (λ (n : ℕ). n + 4) long in
    let outer = word_sum-append 55 (front ++ zeros) back whole in
    let inner = word_sum-append 54 front zeros long in
    omega (arith, outer, inner)
