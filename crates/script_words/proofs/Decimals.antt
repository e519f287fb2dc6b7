-- When a word writes a number below a limit, and when it does not.
use Rattle.std.proofs.Common.{◌≡◌, ℕ, ◌+◌, ◌-◌, ◌*◌, ◌<◌, ◌≤◌, Bool, true, false, cond, ◌&&◌, ◌||◌, not, eqb, ltb, List, length, take, get_or, refl, sym, ap, ap₂, ◌∙◌, arith, Some, None, Option}
use Rattle.std.proofs.lemmas.Bool.Decides.{nat_tests}
use Rattle.std.specs.List.{list_all}
use Rattle.std.specs.Char.{is_ascii_digit, digit_value}
use Rattle.std.specs.Str.Parse.{digits_value}
use Rattle.std.proofs.lemmas.Str.Parse.{digits_value-take-le}
use Rattle.std.proofs.lemmas.Int.Digits.{digits_value_more}
use Rattle.script_words.specs.Numbers.{is_numeral, number_below}

-- no leading zero, as a fact
plain_true : (first count : ℕ) → 0 < count → (first ≡ 48 → count ≤ 1) → (not (eqb first 48) || eqb count 1) ≡ true
plain_true first count some plain = grind (arith, nat_tests)

pub numeral_true : (word : List ℕ) → 0 < length word → (get_or word 0 0 ≡ 48 → length word ≤ 1) → list_all is_ascii_digit word ≡ true
    → is_numeral word ≡ true
numeral_true word some plain digits =
    ap₂ (λ a b. a && b) (ap₂ (λ a b. a && b) (let t : ltb 0 (length word) ≡ true = grind (arith, nat_tests) in t) digits)
    (plain_true (get_or word 0 0) (length word) some plain)

pub number_is : (limit : ℕ) (word : List ℕ) (value : ℕ) → is_numeral word ≡ true → value ≡ digits_value 10 word → value < limit
    → number_below limit word ≡ Some value
number_is limit word value numeral same below =
    let t : ltb (digits_value 10 word) limit ≡ true = grind (arith, nat_tests) in
    ap₂ (λ a b. cond (a && b) (Some (digits_value 10 word)) None) numeral t ∙ ap (λ n. Some n) (sym same)

large : (a b : Bool) (r : Option ℕ) → b ≡ false → cond (a && b) r None ≡ None
large true b r no_way = rw no_way
large false b r no_way = refl

pub number_too_large : (limit : ℕ) (word : List ℕ) → limit ≤ digits_value 10 word → number_below limit word ≡ None
number_too_large limit word above =
    let t : ltb (digits_value 10 word) limit ≡ false = grind (arith, nat_tests) in
    large (is_numeral word) (ltb (digits_value 10 word) limit) (Some (digits_value 10 word)) t

-- the number that one more digit makes
pub digit_more : (word : List ℕ) (i value : ℕ) → i < length word → value ≡ digits_value 10 (take i word) → is_ascii_digit (get_or word i 0) ≡ true
    → digits_value 10 (take (i + 1) word) ≡ value * 10 + (get_or word i 0 - 48)
digit_more word i value within so_far digit =
    digits_value_more 10 word i within
    ∙ ap₂ (λ a b. a * 10 + b) (sym so_far) (digit_is (get_or word i 0) digit)
  where
    digit_is : (c : ℕ) → is_ascii_digit c ≡ true → digit_value c ≡ c - 48
    digit_is c h = grind (arith, nat_tests)

-- a number that is past the limit before the word ends is past it
pub larger : (word : List ℕ) (i limit : ℕ) → limit ≤ digits_value 10 (take i word) → number_below limit word ≡ None
larger word i limit above =
    let upto = digits_value-take-le 10 word i (omega arith) in
    number_too_large limit word (omega (arith, upto))
