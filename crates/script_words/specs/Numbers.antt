-- Numbers and words of a line.
use Rattle.std.specs.Prelude.{ℕ, Bool, ◌&&◌, ◌||◌, not, ◌==◌, nat_lt, if◌then◌else◌, List, length, filter, slice_index, Option, Some, None}
use Rattle.std.specs.Char.{is_ascii_digit}
use Rattle.std.specs.List.{list_all, slice_split}
use Rattle.std.specs.Str.Parse.{digits_value}

abbrev pub is_space : ℕ → Bool
is_space b = b == 32

-- the words of a line: what stands between spaces
abbrev pub words_of : List ℕ → List (List ℕ)
words_of line = filter (λ word. nat_lt 0 (length word)) (slice_split is_space line)

-- decimal digits without a leading zero, except 0 itself
abbrev pub is_numeral : List ℕ → Bool
is_numeral word =
    nat_lt 0 (length word) && list_all is_ascii_digit word && (not (slice_index word 0 == 48) || (length word == 1))

-- the number below this limit that a word writes, if it does
abbrev pub number_below : ℕ → List ℕ → Option ℕ
number_below limit word =
    if is_numeral word && nat_lt (digits_value 10 word) limit then Some (digits_value 10 word) else None
