-- Words of the form key=value.
use Rattle.std.specs.Prelude.{ℕ, Bool, if◌then◌else◌, List, [], ◌∷◌, length, take, drop, bytes_eq, Option, Some, None}
use Rattle.std.specs.List.{filter_map, list_any}
use Rattle.std.specs.Option.{is_some, option_and_then}
use Rattle.script_words.specs.Numbers.{number_below}

-- what a word has behind this key, where it begins with it; a key ends with its `=`
abbrev pub behind : List ℕ → List ℕ → Option (List ℕ)
behind key word = if bytes_eq (take (length key) word) key then Some (drop (length key) word) else None

-- whether a word begins with one of these keys
abbrev pub has_key : List (List ℕ) → List ℕ → Bool
has_key keys word = list_any (λ key. is_some (behind key word)) keys

-- all values that the words give to a key
abbrev pub values_of : List ℕ → List (List ℕ) → List (List ℕ)
values_of key words = filter_map (behind key) words

-- the only value, or the default, if there is one, where there is no value
abbrev pub only_value : Option (List ℕ) → List (List ℕ) → Option (List ℕ)
only_value default [] = default
only_value default (value ∷ []) = Some value
only_value default values = None

-- what a line gives to a key, which stands once at most
abbrev pub given : List ℕ → Option (List ℕ) → List (List ℕ) → Option (List ℕ)
given key default words = only_value default (values_of key words)

-- whether a word gives something to this key
abbrev pub is_given : List ℕ → List (List ℕ) → Bool
is_given key words = list_any (λ word. is_some (behind key word)) words

-- the number below a limit that a line gives to a key, which stands once at most
abbrev pub given_number : ℕ → List ℕ → Option (List ℕ) → List (List ℕ) → Option ℕ
given_number limit key default words = option_and_then (number_below limit) (given key default words)
