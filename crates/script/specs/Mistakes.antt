-- What is said of a line that means nothing: what is wrong with it, where, and what is wanted there.
use Rattle.std.specs.Prelude.{◌≡◌, ◌≢◌, ℕ, ◌+◌, ◌-◌, ◌<◌, ◌≤◌, Bool, true, false, ◌&&◌, ◌||◌, ◌==◌, not, nat_lt, nat_le, if◌then◌else◌, List, [], ◌∷◌, ◌++◌, length, take, drop, min, slice_index, slice_index_or, bytes_eq, codes, map, Some, None}
use Rattle.std.specs.Char.{is_ascii_digit}
use Rattle.std.specs.List.{list_all}
use Rattle.std.specs.Option.{is_some}
use Rattle.std.specs.Str.Parse.{digits_value}
use Rattle.uuid.specs.Text.{parsed}
use Rattle.script_words.specs.Keys.{behind, has_key, is_given}
use Rattle.script_words.specs.Layouts.{layout_named}
use Rattle.script_words.specs.Numbers.{words_of, is_numeral}
use Rattle.script_words.specs.Wishes.{wished_as}
use Rattle.script.specs.Grammar.{is_printable, inside_of, outside_of, limit_given}
use Rattle.script.specs.Tables.{all_verbs, verb_in, all_block_words, block_word_in, keys_of, key_name}
use Rattle.script.specs.declared.grammar.Meaning.{Meaning}
use Rattle.script.specs.declared.grammar.Meaning.TheVariants.{Bad}
use Rattle.script.specs.declared.mistakes.Mistake.{Mistake}
use Rattle.script.specs.declared.mistakes.Mistake.TheVariants.{BadByte, UnknownWord, WordElsewhere, TooMany, Missing, MissingKey, UnknownKey, TwiceKey, NotANumber, LeadingZero, OutOfRange, NotALimit, NotAUuid, NotALayout}
use Rattle.script.specs.declared.mistakes.Place.{Place}
use Rattle.script.specs.declared.mistakes.Place.TheVariants.{Outside, Block, Lane}
use Rattle.script.specs.declared.tables.Verb.TheVariants.{Read, Write, Flush, Fail}
use Rattle.script.specs.declared.tables.Key.{Key}
use Rattle.script.specs.declared.tables.Key.TheVariants.{LayoutWish}

-- what a line of these words means, inside a block or outside
abbrev pub words_meaning : Bool → List (List ℕ) → Meaning
words_meaning inside words = if inside then inside_of words else outside_of words

-- whether it means something
abbrev pub is_line : Meaning → Bool
is_line Bad = false
is_line meaning = true

-- some line begins with these words
abbrev pub Begins : Bool → List (List ℕ) → Type 0
Begins inside words = (more : List (List ℕ)) × (is_line (words_meaning inside (words ++ more)) ≡ true)

-- The bytes from a column on are those of the word behind the first few, less some at its front; at the line's end they are none.
pub record StandsAt (text : List ℕ) (before skip column width : ℕ) : Type 0 where
  pub start : ℕ
  pub words : words_of (drop start text) ≡ drop before (words_of text)
  pub column_is : column ≡ start + min skip (length (slice_index_or (words_of text) before []))
  pub bytes : take width (drop column text) ≡ drop skip (slice_index_or (words_of text) before [])
  pub within : column + width ≤ length text

-- a byte that no line has, and none before it
pub record IsBadByte (text : List ℕ) (column width byte : ℕ) : Type 0 where
  pub within : column < length text
  pub one : width ≡ 1
  pub byte_is : byte ≡ slice_index text column
  pub bad : (nat_le 32 byte && nat_le byte 126) ≡ false
  pub others : is_printable (take column text) ≡ true

-- a number from the least to the most
abbrev pub is_number_from : ℕ → ℕ → List ℕ → Bool
is_number_from least most word = is_numeral word && (nat_le least (digits_value 10 word) && nat_le (digits_value 10 word) most)

abbrev pub are_digits : List ℕ → Bool
are_digits word = nat_lt 0 (length word) && list_all is_ascii_digit word

-- a layout's name, as the key wants it
abbrev pub is_layout_of : Key → List ℕ → Bool
is_layout_of LayoutWish word = is_some (wished_as word)
is_layout_of key word = is_some (layout_named word)

-- the words that may begin what is asked in this place
abbrev pub is_word_of : Place → List ℕ → Bool
is_word_of Outside word = is_some (verb_in all_verbs word) || bytes_eq word (codes "together")
is_word_of Block word = bytes_eq word (codes "a:") || (bytes_eq word (codes "b:") || bytes_eq word (codes "end"))
is_word_of Lane word = is_some (verb_in (Read ∷ Write ∷ Flush ∷ Fail ∷ []) word)

-- a word that is known somewhere
abbrev pub is_known : List ℕ → Bool
is_known word = is_some (verb_in all_verbs word) || is_some (block_word_in all_block_words word)

-- What a mistake says of the word that is wrong, of the words before it, and of the lines that begin with these.
abbrev pub Says : (List (List ℕ) → Bool) → List (List ℕ) → List ℕ → Mistake → Type 0
Says is_whole before word (BadByte byte) = ⊥
Says is_whole before word (UnknownWord place) = is_known word ≡ false
Says is_whole before word (WordElsewhere place) = is_known word ≡ true
Says is_whole before word TooMany = is_whole before ≡ true
Says is_whole before word (Missing value) = Unit {0}
Says is_whole before word (MissingKey key) = (more : List (List ℕ)) → is_whole (before ++ more) ≡ true → is_given (key_name key) more ≡ true
Says is_whole before word (UnknownKey verb) = has_key (map key_name (keys_of verb)) word ≡ false
Says is_whole before word (TwiceKey key) = (is_some (behind (key_name key) word) && is_given (key_name key) before) ≡ true
Says is_whole before word (NotANumber least most) = are_digits word ≡ false
Says is_whole before word (LeadingZero least most) = (are_digits word && not (is_numeral word)) ≡ true
Says is_whole before word (OutOfRange least most) = (is_numeral word && not (is_number_from least most word)) ≡ true
Says is_whole before word NotALimit = limit_given word ≡ None
Says is_whole before word NotAUuid = parsed word ≡ None
Says is_whole before word (NotALayout key) = is_layout_of key word ≡ false

-- What a mistake says would do in that word's place.
abbrev pub would_do : Mistake → List ℕ → Bool
would_do (UnknownWord place) word = is_word_of place word
would_do (WordElsewhere place) word = is_word_of place word
would_do (NotANumber least most) word = is_number_from least most word
would_do (LeadingZero least most) word = is_number_from least most word
would_do (OutOfRange least most) word = is_number_from least most word
would_do NotALimit word = is_some (limit_given word)
would_do NotAUuid word = is_some (parsed word)
would_do (NotALayout key) word = is_layout_of key word
would_do mistake word = false

-- The line goes wrong behind its first few words: some line begins with these, but none that has the next word too; or there is no next one, and the line isn't whole.
pub record GoesWrong (inside : Bool) (words : List (List ℕ)) (before skip : ℕ) (mistake : Mistake) : Type 0 where
  pub few : before ≤ length words
  pub right : Begins inside (take before words)
  pub wrong : before < length words → Begins inside (take (before + 1) words) → ⊥
  pub lacks : before ≡ length words → is_line (words_meaning inside words) ≡ false
  pub says : Says (λ ws. is_line (words_meaning inside ws)) (take before words) (drop skip (slice_index_or words before [])) mistake
  pub wanted : (word : List ℕ) → would_do mistake word ≡ true → Begins inside (take before words ++ (take skip (slice_index_or words before []) ++ word) ∷ [])

abbrev pub IsDiagnosis : Bool → List ℕ → ℕ → ℕ → Mistake → Type 0
IsDiagnosis inside text column width (BadByte byte) = IsBadByte text column width byte
IsDiagnosis inside text column width mistake =
    (before : ℕ) × (skip : ℕ) × StandsAt text before skip column width × GoesWrong inside (words_of text) before skip mistake
