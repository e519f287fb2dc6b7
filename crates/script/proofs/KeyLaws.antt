-- Keys in any order, taken from left to right, give what the grammar names.
use Rattle.std.proofs.Common.{◌≡◌, ℕ, ◌+◌, ◌-◌, ◌^◌, Bool, true, false, ◌&&◌, ◌||◌, not, cond, eqb, List, [], ◌∷◌, length, take, drop, Option, Some, None, Result, Ok, Err, refl, sym, ap, ap₂, ◌∙◌, arith, true≢false, codes, filter}
use Rattle.std.specs.Str.{bytes_eq}
use Rattle.std.specs.Option.{option_and_then, option_map, is_some, unwrap_or}
use Rattle.std.specs.Result.{result_ok}
use Rattle.std.specs.List.{list_all, list_any, filter_map, cons_option}
use Rattle.history.specs.raid_types_Search.{least_below}
use Rattle.history.specs.raid_types_the_Shape.{Shape}
use Rattle.script_words.specs.raid_types_the_WishedLayout.{WishedLayout}
use Rattle.script_words.specs.raid_types_the_WishedLayout_TheVariants.{Named, Preserve, Normalise}
use Rattle.script_words.specs.Keys.{behind, has_key, values_of, only_value, given, given_number, is_given}
use Rattle.script_words.specs.Numbers.{number_below}
use Rattle.script_words.specs.Layouts.{layout_named}
use Rattle.script_words.specs.Shapes.{shape_from, shape_of}
use Rattle.script_words.specs.Wishes.{wish_from, wish_of, wish_keys, wished_as, wished_number, wished_layout}
use Rattle.script.specs.Grammar.{array_from, create_keys, create_of, array_of, grow_of}
use Rattle.script.specs.Tables.{keys_of, key_name, key_in}
use Rattle.script.specs.Reading.{goes_on, wrong_at, wrongly, judge_number, small, judge_layout, judge_wish, or_mistake, has_given, give, take_by, take_key, read_keys, create_line, wish_line, nothing_given}
use Rattle.script.specs.declared.keyed.Given.{Given}
use Rattle.script.specs.declared.lines.Line.{Line}
use Rattle.script.specs.declared.lines.Line.TheVariants.{Grow}
use Rattle.script.specs.declared.mistakes.Mistake.{Mistake}
use Rattle.script.specs.declared.mistakes.Mistake.TheVariants.{TwiceKey, UnknownKey, NotALayout}
use Rattle.script.specs.declared.mistakes.Wrong.{Wrong}
use Rattle.script.specs.declared.tables.Verb.TheVariants.{Create as ToCreate, Grow as ToGrow}
use Rattle.script.specs.declared.tables.Key.{Key}
use Rattle.script.specs.declared.tables.Key.TheVariants.{Level, Disks, Chunk, Layout, LayoutWish, Size, Offset}
use Rattle.script.proofs.NumberLaws.{number_means}
use Rattle.std.proofs.lemmas.Bool.Decides.{nat_tests}

-- ---- no word begins with two keys

abbrev differ : List ℕ → List ℕ → Bool
differ [] b = false
differ (x ∷ a) [] = false
differ (x ∷ a) (y ∷ b) = not (eqb x y) || differ a b

-- what a word has behind this key
abbrev begins : List ℕ → List ℕ → Bool
begins key word = bytes_eq (take (length key) word) key

and_left : (a b : Bool) → (a && b) ≡ true → a ≡ true
and_left true b h = refl
and_left false b h = h

and_right : (a b : Bool) → (a && b) ≡ true → b ≡ true
and_right true b h = h
and_right false b h = absurd (true≢false (sym h))

and_false : (a : Bool) → (a && false) ≡ false
and_false true = refl
and_false false = refl

pub apart : (a b word : List ℕ) → differ a b ≡ true → begins a word ≡ true → begins b word ≡ false
apart [] b word other first = absurd (true≢false (sym other))
apart (x ∷ a) [] word other first = absurd (true≢false (sym other))
apart (x ∷ a) (y ∷ b) [] other first = absurd (true≢false (sym first))
apart (x ∷ a) (y ∷ b) (z ∷ word) other first = by_bytes (eqb x y) refl (and_left (eqb z x) (begins a word) first) (λ later. apart a b word later (and_right (eqb z x) (begins a word) first))
  where
    by_bytes : (t : Bool) → eqb x y ≡ t → eqb z x ≡ true → (differ a b ≡ true → begins b word ≡ false) → (eqb z y && begins b word) ≡ false
    by_bytes true same here again =
        let later : differ a b ≡ true = ap (λ t. not t || differ a b) (sym same) ∙ other in
        ap (λ t. eqb z y && t) (again later) ∙ and_false (eqb z y)
    by_bytes false unlike here again = ap (λ t. t && begins b word) (let e : eqb z y ≡ false = grind (arith, nat_tests) in e)

-- ---- what a key's slot and the values that follow make of it

abbrev pub resumed : {A : Type 0} → (List ℕ → Option A) → Option A → Option A → List (List ℕ) → Option A
resumed read (Some x) default [] = Some x
resumed read (Some x) default (value ∷ values) = None
resumed read None default [] = default
resumed read None default (value ∷ []) = read value
resumed read None default (value ∷ other ∷ values) = None

resumed-bad : {A : Type 0} (read : List ℕ → Option A) (default : Option A) (value : List ℕ) (values : List (List ℕ))
    → read value ≡ None → resumed read None default (value ∷ values) ≡ None
resumed-bad read default value [] bad = bad
resumed-bad read default value (other ∷ values) bad = refl

resumed-good : {A : Type 0} (read : List ℕ → Option A) (default : Option A) (value : List ℕ) (values : List (List ℕ)) (x : A)
    → read value ≡ Some x → resumed read None default (value ∷ values) ≡ resumed read (Some x) default values
resumed-good read default value [] x good = good
resumed-good read default value (other ∷ values) x good = refl

resumed-only : (limit : ℕ) (default : Option (List ℕ)) (values : List (List ℕ))
    → resumed (number_below limit) None (option_and_then (number_below limit) default) values ≡ option_and_then (number_below limit) (only_value default values)
resumed-only limit default [] = refl
resumed-only limit default (value ∷ []) = refl
resumed-only limit default (value ∷ other ∷ values) = refl

resumed-layout : (default : Option (List ℕ)) (values : List (List ℕ))
    → resumed layout_named None (option_and_then layout_named default) values ≡ option_and_then layout_named (only_value default values)
resumed-layout default [] = refl
resumed-layout default (value ∷ []) = refl
resumed-layout default (value ∷ other ∷ values) = refl

default_layout : layout_named (codes "left-symmetric") ≡ Some 2
unfolding least_below
default_layout = refl

-- ---- an array of keys

abbrev pub array_by : List ℕ → Option ℕ → Option ℕ → Option ℕ → Option ℕ → Option ℕ → Option ℕ → Option Line
array_by uuid level disks chunk layout size offset = array_from (Some uuid) (shape_from level disks chunk layout) size offset

pub no_disks : (uuid : List ℕ) (l c y s o : Option ℕ) → array_by uuid l None c y s o ≡ None
no_disks uuid None c y s o = refl
no_disks uuid (Some l) c y s o = refl

no_chunk : (uuid : List ℕ) (l d y s o : Option ℕ) → array_by uuid l d None y s o ≡ None
no_chunk uuid None d y s o = refl
no_chunk uuid (Some l) None y s o = refl
no_chunk uuid (Some l) (Some d) y s o = refl

no_layout : (uuid : List ℕ) (l d c s o : Option ℕ) → array_by uuid l d c None s o ≡ None
no_layout uuid None d c s o = refl
no_layout uuid (Some l) None c s o = refl
no_layout uuid (Some l) (Some d) None s o = refl
no_layout uuid (Some l) (Some d) (Some c) s o = refl

pub no_size : (uuid : List ℕ) (shape : Option Shape) (o : Option ℕ) → array_from (Some uuid) shape None o ≡ None
no_size uuid None o = refl
no_size uuid (Some shape) o = refl

no_offset : (uuid : List ℕ) (shape : Option Shape) (s : Option ℕ) → array_from (Some uuid) shape s None ≡ None
no_offset uuid None s = refl
no_offset uuid (Some shape) None = refl
no_offset uuid (Some shape) (Some s) = refl

-- with the values that follow for each key
abbrev pub array_resumed : List ℕ → Given → List (List ℕ) → List (List ℕ) → List (List ℕ) → List (List ℕ) → List (List ℕ) → List (List ℕ) → Option Line
array_resumed uuid given level disks chunk layout size offset =
    array_by uuid (resumed (number_below (2 ^ 32)) given.level None level) (resumed (number_below (2 ^ 32)) given.disks None disks)
    (resumed (number_below (2 ^ 32)) given.chunk (Some 1024) chunk) (resumed layout_named given.layout (Some 2) layout)
    (resumed (number_below (2 ^ 64)) given.size None size) (resumed (number_below (2 ^ 64)) given.offset (Some 2048) offset)

array_at_end : (uuid : List ℕ) (l d c y s o : Option ℕ) (w : Option WishedLayout) (words : List (List ℕ))
    → result_ok (wrongly words 0 (create_line uuid (record { level = l; disks = d; chunk = c; layout = y; layout_wish = w; size = s; offset = o })))
    ≡ array_resumed uuid (record { level = l; disks = d; chunk = c; layout = y; layout_wish = w; size = s; offset = o }) [] [] [] [] [] []
array_at_end uuid None d c y s o w words = refl
array_at_end uuid (Some l) None c y s o w words = refl
array_at_end uuid (Some l) (Some d) None None None o w words = refl
array_at_end uuid (Some l) (Some d) None (Some y) None o w words = refl
array_at_end uuid (Some l) (Some d) (Some c) None None o w words = refl
array_at_end uuid (Some l) (Some d) (Some c) (Some y) None o w words = refl
array_at_end uuid (Some l) (Some d) None None (Some s) None w words = refl
array_at_end uuid (Some l) (Some d) None (Some y) (Some s) None w words = refl
array_at_end uuid (Some l) (Some d) (Some c) None (Some s) None w words = refl
array_at_end uuid (Some l) (Some d) (Some c) (Some y) (Some s) None w words = refl
array_at_end uuid (Some l) (Some d) None None (Some s) (Some o) w words = refl
array_at_end uuid (Some l) (Some d) None (Some y) (Some s) (Some o) w words = refl
array_at_end uuid (Some l) (Some d) (Some c) None (Some s) (Some o) w words = refl
array_at_end uuid (Some l) (Some d) (Some c) (Some y) (Some s) (Some o) w words = refl

-- ---- one word more

is_some_cut : (b : Bool) (value : List ℕ) → is_some (cond b (Some value) None) ≡ b
is_some_cut true value = refl
is_some_cut false value = refl

pub begins_with : (key word : List ℕ) → is_some (behind key word) ≡ begins key word
begins_with key word = is_some_cut (begins key word) (drop (length key) word)

pub not_later : (a b word : List ℕ) → differ a b ≡ true → is_some (behind a word) ≡ true → is_some (behind b word) ≡ false
not_later a b word other first = begins_with b word ∙ apart a b word other (sym (begins_with a word) ∙ first)

pub behind_some : (key word : List ℕ) → is_some (behind key word) ≡ true → behind key word ≡ Some (drop (length key) word)
behind_some key word some = ap (λ b. cond b (Some (drop (length key) word)) None) (sym (begins_with key word) ∙ some)

pub behind_none : (key word : List ℕ) → is_some (behind key word) ≡ false → behind key word ≡ None
behind_none key word none = ap (λ b. cond b (Some (drop (length key) word)) None) (sym (begins_with key word) ∙ none)

pub values-some : (key word : List ℕ) (words : List (List ℕ)) → is_some (behind key word) ≡ true
    → values_of key (word ∷ words) ≡ drop (length key) word ∷ values_of key words
values-some key word words some = ap (λ o. cons_option o (values_of key words)) (behind_some key word some)

pub values-none : (key word : List ℕ) (words : List (List ℕ)) → is_some (behind key word) ≡ false → values_of key (word ∷ words) ≡ values_of key words
values-none key word words none = ap (λ o. cons_option o (values_of key words)) (behind_none key word none)

goes_on-goes_on : {A B C E : Type 0} (r : Result A E) (f : A → Result B E) (g : B → Result C E)
    → goes_on (goes_on r f) g ≡ goes_on r (λ x. goes_on (f x) g)
goes_on-goes_on (Ok x) f g = refl
goes_on-goes_on (Err e) f g = refl

none_either : {A : Type 0} (all : Bool) → let none : Option A = None in cond all none none ≡ none
none_either true = refl
none_either false = refl

-- A key's value, once and read, goes into its slot; else there is no line.
module _ {A : Type 0} (judge : List ℕ → Result A Mistake) (out : Option A → List (List ℕ) → Option Line)
    (twice : (x : A) (value : List ℕ) (values : List (List ℕ)) → out (Some x) (value ∷ values) ≡ None)
    (bad : (value : List ℕ) (values : List (List ℕ)) → result_ok (judge value) ≡ None → out None (value ∷ values) ≡ None)
    (good : (x : A) (value : List ℕ) (values : List (List ℕ)) → result_ok (judge value) ≡ Some x → out None (value ∷ values) ≡ out (Some x) values)
    (set : A → Given) (key : Key) (words : List (List ℕ)) (skip : ℕ) (value : List ℕ) (values : List (List ℕ)) (all : Bool) (next : Given → Result Line Wrong)
    (later : (x : A) → result_ok (next (set x)) ≡ cond all (out (Some x) values) None) where
  by_value : (r : Result A Mistake) → judge value ≡ r
      → result_ok (goes_on (wrongly words skip (goes_on r (λ x. Ok (set x)))) next) ≡ cond all (out None (value ∷ values)) None
  by_value (Ok x) e = later x ∙ ap (λ o. cond all o None) (sym (good x value values (ap result_ok e)))
  by_value (Err mistake) e = sym (ap (λ o. cond all o None) (bad value values (ap result_ok e)) ∙ none_either all)

  pub slot_takes : (slot : Option A)
      → result_ok (goes_on (cond (is_some slot) (Err (wrong_at words 0 (TwiceKey key))) (wrongly words skip (goes_on (judge value) (λ x. Ok (set x))))) next)
      ≡ cond all (out slot (value ∷ values)) None
  slot_takes (Some x) = sym (ap (λ o. cond all o None) (twice x value values) ∙ none_either all)
  slot_takes None = by_value (judge value) refl

small_means : (word : List ℕ) → result_ok (small word) ≡ number_below (2 ^ 32) word
small_means word = number_means (2 ^ 32 - 1) (2 ^ 32) refl word

large_means : (word : List ℕ) → result_ok (judge_number 0 (2 ^ 64 - 1) word) ≡ number_below (2 ^ 64) word
large_means word = number_means (2 ^ 64 - 1) (2 ^ 64) refl word

or_mistake_means : {A : Type 0} (mistake : Mistake) (o : Option A) → result_ok (or_mistake mistake o) ≡ o
or_mistake_means mistake None = refl
or_mistake_means mistake (Some x) = refl

pub layout_means : (word : List ℕ) → result_ok (judge_layout word) ≡ layout_named word
layout_means word = or_mistake_means (NotALayout Layout) (layout_named word)

module _ {A : Type 0} (judge : List ℕ → Result A Mistake) (read : List ℕ → Option A) (same : (value : List ℕ) → result_ok (judge value) ≡ read value)
    (default : Option A) (hole : Option A → Option Line) (hole_none : hole None ≡ None)
    (set : A → Given) (key : Key) (words : List (List ℕ)) (skip : ℕ) (value : List ℕ) (values : List (List ℕ)) (all : Bool) (next : Given → Result Line Wrong)
    (later : (x : A) → result_ok (next (set x)) ≡ cond all (hole (resumed read (Some x) default values)) None) where
  pub slot_fills : (slot : Option A)
      → result_ok (goes_on (cond (is_some slot) (Err (wrong_at words 0 (TwiceKey key))) (wrongly words skip (goes_on (judge value) (λ x. Ok (set x))))) next)
      ≡ cond all (hole (resumed read slot default (value ∷ values))) None
  slot_fills slot =
      slot_takes judge (λ slot values. hole (resumed read slot default values))
      (λ x value values. hole_none)
      (λ value values none. ap hole (resumed-bad read default value values (sym (same value) ∙ none)) ∙ hole_none)
      (λ x value values some. ap hole (resumed-good read default value values x (sym (same value) ∙ some)))
      set key words skip value values all next later slot

abbrev pub array_of_rest : List ℕ → Given → List (List ℕ) → Option Line
array_of_rest uuid given words =
    array_resumed uuid given (values_of (codes "level=") words) (values_of (codes "disks=") words) (values_of (codes "chunk=") words)
    (values_of (codes "layout=") words) (values_of (codes "size=") words) (values_of (codes "offset=") words)

abbrev pub finished : List ℕ → Given → Result Line Wrong
finished uuid given = wrongly [] 0 (create_line uuid given)

module _ (uuid : List ℕ) (word : List ℕ) (words : List (List ℕ)) (g : Given)
    (later : (given : Given) → result_ok (goes_on (read_keys ToCreate given words) (finished uuid)) ≡ cond (list_all (has_key create_keys) words) (array_of_rest uuid given words) None) where
  abbrev all : Bool
  all = list_all (has_key create_keys) words

  abbrev next : Given → Result Line Wrong
  next given = goes_on (read_keys ToCreate given words) (finished uuid)

  abbrev starts : List ℕ → Bool
  starts key = is_some (behind key word)

  abbrev read_on : Option Key → Option Line
  read_on key = result_ok (goes_on (take_by g ToCreate word (word ∷ words) key) next)

  rest_is : (vl vd vc vy vs vo : List (List ℕ)) → has_key create_keys word ≡ true
      → values_of (codes "level=") (word ∷ words) ≡ vl → values_of (codes "disks=") (word ∷ words) ≡ vd → values_of (codes "chunk=") (word ∷ words) ≡ vc
      → values_of (codes "layout=") (word ∷ words) ≡ vy → values_of (codes "size=") (word ∷ words) ≡ vs → values_of (codes "offset=") (word ∷ words) ≡ vo
      → cond all (array_resumed uuid g vl vd vc vy vs vo) None ≡ cond (has_key create_keys word && all) (array_of_rest uuid g (word ∷ words)) None
  rest_is vl vd vc vy vs vo has el ed ec ey es eo = sym
      (ap (λ h. cond (h && all) (array_of_rest uuid g (word ∷ words)) None) has
      ∙ ap (λ v. cond all (array_resumed uuid g v (values_of (codes "disks=") (word ∷ words)) (values_of (codes "chunk=") (word ∷ words)) (values_of (codes "layout=") (word ∷ words)) (values_of (codes "size=") (word ∷ words)) (values_of (codes "offset=") (word ∷ words))) None) el
      ∙ ap (λ v. cond all (array_resumed uuid g vl v (values_of (codes "chunk=") (word ∷ words)) (values_of (codes "layout=") (word ∷ words)) (values_of (codes "size=") (word ∷ words)) (values_of (codes "offset=") (word ∷ words))) None) ed
      ∙ ap (λ v. cond all (array_resumed uuid g vl vd v (values_of (codes "layout=") (word ∷ words)) (values_of (codes "size=") (word ∷ words)) (values_of (codes "offset=") (word ∷ words))) None) ec
      ∙ ap (λ v. cond all (array_resumed uuid g vl vd vc v (values_of (codes "size=") (word ∷ words)) (values_of (codes "offset=") (word ∷ words))) None) ey
      ∙ ap (λ v. cond all (array_resumed uuid g vl vd vc vy v (values_of (codes "offset=") (word ∷ words))) None) es
      ∙ ap (λ v. cond all (array_resumed uuid g vl vd vc vy vs v) None) eo)

  by_level : starts (codes "level=") ≡ true → has_key create_keys word ≡ true → read_on (Some Level) ≡ cond (has_key create_keys word && all) (array_of_rest uuid g (word ∷ words)) None
  by_level e has =
      slot_fills small (number_below (2 ^ 32)) small_means None (λ o. array_by uuid o (resumed (number_below (2 ^ 32)) g.disks None (values_of (codes "disks=") words)) (resumed (number_below (2 ^ 32)) g.chunk (Some 1024) (values_of (codes "chunk=") words)) (resumed layout_named g.layout (Some 2) (values_of (codes "layout=") words)) (resumed (number_below (2 ^ 64)) g.size None (values_of (codes "size=") words)) (resumed (number_below (2 ^ 64)) g.offset (Some 2048) (values_of (codes "offset=") words)))
      (refl)
      (λ x. record g { level = Some x }) Level (word ∷ words) (length (codes "level=")) (drop (length (codes "level=")) word) (values_of (codes "level=") words) all next
      (λ x. later (record g { level = Some x })) g.level
      ∙ rest_is (drop (length (codes "level=")) word ∷ values_of (codes "level=") words) (values_of (codes "disks=") words) (values_of (codes "chunk=") words) (values_of (codes "layout=") words) (values_of (codes "size=") words) (values_of (codes "offset=") words) has
      (values-some (codes "level=") word words e)
      (values-none (codes "disks=") word words (not_later (codes "level=") (codes "disks=") word refl e))
      (values-none (codes "chunk=") word words (not_later (codes "level=") (codes "chunk=") word refl e))
      (values-none (codes "layout=") word words (not_later (codes "level=") (codes "layout=") word refl e))
      (values-none (codes "size=") word words (not_later (codes "level=") (codes "size=") word refl e))
      (values-none (codes "offset=") word words (not_later (codes "level=") (codes "offset=") word refl e))

  by_disks : starts (codes "disks=") ≡ true → has_key create_keys word ≡ true → read_on (Some Disks) ≡ cond (has_key create_keys word && all) (array_of_rest uuid g (word ∷ words)) None
  by_disks e has =
      slot_fills small (number_below (2 ^ 32)) small_means None (λ o. array_by uuid (resumed (number_below (2 ^ 32)) g.level None (values_of (codes "level=") words)) o (resumed (number_below (2 ^ 32)) g.chunk (Some 1024) (values_of (codes "chunk=") words)) (resumed layout_named g.layout (Some 2) (values_of (codes "layout=") words)) (resumed (number_below (2 ^ 64)) g.size None (values_of (codes "size=") words)) (resumed (number_below (2 ^ 64)) g.offset (Some 2048) (values_of (codes "offset=") words)))
      (no_disks uuid (resumed (number_below (2 ^ 32)) g.level None (values_of (codes "level=") words)) (resumed (number_below (2 ^ 32)) g.chunk (Some 1024) (values_of (codes "chunk=") words)) (resumed layout_named g.layout (Some 2) (values_of (codes "layout=") words)) (resumed (number_below (2 ^ 64)) g.size None (values_of (codes "size=") words)) (resumed (number_below (2 ^ 64)) g.offset (Some 2048) (values_of (codes "offset=") words)))
      (λ x. record g { disks = Some x }) Disks (word ∷ words) (length (codes "disks=")) (drop (length (codes "disks=")) word) (values_of (codes "disks=") words) all next
      (λ x. later (record g { disks = Some x })) g.disks
      ∙ rest_is (values_of (codes "level=") words) (drop (length (codes "disks=")) word ∷ values_of (codes "disks=") words) (values_of (codes "chunk=") words) (values_of (codes "layout=") words) (values_of (codes "size=") words) (values_of (codes "offset=") words) has
      (values-none (codes "level=") word words (not_later (codes "disks=") (codes "level=") word refl e))
      (values-some (codes "disks=") word words e)
      (values-none (codes "chunk=") word words (not_later (codes "disks=") (codes "chunk=") word refl e))
      (values-none (codes "layout=") word words (not_later (codes "disks=") (codes "layout=") word refl e))
      (values-none (codes "size=") word words (not_later (codes "disks=") (codes "size=") word refl e))
      (values-none (codes "offset=") word words (not_later (codes "disks=") (codes "offset=") word refl e))

  by_chunk : starts (codes "chunk=") ≡ true → has_key create_keys word ≡ true → read_on (Some Chunk) ≡ cond (has_key create_keys word && all) (array_of_rest uuid g (word ∷ words)) None
  by_chunk e has =
      slot_fills small (number_below (2 ^ 32)) small_means (Some 1024) (λ o. array_by uuid (resumed (number_below (2 ^ 32)) g.level None (values_of (codes "level=") words)) (resumed (number_below (2 ^ 32)) g.disks None (values_of (codes "disks=") words)) o (resumed layout_named g.layout (Some 2) (values_of (codes "layout=") words)) (resumed (number_below (2 ^ 64)) g.size None (values_of (codes "size=") words)) (resumed (number_below (2 ^ 64)) g.offset (Some 2048) (values_of (codes "offset=") words)))
      (no_chunk uuid (resumed (number_below (2 ^ 32)) g.level None (values_of (codes "level=") words)) (resumed (number_below (2 ^ 32)) g.disks None (values_of (codes "disks=") words)) (resumed layout_named g.layout (Some 2) (values_of (codes "layout=") words)) (resumed (number_below (2 ^ 64)) g.size None (values_of (codes "size=") words)) (resumed (number_below (2 ^ 64)) g.offset (Some 2048) (values_of (codes "offset=") words)))
      (λ x. record g { chunk = Some x }) Chunk (word ∷ words) (length (codes "chunk=")) (drop (length (codes "chunk=")) word) (values_of (codes "chunk=") words) all next
      (λ x. later (record g { chunk = Some x })) g.chunk
      ∙ rest_is (values_of (codes "level=") words) (values_of (codes "disks=") words) (drop (length (codes "chunk=")) word ∷ values_of (codes "chunk=") words) (values_of (codes "layout=") words) (values_of (codes "size=") words) (values_of (codes "offset=") words) has
      (values-none (codes "level=") word words (not_later (codes "chunk=") (codes "level=") word refl e))
      (values-none (codes "disks=") word words (not_later (codes "chunk=") (codes "disks=") word refl e))
      (values-some (codes "chunk=") word words e)
      (values-none (codes "layout=") word words (not_later (codes "chunk=") (codes "layout=") word refl e))
      (values-none (codes "size=") word words (not_later (codes "chunk=") (codes "size=") word refl e))
      (values-none (codes "offset=") word words (not_later (codes "chunk=") (codes "offset=") word refl e))

  by_layout : starts (codes "layout=") ≡ true → has_key create_keys word ≡ true → read_on (Some Layout) ≡ cond (has_key create_keys word && all) (array_of_rest uuid g (word ∷ words)) None
  by_layout e has =
      slot_fills judge_layout layout_named layout_means (Some 2) (λ o. array_by uuid (resumed (number_below (2 ^ 32)) g.level None (values_of (codes "level=") words)) (resumed (number_below (2 ^ 32)) g.disks None (values_of (codes "disks=") words)) (resumed (number_below (2 ^ 32)) g.chunk (Some 1024) (values_of (codes "chunk=") words)) o (resumed (number_below (2 ^ 64)) g.size None (values_of (codes "size=") words)) (resumed (number_below (2 ^ 64)) g.offset (Some 2048) (values_of (codes "offset=") words)))
      (no_layout uuid (resumed (number_below (2 ^ 32)) g.level None (values_of (codes "level=") words)) (resumed (number_below (2 ^ 32)) g.disks None (values_of (codes "disks=") words)) (resumed (number_below (2 ^ 32)) g.chunk (Some 1024) (values_of (codes "chunk=") words)) (resumed (number_below (2 ^ 64)) g.size None (values_of (codes "size=") words)) (resumed (number_below (2 ^ 64)) g.offset (Some 2048) (values_of (codes "offset=") words)))
      (λ x. record g { layout = Some x }) Layout (word ∷ words) (length (codes "layout=")) (drop (length (codes "layout=")) word) (values_of (codes "layout=") words) all next
      (λ x. later (record g { layout = Some x })) g.layout
      ∙ rest_is (values_of (codes "level=") words) (values_of (codes "disks=") words) (values_of (codes "chunk=") words) (drop (length (codes "layout=")) word ∷ values_of (codes "layout=") words) (values_of (codes "size=") words) (values_of (codes "offset=") words) has
      (values-none (codes "level=") word words (not_later (codes "layout=") (codes "level=") word refl e))
      (values-none (codes "disks=") word words (not_later (codes "layout=") (codes "disks=") word refl e))
      (values-none (codes "chunk=") word words (not_later (codes "layout=") (codes "chunk=") word refl e))
      (values-some (codes "layout=") word words e)
      (values-none (codes "size=") word words (not_later (codes "layout=") (codes "size=") word refl e))
      (values-none (codes "offset=") word words (not_later (codes "layout=") (codes "offset=") word refl e))

  by_size : starts (codes "size=") ≡ true → has_key create_keys word ≡ true → read_on (Some Size) ≡ cond (has_key create_keys word && all) (array_of_rest uuid g (word ∷ words)) None
  by_size e has =
      slot_fills (judge_number 0 (2 ^ 64 - 1)) (number_below (2 ^ 64)) large_means None (λ o. array_by uuid (resumed (number_below (2 ^ 32)) g.level None (values_of (codes "level=") words)) (resumed (number_below (2 ^ 32)) g.disks None (values_of (codes "disks=") words)) (resumed (number_below (2 ^ 32)) g.chunk (Some 1024) (values_of (codes "chunk=") words)) (resumed layout_named g.layout (Some 2) (values_of (codes "layout=") words)) o (resumed (number_below (2 ^ 64)) g.offset (Some 2048) (values_of (codes "offset=") words)))
      (no_size uuid (shape_from (resumed (number_below (2 ^ 32)) g.level None (values_of (codes "level=") words)) (resumed (number_below (2 ^ 32)) g.disks None (values_of (codes "disks=") words)) (resumed (number_below (2 ^ 32)) g.chunk (Some 1024) (values_of (codes "chunk=") words)) (resumed layout_named g.layout (Some 2) (values_of (codes "layout=") words))) (resumed (number_below (2 ^ 64)) g.offset (Some 2048) (values_of (codes "offset=") words)))
      (λ x. record g { size = Some x }) Size (word ∷ words) (length (codes "size=")) (drop (length (codes "size=")) word) (values_of (codes "size=") words) all next
      (λ x. later (record g { size = Some x })) g.size
      ∙ rest_is (values_of (codes "level=") words) (values_of (codes "disks=") words) (values_of (codes "chunk=") words) (values_of (codes "layout=") words) (drop (length (codes "size=")) word ∷ values_of (codes "size=") words) (values_of (codes "offset=") words) has
      (values-none (codes "level=") word words (not_later (codes "size=") (codes "level=") word refl e))
      (values-none (codes "disks=") word words (not_later (codes "size=") (codes "disks=") word refl e))
      (values-none (codes "chunk=") word words (not_later (codes "size=") (codes "chunk=") word refl e))
      (values-none (codes "layout=") word words (not_later (codes "size=") (codes "layout=") word refl e))
      (values-some (codes "size=") word words e)
      (values-none (codes "offset=") word words (not_later (codes "size=") (codes "offset=") word refl e))

  by_offset : starts (codes "offset=") ≡ true → has_key create_keys word ≡ true → read_on (Some Offset) ≡ cond (has_key create_keys word && all) (array_of_rest uuid g (word ∷ words)) None
  by_offset e has =
      slot_fills (judge_number 0 (2 ^ 64 - 1)) (number_below (2 ^ 64)) large_means (Some 2048) (λ o. array_by uuid (resumed (number_below (2 ^ 32)) g.level None (values_of (codes "level=") words)) (resumed (number_below (2 ^ 32)) g.disks None (values_of (codes "disks=") words)) (resumed (number_below (2 ^ 32)) g.chunk (Some 1024) (values_of (codes "chunk=") words)) (resumed layout_named g.layout (Some 2) (values_of (codes "layout=") words)) (resumed (number_below (2 ^ 64)) g.size None (values_of (codes "size=") words)) o)
      (no_offset uuid (shape_from (resumed (number_below (2 ^ 32)) g.level None (values_of (codes "level=") words)) (resumed (number_below (2 ^ 32)) g.disks None (values_of (codes "disks=") words)) (resumed (number_below (2 ^ 32)) g.chunk (Some 1024) (values_of (codes "chunk=") words)) (resumed layout_named g.layout (Some 2) (values_of (codes "layout=") words))) (resumed (number_below (2 ^ 64)) g.size None (values_of (codes "size=") words)))
      (λ x. record g { offset = Some x }) Offset (word ∷ words) (length (codes "offset=")) (drop (length (codes "offset=")) word) (values_of (codes "offset=") words) all next
      (λ x. later (record g { offset = Some x })) g.offset
      ∙ rest_is (values_of (codes "level=") words) (values_of (codes "disks=") words) (values_of (codes "chunk=") words) (values_of (codes "layout=") words) (values_of (codes "size=") words) (drop (length (codes "offset=")) word ∷ values_of (codes "offset=") words) has
      (values-none (codes "level=") word words (not_later (codes "offset=") (codes "level=") word refl e))
      (values-none (codes "disks=") word words (not_later (codes "offset=") (codes "disks=") word refl e))
      (values-none (codes "chunk=") word words (not_later (codes "offset=") (codes "chunk=") word refl e))
      (values-none (codes "layout=") word words (not_later (codes "offset=") (codes "layout=") word refl e))
      (values-none (codes "size=") word words (not_later (codes "offset=") (codes "size=") word refl e))
      (values-some (codes "offset=") word words e)

  -- by the key with which the word begins, if it is one
  by_key : (level disks chunk layout size offset : Bool) → starts (codes "level=") ≡ level → starts (codes "disks=") ≡ disks → starts (codes "chunk=") ≡ chunk
      → starts (codes "layout=") ≡ layout → starts (codes "size=") ≡ size → starts (codes "offset=") ≡ offset
      → read_on (key_in (keys_of ToCreate) word) ≡ cond (has_key create_keys word && all) (array_of_rest uuid g (word ∷ words)) None
  by_key true b1 b2 b3 b4 b5 e0 e1 e2 e3 e4 e5 =
      let found : key_in (keys_of ToCreate) word ≡ Some Level = rw (e0) refl in
      let has : has_key create_keys word ≡ true = rw (e0) refl in
      ap read_on found ∙ by_level e0 has
  by_key false true b2 b3 b4 b5 e0 e1 e2 e3 e4 e5 =
      let found : key_in (keys_of ToCreate) word ≡ Some Disks = rw (e0, e1) refl in
      let has : has_key create_keys word ≡ true = rw (e0, e1) refl in
      ap read_on found ∙ by_disks e1 has
  by_key false false true b3 b4 b5 e0 e1 e2 e3 e4 e5 =
      let found : key_in (keys_of ToCreate) word ≡ Some Chunk = rw (e0, e1, e2) refl in
      let has : has_key create_keys word ≡ true = rw (e0, e1, e2) refl in
      ap read_on found ∙ by_chunk e2 has
  by_key false false false true b4 b5 e0 e1 e2 e3 e4 e5 =
      let found : key_in (keys_of ToCreate) word ≡ Some Layout = rw (e0, e1, e2, e3) refl in
      let has : has_key create_keys word ≡ true = rw (e0, e1, e2, e3) refl in
      ap read_on found ∙ by_layout e3 has
  by_key false false false false true b5 e0 e1 e2 e3 e4 e5 =
      let found : key_in (keys_of ToCreate) word ≡ Some Size = rw (e0, e1, e2, e3, e4) refl in
      let has : has_key create_keys word ≡ true = rw (e0, e1, e2, e3, e4) refl in
      ap read_on found ∙ by_size e4 has
  by_key false false false false false true e0 e1 e2 e3 e4 e5 =
      let found : key_in (keys_of ToCreate) word ≡ Some Offset = rw (e0, e1, e2, e3, e4, e5) refl in
      let has : has_key create_keys word ≡ true = rw (e0, e1, e2, e3, e4, e5) refl in
      ap read_on found ∙ by_offset e5 has
  by_key false false false false false false e0 e1 e2 e3 e4 e5 =
      let found : key_in (keys_of ToCreate) word ≡ None = rw (e0, e1, e2, e3, e4, e5) refl in
      let has : has_key create_keys word ≡ false = rw (e0, e1, e2, e3, e4, e5) refl in
      ap read_on found ∙ sym (ap (λ h. cond (h && all) (array_of_rest uuid g (word ∷ words)) None) has)

  create_step : result_ok (goes_on (take_key g ToCreate word (word ∷ words)) next) ≡ cond (has_key create_keys word && all) (array_of_rest uuid g (word ∷ words)) None
  create_step =
      by_key (starts (codes "level=")) (starts (codes "disks=")) (starts (codes "chunk=")) (starts (codes "layout=")) (starts (codes "size=")) (starts (codes "offset="))
      refl refl refl refl refl refl

pub create_rest : (uuid : List ℕ) (words : List (List ℕ)) (g : Given)
    → result_ok (goes_on (read_keys ToCreate g words) (finished uuid)) ≡ cond (list_all (has_key create_keys) words) (array_of_rest uuid g words) None
create_rest uuid [] g = array_at_end uuid g.level g.disks g.chunk g.layout g.size g.offset g.layout_wish []
create_rest uuid (word ∷ words) g =
    ap result_ok (goes_on-goes_on (take_key g ToCreate word (word ∷ words)) (λ more. read_keys ToCreate more words) (finished uuid))
    ∙ create_step uuid word words g (create_rest uuid words)

pub create_means : (uuid : List ℕ) (words : List (List ℕ))
    → result_ok (goes_on (read_keys ToCreate nothing_given words) (finished uuid))
    ≡ cond (list_all (has_key create_keys) words)
    (array_from (Some uuid) (shape_of words) (given_number (2 ^ 64) (codes "size=") None words) (given_number (2 ^ 64) (codes "offset=") (Some (codes "2048")) words)) None
create_means uuid words =
    create_rest uuid words nothing_given
    ∙ ap (λ line. cond (list_all (has_key create_keys) words) line None) given_all
  where
    given_all : array_of_rest uuid nothing_given words
        ≡ array_from (Some uuid) (shape_of words) (given_number (2 ^ 64) (codes "size=") None words) (given_number (2 ^ 64) (codes "offset=") (Some (codes "2048")) words)
    given_all =
        rw (
          resumed-only (2 ^ 32) None (values_of (codes "level=") words),
          resumed-only (2 ^ 32) None (values_of (codes "disks=") words),
          resumed-only (2 ^ 32) (Some (codes "1024")) (values_of (codes "chunk=") words),
          sym (resumed-layout (Some (codes "left-symmetric")) (values_of (codes "layout=") words)),
          default_layout,
          resumed-only (2 ^ 64) None (values_of (codes "size=") words),
          resumed-only (2 ^ 64) (Some (codes "2048")) (values_of (codes "offset=") words),
        ) refl

-- ---- what the keys of a grow wish

pub wish_means : (word : List ℕ) → result_ok (judge_wish word) ≡ wished_as word
wish_means word = by_name (bytes_eq word (codes "preserve")) (bytes_eq word (codes "normalise")) (layout_named word)
  where
    by_name : (p n : Bool) (o : Option ℕ)
        → result_ok (cond p (Ok Preserve) (cond n (Ok Normalise) (goes_on (or_mistake (NotALayout LayoutWish) o) (λ k. Ok (Named k)))))
        ≡ cond p (Some Preserve) (cond n (Some Normalise) (option_map (λ k. Named k) o))
    by_name true n o = refl
    by_name false true o = refl
    by_name false false None = refl
    by_name false false (Some k) = refl

abbrev wished : {A : Type 0} → (List ℕ → Option A) → Option A → List (List ℕ) → Option (Option A)
wished read slot values = resumed (λ v. option_map (λ x. Some x) (read v)) (option_map (λ x. Some x) slot) (Some None) values

abbrev pub not_empty : List (List ℕ) → Bool
not_empty [] = false
not_empty (value ∷ values) = true

pub given_values : (key : List ℕ) (words : List (List ℕ)) → is_given key words ≡ not_empty (values_of key words)
given_values key [] = refl
given_values key (word ∷ words) = by_first (behind key word) (given_values key words)
  where
    by_first : (o : Option (List ℕ)) → is_given key words ≡ not_empty (values_of key words)
        → (is_some o || is_given key words) ≡ not_empty (cons_option o (values_of key words))
    by_first None later = later
    by_first (Some value) later = refl

wished-number : (key : List ℕ) (words : List (List ℕ)) → wished (number_below (2 ^ 32)) None (values_of key words) ≡ wished_number key words
wished-number key words =
    by_values (values_of key words)
    ∙ ap (λ b. cond b (option_map (λ n. Some n) (given_number (2 ^ 32) key None words)) (Some None)) (sym (given_values key words))
  where
    by_values : (values : List (List ℕ)) → wished (number_below (2 ^ 32)) None values
        ≡ cond (not_empty values) (option_map (λ n. Some n) (option_and_then (number_below (2 ^ 32)) (only_value None values))) (Some None)
    by_values [] = refl
    by_values (value ∷ []) = refl
    by_values (value ∷ other ∷ values) = refl

wished-layout : (words : List (List ℕ)) → wished wished_as None (values_of (codes "layout=") words) ≡ wished_layout words
wished-layout words =
    by_values (values_of (codes "layout=") words)
    ∙ ap (λ b. cond b (option_map (λ layout. Some layout) (option_and_then wished_as (given (codes "layout=") None words))) (Some None)) (sym (given_values (codes "layout=") words))
  where
    by_values : (values : List (List ℕ)) → wished wished_as None values
        ≡ cond (not_empty values) (option_map (λ layout. Some layout) (option_and_then wished_as (only_value None values))) (Some None)
    by_values [] = refl
    by_values (value ∷ []) = refl
    by_values (value ∷ other ∷ values) = refl

module _ {A : Type 0} (judge : List ℕ → Result A Mistake) (read : List ℕ → Option A) (same : (value : List ℕ) → result_ok (judge value) ≡ read value)
    (hole : Option (Option A) → Option Line) (hole_none : hole None ≡ None)
    (set : A → Given) (key : Key) (words : List (List ℕ)) (skip : ℕ) (value : List ℕ) (values : List (List ℕ)) (all : Bool) (next : Given → Result Line Wrong)
    (later : (x : A) → result_ok (next (set x)) ≡ cond all (hole (wished read (Some x) values)) None) where
  wish_fills : (slot : Option A)
      → result_ok (goes_on (cond (is_some slot) (Err (wrong_at words 0 (TwiceKey key))) (wrongly words skip (goes_on (judge value) (λ x. Ok (set x))))) next)
      ≡ cond all (hole (wished read slot (value ∷ values))) None
  wish_fills slot =
      slot_takes judge (λ slot values. hole (wished read slot values))
      (λ x value values. hole_none)
      (λ value values none. ap hole (resumed-bad (λ v. option_map (λ x. Some x) (read v)) (Some None) value values (ap (option_map (λ x. Some x)) (sym (same value) ∙ none))) ∙ hole_none)
      (λ x value values some. ap hole (resumed-good (λ v. option_map (λ x. Some x) (read v)) (Some None) value values (Some x) (ap (option_map (λ x. Some x)) (sym (same value) ∙ some))))
      set key words skip value values all next later slot

abbrev wish_by : Option (Option ℕ) → Option (Option ℕ) → Option (Option ℕ) → Option (Option WishedLayout) → Option Line
wish_by level disks chunk layout = option_map (λ wish. Grow wish) (wish_from level disks chunk layout)

wish-no_disks : (l c : Option (Option ℕ)) (y : Option (Option WishedLayout)) → wish_by l None c y ≡ None
wish-no_disks None c y = refl
wish-no_disks (Some l) c y = refl

wish-no_chunk : (l d : Option (Option ℕ)) (y : Option (Option WishedLayout)) → wish_by l d None y ≡ None
wish-no_chunk None d y = refl
wish-no_chunk (Some l) None y = refl
wish-no_chunk (Some l) (Some d) y = refl

wish-no_layout : (l d c : Option (Option ℕ)) → wish_by l d c None ≡ None
wish-no_layout None d c = refl
wish-no_layout (Some l) None c = refl
wish-no_layout (Some l) (Some d) None = refl
wish-no_layout (Some l) (Some d) (Some c) = refl

abbrev wish_resumed : Given → List (List ℕ) → List (List ℕ) → List (List ℕ) → List (List ℕ) → Option Line
wish_resumed given level disks chunk layout =
    wish_by (wished (number_below (2 ^ 32)) given.level level) (wished (number_below (2 ^ 32)) given.disks disks)
    (wished (number_below (2 ^ 32)) given.chunk chunk) (wished wished_as given.layout_wish layout)

abbrev wish_of_rest : Given → List (List ℕ) → Option Line
wish_of_rest given words =
    wish_resumed given (values_of (codes "level=") words) (values_of (codes "disks=") words) (values_of (codes "chunk=") words) (values_of (codes "layout=") words)

wish_at_end : (l d c y s o : Option ℕ) (w : Option WishedLayout)
    → Some (wish_line (record { level = l; disks = d; chunk = c; layout = y; layout_wish = w; size = s; offset = o }))
    ≡ wish_resumed (record { level = l; disks = d; chunk = c; layout = y; layout_wish = w; size = s; offset = o }) [] [] [] []
wish_at_end None None None y s o None = refl
wish_at_end None None None y s o (Some w) = refl
wish_at_end None None (Some c) y s o None = refl
wish_at_end None None (Some c) y s o (Some w) = refl
wish_at_end None (Some d) None y s o None = refl
wish_at_end None (Some d) None y s o (Some w) = refl
wish_at_end None (Some d) (Some c) y s o None = refl
wish_at_end None (Some d) (Some c) y s o (Some w) = refl
wish_at_end (Some l) None None y s o None = refl
wish_at_end (Some l) None None y s o (Some w) = refl
wish_at_end (Some l) None (Some c) y s o None = refl
wish_at_end (Some l) None (Some c) y s o (Some w) = refl
wish_at_end (Some l) (Some d) None y s o None = refl
wish_at_end (Some l) (Some d) None y s o (Some w) = refl
wish_at_end (Some l) (Some d) (Some c) y s o None = refl
wish_at_end (Some l) (Some d) (Some c) y s o (Some w) = refl

abbrev pub wish_done : Given → Result Line Wrong
wish_done given = Ok (wish_line given)

module _ (word : List ℕ) (words : List (List ℕ)) (g : Given)
    (later : (given : Given) → result_ok (goes_on (read_keys ToGrow given words) wish_done) ≡ cond (list_all (has_key wish_keys) words) (wish_of_rest given words) None) where
  abbrev all_wish : Bool
  all_wish = list_all (has_key wish_keys) words

  abbrev next_wish : Given → Result Line Wrong
  next_wish given = goes_on (read_keys ToGrow given words) wish_done

  abbrev starts_wish : List ℕ → Bool
  starts_wish key = is_some (behind key word)

  abbrev read_wish : Option Key → Option Line
  read_wish key = result_ok (goes_on (take_by g ToGrow word (word ∷ words) key) next_wish)

  wish_rest_is : (vl vd vc vy : List (List ℕ)) → has_key wish_keys word ≡ true
      → values_of (codes "level=") (word ∷ words) ≡ vl → values_of (codes "disks=") (word ∷ words) ≡ vd → values_of (codes "chunk=") (word ∷ words) ≡ vc
      → values_of (codes "layout=") (word ∷ words) ≡ vy
      → cond all_wish (wish_resumed g vl vd vc vy) None ≡ cond (has_key wish_keys word && all_wish) (wish_of_rest g (word ∷ words)) None
  wish_rest_is vl vd vc vy has el ed ec ey = sym
      (ap (λ h. cond (h && all_wish) (wish_of_rest g (word ∷ words)) None) has
      ∙ ap (λ v. cond all_wish (wish_resumed g v (values_of (codes "disks=") (word ∷ words)) (values_of (codes "chunk=") (word ∷ words)) (values_of (codes "layout=") (word ∷ words))) None) el
      ∙ ap (λ v. cond all_wish (wish_resumed g vl v (values_of (codes "chunk=") (word ∷ words)) (values_of (codes "layout=") (word ∷ words))) None) ed
      ∙ ap (λ v. cond all_wish (wish_resumed g vl vd v (values_of (codes "layout=") (word ∷ words))) None) ec
      ∙ ap (λ v. cond all_wish (wish_resumed g vl vd vc v) None) ey)

  wish_by_level : starts_wish (codes "level=") ≡ true → has_key wish_keys word ≡ true → read_wish (Some Level) ≡ cond (has_key wish_keys word && all_wish) (wish_of_rest g (word ∷ words)) None
  wish_by_level e has =
      wish_fills small (number_below (2 ^ 32)) small_means (λ o. wish_by o (wished (number_below (2 ^ 32)) g.disks (values_of (codes "disks=") words)) (wished (number_below (2 ^ 32)) g.chunk (values_of (codes "chunk=") words)) (wished wished_as g.layout_wish (values_of (codes "layout=") words)))
      (refl)
      (λ x. record g { level = Some x }) Level (word ∷ words) (length (codes "level=")) (drop (length (codes "level=")) word) (values_of (codes "level=") words) all_wish next_wish
      (λ x. later (record g { level = Some x })) g.level
      ∙ wish_rest_is (drop (length (codes "level=")) word ∷ values_of (codes "level=") words) (values_of (codes "disks=") words) (values_of (codes "chunk=") words) (values_of (codes "layout=") words) has
      (values-some (codes "level=") word words e)
      (values-none (codes "disks=") word words (not_later (codes "level=") (codes "disks=") word refl e))
      (values-none (codes "chunk=") word words (not_later (codes "level=") (codes "chunk=") word refl e))
      (values-none (codes "layout=") word words (not_later (codes "level=") (codes "layout=") word refl e))

  wish_by_disks : starts_wish (codes "disks=") ≡ true → has_key wish_keys word ≡ true → read_wish (Some Disks) ≡ cond (has_key wish_keys word && all_wish) (wish_of_rest g (word ∷ words)) None
  wish_by_disks e has =
      wish_fills small (number_below (2 ^ 32)) small_means (λ o. wish_by (wished (number_below (2 ^ 32)) g.level (values_of (codes "level=") words)) o (wished (number_below (2 ^ 32)) g.chunk (values_of (codes "chunk=") words)) (wished wished_as g.layout_wish (values_of (codes "layout=") words)))
      (wish-no_disks (wished (number_below (2 ^ 32)) g.level (values_of (codes "level=") words)) (wished (number_below (2 ^ 32)) g.chunk (values_of (codes "chunk=") words)) (wished wished_as g.layout_wish (values_of (codes "layout=") words)))
      (λ x. record g { disks = Some x }) Disks (word ∷ words) (length (codes "disks=")) (drop (length (codes "disks=")) word) (values_of (codes "disks=") words) all_wish next_wish
      (λ x. later (record g { disks = Some x })) g.disks
      ∙ wish_rest_is (values_of (codes "level=") words) (drop (length (codes "disks=")) word ∷ values_of (codes "disks=") words) (values_of (codes "chunk=") words) (values_of (codes "layout=") words) has
      (values-none (codes "level=") word words (not_later (codes "disks=") (codes "level=") word refl e))
      (values-some (codes "disks=") word words e)
      (values-none (codes "chunk=") word words (not_later (codes "disks=") (codes "chunk=") word refl e))
      (values-none (codes "layout=") word words (not_later (codes "disks=") (codes "layout=") word refl e))

  wish_by_chunk : starts_wish (codes "chunk=") ≡ true → has_key wish_keys word ≡ true → read_wish (Some Chunk) ≡ cond (has_key wish_keys word && all_wish) (wish_of_rest g (word ∷ words)) None
  wish_by_chunk e has =
      wish_fills small (number_below (2 ^ 32)) small_means (λ o. wish_by (wished (number_below (2 ^ 32)) g.level (values_of (codes "level=") words)) (wished (number_below (2 ^ 32)) g.disks (values_of (codes "disks=") words)) o (wished wished_as g.layout_wish (values_of (codes "layout=") words)))
      (wish-no_chunk (wished (number_below (2 ^ 32)) g.level (values_of (codes "level=") words)) (wished (number_below (2 ^ 32)) g.disks (values_of (codes "disks=") words)) (wished wished_as g.layout_wish (values_of (codes "layout=") words)))
      (λ x. record g { chunk = Some x }) Chunk (word ∷ words) (length (codes "chunk=")) (drop (length (codes "chunk=")) word) (values_of (codes "chunk=") words) all_wish next_wish
      (λ x. later (record g { chunk = Some x })) g.chunk
      ∙ wish_rest_is (values_of (codes "level=") words) (values_of (codes "disks=") words) (drop (length (codes "chunk=")) word ∷ values_of (codes "chunk=") words) (values_of (codes "layout=") words) has
      (values-none (codes "level=") word words (not_later (codes "chunk=") (codes "level=") word refl e))
      (values-none (codes "disks=") word words (not_later (codes "chunk=") (codes "disks=") word refl e))
      (values-some (codes "chunk=") word words e)
      (values-none (codes "layout=") word words (not_later (codes "chunk=") (codes "layout=") word refl e))

  wish_by_layout_wish : starts_wish (codes "layout=") ≡ true → has_key wish_keys word ≡ true → read_wish (Some LayoutWish) ≡ cond (has_key wish_keys word && all_wish) (wish_of_rest g (word ∷ words)) None
  wish_by_layout_wish e has =
      wish_fills judge_wish wished_as wish_means (λ o. wish_by (wished (number_below (2 ^ 32)) g.level (values_of (codes "level=") words)) (wished (number_below (2 ^ 32)) g.disks (values_of (codes "disks=") words)) (wished (number_below (2 ^ 32)) g.chunk (values_of (codes "chunk=") words)) o)
      (wish-no_layout (wished (number_below (2 ^ 32)) g.level (values_of (codes "level=") words)) (wished (number_below (2 ^ 32)) g.disks (values_of (codes "disks=") words)) (wished (number_below (2 ^ 32)) g.chunk (values_of (codes "chunk=") words)))
      (λ x. record g { layout_wish = Some x }) LayoutWish (word ∷ words) (length (codes "layout=")) (drop (length (codes "layout=")) word) (values_of (codes "layout=") words) all_wish next_wish
      (λ x. later (record g { layout_wish = Some x })) g.layout_wish
      ∙ wish_rest_is (values_of (codes "level=") words) (values_of (codes "disks=") words) (values_of (codes "chunk=") words) (drop (length (codes "layout=")) word ∷ values_of (codes "layout=") words) has
      (values-none (codes "level=") word words (not_later (codes "layout=") (codes "level=") word refl e))
      (values-none (codes "disks=") word words (not_later (codes "layout=") (codes "disks=") word refl e))
      (values-none (codes "chunk=") word words (not_later (codes "layout=") (codes "chunk=") word refl e))
      (values-some (codes "layout=") word words e)

  wish_by_key : (level disks chunk layout : Bool) → starts_wish (codes "level=") ≡ level → starts_wish (codes "disks=") ≡ disks → starts_wish (codes "chunk=") ≡ chunk
      → starts_wish (codes "layout=") ≡ layout
      → read_wish (key_in (keys_of ToGrow) word) ≡ cond (has_key wish_keys word && all_wish) (wish_of_rest g (word ∷ words)) None
  wish_by_key true b1 b2 b3 e0 e1 e2 e3 =
      let found : key_in (keys_of ToGrow) word ≡ Some Level = rw (e0) refl in
      let has : has_key wish_keys word ≡ true = rw (e0) refl in
      ap read_wish found ∙ wish_by_level e0 has
  wish_by_key false true b2 b3 e0 e1 e2 e3 =
      let found : key_in (keys_of ToGrow) word ≡ Some Disks = rw (e0, e1) refl in
      let has : has_key wish_keys word ≡ true = rw (e0, e1) refl in
      ap read_wish found ∙ wish_by_disks e1 has
  wish_by_key false false true b3 e0 e1 e2 e3 =
      let found : key_in (keys_of ToGrow) word ≡ Some Chunk = rw (e0, e1, e2) refl in
      let has : has_key wish_keys word ≡ true = rw (e0, e1, e2) refl in
      ap read_wish found ∙ wish_by_chunk e2 has
  wish_by_key false false false true e0 e1 e2 e3 =
      let found : key_in (keys_of ToGrow) word ≡ Some LayoutWish = rw (e0, e1, e2, e3) refl in
      let has : has_key wish_keys word ≡ true = rw (e0, e1, e2, e3) refl in
      ap read_wish found ∙ wish_by_layout_wish e3 has
  wish_by_key false false false false e0 e1 e2 e3 =
      let found : key_in (keys_of ToGrow) word ≡ None = rw (e0, e1, e2, e3) refl in
      let has : has_key wish_keys word ≡ false = rw (e0, e1, e2, e3) refl in
      ap read_wish found ∙ sym (ap (λ h. cond (h && all_wish) (wish_of_rest g (word ∷ words)) None) has)

  wish_step : result_ok (goes_on (take_key g ToGrow word (word ∷ words)) next_wish) ≡ cond (has_key wish_keys word && all_wish) (wish_of_rest g (word ∷ words)) None
  wish_step =
      wish_by_key (starts_wish (codes "level=")) (starts_wish (codes "disks=")) (starts_wish (codes "chunk=")) (starts_wish (codes "layout=")) refl refl refl refl

wish_rest : (words : List (List ℕ)) (g : Given)
    → result_ok (goes_on (read_keys ToGrow g words) wish_done) ≡ cond (list_all (has_key wish_keys) words) (wish_of_rest g words) None
wish_rest [] g = wish_at_end g.level g.disks g.chunk g.layout g.size g.offset g.layout_wish
wish_rest (word ∷ words) g =
    ap result_ok (goes_on-goes_on (take_key g ToGrow word (word ∷ words)) (λ more. read_keys ToGrow more words) wish_done)
    ∙ wish_step word words g (wish_rest words)

pub grow_means : (word : List ℕ) (words : List (List ℕ))
    → result_ok (goes_on (read_keys ToGrow nothing_given (word ∷ words)) wish_done) ≡ grow_of (word ∷ words)
grow_means word words = wish_rest (word ∷ words) nothing_given ∙ all_wished ∙ outside (list_all (has_key wish_keys) (word ∷ words))
  where
    all_wished : cond (list_all (has_key wish_keys) (word ∷ words)) (wish_of_rest nothing_given (word ∷ words)) None
        ≡ cond (list_all (has_key wish_keys) (word ∷ words))
        (wish_by (wished_number (codes "level=") (word ∷ words)) (wished_number (codes "disks=") (word ∷ words)) (wished_number (codes "chunk=") (word ∷ words)) (wished_layout (word ∷ words))) None
    all_wished =
        rw (
          wished-number (codes "level=") (word ∷ words),
          wished-number (codes "disks=") (word ∷ words),
          wished-number (codes "chunk=") (word ∷ words),
          wished-layout (word ∷ words),
        ) refl

    outside : (all : Bool)
        → cond all (wish_by (wished_number (codes "level=") (word ∷ words)) (wished_number (codes "disks=") (word ∷ words)) (wished_number (codes "chunk=") (word ∷ words)) (wished_layout (word ∷ words))) None
        ≡ option_map (λ wish. Grow wish)
        (cond all (wish_from (wished_number (codes "level=") (word ∷ words)) (wished_number (codes "disks=") (word ∷ words)) (wished_number (codes "chunk=") (word ∷ words)) (wished_layout (word ∷ words))) None)
    outside true = refl
    outside false = refl
