-- A line is read up to the first word that is wrong.
use Rattle.std.proofs.Common.{◌≡◌, ℕ, ◌+◌, ◌-◌, ◌^◌, ◌<◌, ◌≤◌, Bool, true, false, ◌&&◌, ◌||◌, not, cond, ltb, leb, List, [], ◌∷◌, ◌++◌, length, take, drop, get_or, map, Option, Some, None, Result, Ok, Err, ◌⊎◌, inl, inr, refl, sym, ap, ap₂, subst, ◌∙◌, arith, true≢false, codes, append_assoc}
use Rattle.std.proofs.lemmas.Bool.Decides.{nat_tests}
use Rattle.std.proofs.lemmas.Bool.{cases_lt}
use Rattle.std.specs.Option.{option_map, is_some, unwrap_or}
use Rattle.std.specs.Result.{result_ok, is_ok}
use Rattle.std.specs.List.{list_all, list_any}
use Rattle.std.specs.Str.{bytes_eq}
use Rattle.std.specs.Str.Parse.{digits_value}
use Rattle.std.proofs.lemmas.Slice.Eq.{bytes_eq-Decides}
use Rattle.script_words.specs.raid_types_the_WishedLayout.{WishedLayout}
use Rattle.script_words.specs.Keys.{behind, has_key, is_given, values_of}
use Rattle.script_words.specs.Numbers.{number_below}
use Rattle.script_words.specs.Shapes.{shape_from}
use Rattle.script_words.specs.Layouts.{layout_named}
use Rattle.script.specs.Grammar.{create_keys}
use Rattle.script.specs.Tables.{all_verbs, verb_in, verb_name, all_block_words, block_word_in, block_word_name, keys_of, key_name, key_in}
use Rattle.script.specs.Mistakes.{Says, would_do, is_known, is_word_of}
use Rattle.script.specs.Reading.{goes_on, wrong_at, wrongly, within, small, most_after, judge_number, judge_limit, judge_uuid, at_value, end_of, read_one, has_given, read_keys, nothing_given, create_with, create_line, create_from, wish_line, grow_from, read_read, read_write, read_create, read_assemble, read_verb, is_for_lanes_verb, asked_by, misplaced, lane_by, read_lane, outside_by, read_outside, inside_by, read_inside, read_words}
use Rattle.script.specs.declared.keyed.Given.{Given}
use Rattle.script.specs.declared.lines.Line.{Line}
use Rattle.script.specs.declared.lines.Line.TheVariants.{Read, Write, Flush, Fail, Add, Step, Wait, ArraySize, Stop, Halt, Detail, Mdstat, Alerts, Examine, Assemble}
use Rattle.script.specs.declared.grammar.Meaning.{Meaning}
use Rattle.script.specs.declared.grammar.Meaning.TheVariants.{Opens, Asks}
use Rattle.script.specs.declared.mistakes.Mistake.{Mistake}
use Rattle.script.specs.declared.mistakes.Mistake.TheVariants.{UnknownWord, WordElsewhere, OutOfRange, Missing, MissingKey}
use Rattle.script.specs.declared.mistakes.Place.{Place}
use Rattle.script.specs.declared.mistakes.Place.TheVariants.{Outside, Block, Lane as InLane}
use Rattle.script.specs.declared.mistakes.Value.{Value}
use Rattle.script.specs.declared.mistakes.Value.TheVariants.{Word, Start, Count, Seed, Role, Slot, Steps, Limit, Uuid, AnyKey}
use Rattle.script.specs.declared.mistakes.Wrong.{Wrong}
use Rattle.script.specs.declared.reply.Lane.{Lane}
use Rattle.script.specs.declared.reply.Lane.TheVariants.{Script, A, B, Worker}
use Rattle.script.specs.declared.tables.Verb.{Verb}
use Rattle.script.specs.declared.tables.Verb.TheVariants.{Create as ToCreate, Assemble as ToAssemble, Read as ToRead, Write as ToWrite, Flush as ToFlush, Fail as ToFail, Add as ToAdd, Step as ToStep, Wait as ToWait, ArraySize as ToSize, Grow as ToGrow, Stop as ToStop, Halt as ToHalt, Detail as ToDetail, Mdstat as ToMdstat, Examine as ToExamine, Alerts as ToAlerts}
use Rattle.script.specs.declared.tables.BlockWord.{BlockWord}
use Rattle.script.specs.declared.tables.BlockWord.TheVariants.{Together, A as NameA, B as NameB, End}
use Rattle.script.specs.declared.tables.Key.{Key}
use Rattle.script.specs.declared.tables.Key.TheVariants.{Level, Disks, Chunk, Layout, LayoutWish, Size, Offset}
use Rattle.script.proofs.KeyLaws.{create_rest, given_values, no_disks, no_size, array_of_rest, array_resumed, array_by, not_empty, finished, wish_done, resumed}
use Rattle.script.proofs.ReadingLaws.{verb_in-name, block_word_in-name}
use Rattle.script.proofs.WrongLaws.{Fine, IsJudge, fine_behind, end_fine, value_reach, value_fine, err_injective, ok_value, and_right}
use Rattle.script.proofs.JudgeLaws.{number_judge, small_judge, limit_judge, uuid_judge, some_ok}
use Rattle.script.proofs.KeyWrongLaws.{keys_fine}
use Rattle.script.proofs.NumberLaws.{NoNumber, Writes, number_cases}

-- ---- create

create_takes : Key → Bool
create_takes LayoutWish = false
create_takes key = true

create_value : (key : Key) → create_takes key ≡ true → (good : List ℕ) → key_in (keys_of ToCreate) (key_name key ++ good) ≡ Some key
unfolding create_takes
create_value Level t good = refl
create_value Disks t good = refl
create_value Chunk t good = refl
create_value Layout t good = refl
create_value LayoutWish t good = absurd (true≢false (sym t))
create_value Size t good = refl
create_value Offset t good = refl

value_of_key : (key : Key) (good : List ℕ) → drop (length (key_name key)) (key_name key ++ good) ≡ good
value_of_key Level good = refl
value_of_key Disks good = refl
value_of_key Chunk good = refl
value_of_key Layout good = refl
value_of_key LayoutWish good = refl
value_of_key Size good = refl
value_of_key Offset good = refl

create_reach : (uuid : List ℕ) (l d c y s o : Option ℕ) (w : Option WishedLayout)
    → (more : List (List ℕ)) × (is_ok (goes_on (read_keys ToCreate (record { level = l; disks = d; chunk = c; layout = y; layout_wish = w; size = s; offset = o }) more) (finished uuid)) ≡ true)
create_reach uuid None None c y None o w = (codes "level=5" ∷ codes "disks=3" ∷ codes "size=8" ∷ [], refl)
create_reach uuid None None c y (Some s) o w = (codes "level=5" ∷ codes "disks=3" ∷ [], refl)
create_reach uuid None (Some d) c y None o w = (codes "level=5" ∷ codes "size=8" ∷ [], refl)
create_reach uuid None (Some d) c y (Some s) o w = (codes "level=5" ∷ [], refl)
create_reach uuid (Some l) None c y None o w = (codes "disks=3" ∷ codes "size=8" ∷ [], refl)
create_reach uuid (Some l) None c y (Some s) o w = (codes "disks=3" ∷ [], refl)
create_reach uuid (Some l) (Some d) c y None o w = (codes "size=8" ∷ [], refl)
create_reach uuid (Some l) (Some d) c y (Some s) o w = ([], refl)

-- a key that is wanted and isn't given
module _ (uuid : List ℕ) (g : Given) where
  no_values : (key : List ℕ) (more : List (List ℕ)) → is_given key more ≡ false → values_of key more ≡ []
  no_values key more none = by_values (values_of key more) (sym (given_values key more) ∙ none)
    where
      by_values : (values : List (List ℕ)) → not_empty values ≡ false → values ≡ []
      by_values [] e = refl
      by_values (value ∷ values) e = absurd (true≢false e)

  none_all : (all : Bool) (line : Option Line) → line ≡ None → is_some (cond all line None) ≡ false
  none_all true line e = ap is_some e
  none_all false line e = refl

  abbrev ended_well : List (List ℕ) → Bool
  ended_well more = is_ok (goes_on (read_keys ToCreate g more) (finished uuid))

  by_array : (more : List (List ℕ)) → array_of_rest uuid g more ≡ None → ended_well more ≡ false
  by_array more none =
      some_ok (goes_on (read_keys ToCreate g more) (finished uuid)) ∙ ap is_some (create_rest uuid more g)
      ∙ none_all (list_all (has_key create_keys) more) (array_of_rest uuid g more) none

  wanted_level : g.level ≡ None → (more : List (List ℕ)) → ended_well more ≡ true → is_given (codes "level=") more ≡ true
  wanted_level empty more well = by_given (is_given (codes "level=") more) refl
    where
      by_given : (b : Bool) → is_given (codes "level=") more ≡ b → is_given (codes "level=") more ≡ true
      by_given true e = e
      by_given false e =
          let slot : resumed (number_below (2 ^ 32)) g.level None (values_of (codes "level=") more) ≡ None = ap₂ (λ s v. resumed (number_below (2 ^ 32)) s None v) empty (no_values (codes "level=") more e) in
          absurd (true≢false (sym well ∙ by_array more
          (ap (λ o. array_by uuid o (resumed (number_below (2 ^ 32)) g.disks None (values_of (codes "disks=") more)) (resumed (number_below (2 ^ 32)) g.chunk (Some 1024) (values_of (codes "chunk=") more))
          (resumed layout_named g.layout (Some 2) (values_of (codes "layout=") more)) (resumed (number_below (2 ^ 64)) g.size None (values_of (codes "size=") more)) (resumed (number_below (2 ^ 64)) g.offset (Some 2048) (values_of (codes "offset=") more))) slot)))

  wanted_disks : g.disks ≡ None → (more : List (List ℕ)) → ended_well more ≡ true → is_given (codes "disks=") more ≡ true
  wanted_disks empty more well = by_given (is_given (codes "disks=") more) refl
    where
      by_given : (b : Bool) → is_given (codes "disks=") more ≡ b → is_given (codes "disks=") more ≡ true
      by_given true e = e
      by_given false e =
          let slot : resumed (number_below (2 ^ 32)) g.disks None (values_of (codes "disks=") more) ≡ None = ap₂ (λ s v. resumed (number_below (2 ^ 32)) s None v) empty (no_values (codes "disks=") more e) in
          let l = resumed (number_below (2 ^ 32)) g.level None (values_of (codes "level=") more) in
          let c = resumed (number_below (2 ^ 32)) g.chunk (Some 1024) (values_of (codes "chunk=") more) in
          let y = resumed layout_named g.layout (Some 2) (values_of (codes "layout=") more) in
          let s = resumed (number_below (2 ^ 64)) g.size None (values_of (codes "size=") more) in
          let o = resumed (number_below (2 ^ 64)) g.offset (Some 2048) (values_of (codes "offset=") more) in
          absurd (true≢false (sym well ∙ by_array more (ap (λ d. array_by uuid l d c y s o) slot ∙ no_disks uuid l c y s o)))

  wanted_size : g.size ≡ None → (more : List (List ℕ)) → ended_well more ≡ true → is_given (codes "size=") more ≡ true
  wanted_size empty more well = by_given (is_given (codes "size=") more) refl
    where
      by_given : (b : Bool) → is_given (codes "size=") more ≡ b → is_given (codes "size=") more ≡ true
      by_given true e = e
      by_given false e =
          let slot : resumed (number_below (2 ^ 64)) g.size None (values_of (codes "size=") more) ≡ None = ap₂ (λ s v. resumed (number_below (2 ^ 64)) s None v) empty (no_values (codes "size=") more e) in
          let l = resumed (number_below (2 ^ 32)) g.level None (values_of (codes "level=") more) in
          let d = resumed (number_below (2 ^ 32)) g.disks None (values_of (codes "disks=") more) in
          let c = resumed (number_below (2 ^ 32)) g.chunk (Some 1024) (values_of (codes "chunk=") more) in
          let y = resumed layout_named g.layout (Some 2) (values_of (codes "layout=") more) in
          let o = resumed (number_below (2 ^ 64)) g.offset (Some 2048) (values_of (codes "offset=") more) in
          absurd (true≢false (sym well ∙ by_array more (ap (λ s. array_by uuid l d c y s o) slot ∙ no_size uuid (shape_from l d c y) o)))

  create_missing : (w : Wrong) → finished uuid g ≡ Err w
      → (key : Key) × (w ≡ wrong_at [] 0 (MissingKey key)) × ((more : List (List ℕ)) → ended_well more ≡ true → is_given (key_name key) more ≡ true)
  create_missing w told = by_slots g.level refl g.disks refl g.size refl told
    where
      by_slots : (l : Option ℕ) → g.level ≡ l → (d : Option ℕ) → g.disks ≡ d → (s : Option ℕ) → g.size ≡ s → wrongly [] 0 (create_with uuid g l d s) ≡ Err w
          → (key : Key) × (w ≡ wrong_at [] 0 (MissingKey key)) × ((more : List (List ℕ)) → ended_well more ≡ true → is_given (key_name key) more ≡ true)
      by_slots None el d ed s es e = (Level, sym (err_injective e), wanted_level el)
      by_slots (Some l) el None ed s es e = (Disks, sym (err_injective e), wanted_disks ed)
      by_slots (Some l) el (Some d) ed None es e = (Size, sym (err_injective e), wanted_size es)
      by_slots (Some l) el (Some d) ed (Some s) es e = absurd (cc)

nothing_known : (key : Key) → has_given nothing_given key ≡ true → is_given (key_name key) [] ≡ true
nothing_known Level h = h
nothing_known Disks h = h
nothing_known Chunk h = h
nothing_known Layout h = h
nothing_known LayoutWish h = h
nothing_known Size h = h
nothing_known Offset h = h

create_from_fine : (uuid : List ℕ) (words : List (List ℕ)) (w : Wrong) → create_from uuid words ≡ Err w → Fine (λ ws. is_ok (create_from uuid ws)) words w
unfolding create_takes
create_from_fine uuid words w told =
    keys_fine ToCreate create_takes refl create_value value_of_key (finished uuid) (λ ws. is_ok (create_from uuid ws))
    (λ g. create_reach uuid g.level g.disks g.chunk g.layout g.size g.offset g.layout_wish)
    (create_missing uuid)
    words [] nothing_given w nothing_known (create_reach uuid None None None None None None None) (λ word others. refl) (λ none. refl) told

-- ---- grow

grow_takes : Key → Bool
grow_takes Layout = false
grow_takes Size = false
grow_takes Offset = false
grow_takes key = true

grow_value : (key : Key) → grow_takes key ≡ true → (good : List ℕ) → key_in (keys_of ToGrow) (key_name key ++ good) ≡ Some key
unfolding grow_takes
grow_value Level t good = refl
grow_value Disks t good = refl
grow_value Chunk t good = refl
grow_value LayoutWish t good = refl
grow_value Layout t good = absurd (true≢false (sym t))
grow_value Size t good = absurd (true≢false (sym t))
grow_value Offset t good = absurd (true≢false (sym t))

grow_fine : (words : List (List ℕ)) (w : Wrong) → grow_from words ≡ Err w → Fine (λ ws. is_ok (grow_from ws)) words w
unfolding grow_takes
grow_fine [] w told =
    let P : Wrong → Type 0 = λ u. Fine (λ ws. is_ok (grow_from ws)) [] u in
    subst P (err_injective told) (record {
      before = [];
      from = [];
      parts = refl;
      size = refl;
      right = (codes "level=5" ∷ [], refl);
      wrong = λ first others more is. absurd (cc);
      lacks = λ none. refl;
      says = tt;
      wanted = λ good does. absurd (true≢false (sym does));
    })
grow_fine (word ∷ words) w told =
    keys_fine ToGrow grow_takes refl grow_value value_of_key wish_done (λ ws. is_ok (grow_from ws))
    (λ g. ([], refl)) (λ g v e. absurd (cc))
    (word ∷ words) [] nothing_given w nothing_known (codes "level=5" ∷ [], refl) (λ first others. refl) (λ none. absurd (cc)) told

-- ---- lines of values

module _ {X : Type 0} (judge : List ℕ → Result X Mistake) (is_judge : IsJudge judge) (value : Value) (line : X → Line) where
  one_fine : (words : List (List ℕ)) (w : Wrong) → read_one judge value line words ≡ Err w → Fine (λ ws. is_ok (read_one judge value line ws)) words w
  one_fine words w told =
      value_fine judge is_judge value (λ x ws. end_of (line x) ws) (λ word x is. ([], refl)) (λ word x is ws v e. end_fine (line x) ws v e) words w told

start_judge : IsJudge (judge_number 0 (2 ^ 63 - 2))
start_judge = number_judge 0 (2 ^ 63 - 2) (codes "0") refl

-- there is room for a sector behind a start
room : (n : ℕ) → n ≤ 2 ^ 63 - 2 → (leb 1 1 && leb 1 (most_after n)) ≡ true
room n few = by_room (cases_lt (2 ^ 63 - 1 - n) 128)
  where
    by_room : (2 ^ 63 - 1 - n < 128) ⊎ (128 ≤ 2 ^ 63 - 1 - n) → (leb 1 1 && leb 1 (most_after n)) ≡ true
    by_room (inl small_room) =
        let t : ltb (2 ^ 63 - 1 - n) 128 ≡ true = grind (arith, nat_tests) in
        ap (λ c. leb 1 1 && leb 1 (cond c (2 ^ 63 - 1 - n) 128)) t ∙ grind (arith, nat_tests)
    by_room (inr large_room) =
        let t : ltb (2 ^ 63 - 1 - n) 128 ≡ false = grind (arith, nat_tests) in
        ap (λ c. leb 1 1 && leb 1 (cond c (2 ^ 63 - 1 - n) 128)) t

in_range : (v x least most : ℕ) (b : Bool) → (leb least v && leb v most) ≡ b → cond b (Ok v) (Err (OutOfRange least most)) ≡ Ok x → x ≤ most
in_range v x least most true inside e =
    let same : v ≡ x = ap (λ (r : Result ℕ Mistake). unwrap_or (result_ok r) v) e in
    let below : leb v most ≡ true = and_right (leb least v) (leb v most) inside in
    let most_v : v ≤ most = grind (arith, nat_tests) in
    omega (arith, same, most_v)
in_range v x least most false outside e = absurd (cc)

start_below : (w : List ℕ) (x : ℕ) → judge_number 0 (2 ^ 63 - 2) w ≡ Ok x → x ≤ 2 ^ 63 - 2
start_below w x e = by_cases (number_cases w)
  where
    by_cases : NoNumber w ⊎ Writes w (digits_value 10 w) → x ≤ 2 ^ 63 - 2
    by_cases (inl none) = absurd (cc (ap result_ok e, none.judged 0 (2 ^ 63 - 2)))
    by_cases (inr writes) =
        let v = digits_value 10 w in
        in_range v x 0 (2 ^ 63 - 2) (leb 0 v && leb v (2 ^ 63 - 2)) refl (sym (writes.judged 0 (2 ^ 63 - 2)) ∙ e)

count_judge : (word : List ℕ) (x : ℕ) → judge_number 0 (2 ^ 63 - 2) word ≡ Ok x → IsJudge (judge_number 1 (most_after x))
count_judge word x is =
    number_judge 1 (most_after x) (codes "1") (ap (λ b. is_ok {T = ℕ} (cond b (Ok 1) (Err (OutOfRange 1 (most_after x))))) (room x (start_below word x is)))

abbrev count_then : ℕ → List (List ℕ) → Result Line Wrong
count_then x words = goes_on (at_value (judge_number 1 (most_after x)) Count words) (λ n. end_of (Read x n) (drop 1 words))

read_fine : (words : List (List ℕ)) (w : Wrong) → read_read words ≡ Err w → Fine (λ ws. is_ok (read_read ws)) words w
read_fine words w told =
    value_fine (judge_number 0 (2 ^ 63 - 2)) start_judge Start count_then
    (λ word x is. value_reach (judge_number 1 (most_after x)) (count_judge word x is) Count (λ n ws. end_of (Read x n) ws) (λ v n e. ([], refl)) (λ v n e ws u t. end_fine (Read x n) ws u t))
    (λ word x is ws v e.
    value_fine (judge_number 1 (most_after x)) (count_judge word x is) Count (λ n ws. end_of (Read x n) ws) (λ v n e. ([], refl)) (λ v n e ws u t. end_fine (Read x n) ws u t) ws v e)
    words w told

abbrev seed_then : ℕ → ℕ → List (List ℕ) → Result Line Wrong
seed_then x n words = goes_on (at_value small Seed words) (λ seed. end_of (Write x n seed) (drop 1 words))

seed_reach : (x n : ℕ) → (more : List (List ℕ)) × (is_ok (seed_then x n more) ≡ true)
seed_reach x n = value_reach small small_judge Seed (λ seed ws. end_of (Write x n seed) ws) (λ v s e. ([], refl)) (λ v s e ws u t. end_fine (Write x n s) ws u t)

seed_fine : (x n : ℕ) (words : List (List ℕ)) (w : Wrong) → seed_then x n words ≡ Err w → Fine (λ ws. is_ok (seed_then x n ws)) words w
seed_fine x n words w told =
    value_fine small small_judge Seed (λ seed ws. end_of (Write x n seed) ws) (λ v s e. ([], refl)) (λ v s e ws u t. end_fine (Write x n s) ws u t) words w told

abbrev count_seed_then : ℕ → List (List ℕ) → Result Line Wrong
count_seed_then x words = goes_on (at_value (judge_number 1 (most_after x)) Count words) (λ n. seed_then x n (drop 1 words))

write_fine : (words : List (List ℕ)) (w : Wrong) → read_write words ≡ Err w → Fine (λ ws. is_ok (read_write ws)) words w
write_fine words w told =
    value_fine (judge_number 0 (2 ^ 63 - 2)) start_judge Start count_seed_then
    (λ word x is. value_reach (judge_number 1 (most_after x)) (count_judge word x is) Count (seed_then x) (λ v n e. seed_reach x n) (λ v n e ws u t. seed_fine x n ws u t))
    (λ word x is ws v e. value_fine (judge_number 1 (most_after x)) (count_judge word x is) Count (seed_then x) (λ v n e. seed_reach x n) (λ v n e ws u t. seed_fine x n ws u t) ws v e)
    words w told

create_fine : (words : List (List ℕ)) (w : Wrong) → read_create words ≡ Err w → Fine (λ ws. is_ok (read_create ws)) words w
create_fine words w told =
    value_fine judge_uuid uuid_judge Uuid create_from
    (λ word uuid is. create_reach uuid None None None None None None None)
    (λ word uuid is ws v e. create_from_fine uuid ws v e) words w told

assemble_fine : (words : List (List ℕ)) (w : Wrong) → read_assemble words ≡ Err w → Fine (λ ws. is_ok (read_assemble ws)) words w
assemble_fine [] w told = absurd (cc)
assemble_fine (word ∷ words) w told = by_uuid (judge_uuid word) refl told
  where
    taken : (good : List ℕ) → is_ok (judge_uuid good) ≡ true → (more : List (List ℕ)) × (is_ok (read_assemble (good ∷ more)) ≡ true)
    taken good ok =
        let u = ok_value (judge_uuid good) ok in
        ([], ap (λ r. is_ok (goes_on (wrongly (good ∷ []) 0 r) (λ uuid. end_of (Assemble (Some uuid)) []))) (u.1))

    by_uuid : (r : Result (List ℕ) Mistake) → judge_uuid word ≡ r → goes_on (wrongly (word ∷ words) 0 r) (λ uuid. end_of (Assemble (Some uuid)) words) ≡ Err w
        → Fine (λ ws. is_ok (read_assemble ws)) (word ∷ words) w
    by_uuid (Ok u) is e =
        fine_behind word (λ ws. is_ok (read_assemble ws)) (λ ws. is_ok (end_of (Assemble (Some u)) ws))
        (λ ws. ap (λ r. is_ok (goes_on (wrongly (word ∷ ws) 0 r) (λ uuid. end_of (Assemble (Some uuid)) ws))) is) (end_fine (Assemble (Some u)) words w e)
    by_uuid (Err mistake) is e =
        let P : Wrong → Type 0 = λ u. Fine (λ ws. is_ok (read_assemble ws)) (word ∷ words) u in
        subst P (err_injective e) (record {
          before = [];
          from = word ∷ words;
          parts = refl;
          size = refl;
          right = ([], refl);
          wrong = λ first others more same.
              ap (λ f. is_ok (read_assemble (f ∷ more))) (sym (ap (λ ws. get_or ws 0 []) same))
              ∙ ap (λ r. is_ok (goes_on (wrongly (word ∷ more) 0 r) (λ uuid. end_of (Assemble (Some uuid)) more))) is;
          lacks = λ none. absurd (cc);
          says = uuid_judge.truth (λ ws. is_ok (read_assemble ws)) [] word mistake is;
          wanted = λ good does. taken good (uuid_judge.wants word mistake good is does);
        })

step_judge : IsJudge (judge_number 1 (2 ^ 32 - 1))
step_judge = number_judge 1 (2 ^ 32 - 1) (codes "1") refl

verb_fine : (verb : Verb) (words : List (List ℕ)) (w : Wrong) → read_verb verb words ≡ Err w → Fine (λ ws. is_ok (read_verb verb ws)) words w
verb_fine ToCreate words w told = create_fine words w told
verb_fine ToAssemble words w told = assemble_fine words w told
verb_fine ToRead words w told = read_fine words w told
verb_fine ToWrite words w told = write_fine words w told
verb_fine ToFlush words w told = end_fine Flush words w told
verb_fine ToFail words w told = one_fine small small_judge Role (λ n. Fail n) words w told
verb_fine ToAdd words w told = one_fine small small_judge Slot (λ n. Add n) words w told
verb_fine ToStep words w told = one_fine (judge_number 1 (2 ^ 32 - 1)) step_judge Steps (λ n. Step n) words w told
verb_fine ToWait words w told = end_fine Wait words w told
verb_fine ToSize words w told = one_fine judge_limit limit_judge Limit (λ limit. ArraySize limit) words w told
verb_fine ToGrow words w told = grow_fine words w told
verb_fine ToStop words w told = end_fine Stop words w told
verb_fine ToHalt words w told = end_fine Halt words w told
verb_fine ToDetail words w told = end_fine Detail words w told
verb_fine ToMdstat words w told = end_fine Mdstat words w told
verb_fine ToExamine words w told = one_fine small small_judge Slot (λ n. Examine n) words w told
verb_fine ToAlerts words w told = end_fine Alerts words w told

verb_reach : (verb : Verb) → (more : List (List ℕ)) × (is_ok (read_verb verb more) ≡ true)
verb_reach ToCreate = (codes "00000000000000000000000000000000" ∷ codes "level=5" ∷ codes "disks=3" ∷ codes "size=8" ∷ [], refl)
verb_reach ToAssemble = ([], refl)
verb_reach ToRead = (codes "0" ∷ codes "1" ∷ [], refl)
verb_reach ToWrite = (codes "0" ∷ codes "1" ∷ codes "1" ∷ [], refl)
verb_reach ToFlush = ([], refl)
verb_reach ToFail = (codes "0" ∷ [], refl)
verb_reach ToAdd = (codes "0" ∷ [], refl)
verb_reach ToStep = (codes "1" ∷ [], refl)
verb_reach ToWait = ([], refl)
verb_reach ToSize = (codes "0" ∷ [], refl)
verb_reach ToGrow = (codes "level=5" ∷ [], refl)
verb_reach ToStop = ([], refl)
verb_reach ToHalt = ([], refl)
verb_reach ToDetail = ([], refl)
verb_reach ToMdstat = ([], refl)
verb_reach ToExamine = (codes "0" ∷ [], refl)
verb_reach ToAlerts = ([], refl)

-- ---- the first word

asked_ok : (lane : Lane) (r : Result Line Wrong) → is_ok (asked_by lane r) ≡ is_ok r
asked_ok lane (Ok line) = refl
asked_ok lane (Err wrong) = refl

asked_err : (lane : Lane) (r : Result Line Wrong) (w : Wrong) → asked_by lane r ≡ Err w → r ≡ Err w
asked_err lane (Ok line) w e = absurd (cc)
asked_err lane (Err wrong) w e = let h : wrong ≡ w = err_injective e in ap Err h

err_of : (a b : Wrong) → let left : Result Meaning Wrong = Err a in let right : Result Meaning Wrong = Err b in left ≡ right → a ≡ b
err_of a b e = err_injective e

-- A first word that isn't wanted here: it is told whether it is known elsewhere.
module _ (place : Place) (lang : List (List ℕ) → Bool) (word : List ℕ) (words : List (List ℕ))
    (right : (more : List (List ℕ)) × (lang more ≡ true))
    (wrong : (more : List (List ℕ)) → lang (word ∷ more) ≡ false)
    (wanted : (good : List ℕ) → is_word_of place good ≡ true → (more : List (List ℕ)) × (lang (good ∷ more) ≡ true)) where
  misplaced_fine : (known : Bool) → is_known word ≡ known → (w : Wrong) → misplaced place (word ∷ words) known ≡ Err w → Fine lang (word ∷ words) w
  misplaced_fine true is w e =
      let P : Wrong → Type 0 = λ u. Fine lang (word ∷ words) u in
      subst P (err_of (wrong_at (word ∷ words) 0 (WordElsewhere place)) w e) (record {
        before = [];
        from = word ∷ words;
        parts = refl;
        size = refl;
        right = right;
        wrong = λ first others more same. ap (λ f. lang (f ∷ more)) (sym (ap (λ ws. get_or ws 0 []) same)) ∙ wrong more;
        lacks = λ none. absurd (cc);
        says = is;
        wanted = wanted;
      })
  misplaced_fine false is w e =
      let P : Wrong → Type 0 = λ u. Fine lang (word ∷ words) u in
      subst P (err_of (wrong_at (word ∷ words) 0 (UnknownWord place)) w e) (record {
        before = [];
        from = word ∷ words;
        parts = refl;
        size = refl;
        right = right;
        wrong = λ first others more same. ap (λ f. lang (f ∷ more)) (sym (ap (λ ws. get_or ws 0 []) same)) ∙ wrong more;
        lacks = λ none. absurd (cc);
        says = is;
        wanted = wanted;
      })

word_missing : (place : Place) (lang : List (List ℕ) → Bool) → (more : List (List ℕ)) × (lang more ≡ true) → lang [] ≡ false
    → (w : Wrong) → wrong_at [] 0 (Missing Word) ≡ w → Fine lang [] w
word_missing place lang right empty w e =
    let P : Wrong → Type 0 = λ u. Fine lang [] u in
    subst P e (record {
      before = [];
      from = [];
      parts = refl;
      size = refl;
      right = right;
      wrong = λ first others more is. absurd (cc);
      lacks = λ none. empty;
      says = tt;
      wanted = λ good does. absurd (true≢false (sym does));
    })

misplaced_bad : (place : Place) (words : List (List ℕ)) (known : Bool) → is_ok (misplaced place words known) ≡ false
misplaced_bad place words true = refl
misplaced_bad place words false = refl

found_one : {X : Type 0} (o : Option X) → is_some o ≡ true → (x : X) × (o ≡ Some x)
found_one None e = absurd (true≢false (sym e))
found_one (Some x) e = (x, refl)

either : (a b : Bool) → (a || b) ≡ true → (a ≡ true) ⊎ (b ≡ true)
either true b h = inl refl
either false b h = inr h

is_word : (word name : List ℕ) → bytes_eq word name ≡ true → word ≡ name
is_word word name same = (bytes_eq-Decides word name).0 same

-- ---- lanes

abbrev lane_lang : Lane → List (List ℕ) → Bool
lane_lang lane words = is_ok (read_lane lane words)

lane_verb_for : (word : List ℕ) (verb : Verb) → verb_in (ToRead ∷ ToWrite ∷ ToFlush ∷ ToFail ∷ []) word ≡ Some verb → is_for_lanes_verb verb ≡ true
lane_verb_for word verb found = by_four (bytes_eq word (codes "read")) (bytes_eq word (codes "write")) (bytes_eq word (codes "flush")) (bytes_eq word (codes "fail")) found
  where
    by_four : (a b c d : Bool) → cond a (Some ToRead) (cond b (Some ToWrite) (cond c (Some ToFlush) (cond d (Some ToFail) None))) ≡ Some verb → is_for_lanes_verb verb ≡ true
    by_four true b c d e = sym (ap (λ o. is_for_lanes_verb (unwrap_or o ToRead)) e)
    by_four false true c d e = sym (ap (λ o. is_for_lanes_verb (unwrap_or o ToRead)) e)
    by_four false false true d e = sym (ap (λ o. is_for_lanes_verb (unwrap_or o ToRead)) e)
    by_four false false false true e = sym (ap (λ o. is_for_lanes_verb (unwrap_or o ToRead)) e)
    by_four false false false false e = absurd (cc)

named_verb : (verb : Verb) → verb_in all_verbs (verb_name verb) ≡ Some verb
named_verb ToCreate = refl
named_verb ToAssemble = refl
named_verb ToRead = refl
named_verb ToWrite = refl
named_verb ToFlush = refl
named_verb ToFail = refl
named_verb ToAdd = refl
named_verb ToStep = refl
named_verb ToWait = refl
named_verb ToSize = refl
named_verb ToGrow = refl
named_verb ToStop = refl
named_verb ToHalt = refl
named_verb ToDetail = refl
named_verb ToMdstat = refl
named_verb ToExamine = refl
named_verb ToAlerts = refl

lane_on : (lane : Lane) (verb : Verb) → is_for_lanes_verb verb ≡ true → (more : List (List ℕ)) → lane_lang lane (verb_name verb ∷ more) ≡ is_ok (read_verb verb more)
lane_on lane verb for_lanes more =
    ap (λ o. is_ok (lane_by lane (verb_name verb ∷ more) more (block_word_in all_block_words (verb_name verb)) o)) (named_verb verb)
    ∙ ap (λ b. is_ok (cond b (asked_by lane (read_verb verb more)) (misplaced InLane (verb_name verb ∷ more) true))) for_lanes
    ∙ asked_ok lane (read_verb verb more)

lane_wants : (lane : Lane) (good : List ℕ) → is_word_of InLane good ≡ true → (more : List (List ℕ)) × (lane_lang lane (good ∷ more) ≡ true)
lane_wants lane good does =
    let found = found_one (verb_in (ToRead ∷ ToWrite ∷ ToFlush ∷ ToFail ∷ []) good) does in
    let on = verb_reach (found.0) in (
      on.0,
      ap (λ g. lane_lang lane (g ∷ on.0)) (verb_in-name (ToRead ∷ ToWrite ∷ ToFlush ∷ ToFail ∷ []) good (found.0) (found.1))
          ∙ lane_on lane (found.0) (lane_verb_for good (found.0) (found.1)) (on.0) ∙ on.1,
    )

lane_reach : (lane : Lane) → (more : List (List ℕ)) × (lane_lang lane more ≡ true)
lane_reach lane = (codes "flush" ∷ [], refl)

lane_fine : (lane : Lane) (words : List (List ℕ)) (w : Wrong) → read_lane lane words ≡ Err w → Fine (lane_lang lane) words w
lane_fine lane [] w told = word_missing InLane (lane_lang lane) (lane_reach lane) refl w (err_injective told)
lane_fine lane (word ∷ words) w told = by_word (block_word_in all_block_words word) refl (verb_in all_verbs word) refl told
  where
    by_lane : (verb : Verb) → verb_in all_verbs word ≡ Some verb → (b : Bool) → is_for_lanes_verb verb ≡ b
        → cond b (asked_by lane (read_verb verb words)) (misplaced InLane (word ∷ words) true) ≡ Err w → Fine (lane_lang lane) (word ∷ words) w
    by_lane verb found true is e =
        fine_behind word (lane_lang lane) (λ ws. is_ok (read_verb verb ws))
        (λ ws. ap (λ f. lane_lang lane (f ∷ ws)) (verb_in-name all_verbs word verb found) ∙ lane_on lane verb is ws)
        (verb_fine verb words w (asked_err lane (read_verb verb words) w e))
    by_lane verb found false is e =
        misplaced_fine InLane (lane_lang lane) word words (lane_reach lane)
        (λ more.
        ap (λ o. is_ok (lane_by lane (word ∷ more) more (block_word_in all_block_words word) o)) found
        ∙ ap (λ b. is_ok (cond b (asked_by lane (read_verb verb more)) (misplaced InLane (word ∷ more) true))) is)
        (lane_wants lane) true (ap (λ o. is_some o || is_some (block_word_in all_block_words word)) found) w e

    by_word : (known : Option BlockWord) → block_word_in all_block_words word ≡ known → (o : Option Verb) → verb_in all_verbs word ≡ o
        → lane_by lane (word ∷ words) words known o ≡ Err w → Fine (lane_lang lane) (word ∷ words) w
    by_word known is (Some verb) found e = by_lane verb found (is_for_lanes_verb verb) refl e
    by_word known is None none e =
        misplaced_fine InLane (lane_lang lane) word words (lane_reach lane)
        (λ more. ap (λ o. is_ok (lane_by lane (word ∷ more) more (block_word_in all_block_words word) o)) none ∙ misplaced_bad InLane (word ∷ more) (is_some (block_word_in all_block_words word)))
        (lane_wants lane) (is_some known) (ap₂ (λ o k. is_some o || is_some k) none is) w e

-- ---- outside a block

abbrev outside_lang : List (List ℕ) → Bool
outside_lang words = is_ok (read_outside words)

outside_on : (verb : Verb) (more : List (List ℕ)) → outside_lang (verb_name verb ∷ more) ≡ is_ok (read_verb verb more)
outside_on verb more =
    ap (λ o. is_ok (outside_by (verb_name verb ∷ more) more (block_word_in all_block_words (verb_name verb)) o)) (named_verb verb)
    ∙ asked_ok Script (read_verb verb more)

outside_wants : (good : List ℕ) → is_word_of Outside good ≡ true → (more : List (List ℕ)) × (outside_lang (good ∷ more) ≡ true)
outside_wants good does = by_cases (either (is_some (verb_in all_verbs good)) (bytes_eq good (codes "together")) does)
  where
    by_cases : (is_some (verb_in all_verbs good) ≡ true) ⊎ (bytes_eq good (codes "together") ≡ true) → (more : List (List ℕ)) × (outside_lang (good ∷ more) ≡ true)
    by_cases (inl some) =
        let found = found_one (verb_in all_verbs good) some in
        let on = verb_reach (found.0) in
        (on.0, ap (λ g. outside_lang (g ∷ on.0)) (verb_in-name all_verbs good (found.0) (found.1)) ∙ outside_on (found.0) (on.0) ∙ on.1)
    by_cases (inr same) = ([], ap (λ g. outside_lang (g ∷ [])) (is_word good (codes "together") same))

outside_reach : (more : List (List ℕ)) × (outside_lang more ≡ true)
outside_reach = (codes "flush" ∷ [], refl)

outside_fine : (words : List (List ℕ)) (w : Wrong) → read_outside words ≡ Err w → Fine outside_lang words w
outside_fine [] w told = word_missing Outside outside_lang outside_reach refl w (err_injective told)
outside_fine (word ∷ words) w told = by_word (block_word_in all_block_words word) refl (verb_in all_verbs word) refl told
  where
    elsewhere : (known : Option BlockWord) → block_word_in all_block_words word ≡ known → verb_in all_verbs word ≡ None
        → ((more : List (List ℕ)) → outside_by (word ∷ more) more known None ≡ misplaced Outside (word ∷ more) (is_some known))
        → misplaced Outside (word ∷ words) (is_some known) ≡ Err w → Fine outside_lang (word ∷ words) w
    elsewhere known is none same e =
        misplaced_fine Outside outside_lang word words outside_reach
        (λ more. ap₂ (λ k o. is_ok (outside_by (word ∷ more) more k o)) is none ∙ ap is_ok (same more) ∙ misplaced_bad Outside (word ∷ more) (is_some known))
        outside_wants (is_some known) (ap₂ (λ o k. is_some o || is_some k) none is) w e

    by_word : (known : Option BlockWord) → block_word_in all_block_words word ≡ known → (o : Option Verb) → verb_in all_verbs word ≡ o
        → outside_by (word ∷ words) words known o ≡ Err w → Fine outside_lang (word ∷ words) w
    by_word known is (Some verb) found e =
        fine_behind word outside_lang (λ ws. is_ok (read_verb verb ws))
        (λ ws. ap (λ f. outside_lang (f ∷ ws)) (verb_in-name all_verbs word verb found) ∙ outside_on verb ws)
        (verb_fine verb words w (asked_err Script (read_verb verb words) w e))
    by_word (Some Together) is None none e =
        fine_behind word outside_lang (λ ws. is_ok (end_of Opens ws))
        (λ ws. ap₂ (λ k o. is_ok (outside_by (word ∷ ws) ws k o)) is none) (end_fine Opens words w e)
    by_word (Some NameA) is None none e = elsewhere (Some NameA) is none (λ more. refl) e
    by_word (Some NameB) is None none e = elsewhere (Some NameB) is none (λ more. refl) e
    by_word (Some End) is None none e = elsewhere (Some End) is none (λ more. refl) e
    by_word None is None none e = elsewhere None is none (λ more. refl) e

-- ---- in a block

abbrev inside_lang : List (List ℕ) → Bool
inside_lang words = is_ok (read_inside words)

inside_wants : (good : List ℕ) → is_word_of Block good ≡ true → (more : List (List ℕ)) × (inside_lang (good ∷ more) ≡ true)
inside_wants good does = by_cases (either (bytes_eq good (codes "a:")) (bytes_eq good (codes "b:") || bytes_eq good (codes "end")) does)
  where
    by_last : (bytes_eq good (codes "b:") ≡ true) ⊎ (bytes_eq good (codes "end") ≡ true) → (more : List (List ℕ)) × (inside_lang (good ∷ more) ≡ true)
    by_last (inl b) = (codes "flush" ∷ [], ap (λ g. inside_lang (g ∷ codes "flush" ∷ [])) (is_word good (codes "b:") b))
    by_last (inr last) = ([], ap (λ g. inside_lang (g ∷ [])) (is_word good (codes "end") last))

    by_cases : (bytes_eq good (codes "a:") ≡ true) ⊎ ((bytes_eq good (codes "b:") || bytes_eq good (codes "end")) ≡ true) → (more : List (List ℕ)) × (inside_lang (good ∷ more) ≡ true)
    by_cases (inl a) = (codes "flush" ∷ [], ap (λ g. inside_lang (g ∷ codes "flush" ∷ [])) (is_word good (codes "a:") a))
    by_cases (inr others) = by_last (either (bytes_eq good (codes "b:")) (bytes_eq good (codes "end")) others)

inside_reach : (more : List (List ℕ)) × (inside_lang more ≡ true)
inside_reach = (codes "end" ∷ [], refl)

known_or : (a b : Bool) → b ≡ true → (a || b) ≡ true
known_or true b h = refl
known_or false b h = h

inside_fine : (words : List (List ℕ)) (w : Wrong) → read_inside words ≡ Err w → Fine inside_lang words w
inside_fine [] w told = word_missing Block inside_lang inside_reach refl w (err_injective told)
inside_fine (word ∷ words) w told = by_word (verb_in all_verbs word) refl (block_word_in all_block_words word) refl told
  where
    elsewhere : (known : Bool) → is_known word ≡ known → (o : Option BlockWord) → block_word_in all_block_words word ≡ o
        → ((more : List (List ℕ)) → is_ok (inside_by (word ∷ more) more (verb_in all_verbs word) o) ≡ false)
        → misplaced Block (word ∷ words) known ≡ Err w → Fine inside_lang (word ∷ words) w
    elsewhere known is o found bad e =
        misplaced_fine Block inside_lang word words inside_reach
        (λ more. ap (λ k. is_ok (inside_by (word ∷ more) more (verb_in all_verbs word) k)) found ∙ bad more)
        inside_wants known is w e

    on : (found : BlockWord) → block_word_in all_block_words word ≡ Some found → (next : List (List ℕ) → Bool)
        → ((ws : List (List ℕ)) → is_ok (inside_by (word ∷ ws) ws (verb_in all_verbs word) (Some found)) ≡ next ws)
        → Fine next words w → Fine inside_lang (word ∷ words) w
    on found is next same fine =
        fine_behind word inside_lang next (λ ws. ap (λ k. is_ok (inside_by (word ∷ ws) ws (verb_in all_verbs word) k)) is ∙ same ws) fine

    by_word : (verb : Option Verb) → verb_in all_verbs word ≡ verb → (o : Option BlockWord) → block_word_in all_block_words word ≡ o
        → inside_by (word ∷ words) words verb o ≡ Err w → Fine inside_lang (word ∷ words) w
    by_word verb is (Some NameA) found e = on NameA found (lane_lang A) (λ ws. refl) (lane_fine A words w e)
    by_word verb is (Some NameB) found e = on NameB found (lane_lang B) (λ ws. refl) (lane_fine B words w e)
    by_word verb is (Some End) found e = on End found (λ ws. is_ok (end_of (Asks Worker Wait) ws)) (λ ws. refl) (end_fine (Asks Worker Wait) words w e)
    by_word verb is (Some Together) found e =
        elsewhere true (known_or (is_some (verb_in all_verbs word)) (is_some (block_word_in all_block_words word)) (ap is_some found)) (Some Together) found (λ more. refl) e
    by_word verb is None found e =
        elsewhere (is_some verb) (ap₂ (λ o k. is_some o || is_some k) is found ∙ or_false (is_some verb)) None found
        (λ more. misplaced_bad Block (word ∷ more) (is_some (verb_in all_verbs word))) e
      where
        or_false : (b : Bool) → (b || false) ≡ b
        or_false true = refl
        or_false false = refl

pub words_fine : (inside : Bool) (words : List (List ℕ)) (w : Wrong) → read_words inside words ≡ Err w → Fine (λ ws. is_ok (read_words inside ws)) words w
words_fine true words w told = inside_fine words w told
words_fine false words w told = outside_fine words w told
