-- Keys are read up to the first word that is wrong.
use Rattle.std.proofs.Common.{◌≡◌, ℕ, ◌+◌, ◌-◌, ◌^◌, Bool, true, false, ◌&&◌, ◌||◌, not, cond, List, [], ◌∷◌, ◌++◌, length, take, drop, get_or, map, Option, Some, None, Result, Ok, Err, ◌⊎◌, inl, inr, refl, sym, ap, ap₂, subst, ◌∙◌, arith, true≢false, codes, append_assoc}
use Rattle.std.specs.Option.{option_map, is_some, unwrap_or}
use Rattle.std.specs.Result.{result_ok, is_ok}
use Rattle.std.specs.List.{list_all, list_any}
use Rattle.std.specs.Str.{bytes_eq}
use Rattle.std.proofs.lemmas.Slice.Eq.{bytes_eq-Decides}
use Rattle.script_words.specs.raid_types_the_WishedLayout.{WishedLayout}
use Rattle.script_words.specs.Keys.{behind, has_key, is_given, values_of}
use Rattle.script_words.specs.Numbers.{number_below}
use Rattle.script_words.specs.Shapes.{shape_from}
use Rattle.script.specs.Grammar.{create_keys}
use Rattle.script.specs.Tables.{keys_of, key_name, key_in}
use Rattle.script.specs.Mistakes.{Says, would_do}
use Rattle.script.specs.Reading.{goes_on, wrong_at, wrongly, small, judge_number, judge_layout, judge_wish, has_given, give, take_by, take_key, read_keys, nothing_given, create_with, create_line, create_from, wish_line, grow_from}
use Rattle.script.specs.declared.keyed.Given.{Given}
use Rattle.script.specs.declared.lines.Line.{Line}
use Rattle.script.specs.declared.mistakes.Mistake.{Mistake}
use Rattle.script.specs.declared.mistakes.Mistake.TheVariants.{Missing, MissingKey, UnknownKey, TwiceKey}
use Rattle.script.specs.declared.mistakes.Value.TheVariants.{AnyKey}
use Rattle.script.specs.declared.mistakes.Wrong.{Wrong}
use Rattle.script.specs.declared.tables.Verb.{Verb}
use Rattle.script.specs.declared.tables.Verb.TheVariants.{Create as ToCreate, Grow as ToGrow}
use Rattle.script.specs.declared.tables.Key.{Key}
use Rattle.script.specs.declared.tables.Key.TheVariants.{Level, Disks, Chunk, Layout, LayoutWish, Size, Offset}
use Rattle.script.proofs.KeyLaws.{create_rest, given_values, no_disks, no_size, array_of_rest, array_resumed, array_by, not_empty, finished, wish_done, begins_with, resumed}
use Rattle.script.proofs.WrongLaws.{Fine, IsJudge, err_injective, or_true, ok_value}
use Rattle.script.proofs.JudgeLaws.{number_judge, small_judge, layout_judge, wish_judge}

-- ---- the key with which a word begins

some_injective : {X : Type 0} {x y : X} → Some x ≡ Some y → x ≡ y
some_injective {x = x} e = ap (λ o. unwrap_or o x) e

key_in-some : (keys : List Key) (word : List ℕ) (key : Key) → key_in keys word ≡ Some key → is_some (behind (key_name key) word) ≡ true
key_in-some [] word key found = absurd (cc)
key_in-some (first ∷ keys) word key found = by_first (is_some (behind (key_name first) word)) refl found (key_in-some keys word key)
  where
    by_first : (b : Bool) → is_some (behind (key_name first) word) ≡ b → cond b (Some first) (key_in keys word) ≡ Some key
        → (key_in keys word ≡ Some key → is_some (behind (key_name key) word) ≡ true) → is_some (behind (key_name key) word) ≡ true
    by_first true is here later = ap (λ k. is_some (behind (key_name k) word)) (sym (some_injective here)) ∙ is
    by_first false is here later = later here

key_in-none : (keys : List Key) (word : List ℕ) → key_in keys word ≡ None → has_key (map key_name keys) word ≡ false
key_in-none [] word none = refl
key_in-none (first ∷ keys) word none = by_first (is_some (behind (key_name first) word)) refl none (key_in-none keys word)
  where
    by_first : (b : Bool) → is_some (behind (key_name first) word) ≡ b → cond b (Some first) (key_in keys word) ≡ None
        → (key_in keys word ≡ None → has_key (map key_name keys) word ≡ false) → (is_some (behind (key_name first) word) || has_key (map key_name keys) word) ≡ false
    by_first true is here later = absurd (cc)
    by_first false is here later = ap₂ (λ p q. p || q) is (later here)

key_in-takes : (takes : Key → Bool) (keys : List Key) (word : List ℕ) (key : Key) → list_all takes keys ≡ true → key_in keys word ≡ Some key → takes key ≡ true
key_in-takes takes [] word key all found = absurd (cc)
key_in-takes takes (first ∷ keys) word key all found = by_first (is_some (behind (key_name first) word)) (takes first) refl (list_all takes keys) refl all found (key_in-takes takes keys word key)
  where
    by_first : (b t : Bool) → takes first ≡ t → (l : Bool) → list_all takes keys ≡ l → (t && l) ≡ true → cond b (Some first) (key_in keys word) ≡ Some key
        → (list_all takes keys ≡ true → key_in keys word ≡ Some key → takes key ≡ true) → takes key ≡ true
    by_first true true is l el both here later = ap takes (sym (some_injective here)) ∙ is
    by_first false true is l el both here later = later (el ∙ both) here
    by_first b false is l el both here later = absurd (true≢false (sym both))

-- ---- what a key is given

given_err : {A : Type 0} (r : Result A Mistake) (set : A → Given) (mistake : Mistake) → goes_on r (λ x. Ok (set x)) ≡ Err mistake → r ≡ Err mistake
given_err (Ok x) set mistake e = absurd (cc)
given_err (Err m) set mistake e = let h : m ≡ mistake = err_injective e in ap Err h

given_ok : {A : Type 0} (r : Result A Mistake) (set : A → Given) → is_ok r ≡ true → let into : Result Given Mistake = goes_on r (λ x. Ok (set x)) in is_ok into ≡ true
given_ok (Ok x) set e = refl
given_ok (Err m) set e = absurd (true≢false (sym e))

given_set : {A : Type 0} (r : Result A Mistake) (set : A → Given) (more : Given) → goes_on r (λ x. Ok (set x)) ≡ Ok more → (x : A) × (set x ≡ more)
given_set (Ok x) set more e = (x, ap (λ (q : Result Given Mistake). result_or q (set x)) e)
  where
    result_or : Result Given Mistake → Given → Given
    result_or (Ok g) d = g
    result_or (Err m) d = d
given_set (Err m) set more e = absurd (cc)

large_judge : IsJudge (judge_number 0 (2 ^ 64 - 1))
large_judge = number_judge 0 (2 ^ 64 - 1) (codes "0") refl

give_truth : (g : Given) (key : Key) (word : List ℕ) (mistake : Mistake) → give g key word ≡ Err mistake
    → (lang : List (List ℕ) → Bool) (before : List (List ℕ)) → Says lang before word mistake
give_truth g Level word mistake e lang before = small_judge.truth lang before word mistake (given_err (small word) (λ n. record g { level = Some n }) mistake e)
give_truth g Disks word mistake e lang before = small_judge.truth lang before word mistake (given_err (small word) (λ n. record g { disks = Some n }) mistake e)
give_truth g Chunk word mistake e lang before = small_judge.truth lang before word mistake (given_err (small word) (λ n. record g { chunk = Some n }) mistake e)
give_truth g Layout word mistake e lang before = layout_judge.truth lang before word mistake (given_err (judge_layout word) (λ n. record g { layout = Some n }) mistake e)
give_truth g LayoutWish word mistake e lang before = wish_judge.truth lang before word mistake (given_err (judge_wish word) (λ n. record g { layout_wish = Some n }) mistake e)
give_truth g Size word mistake e lang before = large_judge.truth lang before word mistake (given_err (judge_number 0 (2 ^ 64 - 1) word) (λ n. record g { size = Some n }) mistake e)
give_truth g Offset word mistake e lang before = large_judge.truth lang before word mistake (given_err (judge_number 0 (2 ^ 64 - 1) word) (λ n. record g { offset = Some n }) mistake e)

give_wants : (g : Given) (key : Key) (word : List ℕ) (mistake : Mistake) (good : List ℕ) → give g key word ≡ Err mistake → would_do mistake good ≡ true → is_ok (give g key good) ≡ true
give_wants g Level word mistake good e does = given_ok (small good) (λ n. record g { level = Some n }) (small_judge.wants word mistake good (given_err (small word) (λ n. record g { level = Some n }) mistake e) does)
give_wants g Disks word mistake good e does = given_ok (small good) (λ n. record g { disks = Some n }) (small_judge.wants word mistake good (given_err (small word) (λ n. record g { disks = Some n }) mistake e) does)
give_wants g Chunk word mistake good e does = given_ok (small good) (λ n. record g { chunk = Some n }) (small_judge.wants word mistake good (given_err (small word) (λ n. record g { chunk = Some n }) mistake e) does)
give_wants g Layout word mistake good e does = given_ok (judge_layout good) (λ n. record g { layout = Some n }) (layout_judge.wants word mistake good (given_err (judge_layout word) (λ n. record g { layout = Some n }) mistake e) does)
give_wants g LayoutWish word mistake good e does = given_ok (judge_wish good) (λ n. record g { layout_wish = Some n }) (wish_judge.wants word mistake good (given_err (judge_wish word) (λ n. record g { layout_wish = Some n }) mistake e) does)
give_wants g Size word mistake good e does = given_ok (judge_number 0 (2 ^ 64 - 1) good) (λ n. record g { size = Some n }) (large_judge.wants word mistake good (given_err (judge_number 0 (2 ^ 64 - 1) word) (λ n. record g { size = Some n }) mistake e) does)
give_wants g Offset word mistake good e does = given_ok (judge_number 0 (2 ^ 64 - 1) good) (λ n. record g { offset = Some n }) (large_judge.wants word mistake good (given_err (judge_number 0 (2 ^ 64 - 1) word) (λ n. record g { offset = Some n }) mistake e) does)

-- what stands in the slots then stood there before, or is of this key
abbrev Known : Given → Key → Given → Key → Type 0
Known g key more other = has_given more other ≡ true → (has_given g other ≡ true) ⊎ (other ≡ key)

known_level : (g : Given) (x : ℕ) (other : Key) → Known g Level (record g { level = Some x }) other
known_level g x Level h = inr refl
known_level g x Disks h = inl h
known_level g x Chunk h = inl h
known_level g x Layout h = inl h
known_level g x LayoutWish h = inl h
known_level g x Size h = inl h
known_level g x Offset h = inl h

known_disks : (g : Given) (x : ℕ) (other : Key) → Known g Disks (record g { disks = Some x }) other
known_disks g x Level h = inl h
known_disks g x Disks h = inr refl
known_disks g x Chunk h = inl h
known_disks g x Layout h = inl h
known_disks g x LayoutWish h = inl h
known_disks g x Size h = inl h
known_disks g x Offset h = inl h

known_chunk : (g : Given) (x : ℕ) (other : Key) → Known g Chunk (record g { chunk = Some x }) other
known_chunk g x Level h = inl h
known_chunk g x Disks h = inl h
known_chunk g x Chunk h = inr refl
known_chunk g x Layout h = inl h
known_chunk g x LayoutWish h = inl h
known_chunk g x Size h = inl h
known_chunk g x Offset h = inl h

known_layout : (g : Given) (x : ℕ) (other : Key) → Known g Layout (record g { layout = Some x }) other
known_layout g x Level h = inl h
known_layout g x Disks h = inl h
known_layout g x Chunk h = inl h
known_layout g x Layout h = inr refl
known_layout g x LayoutWish h = inl h
known_layout g x Size h = inl h
known_layout g x Offset h = inl h

known_layout_wish : (g : Given) (x : WishedLayout) (other : Key) → Known g LayoutWish (record g { layout_wish = Some x }) other
known_layout_wish g x Level h = inl h
known_layout_wish g x Disks h = inl h
known_layout_wish g x Chunk h = inl h
known_layout_wish g x Layout h = inl h
known_layout_wish g x LayoutWish h = inr refl
known_layout_wish g x Size h = inl h
known_layout_wish g x Offset h = inl h

known_size : (g : Given) (x : ℕ) (other : Key) → Known g Size (record g { size = Some x }) other
known_size g x Level h = inl h
known_size g x Disks h = inl h
known_size g x Chunk h = inl h
known_size g x Layout h = inl h
known_size g x LayoutWish h = inl h
known_size g x Size h = inr refl
known_size g x Offset h = inl h

known_offset : (g : Given) (x : ℕ) (other : Key) → Known g Offset (record g { offset = Some x }) other
known_offset g x Level h = inl h
known_offset g x Disks h = inl h
known_offset g x Chunk h = inl h
known_offset g x Layout h = inl h
known_offset g x LayoutWish h = inl h
known_offset g x Size h = inl h
known_offset g x Offset h = inr refl

give_known : (g : Given) (key : Key) (value : List ℕ) (more : Given) → give g key value ≡ Ok more → (other : Key) → Known g key more other
give_known g Level value more e other =
    let set = given_set (small value) (λ n. record g { level = Some n }) more e in
    subst (λ m. Known g Level m other) (set.1) (known_level g (set.0) other)
give_known g Disks value more e other =
    let set = given_set (small value) (λ n. record g { disks = Some n }) more e in
    subst (λ m. Known g Disks m other) (set.1) (known_disks g (set.0) other)
give_known g Chunk value more e other =
    let set = given_set (small value) (λ n. record g { chunk = Some n }) more e in
    subst (λ m. Known g Chunk m other) (set.1) (known_chunk g (set.0) other)
give_known g Layout value more e other =
    let set = given_set (judge_layout value) (λ n. record g { layout = Some n }) more e in
    subst (λ m. Known g Layout m other) (set.1) (known_layout g (set.0) other)
give_known g LayoutWish value more e other =
    let set = given_set (judge_wish value) (λ n. record g { layout_wish = Some n }) more e in
    subst (λ m. Known g LayoutWish m other) (set.1) (known_layout_wish g (set.0) other)
give_known g Size value more e other =
    let set = given_set (judge_number 0 (2 ^ 64 - 1) value) (λ n. record g { size = Some n }) more e in
    subst (λ m. Known g Size m other) (set.1) (known_size g (set.0) other)
give_known g Offset value more e other =
    let set = given_set (judge_number 0 (2 ^ 64 - 1) value) (λ n. record g { offset = Some n }) more e in
    subst (λ m. Known g Offset m other) (set.1) (known_offset g (set.0) other)

-- ---- one word

module _ (verb : Verb) (takes : Key → Bool) (all_taken : list_all takes (keys_of verb) ≡ true)
    (with_value : (key : Key) → takes key ≡ true → (good : List ℕ) → key_in (keys_of verb) (key_name key ++ good) ≡ Some key)
    (behind_key : (key : Key) (good : List ℕ) → drop (length (key_name key)) (key_name key ++ good) ≡ good) where
  -- a word of keys is taken alike, whatever stands behind
  took_by : (g : Given) (word : List ℕ) (words others : List (List ℕ)) (o : Option Key) (more : Given)
      → take_by g verb word words o ≡ Ok more → take_by g verb word others o ≡ Ok more
  took_by g word words others None more e = absurd (cc)
  took_by g word words others (Some key) more e = by_given (has_given g key) (give g key (drop (length (key_name key)) word)) e
    where
      by_given : (b : Bool) (r : Result Given Mistake)
          → cond b (Err (wrong_at words 0 (TwiceKey key))) (wrongly words (length (key_name key)) r) ≡ Ok more
          → cond b (Err (wrong_at others 0 (TwiceKey key))) (wrongly others (length (key_name key)) r) ≡ Ok more
      by_given true r e = absurd (cc)
      by_given false (Ok x) e = e
      by_given false (Err m) e = absurd (cc)

  -- what is refused of it
  pub record Refused (g : Given) (seen : List (List ℕ)) (word : List ℕ) (lang : List (List ℕ) → Bool) (v : Wrong) : Type 0 where
    pub always : (words : List (List ℕ)) → is_ok (take_key g verb word words) ≡ false
    pub says : Says lang seen (drop v.skip word) v.mistake
    pub wants : (good : List ℕ) → would_do v.mistake good ≡ true → (words : List (List ℕ)) → is_ok (take_key g verb (take v.skip word ++ good) words) ≡ true

  refused : (g : Given) (seen : List (List ℕ)) (word : List ℕ) (words : List (List ℕ)) (lang : List (List ℕ) → Bool) (v : Wrong)
      → ((key : Key) → has_given g key ≡ true → is_given (key_name key) seen ≡ true)
      → take_key g verb word words ≡ Err v → Refused g seen word lang v × (v.left ≡ length words)
  refused g seen word words lang v known e = by_key (key_in (keys_of verb) word) refl e
    where
      by_give : (key : Key) → key_in (keys_of verb) word ≡ Some key → has_given g key ≡ false → (r : Result Given Mistake) → give g key (drop (length (key_name key)) word) ≡ r
          → wrongly words (length (key_name key)) r ≡ Err v → Refused g seen word lang v × (v.left ≡ length words)
      by_give key found free (Ok x) is told = absurd (cc)
      by_give key found free (Err m) is told =
          let P : Wrong → Type 0 = λ u. Refused g seen word lang u × (u.left ≡ length words) in
          let n = length (key_name key) in
          let first : take n word ≡ key_name key = (bytes_eq-Decides (take n word) (key_name key)).0 (sym (begins_with (key_name key) word) ∙ key_in-some (keys_of verb) word key found) in
          let taken = key_in-takes takes (keys_of verb) word key all_taken found in
          subst P (err_injective told) (
            record {
              always = λ ws.
                  ap (λ o. is_ok (take_by g verb word ws o)) found
                  ∙ ap₂ (λ b r. is_ok (cond b (Err (wrong_at ws 0 (TwiceKey key))) (wrongly ws n r))) free is;
              says = give_truth g key (drop n word) m is lang seen;
              wants = λ good does ws.
                  let right = give_wants g key (drop n word) m good is does in
                  let more = ok_value (give g key good) right in
                  ap (λ f. is_ok (take_by g verb (f ++ good) ws (key_in (keys_of verb) (f ++ good)))) first
                  ∙ ap (λ o. is_ok (take_by g verb (key_name key ++ good) ws o)) (with_value key taken good)
                  ∙ ap (λ b. is_ok (cond b (Err (wrong_at ws 0 (TwiceKey key))) (wrongly ws n (give g key (drop n (key_name key ++ good)))))) free
                  ∙ ap (λ value. is_ok (wrongly ws n (give g key value))) (behind_key key good)
                  ∙ ap (λ r. is_ok (wrongly ws n r)) (more.1);
            },
            refl,
          )

      by_given : (key : Key) → key_in (keys_of verb) word ≡ Some key → (b : Bool) → has_given g key ≡ b
          → cond b (Err (wrong_at words 0 (TwiceKey key))) (wrongly words (length (key_name key)) (give g key (drop (length (key_name key)) word))) ≡ Err v
          → Refused g seen word lang v × (v.left ≡ length words)
      by_given key found true twice told =
          let P : Wrong → Type 0 = λ u. Refused g seen word lang u × (u.left ≡ length words) in
          subst P (err_injective told) (
            record {
              always = λ ws.
                  ap (λ o. is_ok (take_by g verb word ws o)) found
                  ∙ ap (λ b. is_ok (cond b (Err (wrong_at ws 0 (TwiceKey key))) (wrongly ws (length (key_name key)) (give g key (drop (length (key_name key)) word))))) twice;
              says = ap₂ (λ p q. p && q) (key_in-some (keys_of verb) word key found) (known key twice);
              wants = λ good does ws. absurd (true≢false (sym does));
            },
            refl,
          )
      by_given key found false free told = by_give key found free (give g key (drop (length (key_name key)) word)) refl told

      by_key : (o : Option Key) → key_in (keys_of verb) word ≡ o → take_by g verb word words o ≡ Err v → Refused g seen word lang v × (v.left ≡ length words)
      by_key None none told =
          let P : Wrong → Type 0 = λ u. Refused g seen word lang u × (u.left ≡ length words) in
          subst P (err_injective told) (
            record {
              always = λ ws. ap (λ o. is_ok (take_by g verb word ws o)) none;
              says = key_in-none (keys_of verb) word none;
              wants = λ good does ws. absurd (true≢false (sym does));
            },
            refl,
          )
      by_key (Some key) found told = by_given key found (has_given g key) refl told

  -- what is known of the slots, with one word more
  any_push : (p : List ℕ → Bool) (seen : List (List ℕ)) (word : List ℕ) → list_any p (seen ++ word ∷ []) ≡ (list_any p seen || p word)
  any_push p [] word = by_bool (p word)
    where
      by_bool : (b : Bool) → (b || false) ≡ b
      by_bool true = refl
      by_bool false = refl
  any_push p (first ∷ seen) word = ap (λ b. p first || b) (any_push p seen word) ∙ sym (by_bool (p first))
    where
      by_bool : (b : Bool) → ((b || list_any p seen) || p word) ≡ (b || (list_any p seen || p word))
      by_bool true = refl
      by_bool false = refl

  more_known : (g more : Given) (seen : List (List ℕ)) (word : List ℕ) (words : List (List ℕ))
      → ((key : Key) → has_given g key ≡ true → is_given (key_name key) seen ≡ true) → take_key g verb word words ≡ Ok more
      → (key : Key) → has_given more key ≡ true → is_given (key_name key) (seen ++ word ∷ []) ≡ true
  more_known g more seen word words known e key has = by_key (key_in (keys_of verb) word) refl e
    where
      push : (k : Key) → is_given (key_name k) (seen ++ word ∷ []) ≡ (is_given (key_name k) seen || is_some (behind (key_name k) word))
      push k = any_push (λ w. is_some (behind (key_name k) w)) seen word

      left_true : (a b : Bool) → a ≡ true → (a || b) ≡ true
      left_true true b h = refl
      left_true false b h = absurd (true≢false (sym h))

      by_slot : (first : Key) → key_in (keys_of verb) word ≡ Some first → (has_given g key ≡ true) ⊎ (key ≡ first) → is_given (key_name key) (seen ++ word ∷ []) ≡ true
      by_slot first found (inl old) = push key ∙ left_true (is_given (key_name key) seen) (is_some (behind (key_name key) word)) (known key old)
      by_slot first found (inr new) =
          push key ∙ or_true (is_given (key_name key) seen) (is_some (behind (key_name key) word))
          (ap (λ k. is_some (behind (key_name k) word)) new ∙ key_in-some (keys_of verb) word first found)

      ok_injective : (a b : Given) → let left : Result Given Wrong = Ok a in let right : Result Given Wrong = Ok b in left ≡ right → a ≡ b
      ok_injective a b h = ap (λ (q : Result Given Wrong). unwrap_or (result_ok q) a) h

      by_given : (first : Key) → key_in (keys_of verb) word ≡ Some first → (b : Bool) (r : Result Given Mistake) → give g first (drop (length (key_name first)) word) ≡ r
          → cond b (Err (wrong_at words 0 (TwiceKey first))) (wrongly words (length (key_name first)) r) ≡ Ok more → is_given (key_name key) (seen ++ word ∷ []) ≡ true
      by_given first found true r is told = absurd (cc)
      by_given first found false (Err m) is told = absurd (cc)
      by_given first found false (Ok x) is told =
          by_slot first found (give_known g first (drop (length (key_name first)) word) x is key (ap (λ m. has_given m key) (ok_injective x more told) ∙ has))

      by_key : (o : Option Key) → key_in (keys_of verb) word ≡ o → take_by g verb word words o ≡ Ok more → is_given (key_name key) (seen ++ word ∷ []) ≡ true
      by_key None none told = absurd (cc)
      by_key (Some first) found told = by_given first found (has_given g first) (give g first (drop (length (key_name first)) word)) refl told

  -- ---- all words

  module _ (done : Given → Result Line Wrong) (lang : List (List ℕ) → Bool)
      (reach : (g : Given) → (more : List (List ℕ)) × (is_ok (goes_on (read_keys verb g more) done) ≡ true))
      (missing : (g : Given) (w : Wrong) → done g ≡ Err w
      → (key : Key) × (w ≡ wrong_at [] 0 (MissingKey key)) × ((more : List (List ℕ)) → is_ok (goes_on (read_keys verb g more) done) ≡ true → is_given (key_name key) more ≡ true)) where
    abbrev run : Given → List (List ℕ) → Result Line Wrong
    run g words = goes_on (read_keys verb g words) done

    runs_on : (g more : Given) (word : List ℕ) (words others : List (List ℕ)) → take_key g verb word words ≡ Ok more → run g (word ∷ others) ≡ run more others
    runs_on g more word words others e =
        ap (λ r. goes_on (goes_on r (λ x. read_keys verb x others)) done) (took_by g word words (word ∷ others) (key_in (keys_of verb) word) more e)

    stops : (g : Given) (word : List ℕ) (others : List (List ℕ)) → is_ok (take_key g verb word (word ∷ others)) ≡ false → is_ok (run g (word ∷ others)) ≡ false
    stops g word others e = by_result (take_key g verb word (word ∷ others)) e
      where
        by_result : (r : Result Given Wrong) → is_ok r ≡ false → is_ok (goes_on (goes_on r (λ x. read_keys verb x others)) done) ≡ false
        by_result (Ok x) h = absurd (true≢false h)
        by_result (Err w) h = refl

    pub keys_fine : (words seen : List (List ℕ)) (g : Given) (w : Wrong)
        → ((key : Key) → has_given g key ≡ true → is_given (key_name key) seen ≡ true)
        → (more : List (List ℕ)) × (lang (seen ++ more) ≡ true)
        → ((word : List ℕ) (others : List (List ℕ)) → lang (seen ++ word ∷ others) ≡ is_ok (run g (word ∷ others)))
        → (words ≡ [] → lang (seen ++ []) ≡ is_ok (run g []))
        → run g words ≡ Err w → Fine lang (seen ++ words) w
    keys_fine [] seen g w known hope tie ended told =
        let lacking = missing g w told in
        let nothing : lang (seen ++ []) ≡ false = ended refl ∙ ap is_ok told in
        let P : Wrong → Type 0 = λ u. Fine lang (seen ++ []) u in
        subst P (sym (lacking.1)) (record {
          before = seen;
          from = [];
          parts = refl;
          size = refl;
          right = hope;
          wrong = λ first others more is. absurd (cc);
          lacks = λ none. nothing;
          says = by_more nothing (lacking.0) (lacking.2);
          wanted = λ good does. absurd (true≢false (sym does));
        })
      where
        by_more : lang (seen ++ []) ≡ false → (key : Key) → ((more : List (List ℕ)) → is_ok (run g more) ≡ true → is_given (key_name key) more ≡ true)
            → (more : List (List ℕ)) → lang (seen ++ more) ≡ true → is_given (key_name key) more ≡ true
        by_more nothing key given [] h = absurd (true≢false (sym h ∙ nothing))
        by_more nothing key given (word ∷ more) h = given (word ∷ more) (sym (tie word more) ∙ h)
    keys_fine (word ∷ words) seen g w known hope tie ended told = by_word (take_key g verb word (word ∷ words)) refl told (keys_fine words (seen ++ word ∷ []))
      where
        by_word : (r : Result Given Wrong) → take_key g verb word (word ∷ words) ≡ r → goes_on (goes_on r (λ x. read_keys verb x words)) done ≡ Err w
            → ((more : Given) (v : Wrong) → ((key : Key) → has_given more key ≡ true → is_given (key_name key) (seen ++ word ∷ []) ≡ true)
            → (on : List (List ℕ)) × (lang ((seen ++ word ∷ []) ++ on) ≡ true)
            → ((next : List ℕ) (others : List (List ℕ)) → lang ((seen ++ word ∷ []) ++ next ∷ others) ≡ is_ok (run more (next ∷ others)))
            → (words ≡ [] → lang ((seen ++ word ∷ []) ++ []) ≡ is_ok (run more []))
            → run more words ≡ Err v → Fine lang ((seen ++ word ∷ []) ++ words) v)
            → Fine lang (seen ++ word ∷ words) w
        by_word (Err v) is e later =
            let why = refused g seen word (word ∷ words) lang v known is in
            subst (λ u. Fine lang (seen ++ word ∷ words) u) (err_injective e) (record {
              before = seen;
              from = word ∷ words;
              parts = refl;
              size = why.1;
              right = hope;
              wrong = λ first others more same.
                  ap (λ f. lang (seen ++ f ∷ more)) (sym (ap (λ ws. get_or ws 0 []) same))
                  ∙ tie word more ∙ stops g word more (why.0.always (word ∷ more));
              lacks = λ none. absurd (cc);
              says = why.0.says;
              wanted = λ good does.
                  let mended = take v.skip word ++ good in
                  let taken = ok_value (take_key g verb mended (mended ∷ [])) (why.0.wants good does (mended ∷ [])) in
                  let on = reach (taken.0) in
                  (on.0, tie mended (on.0) ∙ ap is_ok (runs_on g (taken.0) mended (mended ∷ []) (on.0) (taken.1)) ∙ on.1);
            })
        by_word (Ok more) is e later =
            let on = reach more in
            let seam = λ (ws : List (List ℕ)). append_assoc seen (word ∷ []) ws in
            subst (λ ws. Fine lang ws w) (seam words)
            (later more w
            (more_known g more seen word (word ∷ words) known is)
            (on.0, ap lang (seam (on.0)) ∙ tie word (on.0) ∙ ap is_ok (runs_on g more word (word ∷ words) (on.0) is) ∙ on.1)
            (λ next others. ap lang (seam (next ∷ others)) ∙ tie word (next ∷ others) ∙ ap is_ok (runs_on g more word (word ∷ words) (next ∷ others) is))
            (λ none. ap lang (seam []) ∙ tie word [] ∙ ap is_ok (runs_on g more word (word ∷ words) [] is))
            e)
