-- A line is read up to the first word that is wrong: some line begins with the words before, none with it.
use Rattle.std.proofs.Common.{◌≡◌, ℕ, ◌+◌, ◌-◌, ◌^◌, ◌<◌, ◌≤◌, Bool, true, false, ◌&&◌, ◌||◌, not, cond, ltb, leb, eqb, List, [], ◌∷◌, ◌++◌, length, take, drop, get_or, map, Option, Some, None, Result, Ok, Err, ◌⊎◌, inl, inr, refl, sym, ap, ap₂, subst, ◌∙◌, arith, true≢false, codes, append_assoc, append-nil}
use Rattle.std.specs.Str.{bytes_eq}
use Rattle.std.specs.Option.{option_and_then, option_map, is_some, unwrap_or}
use Rattle.std.specs.Result.{result_ok, is_ok}
use Rattle.std.specs.List.{list_all, list_any}
use Rattle.std.specs.Char.{is_ascii_digit}
use Rattle.std.specs.Str.Parse.{digits_value}
use Rattle.uuid.specs.Text.{parsed}
use Rattle.script_words.specs.Keys.{behind, has_key, is_given}
use Rattle.script_words.specs.Numbers.{is_numeral, number_below}
use Rattle.script_words.specs.Layouts.{layout_named}
use Rattle.script_words.specs.Wishes.{wished_as}
use Rattle.script.specs.Grammar.{limit_given}
use Rattle.script.specs.Tables.{all_verbs, verb_in, verb_name, all_block_words, block_word_in, keys_of, key_name}
use Rattle.script.specs.Mistakes.{Says, would_do, is_number_from, is_layout_of, is_known}
use Rattle.script.specs.Reading.{goes_on, wrong_at, wrongly, within, are_digits, judge_number, judge_limit, judge_uuid, judge_layout, judge_wish, or_mistake, small, at_value, end_of}
use Rattle.script.specs.declared.mistakes.Mistake.{Mistake}
use Rattle.script.specs.declared.mistakes.Mistake.TheVariants.{BadByte, UnknownWord, WordElsewhere, TooMany, Missing, MissingKey, UnknownKey, TwiceKey, NotANumber, LeadingZero, OutOfRange, NotALimit, NotAUuid, NotALayout}
use Rattle.script.specs.declared.mistakes.Value.{Value}
use Rattle.script.specs.declared.mistakes.Wrong.{Wrong}
use Rattle.script.specs.declared.tables.Key.{Key}
use Rattle.script.specs.declared.tables.Key.TheVariants.{Layout, LayoutWish}

-- Where words go wrong of which some lists are whole.
pub record Fine (lang : List (List ℕ) → Bool) (words : List (List ℕ)) (w : Wrong) : Type 0 where
  pub before : List (List ℕ)
  pub from : List (List ℕ)
  pub parts : words ≡ before ++ from
  pub size : w.left ≡ length from
  pub right : (more : List (List ℕ)) × (lang (before ++ more) ≡ true)
  pub wrong : (word : List ℕ) (others more : List (List ℕ)) → from ≡ word ∷ others → lang (before ++ word ∷ more) ≡ false
  pub lacks : from ≡ [] → lang words ≡ false
  pub says : Says lang before (drop w.skip (get_or from 0 [])) w.mistake
  pub wanted : (word : List ℕ) → would_do w.mistake word ≡ true → (more : List (List ℕ)) × (lang (before ++ (take w.skip (get_or from 0 []) ++ word) ∷ more) ≡ true)

pub or_true : (a b : Bool) → b ≡ true → (a || b) ≡ true
or_true true b h = refl
or_true false b h = h

pub and_left : (a b : Bool) → (a && b) ≡ true → a ≡ true
and_left true b h = refl
and_left false b h = h

pub and_right : (a b : Bool) → (a && b) ≡ true → b ≡ true
and_right true b h = h
and_right false b h = absurd (true≢false (sym h))

pub both : (a b : Bool) → a ≡ true → b ≡ true → (a && b) ≡ true
both a b x y = ap₂ (λ p q. p && q) x y

-- ---- with one word before

module _ (word : List ℕ) (lang next : List (List ℕ) → Bool) (agree : (words : List (List ℕ)) → lang (word ∷ words) ≡ next words) where
  says_behind : (before : List (List ℕ)) (wrong : List ℕ) (mistake : Mistake) → Says next before wrong mistake → Says lang (word ∷ before) wrong mistake
  says_behind before wrong (BadByte byte) h = h
  says_behind before wrong (UnknownWord place) h = h
  says_behind before wrong (WordElsewhere place) h = h
  says_behind before wrong TooMany h = agree before ∙ h
  says_behind before wrong (Missing value) h = h
  says_behind before wrong (MissingKey key) h = λ more whole. h more (sym (agree (before ++ more)) ∙ whole)
  says_behind before wrong (UnknownKey verb) h = h
  says_behind before wrong (TwiceKey key) h =
      both (is_some (behind (key_name key) wrong)) (is_some (behind (key_name key) word) || is_given (key_name key) before)
      (and_left (is_some (behind (key_name key) wrong)) (is_given (key_name key) before) h)
      (or_true (is_some (behind (key_name key) word)) (is_given (key_name key) before) (and_right (is_some (behind (key_name key) wrong)) (is_given (key_name key) before) h))
  says_behind before wrong (NotANumber least most) h = h
  says_behind before wrong (LeadingZero least most) h = h
  says_behind before wrong (OutOfRange least most) h = h
  says_behind before wrong NotALimit h = h
  says_behind before wrong NotAUuid h = h
  says_behind before wrong (NotALayout key) h = h

  pub fine_behind : {words : List (List ℕ)} {w : Wrong} → Fine next words w → Fine lang (word ∷ words) w
  fine_behind {words = words} {w = w} fine = record {
    before = word ∷ fine.before;
    from = fine.from;
    parts = ap (λ ws. word ∷ ws) fine.parts;
    size = fine.size;
    right = (fine.right.0, agree (fine.before ++ fine.right.0) ∙ fine.right.1);
    wrong = λ first others more is. agree (fine.before ++ first ∷ more) ∙ fine.wrong first others more is;
    lacks = λ none. agree words ∙ fine.lacks none;
    says = says_behind fine.before (drop w.skip (get_or fine.from 0 [])) w.mistake fine.says;
    wanted = λ good does.
        let on = fine.wanted good does in (on.0, agree (fine.before ++ (take w.skip (get_or fine.from 0 []) ++ good) ∷ on.0) ∙ on.1);
  }

-- ---- at the first word

-- a value's judge tells the truth of a word that it refuses, and takes what it says would do
pub record IsJudge {A : Type 0} (judge : List ℕ → Result A Mistake) : Type 0 where
  pub truth : (lang : List (List ℕ) → Bool) (before : List (List ℕ)) (word : List ℕ) (mistake : Mistake) → judge word ≡ Err mistake → Says lang before word mistake
  pub wants : (word : List ℕ) (mistake : Mistake) (good : List ℕ) → judge word ≡ Err mistake → would_do mistake good ≡ true → is_ok (judge good) ≡ true
  pub sample : List ℕ
  pub taken : is_ok (judge sample) ≡ true

pub ok_value : {A E : Type 0} (r : Result A E) → is_ok r ≡ true → (x : A) × (r ≡ Ok x)
ok_value (Ok x) e = (x, refl)
ok_value (Err e) h = absurd (true≢false (sym h))

pub err_injective : {A : Type 0} {E : Type 0} {a b : E} → let left : Result A E = Err a in let right : Result A E = Err b in left ≡ right → a ≡ b
err_injective {A = A} {E = E} {a = a} e = ap back e
  where
    back : Result A E → E
    back (Ok x) = a
    back (Err e) = e

pub end_fine : {A : Type 0} (meaning : A) (words : List (List ℕ)) (w : Wrong) → end_of meaning words ≡ Err w → Fine (λ ws. is_ok (end_of meaning ws)) words w
end_fine meaning [] w e = absurd (cc)
end_fine {A = A} meaning (word ∷ words) w e =
    subst (λ v. Fine (λ ws. is_ok (end_of meaning ws)) (word ∷ words) v) (err_injective e) here
  where
    here : Fine (λ ws. is_ok (end_of meaning ws)) (word ∷ words) (wrong_at (word ∷ words) 0 TooMany)
    here = record {
      before = [];
      from = word ∷ words;
      parts = refl;
      size = refl;
      right = ([], refl);
      wrong = λ first others more is. refl;
      lacks = λ none. refl;
      says = refl;
      wanted = λ good does. absurd (true≢false (sym does));
    }

module _ {A B : Type 0} (judge : List ℕ → Result A Mistake) (is_judge : IsJudge judge) (value : Value) (next : A → List (List ℕ) → Result B Wrong)
    (reach : (word : List ℕ) (x : A) → judge word ≡ Ok x → (more : List (List ℕ)) × (is_ok (next x more) ≡ true))
    (later : (word : List ℕ) (x : A) → judge word ≡ Ok x → (words : List (List ℕ)) (w : Wrong) → next x words ≡ Err w → Fine (λ ws. is_ok (next x ws)) words w) where
  abbrev pub reads : List (List ℕ) → Result B Wrong
  reads words = goes_on (at_value judge value words) (λ x. next x (drop 1 words))

  abbrev pub whole : List (List ℕ) → Bool
  whole words = is_ok (reads words)

  goes : (good : List ℕ) → is_ok (judge good) ≡ true → (more : List (List ℕ)) × (whole (good ∷ more) ≡ true)
  goes good ok =
      let x = ok_value (judge good) ok in
      let on = reach good (x.0) (x.1) in
      (on.0, ap (λ r. is_ok (goes_on (wrongly (good ∷ on.0) 0 r) (λ v. next v on.0))) (x.1) ∙ on.1)

  pub value_reach : (more : List (List ℕ)) × (whole more ≡ true)
  value_reach = let on = goes is_judge.sample is_judge.taken in (is_judge.sample ∷ on.0, on.1)

  missing_here : Fine whole [] (wrong_at [] 0 (Missing value))
  missing_here = record {
    before = [];
    from = [];
    parts = refl;
    size = refl;
    right = value_reach;
    wrong = λ first others more is. absurd (cc);
    lacks = λ none. refl;
    says = tt;
    wanted = λ good does. absurd (true≢false (sym does));
  }

  refused_here : (word : List ℕ) (words : List (List ℕ)) (mistake : Mistake) → judge word ≡ Err mistake → Fine whole (word ∷ words) (wrong_at (word ∷ words) 0 mistake)
  refused_here word words mistake e = record {
    before = [];
    from = word ∷ words;
    parts = refl;
    size = refl;
    right = value_reach;
    wrong = λ first others more is.
        ap (λ f. whole (f ∷ more)) (sym (ap (λ ws. get_or ws 0 []) is))
        ∙ ap (λ r. is_ok (goes_on (wrongly (word ∷ more) 0 r) (λ v. next v more))) e;
    lacks = λ none. absurd (cc);
    says = is_judge.truth whole [] word mistake e;
    wanted = λ good does. goes good (is_judge.wants word mistake good e does);
  }

  pub value_fine : (words : List (List ℕ)) (w : Wrong) → reads words ≡ Err w → Fine whole words w
  value_fine [] w e = subst (λ v. Fine whole [] v) (err_injective e) missing_here
  value_fine (word ∷ words) w e = by_judge (judge word) refl e
    where
      by_judge : (r : Result A Mistake) → judge word ≡ r → goes_on (wrongly (word ∷ words) 0 r) (λ x. next x words) ≡ Err w → Fine whole (word ∷ words) w
      by_judge (Ok x) is told =
          fine_behind word whole (λ ws. is_ok (next x ws)) (λ ws. ap (λ r. is_ok (goes_on (wrongly (word ∷ ws) 0 r) (λ v. next v ws))) is) (later word x is words w told)
      by_judge (Err mistake) is told = subst (λ v. Fine whole (word ∷ words) v) (err_injective told) (refused_here word words mistake is)
