-- The lines that a script asks, in the order of their replies.
use Rattle.std.proofs.Common.{◌≡◌, ℕ, ◌+◌, ◌++◌, Bool, true, false, cond, not, ◌&&◌, List, [], ◌∷◌, refl, sym, ap, ap₂, ◌∙◌, Option, Some, None}
use Rattle.std.specs.Str.{bytes_eq}
use Rattle.std.specs.List.{list_all, filter_map, scan, fold, cons_option, enumerate_from, AllPass}
use Rattle.std.proofs.lemmas.List.Sums.{AllPass-from_list_all}
use Rattle.std.proofs.lemmas.List.Folds.{list_all-append}
use lib.Chars.{codes}
use Rattle.script_words.specs.Numbers.{words_of}
use Rattle.script.specs.Grammar.{line_of, alone, is_printable, is_passed_over, asks_for, is_for_lanes, for_lanes, inside_of, opens, outside_of, meaning_of}
use Rattle.script.specs.Script.{numbered, asked, is_inside_after, is_inside, is_of_b, is_of_worker, in_turn, is_within_limits, may_ask, may_follow, are_in_turn}
use Rattle.script.specs.declared.lines.Line.{Line}
use Rattle.script.specs.declared.lines.Line.TheVariants.{Wait}
use Rattle.script.specs.declared.lines.Numbered.{Numbered}
use Rattle.script.specs.declared.grammar.Meaning.{Meaning}
use Rattle.script.specs.declared.grammar.Meaning.TheVariants.{PassedOver, Opens, Asks, Bad}
use Rattle.script.specs.declared.reply.Lane.{Lane}
use Rattle.script.specs.declared.reply.Lane.TheVariants.{Script, A, B, Worker}
use Rattle.script.proofs.LimitLaws.{meaning_ok}

both : (a b : Bool) → (a && b) ≡ true → (a ≡ true) × (b ≡ true)
both true b e = (refl, e)
both false b e = absurd (cc)

-- ---- in which lane a line may ask what

-- the lane is one of a block's
abbrev is_of_block : Lane → Bool
is_of_block Script = false
is_of_block lane = true

inside_lane : (words : List (List ℕ)) (lane : Lane) (line : Line) → inside_of words ≡ Asks lane line → (is_of_block lane ≡ true) × (may_ask lane line ≡ true)
inside_lane [] lane line e = absurd (cc)
inside_lane (verb ∷ values) lane line e = by_verbs (bytes_eq verb (codes "a:")) (bytes_eq verb (codes "b:")) (bytes_eq verb (codes "end")) (line_of values) values e
  where
    laned : (l : Line) (b : Bool) → is_for_lanes l ≡ b → cond b (Some l) None ≡ Some line → is_for_lanes line ≡ true
    laned l true is h = let same : l ≡ line = cc in ap is_for_lanes (sym same) ∙ is
    laned l false is h = absurd (cc)

    of_lane : (o : Option Line) → for_lanes o ≡ Some line → is_for_lanes line ≡ true
    of_lane None h = absurd (cc)
    of_lane (Some l) h = laned l (is_for_lanes l) refl h

    asks_some : (l : Lane) (o : Option Line) → asks_for l o ≡ Asks lane line → (l ≡ lane) × (o ≡ Some line)
    asks_some l None h = absurd (cc)
    asks_some l (Some found) h = (cc, cc)

    in_a : (o : Option Line) → asks_for A (for_lanes o) ≡ Asks lane line → (is_of_block lane ≡ true) × (may_ask lane line ≡ true)
    in_a o h = let is = asks_some A (for_lanes o) h in (ap is_of_block (sym (is.0)), ap (λ l. may_ask l line) (sym (is.0)) ∙ of_lane o (is.1))

    in_b : (o : Option Line) → asks_for B (for_lanes o) ≡ Asks lane line → (is_of_block lane ≡ true) × (may_ask lane line ≡ true)
    in_b o h = let is = asks_some B (for_lanes o) h in (ap is_of_block (sym (is.0)), ap (λ l. may_ask l line) (sym (is.0)) ∙ of_lane o (is.1))

    at_end : (vs : List (List ℕ)) → asks_for Worker (alone Wait vs) ≡ Asks lane line → (is_of_block lane ≡ true) × (may_ask lane line ≡ true)
    at_end [] h = let l : Worker ≡ lane = cc in let w : Wait ≡ line = cc in (ap is_of_block (sym l), ap₂ may_ask (sym l) (sym w))
    at_end (v ∷ vs) h = absurd (cc)

    by_verbs : (a b end : Bool) (o : Option Line) (vs : List (List ℕ))
        → cond a (asks_for A (for_lanes o)) (cond b (asks_for B (for_lanes o)) (cond end (asks_for Worker (alone Wait vs)) Bad)) ≡ Asks lane line
        → (is_of_block lane ≡ true) × (may_ask lane line ≡ true)
    by_verbs true b end o vs h = in_a o h
    by_verbs false true end o vs h = in_b o h
    by_verbs false false true o vs h = at_end vs h
    by_verbs false false false o vs h = absurd (cc)

outside_script : (words : List (List ℕ)) (lane : Lane) (line : Line) → outside_of words ≡ Asks lane line → lane ≡ Script
outside_script [] lane line e = absurd (cc)
outside_script (verb ∷ values) lane line e = by_verb (bytes_eq verb (codes "together")) values (line_of (verb ∷ values)) e
  where
    by_verb : (b : Bool) (vs : List (List ℕ)) (o : Option Line) → cond b (opens vs) (asks_for Script o) ≡ Asks lane line → lane ≡ Script
    by_verb true [] o h = absurd (cc)
    by_verb true (v ∷ vs) o h = absurd (cc)
    by_verb false vs None h = absurd (cc)
    by_verb false vs (Some l) h = cc

-- past the tests that come before the words
tested : {P : Type 0} (text : List ℕ) (words : Meaning) (lane : Lane) (line : Line)
    → cond (not (is_printable text)) Bad (cond (is_passed_over text) PassedOver words) ≡ Asks lane line → (words ≡ Asks lane line → P) → P
tested {P = P} text words lane line e then = by_tests (not (is_printable text)) (is_passed_over text) e
  where
    by_tests : (a b : Bool) → cond a Bad (cond b PassedOver words) ≡ Asks lane line → P
    by_tests true b h = absurd (cc)
    by_tests false true h = absurd (cc)
    by_tests false false h = then h

pub outside_lane : (text : List ℕ) (lane : Lane) (line : Line) → meaning_of false text ≡ Asks lane line → lane ≡ Script
outside_lane text lane line e = tested text (outside_of (words_of text)) lane line e (λ h. outside_script (words_of text) lane line h)

block_lane : (text : List ℕ) (lane : Lane) (line : Line) → meaning_of true text ≡ Asks lane line → (is_of_block lane ≡ true) × (may_ask lane line ≡ true)
block_lane text lane line e = tested text (inside_of (words_of text)) lane line e (λ h. inside_lane (words_of text) lane line h)

may_ok : (inside : Bool) (text : List ℕ) (lane : Lane) (line : Line) → meaning_of inside text ≡ Asks lane line → may_ask lane line ≡ true
may_ok true text lane line e = (block_lane text lane line e).1
may_ok false text lane line e = ap (λ l. may_ask l line) (outside_lane text lane line e)

abbrev next : Bool → List ℕ → Bool
next inside line = is_inside_after inside (meaning_of inside line)

-- what the lines ask, from this number on, inside a block or outside
abbrev asked_from : ℕ → Bool → List (List ℕ) → List Numbered
asked_from n inside lines = filter_map (λ p. numbered (p.0) (p.1)) (enumerate_from n (scan next meaning_of inside lines))

-- ---- what holds of each line that is asked, in whatever order

module _ (fits : Numbered → Bool) (each : (inside : Bool) (text : List ℕ) (n : ℕ) (lane : Lane) (line : Line) → meaning_of inside text ≡ Asks lane line → fits (record { number = n; lane = lane; line = line }) ≡ true) where
  numbered_ok : (n : ℕ) (meaning : Meaning) (rest : List Numbered)
      → ((lane : Lane) (line : Line) → meaning ≡ Asks lane line → fits (record { number = n; lane = lane; line = line }) ≡ true)
      → list_all fits rest ≡ true → list_all fits (cons_option (numbered n meaning) rest) ≡ true
  numbered_ok n PassedOver rest here ok = ok
  numbered_ok n Opens rest here ok = ok
  numbered_ok n Bad rest here ok = ok
  numbered_ok n (Asks lane line) rest here ok = ap (λ b. b && list_all fits rest) (here lane line refl) ∙ ok

  asked_ok : (lines : List (List ℕ)) (n : ℕ) (inside : Bool) → list_all fits (asked_from n inside lines) ≡ true
  asked_ok [] n inside = refl
  asked_ok (line ∷ lines) n inside =
      numbered_ok n (meaning_of inside line) (asked_from (n + 1) (next inside line) lines) (each inside line n) (asked_ok lines (n + 1) (next inside line))

  turn_ok : (b w : Bool) (waiting others : List Numbered) (first : Numbered)
      → ((ws : List Numbered) → list_all fits ws ≡ true → list_all fits (in_turn ws others) ≡ true) → list_all fits waiting ≡ true → fits first ≡ true
      → list_all fits (cond b (in_turn (waiting ++ first ∷ []) others) (cond w (waiting ++ first ∷ in_turn [] others) (first ∷ in_turn waiting others))) ≡ true
  turn_ok true w waiting others first rest ok this =
      rest (waiting ++ first ∷ []) (list_all-append fits waiting (first ∷ []) ∙ ap₂ (λ x y. x && (y && true)) ok this)
  turn_ok false true waiting others first rest ok this =
      list_all-append fits waiting (first ∷ in_turn [] others) ∙ ap₂ (λ x y. x && (y && list_all fits (in_turn [] others))) ok this ∙ rest [] refl
  turn_ok false false waiting others first rest ok this = ap (λ y. y && list_all fits (in_turn waiting others)) this ∙ rest waiting ok

  turned_ok : (lines waiting : List Numbered) → list_all fits waiting ≡ true → list_all fits lines ≡ true → list_all fits (in_turn waiting lines) ≡ true
  turned_ok [] waiting ok all = ok
  turned_ok (first ∷ others) waiting ok all =
      let parts = both (fits first) (list_all fits others) all in
      turn_ok (is_of_b first.lane) (is_of_worker first.lane) waiting others first (λ ws h. turned_ok others ws h (parts.1)) ok (parts.0)

  all_fit : (lines : List (List ℕ)) → AllPass fits (in_turn [] (asked lines))
  all_fit lines = AllPass-from_list_all fits (in_turn [] (asked lines)) (turned_ok (asked lines) [] refl (asked_ok lines 1 false))

pub asked_within_limits : (lines : List (List ℕ)) → AllPass (λ n. is_within_limits n.line) (in_turn [] (asked lines))
asked_within_limits lines = all_fit (λ n. is_within_limits n.line) (λ inside text n lane line e. meaning_ok inside text lane line e) lines

pub asked_by_lanes : (lines : List (List ℕ)) → AllPass (λ n. may_ask n.lane n.line) (in_turn [] (asked lines))
asked_by_lanes lines = all_fit (λ n. may_ask n.lane n.line) (λ inside text n lane line e. may_ok inside text lane line e) lines

-- ---- the blocks

follows_b : (former : Lane) → may_follow former B ≡ true
follows_b Script = refl
follows_b A = refl
follows_b B = refl
follows_b Worker = refl

follows_worker : (former : Lane) → may_follow former Worker ≡ true
follows_worker Script = refl
follows_worker A = refl
follows_worker B = refl
follows_worker Worker = refl

only_b : (lane : Lane) → is_of_b lane ≡ true → lane ≡ B
only_b Script e = absurd (cc)
only_b A e = absurd (cc)
only_b B e = refl
only_b Worker e = absurd (cc)

abbrev of_b : Numbered → Bool
of_b n = is_of_b n.lane

-- lines of lane b, and the worker's behind them
block_ends : (ws rest : List Numbered) (former : Lane) (first : Numbered) → list_all of_b ws ≡ true → first.lane ≡ Worker → are_in_turn Worker rest ≡ true
    → are_in_turn former (ws ++ first ∷ rest) ≡ true
block_ends [] rest former first all is ok =
    ap (λ l. may_follow former l && are_in_turn l rest) is ∙ ap₂ (λ x y. x && y) (follows_worker former) ok
block_ends (w ∷ ws) rest former first all is ok =
    let parts = both (of_b w) (list_all of_b ws) all in
    ap₂ (λ x y. x && y) (ap (may_follow former) (only_b w.lane (parts.0)) ∙ follows_b former) (block_ends ws rest w.lane first (parts.1) is ok)

abbrev Turns : List (List ℕ) → Type 0
Turns lines = (n : ℕ) (inside : Bool) (ws : List Numbered) (former : Lane) → list_all of_b ws ≡ true
    → (inside ≡ false → (ws ≡ []) × (may_follow former Script ≡ true)) → may_follow former A ≡ true
    → fold next inside lines ≡ false → are_in_turn former (in_turn ws (asked_from n inside lines)) ≡ true

turns-more : (line : List ℕ) (lines : List (List ℕ)) → Turns lines → Turns (line ∷ lines)
turns-more line lines ih n inside ws former all out behind ends =
    step (meaning_of inside line) (λ lane what e. outside lane what inside e) (λ lane what e. within lane what inside e) ends
  where
    outside : (lane : Lane) (what : Line) (i : Bool) → meaning_of i line ≡ Asks lane what → i ≡ false → lane ≡ Script
    outside lane what true e h = absurd (cc)
    outside lane what false e h = outside_lane line lane what e

    within : (lane : Lane) (what : Line) (i : Bool) → meaning_of i line ≡ Asks lane what → i ≡ true → is_of_block lane ≡ true
    within lane what true e h = (block_lane line lane what e).0
    within lane what false e h = absurd (cc)

    no_block : (i : Bool) → (i ≡ true → false ≡ true) → i ≡ false
    no_block true h = absurd (let e = h refl in cc)
    no_block false h = refl

    in_block : {lane : Lane} (i : Bool) → (i ≡ false → lane ≡ Script) → is_of_block lane ≡ true → i ≡ true
    in_block true h is = refl
    in_block false h is = absurd (let e = ap is_of_block (h refl) in cc)

    step : (m : Meaning) → ((lane : Lane) (what : Line) → m ≡ Asks lane what → inside ≡ false → lane ≡ Script)
        → ((lane : Lane) (what : Line) → m ≡ Asks lane what → inside ≡ true → is_of_block lane ≡ true)
        → fold next (is_inside_after inside m) lines ≡ false
        → are_in_turn former (in_turn ws (cons_option (numbered n m) (asked_from (n + 1) (is_inside_after inside m) lines))) ≡ true
    step PassedOver script block ended = ih (n + 1) inside ws former all out behind ended
    step Bad script block ended = ih (n + 1) inside ws former all out behind ended
    step Opens script block ended = ih (n + 1) true ws former all (λ e. absurd (cc)) behind ended
    step (Asks Script what) script block ended =
        let closed = out (no_block inside (block Script what refl)) in
        ap₂ (λ x y. x && y) (closed.1) (ih (n + 1) inside ws Script all (λ e. (closed.0, refl)) refl ended)
    step (Asks A what) script block ended =
        let opened = in_block inside (script A what refl) refl in
        ap₂ (λ x y. x && y) behind (ih (n + 1) inside ws A all (λ e. absurd (cc)) refl ended)
    step (Asks B what) script block ended =
        let opened = in_block inside (script B what refl) refl in
        let first : Numbered = record { number = n; lane = B; line = what } in
        ih (n + 1) inside (ws ++ first ∷ []) former (list_all-append of_b ws (first ∷ []) ∙ ap (λ x. x && true) all) (λ e. absurd (cc)) behind ended
    step (Asks Worker what) script block ended =
        let first : Numbered = record { number = n; lane = Worker; line = what } in
        block_ends ws (in_turn [] (asked_from (n + 1) false lines)) former first all refl
        (ih (n + 1) false [] Worker refl (λ e. (refl, refl)) refl ended)

turns_ok : (lines : List (List ℕ)) → Turns lines
turns_ok [] = λ n inside ws former all out behind ends.
    let closed = out ends in ap (are_in_turn former) (closed.0) ∙ closed.1
turns_ok (line ∷ lines) = turns-more line lines (turns_ok lines)

pub asked_in_turn : (lines : List (List ℕ)) → is_inside lines ≡ false → are_in_turn Script (in_turn [] (asked lines)) ≡ true
asked_in_turn lines closed = turns_ok lines 1 false [] Script refl (λ e. (refl, refl)) refl closed
