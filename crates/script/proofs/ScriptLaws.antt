-- What is known of a script once its first lines were read.
use Rattle.std.proofs.Common.{◌≡◌, ℕ, ◌+◌, ◌<◌, ◌≤◌, Bool, true, false, cond, ◌||◌, ltb, leb, List, [], ◌∷◌, ◌++◌, length, take, get_or, refl, sym, ap, ap₂, ◌∙◌, subst, arith, Some, None, Option, Ok, Err, zero-add, append_assoc}
use Rattle.std.proofs.lemmas.Bool.Decides.{nat_tests}
use Rattle.std.proofs.lemmas.List.{take_more, take_all, length-take-le, append-nil, get_or_default}
use Rattle.std.proofs.lemmas.List.Elements.{filter_map-append}
use Rattle.std.proofs.lemmas.List.Sums.{sum_by-append, fold_more}
use Rattle.std.specs.List.{enumerate_from, filter_map, cons_option, fold, scan, AllPass}
use Rattle.std.specs.Option.{option_to_list}
use Rattle.history.specs.raid_types_Search.{least_below}
use Rattle.script.proofs.TurnLaws.{outside_lane, asked_within_limits, asked_by_lanes, asked_in_turn}
use Rattle.script_words.proofs.LeastLaws.{least_below-reached, least_below-passed}
use Rattle.script.specs.Grammar.{meaning_of}
use Rattle.script.specs.Script.{most_lines, most_bytes, most_sectors, lines_of, numbered, is_inside_after, is_inside, meanings, asked, in_turn, sectors_of, total_sectors, is_refused, is_bad, unless_bad, script_with, is_within_limits, may_ask, are_in_turn}
use Rattle.script.specs.declared.lines.Line.{Line}
use Rattle.script.specs.declared.lines.Numbered.{Numbered}
use Rattle.script.specs.declared.grammar.Meaning.{Meaning}
use Rattle.script.specs.declared.grammar.Meaning.TheVariants.{Asks}
use Rattle.script.specs.declared.reply.Lane.{Lane}
use Rattle.script.specs.declared.reply.Lane.TheVariants.{Script, A, B, Worker}

enumerate_from-push : {X : Type 0} (n : ℕ) (xs : List X) (y : X)
    → enumerate_from n (xs ++ y ∷ []) ≡ enumerate_from n xs ++ (n + length xs, y) ∷ []
enumerate_from-push n [] y = let e : n ≡ n + 0 = omega arith in ap (λ k. (k, y) ∷ []) e
enumerate_from-push n (x ∷ xs) y =
    let e : n + 1 + length xs ≡ n + length (x ∷ xs) = omega arith in
    ap (λ rest. (n, x) ∷ rest) (enumerate_from-push (n + 1) xs y ∙ ap (λ k. enumerate_from (n + 1) xs ++ (k, y) ∷ []) e)

scan-push : {S X Y : Type 0} (next : S → X → S) (out : S → X → Y) (s : S) (xs : List X) (y : X)
    → scan next out s (xs ++ y ∷ []) ≡ scan next out s xs ++ out (fold next s xs) y ∷ []
scan-push next out s [] y = refl
scan-push next out s (x ∷ xs) y = ap (λ rest. out s x ∷ rest) (scan-push next out (next s x) xs y)

length-scan : {S X Y : Type 0} (next : S → X → S) (out : S → X → Y) (s : S) (xs : List X) → length (scan next out s xs) ≡ length xs
length-scan next out s [] = refl
length-scan next out s (x ∷ xs) = let e = length-scan next out (next s x) xs in omega (arith, e)

cons_option-nil : {X : Type 0} (o : Option X) → cons_option o [] ≡ option_to_list o
cons_option-nil None = refl
cons_option-nil (Some x) = refl

abbrev next : Bool → List ℕ → Bool
next inside line = is_inside_after inside (meaning_of inside line)

-- the meaning of the line behind the first k
abbrev pub meaning_at : List (List ℕ) → ℕ → Meaning
meaning_at lines k = meaning_of (is_inside (take k lines)) (get_or lines k [])

-- one line more
pub asked-more : (lines : List (List ℕ)) (k : ℕ) → k < length lines
    → asked (take (k + 1) lines) ≡ asked (take k lines) ++ option_to_list (numbered (k + 1) (meaning_at lines k))
asked-more lines k within =
    let size = length-take-le k lines (omega arith) in
    let same = length-scan next meaning_of false (take k lines) in
    let number : 1 + length (meanings (take k lines)) ≡ k + 1 = omega (arith, size, same) in
    ap asked (take_more lines k [] within)
    ∙ ap (λ ms. filter_map (λ p. numbered (p.0) (p.1)) (enumerate_from 1 ms)) (scan-push next meaning_of false (take k lines) (get_or lines k []))
    ∙ ap (filter_map (λ p. numbered (p.0) (p.1))) (enumerate_from-push 1 (meanings (take k lines)) (meaning_at lines k))
    ∙ filter_map-append (λ p. numbered (p.0) (p.1)) (enumerate_from 1 (meanings (take k lines))) ((1 + length (meanings (take k lines)), meaning_at lines k) ∷ [])
    ∙ ap (λ rest. asked (take k lines) ++ rest) (cons_option-nil (numbered (1 + length (meanings (take k lines))) (meaning_at lines k))
    ∙ ap (λ n. option_to_list (numbered n (meaning_at lines k))) number)

pub inside-more : (lines : List (List ℕ)) (k : ℕ) → k < length lines
    → is_inside (take (k + 1) lines) ≡ is_inside_after (is_inside (take k lines)) (meaning_at lines k)
inside-more lines k within = fold_more next false lines k [] within

-- what is known once the first k lines were read and none was bad
pub record SoFar (blocks : Bool) (lines : List (List ℕ)) (k : ℕ) (script waiting : List Numbered) (inside : Bool) (sectors : ℕ) : Type 0 where
  pub turns : (more : List Numbered) → in_turn [] (asked (take k lines) ++ more) ≡ script ++ in_turn waiting more
  pub inside_is : inside ≡ is_inside (take k lines)
  pub none_waiting : inside ≡ false → waiting ≡ []
  pub sectors_are : sectors ≡ total_sectors (asked (take k lines))
  pub few_sectors : sectors ≤ most_sectors
  pub few_lines : k ≤ most_lines
  pub none_bad : least_below k (is_bad blocks lines) ≡ None

pub so_far-start : (blocks : Bool) (lines : List (List ℕ)) → SoFar blocks lines 0 [] [] false 0
unfolding least_below
so_far-start blocks lines = record {
  turns = λ more. refl;
  inside_is = refl;
  none_waiting = λ e. refl;
  sectors_are = refl;
  few_sectors = omega arith;
  few_lines = omega arith;
  none_bad = refl;
}

module _ {blocks : Bool} {lines : List (List ℕ)} {k : ℕ} {script waiting : List Numbered} {inside : Bool} {sectors : ℕ} (so_far : SoFar blocks lines k script waiting inside sectors) (within : k < length lines) where
  -- what the line behind them means
  pub meaning-here : (meaning : Meaning) → meaning ≡ meaning_of inside (get_or lines k []) → meaning ≡ meaning_at lines k
  meaning-here meaning means = means ∙ ap (λ i. meaning_of i (get_or lines k [])) so_far.inside_is

  at_line : (meaning : Meaning) → meaning ≡ meaning_of inside (get_or lines k []) → k < most_lines
      → is_bad blocks lines k ≡ is_refused blocks (asked (take k lines)) meaning
  at_line meaning means few =
      let t : leb most_lines k ≡ false = grind (arith, nat_tests) in
      ap (λ b. b || is_refused blocks (asked (take k lines)) (meaning_at lines k)) t
      ∙ ap (is_refused blocks (asked (take k lines))) (sym (meaning-here meaning means))

  pub so_far-bad : (meaning : Meaning) → meaning ≡ meaning_of inside (get_or lines k []) → k < most_lines
      → is_refused blocks (asked (take k lines)) meaning ≡ true → least_below (length lines) (is_bad blocks lines) ≡ Some k
  so_far-bad meaning means few refused =
      least_below-reached (length lines) (is_bad blocks lines) k within so_far.none_bad (at_line meaning means few ∙ refused)

  pub so_far-long : most_lines ≤ k → least_below (length lines) (is_bad blocks lines) ≡ Some k
  so_far-long many =
      let t : leb most_lines k ≡ true = grind (arith, nat_tests) in
      least_below-reached (length lines) (is_bad blocks lines) k within so_far.none_bad
      (ap (λ b. b || is_refused blocks (asked (take k lines)) (meaning_at lines k)) t)

  more-asked : (meaning : Meaning) → meaning ≡ meaning_of inside (get_or lines k [])
      → asked (take (k + 1) lines) ≡ asked (take k lines) ++ option_to_list (numbered (k + 1) meaning)
  more-asked meaning means =
      asked-more lines k within ∙ ap (λ m. asked (take k lines) ++ option_to_list (numbered (k + 1) m)) (sym (meaning-here meaning means))

  more-inside : (meaning : Meaning) → meaning ≡ meaning_of inside (get_or lines k [])
      → is_inside_after inside meaning ≡ is_inside (take (k + 1) lines)
  more-inside meaning means = ap₂ is_inside_after so_far.inside_is (meaning-here meaning means) ∙ sym (inside-more lines k within)

  -- a line that asks nothing and isn't refused
  pub so_far-silent : (meaning : Meaning) → meaning ≡ meaning_of inside (get_or lines k []) → k < most_lines
      → numbered (k + 1) meaning ≡ None → is_refused blocks (asked (take k lines)) meaning ≡ false
      → (is_inside_after inside meaning ≡ false → inside ≡ false)
      → SoFar blocks lines (k + 1) script waiting (is_inside_after inside meaning) sectors
  so_far-silent meaning means few none taken stays =
      let same : asked (take (k + 1) lines) ≡ asked (take k lines) =
      more-asked meaning means ∙ ap (λ o. asked (take k lines) ++ option_to_list o) none ∙ append-nil (asked (take k lines)) in
      record {
        turns = λ more. ap (λ ls. in_turn [] (ls ++ more)) same ∙ so_far.turns more;
        inside_is = more-inside meaning means;
        none_waiting = λ e. so_far.none_waiting (stays e);
        sectors_are = so_far.sectors_are ∙ ap total_sectors (sym same);
        few_sectors = so_far.few_sectors;
        few_lines = omega arith;
        none_bad = least_below-passed (is_bad blocks lines) k so_far.none_bad (at_line meaning means few ∙ taken);
      }

  -- a line that asks something, which stays below the limit
  pub so_far-asked : (lane : Lane) (line : Line) (new_script new_waiting : List Numbered) → Asks lane line ≡ meaning_of inside (get_or lines k []) → k < most_lines
      → sectors + sectors_of line ≤ most_sectors
      → ((more : List Numbered) → new_script ++ in_turn new_waiting more ≡ script ++ in_turn waiting (record { number = k + 1; lane = lane; line = line } ∷ more))
      → (is_inside_after inside (Asks lane line) ≡ false → new_waiting ≡ [])
      → SoFar blocks lines (k + 1) new_script new_waiting (is_inside_after inside (Asks lane line)) (sectors + sectors_of line)
  so_far-asked lane line new_script new_waiting means few fits turn stays =
      let first : Numbered = record { number = k + 1; lane = lane; line = line } in
      let longer = more-asked (Asks lane line) means in
      record {
        turns = λ more.
            ap (λ ls. in_turn [] (ls ++ more)) longer ∙ ap (in_turn []) (append_assoc (asked (take k lines)) (first ∷ []) more)
            ∙ so_far.turns (first ∷ more) ∙ sym (turn more);
        inside_is = more-inside (Asks lane line) means;
        none_waiting = stays;
        sectors_are =
            ap (λ n. n + sectors_of line) so_far.sectors_are
            ∙ sym (ap total_sectors longer ∙ sum_by-append (λ (n : Numbered). sectors_of n.line) (asked (take k lines)) (first ∷ [])
            ∙ ap (λ n. total_sectors (asked (take k lines)) + n) (zero-add (sectors_of line)));
        few_sectors = fits;
        few_lines = omega arith;
        none_bad = least_below-passed (is_bad blocks lines) k so_far.none_bad (at_line (Asks lane line) means few ∙ taken so_far.sectors_are);
      }
    where
      taken : sectors ≡ total_sectors (asked (take k lines)) → is_refused blocks (asked (take k lines)) (Asks lane line) ≡ false
      taken are = grind (arith, nat_tests)

  -- none of lane b waits once the text is outside a block
  pub none_left : (lane : Lane) (line : Line) (new_waiting : List Numbered) → Asks lane line ≡ meaning_of inside (get_or lines k [])
      → (lane ≡ Worker → new_waiting ≡ []) → (lane ≡ Script → new_waiting ≡ waiting) → is_inside_after inside (Asks lane line) ≡ false → new_waiting ≡ []
  none_left lane line new_waiting means ended kept = by_lane lane ended (λ h. kept (outside h) ∙ so_far.none_waiting h)
    where
      outside : inside ≡ false → lane ≡ Script
      outside h = outside_lane (get_or lines k []) lane line (sym (means ∙ ap (λ i. meaning_of i (get_or lines k [])) h))

      by_lane : (l : Lane) → (l ≡ Worker → new_waiting ≡ []) → (inside ≡ false → new_waiting ≡ []) → is_inside_after inside (Asks l line) ≡ false → new_waiting ≡ []
      by_lane Worker worker others h = worker refl
      by_lane Script worker others h = others h
      by_lane A worker others h = others h
      by_lane B worker others h = others h

  -- a line past the limit is refused
  pub past_limit : (lane : Lane) (line : Line) → most_sectors < sectors + sectors_of line → is_refused blocks (asked (take k lines)) (Asks lane line) ≡ true
  past_limit lane line past = over so_far.sectors_are
    where
      over : sectors ≡ total_sectors (asked (take k lines)) → is_refused blocks (asked (take k lines)) (Asks lane line) ≡ true
      over are = grind (arith, nat_tests)

-- The whole script.
pub too_long : (blocks : Bool) (text : List ℕ) → most_bytes < length text → script_with blocks text ≡ Err 0
unfolding script_with
too_long blocks text long =
    let t : ltb most_bytes (length text) ≡ true = grind (arith, nat_tests) in
    ap (λ b. cond b (Err 0) (unless_bad (least_below (length (lines_of text)) (is_bad blocks (lines_of text))) (lines_of text))) t

pub by_lines : (blocks : Bool) (text : List ℕ) → length text ≤ most_bytes
    → script_with blocks text ≡ unless_bad (least_below (length (lines_of text)) (is_bad blocks (lines_of text))) (lines_of text)
unfolding script_with
by_lines blocks text short =
    let t : ltb most_bytes (length text) ≡ false = grind (arith, nat_tests) in
    ap (λ b. cond b (Err 0) (unless_bad (least_below (length (lines_of text)) (is_bad blocks (lines_of text))) (lines_of text))) t

pub bad_at : (blocks : Bool) (text : List ℕ) (k : ℕ) → length text ≤ most_bytes → least_below (length (lines_of text)) (is_bad blocks (lines_of text)) ≡ Some k
    → script_with blocks text ≡ Err (k + 1)
bad_at blocks text k short found = by_lines blocks text short ∙ ap (λ o. unless_bad o (lines_of text)) found

module _ {blocks : Bool} (text : List ℕ) {k : ℕ} {script waiting : List Numbered} {inside : Bool} {sectors : ℕ} (short : length text ≤ most_bytes) (so_far : SoFar blocks (lines_of text) k script waiting inside sectors) (all : k ≡ length (lines_of text)) where
  all_lines : take k (lines_of text) ≡ lines_of text
  all_lines = take_all k (lines_of text) (omega (arith, all))

  ended : script_with blocks text ≡ cond inside (Err (k + 1)) (Ok (in_turn [] (asked (take k (lines_of text)))))
  ended =
      by_lines blocks text short
      ∙ ap (λ o. unless_bad o (lines_of text)) (ap (λ n. least_below n (is_bad blocks (lines_of text))) (sym all) ∙ so_far.none_bad)
      ∙ ap₂ (λ (ls : List (List ℕ)) (n : ℕ). cond (is_inside ls) (Err (n + 1)) (Ok (in_turn [] (asked ls)))) (sym all_lines) (sym all)
      ∙ ap (λ i. cond i (Err (k + 1)) (Ok (in_turn [] (asked (take k (lines_of text)))))) (sym so_far.inside_is)

  pub unended : inside ≡ true → script_with blocks text ≡ Err (k + 1)
  unended open_block = ended ∙ ap (λ i. cond i (Err (k + 1)) (Ok (in_turn [] (asked (take k (lines_of text)))))) open_block

  in_order : inside ≡ false → in_turn [] (asked (take k (lines_of text))) ≡ script
  in_order closed =
      ap (in_turn []) (sym (append-nil (asked (take k (lines_of text))))) ∙ so_far.turns []
      ∙ ap (λ ws. script ++ in_turn ws []) (so_far.none_waiting closed) ∙ append-nil script

  pub all_read : inside ≡ false → script_with blocks text ≡ Ok script
  all_read closed =
      ended ∙ ap (λ i. cond i (Err (k + 1)) (Ok (in_turn [] (asked (take k (lines_of text)))))) closed ∙ ap Ok (in_order closed)

  pub all_within : inside ≡ false → AllPass (λ n. is_within_limits n.line) script
  all_within closed = subst (AllPass (λ n. is_within_limits n.line)) (in_order closed) (asked_within_limits (take k (lines_of text)))

  pub all_by_lanes : inside ≡ false → AllPass (λ n. may_ask n.lane n.line) script
  all_by_lanes closed = subst (AllPass (λ n. may_ask n.lane n.line)) (in_order closed) (asked_by_lanes (take k (lines_of text)))

  pub all_in_turn : inside ≡ false → are_in_turn Script script ≡ true
  all_in_turn closed = ap (are_in_turn Script) (sym (in_order closed)) ∙ asked_in_turn (take k (lines_of text)) (sym so_far.inside_is ∙ closed)

-- what a turn of the loop over the lines tells
pub at_turn : (lines : List (List ℕ)) (i : ℕ) (line : List ℕ) → (i < length lines) × (line ≡ get_or lines i line) → (i < length lines) × (line ≡ get_or lines i [])
at_turn lines i line turn = (turn.0, turn.1 ∙ get_or_default lines i line [] (turn.0))
