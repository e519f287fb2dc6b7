-- The lines of a script, read one after another, up to the first that is bad.
use Rattle.std.proofs.Common.{◌≡◌, ◌≢◌, ℕ, ◌+◌, ◌<◌, ◌≤◌, Bool, true, false, ◌||◌, not, cond, leb, ltb, List, [], ◌∷◌, ◌++◌, length, take, get_or, Option, Some, None, Result, Ok, Err, refl, sym, ap, ap₂, ◌∙◌, arith, true≢false, append-nil, zero-add}
use Rattle.std.proofs.lemmas.Bool.Decides.{nat_tests}
use Rattle.std.proofs.lemmas.List.{take_all}
use Rattle.std.proofs.lemmas.List.Sums.{sum_by-append}
use Rattle.std.specs.Option.{option_to_list}
use Rattle.std.specs.Result.{is_ok}
use Rattle.script.specs.Grammar.{meaning_of}
use Rattle.script.specs.Script.{lines_of, most_bytes, most_lines, most_sectors, is_inside, is_inside_after, asked, numbered, total_sectors, sectors_of, is_refused, is_bad, unless_bad, script_with, in_turn}
use Rattle.script.specs.declared.grammar.Meaning.{Meaning}
use Rattle.script.specs.declared.grammar.Meaning.TheVariants.{PassedOver, Opens, Asks, Bad}
use Rattle.script.specs.declared.lines.Numbered.{Numbered}
use Rattle.script.proofs.ScriptLaws.{meaning_at, asked-more, inside-more, by_lines, bad_at, at_turn}
use Rattle.raid_types.specs.Search.{least_below}
use Rattle.script_words.proofs.LeastLaws.{least_below-reached, least_below-passed}
use Rattle.script_mistakes.specs.Reasons.{sectors_in}

-- what is known once the first k lines were read and none was bad
pub record ReadTo (lines : List (List ℕ)) (k : ℕ) (inside : Bool) (sectors : ℕ) : Type 0 where
  pub inside_is : inside ≡ is_inside (take k lines)
  pub sectors_are : sectors ≡ total_sectors (asked (take k lines))
  pub few_sectors : sectors ≤ most_sectors
  pub few_lines : k ≤ most_lines
  pub none_bad : least_below k (is_bad true lines) ≡ None

pub read_to-start : (lines : List (List ℕ)) → ReadTo lines 0 false 0
unfolding least_below
read_to-start lines = record {
  inside_is = refl;
  sectors_are = refl;
  few_sectors = omega arith;
  few_lines = omega arith;
  none_bad = refl;
}

refused_bad : (before : List Numbered) (meaning : Meaning) → meaning ≡ Bad → is_refused true before meaning ≡ true
refused_bad before meaning e = ap (is_refused true before) e

refused_over : (before : List Numbered) (meaning : Meaning) → total_sectors before ≤ most_sectors → most_sectors < total_sectors before + sectors_in meaning → is_refused true before meaning ≡ true
refused_over before PassedOver few over = absurd (omega (arith, few, over))
refused_over before Opens few over = absurd (omega (arith, few, over))
refused_over before Bad few over = absurd (omega (arith, few, over))
refused_over before (Asks lane line) few over = grind (arith, nat_tests)

not_refused : (before : List Numbered) (meaning : Meaning) → meaning ≢ Bad → total_sectors before + sectors_in meaning ≤ most_sectors → is_refused true before meaning ≡ false
not_refused before PassedOver good few = refl
not_refused before Opens good few = refl
not_refused before Bad good few = absurd (good refl)
not_refused before (Asks lane line) good few = grind (arith, nat_tests)

sectors_of_one : (n : ℕ) (before : List Numbered) (meaning : Meaning)
    → total_sectors (before ++ option_to_list (numbered n meaning)) ≡ total_sectors before + sectors_in meaning
sectors_of_one n before PassedOver = ap total_sectors (append-nil before) ∙ (let e : total_sectors before ≡ total_sectors before + 0 = omega arith in e)
sectors_of_one n before Opens = ap total_sectors (append-nil before) ∙ (let e : total_sectors before ≡ total_sectors before + 0 = omega arith in e)
sectors_of_one n before Bad = ap total_sectors (append-nil before) ∙ (let e : total_sectors before ≡ total_sectors before + 0 = omega arith in e)
sectors_of_one n before (Asks lane line) =
    sum_by-append (λ (numbered : Numbered). sectors_of numbered.line) before (record { number = n; lane = lane; line = line } ∷ [])
    ∙ ap (λ n. total_sectors before + n) (zero-add (sectors_of line))

module _ {lines : List (List ℕ)} {k : ℕ} {inside : Bool} {sectors : ℕ} (read : ReadTo lines k inside sectors) (within : k < length lines)
    (meaning : Meaning) (means : meaning ≡ meaning_of inside (get_or lines k [])) where
  here : meaning ≡ meaning_at lines k
  here = means ∙ ap (λ i. meaning_of i (get_or lines k [])) read.inside_is

  at_line : k < most_lines → is_bad true lines k ≡ is_refused true (asked (take k lines)) meaning
  at_line few =
      let t : leb most_lines k ≡ false = grind (arith, nat_tests) in
      ap (λ b. b || is_refused true (asked (take k lines)) (meaning_at lines k)) t ∙ ap (is_refused true (asked (take k lines))) (sym here)

  pub read_to-bad : meaning ≡ Bad → k < most_lines → least_below (length lines) (is_bad true lines) ≡ Some k
  read_to-bad bad few =
      least_below-reached (length lines) (is_bad true lines) k within read.none_bad (at_line few ∙ refused_bad (asked (take k lines)) meaning bad)

  total_here : total_sectors (asked (take k lines)) + sectors_in meaning ≡ sectors + sectors_in meaning
  total_here = ap (λ n. n + sectors_in meaning) (sym read.sectors_are)

  pub read_to-total : total_sectors (asked (take (k + 1) lines)) ≡ sectors + sectors_in meaning
  read_to-total =
      ap total_sectors (asked-more lines k within)
      ∙ ap (λ m. total_sectors (asked (take k lines) ++ option_to_list (numbered (k + 1) m))) (sym here)
      ∙ sectors_of_one (k + 1) (asked (take k lines)) meaning ∙ total_here

  pub read_to-over : most_sectors < sectors + sectors_in meaning → k < most_lines → least_below (length lines) (is_bad true lines) ≡ Some k
  read_to-over over few =
      let few_before : total_sectors (asked (take k lines)) ≤ most_sectors = omega (arith, read.sectors_are, read.few_sectors) in
      let past : most_sectors < total_sectors (asked (take k lines)) + sectors_in meaning = omega (arith, total_here, over) in
      least_below-reached (length lines) (is_bad true lines) k within read.none_bad (at_line few ∙ refused_over (asked (take k lines)) meaning few_before past)

  pub read_to-more : meaning ≢ Bad → k < most_lines → sectors + sectors_in meaning ≤ most_sectors
      → ReadTo lines (k + 1) (is_inside_after inside meaning) (sectors + sectors_in meaning)
  read_to-more good few fits =
      let room : total_sectors (asked (take k lines)) + sectors_in meaning ≤ most_sectors = omega (arith, total_here, fits) in
      record {
        inside_is = ap₂ is_inside_after read.inside_is here ∙ sym (inside-more lines k within);
        sectors_are = sym read_to-total;
        few_sectors = fits;
        few_lines = omega arith;
        none_bad = least_below-passed (is_bad true lines) k read.none_bad (at_line few ∙ not_refused (asked (take k lines)) meaning good room);
      }

pub read_to-long : {lines : List (List ℕ)} {k : ℕ} {inside : Bool} {sectors : ℕ} → ReadTo lines k inside sectors → k < length lines → most_lines ≤ k
    → least_below (length lines) (is_bad true lines) ≡ Some k
read_to-long {lines = lines} {k = k} read within many =
    let t : leb most_lines k ≡ true = grind (arith, nat_tests) in
    least_below-reached (length lines) (is_bad true lines) k within read.none_bad
    (ap (λ b. b || is_refused true (asked (take k lines)) (meaning_at lines k)) t)

module _ (text : List ℕ) {k : ℕ} {inside : Bool} {sectors : ℕ} (short : length text ≤ most_bytes) (read : ReadTo (lines_of text) k inside sectors) (all : k ≡ length (lines_of text)) where
  all_lines : take k (lines_of text) ≡ lines_of text
  all_lines = take_all k (lines_of text) (omega (arith, all))

  pub read_inside : is_inside (lines_of text) ≡ inside
  read_inside = sym (read.inside_is ∙ ap is_inside all_lines)

  ended : script_with true text ≡ cond inside (Err (k + 1)) (Ok (in_turn [] (asked (lines_of text))))
  ended =
      by_lines true text short
      ∙ ap (λ o. unless_bad o (lines_of text)) (ap (λ n. least_below n (is_bad true (lines_of text))) (sym all) ∙ read.none_bad)
      ∙ ap₂ (λ (i : Bool) (n : ℕ). cond i (Err (n + 1)) (Ok (in_turn [] (asked (lines_of text))))) read_inside (sym all)

  pub read_to-open : inside ≡ true → script_with true text ≡ Err (k + 1)
  read_to-open open_block = ended ∙ ap (λ i. cond i (Err (k + 1)) (Ok (in_turn [] (asked (lines_of text))))) open_block

  pub read_to-end : inside ≡ false → is_ok (script_with true text) ≡ true
  read_to-end closed = ap is_ok (ended ∙ ap (λ i. cond i (Err (k + 1)) (Ok (in_turn [] (asked (lines_of text))))) closed)
