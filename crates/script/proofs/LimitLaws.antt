-- Every line that a script asks is within the limits.
use Rattle.std.proofs.Common.{◌≡◌, ℕ, ◌^◌, Bool, true, false, cond, not, nat_le, List, [], ◌∷◌, refl, sym, ap, ◌∙◌, ◌⊎◌, inl, inr, Option, Some, None, option_map}
use Rattle.std.specs.Str.{bytes_eq}
use Rattle.std.specs.List.{list_all}
use Rattle.std.specs.Option.{option_and_then}
use Rattle.uuid.specs.Text.{parsed}
use lib.Chars.{codes}
use Rattle.history.specs.raid_types_the_Shape.{Shape}
use Rattle.history.specs.raid_types_the_Wish.{Wish}
use Rattle.script_words.specs.Keys.{has_key}
use Rattle.script_words.specs.Numbers.{words_of, number_below}
use Rattle.script_words.specs.Shapes.{shape_of}
use Rattle.script_words.specs.Wishes.{wish_of}
use Rattle.script.specs.Grammar.{is_span, span_of, array_from, array_of, create_keys, create_of, assemble_of, alone, read_of, write_of, fail_of, add_of, step_of, array_size_of, limit_given, grow_of, examine_of, line_of, is_printable, is_passed_over, asks_for, is_for_lanes, for_lanes, inside_of, opens, outside_of, meaning_of}
use Rattle.script.specs.Script.{is_within_limits}
use Rattle.script.specs.declared.reply.Lane.{Lane}
use Rattle.script.specs.declared.reply.Lane.TheVariants.{Script, A, B, Worker}
use Rattle.script.specs.declared.lines.Line.{Line}
use Rattle.script.specs.declared.lines.Line.TheVariants.{Create, Read, Write, Flush, Fail, Add, Step, Wait, ArraySize, Grow, Stop, Halt, Detail, Mdstat, Alerts, Examine, Assemble}
use Rattle.script.specs.declared.grammar.Meaning.{Meaning}
use Rattle.script.specs.declared.grammar.Meaning.TheVariants.{PassedOver, Asks, Bad}

-- Where a chain of choices gives a value.
then_some : {A B : Type 0} (f : A → Option B) (o : Option A) (r : B) → option_and_then f o ≡ Some r → (a : A) × (f a ≡ Some r)
then_some f None r e = absurd (cc)
then_some f (Some a) r e = (a, e)

map_some : {A B : Type 0} (f : A → B) (o : Option A) (r : B) → option_map f o ≡ Some r → (a : A) × (o ≡ Some a) × (f a ≡ r)
map_some f None r e = absurd (cc)
map_some f (Some a) r e = (a, refl, cc)

kept_some : {A : Type 0} (b : Bool) (a r : A) → cond b (Some a) None ≡ Some r → (b ≡ true) × (a ≡ r)
kept_some true a r e = (refl, cc)
kept_some false a r e = absurd (cc)

either_some : {A : Type 0} (b : Bool) (x y : Option A) (r : A) → cond b x y ≡ Some r → (x ≡ Some r) ⊎ (y ≡ Some r)
either_some true x y r e = inl e
either_some false x y r e = inr e

span_ok : (x count : List ℕ) (s : ℕ × ℕ) → span_of x count ≡ Some s → is_span s ≡ true
span_ok x count s e =
    let first = then_some (λ start. option_and_then (λ n. cond (is_span (start, n)) (Some (start, n)) None) (number_below (2 ^ 32) count)) (number_below (2 ^ 64) x) s e in
    let second = then_some (λ n. cond (is_span (first.0, n)) (Some (first.0, n)) None) (number_below (2 ^ 32) count) s (first.1) in
    let kept = kept_some (is_span (first.0, second.0)) (first.0, second.0) s (second.1) in
    ap is_span (sym (kept.1)) ∙ kept.0

read_ok : (values : List (List ℕ)) (line : Line) → read_of values ≡ Some line → is_within_limits line ≡ true
read_ok [] line e = absurd (cc)
read_ok (x ∷ []) line e = absurd (cc)
read_ok (x ∷ count ∷ []) line e =
    let made = map_some (λ (span : ℕ × ℕ). Read (span.0) (span.1)) (span_of x count) line e in
    ap is_within_limits (sym (made.2)) ∙ span_ok x count (made.0) (made.1)
read_ok (x ∷ count ∷ more ∷ rest) line e = absurd (cc)

write_ok : (values : List (List ℕ)) (line : Line) → write_of values ≡ Some line → is_within_limits line ≡ true
write_ok [] line e = absurd (cc)
write_ok (x ∷ []) line e = absurd (cc)
write_ok (x ∷ count ∷ []) line e = absurd (cc)
write_ok (x ∷ count ∷ seed ∷ []) line e = by_span (span_of x count) (λ s h. span_ok x count s h) e
  where
    by_span : (o : Option (ℕ × ℕ)) → ((s : ℕ × ℕ) → o ≡ Some s → is_span s ≡ true)
        → option_and_then (λ span. option_map (λ n. Write (span.0) (span.1) n) (number_below (2 ^ 32) seed)) o ≡ Some line → is_within_limits line ≡ true
    by_span None ok h = absurd (cc)
    by_span (Some s) ok h =
        let made = map_some (λ (n : ℕ). Write (s.0) (s.1) n) (number_below (2 ^ 32) seed) line h in
        ap is_within_limits (sym (made.2)) ∙ ok s refl
write_ok (x ∷ count ∷ seed ∷ more ∷ rest) line e = absurd (cc)

fail_ok : (values : List (List ℕ)) (line : Line) → fail_of values ≡ Some line → is_within_limits line ≡ true
fail_ok [] line e = absurd (cc)
fail_ok (role ∷ []) line e =
    let made = map_some (λ (n : ℕ). Fail n) (number_below (2 ^ 32) role) line e in ap is_within_limits (sym (made.2))
fail_ok (role ∷ more ∷ rest) line e = absurd (cc)

add_ok : (values : List (List ℕ)) (line : Line) → add_of values ≡ Some line → is_within_limits line ≡ true
add_ok [] line e = absurd (cc)
add_ok (slot ∷ []) line e =
    let made = map_some (λ (n : ℕ). Add n) (number_below (2 ^ 32) slot) line e in ap is_within_limits (sym (made.2))
add_ok (slot ∷ more ∷ rest) line e = absurd (cc)

examine_ok : (values : List (List ℕ)) (line : Line) → examine_of values ≡ Some line → is_within_limits line ≡ true
examine_ok [] line e = absurd (cc)
examine_ok (slot ∷ []) line e =
    let made = map_some (λ (n : ℕ). Examine n) (number_below (2 ^ 32) slot) line e in ap is_within_limits (sym (made.2))
examine_ok (slot ∷ more ∷ rest) line e = absurd (cc)

step_ok : (values : List (List ℕ)) (line : Line) → step_of values ≡ Some line → is_within_limits line ≡ true
step_ok [] line e = absurd (cc)
step_ok (most ∷ []) line e =
    let read = then_some (λ n. cond (nat_le 1 n) (Some (Step n)) None) (number_below (2 ^ 32) most) line e in
    let kept = kept_some (nat_le 1 (read.0)) (Step (read.0)) line (read.1) in
    ap is_within_limits (sym (kept.1)) ∙ kept.0
step_ok (most ∷ more ∷ rest) line e = absurd (cc)

array_size_ok : (values : List (List ℕ)) (line : Line) → array_size_of values ≡ Some line → is_within_limits line ≡ true
array_size_ok [] line e = absurd (cc)
array_size_ok (word ∷ []) line e =
    let made = map_some (λ (limit : Option ℕ). ArraySize limit) (limit_given word) line e in ap is_within_limits (sym (made.2))
array_size_ok (word ∷ more ∷ rest) line e = absurd (cc)

grow_ok : (values : List (List ℕ)) (line : Line) → grow_of values ≡ Some line → is_within_limits line ≡ true
grow_ok values line e =
    let made = map_some (λ (wish : Wish). Grow wish) (wish_of values) line e in ap is_within_limits (sym (made.2))

create_ok : (values : List (List ℕ)) (line : Line) → create_of values ≡ Some line → is_within_limits line ≡ true
create_ok [] line e = absurd (cc)
create_ok (uuid ∷ words) line e = by_keys (either_some (list_all (has_key create_keys) words) (array_of uuid words) None line e)
  where
    by_parts : (u : Option (List ℕ)) (s : Option Shape) (a b : Option ℕ) → array_from u s a b ≡ Some line → is_within_limits line ≡ true
    by_parts None s a b h = absurd (cc)
    by_parts (Some u) None a b h = absurd (cc)
    by_parts (Some u) (Some s) None b h = absurd (cc)
    by_parts (Some u) (Some s) (Some a) None h = absurd (cc)
    by_parts (Some u) (Some s) (Some a) (Some b) h =
        let made : Create (record { uuid = u; shape = s; size = a; offset = b }) ≡ line = cc in
        ap is_within_limits (sym made)

    by_keys : (array_of uuid words ≡ Some line) ⊎ (None ≡ Some line) → is_within_limits line ≡ true
    by_keys (inl h) = by_parts (parsed uuid) (shape_of words) _ _ h
    by_keys (inr h) = absurd (cc)

assemble_ok : (values : List (List ℕ)) (line : Line) → assemble_of values ≡ Some line → is_within_limits line ≡ true
assemble_ok [] line e = let made : Assemble None ≡ line = cc in ap is_within_limits (sym made)
assemble_ok (uuid ∷ []) line e =
    let made = map_some (λ (bytes : List ℕ). Assemble (Some bytes)) (parsed uuid) line e in ap is_within_limits (sym (made.2))
assemble_ok (uuid ∷ more ∷ rest) line e = absurd (cc)

alone_ok : (verb line : Line) (values : List (List ℕ)) → is_within_limits verb ≡ true → alone verb values ≡ Some line → is_within_limits line ≡ true
alone_ok verb line [] ok e = let made : verb ≡ line = cc in ap is_within_limits (sym made) ∙ ok
alone_ok verb line (value ∷ rest) ok e = absurd (cc)

-- one verb, or one of the others
verb_ok : (b : Bool) (x y : Option Line) (line : Line) → (x ≡ Some line → is_within_limits line ≡ true) → (y ≡ Some line → is_within_limits line ≡ true)
    → cond b x y ≡ Some line → is_within_limits line ≡ true
verb_ok true x y line this others e = this e
verb_ok false x y line this others e = others e

line_ok : (words : List (List ℕ)) (line : Line) → line_of words ≡ Some line → is_within_limits line ≡ true
line_ok [] line e = absurd (cc)
line_ok (verb ∷ values) line e =
    verb_ok (bytes_eq verb (codes "create")) (create_of values) _ line (create_ok values line)
    (verb_ok (bytes_eq verb (codes "assemble")) (assemble_of values) _ line (assemble_ok values line)
    (verb_ok (bytes_eq verb (codes "read")) (read_of values) _ line (read_ok values line)
    (verb_ok (bytes_eq verb (codes "write")) (write_of values) _ line (write_ok values line)
    (verb_ok (bytes_eq verb (codes "flush")) (alone Flush values) _ line (alone_ok Flush line values refl)
    (verb_ok (bytes_eq verb (codes "fail")) (fail_of values) _ line (fail_ok values line)
    (verb_ok (bytes_eq verb (codes "add")) (add_of values) _ line (add_ok values line)
    (verb_ok (bytes_eq verb (codes "step")) (step_of values) _ line (step_ok values line)
    (verb_ok (bytes_eq verb (codes "wait")) (alone Wait values) _ line (alone_ok Wait line values refl)
    (verb_ok (bytes_eq verb (codes "array-size")) (array_size_of values) _ line (array_size_ok values line)
    (verb_ok (bytes_eq verb (codes "grow")) (grow_of values) _ line (grow_ok values line)
    (verb_ok (bytes_eq verb (codes "stop")) (alone Stop values) _ line (alone_ok Stop line values refl)
    (verb_ok (bytes_eq verb (codes "halt")) (alone Halt values) _ line (alone_ok Halt line values refl)
    (verb_ok (bytes_eq verb (codes "detail")) (alone Detail values) _ line (alone_ok Detail line values refl)
    (verb_ok (bytes_eq verb (codes "mdstat")) (alone Mdstat values) _ line (alone_ok Mdstat line values refl)
    (verb_ok (bytes_eq verb (codes "examine")) (examine_of values) _ line (examine_ok values line)
    (verb_ok (bytes_eq verb (codes "alerts")) (alone Alerts values) None line (alone_ok Alerts line values refl) (λ h. absurd (cc))))))))))))))))))
    e

for_lanes_ok : (o : Option Line) (line : Line) → ((l : Line) → o ≡ Some l → is_within_limits l ≡ true) → for_lanes o ≡ Some line → is_within_limits line ≡ true
for_lanes_ok None line ok e = absurd (cc)
for_lanes_ok (Some l) line ok e = ok line (kept (either_some (is_for_lanes l) (Some l) None line e))
  where
    kept : (Some l ≡ Some line) ⊎ (None ≡ Some line) → Some l ≡ Some line
    kept (inl h) = h
    kept (inr h) = absurd (cc)

asks_ok : (lane other : Lane) (o : Option Line) (line : Line) → ((l : Line) → o ≡ Some l → is_within_limits l ≡ true) → asks_for lane o ≡ Asks other line → is_within_limits line ≡ true
asks_ok lane other None line ok e = absurd (cc)
asks_ok lane other (Some l) line ok e = ok line (cc)

-- one word, or another
either_ok : (b : Bool) (x y : Meaning) (lane : Lane) (line : Line) → (x ≡ Asks lane line → is_within_limits line ≡ true)
    → (y ≡ Asks lane line → is_within_limits line ≡ true) → cond b x y ≡ Asks lane line → is_within_limits line ≡ true
either_ok true x y lane line this others e = this e
either_ok false x y lane line this others e = others e

inside_ok : (words : List (List ℕ)) (lane : Lane) (line : Line) → inside_of words ≡ Asks lane line → is_within_limits line ≡ true
inside_ok [] lane line e = absurd (cc)
inside_ok (verb ∷ values) lane line e =
    let laned = λ (l : Line) (h : for_lanes (line_of values) ≡ Some l). for_lanes_ok (line_of values) l (line_ok values) h in
    either_ok (bytes_eq verb (codes "a:")) (asks_for A (for_lanes (line_of values))) _ lane line (asks_ok A lane (for_lanes (line_of values)) line laned)
    (either_ok (bytes_eq verb (codes "b:")) (asks_for B (for_lanes (line_of values))) _ lane line (asks_ok B lane (for_lanes (line_of values)) line laned)
    (either_ok (bytes_eq verb (codes "end")) (asks_for Worker (alone Wait values)) Bad lane line
    (asks_ok Worker lane (alone Wait values) line (λ l h. alone_ok Wait l values refl h)) (λ h. absurd (cc))))
    e

opens_ok : (words : List (List ℕ)) (lane : Lane) (line : Line) → opens words ≡ Asks lane line → is_within_limits line ≡ true
opens_ok [] lane line e = absurd (cc)
opens_ok (word ∷ words) lane line e = absurd (cc)

outside_ok : (words : List (List ℕ)) (lane : Lane) (line : Line) → outside_of words ≡ Asks lane line → is_within_limits line ≡ true
outside_ok [] lane line e = absurd (cc)
outside_ok (verb ∷ values) lane line e =
    either_ok (bytes_eq verb (codes "together")) (opens values) (asks_for Script (line_of (verb ∷ values))) lane line (opens_ok values lane line)
    (asks_ok Script lane (line_of (verb ∷ values)) line (line_ok (verb ∷ values))) e

pub meaning_ok : (inside : Bool) (text : List ℕ) (lane : Lane) (line : Line) → meaning_of inside text ≡ Asks lane line → is_within_limits line ≡ true
meaning_ok inside text lane line e =
    by_tests (not (is_printable text)) (is_passed_over text) inside (inside_of (words_of text)) (outside_of (words_of text))
    (inside_ok (words_of text) lane line) (outside_ok (words_of text) lane line) e
  where
    by_tests : (a b c : Bool) (x y : Meaning) → (x ≡ Asks lane line → is_within_limits line ≡ true) → (y ≡ Asks lane line → is_within_limits line ≡ true)
        → cond a Bad (cond b PassedOver (cond c x y)) ≡ Asks lane line → is_within_limits line ≡ true
    by_tests true b c x y this other h = absurd (cc)
    by_tests false true c x y this other h = absurd (cc)
    by_tests false false true x y this other h = this h
    by_tests false false false x y this other h = other h
