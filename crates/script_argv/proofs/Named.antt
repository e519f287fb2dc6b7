-- Paths that are copied one after another, and paths that are named.
use Rattle.std.proofs.Common.{◌≡◌, ◌∙◌, ℕ, ◌+◌, ◌<◌, ◌≤◌, Bool, true, false, Option, Some, None, List, [], ◌∷◌, ◌++◌, length, refl, sym, ap, map, get_or, take}
use Rattle.std.specs.Prelude.{is_some, if◌then◌else◌}
use Rattle.std.specs.Option.{option_map_or}
use Rattle.std.specs.Borrow.{Bor}
use Rattle.std.proofs.lemmas.List.{append_assoc, length-map, map-append, take_all, take_more}
use Rattle.clap.specs.Words.{Text}
use Rattle.script_argv.specs.Words.{NamedPaths, is_few, listed, paths_from, paths_in, size_in, command_in, is_memory, is_run, is_demo, Asked}
use Rattle.script_argv.specs.Words.Asked.{Memory, Run, Demo}

-- one text more
pub copies_more : (old fn new : List Text) (texts : List (Bor Text)) (i : ℕ) (d : Bor Text) → i < length texts
    → old ≡ fn ++ map (λ x. x.now) (take i texts) → new ≡ old ++ (get_or texts i d).now ∷ [] → new ≡ fn ++ map (λ x. x.now) (take (i + 1) texts)
copies_more old fn new texts i d lt was more =
    let one : map (λ x. x.now) (take (i + 1) texts) ≡ map (λ x. x.now) (take i texts) ++ (get_or texts i d).now ∷ [] =
    ap (map (λ x. x.now)) (take_more texts i d lt) ∙ map-append (λ x. x.now) (take i texts) (get_or texts i d ∷ []) in
    more ∙ ap (λ l. l ++ (get_or texts i d).now ∷ []) was ∙ append_assoc fn (map (λ x. x.now) (take i texts)) ((get_or texts i d).now ∷ []) ∙ ap (λ l. fn ++ l) (sym one)

-- all of them
pub copied_all : (old fn : List Text) (texts : List (Bor Text)) (i : ℕ) → length texts ≤ i → old ≡ fn ++ map (λ x. x.now) (take i texts)
    → old ≡ fn ++ map (λ x. x.now) texts
copied_all old fn texts i le was = was ∙ ap (λ l. fn ++ map (λ x. x.now) l) (take_all i texts le)

abbrev named : Text → List Text → Bool → NamedPaths
named script slots has_backup = record { script = script; slots = slots; has_backup = has_backup }

pub none_named : (script : Text) (images : List (Bor Text)) (backup : Option Text) → is_few (length images) ≡ false
    → None ≡ paths_from (Some script) (map (λ x. x.now) images) backup
none_named script images backup few = by_count (is_few (length (map (λ x. x.now) images))) (ap is_few (length-map images (λ x. x.now)) ∙ few)
  where
    by_count : (b : Bool) → b ≡ false → None ≡ (if b then Some (named script (map (λ x. x.now) images ++ listed backup) (is_some backup)) else None)
    by_count false is = refl
    by_count true is = absurd (cc)

pub some_named : (script : Text) (images : List (Bor Text)) (slots : List Text) (backup : Option Text) → is_few (length images) ≡ true
    → slots ≡ map (λ x. x.now) images ++ listed backup
    → Some (named script slots (is_some backup)) ≡ paths_from (Some script) (map (λ x. x.now) images) backup
some_named script images slots backup few is =
    ap (λ l. Some (named script l (is_some backup))) is
    ∙ by_count (is_few (length (map (λ x. x.now) images))) (ap is_few (length-map images (λ x. x.now)) ∙ few)
  where
    by_count : (b : Bool) → b ≡ true → Some (named script (map (λ x. x.now) images ++ listed backup) (is_some backup))
        ≡ (if b then Some (named script (map (λ x. x.now) images ++ listed backup) (is_some backup)) else None)
    by_count true is = refl
    by_count false is = absurd (cc)

-- what the words behind run name is the command's
pub run_in : (words : List Text) (found : Option NamedPaths) → is_memory words ≡ false → is_run words ≡ true → found ≡ paths_in words
    → option_map_or (λ paths. Some (Run paths)) found None ≡ command_in words
run_in words found other run is = by_word (is_memory words) (is_run words) (paths_in words) (if is_demo words then option_map_or (λ size. Some (Demo size)) (size_in words) None else None) other run is
  where
    by_word : (a b : Bool) (o : Option NamedPaths) (rest : Option Asked) → a ≡ false → b ≡ true → found ≡ o
        → option_map_or (λ paths. Some (Run paths)) found None
        ≡ (if a then Some Memory else (if b then option_map_or (λ paths. Some (Run paths)) o None else rest))
    by_word false true o rest x y z = ap (λ q. option_map_or (λ paths. Some (Run paths)) q None) z
    by_word false false o rest x y z = absurd (cc)
    by_word true b o rest x y z = absurd (cc)

-- and so of those behind demo
pub demo_asked : (words : List Text) (found : Option ℕ) → is_memory words ≡ false → is_run words ≡ false → is_demo words ≡ true → found ≡ size_in words
    → option_map_or (λ size. Some (Demo size)) found None ≡ command_in words
demo_asked words found other run demo is = by_word (is_memory words) (is_run words) (is_demo words) (option_map_or (λ paths. Some (Run paths)) (paths_in words) None) (size_in words) other run demo is
  where
    by_word : (a b c : Bool) (first : Option Asked) (o : Option ℕ) → a ≡ false → b ≡ false → c ≡ true → found ≡ o
        → option_map_or (λ size. Some (Demo size)) found None
        ≡ (if a then Some Memory else (if b then first else (if c then option_map_or (λ size. Some (Demo size)) o None else None)))
    by_word false false true first o x y w z = ap (λ q. option_map_or (λ size. Some (Demo size)) q None) z
    by_word false false false first o x y w z = absurd (cc)
    by_word false true c first o x y w z = absurd (cc)
    by_word true b c first o x y w z = absurd (cc)
