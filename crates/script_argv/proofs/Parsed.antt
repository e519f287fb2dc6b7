-- What the parser's answer says of the words, and what is read of the matches.
use Rattle.std.proofs.Common.{◌≡◌, ◌≢◌, ◌∙◌, Bool, true, false, Option, Some, None, List, [], ◌∷◌, length, refl, sym, subst, ap, inl, inr, arith}
use Rattle.std.specs.Prelude.{codes, option_map, ◌==◌, if◌then◌else◌}
use Rattle.std.specs.Option.{option_map_or}
use Rattle.std.proofs.lemmas.Bool.Decides.{nat_tests}
use Rattle.clap.specs.Words.{App, Text, HasMatchesOf, HasKind, Kinds, all_of, fault_of, first_of, first_value, found_of, is_simple, is_simple_and_free, kind_of, matched_of, raw_values, rows_of}
use Rattle.clap.specs.declared.error.Error.{Error}
use Rattle.clap.specs.declared.error.kind.ErrorKind.TheVariants.{OutOfMemory}
use Rattle.clap.specs.declared.parser.matches.ArgMatches.{ArgMatches}
use Rattle.clap.specs.declared.parser.matches.Found.{Found}
use Rattle.clap.proofs.WalkLemmas.{first_value-rows, raw_values-rows}
use Rattle.script_argv.specs.Words.{NamedPaths, IsParsedAs, run_app, demo_app, faults_in, rows_in, paths_from, paths_found, paths_in, size_of, size_found, size_in}

-- ---- the parser's answer

-- the two forms are among those that the parser's definition speaks of

-- the form's matches, where the parser gave some
pub parsed : (a : App) (words : List Text) (m : ArgMatches) → is_simple a ≡ true → is_simple_and_free a ≡ true → HasMatchesOf a words m
    → (is_simple_and_free a ≡ true → fault_of a words ≡ []) → IsParsedAs a words (Some m)
unfolding faults_in rows_in
parsed a words m simple free has none = (none free, (has simple).0)

by_kind : (e : Error) → HasKind [] e → kind_of e ≡ OutOfMemory
by_kind e (inl short) = short
by_kind e (inr bad) = absurd bad

-- a fault, where it gave an error that isn't want of memory
pub refused : (a : App) (words : List Text) (e : Error) → is_simple_and_free a ≡ true → (is_simple_and_free a ≡ true → HasKind (fault_of a words) e)
    → kind_of e ≢ OutOfMemory → IsParsedAs a words None
unfolding faults_in
refused a words e free has other none =
    other (by_kind e (subst (λ (kinds : Kinds). HasKind kinds e) none (has free)))

-- ---- what is read of the matches

abbrev found_by : Option Text → Option (List Text) → Option Text → Option NamedPaths
found_by script images backup = option_map_or (λ some. paths_from script some backup) images None

alike : (s t b c : Option Text) (i j : Option (List Text)) → s ≡ t → i ≡ j → b ≡ c → found_by s i b ≡ found_by t j c
alike s t b c i j is_script is_images is_backup =
    ap (λ x. found_by x i b) is_script ∙ ap (λ x. found_by t x b) is_images ∙ ap (λ x. found_by t j x) is_backup

pub paths_read : (f : Found) (script backup : Option Text) (images : Option (List Text)) → script ≡ first_value f (codes "SCRIPT")
    → images ≡ option_map raw_values (matched_of f (codes "IMAGE")) → backup ≡ first_value f (codes "backup")
    → found_by script images backup ≡ paths_found (rows_of f)
paths_read f script backup images is_script is_images is_backup =
    alike script (first_of (codes "SCRIPT") (rows_of f)) backup (first_of (codes "backup") (rows_of f)) images (all_of (codes "IMAGE") (rows_of f))
    (is_script ∙ first_value-rows f (codes "SCRIPT")) (is_images ∙ raw_values-rows f (codes "IMAGE")) (is_backup ∙ first_value-rows f (codes "backup"))

no_script : (images : Option (List Text)) (backup : Option Text) → found_by None images backup ≡ None
no_script None backup = refl
no_script (Some images) backup = refl

pub no_script_read : (f : Found) → None ≡ first_value f (codes "SCRIPT") → None ≡ paths_found (rows_of f)
no_script_read f none =
    sym (no_script (option_map raw_values (matched_of f (codes "IMAGE"))) (first_value f (codes "backup")))
    ∙ paths_read f None (first_value f (codes "backup")) (option_map raw_values (matched_of f (codes "IMAGE"))) none refl refl

pub no_images_read : (f : Found) → None ≡ option_map raw_values (matched_of f (codes "IMAGE")) → None ≡ paths_found (rows_of f)
no_images_read f none = paths_read f (first_value f (codes "SCRIPT")) (first_value f (codes "backup")) None refl none refl

-- ---- by the words

choose_none : {A : Type 0} (kinds : Kinds) (o : Option A) → kinds ≢ [] → (if length kinds == 0 then o else None) ≡ None
choose_none [] o some = absurd (some refl)
choose_none (k ∷ ks) o some = by_count (length (k ∷ ks) == 0) (grind (arith, nat_tests))
  where
    by_count : (b : Bool) → b ≡ false → (if b then o else None) ≡ None
    by_count true is = absurd (cc)
    by_count false is = refl

choose_some : {A : Type 0} (kinds : Kinds) (o : Option A) → kinds ≡ [] → (if length kinds == 0 then o else None) ≡ o
choose_some [] o none = refl
choose_some (k ∷ ks) o none = absurd (cc)

pub none_in : (words : List Text) → IsParsedAs run_app words None → None ≡ paths_in words
none_in words is = sym (choose_none (faults_in run_app words) (paths_found (rows_in run_app words)) is)

pub some_in : (words : List Text) (m : ArgMatches) → IsParsedAs run_app words (Some m) → paths_found (rows_of (found_of m)) ≡ paths_in words
some_in words m is = ap paths_found is.1 ∙ sym (choose_some (faults_in run_app words) (paths_found (rows_in run_app words)) is.0)

pub no_size_in : (words : List Text) → IsParsedAs demo_app words None → None ≡ size_in words
no_size_in words is = sym (choose_none (faults_in demo_app words) (size_found (rows_in demo_app words)) is)

pub size_is_in : (words : List Text) (m : ArgMatches) → IsParsedAs demo_app words (Some m) → size_found (rows_of (found_of m)) ≡ size_in words
size_is_in words m is = ap size_found is.1 ∙ sym (choose_some (faults_in demo_app words) (size_found (rows_in demo_app words)) is.0)

-- the size is read of the one argument
pub size_read : (f : Found) (word : Option Text) → word ≡ first_value f (codes "N") → option_map_or size_of word None ≡ size_found (rows_of f)
size_read f word is = ap (λ o. option_map_or size_of o None) (is ∙ first_value-rows f (codes "N"))
