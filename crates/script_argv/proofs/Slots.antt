-- How many slots a command has, and where its backup is.
use Rattle.std.proofs.Common.{◌≡◌, ℕ, ◌+◌, ◌-◌, ◌≤◌, Bool, true, false, Option, Some, None, List, ◌++◌, length, refl, subst, arith, length-append}
use Rattle.std.specs.Prelude.{MatchOption, ⊤, is_some, if◌then◌else◌, codes, ◌==◌}
use Rattle.std.specs.Option.{option_map_or}
use Rattle.std.proofs.lemmas.Bool.Decides.{nat_tests}
use Rattle.clap.specs.Words.{Row, Text, all_of, first_of}
use Rattle.script_argv.specs.Words.{Asked, NamedPaths, is_few, listed, paths_from, paths_found, paths_in, faults_in, rows_in, run_app, size_in, command_in, is_memory, is_run, is_demo, slots_for, backup_for}
use Rattle.script_argv.specs.Words.Asked.{Memory, Run, Demo}

-- at most 32 slots, the last of which is the backup's, where it has one
pub record HasFewSlots (asked : Asked) : Type 0 where
  pub few : slots_for asked ≤ 32
  pub last : MatchOption (backup_for asked) ⊤ (λ slot. slot + 1 ≡ slots_for asked)

record ArePathsFew (paths : NamedPaths) : Type 0 where
  some : 1 ≤ length paths.slots
  few : length paths.slots ≤ 32

from_few : (images : List Text) (backup : Option Text) → is_few (length images) ≡ true → (1 ≤ length (images ++ listed backup)) × (length (images ++ listed backup) ≤ 32)
from_few images backup is =
    let some : 1 ≤ length images = grind (arith, nat_tests, is) in
    let few : length images ≤ 31 = grind (arith, nat_tests, is) in
    let whole = length-append images (listed backup) in
    let one = by_backup backup in (omega (arith, some, whole), omega (arith, few, whole, one))
  where
    by_backup : (backup : Option Text) → length (listed backup) ≤ 1
    by_backup None = omega arith
    by_backup (Some path) = omega arith

from_few_paths : (script : Option Text) (images : List Text) (backup : Option Text) (paths : NamedPaths) → paths_from script images backup ≡ Some paths → ArePathsFew paths
from_few_paths None images backup paths is = absurd (cc)
from_few_paths (Some script) images backup paths is = by_count (is_few (length images)) refl is
  where
    by_count : (b : Bool) → is_few (length images) ≡ b → (if b then Some (record { script = script; slots = images ++ listed backup; has_backup = is_some backup }) else None) ≡ Some paths → ArePathsFew paths
    by_count false count h = absurd (cc)
    by_count true count h =
        let made : record { script = script; slots = images ++ listed backup; has_backup = is_some backup } ≡ paths = cc in
        let few = from_few images backup count in
        subst ArePathsFew made (record { some = few.0; few = few.1 })

found_few : (rows : List Row) (paths : NamedPaths) → paths_found rows ≡ Some paths → ArePathsFew paths
found_few rows paths is = by_images (all_of (codes "IMAGE") rows) is
  where
    by_images : (o : Option (List Text)) → option_map_or (λ images. paths_from (first_of (codes "SCRIPT") rows) images (first_of (codes "backup") rows)) o None ≡ Some paths → ArePathsFew paths
    by_images None h = absurd (cc)
    by_images (Some images) h = from_few_paths (first_of (codes "SCRIPT") rows) images (first_of (codes "backup") rows) paths h

in_few : (words : List Text) (paths : NamedPaths) → paths_in words ≡ Some paths → ArePathsFew paths
in_few words paths is = by_faults (length (faults_in run_app words) == 0) is
  where
    by_faults : (b : Bool) → (if b then paths_found (rows_in run_app words) else None) ≡ Some paths → ArePathsFew paths
    by_faults false h = absurd (cc)
    by_faults true h = found_few (rows_in run_app words) paths h

memory_few : HasFewSlots Memory
memory_few = record { few = omega arith; last = refl }

run_few : (paths : NamedPaths) → ArePathsFew paths → HasFewSlots (Run paths)
run_few paths are = record { few = are.few; last = by_backup paths.has_backup }
  where
    by_backup : (b : Bool) → MatchOption (if b then Some (length paths.slots - 1) else None) ⊤ (λ slot. slot + 1 ≡ length paths.slots)
    by_backup true = let some = are.some in omega (arith, some)
    by_backup false = tt

demo_few : (size : ℕ) → HasFewSlots (Demo size)
demo_few size = record { few = omega arith; last = refl }

-- a command's words name no more slots
pub asked_few : (words : List Text) (asked : Asked) → command_in words ≡ Some asked → HasFewSlots asked
asked_few words asked is = by_word (is_memory words) (is_run words) (is_demo words) (paths_in words) (size_in words) (λ paths h. in_few words paths h) is
  where
    by_paths : (o : Option NamedPaths) → ((paths : NamedPaths) → o ≡ Some paths → ArePathsFew paths) → option_map_or (λ paths. Some (Run paths)) o None ≡ Some asked → HasFewSlots asked
    by_paths None few h = absurd (cc)
    by_paths (Some paths) few h = let made : Run paths ≡ asked = cc in subst HasFewSlots made (run_few paths (few paths refl))

    by_size : (s : Option ℕ) → option_map_or (λ size. Some (Demo size)) s None ≡ Some asked → HasFewSlots asked
    by_size None h = absurd (cc)
    by_size (Some size) h = let made : Demo size ≡ asked = cc in subst HasFewSlots made (demo_few size)

    by_word : (a b c : Bool) (o : Option NamedPaths) (s : Option ℕ) → ((paths : NamedPaths) → o ≡ Some paths → ArePathsFew paths)
        → (if a then Some Memory else (if b then option_map_or (λ paths. Some (Run paths)) o None else (if c then option_map_or (λ size. Some (Demo size)) s None else None)))
        ≡ Some asked → HasFewSlots asked
    by_word true b c o s few h = let made : Memory ≡ asked = cc in subst HasFewSlots made memory_few
    by_word false true c o s few h = by_paths o few h
    by_word false false true o s few h = by_size s h
    by_word false false false o s few h = absurd (cc)
