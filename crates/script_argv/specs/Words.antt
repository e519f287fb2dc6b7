-- The command that a program's words name, each word as its bytes.
use Rattle.std.specs.Prelude.{◌≡◌, ◌≢◌, ℕ, ◌-◌, ◌^◌, Bool, true, false, ◌&&◌, ◌||◌, ◌==◌, nat_le, if◌then◌else◌, List, [], ◌∷◌, ◌++◌, length, map, Option, Some, None, is_some, codes, string_bytes}
use Rattle.std.specs.Option.{option_map_or}
use Rattle.std.specs.Str.{bytes_eq}
use Rattle.clap.specs.Words.{App, Kinds, Rule, Row, Text, new_app, new_rule, with_rule, fault_of, matches_of, first_of, all_of, rows_of, found_of}
use Rattle.clap.specs.declared.builder.ArgAction.TheVariants.{Set, Append}
use Rattle.clap.specs.declared.parser.matches.ArgMatches.{ArgMatches}
use Rattle.script_argv.specs.declared.paths.Paths.{Paths}
use Rattle.script_argv.specs.declared.command.Command.{Command}
use Rattle.script_argv.specs.declared.command.Command.TheVariants.{Memory as IsMemory, Run as IsRun, Demo as IsDemo}
use Rattle.script_words.specs.Numbers.{number_below}

-- the paths that a run is given: of its script, and one for each slot, the backup's last where there is one
pub record NamedPaths : Type 0 where
  pub script : Text
  pub slots : List Text
  pub has_backup : Bool

-- a script from standard input over members in memory, one from a file over image files, or that of a demo of this size
pub data Asked : Type 0 where
  Memory : Asked
  Run : NamedPaths → Asked
  Demo : ℕ → Asked

abbrev pub told_by : Paths → NamedPaths
told_by paths = record { script = string_bytes paths.script; slots = map string_bytes paths.slots.items; has_backup = paths.has_backup }

abbrev pub asked_by : Command → Asked
asked_by IsMemory = Memory
asked_by (IsRun paths) = Run (told_by paths)
asked_by (IsDemo size) = Demo size

-- ---- what the parser of command lines finds

-- the faults that it finds in words of this form, none of them where it takes the words
unfoldable pub faults_in : App → List Text → Kinds
faults_in form words = fault_of form words

-- what it finds for each argument
unfoldable pub rows_in : App → List Text → List Row
rows_in form words = matches_of form words

-- what it found, and nothing exactly where it finds a fault
abbrev pub IsParsedAs : App → List Text → Option ArgMatches → Type 0
IsParsedAs form words None = faults_in form words ≢ []
IsParsedAs form words (Some found) = (faults_in form words ≡ []) × (rows_of (found_of found) ≡ rows_in form words)

-- ---- the words after `run`

-- their form: an option `--backup` with one value, a positional SCRIPT, and a last positional IMAGE with several values
abbrev pub backup_rule : Rule
backup_rule = record (new_rule (codes "backup")) { long = Some (codes "backup"); action = Some Set }

abbrev pub script_rule : Rule
script_rule = record (new_rule (codes "SCRIPT")) { required = true; action = Some Set }

abbrev pub image_rule : Rule
image_rule = record (new_rule (codes "IMAGE")) { required = true; action = Some Append }

abbrev pub run_app : App
run_app = with_rule (with_rule (with_rule (new_app (codes "run")) backup_rule) script_rule) image_rule

-- from 1 to 31
abbrev pub is_few : ℕ → Bool
is_few images = nat_le 1 images && nat_le images 31

-- one path or none
abbrev pub listed : Option Text → List Text
listed None = []
listed (Some path) = path ∷ []

-- the backup is the last slot
abbrev pub paths_from : Option Text → List Text → Option Text → Option NamedPaths
paths_from None images backup = None
paths_from (Some script) images backup =
    if is_few (length images) then Some (record { script = script; slots = images ++ listed backup; has_backup = is_some backup }) else None

-- the paths by what the parser found for each argument
abbrev pub paths_found : List Row → Option NamedPaths
paths_found rows = option_map_or (λ images. paths_from (first_of (codes "SCRIPT") rows) images (first_of (codes "backup") rows)) (all_of (codes "IMAGE") rows) None

abbrev pub paths_in : List Text → Option NamedPaths
paths_in words = if length (faults_in run_app words) == 0 then paths_found (rows_in run_app words) else None

-- ---- the words after `demo`

-- their form: a positional N
abbrev pub size_rule : Rule
size_rule = record (new_rule (codes "N")) { required = true; action = Some Set }

abbrev pub demo_app : App
demo_app = with_rule (new_app (codes "demo")) size_rule

-- from 1 to 64
abbrev pub is_demo_size : ℕ → Bool
is_demo_size size = nat_le 1 size && nat_le size 64

-- the size that a word writes as a script's numbers are written
abbrev pub size_of : Text → Option ℕ
size_of word = option_map_or (λ size. if is_demo_size size then Some size else None) (number_below (2 ^ 64) word) None

-- the size by what the parser found
abbrev pub size_found : List Row → Option ℕ
size_found rows = option_map_or size_of (first_of (codes "N") rows) None

abbrev pub size_in : List Text → Option ℕ
size_in words = if length (faults_in demo_app words) == 0 then size_found (rows_in demo_app words) else None

-- ---- all words

-- `memory`, alone, byte for byte
abbrev pub is_memory : List Text → Bool
is_memory [] = false
is_memory (word ∷ []) = bytes_eq word (codes "memory")
is_memory (first ∷ second ∷ more) = false

-- `run`, with others behind it or without
abbrev pub is_run : List Text → Bool
is_run [] = false
is_run (word ∷ more) = bytes_eq word (codes "run")

-- so of `demo`
abbrev pub is_demo : List Text → Bool
is_demo [] = false
is_demo (word ∷ more) = bytes_eq word (codes "demo")

-- `memory`, `run` with its paths, or `demo` with its size; other words are no command
abbrev pub command_in : List Text → Option Asked
command_in words =
    if is_memory words then Some Memory
    else if is_run words then option_map_or (λ paths. Some (Run paths)) (paths_in words) None
    else if is_demo words then option_map_or (λ size. Some (Demo size)) (size_in words) None
    else None

-- the parser reads these words
abbrev pub is_parsed : List Text → Bool
is_parsed words = is_run words || is_demo words

-- a command needs so many slots
abbrev pub slots_for : Asked → ℕ
slots_for Memory = 8
slots_for (Run paths) = length paths.slots
slots_for (Demo size) = 6

-- and has the backup in the last of them, where it has one
abbrev pub backup_for : Asked → Option ℕ
backup_for Memory = Some 7
backup_for (Run paths) = if paths.has_backup then Some (length paths.slots - 1) else None
backup_for (Demo size) = Some 5

-- that of the words
abbrev pub backup_in : List Text → Option ℕ
backup_in words = option_map_or backup_for (command_in words) None

-- the size of a demo, where the command is one
abbrev pub demo_for : Asked → Option ℕ
demo_for Memory = None
demo_for (Run paths) = None
demo_for (Demo size) = Some size

-- that of the words
abbrev pub demo_in : List Text → Option ℕ
demo_in words = option_map_or demo_for (command_in words) None
