-- What a program's words ask for that is no run, each word as its bytes.
use Rattle.std.specs.Prelude.{ℕ, Bool, false, ◌||◌, ◌&&◌, drop, if◌then◌else◌, List, [], ◌∷◌, Option, Some, None, codes, option_map}
use Rattle.std.specs.Str.{bytes_eq}
use Rattle.tool_words.specs.declared.tools.Topic.{Topic}
use Rattle.tool_words.specs.declared.tools.Topic.TheVariants.{All as AllOf, Memory, Run, Demo, Examine as OfExamine, Detail as OfDetail, Layout as OfLayout}
use Rattle.tool_words.specs.declared.tools.Tool.{Tool}
use Rattle.tool_words.specs.declared.tools.Tool.TheVariants.{Help, Version, Examine, Detail, Layout}

-- the command that a word names
abbrev pub topic_in : List ℕ → Option Topic
topic_in word =
    if bytes_eq word (codes "memory") then Some Memory
    else if bytes_eq word (codes "run") then Some Run
    else if bytes_eq word (codes "demo") then Some Demo
    else if bytes_eq word (codes "examine") then Some OfExamine
    else if bytes_eq word (codes "detail") then Some OfDetail
    else if bytes_eq word (codes "layout") then Some OfLayout
    else None

-- behind `help` stands nothing, or a command
abbrev pub help_in : List (List ℕ) → Option Tool
help_in [] = Some (Help AllOf)
help_in (word ∷ []) = option_map Help (topic_in word)
help_in (word ∷ more ∷ others) = None

-- a tool whose word stands alone
abbrev pub alone : List (List ℕ) → Tool → Option Tool
alone [] tool = Some tool
alone (more ∷ others) tool = None

-- `--help` or `-h`, `--version`, `help` with a command or without, `examine`, `detail` and `layout` with what they look at
abbrev pub tool_in : List (List ℕ) → Option Tool
tool_in [] = None
tool_in (first ∷ more) =
    if bytes_eq first (codes "--help") || bytes_eq first (codes "-h") then alone more (Help AllOf)
    else if bytes_eq first (codes "--version") then alone more Version
    else if bytes_eq first (codes "help") then help_in more
    else if bytes_eq first (codes "examine") then Some Examine
    else if bytes_eq first (codes "detail") then Some Detail
    else if bytes_eq first (codes "layout") then Some Layout
    else None

-- ---- before a run

-- `--quiet` stands before `run`
abbrev pub is_quiet : List (List ℕ) → Bool
is_quiet [] = false
is_quiet (first ∷ []) = false
is_quiet (first ∷ second ∷ more) = bytes_eq first (codes "--quiet") && bytes_eq second (codes "run")

-- the words without it
abbrev pub without_quiet : List (List ℕ) → List (List ℕ)
without_quiet words = if is_quiet words then drop 1 words else words
