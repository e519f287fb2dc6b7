-- All that is told before a run.
use Rattle.std.specs.Prelude.{ℕ, List, [], ◌++◌, Option, Some, None, Result, Ok, Err}
use Rattle.std.specs.List.{flat_map}
use Rattle.sb_codec.specs.declared.sb.Sb.{Sb}
use Rattle.sb_specs.specs.Reading.{uuid_of_first}
use Rattle.script.specs.declared.lines.Numbered.{Numbered}
use Rattle.tool_warnings.specs.Asked.{first_opening}
use Rattle.tool_warnings.specs.Looks.{superblocks_of}
use Rattle.tool_warnings.specs.Overwriting.{own_array, slot_line}
use Rattle.tool_warnings.specs.Backups.{newest_for, backup_lines}
use Rattle.tool_warnings.specs.declared.looked.Looked.{Looked}
use Rattle.tool_warnings.specs.declared.lines.Opening.{Opening}
use Rattle.tool_warnings.specs.declared.lines.Opening.TheVariants.{Made, Found}

-- of the backup it is told where the array that is opened first is found and not made
abbrev pub backup_told : List (Option Sb) → Option Opening → Option Looked → List ℕ
backup_told seen (Some (Found uuid)) (Some backup) = backup_lines (newest_for seen uuid) backup
backup_told seen opening backup = []

abbrev pub line_warnings : List Numbered → List Looked → Option Looked → List ℕ
line_warnings lines slots backup =
    flat_map (slot_line lines (own_array (first_opening lines) (uuid_of_first (superblocks_of slots)))) slots
    ++ backup_told (superblocks_of slots) (first_opening lines) backup

-- a script with a bad line does nothing, and nothing is told
abbrev pub script_warnings : Result (List Numbered) ℕ → List Looked → Option Looked → List ℕ
script_warnings (Ok lines) slots backup = line_warnings lines slots backup
script_warnings (Err bad) slots backup = []
