-- Why a script isn't taken.
use Rattle.std.specs.Prelude.{◌≡◌, ℕ, ◌+◌, ◌<◌, true, List, [], length, take, slice_index_or}
use Rattle.script.specs.Mistakes.{IsDiagnosis}
use Rattle.script.specs.Script.{most_bytes, most_lines, most_sectors, lines_of, is_inside, asked, total_sectors, sectors_of}
use Rattle.script.specs.declared.grammar.Meaning.{Meaning}
use Rattle.script.specs.declared.grammar.Meaning.TheVariants.{Asks}
use Rattle.script_mistakes.specs.declared.scripts.Reason.{Reason}
use Rattle.script_mistakes.specs.declared.scripts.Reason.TheVariants.{TooLong, TooManyLines, TooManySectors, BlockOpen, BadLine}

-- how many sectors a line of this meaning reads or writes
abbrev pub sectors_in : Meaning → ℕ
sectors_in (Asks lane line) = sectors_of line
sectors_in meaning = 0

-- what is true of the line of this number
abbrev pub IsReason : List ℕ → ℕ → Reason → Type 0
IsReason text number TooLong = most_bytes < length text
IsReason text number TooManyLines = most_lines < length (lines_of text)
IsReason text number TooManySectors = most_sectors < total_sectors (asked (take number (lines_of text)))
IsReason text number BlockOpen = is_inside (lines_of text) ≡ true
IsReason text number (BadLine d) =
    (before : ℕ) × (number ≡ before + 1) × IsDiagnosis (is_inside (take before (lines_of text))) (slice_index_or (lines_of text) before []) d.column d.width d.mistake
