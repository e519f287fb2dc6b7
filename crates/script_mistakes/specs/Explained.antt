-- What is shown of a script that isn't taken, below the number of its first bad line.
use Rattle.std.specs.Prelude.{ℕ, ◌-◌, ◌++◌, ◌∷◌, [], List, length, map, min, nat_le, if◌then◌else◌, take, drop, slice_index_or}
use Rattle.script.specs.Script.{lines_of}
use Rattle.script_mistakes.specs.Marked.{shown, marked}
use Rattle.script_mistakes.specs.declared.scripts.Reason.{Reason}
use Rattle.script_mistakes.specs.declared.scripts.Reason.TheVariants.{TooManySectors, BadLine}

-- Where the part of a line begins that is shown where this column is marked: a line of a hundred bytes at most is shown whole, and of a longer one
-- sixty at most stand before the column.
abbrev pub start_of : List ℕ → ℕ → ℕ
start_of line column = if nat_le (length line) 100 then 0 else min (column - 60) (length line)

-- that part, a hundred bytes at most
abbrev pub part_of : List ℕ → ℕ → List ℕ
part_of line column = take 100 (drop (start_of line column) line)

-- the line of a number, from 1
abbrev pub line_of : List ℕ → ℕ → List ℕ
line_of text number = slice_index_or (lines_of text) (number - 1) []

-- Where a line is bad, the part of it where it goes wrong, with marks below, forty at most; where it asks for too much, its beginning.
abbrev pub shown_for : List ℕ → Reason → List ℕ
shown_for line (BadLine d) = marked (part_of line d.column) (d.column - start_of line d.column) (min d.width 40)
shown_for line TooManySectors = map shown (part_of line 0) ++ 10 ∷ []
shown_for line reason = []
