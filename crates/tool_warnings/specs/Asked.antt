-- What the lines of a script open and write over.
use Rattle.std.specs.Prelude.{ℕ, ◌==◌, Bool, false, List, [], ◌∷◌, Option, Some, None, unwrap_or}
use Rattle.std.specs.Option.{option_or}
use Rattle.std.specs.List.{list_any}
use Rattle.script.specs.declared.lines.Line.{Line}
use Rattle.script.specs.declared.lines.Line.TheVariants.{Create, Assemble, Add}
use Rattle.script.specs.declared.lines.Numbered.{Numbered}
use Rattle.tool_warnings.specs.declared.lines.Opening.{Opening}
use Rattle.tool_warnings.specs.declared.lines.Opening.TheVariants.{Made, Found}

-- the array that a line makes or finds
abbrev pub opening_of : Line → Option Opening
opening_of (Create made) = Some (Made made.uuid)
opening_of (Assemble uuid) = Some (Found uuid)
opening_of line = None

-- the first one
abbrev pub first_opening : List Numbered → Option Opening
first_opening [] = None
first_opening (numbered ∷ lines) = option_or (opening_of numbered.line) (first_opening lines)

abbrev pub disks_of : Line → Option ℕ
disks_of (Create made) = Some made.shape.disks
disks_of line = None

-- the disks of the first array that is made: its members are the first so many slots
abbrev pub disks_made : List Numbered → ℕ
disks_made [] = 0
disks_made (numbered ∷ lines) = unwrap_or (disks_of numbered.line) (disks_made lines)

abbrev pub is_addition : ℕ → Line → Bool
is_addition slot (Add added) = added == slot
is_addition slot line = false

-- the slot is added by one of these lines
abbrev pub is_added : ℕ → List Numbered → Bool
is_added slot lines = list_any (λ numbered. is_addition slot numbered.line) lines
