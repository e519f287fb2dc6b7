-- The shape that the keys of a line give.
use Rattle.std.specs.Prelude.{ℕ, ◌^◌, List, codes, Option, Some, None}
use Rattle.std.specs.Option.{option_and_then}
use Rattle.raid_types.specs.declared.places.Shape.{Shape}
use Rattle.script_words.specs.Keys.{given, given_number}
use Rattle.script_words.specs.Layouts.{layout_named}

abbrev pub given_layout : List (List ℕ) → Option ℕ
given_layout words = option_and_then layout_named (given (codes "layout=") (Some (codes "left-symmetric")) words)

-- a shape of these numbers
abbrev pub shape_from : Option ℕ → Option ℕ → Option ℕ → Option ℕ → Option Shape
shape_from (Some level) (Some disks) (Some chunk) (Some layout) =
    Some (record { level = level; layout = layout; chunk = chunk; disks = disks })
shape_from level disks chunk layout = None

-- the shape that the keys give; level and disks have no default
abbrev pub shape_of : List (List ℕ) → Option Shape
shape_of words =
    shape_from (given_number (2 ^ 32) (codes "level=") None words) (given_number (2 ^ 32) (codes "disks=") None words)
    (given_number (2 ^ 32) (codes "chunk=") (Some (codes "1024")) words) (given_layout words)
