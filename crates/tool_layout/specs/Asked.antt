-- The shape that words ask for: the keys of a `create` line.
use Rattle.std.specs.Prelude.{ℕ, false, if◌then◌else◌, List, [], ◌∷◌, ◌++◌, Option, Some, None, codes}
use Rattle.std.specs.List.{flat_map}
use Rattle.raid_types.specs.Shapes.{is_valid_shape}
use Rattle.raid_types.specs.declared.places.Shape.{Shape}
use Rattle.script.specs.Grammar.{meaning_of}
use Rattle.script.specs.declared.grammar.Meaning.{Meaning}
use Rattle.script.specs.declared.grammar.Meaning.TheVariants.{Asks}
use Rattle.script.specs.declared.lines.Line.TheVariants.{Create}

-- the line that asks for an array with these keys
abbrev pub create_line : List (List ℕ) → List ℕ
create_line words = codes "create 00000000-0000-0000-0000-000000000000 size=8" ++ flat_map (λ word. 32 ∷ word) words

abbrev pub shape_meant : Meaning → Option Shape
shape_meant (Asks lane (Create asked)) = if is_valid_shape asked.shape then Some asked.shape else None
shape_meant meaning = None

abbrev pub shape_in : List (List ℕ) → Option Shape
shape_in words = shape_meant (meaning_of false (create_line words))
