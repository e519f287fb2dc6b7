-- What an election gives of the members' slots.
use Rattle.std.specs.Prelude.{ℕ, List, Option}
use Rattle.sb_specs.specs.sb_codec_the_Sb.{Sb}
use Rattle.sb_specs.specs.Reading.{reading_by}
use Rattle.stripe_row.specs.Writes.{AreApart}

-- whatever superblocks the slots have, no slot holds two roles
abbrev pub ReadingsAreApart : Type 0
ReadingsAreApart = (sectors : ℕ → ℕ) (own : List (Option Sb)) (newest : Sb) → AreApart (reading_by sectors own newest)
