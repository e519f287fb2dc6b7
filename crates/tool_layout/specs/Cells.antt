-- What stands at a role in a stripe.
use Rattle.std.specs.Prelude.{◌≡◌, ℕ, ◌*◌, ◌/◌, List, [], ◌∷◌, ◌++◌, length, replicate, ◌-◌, Some, codes, decimal}
use Rattle.std.specs.List.{flat_map}
use Rattle.raid_types.specs.declared.places.Shape.{Shape}
use Rattle.raid_layout.specs.Layout.{place, row_roles}
use Rattle.tool_layout.specs.declared.cells.Cell.{Cell}
use Rattle.tool_layout.specs.declared.cells.Cell.TheVariants.{P, Q, Data}

-- in a row: its parity, or this sector of the list
abbrev pub IsCell : Shape → ℕ → ℕ → Cell → Type 0
IsCell shape row role P = role ≡ (row_roles shape row).p
IsCell shape row role Q = Some role ≡ (row_roles shape row).q
IsCell shape row role (Data sector) = place shape sector ≡ record { role = role; row = row }

-- a chunk is told by its number in the list
abbrev pub cell_text : ℕ → Cell → List ℕ
cell_text chunk P = codes "P"
cell_text chunk Q = codes "Q"
cell_text chunk (Data sector) = decimal (sector / chunk)

-- in columns of eight bytes
abbrev pub padded : List ℕ → List ℕ
padded text = replicate (8 - length text) 32 ++ text

-- a line of the picture
abbrev pub stripe_line : ℕ → ℕ → List Cell → List ℕ
stripe_line chunk stripe cells = padded (decimal stripe) ++ flat_map (λ cell. padded (cell_text chunk cell)) cells ++ 10 ∷ []
