-- The names of the layouts.
use Rattle.std.specs.Prelude.{ℕ, Bool, false, ◌==◌, if◌then◌else◌, List, bytes_eq, codes, Option, Some, None}
use Rattle.raid_types.specs.Search.{least_below}

abbrev pub layout_name : ℕ → Option (List ℕ)
layout_name layout =
    if layout == 0 then Some (codes "left-asymmetric")
    else if layout == 1 then Some (codes "right-asymmetric")
    else if layout == 2 then Some (codes "left-symmetric")
    else if layout == 3 then Some (codes "right-symmetric")
    else if layout == 4 then Some (codes "parity-first")
    else if layout == 5 then Some (codes "parity-last")
    else if layout == 16 then Some (codes "left-asymmetric-6")
    else if layout == 17 then Some (codes "right-asymmetric-6")
    else if layout == 18 then Some (codes "left-symmetric-6")
    else if layout == 19 then Some (codes "right-symmetric-6")
    else if layout == 20 then Some (codes "parity-first-6")
    else None

abbrev pub is_name : Option (List ℕ) → List ℕ → Bool
is_name (Some known) name = bytes_eq known name
is_name None name = false

-- the layout of this name; none above 20 has one
abbrev pub layout_named : List ℕ → Option ℕ
layout_named name = least_below 21 (λ layout. is_name (layout_name layout) name)
