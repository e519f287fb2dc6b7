-- What the keys of a line wish of an array: each may be left out, but not all.
use Rattle.std.specs.Prelude.{ℕ, ◌^◌, if◌then◌else◌, List, [], ◌∷◌, bytes_eq, codes, Option, Some, None, option_map}
use Rattle.std.specs.List.{list_all}
use Rattle.std.specs.Option.{option_and_then}
use Rattle.raid_types.specs.declared.wishes.Wish.{Wish}
use Rattle.raid_types.specs.declared.wishes.WishedLayout.{WishedLayout}
use Rattle.raid_types.specs.declared.wishes.WishedLayout.TheVariants.{Named, Preserve, Normalise}
use Rattle.script_words.specs.Keys.{has_key, is_given, given, given_number}
use Rattle.script_words.specs.Layouts.{layout_named}

-- the number that a key wishes, none where the key is left out; there is no answer where it wishes something else
abbrev pub wished_number : List ℕ → List (List ℕ) → Option (Option ℕ)
wished_number key words =
    if is_given key words then option_map (λ n. Some n) (given_number (2 ^ 32) key None words) else Some None

-- a layout of this name, or that of the array, or the one of it that level 5 has
abbrev pub wished_as : List ℕ → Option WishedLayout
wished_as name =
    if bytes_eq name (codes "preserve") then Some Preserve
    else if bytes_eq name (codes "normalise") then Some Normalise
    else option_map (λ layout. Named layout) (layout_named name)

-- the layout that is wished, in the same way
abbrev pub wished_layout : List (List ℕ) → Option (Option WishedLayout)
wished_layout words =
    if is_given (codes "layout=") words then option_map (λ layout. Some layout) (option_and_then wished_as (given (codes "layout=") None words)) else Some None

-- a wish of these parts
abbrev pub wish_from : Option (Option ℕ) → Option (Option ℕ) → Option (Option ℕ) → Option (Option WishedLayout) → Option Wish
wish_from (Some level) (Some disks) (Some chunk) (Some layout) =
    Some (record { level = level; disks = disks; chunk = chunk; layout = layout })
wish_from level disks chunk layout = None

abbrev pub wish_keys : List (List ℕ)
wish_keys = codes "level=" ∷ codes "disks=" ∷ codes "chunk=" ∷ codes "layout=" ∷ []

-- what the keys wish, of these alone, in any order
abbrev pub wish_of : List (List ℕ) → Option Wish
wish_of [] = None
wish_of (word ∷ words) =
    if list_all (has_key wish_keys) (word ∷ words)
    then wish_from (wished_number (codes "level=") (word ∷ words)) (wished_number (codes "disks=") (word ∷ words)) (wished_number (codes "chunk=") (word ∷ words)) (wished_layout (word ∷ words))
    else None
