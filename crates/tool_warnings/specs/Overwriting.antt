-- The lines that tell what a script is about to write over.
use Rattle.std.specs.Prelude.{ℕ, Bool, false, ◌&&◌, ◌||◌, not, nat_lt, if◌then◌else◌, List, [], bytes_eq, string_bytes, Option, Some, None}
use Rattle.std.specs.Option.{option_or}
use Rattle.script.specs.declared.lines.Numbered.{Numbered}
use Rattle.tool_warnings.specs.Asked.{disks_made, is_added}
use Rattle.tool_warnings.specs.Founds.{found_in, found_line}
use Rattle.tool_warnings.specs.declared.found.Found.{Found}
use Rattle.tool_warnings.specs.declared.found.Found.TheVariants.{Member}
use Rattle.tool_warnings.specs.declared.looked.Looked.{Looked}
use Rattle.tool_warnings.specs.declared.lines.Opening.{Opening}
use Rattle.tool_warnings.specs.declared.lines.Opening.TheVariants.{Made, Found as IsFound}

-- the array that a script opens first, where this is the first one that the slots have
abbrev pub own_array : Option Opening → Option (List ℕ) → Option (List ℕ)
own_array (Some (Made uuid)) first = Some uuid
own_array (Some (IsFound uuid)) first = option_or uuid first
own_array None first = None

-- it is a member of this array
abbrev pub is_of : Option (List ℕ) → Found → Bool
is_of (Some own) (Member uuid) = bytes_eq uuid own
is_of own found = false

-- what a slot holds is told where the first `create` writes over it, or where it is added and isn't a member of the script's own array
abbrev pub is_told : List Numbered → Option (List ℕ) → ℕ → Found → Bool
is_told lines own slot found = nat_lt slot (disks_made lines) || is_added slot lines && not (is_of own found)

-- what is told of a slot that holds this
abbrev pub line_if : List Numbered → Option (List ℕ) → Looked → Found → List ℕ
line_if lines own looked found =
    if is_told lines own looked.slot found then found_line looked.slot (string_bytes looked.path) found else []

abbrev pub told_line : List Numbered → Option (List ℕ) → Looked → Option Found → List ℕ
told_line lines own looked None = []
told_line lines own looked (Some found) = line_if lines own looked found

abbrev pub slot_line : List Numbered → Option (List ℕ) → Looked → List ℕ
slot_line lines own looked = told_line lines own looked (found_in looked.front.items)
