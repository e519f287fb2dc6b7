-- Which slot had a role that an array has lost, as the superblocks tell it.
use Rattle.std.specs.Prelude.{ℕ, Bool, false, ◌&&◌, ◌==◌, if◌then◌else◌, List, [], ◌∷◌, ◌++◌, codes, decimal, bytes_eq, string_bytes, Option, Some, None}
use Rattle.std.specs.Option.{option_map_or}
use Rattle.sb_codec.specs.declared.sb.Sb.{Sb}
use Rattle.sb_specs.specs.Reading.{entry_of}
use Rattle.tool_warnings.specs.Fronts.{superblock_at}
use Rattle.tool_warnings.specs.declared.looked.Looked.{Looked}

-- by its own superblock a device has the role, and by the newest one of the array it is faulty
abbrev pub had_role : Sb → ℕ → Sb → Bool
had_role newest role sb =
    bytes_eq sb.set_uuid newest.set_uuid && (entry_of newest sb.dev_number == 0xfffe) && (entry_of sb sb.dev_number == role)

abbrev pub has_lost : Sb → ℕ → Looked → Bool
has_lost newest role looked = option_map_or (had_role newest role) (superblock_at looked.front.items) false

abbrev pub slot_words : ℕ → List ℕ → List ℕ
slot_words slot path = (codes ": slot " ++ decimal slot) ++ (codes " (" ++ path ++ codes ") had it")

-- the first slot that has lost the role
abbrev pub holder_words : Sb → ℕ → List Looked → List ℕ
holder_words newest role [] = []
holder_words newest role (looked ∷ slots) =
    if has_lost newest role looked then slot_words looked.slot (string_bytes looked.path) else holder_words newest role slots

-- nothing where the array has no superblock
abbrev pub words_for : Option Sb → ℕ → List Looked → List ℕ
words_for None role slots = []
words_for (Some newest) role slots = holder_words newest role slots
