-- Whether a backup is that of the reshape which it is given for, and the lines that tell that it isn't.
use Rattle.std.specs.Prelude.{ℕ, Bool, ◌&&◌, not, nat_le, if◌then◌else◌, List, [], ◌∷◌, ◌++◌, length, map, take, codes, string_bytes, Option, Some, None}
use Rattle.std.specs.Option.{option_or}
use Rattle.uuid.specs.Text.{hyphenated_text, lower}
use Rattle.sb_codec.specs.declared.sb.Sb.{Sb}
use Rattle.sb_specs.specs.Reading.{of_array, uuid_of_first, newest_of}
use Rattle.bank_backup.specs.Section.{is_header_of}
use Rattle.tool_warnings.specs.Needed.{needs_section}
use Rattle.tool_warnings.specs.declared.looked.Looked.{Looked}

-- the newest superblock of an array, if one is known
abbrev pub newest_own : List (Option Sb) → Option (List ℕ) → Option Sb
newest_own seen None = None
newest_own seen (Some uuid) = newest_of (map (of_array uuid) seen)

-- that of the array of this uuid, or else of the first superblock's: the array that an assembly finds
abbrev pub newest_for : List (Option Sb) → Option (List ℕ) → Option Sb
newest_for seen uuid = newest_own seen (option_or uuid (uuid_of_first seen))

-- the file begins with a header of this array, of a section or of none
abbrev pub has_header : List ℕ → List ℕ → Bool
has_header front uuid = nat_le 512 (length front) && is_header_of uuid (take 512 front)

-- the array's reshape needs its backup, and the file isn't that
unfoldable pub is_wrong : Sb → List ℕ → Bool
is_wrong newest front = needs_section newest && not (has_header front newest.set_uuid)

abbrev pub wrong_line : List ℕ → List ℕ → List ℕ
wrong_line path uuid =
    (codes "mdgrow: the backup (" ++ path ++ codes ") is not that of the reshape of array ") ++ hyphenated_text lower uuid ++ 10 ∷ []

-- what it may mean stands below it
abbrev pub wrong_lines : List ℕ → List ℕ → List ℕ
wrong_lines path uuid =
    wrong_line path uuid
    ++ (codes "mdgrow: where a stop left its next window half copied, " ++ codes "sectors of it are in the right backup alone, "
    ++ codes "and are read wrong here" ++ 10 ∷ [])

abbrev pub wrong_if : Sb → Looked → List ℕ
wrong_if newest backup = if is_wrong newest backup.front.items then wrong_lines (string_bytes backup.path) newest.set_uuid else []

abbrev pub backup_lines : Option Sb → Looked → List ℕ
backup_lines None backup = []
backup_lines (Some newest) backup = wrong_if newest backup
