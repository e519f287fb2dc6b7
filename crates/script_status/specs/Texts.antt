-- The texts of `detail`, `mdstat` and `examine`. What ends the last line stands in none of them.
use Rattle.std.specs.Prelude.{ℕ, ◌+◌, Bool, true, false, ◌==◌, if◌then◌else◌, List, [], ◌∷◌, ◌++◌, length, Option, Some, None, codes, count_by, decimal}
use Rattle.std.specs.List.{flat_map}
use Rattle.uuid.specs.Text.{hyphenated_text, lower}
use Rattle.script.specs.raid_types_the_Shape.{Shape}
use Rattle.script.specs.raid_types_the_Role.{Role}
use Rattle.script.specs.raid_types_the_Role_TheVariants.{Whole, Recovering, Missing}
use Rattle.script.specs.raid_types_the_Status.{Status}
use Rattle.script.specs.sb_codec_the_Sb.{Sb}
use Rattle.script.specs.sb_specs_Reading.{entry_of, is_clean}
use Rattle.script.specs.Texts.{layout_text}

-- words with a number behind them
abbrev pub counted : List ℕ → ℕ → List ℕ
counted words number = words ++ decimal number

-- a line that another one follows
abbrev pub line : List ℕ → List ℕ
line words = words ++ codes "\n"

abbrev pub clean_word : Bool → List ℕ
clean_word true = codes "clean"
clean_word false = codes "dirty"

-- how far a reshape is: its position, of the list's length
abbrev pub progress : Status → List ℕ
progress status = counted (codes "reshape ") status.position ++ counted (codes "/") status.length

-- ---- detail

-- the shape, which is the old one while a reshape is active
unfoldable pub shape_lines : Shape → List ℕ
shape_lines shape =
    line (counted (codes "level ") shape.level)
    ++ line (codes "layout " ++ layout_text shape.layout)
    ++ line (counted (codes "chunk ") shape.chunk)
    ++ line (counted (codes "disks ") shape.disks)

unfoldable pub state_lines : Status → List ℕ
state_lines status =
    line (counted (codes "size ") status.size)
    ++ line (counted (codes "visible ") status.visible)
    ++ line (codes "state " ++ clean_word status.clean)
    ++ line (counted (codes "events ") status.events)

-- the shape that a reshape goes to
unfoldable pub target_text : Shape → List ℕ
target_text target =
    codes " to layout " ++ layout_text target.layout ++ counted (codes " chunk ") target.chunk ++ counted (codes " disks ") target.disks

-- an active reshape
abbrev pub reshape_line : Option Shape → Status → List ℕ
reshape_line None status = []
reshape_line (Some target) status = line (progress status ++ target_text target)

-- who holds a role
abbrev pub holder : Role → List ℕ
holder (Whole slot) = counted (codes " slot ") slot ++ codes " whole"
holder (Recovering slot) = counted (codes " slot ") slot ++ codes " recovering"
holder Missing = codes " missing"

-- one line for each role, from this one on
abbrev pub role_lines : ℕ → List Role → List ℕ
role_lines role [] = []
role_lines role (state ∷ states) = line (counted (codes "role ") role ++ holder state) ++ role_lines (role + 1) states

-- one line for each spare
abbrev pub spare_lines : List ℕ → List ℕ
spare_lines [] = []
spare_lines (slot ∷ slots) = line (counted (codes "spare slot ") slot) ++ spare_lines slots

abbrev pub detail_text : Status → List ℕ
detail_text status =
    shape_lines status.shape ++ state_lines status ++ reshape_line status.target status
    ++ role_lines 0 status.roles ++ spare_lines status.spares ++ counted (codes "left ") status.left

-- ---- mdstat

abbrev pub is_whole : Role → Bool
is_whole (Whole slot) = true
is_whole (Recovering slot) = false
is_whole Missing = false

-- one mark for each role: whole or not
abbrev pub marks : List Role → List ℕ
marks roles = flat_map (λ role. if is_whole role then codes "U" else codes "_") roles

-- how many roles there are and how many are whole, and which
abbrev pub roles_in_brief : List Role → List ℕ
roles_in_brief roles =
    counted (codes " [") (length roles) ++ counted (codes "/") (count_by is_whole roles) ++ codes "] [" ++ marks roles ++ codes "]"

-- an active reshape's progress
abbrev pub reshape_in_brief : Option Shape → Status → List ℕ
reshape_in_brief None status = []
reshape_in_brief (Some target) status = codes " " ++ progress status

-- the steps that are left, where there are any
abbrev pub left_in_brief : ℕ → List ℕ
left_in_brief left = if left == 0 then [] else counted (codes " left ") left

abbrev pub mdstat_text : Status → List ℕ
mdstat_text status =
    counted (codes "md: raid") status.shape.level ++ roles_in_brief status.roles
    ++ counted (codes " ") status.visible ++ codes " sectors"
    ++ reshape_in_brief status.target status ++ left_in_brief status.left

-- ---- examine

-- a role entry
abbrev pub entry_text : ℕ → List ℕ
entry_text entry = if entry == 0xffff then codes "spare" else if entry == 0xfffe then codes "faulty" else decimal entry

-- whose superblock it is: the array's, a device's, and the role that its own table gives that device
abbrev pub owner_text : Sb → List ℕ
owner_text sb =
    codes " array " ++ hyphenated_text lower sb.set_uuid ++ counted (codes " dev ") sb.dev_number
    ++ codes " role " ++ entry_text (entry_of sb sb.dev_number)

-- what it says of the array, in the fields' own numbers
abbrev pub fields_text : Sb → List ℕ
fields_text sb =
    counted (codes " events ") sb.events ++ counted (codes " level ") sb.level ++ counted (codes " layout ") sb.layout
    ++ counted (codes " chunk ") sb.chunksize ++ counted (codes " disks ") sb.raid_disks ++ counted (codes " size ") sb.size
    ++ counted (codes " features ") sb.feature_map

abbrev pub found_text : Option Sb → List ℕ
found_text None = codes " no superblock"
found_text (Some sb) = owner_text sb ++ fields_text sb ++ codes " " ++ clean_word (is_clean sb)

-- a slot and the superblock that was found there
abbrev pub examined_text : ℕ → Option Sb → List ℕ
examined_text slot found = counted (codes "slot ") slot ++ found_text found
