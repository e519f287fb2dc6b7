-- An array in the middle of a reshape from four to five disks: the verdict, the window and the section, computed.
use Rattle.std.proofs.Common.{◌≡◌, ℕ, zero, suc, ◌/◌, ◌%◌, List, [], ◌∷◌, ◌++◌, replicate, refl, Some, None, Option, codes, option_and_then}
use Rattle.history.specs.raid_types_the_Refusal_TheVariants.{Unsupported, BadField, PositionNotOnUnit, BackupAbsent}
use Rattle.history.specs.raid_types_the_Span.{Span}
use Rattle.history.specs.raid_types_the_Refusal.{Refusal}
use Rattle.history.proofs.bank_Listed.{Slot, listed, listed_sizes}
use Rattle.history.specs.raid_types_Search.{tabulate, least_below, count_below, any_below}
use Rattle.history.specs.raid_types_Sectors.{Sector}
use Rattle.history.specs.sb_codec_Superblock.{checksum}
use Rattle.history.specs.sb_specs_Reading.{Scope, reading}
use Rattle.history.specs.ActiveSection.{active_section}
use Rattle.history.specs.Stands.{verdict}

abbrev bytes : ℕ → ℕ → List ℕ
bytes zero n = []
bytes (suc k) n = (n % 256) ∷ bytes k (n / 256)

abbrev uuid : List ℕ
uuid = replicate 16 7

abbrev unused : ℕ → List ℕ
unused zero = []
unused (suc n) = 254 ∷ 255 ∷ unused n

-- features, position, level, device number, events
abbrev unsummed : ℕ → ℕ → ℕ → ℕ → ℕ → List ℕ → List ℕ
unsummed features position level dev events sum =
    bytes 4 0xa92b4efc ++ bytes 4 1 ++ bytes 4 features ++ bytes 4 0 ++ uuid ++ replicate 40 0
    ++ bytes 4 level ++ bytes 4 2 ++ bytes 8 128 ++ bytes 4 8 ++ bytes 4 5 ++ bytes 4 0
    ++ bytes 4 5 ++ bytes 8 position ++ bytes 4 1 ++ bytes 4 2 ++ bytes 4 8 ++ bytes 4 0
    ++ bytes 8 16 ++ bytes 8 128 ++ bytes 8 8 ++ bytes 8 0 ++ bytes 4 dev ++ replicate 28 0 ++ bytes 8 0
    ++ bytes 8 events ++ replicate 8 255 ++ sum
    ++ bytes 4 128 ++ replicate 32 0 ++ bytes 2 0 ++ bytes 2 1 ++ bytes 2 2 ++ bytes 2 3 ++ bytes 2 4 ++ unused 123

abbrev superblock : ℕ → ℕ → ℕ → ℕ → ℕ → Sector
superblock features position level dev events =
    unsummed features position level dev events (bytes 4 (checksum (unsummed features position level dev events (bytes 4 0) ++ replicate 512 0)))

abbrev slot : Sector → Slot
slot sb = replicate 8 [] ++ sb ∷ replicate 512 0 ∷ replicate 134 []

abbrev pub header : ℕ → ℕ → Sector
header lo len = codes "md_backup_data-1" ++ uuid ++ bytes 8 0 ++ bytes 8 8 ++ bytes 8 lo ++ bytes 8 len ++ replicate 448 0

-- five members at this position, and a backup of so many sectors with this header
abbrev pub members : ℕ → ℕ → ℕ → List Slot → List Slot
members position level features more =
    slot (superblock 4 position level 0 5) ∷ slot (superblock 4 position level 1 5) ∷ slot (superblock features position level 2 5)
    ∷ slot (superblock 4 position level 3 5) ∷ slot (superblock 4 position level 4 5) ∷ more

abbrev pub scope : Option ℕ → List Slot → Scope
scope backup slots = record { uuid = uuid; given = 63; backup = backup; sizes = listed_sizes slots }

abbrev verdict_of : Option ℕ → List Slot → Option Refusal
verdict_of backup slots = verdict (scope backup slots) (listed slots)

off_unit : verdict_of None (members 40 5 4 []) ≡ Some (PositionNotOnUnit 40 96)
unfolding tabulate least_below count_below any_below reading verdict
off_unit = refl

no_backup : verdict_of None (members 96 5 4 []) ≡ Some BackupAbsent
unfolding tabulate least_below count_below any_below reading verdict
no_backup = refl

short_backup : verdict_of (Some 5) (members 96 5 4 (replicate 103 [] ∷ [])) ≡ Some BackupAbsent
unfolding tabulate least_below count_below any_below reading verdict
short_backup = refl

long_enough : verdict_of (Some 5) (members 96 5 4 (replicate 104 [] ∷ [])) ≡ None
unfolding tabulate least_below count_below any_below reading verdict
long_enough = refl

level_four : verdict_of (Some 5) (members 96 4 4 (replicate 104 [] ∷ [])) ≡ Some (BadField 72)
unfolding tabulate least_below count_below any_below reading verdict
level_four = refl

feature_512 : verdict_of (Some 5) (members 96 5 516 (replicate 104 [] ∷ [])) ≡ Some (Unsupported 512)
unfolding tabulate least_below count_below any_below reading verdict
feature_512 = refl

past_length : verdict_of (Some 5) (members 480 5 4 (replicate 104 [] ∷ [])) ≡ Some (BadField 104)
unfolding tabulate least_below count_below any_below reading verdict
past_length = refl

-- the section of the next window is active; one of another length, or of another array, isn't
abbrev section_of : List Slot → Option Span
section_of slots = option_and_then (λ r. active_section (scope (Some 5) slots) (listed slots) r) (reading (scope (Some 5) slots) (listed slots))

held : section_of (members 96 5 4 ((header 96 96 ∷ replicate 103 []) ∷ [])) ≡ Some (record { lo = 96; hi = 192 })
unfolding tabulate least_below count_below any_below reading
held = refl

other_length : section_of (members 96 5 4 ((header 96 95 ∷ replicate 103 []) ∷ [])) ≡ None
unfolding tabulate least_below count_below any_below reading
other_length = refl

passed : section_of (members 96 5 4 ((header 0 96 ∷ replicate 103 []) ∷ [])) ≡ None
unfolding tabulate least_below count_below any_below reading
passed = refl
