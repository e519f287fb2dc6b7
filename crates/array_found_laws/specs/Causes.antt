-- Why a stored reshape is refused: its position isn't on the unit, or its backup isn't there.
use Rattle.std.specs.Prelude.{◌≡◌, ◌≢◌, ℕ, ◌+◌, ◌<◌, true, false, Some, None}
use Rattle.std.specs.Int.{◌∣◌}
use Rattle.array_call_specs.specs.raid_types_the_Refusal_TheVariants.{PositionNotOnUnit, BackupAbsent}
use Rattle.array_call_specs.specs.raid_types_Shapes.{has_slot}
use Rattle.array_call_specs.specs.sb_codec_the_Sb.{Sb}
use Rattle.array_call_specs.specs.bank_Tape.{Contents}
use Rattle.array_call_specs.specs.sb_specs_Election.{seen_superblocks}
use Rattle.array_call_specs.specs.sb_specs_Reading.{Scope, Reading, reading, is_backup, is_reshaping, list_length}
use Rattle.array_call_specs.specs.sb_specs_Verdict.{unit_of, members_refusal}
use Rattle.array_call_specs.specs.history_Stands.{verdict, reach_of}

-- ---- the position

-- The position of an active reshape is neither a multiple of the unit of its shapes nor the list's length.
pub record IsOffUnit (newest : Sb) (position unit : ℕ) : Type 0 where
  pub active : is_reshaping newest ≡ true
  pub position_is : newest.reshape_position ≡ position
  pub unit_is : unit_of newest ≡ unit
  pub between : unit ∣ position → ⊥
  pub inside : position ≢ list_length newest

-- So it is where `PositionNotOnUnit` is answered, with these values.
abbrev pub OffUnitIsTold : Type 0
OffUnitIsTold = (scope : Scope) (c : Contents) (position unit : ℕ) → verdict scope c ≡ Some (PositionNotOnUnit position unit)
    → (r : Reading) × (reading scope c ≡ Some r) × IsOffUnit r.newest position unit

-- And where nothing is answered, it isn't so.
abbrev pub AcceptedIsOnUnit : Type 0
AcceptedIsOnUnit = (scope : Scope) (c : Contents) (r : Reading) (position unit : ℕ) → verdict scope c ≡ None → reading scope c ≡ Some r → IsOffUnit r.newest position unit → ⊥

-- ---- the backup

-- A reshape is active, and no slot that is there is a backup with room for a window behind its header.
pub record LacksBackup (scope : Scope) (newest : Sb) : Type 0 where
  pub active : is_reshaping newest ≡ true
  pub short : (backup : ℕ) → scope.backup ≡ Some backup → has_slot scope.given backup ≡ true → scope.sizes.sectors backup < 8 + reach_of newest

-- `BackupAbsent` is answered exactly where it is so and nothing else is refused.
abbrev pub LackingBackupIsTold : Type 0
LackingBackupIsTold = (scope : Scope) (c : Contents) → verdict scope c ≡ Some BackupAbsent
    → (r : Reading) × (reading scope c ≡ Some r) × (members_refusal scope.sizes.sectors r ≡ None) × LacksBackup scope r.newest

abbrev pub LackingBackupIsRefused : Type 0
LackingBackupIsRefused = (scope : Scope) (c : Contents) (r : Reading) → reading scope c ≡ Some r → members_refusal scope.sizes.sectors r ≡ None → LacksBackup scope r.newest
    → verdict scope c ≡ Some BackupAbsent

-- The same slots are looked at for the same array, but for the backup, which isn't there.
pub record IsWithoutBackup (scope without : Scope) : Type 0 where
  pub uuid : without.uuid ≡ scope.uuid
  pub backup_is : without.backup ≡ scope.backup
  pub sizes_are : without.sizes ≡ scope.sizes
  pub given : (s : ℕ) → is_backup scope.backup s ≡ false → has_slot without.given s ≡ has_slot scope.given s
  pub absent : (backup : ℕ) → scope.backup ≡ Some backup → has_slot without.given backup ≡ false

-- Without the backup the same superblocks are seen; a reshape that is refused for nothing else is refused for it.
abbrev pub BackupsHaveNoSuperblock : Type 0
BackupsHaveNoSuperblock = (scope without : Scope) (c : Contents) → IsWithoutBackup scope without → seen_superblocks without c ≡ seen_superblocks scope c

abbrev pub LostBackupIsRefused : Type 0
LostBackupIsRefused = (scope without : Scope) (c : Contents) (r : Reading) → IsWithoutBackup scope without → verdict scope c ≡ None → reading scope c ≡ Some r → is_reshaping r.newest ≡ true
    → verdict without c ≡ Some BackupAbsent
