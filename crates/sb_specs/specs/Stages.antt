-- What a stop may leave while an update brings slots to the newest event count, and then writes what
-- is planned. d is what a stop may leave before the update, and e now.
use Rattle.std.specs.Prelude.{◌≡◌, ◌⊎◌, ℕ, ◌+◌, ◌<◌, true, false, not, ◌&&◌, List, length, Option, Some, None}
use Rattle.bank.specs.raid_types_Sectors.{Sector}
use Rattle.reshape_geometry.specs.raid_types_Shapes.{has_slot}
use Rattle.sb_codec.specs.declared.sb.Sb.{Sb}
use Rattle.bank.specs.Tape.{IsIn}
use Rattle.sb_specs.specs.declared.change.Give.{Give}
use Rattle.sb_specs.specs.declared.change.Give.TheVariants.{Same}
use Rattle.sb_specs.specs.Reading.{Scope, is_recovering}
use Rattle.sb_specs.specs.Update.{planned, give_of, own_in, is_behind, is_recovery}
use Rattle.sb_specs.specs.Writing.{IsPlanned}
use Rattle.sb_specs.specs.Reads.{IsSound, held_in, spare_in}
use Rattle.sb_specs.specs.Held.{MayRead, IsStamped}

-- the second sectors are former ones
abbrev pub AreNinthKept : (ℕ → ℕ → List Sector) → (ℕ → ℕ → List Sector) → Type 0
AreNinthKept d e = (s : ℕ) (v : Sector) → IsIn (e s 9) v → IsIn (d s 9) v

-- Slots are brought to the newest event count: those that are written hold former values, or the newest's fields.
pub record IsCatchingUp (former : Sb) (own : List (Option Sb)) (left : ℕ) (d e : ℕ → ℕ → List Sector) : Type 0 where
  pub values : (s : ℕ) (v : Sector) → IsIn (e s 8) v → IsIn (d s 8) v ⊎ ((has_slot left s ≡ true) × IsPlanned former Same (own_in own s) v)
  pub ninth : AreNinthKept d e

-- What is planned is written, first where a recovery offset is given: the slots that are written hold former values, or what is
-- planned.
pub record IsTaking (newest : Sb) (gives : List Give) (own : List (Option Sb)) (left : ℕ) (d e : ℕ → ℕ → List Sector) : Type 0 where
  pub values : (s : ℕ) (v : Sector) → IsIn (e s 8) v → IsIn (d s 8) v ⊎ ((has_slot left s ≡ true) × IsPlanned newest (give_of gives s) (own_in own s) v)
  pub order : ((s : ℕ) (v : Sector) → is_recovery (give_of gives s) ≡ false → IsIn (e s 8) v → IsIn (d s 8) v)
      ⊎ ((s : ℕ) (v : Sector) → has_slot left s ≡ true → is_recovery (give_of gives s) ≡ true → IsIn (e s 8) v → IsPlanned newest (give_of gives s) (own_in own s) v)
  pub ninth : AreNinthKept d e

-- these slots are those that are live and weren't lost
abbrev pub AreLeft : ℕ → ℕ → ℕ → Type 0
AreLeft live lost left = (s : ℕ) → has_slot left s ≡ (has_slot live s && not (has_slot lost s))

-- The sector of a slot that is at the newest event count: the slot was, and it holds former values, or it holds the newest's fields.
abbrev pub IsLevelled : Sb → Option Sb → List Sector → List Sector → Type 0
IsLevelled former held old now = (v : Sector) → IsIn now v → ((is_behind former held ≡ false) × IsIn old v) ⊎ IsPlanned former Same held v

-- slots were brought to the newest event count
pub record IsCaughtUp (former : Sb) (own : List (Option Sb)) (left : ℕ) (d e : ℕ → ℕ → List Sector) : Type 0 where
  pub stage : IsCatchingUp former own left d e
  pub level : (s : ℕ) → has_slot left s ≡ true → IsLevelled former (own_in own s) (d s 8) (e s 8)

-- what is planned is written, once they were
pub record IsStaged (former newest : Sb) (gives : List Give) (own : List (Option Sb)) (left : ℕ) (d e : ℕ → ℕ → List Sector) : Type 0 where
  pub mid : ℕ → ℕ → List Sector
  pub caught : IsCaughtUp former own left d mid
  pub stage : IsTaking newest gives own left mid e

-- at a mark of an update in which no slot is lost
abbrev pub IsInUpdate : Sb → Sb → List Give → List (Option Sb) → ℕ → (ℕ → ℕ → List Sector) → (ℕ → ℕ → List Sector) → Type 0
IsInUpdate former newest gives own left d e = IsCatchingUp former own left d e ⊎ IsStaged former newest gives own left d e

-- none of the slots that get a recovery offset was lost
abbrev pub AreFirstKept : List Give → ℕ → ℕ → Type 0
AreFirstKept gives lost lost' = (s : ℕ) → is_recovery (give_of gives s) ≡ true → has_slot lost' s ≡ true → has_slot lost s ≡ true

-- these slots hold what is planned alone
abbrev pub AreTaken : Sb → List Give → List (Option Sb) → ℕ → (ℕ → ℕ → List Sector) → Type 0
AreTaken newest gives own taken e = (s : ℕ) (v : Sector) → has_slot taken s ≡ true → IsIn (e s 8) v → IsPlanned newest (give_of gives s) (own_in own s) v

-- ---- what is asked of a change

-- what is given leaves the recovery bit and the recovery offset that counts
abbrev pub IsDeviceKept : Sb → Give → Sb → Type 0
IsDeviceKept newest given sb =
    (is_recovering (planned newest given sb) ≡ is_recovering sb) × (is_recovering sb ≡ true → (planned newest given sb).recovery_offset ≡ sb.recovery_offset)

-- A planned newest superblock, one event later: it is sound, it leaves the size, and the slots that aren't written have no part in
-- the array. But for one slot that gets a recovery offset, each one that is written keeps its own.
pub record IsFitPlan (scope : Scope) (lost : ℕ) (former newest : Sb) (gives : List Give) (own : List (Option Sb)) (left : ℕ) (d : ℕ → ℕ → List Sector) : Type 0 where
  pub sound : IsSound newest
  pub table : length newest.dev_roles ≡ 384
  pub later : newest.events ≡ former.events + 1
  pub size : newest.size ≡ former.size
  pub role : (s role : ℕ) (found : Option Sb) → s < scope.sizes.slots → has_slot left s ≡ false → role < 16 → MayRead scope d s found → held_in newest role s found ≡ None
  pub spare : (s : ℕ) (found : Option Sb) → s < scope.sizes.slots → has_slot left s ≡ false → has_slot lost s ≡ false → MayRead scope d s found
      → spare_in newest (scope.sizes.sectors s) found ≡ false
  pub devices : (s : ℕ) (sb : Sb) → has_slot left s ≡ true → own_in own s ≡ Some sb → is_recovery (give_of gives s) ≡ false → IsDeviceKept newest (give_of gives s) sb
  pub one : (s t : ℕ) → has_slot left s ≡ true → has_slot left t ≡ true → is_recovery (give_of gives s) ≡ true → is_recovery (give_of gives t) ≡ true → s ≡ t

-- of each slot that was written the planned superblock is kept, whatever its checksum
abbrev pub AreKept : Sb → List Give → List (Option Sb) → ℕ → List (Option Sb) → Type 0
AreKept newest gives own left own' =
    (s : ℕ) (sb : Sb) → has_slot left s ≡ true → own_in own s ≡ Some sb → IsStamped (planned newest (give_of gives s) sb) (own_in own' s)
