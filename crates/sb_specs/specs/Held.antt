-- What the slots of a running array hold between updates of its superblocks.
use Rattle.std.specs.Prelude.{◌≡◌, ◌≢◌, ◌⊎◌, ℕ, ◌<◌, ◌≤◌, true, false, List, drop, length, slice_index, if◌then◌else◌, Option, Some, None, bytes_eq}
use Rattle.bank.specs.raid_types_Sectors.{Sector}
use Rattle.reshape_geometry.specs.raid_types_Shapes.{has_slot}
use Rattle.reshape_geometry.specs.raid_types_Search.{tabulate}
use Rattle.sb_codec.specs.declared.sb.Sb.{Sb}
use Rattle.sb_codec.specs.Superblock.{superblock_in, two_by_two}
use Rattle.bank.specs.Tape.{Contents, IsIn}
use Rattle.sb_specs.specs.Reading.{Scope, Reading, reading_by, is_seen, of_array, is_fresh, is_recovering, lies_within}
use Rattle.sb_codec.specs.Features.{refused_bits}
use Rattle.sb_specs.specs.Update.{own_in}
use Rattle.sb_specs.specs.Reads.{HasNoLateRoles, IsNewestLike, IsSuited, IsSound, held_in, spare_in}

-- the array's superblock in a slot with these sectors
abbrev pub own_at : Scope → ℕ → (ℕ → Sector) → Option Sb
own_at scope slot at = of_array scope.uuid (if is_seen scope slot then superblock_in (scope.sizes.sectors slot) at else None)

-- the superblock sectors of these contents are drawn from what a stop may leave
abbrev pub AreDrawn : (ℕ → ℕ → List Sector) → Contents → Type 0
AreDrawn d c = (slot : ℕ) → IsIn (d slot 8) (c slot 8) × IsIn (d slot 9) (c slot 9)

-- what an image may have in a slot, where a stop may leave these values
pub record MayRead (scope : Scope) (d : ℕ → ℕ → List Sector) (slot : ℕ) (found : Option Sb) : Type 0 where
  pub at : ℕ → Sector
  pub eighth : IsIn (d slot 8) (at 8)
  pub ninth : IsIn (d slot 9) (at 9)
  pub is : own_at scope slot at ≡ found

-- the same superblock but for its checksum
abbrev pub IsStamped : Sb → Option Sb → Type 0
IsStamped sb found = (csum : ℕ) × (found ≡ Some (record sb { sb_csum = csum }))

-- A superblock beside the one that is kept of its slot: fresh, not newer than the newest, with the same fields of the device, and no role for
-- a device number from 128 on.
pub record IsBefore (newest own sb : Sb) : Type 0 where
  pub events : sb.events ≤ newest.events
  pub fresh : is_fresh newest sb ≡ true
  pub number : sb.dev_number ≡ own.dev_number
  pub start : sb.data_offset ≡ own.data_offset
  pub table : sb.max_dev ≡ own.max_dev
  pub refused : refused_bits sb.feature_map ≡ refused_bits own.feature_map
  pub recovering : is_recovering sb ≡ is_recovering own
  pub offset : is_recovering own ≡ true → sb.recovery_offset ≡ own.recovery_offset
  pub late : HasNoLateRoles sb

-- such a one, but for its checksum
abbrev pub ReadsBefore : Sb → Sb → Option Sb → Type 0
ReadsBefore newest own found = (sb : Sb) × IsStamped sb found × IsBefore newest own sb

-- a sector of bytes, which holds the role entries from 128 on
pub record IsSecondHalf (sb : Sb) (sector : Sector) : Type 0 where
  pub long : length sector ≡ 512
  pub bytes : (k : ℕ) → slice_index sector k < 256
  pub entries : two_by_two sector ≡ drop 128 sb.dev_roles

-- A slot whose superblock is known: each image has it, or one of the same device. Its device number has one of the first 128
-- entries, and the array's data fits behind it.
pub record IsKnown (scope : Scope) (newest : Sb) (held : Option Sb) (slot : ℕ) (d : ℕ → ℕ → List Sector) : Type 0 where
  pub sb : Sb
  pub own : held ≡ Some sb
  pub reads : (found : Option Sb) → MayRead scope d slot found → ReadsBefore newest sb found
  pub second : (sector : Sector) → IsIn (d slot 9) sector → IsSecondHalf sb sector
  pub seen : is_seen scope slot ≡ true
  pub long : 10 ≤ scope.sizes.sectors slot
  pub there : slot < scope.sizes.slots
  pub array : bytes_eq sb.set_uuid scope.uuid ≡ true
  pub fresh : is_fresh newest sb ≡ true
  pub number : sb.dev_number < 128
  pub late : HasNoLateRoles sb
  pub lies : lies_within newest (scope.sizes.sectors slot) sb ≡ true
  pub suited : IsSuited newest (scope.sizes.sectors slot) sb

-- Another slot: in no image has it a role, and in none is it a spare, unless it was lost.
pub record IsOther (scope : Scope) (newest : Sb) (lost slot : ℕ) (d : ℕ → ℕ → List Sector) : Type 0 where
  pub suited : (sb : Sb) → MayRead scope d slot (Some sb) → IsSuited newest (scope.sizes.sectors slot) sb
  pub role : (role : ℕ) (found : Option Sb) → role < 16 → MayRead scope d slot found → held_in newest role slot found ≡ None
  pub spare : (found : Option Sb) → has_slot lost slot ≡ false → MayRead scope d slot found → spare_in newest (scope.sizes.sectors slot) found ≡ false

-- a slot's superblock, known or in some image
abbrev pub Shows : Scope → ℕ → List (Option Sb) → (ℕ → ℕ → List Sector) → ℕ → Sb → Type 0
Shows scope known own d slot sb =
    ((has_slot known slot ≡ true) × (own_in own slot ≡ Some sb)) ⊎ ((has_slot known slot ≡ false) × MayRead scope d slot (Some sb))

-- the first slot whose superblock is as new as the newest, by what the slots up to it have in some image
pub record IsFirstAsNew (scope : Scope) (newest : Sb) (d : ℕ → ℕ → List Sector) (slot : ℕ) (sb : Sb) : Type 0 where
  pub there : slot < scope.sizes.slots
  pub shown : ℕ → Option Sb
  pub may : (s : ℕ) → s ≤ slot → MayRead scope d s (shown s)
  pub is : shown slot ≡ Some sb
  pub events : sb.events ≡ newest.events
  pub none : (s : ℕ) (b : Sb) → s < slot → shown s ≡ Some b → b.events ≢ newest.events

-- The slots of a running array, as a stop may leave them: the superblocks of these are known, of the others it is known that
-- they have no part in it. Some slot is as new as the newest in each image, and the first that is says the same; no two have
-- fresh superblocks with one device number.
pub record AreHeld (scope : Scope) (known lost : ℕ) (newest : Sb) (own : List (Option Sb)) (d : ℕ → ℕ → List Sector) : Type 0 where
  pub sound : IsSound newest
  pub table : length newest.dev_roles ≡ 384
  pub each : (slot : ℕ) → has_slot known slot ≡ true → IsKnown scope newest (own_in own slot) slot d
  pub others : (slot : ℕ) → slot < scope.sizes.slots → has_slot known slot ≡ false → IsOther scope newest lost slot d
  pub top : (slot : ℕ) × (slot < scope.sizes.slots) × ((found : Option Sb) → MayRead scope d slot found → (sb : Sb) × (found ≡ Some sb) × (sb.events ≡ newest.events))
  pub first : (slot : ℕ) (sb : Sb) → IsFirstAsNew scope newest d slot sb → IsNewestLike newest sb
  pub apart : (s t : ℕ) (a b : Sb) → s ≢ t → Shows scope known own d s a → Shows scope known own d t b
      → is_fresh newest a ≡ true → is_fresh newest b ≡ true → a.dev_number ≢ b.dev_number

-- of these slots each image has a superblock as new as the newest
abbrev pub AreLevel : Scope → ℕ → Sb → (ℕ → ℕ → List Sector) → Type 0
AreLevel scope level newest d =
    (slot : ℕ) (found : Option Sb) → has_slot level slot ≡ true → MayRead scope d slot found → (sb : Sb) × (found ≡ Some sb) × (sb.events ≡ newest.events)

-- of these slots each image has the superblock that is kept, but for its checksum
abbrev pub AreExact : Scope → ℕ → List (Option Sb) → (ℕ → ℕ → List Sector) → Type 0
AreExact scope exact own d =
    (slot : ℕ) (sb : Sb) (found : Option Sb) → has_slot exact slot ≡ true → own_in own slot ≡ Some sb → MayRead scope d slot found → IsStamped sb found

-- the superblocks that are known
abbrev pub known_of : Scope → ℕ → List (Option Sb) → List (Option Sb)
known_of scope known own = tabulate scope.sizes.slots (λ slot. if has_slot known slot then own_in own slot else None)

-- what they say, by this newest one
abbrev pub said_by : Scope → ℕ → List (Option Sb) → Sb → Reading
said_by scope known own newest = reading_by scope.sizes.sectors (known_of scope known own) newest
