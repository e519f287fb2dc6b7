-- An array that lacks members: what a call lost, why it is refused, and how the list stands on the members that are there.
use Rattle.std.specs.Prelude.{◌≡◌, ◌≢◌, ◌⊎◌, ℕ, ◌+◌, ◌*◌, ◌<◌, ◌≤◌, nat_le, Bool, true, false, List, [], ◌∷◌, length, slice_index, Contains, Option, Some, None, Result, Ok, Err}
use Rattle.crash_role_laws.specs.raid_types_the_Refusal.{Refusal}
use Rattle.crash_role_laws.specs.raid_types_the_Refusal_TheVariants.{TooManyMissing as TooMany, NotResynced as Unsynced}
use Rattle.crash_role_laws.specs.raid_types_the_Shape.{Shape}
use Rattle.crash_role_laws.specs.raid_types_Sectors.{Sector}
use Rattle.crash_role_laws.specs.raid_types_Shapes.{has_slot, tolerance, data_disks}
use Rattle.crash_role_laws.specs.raid_layout_Layout.{place}
use Rattle.crash_role_laws.specs.bank_the_Operation.{Operation}
use Rattle.crash_role_laws.specs.bank_Given.{Given, IsFaulted}
use Rattle.crash_role_laws.specs.bank_Tape.{Contents, disk}
use Rattle.crash_role_laws.specs.sb_specs_the_Members.{Members}
use Rattle.crash_role_laws.specs.sb_codec_the_Sb.{Sb}
use Rattle.crash_role_laws.specs.sb_specs_Reading.{Reading, shape_of, final_shape, role_count, role_state, holder, data_offset_of, entry_of}
use Rattle.crash_role_laws.specs.sb_specs_Reads.{has_spare}
use Rattle.crash_role_laws.specs.stripe_row_Rows.{reading_of, present, is_missing, missing_count, IsTolerated}
use Rattle.array_members.specs.Placed.{is_unassigned}
use Rattle.crash_role_laws.specs.stripe_list_the_Unavailable.{Unavailable}
use Rattle.crash_role_laws.specs.stripe_list_the_Unavailable_TheVariants.{TooManyMissing, NotResynced}
use Rattle.crash_role_laws.specs.stripe_list_Full.{DataStands, RowStands}
use Rattle.crash_role_laws.specs.stripe_list_Buffers.{buffered, AreStanding, HasData}
use Rattle.crash_role_laws.specs.stripe_list_Writing.{IsWritten, AreDataFrom, IsFull, StaysRebuilt, IsPutting, AreSuperblocksKept}

-- ---- why a call is refused

-- so many roles of the shape are missing
abbrev pub lacking : Shape → Members → ℕ
lacking shape members = missing_count (reading_of members) shape

-- no more are missing than it tolerates
abbrev pub DoesWithout : Shape → Members → Type 0
DoesWithout shape members = IsTolerated (reading_of members) shape

-- the refusal that tells how many are missing, and how many it tolerates
abbrev pub too_many : Shape → Members → Refusal
too_many shape members = TooMany (lacking shape members) (tolerance shape)

-- more are missing than it tolerates, and this refusal tells so
pub record LacksTooMany (shape : Shape) (members : Members) (refusal : Refusal) : Type 0 where
  pub above : tolerance shape < lacking shape members
  pub told : refusal ≡ too_many shape members

-- So it is of a shape in force: of the array's, or where that does without them, of the one that will stand in the end.
abbrev pub AreTooMany : Members → Refusal → Type 0
AreTooMany members refusal = LacksTooMany (shape_of members.newest) members refusal
    ⊎ (DoesWithout (shape_of members.newest) members × LacksTooMany (final_shape members.newest) members refusal)

-- the refusal for sectors that can't be had
abbrev pub refusal_for : Shape → Members → Unavailable → Refusal
refusal_for shape members TooManyMissing = too_many shape members
refusal_for shape members (NotResynced role) = Unsynced role

-- the refusal that stands in an answer
abbrev pub refused_by : {T : Type 0} → Shape → Members → Result T Unavailable → Option Refusal
refused_by shape members (Ok done) = None
refused_by shape members (Err cause) = Some (refusal_for shape members cause)

-- ---- a resync

-- the rows whose parity is to be relied on: those of the stripes that a pending resync has mended, or else all
abbrev pub synced_rows : Option ℕ → Members → ℕ
synced_rows None members = members.newest.size
synced_rows (Some mended) members = mended * (shape_of members.newest).chunk

-- the row is of this stripe
abbrev pub IsOfStripe : Shape → ℕ → ℕ → Type 0
IsOfStripe shape stripe row = (stripe * shape.chunk ≤ row) × (row < (stripe + 1) * shape.chunk)

-- the sectors of the list below this one have their places in the first so many rows
abbrev pub are_synced : Shape → ℕ → ℕ → Bool
are_synced shape mended to = nat_le to (data_disks shape * mended)

-- one of so many sectors from this one on has its place on the role, behind these rows
abbrev pub IsAskedBeyond : Shape → ℕ → ℕ → ℕ → ℕ → Type 0
IsAskedBeyond shape mended first count role = (x : ℕ) × (first ≤ x) × (x < first + count) × ((place shape x).role ≡ role) × (mended ≤ (place shape x).row)

-- a role that has data is missing where parity isn't to be relied on, and this refusal tells so
abbrev pub IsNotResynced : Shape → Bool → Members → Refusal → Type 0
IsNotResynced shape synced members refusal = (role : ℕ) × (refusal ≡ Unsynced role) × (synced ≡ false) × (is_missing (reading_of members) role ≡ true) × HasData shape role

-- why a read of so many sectors from this one on isn't done: too many are missing, or one of theirs is, behind the mended rows
abbrev pub IsUnread : Shape → ℕ → ℕ → ℕ → Members → Refusal → Type 0
IsUnread shape mended first count members refusal = LacksTooMany shape members refusal
    ⊎ ((role : ℕ) × (refusal ≡ Unsynced role) × (is_missing (reading_of members) role ≡ true) × IsAskedBeyond shape mended first count role)

-- why a write isn't done
abbrev pub IsUnwritten : Shape → Bool → Members → Refusal → Type 0
IsUnwritten shape synced members refusal = LacksTooMany shape members refusal ⊎ IsNotResynced shape synced members refusal

-- ---- what a call lost

-- Each role has the slot that held it, or that slot has failed since.
abbrev pub HaveRolesFailed : Members → Members → (ℕ → ℕ) → (ℕ → ℕ) → Type 0
HaveRolesFailed old new before after = (role slot : ℕ) → holder (role_state (reading_of old) role) ≡ Some slot → (holder (role_state (reading_of new) role) ≡ Some slot) ⊎ IsFaulted slot before after

-- So it is, and these slots, which were spares, have failed since too; each other spare is one still, and no other slot is.
pub record HaveFailedSince (old new : Members) (spares : ℕ) (before after : ℕ → ℕ) : Type 0 where
  pub roles : HaveRolesFailed old new before after
  pub spares_are : (slot : ℕ) → has_slot spares slot ≡ true → IsFaulted slot before after
  pub were : (slot : ℕ) → has_slot spares slot ≡ true → has_spare old.spares slot ≡ true
  pub fewer : (slot : ℕ) → has_spare new.spares slot ≡ true → has_spare old.spares slot ≡ true
  pub told : (slot : ℕ) → has_spare old.spares slot ≡ true → (has_spare new.spares slot ≡ true) ⊎ (has_slot spares slot ≡ true)

-- Each role that no slot holds now had none before, or is one of these; no slot holds these now, and the slot of each has failed since, as have
-- these, which were spares; each other spare is one still.
pub record AreLostSince (old new : Members) (roles spares : ℕ) (before after : ℕ → ℕ) : Type 0 where
  pub vacant : (role : ℕ) → role < role_count new.newest → is_unassigned (reading_of new) role ≡ true → (is_unassigned (reading_of old) role ≡ true) ⊎ (has_slot roles role ≡ true)
  pub gone : (role : ℕ) → has_slot roles role ≡ true → is_unassigned (reading_of new) role ≡ true
  pub held : (role : ℕ) → has_slot roles role ≡ true → (slot : ℕ) × (holder (role_state (reading_of old) role) ≡ Some slot) × IsFaulted slot before after
  pub failed : (slot : ℕ) → has_slot spares slot ≡ true → IsFaulted slot before after
  pub were : (slot : ℕ) → has_slot spares slot ≡ true → has_spare old.spares slot ≡ true
  pub told : (slot : ℕ) → has_spare old.spares slot ≡ true → (has_spare new.spares slot ≡ true) ⊎ (has_slot spares slot ≡ true)

-- ---- the list on the members that are there

-- each data role that a slot holds has the list's sectors
abbrev pub ListStands : Members → Contents → (ℕ → Sector) → Type 0
ListStands members c list = (row : ℕ) → row < members.newest.size → DataStands (reading_of members) c (shape_of members.newest) list row

-- and each parity role what belongs to them, so that what is missing can be filled in
abbrev pub RowsStand : Members → Contents → (ℕ → Sector) → Type 0
RowsStand members c list = (row : ℕ) → row < members.newest.size → RowStands (reading_of members) c (shape_of members.newest) list row

-- ---- the rows of one shape, be it the only one in force or not

-- each data role of these rows that a slot holds has the list's sectors
abbrev pub DataStandsAmong : Shape → (ℕ → Type 0) → Members → Contents → (ℕ → Sector) → Type 0
DataStandsAmong shape among members c list = (row : ℕ) → among row → row < members.newest.size → DataStands (reading_of members) c shape list row

-- and each parity role what belongs to them
abbrev pub RowsStandAmong : Shape → (ℕ → Type 0) → Members → Contents → (ℕ → Sector) → Type 0
RowsStandAmong shape among members c list = (row : ℕ) → among row → row < members.newest.size → RowStands (reading_of members) c shape list row

-- so it is of those below this one, in an array of one shape
abbrev pub RowsStandBelow : ℕ → Members → Contents → (ℕ → Sector) → Type 0
RowsStandBelow mended members c list = RowsStandAmong (shape_of members.newest) (λ row. row < mended) members c list

-- a stop leaves what the holders of roles have as it is, but for their superblocks, and nothing else
abbrev pub AreHoldersFlushed : Reading → Given → List Operation → Type 0
AreHoldersFlushed r given tape = (role slot k : ℕ) → holder (role_state r role) ≡ Some slot → k ≢ 8 → disk given.start tape slot k ≡ present given tape slot k ∷ []

-- ---- names

-- the superblock gives the role to one of the devices that it has an entry for
abbrev pub IsNamed : Sb → ℕ → Type 0
IsNamed newest role = (device : ℕ) × (device < 384) × (entry_of newest device ≡ role)

-- it gives no device a role that no slot holds
abbrev pub AreUnnamed : Members → Type 0
AreUnnamed m = (role : ℕ) → role < role_count m.newest → is_unassigned (reading_of m) role ≡ true → IsNamed m.newest role → ⊥

-- ---- a write

-- what the holders of roles have of this row is as it was
abbrev pub IsHeldRowKept : Reading → Contents → Contents → ℕ → Type 0
IsHeldRowKept r before after row = (role slot : ℕ) → holder (role_state r role) ≡ Some slot → after slot (data_offset_of r slot + row) ≡ before slot (data_offset_of r slot + row)

-- so it is of each row that isn't among these
abbrev pub AreOtherRowsKept : (ℕ → Type 0) → Reading → Contents → Contents → Type 0
AreOtherRowsKept among r before after = (row : ℕ) → (among row → ⊥) → IsHeldRowKept r before after row

-- each of these is a byte
abbrev pub AreBytes : List ℕ → Type 0
AreBytes bytes = (at : ℕ) → slice_index bytes at < 256

-- What was read of these rows: each role that a slot holds in the end has the sector that stands there, and each sector of the list is the list's,
-- where data roles stood as the list, and, in a synced array, parity did so too.
pub record AreRowsRead (shape : Shape) (synced : Bool) (old new : Members) (c : Contents) (rows buffer : List ℕ) : Type 0 where
  pub held : (i : ℕ) → i < length rows → AreStanding (reading_of new) c shape (slice_index rows i) (buffered buffer i)
  pub listed : (list : ℕ → Sector) → DataStandsAmong shape (Contains rows) old c list → (synced ≡ true → RowsStandAmong shape (Contains rows) old c list) → AreDataFrom 0 shape list rows buffer

-- What a stretch of a write leaves: of these rows those from one up to the next are written, each other row is as it was, and those behind can be
-- written.
pub record AreRowsWritten (shape : Shape) (first : ℕ) (from rows : List ℕ) (start next : ℕ) (new : Members) (before after : Contents) (buffer buffer' : List ℕ) : Type 0 where
  pub full : (list list' : ℕ → Sector) → IsWritten list list' first from → AreDataFrom start shape list rows buffer
      → (i : ℕ) → start ≤ i → i < next → IsFull (reading_of new) after shape list' (slice_index rows i)
  pub rebuilt : (list list' : ℕ → Sector) → IsWritten list list' first from → AreDataFrom start shape list rows buffer
      → (i : ℕ) → start ≤ i → i < next → StaysRebuilt (reading_of new) before after shape list list' (slice_index rows i)
  pub others : (row : ℕ) → ((i : ℕ) → start ≤ i → i < next → slice_index rows i ≢ row) → IsHeldRowKept (reading_of new) before after row
  pub rest : (i role : ℕ) → next ≤ i → i < length rows → role < shape.disks → buffered buffer' i role ≡ buffered buffer i role
  pub standing : (i : ℕ) → next ≤ i → i < length rows → AreStanding (reading_of new) after shape (slice_index rows i) (buffered buffer' i)

-- at each mark each place has its former values, and perhaps its full sector of the new list, and no superblock is touched
abbrev pub IsListPut : Shape → Members → (ℕ → Sector) → List ℕ → (ℕ → ℕ → List Sector) → (ℕ → ℕ → List Sector) → Type 0
IsListPut shape members list rows d e = IsPutting (reading_of members) shape list (Contains rows) d e × AreSuperblocksKept d e
