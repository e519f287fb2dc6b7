-- What an array keeps without an active reshape, also behind one that ended, over plain data.
use Rattle.std.specs.Prelude.{◌≡◌, ◌⊎◌, ℕ, ◌<◌, ◌≤◌, ◌||◌, Bool, true, false, List, length, IfSome, IsSome, is_some, ⊤}
use Rattle.array_reshaping_invariant.specs.raid_types_Sectors.{Sector}
use Rattle.array_reshaping_invariant.specs.raid_types_Shapes.{tolerance, tolerance_of}
use Rattle.array_reshaping_invariant.specs.bank_the_Operation.{Operation}
use Rattle.array_reshaping_invariant.specs.bank_Given.{Given, sizes}
use Rattle.array_reshaping_invariant.specs.bank_Tape.{Contents}
use Rattle.array_reshaping_invariant.specs.sb_specs_the_Members.{Members}
use Rattle.array_reshaping_invariant.specs.sb_specs_Reading.{Scope, is_reshaping, is_clean, shape_of, list_length, role_count}
use Rattle.array_reshaping_invariant.specs.stripe_row_Rows.{reading_of, present, is_missing}
use Rattle.array_reshaping_invariant.specs.history_the_Entry.{Entry}
use Rattle.array_reshaping_invariant.specs.history_Epochs.{HasRoomForEvents}
use Rattle.array_reshaping_invariant.specs.history_Flat.{now}
use Rattle.array_reshaping_invariant.specs.history_Legal.{told_left, level_at}
use Rattle.array_reshaping_invariant.specs.history_Losses.{is_unsynced}
use Rattle.array_reshaping_invariant.specs.history_OneShape.{is_unsettled}
use Rattle.array_reshaping_invariant.specs.history_Sound.{OpensFit}
use Rattle.array_reshaping_invariant.specs.history_World.{opening_list}
use Rattle.array_reshaping_invariant.specs.crash_views_Regions.{DoWithout}
use Rattle.array_reshaping_invariant.specs.crash_safety_laws_Safety.{HasLiveSlot}
use Rattle.array_reshaping_invariant.specs.crash_safety_laws_Steady.{AreUnlost}
use Rattle.array_reshaping_invariant.specs.array_members_the_Work.{Work}
use Rattle.array_reshaping_invariant.specs.array_members_Lacking.{ListStands, RowsStandBelow, synced_rows}
use Rattle.array_reshaping_invariant.specs.array_members_Numbers.{bears}
use Rattle.array_reshaping_invariant.specs.array_members_Placed.{IsPlaced}
use Rattle.array_reshaping_invariant.specs.array_members_Rebuilding.{AreSparesFree, AreRebuilt}
use Rattle.array_reshaping_invariant.specs.array_members_Status.{stripes_of}
use Rattle.array_reshaping_invariant.specs.sb_safe_updates_Named.{AreNamedMissing}
use Rattle.array_reshaping_invariant.specs.array_call_specs_Kept.{AreSectorsWhole}
use Rattle.array_reshaping_invariant.specs.history_invariant_Recorded.{IsHistoryKept}
use Rattle.array_reshaping_invariant.specs.history_invariant_Safe.{world_in, TakesNone, KeepsLevel, IsFilledRight, IsSafeHistory}
use Rattle.array_reshaping_invariant.specs.history_invariant_laws_Reliable.{IsReliable, AreToldGone, IsNonePast}

-- The members of an array without an active reshape: each has its place, no slot that holds a role was lost, and each spare is free.
pub record AreAtRest (given : Given) (members : Members) : Type 0 where
  pub placed : IsPlaced given members
  pub still : is_reshaping members.newest ≡ false
  pub unlost : AreUnlost members
  pub free : AreSparesFree given members
  pub spares : length members.spares ≤ 32

-- The list stands on the members. Where the epoch opened sound its sectors are whole, its rows stand, where a resync is pending those that it has mended, and what
-- was rebuilt on recovering slots is the list's.
pub record HasListStood (sound : Type 0) (work : Work) (members : Members) (c : Contents) (list : ℕ → Sector) : Type 0 where
  pub stands : ListStands members c list
  pub whole : sound → AreSectorsWhole (list_length members.newest) list
  pub rows : sound → RowsStandBelow (synced_rows work.resync members) members c list
  pub rebuilt : sound → AreRebuilt work members c list

-- no role is missing
abbrev pub AreNoneMissing : Members → Type 0
AreNoneMissing members = (role : ℕ) → role < role_count members.newest → is_missing (reading_of members) role ≡ false

-- What is missing can be told from the superblocks: as long as a slot is left, each role that no slot holds is named missing; or they say clean, so that all that they name fits.
abbrev pub IsNamedOrClean : Members → Type 0
IsNamedOrClean members = (HasLiveSlot members → AreNamedMissing members) ⊎ (is_clean members.newest ≡ true)

-- No reshape is active in the array, whether some were before or not; this is under way in it, and so many steps are left. What is missing was told so, and a
-- dirty mark, and a pending resync; where no role was told lost and no level taken over, each is whole; over a bank that tells its contents the history is legal, reaches to the tape's end and tells nothing past the list's, the list stands where what is filled
-- in is right, as long as the members suffice, and each mark so far is safe. Superblocks may tell a reshape still only where no live slot is left.
pub record IsStill (tells : Type 0) (given : Given) (tape : List Operation) (scope : Scope) (first : ℕ) (entries : List Entry) (members : Members) (work : Work) (left : ℕ) : Type 0 where
  pub slots : given.slots ≤ 32
  pub members_are : AreAtRest given members
  pub sizes_are : scope.sizes ≡ sizes given
  pub left_told : IfSome (told_left entries) (λ n. n ≡ left)
  pub reshaping : Bool
  pub over : HasLiveSlot members → reshaping ≡ false
  pub progress : IfSome work.resync (λ mended. mended ≤ stripes_of members)
  pub pending : tells → is_unsynced (world_in given tape scope first) entries ≡ is_some work.resync
  pub dirty : DoWithout members → IsSome work.resync → is_clean members.newest ≡ false
  pub levelled : tells → IsReliable (world_in given tape scope first) entries → tolerance_of (level_at (world_in given tape scope first) entries) ≡ tolerance (shape_of members.newest)
  pub gone : tells → IsReliable (world_in given tape scope first) entries → AreToldGone (world_in given tape scope first) entries members
  pub full : tells → TakesNone (world_in given tape scope first) entries → KeepsLevel entries → AreNoneMissing members
  pub unclean : tells → is_clean members.newest ≡ false → (is_unsynced (world_in given tape scope first) entries || is_unsettled entries) ≡ true
  pub recorded : tells → IsHistoryKept (IsReliable (world_in given tape scope first) entries) (world_in given tape scope first) (list_length members.newest) entries
  pub past : tells → IsNonePast (world_in given tape scope first) entries (list_length members.newest)
  pub listed : tells → DoWithout members → IsFilledRight (world_in given tape scope first) entries
      → HasListStood (OpensFit (world_in given tape scope first)) work members (present given tape) (now (opening_list (world_in given tape scope first)) entries)
  pub safe : tells → IsFilledRight (world_in given tape scope first) entries → HasRoomForEvents (world_in given tape scope first)
      → IsSafeHistory ⊤ (world_in given tape scope first) given members (bears work) reshaping entries
