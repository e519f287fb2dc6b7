-- A reshape ends: the holders of roles are flushed, what is missing is named, and the superblocks record the new shape alone.
use Rattle.std.specs.Prelude.{◌≡◌, ◌⊎◌, ℕ, ◌*◌, ◌<◌, ◌≤◌, true, false, List, Some, None}
use Rattle.sb_safe_updates.specs.raid_types_Sectors.{Sector, zero_sector}
use Rattle.sb_safe_updates.specs.raid_types_Shapes.{data_disks, has_slot}
use Rattle.sb_safe_updates.specs.bank_the_Operation.{Operation}
use Rattle.sb_safe_updates.specs.bank_Given.{Given, IsFaulted}
use Rattle.sb_safe_updates.specs.bank_Tape.{Contents, IsIn}
use Rattle.sb_safe_updates.specs.sb_codec_the_Sb.{Sb}
use Rattle.sb_safe_updates.specs.sb_specs_the_Members.{Members}
use Rattle.sb_safe_updates.specs.sb_specs_Reading.{is_clean, is_reshaping, is_backward, shape_of, final_shape, list_length, role_state, holder}
use Rattle.sb_safe_updates.specs.sb_specs_Reads.{has_spare}
use Rattle.sb_safe_updates.specs.stripe_row_Rows.{reading_of}
use Rattle.sb_safe_updates.specs.stripe_list_Full.{RowStands}
use Rattle.sb_safe_updates.specs.history_World.{World}
use Rattle.sb_safe_updates.specs.crash_views_Regions.{DoWithout}
use Rattle.sb_safe_updates.specs.crash_views_Views.{Ledger}
use Rattle.sb_safe_updates.specs.crash_views_Windows.{ListStands, RowsStand, AreTailsStanding}
use Rattle.sb_safe_updates.specs.crash_safety_laws_Changing.{IsChanged}
use Rattle.sb_safe_updates.specs.crash_safety_laws_Safety.{HasRoomLeft, IsRisen}
use Rattle.sb_safe_updates.specs.crash_safety_laws_Steady.{IsSafeOver, AreGoneTold, IsUncleanTold}
use Rattle.reshape_sb_updates.specs.crash_reshape_laws_Grown.{IsZeroPast, IsPastRow}
use Rattle.reshape_sb_updates.specs.Ending.{ending}
use Rattle.sb_safe_updates.specs.array_members_Moving.{IsMoved}
use Rattle.sb_safe_updates.specs.array_members_Lacking.{AreHoldersFlushed}

-- What the superblocks say once a reshape is over that was active in the former ones: the new shape alone.
pub record IsOver (former newest : Sb) : Type 0 where
  pub still : is_reshaping newest ≡ false
  pub shape : shape_of newest ≡ final_shape former
  pub size : newest.size ≡ former.size
  pub clean : is_clean newest ≡ is_clean former

-- ---- what was lost

-- Each slot that held a role holds it still, or it has failed and the role is one of these, or it was lost in the end's update, or its role was dropped
-- and it is a spare. Each spare is one still, or was lost in the flush or in the update. Each that is said to be lost has failed; those of the flush were
-- spares, and those of the update were so or held a role.
pub record AreLostInEnd (old new : Members) (roles spares lost : ℕ) (before after : ℕ → ℕ) : Type 0 where
  pub held : (role slot : ℕ) → holder (role_state (reading_of old) role) ≡ Some slot → (holder (role_state (reading_of new) role) ≡ Some slot)
      ⊎ (((has_slot roles role ≡ true) × IsFaulted slot before after) ⊎ ((has_slot lost slot ≡ true) ⊎ (((final_shape old.newest).disks ≤ role) × (has_spare new.spares slot ≡ true))))
  pub gone : (role : ℕ) → has_slot roles role ≡ true → (slot : ℕ) × (holder (role_state (reading_of old) role) ≡ Some slot) × IsFaulted slot before after
  pub spares_are : (slot : ℕ) → has_slot spares slot ≡ true → IsFaulted slot before after
  pub lost_are : (slot : ℕ) → has_slot lost slot ≡ true → IsFaulted slot before after
  pub were : (slot : ℕ) → has_slot spares slot ≡ true → has_spare old.spares slot ≡ true
  pub lost_were : (slot : ℕ) → has_slot lost slot ≡ true → (has_spare old.spares slot ≡ true) ⊎ ((role : ℕ) × (holder (role_state (reading_of old) role) ≡ Some slot))
  pub told : (slot : ℕ) → has_spare old.spares slot ≡ true → (has_spare new.spares slot ≡ true) ⊎ ((has_slot spares slot ≡ true) ⊎ (has_slot lost slot ≡ true))

-- Behind the flush, where each slot that holds a role was flushed, and the array is as safe as before once these roles are told gone, the end was recorded.
pub record IsEndedBehind (tells : Type 0) (given : Given) (roles : ℕ) (old new : Members) (before after : List Operation) : Type 0 where
  pub flushed : Members
  pub mid : List Operation
  pub moved : IsMoved given old flushed
  pub holders : tells → AreHoldersFlushed (reading_of flushed) given mid
  pub enough : DoWithout flushed
  pub rise : IsRisen tells old flushed before mid
  pub safe : tells → (world : World) → (told : Ledger) → HasRoomLeft old before mid → AreGoneTold told old → ((role : ℕ) → has_slot roles role ≡ true → told.gone role ≡ true)
      → IsUncleanTold told old → IsSafeOver world given told old before → IsSafeOver world given told flushed mid
  pub update : IsChanged tells given (ending flushed) flushed new mid after

-- ---- what it takes to end a reshape safely

-- Behind the list of a forward reshape there are zeros: in the list, in the tail of its last stripe, and in the rows past it.
pub record IsZeroBehind (m : Members) (c : Contents) (list : ℕ → Sector) : Type 0 where
  pub zeros : IsZeroPast (list_length m.newest) list
  pub tail : AreTailsStanding m c list
  pub past : (row : ℕ) → IsPastRow m row → RowStands (reading_of m) c (final_shape m.newest) (λ x. zero_sector) row

-- The list stands on the members, and its rows where they are clean; it is told as the new shape's, of allowed values, and forward zero behind the former end.
pub record IsFinishable (sound : Type 0) (more : Ledger) (m : Members) (c : Contents) (list : ℕ → Sector) : Type 0 where
  pub sized : more.size ≡ data_disks (final_shape m.newest) * m.newest.size
  pub allowed : (x : ℕ) → x < more.size → IsIn (more.values x) (list x)
  pub stands : ListStands None m c list
  pub rows : is_clean m.newest ≡ true → DoWithout m → sound → RowsStand None m c list
  pub behind : is_backward m.newest ≡ false → IsZeroBehind m c list
