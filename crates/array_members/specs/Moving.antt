-- What device calls leave of an array.
use Rattle.std.specs.Prelude.{◌≡◌, ℕ, ◌≤◌, true, List, ◌++◌, length, Some}
use Rattle.crash_role_laws.specs.raid_types_Shapes.{has_slot}
use Rattle.crash_role_laws.specs.bank_the_Operation.{Operation}
use Rattle.crash_role_laws.specs.bank_Given.{Given, IsFaulted}
use Rattle.crash_role_laws.specs.sb_specs_the_Members.{Members}
use Rattle.crash_role_laws.specs.sb_specs_Reading.{shape_of, role_state, rows_held, holder, data_offset_of}
use Rattle.crash_role_laws.specs.sb_specs_Reads.{has_spare}
use Rattle.crash_role_laws.specs.stripe_row_Rows.{reading_of}
use Rattle.array_members.specs.Rebuilding.{AreSparesFree}
use Rattle.array_members.specs.Placed.{places_of, AreWhole, IsPlaced, AreStillHeld, HaveSameReshape, AreLess}
use Rattle.crash_role_laws.specs.crash_safety_laws_Steady.{AreUnlost}

-- more was done
pub record Grows (tells : Type 0) (before after : List Operation) : Type 0 where
  pub more : tells → (ops : List Operation) × (after ≡ before ++ ops)

-- The same array, of which some slots may have been lost: each role that still has its slot is as whole as it was, and the slot holds the same
-- rows. Where no role is missing, all stands where it stood.
pub record IsMoved (given : Given) (old new : Members) : Type 0 where
  pub placed : IsPlaced given new
  pub unlost : AreUnlost new
  pub held : AreStillHeld old new
  pub states : (role slot : ℕ) → holder (role_state (reading_of new) role) ≡ Some slot → role_state (reading_of new) role ≡ role_state (reading_of old) role
  pub rows : (role : ℕ) → rows_held (reading_of new) (role_state (reading_of new) role) ≡ rows_held (reading_of old) (role_state (reading_of new) role)
  pub spares : length old.spares ≤ 32 → length new.spares ≤ 32
  pub fewer : (slot : ℕ) → has_spare new.spares slot ≡ true → has_spare old.spares slot ≡ true
  pub free : AreSparesFree given old → AreSparesFree given new
  pub reshape : HaveSameReshape old.newest new.newest
  pub shape : shape_of new.newest ≡ shape_of old.newest
  pub size : new.newest.size ≡ old.newest.size
  pub offsets : (slot : ℕ) → data_offset_of (reading_of new) slot ≡ data_offset_of (reading_of old) slot
  pub whole : AreWhole new → AreWhole old
  pub same : AreWhole new → places_of new ≡ places_of old

-- the slots that were lost since have failed, these spares among them
pub record AreFailed (old new : Members) (spares : ℕ) (before after : ℕ → ℕ) : Type 0 where
  pub less : AreLess new.lost old new
  pub held : (role slot : ℕ) → holder (role_state (reading_of old) role) ≡ Some slot → has_slot new.lost slot ≡ true → IsFaulted slot before after
  pub failed : (slot : ℕ) → has_slot spares slot ≡ true → IsFaulted slot before after
