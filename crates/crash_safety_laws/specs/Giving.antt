-- Views that place the list where others do, and the update that gives a vacant role to a spare, which recovers it from the first row on.
use Rattle.std.specs.Prelude.{◌≡◌, ℕ, ◌<◌, ◌≤◌, true, List, slice_index_or, Some, ⊤}
use Rattle.crash_views.specs.raid_types_Sectors.{Sector}
use Rattle.crash_views.specs.raid_types_the_Span.{Span}
use Rattle.crash_views.specs.raid_types_the_Role_TheVariants.{Missing}
use Rattle.crash_views.specs.bank_the_Operation.{Operation}
use Rattle.crash_views.specs.bank_Given.{Given}
use Rattle.crash_views.specs.bank_Tape.{IsIn, disk}
use Rattle.crash_views.specs.sb_specs_the_Members.{Members}
use Rattle.crash_views.specs.sb_specs_Reading.{Scope, is_clean, is_reshaping, final_shape, list_length, role_count, holder, data_offset_of}
use Rattle.crash_views.specs.sb_specs_Reads.{has_spare}
use Rattle.crash_views.specs.stripe_row_Rows.{reading_of, held_slot, IsHolder}
use Rattle.crash_views.specs.history_Stands.{shape_for}
use Rattle.crash_views.specs.Regions.{backup_of, open_by, ArePlaced, DoWithout}
use Rattle.crash_views.specs.Views.{Disk, Ledger, AreHeadersFit, IsTail, IsViewRight}
use Rattle.crash_safety_laws.specs.Marking.{giving}
use Rattle.crash_safety_laws.specs.Safety.{HasRoomLeft}
use Rattle.crash_safety_laws.specs.Steady.{IsSafeNow, IsSafeStretch, AreGoneTold}
use Rattle.crash_safety_laws.specs.Changing.{IsChanged}

-- ---- a view that places the list where another does

-- Each sector of its list is placed by the same shape, and of the roles of that shape it has no more rows; the same section is open by each header that a
-- stop leaves, and in a reshape each header fits as before, and the tail is the same. Other roles it may have, and a longer list the other one.
pub record IsPlacedLess (scope : Scope) (m view : Members) (d : Disk) : Type 0 where
  pub within : list_length view.newest ≤ list_length m.newest
  pub shapes : (x : ℕ) → x < list_length view.newest → shape_for view.newest x ≡ shape_for m.newest x
  pub held : (x role row slot : ℕ) → x < list_length view.newest → role < (shape_for view.newest x).disks → held_slot (reading_of view) role row ≡ Some slot → held_slot (reading_of m) role row ≡ Some slot
  pub offsets : (x role row slot : ℕ) → x < list_length view.newest → role < (shape_for view.newest x).disks → held_slot (reading_of view) role row ≡ Some slot
      → data_offset_of (reading_of view) slot ≡ data_offset_of (reading_of m) slot
  pub opened : (header : Sector) → IsIn (d (backup_of scope) 0) header → open_by scope view.newest header ≡ open_by scope m.newest header
  pub clean : is_clean view.newest ≡ is_clean m.newest
  pub does : DoWithout view → DoWithout m
  pub headers : is_reshaping view.newest ≡ true → (is_reshaping m.newest ≡ true → AreHeadersFit scope m d) → AreHeadersFit scope view d
  pub tails : (x : ℕ) → IsTail view.newest x → IsTail m.newest x × (final_shape view.newest ≡ final_shape m.newest)

-- The one ledger tells each value of the other, below the length of the view's list and in a section that is open, a write that may be unsettled, and
-- the view's reshape.
pub record IsToldOf (scope : Scope) (view : Members) (d : Disk) (told more : Ledger) : Type 0 where
  pub sized : list_length view.newest ≡ more.size
  pub values : (x : ℕ) → x < list_length view.newest → (v : Sector) → IsIn (told.values x) v → IsIn (more.values x) v
  pub sections : (header : Sector) → IsIn (d (backup_of scope) 0) header → (span : Span) → open_by scope view.newest header ≡ Some span
      → (x : ℕ) → span.lo ≤ x → x < span.hi → (v : Sector) → IsIn (told.values x) v → IsIn (more.values x) v
  pub unclean : told.unclean ≡ true → more.unclean ≡ true
  pub reshaping : is_reshaping view.newest ≡ true → more.reshaping ≡ true

-- Where the one is right, so is the other: as a reshape begins or ends, and where a role is given that has no rows.
abbrev pub PlacedLessIsRight : (sound : Type 0) → Type 0
PlacedLessIsRight sound = (scope : Scope) (given : Given) (told more : Ledger) (m view : Members) (d : Disk) → IsPlacedLess scope m view d → ArePlaced scope given view → AreGoneTold more view
    → IsToldOf scope view d told more → IsViewRight sound scope given told m d → IsViewRight sound scope given more view d

-- ---- a role is given

-- A spare with room for the rows, and a role that no slot holds.
pub record IsReceiver (given : Given) (old : Members) (role slot : ℕ) : Type 0 where
  pub spare : has_spare old.spares slot ≡ true
  pub room : IsHolder given (reading_of old) slot
  pub behind : 10 ≤ data_offset_of (reading_of old) slot
  pub below : role < role_count old.newest
  pub vacant : (t : ℕ) → holder (slice_index_or old.roles role Missing) ≡ Some t → ⊥

-- That update, from the first row on, keeps the array safe, whichever slots are lost in it, the receiver among them.
abbrev pub GivingStaysSafe : (sound : Type 0) → Type 0
GivingStaysSafe sound = (scope : Scope) (given : Given) (told : Ledger) (role slot : ℕ) (old new : Members) (before after : List Operation)
    → IsChanged ⊤ given (giving old slot role (Some 0)) old new before after → IsReceiver given old role slot → HasRoomLeft old before after → AreGoneTold told new
    → IsSafeNow sound scope given told old (disk given.start before) → IsSafeStretch sound scope given told new before after
