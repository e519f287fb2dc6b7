-- What a stop may leave of an array of one shape or two: each image is read as some view of it, and each view is right.
use Rattle.std.specs.Prelude.{◌≡◌, ◌⊎◌, ℕ, ◌+◌, ◌-◌, ◌<◌, ◌≤◌, ◌&&◌, Bool, true, false, List, length, Some, IsTrue}
use Rattle.history.specs.raid_types_the_Span.{Span}
use Rattle.history.specs.raid_types_Sectors.{Sector, zero_sector}
use Rattle.history.specs.bank_Given.{Given, sizes}
use Rattle.history.specs.bank_Tape.{Contents, IsDrawn, IsIn}
use Rattle.history.specs.sb_codec_the_Sb.{Sb}
use Rattle.history.specs.raid_layout_Layout.{place, stripe_of}
use Rattle.history.specs.sb_specs_the_Members.{Members}
use Rattle.history.specs.sb_specs_Reading.{Scope, Reading, reading, is_clean, is_reshaping, is_backward, final_shape, role_count, list_length, next_window, data_offset_of}
use Rattle.stripe_list.specs.stripe_row_Rows.{reading_of, is_missing, held_slot}
use Rattle.stripe_list.specs.Full.{RowStands}
use Rattle.history.specs.bank_backup_Section.{is_header_of, names_span}
use Rattle.history.specs.declared.events.Entry.{Entry}
use Rattle.history.specs.World.{World, opening_list, may_hold}
use Rattle.history.specs.Flat.{values_of, length_of}
use Rattle.history.specs.Losses.{is_gone, is_unclean}
use Rattle.history.specs.CrashSafe.{made_by, may_be_made, MayBeJudgedBy, IsSafeAt}
use Rattle.history.specs.Opened.{IsAllNew}
use Rattle.history.specs.Sound.{OpensFit}
use Rattle.history.specs.Stands.{shape_for, covers}
use Rattle.crash_views.specs.Regions.{backup_of, header_in, open_by, place_by, ArePlaced, DoWithout, IsReadOf}

abbrev pub Disk : Type 0
Disk = ℕ → ℕ → List Sector

-- What is told of an array, by which a view is judged: how long its list is and the values that each of its sectors may have, the roles that are
-- gone, whether a write may be unsettled, whether a reshape may be active, and the device numbers that each slot's superblock may bear.
pub record Ledger : Type 0 where
  pub size : ℕ
  pub values : ℕ → List Sector
  pub gone : ℕ → Bool
  pub unclean : Bool
  pub reshaping : Bool
  pub carried : ℕ → ℕ → Bool

-- a sector of the list that no active section covers, by this header
pub record IsOutside (scope : Scope) (m : Members) (header : Sector) (x : ℕ) : Type 0 where
  pub within : x < list_length m.newest
  pub outside : covers (open_by scope m.newest header) x ≡ false

-- each such sector that a slot holds may have only allowed values there, whichever header a stop leaves
abbrev pub AreHeldAllowed : Scope → Members → (ℕ → List Sector) → Disk → Type 0
AreHeldAllowed scope m values d = (header : Sector) → IsIn (d (backup_of scope) 0) header → (x slot : ℕ) → IsOutside scope m header x
    → held_slot (reading_of m) (place_by m.newest x).role (place_by m.newest x).row ≡ Some slot
    → (v : Sector) → IsIn (d slot (data_offset_of (reading_of m) slot + (place_by m.newest x).row)) v → IsIn (values x) v

-- an active section has only allowed values
abbrev pub AreSectionsAllowed : Scope → Members → (ℕ → List Sector) → Disk → Type 0
AreSectionsAllowed scope m values d = (header : Sector) → IsIn (d (backup_of scope) 0) header → (span : Span) → open_by scope m.newest header ≡ Some span
    → (x : ℕ) → span.lo ≤ x → x < span.hi → (v : Sector) → IsIn (d (backup_of scope) (8 + (x - span.lo))) v → IsIn (values x) v

-- ---- in a reshape

-- each section that the header names is that of the next window, or lies in the new region
abbrev pub IsHeaderFit : Scope → Sb → Sector → Type 0
IsHeaderFit scope newest header = (span : Span) → IsTrue (is_header_of scope.uuid header && names_span header span) → (next_window newest ≡ Some span) ⊎ IsAllNew newest span

-- so it is of each header that a stop leaves in the backup
abbrev pub AreHeadersFit : Scope → Members → Disk → Type 0
AreHeadersFit scope m d = (backup : ℕ) (header : Sector) → scope.backup ≡ Some backup → IsIn (d backup 0) header → IsHeaderFit scope m.newest header

-- a sector behind the end of the list, in the stripe of the new shape that holds its last sector, once a forward reshape has gone through
pub record IsTail (newest : Sb) (x : ℕ) : Type 0 where
  pub active : is_reshaping newest ≡ true
  pub forth : is_backward newest ≡ false
  pub through : newest.reshape_position ≡ list_length newest
  pub past : list_length newest ≤ x
  pub stripe : stripe_of (final_shape newest) x ≡ stripe_of (final_shape newest) (list_length newest - 1)

-- the list is zero in the tail
abbrev pub IsTailZero : Sb → (ℕ → Sector) → Type 0
IsTailZero newest list = (x : ℕ) → IsTail newest x → list x ≡ zero_sector

-- and so is what slots hold of it
abbrev pub AreTailsZero : Members → Disk → Type 0
AreTailsZero m d = (x slot : ℕ) → IsTail m.newest x → held_slot (reading_of m) (place (final_shape m.newest) x).role (place (final_shape m.newest) x).row ≡ Some slot
    → (v : Sector) → IsIn (d slot (data_offset_of (reading_of m) slot + (place (final_shape m.newest) x).row)) v → v ≡ zero_sector

-- ---- views

-- Whatever is drawn, the row of each sector that no active section covers stands as a list of allowed values, which is zero in the tail.
pub record IsSettled (scope : Scope) (m : Members) (values : ℕ → List Sector) (d : Disk) : Type 0 where
  pub list : ℕ → Sector
  pub allowed : (x : ℕ) → x < list_length m.newest → IsIn (values x) (list x)
  pub rows : (c : Contents) → IsDrawn d c → (x : ℕ) → IsOutside scope m (header_in scope c) x
      → RowStands (reading_of m) c (shape_for m.newest x) list (place_by m.newest x).row
  pub zeros : IsTailZero m.newest list

-- A view is right: each role that it misses is told gone; it is dirty only where a write may be unsettled, and has a reshape only where one may be
-- active; what slots hold is allowed, and what an active section has; and where it is clean, and can do without what it misses, the rows are settled,
-- so that this can be filled in. While a reshape is active its headers fit and its tail is zero. So each image that assembles is sound, if the opening was.
pub record IsViewRight (sound : Type 0) (scope : Scope) (given : Given) (told : Ledger) (m : Members) (d : Disk) : Type 0 where
  pub placed : ArePlaced scope given m
  pub sized : list_length m.newest ≡ told.size
  pub gone : (role : ℕ) → role < role_count m.newest → is_missing (reading_of m) role ≡ true → told.gone role ≡ true
  pub unclean : is_clean m.newest ≡ false → told.unclean ≡ true
  pub reshaping : is_reshaping m.newest ≡ true → told.reshaping ≡ true
  pub held : AreHeldAllowed scope m told.values d
  pub sections : AreSectionsAllowed scope m told.values d
  pub settled : is_clean m.newest ≡ true → DoWithout m → sound → IsSettled scope m told.values d
  pub headers : is_reshaping m.newest ≡ true → sound → AreHeadersFit scope m d
  pub tails : sound → AreTailsZero m d

-- an image is read as a view that is right
pub record IsSeenRight (sound : Type 0) (scope : Scope) (given : Given) (told : Ledger) (d : Disk) (c : Contents) : Type 0 where
  pub found : Reading
  pub is : reading scope c ≡ Some found
  pub view : Members
  pub same : IsReadOf scope view found
  pub right : IsViewRight sound scope given told view d

-- What judges an image: these entries, the first j, perhaps without a Resized that no slot kept, where the first k were made.
pub record IsJudgedBy (world : World) (given : Given) (entries : List Entry) (mark j : ℕ) (judged : List Entry) : Type 0 where
  pub sizes_are : world.scope.sizes ≡ sizes given
  pub made : made_by mark entries ≤ j
  pub running : j ≤ may_be_made entries (made_by mark entries)
  pub by : MayBeJudgedBy world entries (made_by mark entries) j judged
  pub fills : ((role : ℕ) → is_gone world entries (made_by mark entries) j role ≡ false) ⊎ OpensFit world

-- what they tell; of a reshape and of numbers it is nothing
abbrev pub ledger_of : World → List Entry → ℕ → ℕ → List Entry → Ledger
ledger_of world entries k j judged = record {
  size = length_of (length (opening_list world)) judged;
  values = values_of (opening_list world) judged;
  gone = is_gone world entries k j;
  unclean = is_unclean world entries k j;
  reshaping = true;
  carried = λ slot number. true;
}

-- The values bound what a stop may leave at the mark, and each image that is drawn of them is seen right by entries that judge it. These may differ
-- from image to image: those before a Resized judge what is read as before, and those with it what is read as planned.
pub record IsEachSeenRight (world : World) (given : Given) (entries : List Entry) (mark : ℕ) (d : Disk) (c : Contents) : Type 0 where
  pub j : ℕ
  pub judged : List Entry
  pub by : IsJudgedBy world given entries mark j judged
  pub seen : IsSeenRight (OpensFit world) world.scope given (ledger_of world entries (made_by mark entries) j judged) d c

-- Where it is so, the mark is safe.
abbrev pub ViewsAreSafe : Type 0
ViewsAreSafe = (world : World) (given : Given) (entries : List Entry) (mark : ℕ) (d : Disk) → mark ≤ length world.tape
    → ((s k : ℕ) (v : Sector) → IsIn (may_hold world mark s k) v → IsIn (d s k) v)
    → ((c : Contents) → IsDrawn d c → IsEachSeenRight world given entries mark d c) → IsSafeAt world entries mark
