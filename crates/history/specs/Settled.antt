-- Three facts about one mark, from which every image there is right.
use Rattle.std.specs.Prelude.{◌≡◌, ◌≢◌, ℕ, ◌<◌, ◌≤◌, if◌then◌else◌, not, ◌||◌, ◌⊎◌, List, ◌++◌, length, Option, Some, None, IsTrue, IsFalse}
use Rattle.raid_types.specs.declared.places.Span.{Span}
use Rattle.raid_types.specs.Shapes.{has_slot}
use Rattle.sb_read_laws.specs.sb_codec_the_Sb.{Sb}
use Rattle.history.specs.declared.events.Entry.{Entry}
use Rattle.raid_types.specs.Sectors.{Sector}
use Rattle.bank.specs.Tape.{Contents, IsImage, IsIn}
use Rattle.history.specs.World.{may_hold, World, opening_list}
use Rattle.sb_read_laws.specs.sb_codec_Superblock.{is_valid, sb_of}
use Rattle.reshape_plan.specs.reshape_geometry_Geometry.{window, beyond}
use Rattle.sb_read_laws.specs.sb_specs_Reading.{Reading, reading, of_array, is_backward, shape_of, final_shape, next_window, list_length, is_backup}
use Rattle.history.specs.ActiveSection.{active_section}
use Rattle.bank_backup.specs.Section.{has_section, section_sector}
use Rattle.history.specs.Stands.{stands, verdict, covers, placed_sector, shape_for}
use Rattle.history.specs.Flat.{length_of, IsAllowed}
use Rattle.history.specs.CrashSafe.{made_by, may_be_made, MayBeJudgedBy, IsRefusedRightly, IsSafeAt}

-- Whether a member's sector 8 with this value, and this sector behind it, is a superblock of the array.
abbrev pub own_by_value : World → Sector → Sector → Option Sb
own_by_value world eighth ninth =
    of_array world.scope.uuid (if is_valid (eighth ++ ninth) then Some (sb_of (eighth ++ ninth)) else None)

-- Two values of a superblock sector count as one where neither makes a superblock of the array. Of a backup's header
-- only equal ones do.
abbrev pub CountAsOne : World → ℕ → Sector → Sector → Sector → Type 0
CountAsOne world slot ninth a b =
    (a ≡ b) ⊎ (IsFalse (is_backup world.scope.backup slot) × (own_by_value world a ninth ≡ None) × (own_by_value world b ninth ≡ None))

-- the sector of a slot that decides what an image is read as: the backup's header, a member's superblock
abbrev pub deciding : World → ℕ → ℕ
deciding world slot = if is_backup world.scope.backup slot then 0 else 8

-- all values that the deciding sector may have count as one
abbrev pub HasOneValue : World → ℕ → ℕ → Type 0
HasOneValue world mark slot = (a b ninth : Sector)
    → IsIn (may_hold world mark slot (deciding world slot)) a → IsIn (may_hold world mark slot (deciding world slot)) b
    → IsIn (may_hold world mark slot 9) ninth → CountAsOne world slot ninth a b

-- each value that the deciding sector may have counts as one of these two
abbrev pub HasTwoValues : World → ℕ → ℕ → Type 0
HasTwoValues world mark slot = (one two : Sector) × ((a ninth : Sector)
    → IsIn (may_hold world mark slot (deciding world slot)) a → IsIn (may_hold world mark slot 9) ninth
    → CountAsOne world slot ninth a one ⊎ CountAsOne world slot ninth a two)

-- sector 9 of a slot has one value
abbrev pub HasOneNinth : World → ℕ → ℕ → Type 0
HasOneNinth world mark slot = (a b : Sector) → IsIn (may_hold world mark slot 9) a → IsIn (may_hold world mark slot 9) b → a ≡ b

-- Settled: of the live slots' deciding sectors at most one has two values, and a lost member's has at most two. The
-- live slots, one that is being added among them, are given as a set. A lost member is never written again; a dead backup
-- is, and each failed try to clear its header may leave one more value there. No member's sector 9 is ever written.
pub record IsSettled (world : World) (live mark : ℕ) : Type 0 where
  pub unsettled : Option ℕ
  pub ninth : (slot : ℕ) → IsFalse (is_backup world.scope.backup slot) → IsTrue (has_slot live slot || has_slot world.scope.given slot)
      → HasOneNinth world mark slot
  pub others : (slot : ℕ) → IsTrue (has_slot live slot) → unsettled ≢ Some slot → HasOneValue world mark slot
  pub at_most_two : (slot : ℕ) → IsTrue (has_slot world.scope.given slot)
      → IsTrue (has_slot live slot || not (is_backup world.scope.backup slot)) → HasTwoValues world mark slot

-- ---- sections

-- the next window, and the one after it, from the position of a reading
abbrev pub window_after : Sb → Span → Option Span
window_after sb span = window (shape_of sb) (final_shape sb) sb.size (is_backward sb) (beyond (is_backward sb) span)

abbrev pub IsOneOfNextTwo : Sb → Span → Type 0
IsOneOfNextTwo sb span =
    (next_window sb ≡ Some span) ⊎ ((next : Span) × (next_window sb ≡ Some next) × (window_after sb next ≡ Some span))

-- Sections: where the header of an image's backup, one of the given slots, names a section for the next window or the one
-- after it, the section has allowed values only.
abbrev pub HasAllowedSections : World → List Entry → Contents → Type 0
HasAllowedSections world judged c = (r : Reading) (backup : ℕ) (span : Span) (x : ℕ)
    → reading world.scope c ≡ Some r → world.scope.backup ≡ Some backup → IsTrue (has_slot world.scope.given backup)
    → IsTrue (has_section world.scope.uuid (world.scope.sizes.sectors backup) (c backup) span) → IsOneOfNextTwo r.newest span
    → span.lo ≤ x → x < span.hi → IsAllowed (opening_list world) judged x (section_sector (c backup) span x)

-- Sources: each sector that no active section covers has an allowed value at its place, or by its fill.
abbrev pub HasAllowedSources : World → List Entry → Contents → Type 0
HasAllowedSources world judged c = (r : Reading) (x : ℕ)
    → reading world.scope c ≡ Some r → x < list_length r.newest → IsFalse (covers (active_section world.scope c r) x)
    → IsAllowed (opening_list world) judged x (placed_sector c r (shape_for r.newest x) x)

-- what one choice of entries gives of an image
pub record IsSourced (world : World) (judged : List Entry) (c : Contents) : Type 0 where
  pub assembles : verdict world.scope c ≡ None
  pub sized : length (stands world.scope c) ≡ length_of (length (opening_list world)) judged
  pub sections : HasAllowedSections world judged c
  pub sources : HasAllowedSources world judged c

-- For each image one choice of entries serves sections and sources, unless it is refused for a cause.
abbrev pub HasSources : World → List Entry → ℕ → Type 0
HasSources world entries mark = (c : Contents) → IsImage world.start world.tape mark c
    → (j : ℕ) × (made_by mark entries ≤ j) × (j ≤ may_be_made entries (made_by mark entries))
    × (((judged : List Entry) × MayBeJudgedBy world entries (made_by mark entries) j judged × IsSourced world judged c)
    ⊎ IsRefusedRightly world entries (made_by mark entries) j c)

-- what the type Array keeps at each mark
pub record IsKeptAt (world : World) (entries : List Entry) (live : ℕ) (mark : ℕ) : Type 0 where
  pub settled : IsSettled world live mark
  pub sources : HasSources world entries mark

-- where sections and sources hold at a mark, every image there is right
abbrev pub SourcesSuffice : Type 0
SourcesSuffice = (world : World) (entries : List Entry) (mark : ℕ) → HasSources world entries mark → IsSafeAt world entries mark
