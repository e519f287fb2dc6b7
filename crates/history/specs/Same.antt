-- What of the contents the reading, the verdict and each sector of the flat list see.
use Rattle.std.specs.Prelude.{◌≡◌, ◌≢◌, ◌⊎◌, ℕ, ◌+◌, Some, [], length, slice_index_or, IsTrue, IsFalse}
use Rattle.raid_types.specs.declared.places.Span.{Span}
use Rattle.raid_types.specs.Sectors.{Sector}
use Rattle.raid_types.specs.Shapes.{has_slot}
use Rattle.bank.specs.declared.bank.Operation.TheVariants.{Write}
use Rattle.bank.specs.Tape.{Contents, with_one}
use Rattle.sb_read_laws.specs.raid_layout_Layout.{place}
use Rattle.sb_read_laws.specs.sb_specs_Reading.{Scope, Reading, reading, is_seen, role_state, holder, data_offset_of}
use Rattle.sb_read_laws.specs.sb_specs_Same.{HaveSameSuperblocks}
use Rattle.bank_backup.specs.Section.{section_sector}
use Rattle.history.specs.ActiveSection.{active_section}
use Rattle.history.specs.Stands.{stands, verdict, covers, shape_for}

-- what is written elsewhere than in the superblocks doesn't change the verdict
abbrev pub VerdictIsOfSuperblocks : Type 0
VerdictIsOfSuperblocks = (scope : Scope) (c d : Contents) → HaveSameSuperblocks c d → verdict scope c ≡ verdict scope d

-- ---- one write

-- no superblock stands there: it is another sector than 8 and 9, or of a slot that isn't looked at for a member
abbrev pub IsElsewhere : Scope → ℕ → ℕ → Type 0
IsElsewhere scope slot at = ((at ≢ 8) × (at ≢ 9)) ⊎ IsFalse (is_seen scope slot)

-- A write there changes neither the reading nor the verdict.
abbrev pub WritesElsewhereAreUnseen : Type 0
WritesElsewhereAreUnseen = (scope : Scope) (c : Contents) (slot at : ℕ) (bytes : Sector) → IsElsewhere scope slot at
    → (reading scope (with_one (Write slot at bytes) c) ≡ reading scope c)
    × (verdict scope (with_one (Write slot at bytes) c) ≡ verdict scope c)

-- ---- one sector of the flat list

-- Two contents are the same as far as sector x of the flat list goes, of which r is the reading: in the superblocks that
-- are looked at, in a given backup's header, and in the section's sector x where it is active and covers that, else in
-- the row of x.
pub record AreSameFor (scope : Scope) (r : Reading) (x : ℕ) (c d : Contents) : Type 0 where
  pub eighth : (slot : ℕ) → IsTrue (is_seen scope slot) → c slot 8 ≡ d slot 8
  pub ninth : (slot : ℕ) → IsTrue (is_seen scope slot) → c slot 9 ≡ d slot 9
  pub header : (backup : ℕ) → scope.backup ≡ Some backup → IsTrue (has_slot scope.given backup) → c backup 0 ≡ d backup 0
  pub section : (backup : ℕ) (span : Span) → scope.backup ≡ Some backup → active_section scope c r ≡ Some span
      → IsTrue (covers (Some span) x) → section_sector (c backup) span x ≡ section_sector (d backup) span x
  pub row : IsFalse (covers (active_section scope c r) x) → (role slot : ℕ) → holder (role_state r role) ≡ Some slot
      → c slot (data_offset_of r slot + (place (shape_for r.newest x) x).row) ≡ d slot (data_offset_of r slot + (place (shape_for r.newest x) x).row)

-- What stands at a sector is decided by the superblocks, the section and its row alone, and so is the list's length.
abbrev pub StandsByItsRow : Type 0
StandsByItsRow = (scope : Scope) (c d : Contents) (r : Reading) (x : ℕ) → reading scope c ≡ Some r → AreSameFor scope r x c d
    → (length (stands scope c) ≡ length (stands scope d)) × (slice_index_or (stands scope c) x [] ≡ slice_index_or (stands scope d) x [])

-- ---- the given slots

-- each given slot has the same sectors
abbrev pub HaveSameSlots : Scope → Contents → Contents → Type 0
HaveSameSlots scope c d = (slot k : ℕ) → IsTrue (has_slot scope.given slot) → c slot k ≡ d slot k

-- No other slot is seen by the reading, the verdict and the flat list.
abbrev pub OnlyGivenSlotsAreSeen : Type 0
OnlyGivenSlotsAreSeen = (scope : Scope) (c d : Contents) → HaveSameSlots scope c d
    → (reading scope c ≡ reading scope d) × (verdict scope c ≡ verdict scope d) × (stands scope c ≡ stands scope d)
