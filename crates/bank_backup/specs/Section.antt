-- The backup's section: the header in sector 0 of the backup slot, and the sectors from sector 8 on.
use Rattle.std.specs.Prelude.{ℕ, ◌+◌, ◌-◌, Bool, ◌&&◌, ◌==◌, nat_le, nat_lt, List, slice_range, bytes_eq, codes, take}
use Rattle.bank.specs.raid_types_the_Span.{Span}
use Rattle.bank.specs.raid_types_Sectors.{Sector}
use Rattle.bank.specs.raid_types_Bytes.{field}

-- the header is this array's
abbrev pub is_header_of : List ℕ → Sector → Bool
is_header_of uuid header = bytes_eq (take 16 header) (codes "md_backup_data-1") && bytes_eq (slice_range header 16 32) uuid

-- the section begins at sector 8, holds this span and isn't empty
abbrev pub names_span : Sector → Span → Bool
names_span header span =
    (field header 40 8 == 8) && (field header 48 8 == span.lo) && (field header 56 8 == span.hi - span.lo) && nat_lt span.lo span.hi

-- The section of a slot of so many sectors, given by number, holds this span: the header is the array's and names it,
-- and the slot has its sectors.
abbrev pub has_section : List ℕ → ℕ → (ℕ → Sector) → Span → Bool
has_section uuid sectors slot span =
    is_header_of uuid (slot 0) && names_span (slot 0) span && nat_le (8 + (span.hi - span.lo)) sectors

-- the sector x of the section that holds a span
abbrev pub section_sector : (ℕ → Sector) → Span → ℕ → Sector
section_sector slot span x = slot (8 + (x - span.lo))
