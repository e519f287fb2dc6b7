-- The header as it is written.
use Rattle.std.specs.Prelude.{◌≡◌, ℕ, ◌-◌, ◌^◌, ◌<◌, ◌/◌, ◌%◌, zero, suc, List, [], ◌∷◌, ◌++◌, length, codes, replicate, IsTrue, IsFalse}
use Rattle.bank.specs.raid_types_the_Span.{Span}
use Rattle.bank.specs.raid_types_Sectors.{Sector}
use Rattle.bank_backup.specs.Section.{is_header_of, names_span}

-- a number as so many bytes, the lowest first
abbrev pub bytes_of : ℕ → ℕ → List ℕ
bytes_of zero n = []
bytes_of (suc count) n = (n % 256) ∷ bytes_of count (n / 256)

-- behind the uuid: a time of 0, the section's first sector (8), where in the flat list it starts, how long it is, and zeros
abbrev pub fields_of : ℕ → ℕ → List ℕ
fields_of start len = replicate 8 0 ++ bytes_of 8 8 ++ bytes_of 8 start ++ bytes_of 8 len ++ replicate 448 0

-- the header of an array with this uuid
abbrev pub header_with : List ℕ → ℕ → ℕ → Sector
header_with uuid start len = codes "md_backup_data-1" ++ (uuid ++ fields_of start len)

-- the header of a section that holds a span
abbrev pub header_of : List ℕ → Span → Sector
header_of uuid span = header_with uuid span.lo (span.hi - span.lo)

-- the header without a section
abbrev pub cleared_header : List ℕ → Sector
cleared_header uuid = header_with uuid 0 0

-- a header is one sector, this array's, and names its span
pub record IsHeaderFor (uuid : List ℕ) (span : Span) (header : Sector) : Type 0 where
  pub whole : length header ≡ 512
  pub own : IsTrue (is_header_of uuid header)
  pub named : IsTrue (names_span header span)
  pub alone : (other : Span) → IsTrue (names_span header other) → other ≡ span

abbrev pub HeadersNameTheirSpan : Type 0
HeadersNameTheirSpan = (uuid : List ℕ) (span : Span) → length uuid ≡ 16 → span.lo < span.hi → span.hi < 2 ^ 64
    → IsHeaderFor uuid span (header_of uuid span)

-- a cleared header names no section
abbrev pub ClearedHeadersNameNone : Type 0
ClearedHeadersNameNone = (uuid : List ℕ) (span : Span) → length uuid ≡ 16 → IsFalse (names_span (cleared_header uuid) span)
