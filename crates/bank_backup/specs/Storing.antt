-- What a stop leaves of the backup while a section is stored and named, and while a header is written.
use Rattle.std.specs.Prelude.{◌≡◌, ◌≢◌, ◌⊎◌, ℕ, ◌+◌, ◌-◌, ◌*◌, ◌/◌, ◌^◌, ◌<◌, ◌≤◌, IsTrue, List, [], ◌∷◌, ◌++◌, length, take, drop}
use Rattle.bank.specs.raid_types_the_Span.{Span}
use Rattle.bank.specs.raid_types_Sectors.{Sector}
use Rattle.bank.specs.declared.bank.Operation.{Operation}
use Rattle.bank.specs.declared.bank.Operation.TheVariants.{Write, Flush}
use Rattle.bank.specs.Tape.{Contents, IsIn, IsDrawn, Kept, writes}
use Rattle.bank_backup.specs.Section.{has_section, section_sector}
use Rattle.bank_backup.specs.Written.{header_of}

-- what a stop may leave in each sector of each slot
abbrev pub Disk : Type 0
Disk = ℕ → ℕ → List Sector

-- the sector i of these bytes
abbrev pub nth_sector : List ℕ → ℕ → Sector
nth_sector bytes i = take 512 (drop (512 * i) bytes)

-- the writes of a section, from sector 8 on, in order
abbrev pub section_writes : ℕ → List ℕ → List Operation
section_writes slot bytes = writes slot 8 (length bytes / 512) bytes

-- a section's sectors and their flush, and then the header and its flush
abbrev pub section_operations : ℕ → List ℕ → List Operation
section_operations slot bytes = section_writes slot bytes ++ Flush slot ∷ []

abbrev pub header_operations : ℕ → Sector → List Operation
header_operations slot header = Write slot 0 header ∷ Flush slot ∷ []

-- the first few of these operations were appended, and nothing else
abbrev pub HasSomeOf : List Operation → List Operation → List Operation → Type 0
HasSomeOf ops old new = (n : ℕ) × (new ≡ old ++ take n ops)

-- ---- a header

-- A header is written: the sector 0 has it, or what it had, and nothing else is written.
pub record IsHeading (slot : ℕ) (header : Sector) (d e : Disk) : Type 0 where
  pub others : (s k : ℕ) → s ≢ slot → e s k ≡ d s k
  pub behind : (k : ℕ) → k ≢ 0 → Kept (d slot k) (e slot k)
  pub header_is : (v : Sector) → IsIn (e slot 0) v → IsIn (d slot 0) v ⊎ (v ≡ header)

-- It is stored: the sector 0 has it alone, and each other sector of the slot what it had last.
pub record IsHeaded (slot : ℕ) (header : Sector) (d e : Disk) : Type 0 where
  pub others : (s k : ℕ) → s ≢ slot → e s k ≡ d s k
  pub behind : (k : ℕ) → k ≢ 0 → e slot k ≡ take 1 (d slot k)
  pub header_is : e slot 0 ≡ header ∷ []

-- ---- a section

-- A section is stored: each of its sectors has the new bytes, or what it had. The header is as it was, and nothing else is written.
pub record IsStoring (slot : ℕ) (bytes : List ℕ) (d e : Disk) : Type 0 where
  pub others : (s k : ℕ) → s ≢ slot → e s k ≡ d s k
  pub header_is : Kept (d slot 0) (e slot 0)
  pub outside : (k : ℕ) → (k < 8) ⊎ (8 + length bytes / 512 ≤ k) → Kept (d slot k) (e slot k)
  pub inside : (i : ℕ) → i < length bytes / 512 → (v : Sector) → IsIn (e slot (8 + i)) v → IsIn (d slot (8 + i)) v ⊎ (v ≡ nth_sector bytes i)

-- the section's sectors have their new bytes alone
abbrev pub IsSectionAlone : ℕ → List ℕ → Disk → Type 0
IsSectionAlone slot bytes e = (i : ℕ) → i < length bytes / 512 → e slot (8 + i) ≡ nth_sector bytes i ∷ []

-- The section is named: its sectors had been flushed before, which left `mid`. Since then the sector 0 alone was written.
pub record IsNaming (slot : ℕ) (header : Sector) (bytes : List ℕ) (d e : Disk) : Type 0 where
  pub mid : Disk
  pub stored : IsStoring slot bytes d mid
  pub section : IsSectionAlone slot bytes mid
  pub beside : (s k : ℕ) → (s ≢ slot) ⊎ (k ≢ 0) → e s k ≡ mid s k
  pub header_is : (v : Sector) → IsIn (e slot 0) v → IsIn (mid slot 0) v ⊎ (v ≡ header)

-- At each mark of the call it is the one or the other.
abbrev pub IsStoringOrNaming : ℕ → Sector → List ℕ → Disk → Disk → Type 0
IsStoringOrNaming slot header bytes d e = IsStoring slot bytes d e ⊎ IsNaming slot header bytes d e

-- Both are stored: a stop leaves the header and the section's sectors alone, and each other sector of the slot as it was, but for a flush.
pub record IsNamed (slot : ℕ) (header : Sector) (bytes : List ℕ) (d e : Disk) : Type 0 where
  pub others : (s k : ℕ) → s ≢ slot → e s k ≡ d s k
  pub header_is : e slot 0 ≡ header ∷ []
  pub section : IsSectionAlone slot bytes e
  pub outside : (k : ℕ) → k ≢ 0 → (k < 8) ⊎ (8 + length bytes / 512 ≤ k) → Kept (d slot k) (e slot k)

-- Each image then has the section of that span, and its sectors.
pub record IsFound (uuid : List ℕ) (sectors : ℕ) (span : Span) (bytes : List ℕ) (slot : ℕ → Sector) : Type 0 where
  pub active : IsTrue (has_section uuid sectors slot span)
  pub section : (x : ℕ) → span.lo ≤ x → x < span.hi → section_sector slot span x ≡ nth_sector bytes (x - span.lo)

abbrev pub NamedSectionsAreFound : Type 0
NamedSectionsAreFound = (uuid : List ℕ) (sectors slot : ℕ) (span : Span) (bytes : List ℕ) (d e : Disk) (c : Contents) → length uuid ≡ 16 → span.lo < span.hi → span.hi < 2 ^ 64
    → length bytes / 512 ≡ span.hi - span.lo → 8 + (span.hi - span.lo) ≤ sectors → IsNamed slot (header_of uuid span) bytes d e → IsDrawn e c → IsFound uuid sectors span bytes (c slot)
