-- What a header says.
use Rattle.std.specs.Prelude.{◌≡◌, ℕ, ◌^◌, ◌<◌, Bool, IsTrue, List, length, slice_range, bytes_eq, codes, take}
use Rattle.bank.specs.raid_types_Sectors.{Sector}
use Rattle.bank.specs.raid_types_Bytes.{field}
use Rattle.bank_backup.specs.declared.header.Header.{Header}
use Rattle.bank_backup.specs.Written.{header_with}

-- a sector begins as a header does
abbrev pub has_magic : Sector → Bool
has_magic sector = bytes_eq (take 16 sector) (codes "md_backup_data-1")

-- the fields of a sector, be it a header or not
abbrev pub fields_in : Sector → Header
fields_in sector = record {
  uuid = slice_range sector 16 32;
  devstart = field sector 40 8;
  arraystart = field sector 48 8;
  length = field sector 56 8;
}

-- A header that was written begins as one, and its fields are those that were written.
pub record SaysFields (uuid : List ℕ) (start len : ℕ) (header : Sector) : Type 0 where
  pub begins : IsTrue (has_magic header)
  pub fields : fields_in header ≡ record { uuid = uuid; devstart = 8; arraystart = start; length = len }

abbrev pub HeadersSayTheirFields : Type 0
HeadersSayTheirFields = (uuid : List ℕ) (start len : ℕ) → length uuid ≡ 16 → start < 2 ^ 64 → len < 2 ^ 64 → SaysFields uuid start len (header_with uuid start len)
