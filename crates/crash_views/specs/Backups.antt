-- What the calls on the backup leave of a view: a section is stored and named, a header is written.
use Rattle.std.specs.Prelude.{◌≡◌, ◌⊎◌, ℕ, ◌+◌, ◌-◌, ◌/◌, ◌^◌, ◌<◌, ◌≤◌, Bool, true, if◌then◌else◌, List, [], ◌∷◌, length, Some, None}
use Rattle.history.specs.raid_types_the_Span.{Span}
use Rattle.history.specs.raid_types_Sectors.{Sector}
use Rattle.history.specs.raid_types_Shapes.{has_slot}
use Rattle.history.specs.bank_Given.{Given}
use Rattle.history.specs.bank_Tape.{Contents, IsIn}
use Rattle.history.specs.sb_codec_the_Sb.{Sb}
use Rattle.history.specs.sb_specs_the_Members.{Members}
use Rattle.history.specs.sb_specs_Reading.{Scope, next_window}
use Rattle.history.specs.bank_backup_Section.{has_section}
use Rattle.history.specs.bank_backup_Written.{header_of, cleared_header}
use Rattle.history.specs.bank_backup_Storing.{nth_sector, IsStoring, IsNaming, IsStoringOrNaming, IsHeading, IsNamed, IsHeaded}
use Rattle.crash_views.specs.Regions.{backup_of, header_in, open_by}
use Rattle.crash_views.specs.Views.{Disk, Ledger, IsViewRight}
use Rattle.crash_views.specs.Windows.{IsSomewhere, HasNoSection}

-- these bytes are the next window's sectors, of allowed values
pub record IsSectionOf (m : Members) (values : ℕ → List Sector) (span : Span) (bytes : List ℕ) : Type 0 where
  pub next : next_window m.newest ≡ Some span
  pub size : length bytes / 512 ≡ span.hi - span.lo
  pub allowed : (x : ℕ) → span.lo ≤ x → x < span.hi → IsIn (values x) (nth_sector bytes (x - span.lo))

-- While no section is active, such a section may be stored and named: at each mark of the call a view stays right.
abbrev pub SectionsStayRight : (sound : Type 0) → Type 0
SectionsStayRight sound = (scope : Scope) (given : Given) (told : Ledger) (m : Members) (slot : ℕ) (span : Span) (bytes : List ℕ) (d e : Disk) → scope.backup ≡ Some slot → length scope.uuid ≡ 16
    → IsSomewhere d → HasNoSection scope m d → IsSectionOf m told.values span bytes → IsStoringOrNaming slot (header_of scope.uuid span) bytes d e
    → IsViewRight sound scope given told m d → IsViewRight sound scope given told m e

-- Where a stop may leave a header without an active section, one of no section may be written: at each mark of the call a view stays right.
abbrev pub ClearingStaysRight : (sound : Type 0) → Type 0
ClearingStaysRight sound = (scope : Scope) (given : Given) (told : Ledger) (m : Members) (slot : ℕ) (plain : Sector) (d e : Disk) → scope.backup ≡ Some slot → length scope.uuid ≡ 16
    → IsSomewhere d → IsIn (d slot 0) plain → open_by scope m.newest plain ≡ None → IsHeading slot (cleared_header scope.uuid) d e
    → IsViewRight sound scope given told m d → IsViewRight sound scope given told m e

-- the header of the next window's section makes it active, where the slot has its sectors
abbrev pub NamedSectionsAreOpen : Type 0
NamedSectionsAreOpen = (scope : Scope) (newest : Sb) (slot : ℕ) (span : Span) → scope.backup ≡ Some slot → has_slot scope.given slot ≡ true → length scope.uuid ≡ 16
    → next_window newest ≡ Some span → span.lo < span.hi → span.hi < 2 ^ 64 → 8 + (span.hi - span.lo) ≤ scope.sizes.sectors slot
    → open_by scope newest (header_of scope.uuid span) ≡ Some span

-- a cleared header makes none active
abbrev pub ClearedHeadersAreShut : Type 0
ClearedHeadersAreShut = (scope : Scope) (newest : Sb) → length scope.uuid ≡ 16 → open_by scope newest (cleared_header scope.uuid) ≡ None

-- ---- what the array knows once a call is over

-- Before the header was tried no section is active.
abbrev pub StoredIsClosed : Type 0
StoredIsClosed = (scope : Scope) (m : Members) (slot : ℕ) (bytes : List ℕ) (d e : Disk) → scope.backup ≡ Some slot → HasNoSection scope m d
    → IsStoring slot bytes d e → HasNoSection scope m e

-- the window is open under each header that a stop leaves, or under some of them
abbrev pub IsOpenUnderAll : Scope → Members → Span → Disk → Type 0
IsOpenUnderAll scope m span d = (header : Sector) → IsIn (d (backup_of scope) 0) header → open_by scope m.newest header ≡ Some span

abbrev pub IsOpenOrNot : Scope → Members → Span → Disk → Type 0
IsOpenOrNot scope m span d = (header : Sector) → IsIn (d (backup_of scope) 0) header → (open_by scope m.newest header ≡ None) ⊎ (open_by scope m.newest header ≡ Some span)

-- the section's sectors are these bytes alone
abbrev pub HasSectors : Scope → List ℕ → Disk → Type 0
HasSectors scope bytes d = (i : ℕ) → i < length bytes / 512 → d (backup_of scope) (8 + i) ≡ nth_sector bytes i ∷ []

-- After an attempt that failed the window is unsure: its section is active or none is, and its sectors are stored.
abbrev pub NamingIsUnsure : Type 0
NamingIsUnsure = (scope : Scope) (m : Members) (slot : ℕ) (span : Span) (bytes : List ℕ) (d e : Disk) → scope.backup ≡ Some slot → has_slot scope.given slot ≡ true
    → length scope.uuid ≡ 16 → next_window m.newest ≡ Some span → span.lo < span.hi → span.hi < 2 ^ 64 → 8 + (span.hi - span.lo) ≤ scope.sizes.sectors slot
    → HasNoSection scope m d → IsNaming slot (header_of scope.uuid span) bytes d e → IsOpenOrNot scope m span e × HasSectors scope bytes e

-- After Ok the window's section is active, and its sectors are stored.
abbrev pub NamedIsOpen : Type 0
NamedIsOpen = (scope : Scope) (m : Members) (slot : ℕ) (span : Span) (bytes : List ℕ) (d e : Disk) → scope.backup ≡ Some slot → has_slot scope.given slot ≡ true
    → length scope.uuid ≡ 16 → next_window m.newest ≡ Some span → span.lo < span.hi → span.hi < 2 ^ 64 → 8 + (span.hi - span.lo) ≤ scope.sizes.sectors slot
    → IsNamed slot (header_of scope.uuid span) bytes d e → IsOpenUnderAll scope m span e × HasSectors scope bytes e

-- After a header was cleared no section is active.
abbrev pub ClearedIsClosed : Type 0
ClearedIsClosed = (scope : Scope) (m : Members) (slot : ℕ) (d e : Disk) → scope.backup ≡ Some slot → length scope.uuid ≡ 16
    → IsHeaded slot (cleared_header scope.uuid) d e → HasNoSection scope m e

-- What `find_section` finds of the next window is the active section.
abbrev pub FoundIsOpen : Type 0
FoundIsOpen = (scope : Scope) (newest : Sb) (slot : ℕ) (span : Span) (c : Contents) (found : Bool) → scope.backup ≡ Some slot → has_slot scope.given slot ≡ true
    → next_window newest ≡ Some span → found ≡ has_section scope.uuid (scope.sizes.sectors slot) (c slot) span
    → open_by scope newest (header_in scope c) ≡ (if found then Some span else None)
