-- What the steps of a window leave of an array that is steady or safe: its section is stored and named, or cleared, its rows are copied, and rows behind the list are zeroed.
use Rattle.std.specs.Prelude.{◌≡◌, ℕ, ◌<◌, ◌≤◌, true, List, length, Some, None, IsTrue}
use Rattle.reshape_window_rows.specs.raid_types_the_Shape.{Shape}
use Rattle.reshape_window_rows.specs.raid_types_the_Span.{Span}
use Rattle.reshape_window_rows.specs.raid_types_Sectors.{Sector}
use Rattle.reshape_window_rows.specs.raid_types_Shapes.{is_valid_shape, is_multiple}
use Rattle.reshape_window_rows.specs.bank_Given.{Given}
use Rattle.reshape_window_rows.specs.bank_Tape.{IsIn}
use Rattle.reshape_window_rows.specs.reshape_geometry_Geometry.{rows}
use Rattle.reshape_window_rows.specs.reshape_geometry_Geometry as geometry
use Rattle.reshape_window_rows.specs.sb_specs_the_Members.{Members}
use Rattle.reshape_window_rows.specs.sb_specs_Reading.{Scope, is_reshaping, next_window}
use Rattle.reshape_window_rows.specs.stripe_row_Rows.{members_without}
use Rattle.reshape_window_rows.specs.bank_backup_Written.{header_of, cleared_header}
use Rattle.reshape_window_rows.specs.bank_backup_Storing.{IsStoringOrNaming, IsHeading}
use Rattle.reshape_window_rows.specs.crash_views_Regions.{open_by}
use Rattle.reshape_window_rows.specs.crash_views_Views.{Disk, Ledger}
use Rattle.reshape_window_rows.specs.crash_views_Windows.{IsSomewhere, IsWrittenAt, HasNoSection, IsCopying, IsCopyable}
use Rattle.reshape_window_rows.specs.crash_views_Backups.{IsSectionOf}
use Rattle.reshape_window_rows.specs.crash_safety_laws_Updates.{IsAtEnd, IsPastPlace}
use Rattle.reshape_window_rows.specs.crash_safety_laws_Steady.{IsSteady, IsSafeNow, AreHolders, AreUnlost}
use Rattle.reshape_window_rows.specs.array_members_Lacking.{IsOfStripe}
use Rattle.reshape_window_rows.specs.Copies.{IsStripeOf, IsPastStripe}

-- ---- the backup

-- While no section is active, the next window's may be stored and named: at each mark of the call the array is as steady as before.
abbrev pub SectionsStaySteady : (sound : Type 0) → Type 0
SectionsStaySteady sound = (scope : Scope) (given : Given) (told : Ledger) (members : Members) (slot : ℕ) (span : Span) (bytes : List ℕ) (d e : Disk) → scope.backup ≡ Some slot → length scope.uuid ≡ 16
    → IsSomewhere d → HasNoSection scope members d → IsSectionOf members told.values span bytes → IsStoringOrNaming slot (header_of scope.uuid span) bytes d e
    → IsSteady sound scope given told members d → IsSteady sound scope given told members e

-- Where a stop may leave a header without an active section, one of no section may be written.
abbrev pub ClearingStaysSteady : (sound : Type 0) → Type 0
ClearingStaysSteady sound = (scope : Scope) (given : Given) (told : Ledger) (members : Members) (slot : ℕ) (plain : Sector) (d e : Disk) → scope.backup ≡ Some slot
    → length scope.uuid ≡ 16 → IsSomewhere d → IsIn (d slot 0) plain → open_by scope members.newest plain ≡ None → IsHeading slot (cleared_header scope.uuid) d e
    → IsSteady sound scope given told members d → IsSteady sound scope given told members e

-- ---- rows

-- The next window's rows may be copied, where its section is active or it isn't critical, whichever slots are lost meanwhile.
abbrev pub CopyingStaysSteady : (sound : Type 0) → Type 0
CopyingStaysSteady sound = (scope : Scope) (given : Given) (told : Ledger) (members : Members) (span : Span) (lost : ℕ) (d e : Disk)
    → IsSomewhere d → IsCopyable scope members span d → IsCopying members span d e
    → IsSteady sound scope given told members d → IsSteady sound scope given told (members_without lost members) e

-- Rows behind the list may be written, once a forward reshape has gone through it, whichever slots are lost meanwhile.
abbrev pub ZeroingStaysSteady : (sound : Type 0) → Type 0
ZeroingStaysSteady sound = (scope : Scope) (given : Given) (told : Ledger) (members : Members) (lost : ℕ) (d e : Disk)
    → IsSomewhere d → is_reshaping members.newest ≡ true → next_window members.newest ≡ None → IsAtEnd members.newest → IsWrittenAt (IsPastPlace members) d e
    → IsSteady sound scope given told members d → IsSteady sound scope given told (members_without lost members) e

-- It is the same where no live slot is left: no slot that holds a role is there to be written.
abbrev pub CopyingStaysSafe : (sound : Type 0) → Type 0
CopyingStaysSafe sound = (scope : Scope) (given : Given) (told : Ledger) (members : Members) (span : Span) (lost : ℕ) (d e : Disk)
    → AreHolders given members → AreUnlost members → IsSomewhere d → IsCopyable scope members span d → IsCopying members span d e
    → IsSafeNow sound scope given told members d → IsSafeNow sound scope given told (members_without lost members) e

abbrev pub ZeroingStaysSafe : (sound : Type 0) → Type 0
ZeroingStaysSafe sound = (scope : Scope) (given : Given) (told : Ledger) (members : Members) (lost : ℕ) (d e : Disk)
    → AreHolders given members → AreUnlost members → IsSomewhere d → is_reshaping members.newest ≡ true → next_window members.newest ≡ None → IsAtEnd members.newest
    → IsWrittenAt (IsPastPlace members) d e → IsSafeNow sound scope given told members d → IsSafeNow sound scope given told (members_without lost members) e

-- ---- stripes

-- Each row that a window writes is of one of the stripes that are copied.
abbrev pub RowsAreOfStripes : Type 0
RowsAreOfStripes = (shape : Shape) (span : Span) (row : ℕ) → IsTrue (is_valid_shape shape) → geometry.IsIn row (rows shape span.lo span.hi)
    → (stripe : ℕ) × IsStripeOf shape span stripe × IsOfStripe shape stripe row

-- And each row behind those of a list with this end, among so many, is of one that is zeroed.
abbrev pub PastRowsAreOfStripes : Type 0
PastRowsAreOfStripes = (shape : Shape) (size end row : ℕ) → IsTrue (is_valid_shape shape) → IsTrue (is_multiple size shape.chunk) → (rows shape 0 end).hi ≤ row → row < size
    → (stripe : ℕ) × IsPastStripe shape size end stripe × IsOfStripe shape stripe row
