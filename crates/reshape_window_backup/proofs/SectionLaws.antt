-- What a section leaves that is stored, and a header that is cleared: an array that is safe.
use Rattle.std.proofs.Common.{◌≡◌, ◌⊎◌, inl, inr, ℕ, ◌+◌, ◌-◌, ◌*◌, ◌<◌, ◌≤◌, List, length, take, drop, take_all, Some, None, sym, ◌∙◌, ap, subst, arith}
use Rattle.std.specs.Prelude.{⊤, Result, Ok, Err, OnErr}
use Rattle.stripe_region_read.specs.raid_types_the_Span.{Span}
use Rattle.stripe_region_read.specs.raid_types_Sectors.{Sector}
use Rattle.stripe_region_read.specs.bank_the_Operation.{Operation}
use Rattle.stripe_region_read.specs.bank_Given.{Given}
use Rattle.stripe_region_read.specs.bank_Tape.{Contents, IsIn, EachMark, disk}
use Rattle.stripe_region_read.specs.raid_parity_Rows.{sector_of}
use Rattle.reshape_progress.specs.sb_specs_the_Members.{Members}
use Rattle.reshape_progress.specs.sb_specs_Reading.{Scope, list_length, next_window}
use Rattle.reshape_progress.specs.bank_backup_Written.{header_of, cleared_header}
use Rattle.reshape_progress.specs.bank_backup_Storing.{nth_sector, IsHeading, IsStoringOrNaming}
use Rattle.reshape_progress.specs.bank_backup_Storing as backup
use Rattle.reshape_progress.specs.crash_views_Regions.{backup_of, open_by, AreShapesFit}
use Rattle.reshape_progress.specs.crash_views_Views.{Disk, Ledger}
use Rattle.reshape_progress.specs.crash_views_Windows.{HasNoSection}
use Rattle.reshape_progress.specs.crash_views_Backups.{IsSectionOf, IsOpenUnderAll, IsOpenOrNot, HasSectors}
use Rattle.reshape_progress.proofs.crash_views_BackupLaws.{cleared-shut, naming-unsure, named-is-open}
use Rattle.reshape_progress.proofs.crash_views_Headers.{backup-is, window-filled, window-short}
use Rattle.reshape_progress.proofs.crash_views_Stands.{window-inside}
use Rattle.reshape_progress.specs.crash_safety_laws_Safety.{HasLiveSlot}
use Rattle.reshape_progress.specs.crash_safety_laws_Steady.{IsSteady, IsSafeNow, IsSafeStretch}
use Rattle.reshape_progress.proofs.crash_safety_laws_Drawn.{disk-somewhere}
use Rattle.reshape_progress.proofs.crash_safety_laws_Steady.{steady-seen}
use Rattle.reshape_progress.specs.reshape_window_rows_Copies.{HasWindow, IsRoomFor}
use Rattle.reshape_window_backup.specs.Backup.{IsBackupFor}
use Rattle.reshape_progress.proofs.reshape_window_steps_SteadyLaws.{sections-steady, clearing-steady}

-- ---- the window

nth-is : (bytes : List ℕ) (i : ℕ) → nth_sector bytes i ≡ sector_of bytes i
nth-is bytes i = let size : 512 * i + 512 - 512 * i ≡ 512 = omega arith in ap (λ (n : ℕ). take n (drop (512 * i) bytes)) (sym size)

-- what was read is the window's section, of allowed values
pub read-section : (m : Members) → AreShapesFit m.newest → (span : Span) (bytes : List ℕ) (list : ℕ → Sector) (values : ℕ → List Sector) → next_window m.newest ≡ Some span
    → IsRoomFor span bytes → HasWindow span bytes list → ((x : ℕ) → x < list_length m.newest → IsIn (values x) (list x)) → IsSectionOf m values span bytes
read-section m fit span bytes list values next room has allowed = record {
  next = next;
  size = omega (arith, room);
  allowed = λ x low high.
      let inside = window-inside m.newest fit span next in
      subst (λ (v : Sector). IsIn (values x) v) (sym (nth-is bytes (x - span.lo) ∙ has x (low, high))) (allowed x (omega (arith, high, inside)));
}

-- ---- the section

module _ (scope : Scope) (m : Members) (slot : ℕ) (uuid : List ℕ) (span : Span) (bytes : List ℕ) (d e : Disk) (sixteen : length uuid ≡ 16) (fit : AreShapesFit m.newest) (next : next_window m.newest ≡ Some span)
    (its : IsBackupFor scope slot uuid span) where
  pub opened : backup.IsNamed slot (header_of uuid span) bytes d e → IsOpenUnderAll scope m span e × HasSectors scope bytes e
  opened named =
      named-is-open scope m slot span bytes d e its.backup its.there (ap (λ (u : List ℕ). length u) its.array ∙ sixteen) next (window-filled m.newest fit span next) (window-short m.newest fit span next) its.room
      (subst (λ (u : List ℕ). backup.IsNamed slot (header_of u span) bytes d e) (sym its.array) named)

  pub unsure : HasNoSection scope m d → backup.IsNaming slot (header_of uuid span) bytes d e → IsOpenOrNot scope m span e × HasSectors scope bytes e
  unsure none naming =
      naming-unsure scope m slot span bytes d e its.backup its.there (ap (λ (u : List ℕ). length u) its.array ∙ sixteen) next (window-filled m.newest fit span next) (window-short m.newest fit span next) its.room none
      (subst (λ (u : List ℕ). backup.IsNaming slot (header_of u span) bytes d e) (sym its.array) naming)

-- ---- a header is cleared

-- it names the section then, or none, as before
pub unsure-still : (scope : Scope) (m : Members) (slot : ℕ) (span : Span) (d e : Disk) → scope.backup ≡ Some slot → length scope.uuid ≡ 16 → IsHeading slot (cleared_header scope.uuid) d e → IsOpenOrNot scope m span d → IsOpenOrNot scope m span e
unsure-still scope m slot span d e there sixteen heading was header may =
    let b = backup-is scope slot there in
    of b (heading.header_is header (subst (λ (a : ℕ). IsIn (e a 0) header) b may))
  where
    of : backup_of scope ≡ slot → IsIn (d slot 0) header ⊎ (header ≡ cleared_header scope.uuid) → (open_by scope m.newest header ≡ None) ⊎ (open_by scope m.newest header ≡ Some span)
    of b (inl old) = was header (subst (λ (a : ℕ). IsIn (d a 0) header) (sym b) old)
    of b (inr new) = inl (ap (open_by scope m.newest) new ∙ cleared-shut scope m.newest sixteen)

-- ---- marks

-- the marks of a call on the backup, by the array's uuid
pub marks-by : {tells : Type 0} {start : Contents} {before after : List Operation} (P : List ℕ → Disk → Type 0) (own uuid : List ℕ) → tells → own ≡ uuid → EachMark tells start before after (P uuid) → EachMark ⊤ start before after (P own)
marks-by {start = start} {before = before} {after = after} P own uuid told same marks =
    subst (λ (u : List ℕ). EachMark ⊤ start before after (P u)) (sym same)
    (record { longer = λ t. marks.longer told; earlier = λ t. marks.earlier told; each = λ t m low high. marks.each told m low high })

-- ---- safety

module _ (sound : Type 0) (scope : Scope) (given : Given) (told : Ledger) (m : Members) (before after : List Operation) where
  -- where what is done keeps the array steady up to each mark, a live slot being left
  steady-along : (Q : Disk → Type 0) → EachMark ⊤ given.start before after Q
      → ((e : Disk) → Q e → IsSteady sound scope given told m (disk given.start before) → IsSteady sound scope given told m e)
      → HasLiveSlot m → IsSafeNow sound scope given told m (disk given.start before) → IsSafeStretch sound scope given told m before after
  steady-along Q marks keeps live safe = of safe
    where
      at : IsSteady sound scope given told m (disk given.start before) → (k : ℕ) → length before ≤ k → k ≤ length after → IsSteady sound scope given told m (disk given.start (take k after))
      at steady k low high = keeps (disk given.start (take k after)) (marks.each tt k low high) steady

      of : IsSafeNow sound scope given told m (disk given.start before) → IsSafeStretch sound scope given told m before after
      of (inl steady) = record {
        marks = record {
          longer = marks.longer;
          earlier = marks.earlier;
          each = λ tell k low high. steady-seen sound scope given told m (take k after) (at steady k low high);
        };
        next = inl (subst (λ (tape : List Operation). IsSteady sound scope given told m (disk given.start tape)) (take_all (length after) after (omega arith)) (at steady (length after) (marks.longer tt) (omega arith)));
      }
      of (inr spent) = absurd (spent.none live)

  module _ (slot : ℕ) (there : scope.backup ≡ Some slot) (sixteen : length scope.uuid ≡ 16) (live : HasLiveSlot m) (safe : IsSafeNow sound scope given told m (disk given.start before)) where
    pub saved-safe : (span : Span) (bytes : List ℕ) → HasNoSection scope m (disk given.start before) → IsSectionOf m told.values span bytes
        → EachMark ⊤ given.start before after (IsStoringOrNaming slot (header_of scope.uuid span) bytes (disk given.start before)) → IsSafeStretch sound scope given told m before after
    saved-safe span bytes none section marks =
        steady-along (IsStoringOrNaming slot (header_of scope.uuid span) bytes (disk given.start before)) marks
        (λ e storing steady. sections-steady sound scope given told m slot span bytes (disk given.start before) e there sixteen (disk-somewhere given before) none section storing steady) live safe

    pub cleared-safe : (plain : Sector) → IsIn (disk given.start before slot 0) plain → open_by scope m.newest plain ≡ None
        → EachMark ⊤ given.start before after (IsHeading slot (cleared_header scope.uuid) (disk given.start before)) → IsSafeStretch sound scope given told m before after
    cleared-safe plain held shut marks =
        steady-along (IsHeading slot (cleared_header scope.uuid) (disk given.start before)) marks
        (λ e heading steady. clearing-steady sound scope given told m slot plain (disk given.start before) e there sixteen (disk-somewhere given before) held shut heading steady) live safe

-- ---- at the end

-- what holds at each mark holds there
pub at-end : {tells : Type 0} {start : Contents} {before after : List Operation} {P : Disk → Type 0} → EachMark tells start before after P → tells → P (disk start after)
at-end {start = start} {after = after} {P = P} marks told = subst (λ (tape : List Operation). P (disk start tape)) (take_all (length after) after (omega arith)) (marks.each told (length after) (marks.longer told) (omega arith))

-- what is so anyway is so at an Err
pub on-err : {T E : Type 0} {P : Type 0} (result : Result T E) → P → OnErr result P
on-err (Ok x) is = tt
on-err (Err e) is = is
