-- What the backup has stored behind a section that was tried, and what the members leave of it that lost slots.
use Rattle.std.proofs.Common.{◌≡◌, ◌≢◌, ◌⊎◌, inl, inr, ℕ, ◌+◌, ◌-◌, ◌<◌, Bool, true, false, Option, Some, List, length, refl, sym, ◌∙◌, ap, subst, arith}
use Rattle.std.specs.Prelude.{Result, Ok, Err, OnOk}
use Rattle.stripe_region_read.specs.raid_types_Sectors.{Sector}
use Rattle.stripe_region_read.specs.raid_types_the_Span.{Span}
use Rattle.stripe_region_read.specs.bank_the_Operation.{Operation}
use Rattle.stripe_region_read.specs.bank_Given.{Given}
use Rattle.stripe_region_read.specs.bank_Tape.{IsIn, EachMark, disk}
use Rattle.reshape_progress.proofs.bank_Laws.{kept_in}
use Rattle.stripe_region_read.specs.raid_parity_Rows.{sector_of}
use Rattle.reshape_progress.specs.sb_specs_the_Members.{Members}
use Rattle.reshape_progress.specs.sb_specs_Reading.{Scope, next_window}
use Rattle.reshape_progress.specs.bank_backup_the_SectionFault.{SectionFault}
use Rattle.reshape_progress.specs.bank_backup_the_SectionFault_TheVariants.{Before, Attempted}
use Rattle.reshape_progress.specs.bank_backup_Written.{header_of}
use Rattle.reshape_progress.specs.bank_backup_Storing.{IsStoringOrNaming}
use Rattle.reshape_progress.specs.crash_views_Regions.{backup_of, AreShapesFit}
use Rattle.reshape_progress.specs.crash_views_Views.{Disk, AreHeadersFit, IsHeaderFit}
use Rattle.reshape_progress.specs.crash_views_Windows.{HasNoSection}
use Rattle.reshape_progress.specs.crash_views_Backups.{HasSectors, IsOpenOrNot, IsOpenUnderAll}
use Rattle.reshape_progress.proofs.crash_views_Headers.{backup-is, own-header}
use Rattle.reshape_progress.proofs.crash_views_Stands.{alone}
use Rattle.reshape_progress.specs.array_members_Moving.{IsMoved}
use Rattle.reshape_progress.proofs.array_members_LackingLists.{row-sector}
use Rattle.reshape_progress.specs.sb_safe_updates_Unused.{IsUnused, IsUnusedKept}
use Rattle.reshape_progress.specs.reshape_window_rows_Copies.{IsRoomFor}
use Rattle.reshape_progress.specs.reshape_request_the_Window_TheVariants.{Closed, Entered}
use Rattle.reshape_progress.specs.Course.{IsStored}
use Rattle.reshape_progress.proofs.Courses.{stored-moves}
use Rattle.reshape_window_backup.specs.Backup.{IsBackupFor}
use Rattle.reshape_window_backup.specs.Entering.{window_behind}
use Rattle.reshape_window_backup.proofs.SectionLaws.{at-end}

-- ---- members that lost slots

-- where the backup is no slot of theirs, none of which has anything new in it
pub closed-kept : (scope : Scope) (given : Given) (old new : Members) (slot : ℕ) (buffer : List ℕ) (d e : Disk) → scope.backup ≡ Some slot → IsMoved given old new → IsUnused old slot → IsUnusedKept old d e
    → IsStored scope old Closed buffer d → IsStored scope new Closed buffer e
closed-kept scope given old new slot buffer d e there moved aside kept was =
    stored-moves scope given old new Closed buffer d e moved (record {
      headers = λ v may. kept (backup_of scope) 0 v (subst (IsUnused old) (sym (backup-is scope slot there)) aside) may;
      section = tt;
    }) was

-- ---- a section that was tried

-- nothing but the backup is written
pub others-same : (slot : ℕ) (header : Sector) (bytes : List ℕ) (d e : Disk) → IsStoringOrNaming slot header bytes d e → (s k : ℕ) → s ≢ slot → e s k ≡ d s k
others-same slot header bytes d e (inl storing) s k other = storing.others s k other
others-same slot header bytes d e (inr naming) s k other = naming.beside s k (inl other) ∙ naming.stored.others s k other

-- its header is one of before, or the window's
header-of : (slot : ℕ) (header : Sector) (bytes : List ℕ) (d e : Disk) → IsStoringOrNaming slot header bytes d e → (v : Sector) → IsIn (e slot 0) v → IsIn (d slot 0) v ⊎ (v ≡ header)
header-of slot header bytes d e (inl storing) v may = inl (kept_in (d slot 0) (e slot 0) v storing.header_is may)
header-of slot header bytes d e (inr naming) v may = elim (naming.header_is v may) [
  | inl was ↦ inl (kept_in (d slot 0) (naming.mid slot 0) v naming.stored.header_is was)
  | inr new ↦ inr new
]

-- what `store_window` says
pub record IsSectionTried {T : Type 0} (tells : Type 0) (given : Given) (tape tape' : List Operation) (backup : ℕ) (uuid : List ℕ) (span : Span) (bytes : List ℕ) (answer : Result T SectionFault) : Type 0 where
  pub room : IsRoomFor span bytes
  pub sixteen : length uuid ≡ 16
  pub marks : EachMark tells given.start tape tape' (IsStoringOrNaming backup (header_of uuid span) bytes (disk given.start tape))
  pub active : OnOk answer (tells → (scope : Scope) → (m : Members) → AreShapesFit m.newest → next_window m.newest ≡ Some span → IsBackupFor scope backup uuid span
      → IsOpenUnderAll scope m span (disk given.start tape') × HasSectors scope bytes (disk given.start tape'))
  pub untouched : answer ≡ Err Before → tells → (scope : Scope) → (m : Members) → IsBackupFor scope backup uuid span → HasNoSection scope m (disk given.start tape) → HasNoSection scope m (disk given.start tape')
  pub unsure : answer ≡ Err Attempted → tells → (scope : Scope) → (m : Members) → AreShapesFit m.newest → next_window m.newest ≡ Some span → IsBackupFor scope backup uuid span
      → HasNoSection scope m (disk given.start tape) → IsOpenOrNot scope m span (disk given.start tape') × HasSectors scope bytes (disk given.start tape')

module _ {T : Type 0} {tells : Type 0} {given : Given} {tape tape' : List Operation} {backup : ℕ} {uuid : List ℕ} {span : Span} {bytes : List ℕ} (answer : Result T SectionFault)
    (did : IsSectionTried tells given tape tape' backup uuid span bytes answer) (t : tells) (scope : Scope) (m : Members) (fit : AreShapesFit m.newest) (next : next_window m.newest ≡ Some span) (its : IsBackupFor scope backup uuid span)
    (was : IsStored scope m Closed bytes (disk given.start tape)) where
  headers : AreHeadersFit scope m (disk given.start tape')
  headers b header here may =
      elim (header-of backup (header_of uuid span) bytes (disk given.start tape) (disk given.start tape') (at-end did.marks t) header (subst (λ (s : ℕ). IsIn (disk given.start tape' s 0) header) at may)) [
        | inl old ↦ was.headers backup header its.backup old
        | inr new ↦ subst (λ (v : Sector). IsHeaderFit scope m.newest v) (sym new)
            (subst (λ (u : List ℕ). IsHeaderFit scope m.newest (header_of u span)) its.array
            (own-header scope m.newest fit span next (ap (λ (u : List ℕ). length u) its.array ∙ did.sixteen)))
      ]
    where
      at : b ≡ backup
      at = let both : ◌≡◌ {A = Option ℕ} (Some b) (Some backup) = sym here ∙ its.backup in cc

  section : HasSectors scope bytes (disk given.start tape') → (i : ℕ) → i < span.hi - span.lo → (v : Sector) → IsIn (disk given.start tape' (backup_of scope) (8 + i)) v → v ≡ sector_of bytes i
  section has i lt v may =
      let room = did.room in
      alone (disk given.start tape' (backup_of scope) (8 + i)) v _ (has i (omega (arith, room, lt))) may ∙ sym (row-sector bytes i)

  pub section-stored : IsStored scope m (window_behind span true answer) bytes (disk given.start tape')
  section-stored = of answer refl
    where
      of : (a : Result T SectionFault) → answer ≡ a → IsStored scope m (window_behind span true a) bytes (disk given.start tape')
      of (Ok x) e =
          let active = ok x e did.active t scope m fit next its in
          record { section = active.0; sectors = section active.1; headers = headers }
        where
          ok : {P : Type 0} (x : T) → answer ≡ Ok x → OnOk answer P → P
          ok {P = P} x e on = subst (λ (a : Result T SectionFault). OnOk a P) e on
      of (Err Before) e = record { section = did.untouched e t scope m its was.section; sectors = tt; headers = headers }
      of (Err Attempted) e =
          let tried = did.unsure e t scope m fit next its was.section in
          record { section = tried.0; sectors = section tried.1; headers = headers }

-- without a section the window is entered as it is
pub unsectioned : (scope : Scope) (m : Members) (span : Span) (bytes : List ℕ) (d : Disk) (sectioned : Bool) → sectioned ≡ false → IsStored scope m Closed bytes d → IsStored scope m (Entered span 0 sectioned) bytes d
unsectioned scope m span bytes d sectioned none was = subst (λ (b : Bool). IsStored scope m (Entered span 0 b) bytes d) (sym none) (record { section = was.section; sectors = tt; headers = was.headers })

-- with another buffer none is entered either
pub closed-any : (scope : Scope) (m : Members) (bytes other : List ℕ) (d : Disk) → IsStored scope m Closed bytes d → IsStored scope m Closed other d
closed-any scope m bytes other d was = record { section = was.section; sectors = tt; headers = was.headers }
