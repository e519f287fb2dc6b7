-- An array stays steady over what is written elsewhere than in its superblocks, where each view that is right stays so.
use Rattle.std.proofs.Common.{◌≡◌, ◌≢◌, inl, inr, ℕ, ◌+◌, ◌<◌, Bool, true, false, cond, List, Option, Some, None, refl, sym, ◌∙◌, ap, subst, arith}
use Rattle.std.proofs.lemmas.Bool.{cases_eq}
use Rattle.reshape_window_rows.specs.raid_types_the_Span.{Span}
use Rattle.reshape_window_rows.specs.raid_types_Sectors.{Sector}
use Rattle.reshape_window_rows.specs.sb_codec_the_Sb.{Sb}
use Rattle.reshape_window_rows.specs.sb_codec_Superblock.{superblock_in}
use Rattle.reshape_window_rows.specs.bank_Given.{Given}
use Rattle.reshape_window_rows.specs.bank_Tape.{IsIn}
use Rattle.reshape_window_rows.specs.sb_specs_the_Members.{Members}
use Rattle.reshape_window_rows.specs.sb_specs_Reading.{Scope, is_seen, is_reshaping, next_window, of_array, holder, role_state, data_offset_of}
use Rattle.reshape_window_rows.specs.sb_specs_Held.{MayRead}
use Rattle.reshape_window_rows.specs.stripe_row_Rows.{reading_of, members_without}
use Rattle.reshape_window_rows.proofs.stripe_row_Losses.{holder-after}
use Rattle.reshape_window_rows.specs.bank_backup_Written.{header_of}
use Rattle.reshape_window_rows.specs.bank_backup_Storing.{IsStoringOrNaming}
use Rattle.reshape_window_rows.specs.crash_views_Regions.{open_by, ArePlaced}
use Rattle.reshape_window_rows.specs.crash_views_Views.{Disk, Ledger, IsViewRight}
use Rattle.reshape_window_rows.specs.crash_views_Windows.{IsSomewhere, AreFewer, IsWrittenAt, HasNoSection, IsWindowPlace, IsCopying, IsCopyable}
use Rattle.reshape_window_rows.specs.crash_views_Backups.{IsSectionOf}
use Rattle.reshape_window_rows.proofs.crash_views_BackupLaws.{sections-right, clearing-right}
use Rattle.reshape_window_rows.proofs.crash_views_WindowLaws.{copying-right}
use Rattle.reshape_window_rows.specs.crash_safety_laws_Carried.{AreCarried}
use Rattle.reshape_window_rows.specs.crash_safety_laws_Safety.{HasLiveSlot}
use Rattle.reshape_window_rows.specs.crash_safety_laws_Steady.{IsSteady, IsMoreTold, AreHolders, AreUnlost}
use Rattle.reshape_window_rows.specs.crash_safety_laws_Updates.{IsAtEnd, IsPastPlace}
use Rattle.reshape_window_rows.proofs.crash_safety_laws_HeldKept.{AreNoNewer, held-fewer}
use Rattle.reshape_window_rows.proofs.crash_reshape_laws_PastWindows.{zeroing-right}
use Rattle.reshape_window_rows.proofs.crash_safety_laws_Since.{since-more}
use Rattle.reshape_window_rows.proofs.crash_safety_laws_Spent.{live-holder}
use Rattle.reshape_window_rows.proofs.crash_safety_laws_Steady.{losing-stays-safe, views-fewer}
use Rattle.reshape_window_rows.proofs.crash_safety_laws_Stretch.{seen-own}
use Rattle.reshape_window_steps.specs.Laws.{SectionsStaySteady, ClearingStaysSteady, CopyingStaysSteady, ZeroingStaysSteady, CopyingStaysSafe, ZeroingStaysSafe}

-- ---- the superblocks

-- the device numbers that slots may show, which show one only where they are looked at
carried-no-newer : (scope : Scope) (told : ℕ → ℕ → Bool) (own : List (Option Sb)) (d e : Disk) → AreNoNewer scope d e → AreCarried scope told own d → AreCarried scope told own e
carried-no-newer scope told own d e fewer are = record { kept = are.kept; shown = λ slot sb may. by slot sb may (is_seen scope slot) refl }
  where
    by : (slot : ℕ) (sb : Sb) → MayRead scope e slot (Some sb) → (b : Bool) → is_seen scope slot ≡ b → told slot sb.dev_number ≡ true
    by slot sb may true seen = are.shown slot sb (record { at = may.at; eighth = fewer.eighth slot (may.at 8) seen may.eighth; ninth = fewer.ninth slot (may.at 9) seen may.ninth; is = may.is })
    by slot sb may false unseen = absurd (
        let none : ◌≡◌ {A = Option Sb} None (Some sb) = sym (λ i. of_array scope.uuid (cond (unseen i) (superblock_in (scope.sizes.sectors slot) may.at) None)) ∙ may.is in cc)

-- Where the superblocks have no new values, it is enough that the view of the former members stays right.
module _ (sound : Type 0) (scope : Scope) (given : Given) (told : Ledger) (d e : Disk) (some : IsSomewhere d) where
  steady-former : (former : Members) (gone : ℕ) → (steady : IsSteady sound scope given told (members_without gone former) d) → steady.former ≡ former → AreNoNewer scope d e
      → (IsViewRight sound scope given told former d → IsViewRight sound scope given told former e) → IsSteady sound scope given told (members_without gone former) e
  steady-former former gone steady is fewer still = record {
    former = steady.former;
    since = record { gone = steady.since.gone; since = steady.since.since; held = held-fewer scope d e some fewer steady.former steady.since.held };
    right = subst (λ (m : Members). IsViewRight sound scope given told m d → IsViewRight sound scope given told m e) (sym is) still steady.right;
    numbers = carried-no-newer scope told.carried steady.former.own d e fewer steady.numbers;
  }

  -- whatever follows of the members without lost slots
  pub steady-kept : (Q : Members → Type 0) → ((former : Members) (gone : ℕ) → Q (members_without gone former) → IsViewRight sound scope given told former d
      → AreNoNewer scope d e × IsViewRight sound scope given told former e)
      → (members : Members) → Q members → IsSteady sound scope given told members d → IsSteady sound scope given told members e
  steady-kept Q keeps members holds steady = of members steady.since.since holds steady refl
    where
      here : (gone : ℕ) → Q (members_without gone steady.former) → (now : IsSteady sound scope given told (members_without gone steady.former) d) → now.former ≡ steady.former
          → IsSteady sound scope given told (members_without gone steady.former) e
      here gone q now same = steady-former steady.former gone now same (keeps steady.former gone q steady.right).0 (λ right. (keeps steady.former gone q right).1)

      of : (m : Members) → m ≡ members_without steady.since.gone steady.former → Q m → (now : IsSteady sound scope given told m d) → now.former ≡ steady.former → IsSteady sound scope given told m e
      of m is = subst (λ (n : Members). Q n → (now : IsSteady sound scope given told n d) → now.former ≡ steady.former → IsSteady sound scope given told n e) (sym is) (here steady.since.gone)

-- ---- the backup

module _ (scope : Scope) (slot : ℕ) (there : scope.backup ≡ Some slot) (d e : Disk) where
  -- what is written to the backup alone leaves the superblocks, which aren't looked for there
  beside-no-newer : ((s k : ℕ) → s ≢ slot → e s k ≡ d s k) → AreNoNewer scope d e
  beside-no-newer others = record { eighth = λ s v seen may. at s 8 v seen may; ninth = λ s v seen may. at s 9 v seen may }
    where
      at : (s k : ℕ) (v : Sector) → is_seen scope s ≡ true → IsIn (e s k) v → IsIn (d s k) v
      at s k v seen may = elim (cases_eq s slot) [
        | inl same ↦ absurd (seen-own scope s seen (there ∙ ap (λ (a : ℕ). Some a) (sym same)))
        | inr other ↦ subst (λ (l : List Sector). IsIn l v) (others s k other) may
      ]

  stored-beside : (header : Sector) (bytes : List ℕ) → IsStoringOrNaming slot header bytes d e → (s k : ℕ) → s ≢ slot → e s k ≡ d s k
  stored-beside header bytes (inl storing) s k other = storing.others s k other
  stored-beside header bytes (inr naming) s k other = naming.beside s k (inl other) ∙ naming.stored.others s k other

-- what is asked of the members, for a section
record IsToStore (scope : Scope) (told : Ledger) (span : Span) (bytes : List ℕ) (d : Disk) (members : Members) : Type 0 where
  none : HasNoSection scope members d
  section : IsSectionOf members told.values span bytes

pub sections-steady : (sound : Type 0) → SectionsStaySteady sound
sections-steady sound scope given told members slot span bytes d e there sixteen some none section storing steady =
    steady-kept sound scope given told d e some (IsToStore scope told span bytes d)
    (λ former gone to right. (
      beside-no-newer scope slot there d e (stored-beside scope slot there d e (header_of scope.uuid span) bytes storing),
      sections-right sound scope given told former slot span bytes d e there sixteen some (λ header may. to.none header may)
          (record { next = to.section.next; size = to.section.size; allowed = to.section.allowed }) storing right,
    )) members (record { none = none; section = section }) steady

pub clearing-steady : (sound : Type 0) → ClearingStaysSteady sound
clearing-steady sound scope given told members slot plain d e there sixteen some held shut heading steady =
    steady-kept sound scope given told d e some (λ (m : Members). open_by scope m.newest plain ≡ None)
    (λ former gone is right. (
      beside-no-newer scope slot there d e heading.others,
      clearing-right sound scope given told former slot plain d e there sixteen some held is heading right,
    )) members shut steady

-- ---- rows

-- places on the slots that hold roles
abbrev AreOnRows : Members → (ℕ → ℕ → Type 0) → Type 0
AreOnRows m P = (s k : ℕ) → P s k → (role : ℕ) × (row : ℕ) × (holder (role_state (reading_of m) role) ≡ Some s) × (k ≡ data_offset_of (reading_of m) s + row)

-- lie behind the superblocks
rows-no-newer : (scope : Scope) (given : Given) (m : Members) (P : ℕ → ℕ → Type 0) (d e : Disk) → ArePlaced scope given m → AreOnRows m P → IsWrittenAt P d e → AreNoNewer scope d e
rows-no-newer scope given m P d e placed on written = record { eighth = λ s v seen may. at s 8 v (omega arith) may; ninth = λ s v seen may. at s 9 v (omega arith) may }
  where
    at : (s k : ℕ) (v : Sector) → k < 10 → IsIn (e s k) v → IsIn (d s k) v
    at s k v low may = elim (written s k) [
      | inl less ↦ less v may
      | inr there ↦ absurd (
          let found = on s k there in
          let far = placed.behind found.0 s found.2 in
          let place = found.3 in
          omega (arith, far, place, low))
    ]

-- what is written on the members without lost slots is written on the former ones
former-copying : (former : Members) (gone : ℕ) (span : Span) (d e : Disk) → IsCopying (members_without gone former) span d e → IsCopying former span d e
former-copying former gone span d e copying s k = elim (copying s k) [
  | inl less ↦ inl less
  | inr there ↦ inr (record { role = there.role; row = there.row; held = holder-after former gone there.role s there.held; written = there.written; place = there.place })
]

former-past : (former : Members) (gone : ℕ) (d e : Disk) → IsWrittenAt (IsPastPlace (members_without gone former)) d e → IsWrittenAt (IsPastPlace former) d e
former-past former gone d e written s k = elim (written s k) [
  | inl less ↦ inl less
  | inr there ↦ inr (record { role = there.role; row = there.row; held = holder-after former gone there.role s there.held; past = there.past; place = there.place })
]

-- what is asked of the members, for a copy and for zeros
record IsToCopy (scope : Scope) (span : Span) (d e : Disk) (members : Members) : Type 0 where
  able : IsCopyable scope members span d
  copying : IsCopying members span d e

record IsToZero (d e : Disk) (members : Members) : Type 0 where
  active : is_reshaping members.newest ≡ true
  none : next_window members.newest ≡ None
  last : IsAtEnd members.newest
  written : IsWrittenAt (IsPastPlace members) d e

-- the same is told
pub told-alike : (told : Ledger) → IsMoreTold told told
told-alike told = record { size = refl; values = λ x lt v may. may; gone = λ role is. is; unclean = λ is. is; reshaping = λ is. is; carried = λ slot number is. is }

module _ (sound : Type 0) (scope : Scope) (given : Given) (told : Ledger) (d e : Disk) (some : IsSomewhere d) where
  copied-steady : (span : Span) (members : Members) → IsCopyable scope members span d → IsCopying members span d e
      → IsSteady sound scope given told members d → IsSteady sound scope given told members e
  copied-steady span members able copying steady =
      steady-kept sound scope given told d e some (IsToCopy scope span d e)
      (λ former gone to right.
      let was = former-copying former gone span d e to.copying in (
        rows-no-newer scope given former (IsWindowPlace former span) d e right.placed (λ s k there. (there.role, there.row, there.held, there.place)) was,
        copying-right sound scope given told former span d e some (record { next = to.able.next; kept = to.able.kept }) was right,
      )) members (record { able = able; copying = copying }) steady

  zeroed-steady : (members : Members) → IsToZero d e members → IsSteady sound scope given told members d → IsSteady sound scope given told members e
  zeroed-steady members zeroing steady =
      steady-kept sound scope given told d e some (IsToZero d e)
      (λ former gone to right.
      let was = former-past former gone d e to.written in (
        rows-no-newer scope given former (IsPastPlace former) d e right.placed (λ s k there. (there.role, there.row, there.held, there.place)) was,
        zeroing-right sound scope given told former d e some to.active to.none to.last was right,
      )) members zeroing steady

-- more slots are lost of a steady array
losing-steady : (sound : Type 0) (scope : Scope) (given : Given) (told : Ledger) (lost : ℕ) (members : Members) (d : Disk)
    → IsSteady sound scope given told members d → IsSteady sound scope given told (members_without lost members) d
losing-steady sound scope given told lost members d steady = record {
  former = steady.former;
  since = since-more scope steady.former members lost d steady.since;
  right = steady.right;
  numbers = steady.numbers;
}

pub copying-steady : (sound : Type 0) → CopyingStaysSteady sound
copying-steady sound scope given told members span lost d e some able copying steady =
    losing-steady sound scope given told lost members e (copied-steady sound scope given told d e some span members able copying steady)

pub zeroing-steady : (sound : Type 0) → ZeroingStaysSteady sound
zeroing-steady sound scope given told members lost d e some active none last written steady =
    losing-steady sound scope given told lost members e
    (zeroed-steady sound scope given told d e some members (record { active = active; none = none; last = last; written = written }) steady)

-- ---- where no live slot is left

-- nothing is written then
spent-fewer : (given : Given) (members : Members) (P : ℕ → ℕ → Type 0) (d e : Disk) → AreHolders given members → AreUnlost members → (HasLiveSlot members → ⊥)
    → AreOnRows members P → IsWrittenAt P d e → AreFewer d e
spent-fewer given members P d e holders unlost none on written s k v may = elim (written s k) [
  | inl less ↦ less v may
  | inr there ↦ absurd (
      let found = on s k there in
      none (s, live-holder given members false found.0 s holders found.2, unlost found.0 s found.2))
]

pub copying-safe : (sound : Type 0) → CopyingStaysSafe sound
copying-safe sound scope given told members span lost d e holders unlost some able copying (inl steady) =
    inl (copying-steady sound scope given told members span lost d e some able copying steady)
copying-safe sound scope given told members span lost d e holders unlost some able copying (inr spent) =
    losing-stays-safe sound scope given lost told told members e (told-alike told) (inr (record {
      right = views-fewer sound scope given told d e
          (spent-fewer given members (IsWindowPlace members span) d e holders unlost spent.none (λ s k there. (there.role, there.row, there.held, there.place)) copying) spent.right;
      none = spent.none;
    }))

pub zeroing-safe : (sound : Type 0) → ZeroingStaysSafe sound
zeroing-safe sound scope given told members lost d e holders unlost some active none last written (inl steady) =
    inl (zeroing-steady sound scope given told members lost d e some active none last written steady)
zeroing-safe sound scope given told members lost d e holders unlost some active none last written (inr spent) =
    losing-stays-safe sound scope given lost told told members e (told-alike told) (inr (record {
      right = views-fewer sound scope given told d e
          (spent-fewer given members (IsPastPlace members) d e holders unlost spent.none (λ s k there. (there.role, there.row, there.held, there.place)) written) spent.right;
      none = spent.none;
    }))
