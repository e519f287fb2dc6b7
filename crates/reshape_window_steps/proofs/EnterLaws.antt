-- What entering a window leaves: its sectors, its section, and an array that is safe.
use Rattle.std.proofs.Common.{◌≡◌, inl, inr, ℕ, ◌+◌, ◌-◌, ◌*◌, ◌<◌, ◌≤◌, ◌⊎◌, Bool, true, false, List, [], length, take, drop, Some, Result, Ok, Err, OnOk, refl, sym, ◌∙◌, ap, subst, arith, append-nil}
use Rattle.std.specs.Prelude.{◌^◌, ⊤}
use Rattle.std.proofs.lemmas.List.{take_all}
use Rattle.reshape_window_rows.specs.raid_types_the_Shape.{Shape}
use Rattle.reshape_window_rows.specs.raid_types_the_Span.{Span}
use Rattle.reshape_window_rows.specs.raid_types_Sectors.{Sector}
use Rattle.reshape_window_rows.specs.raid_types_Shapes.{is_valid_shape}
use Rattle.reshape_window_rows.specs.bank_the_Operation.{Operation}
use Rattle.reshape_window_rows.specs.bank_Given.{Given, NeverFalls}
use Rattle.reshape_window_rows.specs.bank_Tape.{Contents, IsIn, EachMark, disk}
use Rattle.reshape_window_rows.proofs.bank_Causes.{faulted_longer}
use Rattle.reshape_window_rows.proofs.bank_Marks.{each_mark-along}
use Rattle.reshape_window_rows.specs.reshape_geometry_Geometry.{is_critical}
use Rattle.reshape_window_rows.specs.raid_parity_Rows.{sector_of}
use Rattle.reshape_window_rows.specs.sb_codec_the_Sb.{Sb}
use Rattle.reshape_window_rows.specs.sb_specs_the_Members.{Members}
use Rattle.reshape_window_rows.specs.sb_specs_Reading.{Scope, Reading, is_backward, shape_of, final_shape, list_length, next_window}
use Rattle.reshape_window_rows.specs.stripe_row_Rows.{reading_of, members_without, IsTolerated}
use Rattle.reshape_window_rows.proofs.stripe_row_Losses.{holder-after}
use Rattle.reshape_window_rows.specs.stripe_list_the_Unavailable.{Unavailable}
use Rattle.reshape_window_rows.specs.stripe_list_the_Unavailable_TheVariants.{TooManyMissing, NotResynced}
use Rattle.reshape_window_rows.specs.stripe_list_Calls.{AreLost, IsAnswer}
use Rattle.reshape_window_rows.specs.bank_backup_Written.{header_of}
use Rattle.reshape_window_rows.specs.bank_backup_Storing.{nth_sector, IsStoringOrNaming}
use Rattle.reshape_window_rows.specs.bank_backup_Storing as backup
use Rattle.reshape_window_rows.specs.crash_views_Regions.{open_by, AreShapesFit}
use Rattle.reshape_window_rows.specs.crash_views_Views.{Disk, Ledger}
use Rattle.reshape_window_rows.specs.crash_views_Windows.{HasNoSection, IsCopyable}
use Rattle.reshape_window_rows.specs.crash_views_Backups.{IsSectionOf, IsOpenUnderAll, IsOpenOrNot, HasSectors}
use Rattle.reshape_window_rows.proofs.crash_views_BackupLaws.{naming-unsure, named-is-open}
use Rattle.reshape_window_rows.proofs.crash_views_Stands.{window-inside}
use Rattle.reshape_window_rows.specs.crash_safety_laws_Safety.{HasLiveSlot}
use Rattle.reshape_window_rows.specs.crash_safety_laws_Steady.{IsSteady, IsSafeNow, IsSafeStretch, AreHolders, AreUnlost}
use Rattle.reshape_window_rows.proofs.crash_safety_laws_Drawn.{disk-somewhere}
use Rattle.reshape_window_rows.proofs.crash_safety_laws_Spent.{live-holder}
use Rattle.reshape_window_rows.proofs.crash_safety_laws_Steady.{steady-seen, safe-is-seen, losing-stays-safe}
use Rattle.reshape_window_rows.proofs.array_members_LiveLeft.{some-held}
use Rattle.reshape_window_rows.proofs.array_members_MemberLaws.{unlost-without}
use Rattle.reshape_window_rows.specs.Copies.{HasWindow, IsRoomFor}
use Rattle.reshape_window_steps.specs.declared.entering.NotEntered.{NotEntered}
use Rattle.reshape_window_steps.specs.declared.entering.NotEntered.TheVariants.{Unread, Unsaved}
use Rattle.reshape_window_steps.specs.Entering.{IsPassedOn, IsRead, IsEntered, IsBackupFor}
use Rattle.reshape_window_steps.proofs.SteadyLaws.{sections-steady, told-alike}

-- ---- the window

nth-is : (bytes : List ℕ) (i : ℕ) → nth_sector bytes i ≡ sector_of bytes i
nth-is bytes i = let size : 512 * i + 512 - 512 * i ≡ 512 = omega arith in ap (λ (n : ℕ). take n (drop (512 * i) bytes)) (sym size)

-- what was read is the window's section, of allowed values
pub read-section : (newest : Sb) (m : Members) → m.newest ≡ newest → AreShapesFit newest → (span : Span) (bytes : List ℕ) (list : ℕ → Sector) (values : ℕ → List Sector) → next_window newest ≡ Some span
    → IsRoomFor span bytes → HasWindow span bytes list → ((x : ℕ) → x < list_length newest → IsIn (values x) (list x)) → IsSectionOf m values span bytes
read-section newest m same fit span bytes list values next room has allowed = record {
  next = ap next_window same ∙ next;
  size = omega (arith, room);
  allowed = λ x low high.
      let inside = window-inside newest fit span next in
      subst (λ (v : Sector). IsIn (values x) v) (sym (nth-is bytes (x - span.lo) ∙ has x (low, high))) (allowed x (omega (arith, high, inside)));
}

-- ---- the section

pub opened : (scope : Scope) (m : Members) (slot : ℕ) (uuid : List ℕ) (span : Span) (bytes : List ℕ) (d e : Disk) → length uuid ≡ 16 → next_window m.newest ≡ Some span → span.lo < span.hi → span.hi < 2 ^ 64
    → IsBackupFor scope slot uuid span → backup.IsNamed slot (header_of uuid span) bytes d e → IsOpenUnderAll scope m span e × HasSectors scope bytes e
opened scope m slot uuid span bytes d e sixteen next filled small its named =
    named-is-open scope m slot span bytes d e its.backup its.there (ap length its.array ∙ sixteen) next filled small its.room
    (subst (λ (u : List ℕ). backup.IsNamed slot (header_of u span) bytes d e) (sym its.array) named)

pub unsure : (scope : Scope) (m : Members) (slot : ℕ) (uuid : List ℕ) (span : Span) (bytes : List ℕ) (d e : Disk) → length uuid ≡ 16 → next_window m.newest ≡ Some span → span.lo < span.hi → span.hi < 2 ^ 64
    → IsBackupFor scope slot uuid span → HasNoSection scope m d → backup.IsNaming slot (header_of uuid span) bytes d e → IsOpenOrNot scope m span e × HasSectors scope bytes e
unsure scope m slot uuid span bytes d e sixteen next filled small its none naming =
    naming-unsure scope m slot span bytes d e its.backup its.there (ap length its.array ∙ sixteen) next filled small its.room none
    (subst (λ (u : List ℕ). backup.IsNaming slot (header_of u span) bytes d e) (sym its.array) naming)

abbrev pub critical_by : Sb → Span → Bool
critical_by newest span = is_critical (shape_of newest) (final_shape newest) newest.size (is_backward newest) span

pub copyable : (scope : Scope) (newest : Sb) (m : Members) → m.newest ≡ newest → (span : Span) → next_window newest ≡ Some span → (sectioned : Bool) → (critical_by newest span ≡ true → sectioned ≡ true)
    → (e : Disk) → (sectioned ≡ true → IsOpenUnderAll scope m span e) → IsCopyable scope m span e
copyable scope newest m same span next true critical e active = record { next = ap next_window same ∙ next; kept = inl (active refl) }
copyable scope newest m same span next false critical e active = record { next = ap next_window same ∙ next; kept = inr (ap (λ (sb : Sb). critical_by sb span) same ∙ plain (critical_by newest span) refl) }
  where
    plain : (b : Bool) → critical_by newest span ≡ b → critical_by newest span ≡ false
    plain true is = absurd (let no = critical is in cc)
    plain false is = is

-- ---- answers

-- a section was to be stored, or not
pub read-or : {T : Type 0} (answer : Result T NotEntered) (sectioned : Bool) → (sectioned ≡ true → IsRead answer → ⊥) ⊎ ((sectioned ≡ true) × IsRead answer)
read-or (Ok all) true = inr (refl, tt)
read-or (Ok all) false = inl (λ is done. absurd (cc))
read-or (Err (Unsaved fault)) true = inr (refl, tt)
read-or (Err (Unsaved fault)) false = inl (λ is done. absurd (cc))
read-or (Err (Unread why)) sectioned = inl (λ is done. done)

pub entered : {T U : Type 0} (shape : Shape) (synced : Bool) (r : Reading) (asked : ℕ → Type 0) (read : Result T Unavailable) (answer : Result U NotEntered)
    → IsPassedOn read answer → IsAnswer shape synced r asked read → IsEntered shape synced r asked answer
entered shape synced r asked (Ok done) (Ok all) passed few = few
entered shape synced r asked (Ok done) (Err (Unsaved fault)) passed few = few
entered shape synced r asked (Ok done) (Err (Unread why)) passed few = absurd passed
entered shape synced r asked (Err TooManyMissing) answer is many = subst (IsEntered shape synced r asked) (sym is) many
entered shape synced r asked (Err (NotResynced role)) answer is lacks = subst (IsEntered shape synced r asked) (sym is) lacks

pub was-read : {T U P : Type 0} (read : Result T Unavailable) (answer : Result U NotEntered) → IsPassedOn read answer → IsRead answer → OnOk read P → P
was-read (Ok done) answer passed is on = on
was-read (Err why) answer passed is on = absurd (subst IsRead passed is)

pub tolerated : {U : Type 0} (shape : Shape) (synced : Bool) (r : Reading) (asked : ℕ → Type 0) (answer : Result U NotEntered) → IsRead answer → IsEntered shape synced r asked answer → IsTolerated r shape
tolerated shape synced r asked (Ok all) is few = few
tolerated shape synced r asked (Err (Unsaved fault)) is few = few
tolerated shape synced r asked (Err (Unread why)) is few = absurd is

pub lost-later : (shape : Shape) (old new : Members) (lost : ℕ) (a b c : ℕ → ℕ) → AreLost shape old new lost a b → NeverFalls b c → AreLost shape old new lost a c
lost-later shape old new lost a b c are never = record {
  members = are.members;
  failed = λ s is.
      let f = are.failed s is in
      let later = never s in (faulted_longer s a a b c (omega arith) later (are.never_falls s) f.0, f.1, f.2, f.3);
  never_falls = λ s. let first = are.never_falls s in let second = never s in omega (arith, first, second);
}

-- ---- marks

-- nothing happened
pub stays : {tells : Type 0} {P : Disk → Type 0} (start : Contents) (before : List Operation) → P (disk start before) → EachMark tells start before before P
stays {tells = tells} {P = P} start before held = subst (λ (l : List Operation). EachMark tells start before l P) (append-nil before) (each_mark-along tells start before [] P held)

pub storing-none : (slot : ℕ) (bytes : List ℕ) (d : Disk) → backup.IsStoring slot bytes d d
storing-none slot bytes d = record { others = λ s k other. refl; header_is = inl refl; outside = λ k out. inl refl; inside = λ i lt v may. inl may }

-- ---- the members that are left

pub none-still : (scope : Scope) (old new : Members) (d : Disk) → new.newest ≡ old.newest → HasNoSection scope old d → HasNoSection scope new d
none-still scope old new d same none header may = ap (λ (sb : Sb). open_by scope sb header) same ∙ none header may

-- where they are enough, a live slot is left
pub left-live : (given : Given) (old : Members) (lost : ℕ) → AreHolders given old → AreUnlost old → is_valid_shape (shape_of old.newest) ≡ true
    → IsTolerated (reading_of (members_without lost old)) (shape_of old.newest) → HasLiveSlot (members_without lost old)
left-live given old lost holders unlost valid few =
    let held = some-held (members_without lost old) valid few in (
      held.1,
      live-holder given (members_without lost old) false held.0 held.1
          (λ role slot is. let h = holders role slot (holder-after old lost role slot is) in record { small = h.small; known = h.known; short = h.short; within = h.within }) held.2,
      unlost-without old lost unlost held.0 held.1 held.2,
    )

-- ---- safety

module _ (sound : Type 0) (scope : Scope) (given : Given) (told : Ledger) (old new : Members) (lost : ℕ) (without : new ≡ members_without lost old) (before after : List Operation) where
  lost-safe : (tape : List Operation) → IsSafeNow sound scope given told old (disk given.start tape) → IsSafeNow sound scope given told new (disk given.start tape)
  lost-safe tape safe = subst (λ (m : Members). IsSafeNow sound scope given told m (disk given.start tape)) (sym without)
      (losing-stays-safe sound scope given lost told told old (disk given.start tape) (told-alike told) safe)

  -- where nothing was written
  pub read-safe : after ≡ before → IsSafeNow sound scope given told old (disk given.start before) → IsSafeStretch sound scope given told new before after
  read-safe same safe = subst (λ (tape : List Operation). IsSafeStretch sound scope given told new before tape) (sym same) (record {
    marks = stays given.start before (safe-is-seen sound scope given told old before safe);
    next = lost-safe before safe;
  })

  -- where a section was stored
  module _ (slot : ℕ) (span : Span) (bytes : List ℕ) (there : scope.backup ≡ Some slot) (sixteen : length scope.uuid ≡ 16) (none : HasNoSection scope new (disk given.start before)) (section : IsSectionOf new told.values span bytes)
      (marks : EachMark ⊤ given.start before after (IsStoringOrNaming slot (header_of scope.uuid span) bytes (disk given.start before))) where
    steady-at : IsSteady sound scope given told new (disk given.start before) → (m : ℕ) → length before ≤ m → m ≤ length after → IsSteady sound scope given told new (disk given.start (take m after))
    steady-at steady m low high =
        sections-steady sound scope given told new slot span bytes (disk given.start before) (disk given.start (take m after)) there sixteen (disk-somewhere given before) none section
        (marks.each tt m low high) steady

    pub saved-safe : HasLiveSlot new → IsSafeNow sound scope given told old (disk given.start before) → IsSafeStretch sound scope given told new before after
    saved-safe live safe = of (lost-safe before safe)
      where
        of : IsSafeNow sound scope given told new (disk given.start before) → IsSafeStretch sound scope given told new before after
        of (inl steady) = record {
          marks = record {
            longer = marks.longer;
            earlier = marks.earlier;
            each = λ tell m low high. steady-seen sound scope given told new (take m after) (steady-at steady m low high);
          };
          next = inl (subst (λ (tape : List Operation). IsSteady sound scope given told new (disk given.start tape)) (take_all (length after) after (omega arith)) (steady-at steady (length after) (marks.longer tt) (omega arith)));
        }
        of (inr spent) = absurd (spent.none live)
