-- An array of one shape stays steady where the backup's header is cleared, and no section is named behind it.
use Rattle.std.proofs.Common.{◌≡◌, ◌≢◌, ◌⊎◌, inl, inr, ℕ, ◌≤◌, ◌&&◌, Bool, true, false, cond, List, [], ◌∷◌, length, take, slice_index_or, Option, Some, None, unwrap_or, refl, sym, ◌∙◌, ap, subst, le_refl, arith}
use Rattle.std.specs.Prelude.{⊤}
use Rattle.std.proofs.lemmas.Bool.{cases_eq}
use Rattle.std.proofs.lemmas.List.{take_all}
use Rattle.sb_safe_updates.specs.raid_types_Sectors.{Sector}
use Rattle.sb_safe_updates.specs.sb_codec_the_Sb.{Sb}
use Rattle.sb_safe_updates.specs.sb_codec_Superblock.{superblock_in}
use Rattle.sb_safe_updates.specs.bank_the_Operation.{Operation}
use Rattle.sb_safe_updates.specs.bank_Given.{Given}
use Rattle.sb_safe_updates.specs.bank_Tape.{Contents, EachMark, IsIn, Kept, disk, value_after}
use Rattle.sb_safe_updates.proofs.bank_Laws.{choices-present, kept_in}
use Rattle.sb_safe_updates.proofs.bank_Marks.{each_mark-map, each_mark-then}
use Rattle.sb_safe_updates.specs.sb_specs_the_Members.{Members}
use Rattle.sb_safe_updates.specs.sb_specs_Reading.{Scope, is_seen, is_reshaping, of_array}
use Rattle.sb_safe_updates.specs.sb_specs_Held.{MayRead}
use Rattle.sb_safe_updates.specs.stripe_row_Rows.{present}
use Rattle.reshape_sb_updates.specs.bank_backup_Section.{is_header_of, names_span}
use Rattle.reshape_sb_updates.specs.bank_backup_Written.{cleared_header}
use Rattle.reshape_sb_updates.specs.bank_backup_Storing.{IsHeading, IsHeaded}
use Rattle.reshape_sb_updates.proofs.bank_backup_WrittenLaws.{cleared-none}
use Rattle.sb_safe_updates.specs.crash_views_Views.{Disk, Ledger}
use Rattle.sb_safe_updates.specs.crash_views_Windows.{IsSomewhere}
use Rattle.sb_safe_updates.proofs.crash_views_BackupLaws.{clearing-right}
use Rattle.sb_safe_updates.specs.crash_safety_laws_Carried.{AreCarried}
use Rattle.sb_safe_updates.specs.crash_safety_laws_Safety.{HasLiveSlot, HasRoomLeft}
use Rattle.sb_safe_updates.specs.crash_safety_laws_Steady.{IsSteady, IsSafeNow, AreViewsRight}
use Rattle.sb_safe_updates.specs.crash_safety_laws_Changing.{AreEitherRight, IsSafeChange}
use Rattle.sb_safe_updates.proofs.crash_safety_laws_Drawn.{disk-somewhere}
use Rattle.sb_safe_updates.proofs.crash_safety_laws_HeldKept.{AreNoNewer, held-fewer}
use Rattle.sb_safe_updates.proofs.crash_safety_laws_Steady.{steady-seen}
use Rattle.sb_safe_updates.proofs.crash_safety_laws_Stretch.{seen-own}
use Rattle.reshape_sb_updates.specs.crash_reshape_laws_Ends.{IsCleared}
use Rattle.reshape_sb_updates.proofs.crash_reshape_laws_EndLaws.{still-plain}

-- ---- a header is cleared

module _ (scope : Scope) (slot : ℕ) (there : scope.backup ≡ Some slot) (d e : Disk) (heading : IsHeading slot (cleared_header scope.uuid) d e) where
  -- the superblocks, which aren't looked for in the backup, have nothing new
  none-newer : AreNoNewer scope d e
  none-newer = record { eighth = λ s v seen may. at s 8 v seen may; ninth = λ s v seen may. at s 9 v seen may }
    where
      at : (s k : ℕ) (v : Sector) → is_seen scope s ≡ true → IsIn (e s k) v → IsIn (d s k) v
      at s k v seen may = elim (cases_eq s slot) [
        | inl same ↦ absurd (seen-own scope s seen (there ∙ ap (λ (a : ℕ). Some a) (sym same)))
        | inr other ↦ subst (λ (l : List Sector). IsIn l v) (heading.others s k other) may
      ]

  -- nor the device numbers that slots may show
  carried-then : (told : ℕ → ℕ → Bool) (own : List (Option Sb)) → AreCarried scope told own d → AreCarried scope told own e
  carried-then told own are = record { kept = are.kept; shown = λ s sb may. by s sb may (is_seen scope s) refl }
    where
      by : (s : ℕ) (sb : Sb) → MayRead scope e s (Some sb) → (b : Bool) → is_seen scope s ≡ b → told s sb.dev_number ≡ true
      by s sb may true seen = are.shown s sb (record { at = may.at; eighth = none-newer.eighth s (may.at 8) seen may.eighth; ninth = none-newer.ninth s (may.at 9) seen may.ninth; is = may.is })
      by s sb may false unseen = absurd (
          let none : ◌≡◌ {A = Option Sb} None (Some sb) = sym (λ i. of_array scope.uuid (cond (unseen i) (superblock_in (scope.sizes.sectors s) may.at) None)) ∙ may.is in cc)

  cleared-steady : (sound : Type 0) (given : Given) (told : Ledger) (m : Members) → length scope.uuid ≡ 16 → IsSomewhere d → is_reshaping m.newest ≡ false
      → IsSteady sound scope given told m d → IsSteady sound scope given told m e
  cleared-steady sound given told m sixteen some still steady = record {
    former = steady.former;
    since = record { gone = steady.since.gone; since = steady.since.since; held = held-fewer scope d e some none-newer steady.former steady.since.held };
    right = clearing-right sound scope given told steady.former slot ((some slot 0).0) d e there sixteen some ((some slot 0).1)
        (still-plain scope steady.former d (ap (λ (n : Members). is_reshaping n.newest) (sym steady.since.since) ∙ still) ((some slot 0).0)
        (subst (λ (s : ℕ). IsIn (d s 0) ((some slot 0).0)) (sym (ap (λ (o : Option ℕ). unwrap_or o 0) there)) ((some slot 0).1)))
        heading steady.right;
    numbers = carried-then told.carried steady.former.own steady.numbers;
  }

-- a header that was cleared names no section, nor does one that stays so
pub cleared-then : (scope : Scope) (slot : ℕ) (d mid e : Disk) → scope.backup ≡ Some slot → length scope.uuid ≡ 16 → IsHeaded slot (cleared_header scope.uuid) d mid → Kept (mid slot 0) (e slot 0) → IsCleared scope e
cleared-then scope slot d mid e there sixteen headed kept backup header here may span =
    let same : backup ≡ slot = (let both : ◌≡◌ {A = Option ℕ} (Some backup) (Some slot) = sym here ∙ there in cc) in
    let was : IsIn (mid slot 0) header = kept_in (mid slot 0) (e slot 0) header kept (subst (λ (s : ℕ). IsIn (e s 0) header) same may) in
    let is : header ≡ cleared_header scope.uuid = only header (cleared_header scope.uuid) (subst (λ (l : List Sector). IsIn l header) headed.header_is was) in
    ap (λ (h : Sector). is_header_of scope.uuid h && names_span h span) is
    ∙ ap (λ (b : Bool). is_header_of scope.uuid (cleared_header scope.uuid) && b) (cleared-none scope.uuid span sixteen) ∙ never (is_header_of scope.uuid (cleared_header scope.uuid))
  where
    only : (v w : Sector) → IsIn (w ∷ []) v → v ≡ w
    only v w (inl is) = is
    only v w (inr none) = absurd none

    never : (b : Bool) → (b && false) ≡ false
    never true = refl
    never false = refl

-- ---- at each mark

module _ (sound : Type 0) (scope : Scope) (given : Given) (told : Ledger) (m : Members) (slot : ℕ) (before mid : List Operation) (there : scope.backup ≡ Some slot) (sixteen : length scope.uuid ≡ 16)
    (still : is_reshaping m.newest ≡ false) (live : HasLiveSlot m) (marks : EachMark ⊤ given.start before mid (IsHeading slot (cleared_header scope.uuid) (disk given.start before)))
    (safe : IsSafeNow sound scope given told m (disk given.start before)) where
  pub steady-before : IsSteady sound scope given told m (disk given.start before)
  steady-before = of safe
    where
      of : IsSafeNow sound scope given told m (disk given.start before) → IsSteady sound scope given told m (disk given.start before)
      of (inl steady) = steady
      of (inr spent) = absurd (spent.none live)

  steady-at : (n : ℕ) → length before ≤ n → n ≤ length mid → IsSteady sound scope given told m (disk given.start (take n mid))
  steady-at n low high = cleared-steady scope slot there (disk given.start before) (disk given.start (take n mid)) (marks.each tt n low high) sound given told m sixteen (disk-somewhere given before) still steady-before

  pub views-cleared : EachMark ⊤ given.start before mid (AreViewsRight sound scope given told)
  views-cleared = record {
    longer = marks.longer;
    earlier = marks.earlier;
    each = λ tell n low high. steady-seen sound scope given told m (take n mid) (steady-at n low high);
  }

  pub steady-then : IsSteady sound scope given told m (disk given.start mid)
  steady-then = subst (λ (tape : List Operation). IsSteady sound scope given told m (disk given.start tape)) (take_all (length mid) mid (le_refl (length mid)))
      (steady-at (length mid) (marks.longer tt) (le_refl (length mid)))

-- ---- the sectors

-- the value that a sector has, where a stop may leave what it might before
pub present-kept : (given : Given) (before after : List Operation) (s k : ℕ) → Kept (disk given.start before s k) (disk given.start after s k) → present given after s k ≡ present given before s k
present-kept given before after s k kept =
    head-kept (present given before s k) (present given after s k) (disk given.start before s k) (disk given.start after s k) (first before) (first after) kept
  where
    head-kept : (v w : Sector) (old now : List Sector) → take 1 old ≡ v ∷ [] → take 1 now ≡ w ∷ [] → Kept old now → w ≡ v
    head-kept v w old now was is (inl same) = ap (λ (l : List Sector). slice_index_or l 0 []) (sym is ∙ ap (λ (l : List Sector). take 1 l) same ∙ was)
    head-kept v w old now was is (inr one) = ap (λ (l : List Sector). slice_index_or l 0 []) (sym is ∙ ap (λ (l : List Sector). take 1 l) one ∙ twice old ∙ was)
      where
        twice : (l : List Sector) → take 1 (take 1 l) ≡ take 1 l
        twice [] = refl
        twice (x ∷ l) = refl

    first : (tape : List Operation) → take 1 (disk given.start tape s k) ≡ present given tape s k ∷ []
    first tape = choices-present s k (given.start s k) [] tape
        ∙ ap (λ (l : List Operation). value_after s k (given.start s k) l ∷ []) (sym (take_all (length tape) tape (le_refl (length tape))))

-- ---- stretches

-- what holds at each mark holds at the end
pub at-end : {tells : Type 0} {start : Contents} {before after : List Operation} {P : Disk → Type 0} → EachMark tells start before after P → tells → P (disk start after)
at-end {start = start} {after = after} {P = P} marks tell = subst (λ (tape : List Operation). P (disk start tape)) (take_all (length after) after (le_refl (length after)))
    (marks.each tell (length after) (marks.longer tell) (le_refl (length after)))

-- a header that is written leaves what other sectors had
pub heading-kept : (slot : ℕ) (header : Sector) (d e : Disk) → IsHeading slot header d e → (s k : ℕ) → (s ≢ slot) ⊎ (k ≢ 0) → Kept (d s k) (e s k)
heading-kept slot header d e heading s k (inl other) = inl (heading.others s k other)
heading-kept slot header d e heading s k (inr behind) = elim (cases_eq s slot) [
  | inl same ↦ subst (λ (t : ℕ). Kept (d t k) (e t k)) (sym same) (heading.behind k behind)
  | inr other ↦ inl (heading.others s k other)
]

-- the marks of the call, by the array's uuid
pub marks-of : {tells : Type 0} (scope : Scope) (start : Contents) (before mid : List Operation) (slot : ℕ) (uuid : List ℕ) (d : Disk) → tells → scope.uuid ≡ uuid
    → EachMark tells start before mid (IsHeading slot (cleared_header uuid) d) → EachMark ⊤ start before mid (IsHeading slot (cleared_header scope.uuid) d)
marks-of {tells} scope start before mid slot uuid d tell array marks =
    subst (λ (u : List ℕ). EachMark ⊤ start before mid (IsHeading slot (cleared_header u) d)) (sym array)
    (record { longer = λ t. marks.longer tell; earlier = λ t. marks.earlier tell; each = λ t. marks.each tell })

-- a stretch before a change
pub change-then : (sound : Type 0) (scope : Scope) (given : Given) (told more : Ledger) (new : Members) (before mid after : List Operation) → EachMark ⊤ given.start before mid (AreViewsRight sound scope given told)
    → IsSafeChange sound scope given told more new mid after → IsSafeChange sound scope given told more new before after
change-then sound scope given told more new before mid after views change = record {
  marks = each_mark-then (each_mark-map (AreEitherRight sound scope given told more) (λ tell d right c drawn. inl (right c drawn)) views) change.marks;
  next = change.next;
}

-- there is room behind it
pub room-longer : (m : Members) (before mid after : List Operation) → length before ≤ length mid → HasRoomLeft m before after → HasRoomLeft m mid after
room-longer m before mid after longer room live = let first = room live in omega (arith, longer, first)
