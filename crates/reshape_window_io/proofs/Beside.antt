-- What is read beside an open window: the bytes of its three parts, and the list once slots were lost.
use Rattle.std.proofs.Common.{◌≡◌, inl, inr, ℕ, ◌+◌, ◌-◌, ◌*◌, ◌<◌, ◌≤◌, false, List, [], length, take, drop, max, min, Option, Some, None, refl, sym, ◌∙◌, ap, subst, arith}
use Rattle.std.specs.Prelude.{MatchOption, ⊤}
use borrow.Rule.Slice.PartMut.{put_mid, put_same, same_len_mid}
use Rattle.stripe_region_read.specs.raid_types_Sectors.{Sector}
use Rattle.stripe_region_read.specs.raid_types_the_Shape.{Shape}
use Rattle.stripe_region_read.specs.raid_types_the_Span.{Span}
use Rattle.stripe_region_read.specs.raid_types_the_Refusal.{Refusal}
use Rattle.stripe_region_read.specs.sb_codec_the_Sb.{Sb}
use Rattle.stripe_region_read.specs.bank_Given.{Given}
use Rattle.stripe_region_read.specs.bank_Tape.{Contents}
use Rattle.stripe_region_read.specs.raid_layout_Layout.{place}
use Rattle.stripe_region_read.specs.raid_parity_Rows.{sector_of}
use Rattle.stripe_region_read.specs.sb_specs_the_Members.{Members}
use Rattle.stripe_region_read.specs.sb_specs_Reading.{data_offset_of}
use Rattle.reshape_window_steps.specs.stripe_row_Rows.{reading_of, held_slot}
use Rattle.reshape_window_steps.specs.stripe_list_Full.{RowStands}
use Rattle.reshape_window_steps.specs.history_Stands.{covers, shape_for}
use Rattle.reshape_window_steps.specs.crash_views_Regions.{place_by}
use Rattle.reshape_window_steps.specs.crash_views_Windows.{IsShown}
use Rattle.reshape_window_steps.proofs.crash_views_UnderWay.{in-or-out}
use Rattle.reshape_window_steps.specs.array_members_Placed.{IsPlaced}
use Rattle.reshape_window_steps.specs.array_members_Moving.{IsMoved}
use Rattle.reshape_window_steps.proofs.array_members_Fit.{list-alike, for-alike}
use Rattle.reshape_window_steps.proofs.array_members_HeldRows.{held-moved}
use Rattle.reshape_window_steps.proofs.array_members_LackingLists.{row-moved}
use Rattle.stripe_region_read.specs.Stretches.{IsShapeOf, ListStandsIn, RowsStandIn, IsListUnread}
use Rattle.stripe_region_read.proofs.StretchReads.{part-long, sector-here, sector-before}
use Rattle.reshape_window_io.specs.Fetching.{IsShapeBeside, IsUnreadBeside}

-- ---- the sectors outside the window

module _ (span : Span) (first to lo hi x : ℕ) (low : lo ≡ min (max span.lo first) to) (high : hi ≡ min (max span.hi lo) to) where
  pub out-before : first ≤ x → x < lo → covers (Some span) x ≡ false
  out-before from lt = elim (in-or-out span x) [ inl inside ↦ absurd (let begins = inside.0 in omega (arith, from, lt, begins, low)) | inr out ↦ out ]

  pub out-behind : hi ≤ x → x < to → covers (Some span) x ≡ false
  out-behind past lt = elim (in-or-out span x) [ inl inside ↦ absurd (let ends = inside.1 in omega (arith, past, lt, ends, high)) | inr out ↦ out ]

-- why one of some sectors outside can't be read is why the request can't
pub unread-beside : (hidden : Option Span) (relied from to first last : ℕ) (m : Members) → first ≤ from → to ≤ last → ((x : ℕ) → from ≤ x → x < to → covers hidden x ≡ false) → (found : Option Refusal)
    → MatchOption found ⊤ (IsListUnread relied from to m) → MatchOption found ⊤ (IsUnreadBeside hidden relied first last m)
unread-beside hidden relied from to first last m early late out None told = tt
unread-beside hidden relied from to first last m early late out (Some refusal) told =
    let low = told.1 in
    let high = told.2 in
    (told.0, omega (arith, early, low), omega (arith, late, high), out told.0 low high, told.3)

-- the shape of one of some sectors outside is that of one of the request outside
pub shape-beside : (hidden : Option Span) (newest : Sb) (from to first last : ℕ) → first ≤ from → to ≤ last → ((x : ℕ) → from ≤ x → x < to → covers hidden x ≡ false) → (s : Shape)
    → IsShapeOf newest from to s → IsShapeBeside hidden newest first last s
shape-beside hidden newest from to first last early late out s own =
    let low = own.1 in
    let high = own.2 in
    (own.0, omega (arith, early, low), omega (arith, late, high), out own.0 low high, own.3)

-- ---- the bytes

-- put back, a part as long as it was leaves the length
pub put-long : (bytes part : List ℕ) (d e : ℕ) → 512 * e ≤ length bytes → d ≤ e → length part ≡ 512 * e - 512 * d → length (put_mid (512 * d) (512 * e - 512 * d) bytes part) ≡ length bytes
put-long bytes part d e within some long = same_len_mid (512 * d) (512 * e - 512 * d) bytes part (long ∙ sym (part-long bytes part d e within some))

-- a sector of a part is one of the whole
pub sector-taken : (bytes : List ℕ) (d e i : ℕ) → 512 * e ≤ length bytes → d + i < e → sector_of (take (512 * e - 512 * d) (drop (512 * d) bytes)) i ≡ sector_of bytes (d + i)
sector-taken bytes d e i within lt =
    let some : d ≤ e = omega (arith, lt) in
    let at : d + i - d ≡ i = omega arith in
    sym (sector-here bytes (take (512 * e - 512 * d) (drop (512 * d) bytes)) d e within some (part-long bytes [] d e within some) (d + i) (omega arith) lt ∙ ap (sector_of (take (512 * e - 512 * d) (drop (512 * d) bytes))) at)
    ∙ ap (λ (l : List ℕ). sector_of l (d + i)) (put_same (512 * d) (512 * e - 512 * d) bytes)

module _ (bytes one two three : List ℕ) (d e n len : ℕ) (is : len ≡ 512 * n) (whole : length bytes ≡ 512 * n) (de : d ≤ e) (en : e ≤ n)
    (long-one : length one ≡ 512 * d - 512 * 0) (long-two : length two ≡ 512 * e - 512 * d) (long-three : length three ≡ 512 * n - 512 * e) where
  abbrev once : List ℕ
  once = put_mid (512 * 0) (512 * d - 512 * 0) bytes one

  abbrev twice : List ℕ
  twice = put_mid (512 * d) (512 * e - 512 * d) once two

  abbrev thrice : List ℕ
  thrice = put_mid (512 * e) (len - 512 * e) twice three

  in-bytes : 512 * d ≤ length bytes
  in-bytes = omega (arith, whole, de, en)

  once-long : length once ≡ 512 * n
  once-long = put-long bytes one 0 d in-bytes (omega arith) long-one ∙ whole

  in-once : 512 * e ≤ length once
  in-once = omega (arith, once-long, en)

  twice-long : length twice ≡ 512 * n
  twice-long = put-long once two d e in-once de long-two ∙ once-long

  in-twice : 512 * n ≤ length twice
  in-twice = omega (arith, twice-long)

  pub behind-part : (i : ℕ) → e ≤ i → i < n → sector_of thrice i ≡ sector_of three (i - e)
  behind-part i low high = subst (λ (l : ℕ). sector_of (put_mid (512 * e) (l - 512 * e) twice three) i ≡ sector_of three (i - e)) (sym is) (sector-here twice three e n in-twice en long-three i low high)

  early : (i : ℕ) → i < e → sector_of thrice i ≡ sector_of twice i
  early i high = subst (λ (l : ℕ). sector_of (put_mid (512 * e) (l - 512 * e) twice three) i ≡ sector_of twice i) (sym is) (sector-before twice three e n in-twice en i high)

  pub window-part : (i : ℕ) → d ≤ i → i < e → sector_of thrice i ≡ sector_of two (i - d)
  window-part i low high = early i high ∙ sector-here once two d e in-once de long-two i low high

  pub before-part : (i : ℕ) → i < d → sector_of thrice i ≡ sector_of one i
  before-part i high = early i (omega (arith, high, de)) ∙ sector-before once two d e in-once de i high ∙ sector-here bytes one 0 d in-bytes (omega arith) long-one i (omega arith) high
      ∙ ap (sector_of one) none
    where
      none : i - 0 ≡ i
      none = omega arith

-- ---- the list, once slots were lost

module _ (given : Given) (old new : Members) (c : Contents) (list : ℕ → Sector) (moved : IsMoved given old new) (was : IsPlaced given old) (hidden : Option Span) (among : Shape → Type 0) where
  same-shape : (x : ℕ) → shape_for new.newest x ≡ shape_for old.newest x
  same-shape x = for-alike old.newest new.newest moved.reshape moved.shape moved.size x

  shown-then : (x : ℕ) → IsShown hidden new.newest x → IsShown hidden old.newest x
  shown-then x shown = record {
    within = subst (λ (n : ℕ). x < n) (list-alike old.newest new.newest moved.reshape moved.shape moved.size) shown.within;
    outside = shown.outside;
  }

  pub list-to-moved : ListStandsIn among hidden old c list → ListStandsIn among hidden new c list
  list-to-moved stands x slot own shown held =
      subst (λ (s : Shape). held_slot (reading_of new) (place s x).role (place s x).row ≡ Some slot → c slot (data_offset_of (reading_of new) slot + (place s x).row) ≡ list x) (sym (same-shape x))
      (λ here. ap (λ (n : ℕ). c slot (n + (place_by old.newest x).row)) (moved.offsets slot)
      ∙ stands x slot (subst among (same-shape x) own) (shown-then x shown) (held-moved moved (place_by old.newest x).role (place_by old.newest x).row slot here)) held

  pub rows-to-moved : (relied : ℕ) → RowsStandIn among hidden relied old c list → RowsStandIn among hidden relied new c list
  rows-to-moved relied stands x below own shown =
      subst (λ (s : Shape). RowStands (reading_of new) c s list (place s x).row) (sym (same-shape x))
      (row-moved given old new c c list moved was (λ s k other. refl) (place_by old.newest x).row (shape_for old.newest x) (stands x below (subst among (same-shape x) own) (shown-then x shown)))
