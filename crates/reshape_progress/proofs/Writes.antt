-- A write beside the window: the list with the sectors that were written stands in the same course.
use Rattle.std.proofs.Common.{◌≡◌, inl, inr, ℕ, ◌+◌, ◌*◌, ◌/◌, ◌<◌, ◌≤◌, ◌&&◌, nat_le, nat_lt, Bool, true, false, cond, Some, List, length, sym, ◌∙◌, ap, subst, arith}
use Rattle.std.proofs.lemmas.Bool.{cases_lt}
use Rattle.std.proofs.lemmas.Bool.Decides.{nat_tests}
use Rattle.std.proofs.Math.Nat.{mul-le-mul_right}
use Rattle.reshape_request.specs.raid_types_the_Shape.{Shape}
use Rattle.reshape_request.specs.raid_types_the_Span.{Span}
use Rattle.reshape_request.specs.raid_types_Sectors.{Sector, zero_sector}
use Rattle.reshape_request.specs.raid_types_Shapes.{is_valid_shape, stripe_sectors}
use Rattle.reshape_request.specs.bank_Given.{Given}
use Rattle.reshape_request.specs.bank_Tape.{Contents}
use Rattle.reshape_request.specs.raid_layout_Layout.{place}
use Rattle.reshape_request.specs.raid_parity_Rows.{IsSector}
use Rattle.reshape_request.specs.reshape_geometry_Geometry.{ceiling, stripes, rows}
use Rattle.reshape_request.specs.reshape_geometry_Geometry as geometry
use Rattle.reshape_request.proofs.reshape_geometry_Rows.{rows_hold}
use Rattle.reshape_request.specs.sb_codec_the_Sb.{Sb}
use Rattle.reshape_window_steps.specs.sb_specs_the_Members.{Members}
use Rattle.reshape_window_steps.specs.sb_specs_Reading.{final_shape, list_length, next_window}
use Rattle.reshape_window_steps.specs.stripe_row_Rows.{reading_of}
use Rattle.reshape_window_steps.specs.stripe_list_Full.{RowStands}
use Rattle.reshape_window_steps.specs.stripe_list_Writing.{IsWritten}
use Rattle.reshape_window_steps.proofs.stripe_list_FullLaws.{full-same}
use Rattle.reshape_window_steps.specs.history_Stands.{covers}
use Rattle.reshape_window_steps.specs.crash_views_Regions.{AreShapesFit, place_by}
use Rattle.reshape_window_steps.specs.crash_views_Views.{IsTail}
use Rattle.reshape_window_steps.proofs.crash_views_UnderWay.{window-row, row-apart}
use Rattle.reshape_window_steps.proofs.crash_views_WindowLaws.{region-rows}
use Rattle.reshape_window_steps.specs.crash_safety_laws_Updates.{IsAtEnd}
use Rattle.reshape_window_steps.proofs.crash_safety_laws_LessViews.{ends-place}
use Rattle.reshape_window_steps.specs.array_members_Placed.{IsPlaced}
use Rattle.reshape_window_steps.specs.array_members_Moving.{IsMoved}
use Rattle.reshape_window_steps.specs.array_members_Lacking.{AreOtherRowsKept}
use Rattle.reshape_window_steps.proofs.array_members_Fit.{list-alike}
use Rattle.reshape_window_steps.specs.reshape_window_rows_Copies.{HasWindow}
use Rattle.reshape_window_steps.specs.Zeroing.{IsThrough}
use Rattle.reshape_window_steps.proofs.CopyLaws.{row-later}
use Rattle.reshape_request.specs.declared.window.Window.{Window}
use Rattle.reshape_request.specs.declared.window.Window.TheVariants.{Closed, Entered, Unsure}
use Rattle.reshape_progress.specs.Course.{IsWindowOf, span_in, HasWindowIn, IsOfStripes, IsCopiedRow, IsZeroedRow, past_stripe}
use Rattle.reshape_progress.specs.Laws.{WritesGoOn, TornWritesGoOn, IsOtherTouched}
use Rattle.reshape_progress.proofs.Frames.{copied-before, zeroed-before, stands-on}

-- ---- a row by another list

-- it stands by a list that is the same in it
row-by : (m : Members) (c : Contents) (shape : Shape) (list list' : ℕ → Sector) (row : ℕ) → is_valid_shape shape ≡ true → ((y : ℕ) → (place shape y).row ≡ row → list' y ≡ list y)
    → RowStands (reading_of m) c shape list row → RowStands (reading_of m) c shape list' row
row-by m c shape list list' row valid same stands = record {
  whole = λ y at. subst IsSector (sym (same y at)) (stands.whole y at);
  sectors = λ role slot lt here held. stands.sectors role slot lt here held ∙ full-same shape list list' row valid same role lt;
  parity = λ role slot lt here held. stands.parity role slot lt here held ∙ full-same shape list list' row valid same role lt;
}

-- ---- rows of stripes

-- no row is of no stripes
some-of : (shape : Shape) (first count row : ℕ) → IsOfStripes shape first count row → 0 < count
some-of shape first count row at = elim (cases_lt 0 count) [
  | inl some ↦ some
  | inr none ↦ absurd (
      let low = at.0 in
      let high = at.1 in
      let same : (first + count) * shape.chunk ≡ first * shape.chunk = ap (λ (n : ℕ). n * shape.chunk) (nothing-more first count none) in
      omega (arith, low, high, same))
]
  where
    nothing-more : (a b : ℕ) → b ≤ 0 → a + b ≡ a
    nothing-more a b none = omega (arith, none)

-- a row of the first stripes of a span is one that the span touches
in-rows : (shape : Shape) (span : Span) (count row : ℕ) → count ≤ stripes shape span.lo span.hi → IsOfStripes shape (span.lo / stripe_sectors shape) count row → geometry.IsIn row (rows shape span.lo span.hi)
in-rows shape span count row most at =
    let first : ℕ = span.lo / stripe_sectors shape in
    let last : ℕ = ceiling span.hi (stripe_sectors shape) in
    let some = some-of shape first count row at in
    let le : (first + count) * shape.chunk ≤ last * shape.chunk = mul-le-mul_right shape.chunk (omega (arith, most, some)) in
    (at.0, let high = at.1 in omega (arith, high, le))

-- no sector of the list is placed in a row that is behind it
zeroed-apart : (newest : Sb) → AreShapesFit newest → (zeroed row x : ℕ) → (0 < zeroed → IsThrough newest) → x < list_length newest → IsZeroedRow newest zeroed row → (place_by newest x).row ≡ row → ⊥
zeroed-apart newest fit zeroed row x through under at here =
    let there = through (some-of (final_shape newest) (past_stripe newest) zeroed row at) in
    let shape = (ends-place newest x there.active under).1 there.last in
    let below = (rows_hold (final_shape newest) (record { lo = 0; hi = list_length newest }) x fit.valid.final (omega arith, under)).1 in
    let same : (place_by newest x).row ≡ (place (final_shape newest) x).row = ap (λ (s : Shape). (place s x).row) shape in
    let far = at.0 in
    absurd (omega (arith, same, below, far, here))

-- ---- a write

-- one of the sectors from a place on has its place in the row
abbrev IsWrittenRow : Members → ℕ → List ℕ → ℕ → Type 0
IsWrittenRow old first from row = (x : ℕ) × (first ≤ x) × (x < first + length from / 512) × ((place_by old.newest x).row ≡ row)

module _ (given : Given) (old new : Members) (placed : IsPlaced given old) (moved : IsMoved given old new) (c e : Contents) (list list' : ℕ → Sector) (first : ℕ) (from : List ℕ)
    (w : IsWritten list list' first from) (within : first + length from / 512 ≤ list_length old.newest) (kept : AreOtherRowsKept (IsWrittenRow old first from) (reading_of new) c e) where
  -- a sector behind the list stays
  past-same : (x : ℕ) → list_length old.newest ≤ x → list' x ≡ list x
  past-same x past = w.other x (inr (omega (arith, within, past)))

  module _ (span : Span) (beside : (x : ℕ) → first ≤ x → x < first + length from / 512 → covers (Some span) x ≡ false) where
    -- and one of the window
    own-same : (x : ℕ) → geometry.IsIn x span → list' x ≡ list x
    own-same x inside = elim (cases_lt x first) [
      | inl low ↦ w.other x (inl low)
      | inr above ↦ elim (cases_lt x (first + length from / 512)) [
        | inl under ↦ absurd (let is : covers (Some span) x ≡ true = covered span.lo span.hi inside.0 inside.1 in let not = beside x above under in cc)
        | inr past ↦ w.other x (inr past)
      ]
    ]
      where
        covered : (lo hi : ℕ) → lo ≤ x → x < hi → ◌≡◌ {A = Bool} (nat_le lo x && nat_lt x hi) true
        covered lo hi low high = grind (arith, nat_tests, low, high)

    has-window : (buffer : List ℕ) → HasWindow span buffer list → HasWindow span buffer list'
    has-window buffer has x inside = has x inside ∙ sym (own-same x inside)

    module _ (next : next_window old.newest ≡ Some span) (row : ℕ) (inside : geometry.IsIn row (rows (final_shape old.newest) span.lo span.hi)) where
      row-same : (y : ℕ) → (place (final_shape old.newest) y).row ≡ row → list' y ≡ list y
      row-same y at =
          let there = window-row old.newest placed.fit span next row inside in
          elim (there.ends y at) [
            | inl high ↦ own-same y (there.begins y at, high)
            | inr past ↦ past-same y past
          ]

      -- so a row of the window that is copied stands on
      row-beside : RowStands (reading_of old) c (final_shape old.newest) list row → RowStands (reading_of new) e (final_shape old.newest) list' row
      row-beside stands =
          row-by new e (final_shape old.newest) list list' row placed.fit.valid.final row-same
          (row-later given old new moved (final_shape old.newest) list row c e
          (kept row (λ touched. row-apart old.newest placed.fit span next row inside touched.0 (let under = touched.2 in omega (arith, under, within)) (beside touched.0 touched.1 touched.2) touched.3)) stands)

  window-on : (window : Window) (buffer : List ℕ) → ((x : ℕ) → first ≤ x → x < first + length from / 512 → covers (span_in window) x ≡ false) → HasWindowIn window buffer list → HasWindowIn window buffer list'
  window-on Closed buffer beside has = tt
  window-on (Entered span copied sectioned) buffer beside has = (has.0, has-window span beside buffer has.1)
  window-on (Unsure span) buffer beside has = (has.0, has-window span beside buffer has.1)

  copied-on : (window : Window) → IsWindowOf old.newest window → ((x : ℕ) → first ≤ x → x < first + length from / 512 → covers (span_in window) x ≡ false)
      → ((row : ℕ) → IsCopiedRow old.newest window row → RowStands (reading_of old) c (final_shape old.newest) list row)
      → (row : ℕ) → IsCopiedRow old.newest window row → RowStands (reading_of new) e (final_shape old.newest) list' row
  copied-on Closed is beside was row at = absurd at
  copied-on (Entered span copied sectioned) is beside was row at = row-beside span beside is.0 row (in-rows (final_shape old.newest) span copied row is.1 at) (was row at)
  copied-on (Unsure span) is beside was row at = absurd at

  -- a row behind the list isn't written
  zeroed-on : (zeroed : ℕ) → (0 < zeroed → IsThrough old.newest) → ((row : ℕ) → IsZeroedRow old.newest zeroed row → RowStands (reading_of old) c (final_shape old.newest) (λ x. zero_sector) row)
      → (row : ℕ) → IsZeroedRow old.newest zeroed row → RowStands (reading_of new) e (final_shape old.newest) (λ x. zero_sector) row
  zeroed-on zeroed through was row at =
      row-later given old new moved (final_shape old.newest) (λ x. zero_sector) row c e
      (kept row (λ touched. zeroed-apart old.newest placed.fit zeroed row touched.0 through (let end = touched.2 in omega (arith, end, within)) at touched.3)) (was row at)

pub writes-go-on : (sound : Type 0) (among : Shape → Type 0) → WritesGoOn sound among
writes-go-on sound among given old new course buffer c e list list' first from placed moved course_is w within beside kept stands tail rows was = record {
  stands = stands;
  window = window-on given old new placed moved c e list list' first from w within kept course.window buffer beside was.window;
  zeros = λ forth x past.
      let before = subst (λ (n : ℕ). n ≤ x) (list-alike old.newest new.newest moved.reshape moved.shape moved.size) past in
      past-same given old new placed moved c e list list' first from w within kept x before ∙ was.zeros (sym moved.reshape.backward ∙ forth) x before;
  copied = λ own row at. subst (λ (s : Shape). RowStands (reading_of new) e s list' row) (sym moved.reshape.final)
      (copied-on given old new placed moved c e list list' first from w within kept course.window course_is.window beside (was.copied (final-own own)) row
      (copied-before old.newest new.newest moved.reshape moved.shape moved.size course.window row at));
  tail = tail;
  zeroed = λ own row at. subst (λ (s : Shape). RowStands (reading_of new) e s (λ x. zero_sector) row) (sym moved.reshape.final)
      (zeroed-on given old new placed moved c e list list' first from w within kept course.zeroed course_is.through (was.zeroed (final-own own)) row
      (zeroed-before old.newest new.newest moved.reshape moved.shape moved.size course.zeroed row at));
  rows = rows;
}
  where
    final-own : among (final_shape new.newest) → among (final_shape old.newest)
    final-own = subst among moved.reshape.final

-- ---- a write that is cut

pub torn-writes-go-on : (sound : Type 0) (among : Shape → Type 0) → TornWritesGoOn sound among
torn-writes-go-on sound among scope given old new course buffer c e list first to placed active moved course_is within beside kept was =
    stands-on sound among given old new moved course buffer c e list (IsOtherTouched among old.newest first to) kept was (record {
      shown = λ x own shown touched. touched.3 (subst among (region-rows scope given old x touched.0 placed active shown.within (inside touched.0 touched.2) (sym touched.4)) own);
      tail = λ own x tail touched. touched.3 (subst among (sym ((ends-place old.newest touched.0 active (inside touched.0 touched.2)).1 (last x tail))) own);
      copied = λ own row at touched. apart course.window course_is.window beside row at touched.0 touched.1 touched.2 touched.4;
      zeroed = λ own row at touched. zeroed-apart old.newest placed.fit course.zeroed row touched.0 course_is.through (inside touched.0 touched.2) at touched.4;
    })
  where
    inside : (y : ℕ) → y < to → y < list_length old.newest
    inside y high = omega (arith, high, within)

    last : (x : ℕ) → IsTail old.newest x → IsAtEnd old.newest
    last x tail = tail.through ∙ sym (ap (λ (b : Bool). cond b 0 (list_length old.newest)) tail.forth)

    apart : (window : Window) → IsWindowOf old.newest window → ((x : ℕ) → first ≤ x → x < to → covers (span_in window) x ≡ false) → (row : ℕ) → IsCopiedRow old.newest window row
        → (y : ℕ) → first ≤ y → y < to → (place_by old.newest y).row ≡ row → ⊥
    apart Closed is out row at y low high same = absurd at
    apart (Entered span copied sectioned) is out row at y low high same =
        row-apart old.newest placed.fit span is.0 row (in-rows (final_shape old.newest) span copied row is.1 at) y (inside y high) (out y low high) same
    apart (Unsure span) is out row at y low high same = absurd at
