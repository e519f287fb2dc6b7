-- What stands in a course stands on where other rows are written, on members that may have lost slots.
use Rattle.std.proofs.Common.{◌≡◌, ◌⊎◌, inl, inr, ℕ, ◌+◌, ◌/◌, ◌≤◌, ◌<◌, ◌-◌, Bool, true, false, if◌then◌else◌, Some, List, sym, ◌∙◌, ap, subst, arith}
use Rattle.std.proofs.lemmas.Bool.{cases_lt}
use Rattle.reshape_request.specs.raid_types_the_Shape.{Shape}
use Rattle.reshape_request.specs.raid_types_the_Side.{Side}
use Rattle.reshape_request.specs.raid_types_the_Side_TheVariants.{Old, New}
use Rattle.reshape_request.specs.raid_types_Sectors.{Sector, zero_sector}
use Rattle.reshape_request.specs.raid_types_Shapes.{stripe_sectors, tolerance}
use Rattle.reshape_request.specs.bank_Given.{Given}
use Rattle.reshape_request.specs.bank_Tape.{Contents}
use Rattle.reshape_request.specs.sb_codec_the_Sb.{Sb}
use Rattle.reshape_request.specs.raid_layout_Layout.{place, stripe_of}
use Rattle.reshape_request.specs.reshape_geometry_Geometry.{ceiling, side}
use Rattle.reshape_window_steps.specs.sb_specs_the_Members.{Members}
use Rattle.reshape_window_steps.specs.sb_specs_Reading.{is_reshaping, is_backward, shape_of, final_shape, data_offset_of}
use Rattle.reshape_window_steps.specs.stripe_row_Rows.{reading_of, held_slot}
use Rattle.reshape_window_steps.proofs.stripe_row_Losses.{holder-of}
use Rattle.reshape_window_steps.specs.stripe_list_Full.{RowStands}
use Rattle.reshape_window_steps.specs.history_Stands.{shape_at, shape_for}
use Rattle.reshape_window_steps.specs.crash_views_Regions.{place_by, DoWithout}
use Rattle.reshape_window_steps.specs.crash_views_Views.{IsTail}
use Rattle.reshape_window_steps.specs.crash_views_Windows.{IsShown, ListStands, RowsStand, AreTailsStanding}
use Rattle.reshape_window_steps.proofs.crash_views_Stands.{StandsAt}
use Rattle.reshape_window_steps.specs.array_members_Placed.{HaveSameReshape}
use Rattle.reshape_window_steps.specs.array_members_Moving.{IsMoved}
use Rattle.reshape_window_steps.specs.array_members_Lacking.{lacking, DoesWithout, AreOtherRowsKept}
use Rattle.reshape_window_steps.proofs.array_members_Fit.{for-alike, list-alike}
use Rattle.reshape_window_steps.proofs.array_members_HeldRows.{held-moved, shape-without-before}
use Rattle.reshape_window_steps.proofs.CopyLaws.{row-later}
use Rattle.reshape_progress.specs.declared.course.Course.{Course}
use Rattle.reshape_request.specs.declared.window.Window.{Window}
use Rattle.reshape_request.specs.declared.window.Window.TheVariants.{Closed, Entered, Unsure}
use Rattle.reshape_progress.specs.Course.{IsOfStripes, IsCopiedRow, IsZeroedRow, hidden_in, AnyShape, StandsInCourse, past_stripe}
use Rattle.reshape_progress.specs.Laws.{CoursesStandWhole}

-- ---- what the newest superblock says of rows

module _ (old new : Sb) (reshape : HaveSameReshape old new) (shape : shape_of new ≡ shape_of old) (size : new.size ≡ old.size) where
  tail-before : (x : ℕ) → IsTail new x → IsTail old x
  tail-before x tail = record {
    active = sym reshape.reshaping ∙ tail.active;
    forth = sym reshape.backward ∙ tail.forth;
    through = sym reshape.position ∙ tail.through ∙ list-alike old new reshape shape size;
    past = subst (λ (n : ℕ). n ≤ x) (list-alike old new reshape shape size) tail.past;
    stripe = sym (ap (λ (s : Shape). stripe_of s x) reshape.final) ∙ tail.stripe ∙ (λ i. stripe_of (reshape.final i) (list-alike old new reshape shape size i - 1));
  }

  pub copied-before : (window : Window) (row : ℕ) → IsCopiedRow new window row → IsCopiedRow old window row
  copied-before Closed row at = at
  copied-before (Entered span copied sectioned) row at = subst (λ (s : Shape). IsOfStripes s (span.lo / stripe_sectors s) copied row) reshape.final at
  copied-before (Unsure span) row at = at

  pub past-alike : past_stripe new ≡ past_stripe old
  past-alike = λ i. ceiling (list-alike old new reshape shape size i) (stripe_sectors (reshape.final i))

  pub zeroed-before : (zeroed row : ℕ) → IsZeroedRow new zeroed row → IsZeroedRow old zeroed row
  zeroed-before zeroed row at = subst (λ (s : Shape). IsOfStripes s (past_stripe old) zeroed row) reshape.final (subst (λ (p : ℕ). IsOfStripes (final_shape new) p zeroed row) past-alike at)

-- ---- rows that are written besides

module _ (sound : Type 0) (among : Shape → Type 0) (given : Given) (old new : Members) (moved : IsMoved given old new) (course : Course) (buffer : List ℕ) (c e : Contents) (list : ℕ → Sector) (touched : ℕ → Type 0)
    (kept : AreOtherRowsKept touched (reading_of new) c e) (was : StandsInCourse sound among old course buffer c list) where
  row-on : (shape : Shape) (l : ℕ → Sector) (row : ℕ) → (touched row → ⊥) → RowStands (reading_of old) c shape l row → RowStands (reading_of new) e shape l row
  row-on shape l row out stands = row-later given old new moved shape l row c e (kept row out) stands

  final-row-on : (l : ℕ → Sector) (row : ℕ) → (touched row → ⊥) → RowStands (reading_of old) c (final_shape old.newest) l row → RowStands (reading_of new) e (final_shape new.newest) l row
  final-row-on l row out stands = subst (λ (s : Shape). RowStands (reading_of new) e s l row) (sym moved.reshape.final) (row-on (final_shape old.newest) l row out stands)

  shown-before : (x : ℕ) → IsShown (hidden_in course.window) new.newest x → IsShown (hidden_in course.window) old.newest x
  shown-before x shown = record {
    within = subst (λ (n : ℕ). x < n) (list-alike old.newest new.newest moved.reshape moved.shape moved.size) shown.within;
    outside = shown.outside;
  }

  own-before : (x : ℕ) → among (shape_for new.newest x) → among (shape_for old.newest x)
  own-before x = subst among (for-alike old.newest new.newest moved.reshape moved.shape moved.size x)

  final-before : among (final_shape new.newest) → among (final_shape old.newest)
  final-before = subst among moved.reshape.final

  -- none of these rows has a sector that is shown, or one of the tail, and none is copied or zeroed, by one of the shapes
  pub record AreBeside : Type 0 where
    pub shown : (x : ℕ) → among (shape_for old.newest x) → IsShown (hidden_in course.window) old.newest x → touched (place_by old.newest x).row → ⊥
    pub tail : among (final_shape old.newest) → (x : ℕ) → IsTail old.newest x → touched (place (final_shape old.newest) x).row → ⊥
    pub copied : among (final_shape old.newest) → (row : ℕ) → IsCopiedRow old.newest course.window row → touched row → ⊥
    pub zeroed : among (final_shape old.newest) → (row : ℕ) → IsZeroedRow old.newest course.zeroed row → touched row → ⊥

  module _ (beside : AreBeside) where
    list-on : (x slot : ℕ) → among (shape_for new.newest x) → IsShown (hidden_in course.window) new.newest x
        → held_slot (reading_of new) (place_by new.newest x).role (place_by new.newest x).row ≡ Some slot → e slot (data_offset_of (reading_of new) slot + (place_by new.newest x).row) ≡ list x
    list-on x slot own shown = subst (λ (s : Shape). StandsAt new e list x (place s x)) (sym (for-alike old.newest new.newest moved.reshape moved.shape moved.size x))
        (λ slot held. kept (place_by old.newest x).row (beside.shown x (own-before x own) (shown-before x shown)) (place_by old.newest x).role slot
        (holder-of (reading_of new) (place_by old.newest x).role (place_by old.newest x).row slot held)
        ∙ ap (λ (n : ℕ). c slot (n + (place_by old.newest x).row)) (moved.offsets slot)
        ∙ was.stands x slot (own-before x own) (shown-before x shown) (held-moved moved (place_by old.newest x).role (place_by old.newest x).row slot held)) slot

    rows-on : sound → (x : ℕ) → among (shape_for new.newest x) → IsShown (hidden_in course.window) new.newest x → RowStands (reading_of new) e (shape_for new.newest x) list (place_by new.newest x).row
    rows-on so x own shown = subst (λ (s : Shape). RowStands (reading_of new) e s list (place s x).row) (sym (for-alike old.newest new.newest moved.reshape moved.shape moved.size x))
        (row-on (shape_for old.newest x) list (place_by old.newest x).row (beside.shown x (own-before x own) (shown-before x shown)) (was.rows so x (own-before x own) (shown-before x shown)))

    tail-on : among (final_shape new.newest) → AreTailsStanding new e list
    tail-on own x slot tail = subst (λ (s : Shape). StandsAt new e list x (place s x)) (sym moved.reshape.final)
        (λ slot held. let before = tail-before old.newest new.newest moved.reshape moved.shape moved.size x tail in
        kept (place (final_shape old.newest) x).row (beside.tail (final-before own) x before) (place (final_shape old.newest) x).role slot
        (holder-of (reading_of new) (place (final_shape old.newest) x).role (place (final_shape old.newest) x).row slot held)
        ∙ ap (λ (n : ℕ). c slot (n + (place (final_shape old.newest) x).row)) (moved.offsets slot)
        ∙ was.tail (final-before own) x slot before (held-moved moved (place (final_shape old.newest) x).role (place (final_shape old.newest) x).row slot held)) slot

    pub stands-on : StandsInCourse sound among new course buffer e list
    stands-on = record {
      stands = list-on;
      window = was.window;
      zeros = λ forth x past. was.zeros (sym moved.reshape.backward ∙ forth) x (subst (λ (n : ℕ). n ≤ x) (list-alike old.newest new.newest moved.reshape moved.shape moved.size) past);
      copied = λ own row at. let before = copied-before old.newest new.newest moved.reshape moved.shape moved.size course.window row at in
          final-row-on list row (beside.copied (final-before own) row before) (was.copied (final-before own) row before);
      tail = tail-on;
      zeroed = λ own row at. let before = zeroed-before old.newest new.newest moved.reshape moved.shape moved.size course.zeroed row at in
          final-row-on (λ x. zero_sector) row (beside.zeroed (final-before own) row before) (was.zeroed (final-before own) row before);
      rows = rows-on;
    }

-- ---- fewer shapes

-- The list that stands by some shapes stands by fewer.
pub stands-less : (sound : Type 0) (among wider : Shape → Type 0) (m : Members) (course : Course) (buffer : List ℕ) (c : Contents) (list : ℕ → Sector) → ((shape : Shape) → among shape → wider shape)
    → StandsInCourse sound wider m course buffer c list → StandsInCourse sound among m course buffer c list
stands-less sound among wider m course buffer c list less was = record {
  stands = λ x slot own. was.stands x slot (less (shape_for m.newest x) own);
  window = was.window;
  zeros = was.zeros;
  copied = λ own. was.copied (less (final_shape m.newest) own);
  tail = λ own. was.tail (less (final_shape m.newest) own);
  zeroed = λ own. was.zeroed (less (final_shape m.newest) own);
  rows = λ so x own. was.rows so x (less (shape_for m.newest x) own);
}

-- What stands by any shape stands by those that do without what they miss.
pub stands-without : (sound : Type 0) (m : Members) (course : Course) (buffer : List ℕ) (c : Contents) (list : ℕ → Sector) → StandsInCourse sound AnyShape m course buffer c list
    → StandsInCourse sound (λ shape. DoesWithout shape m) m course buffer c list
stands-without sound m course buffer c list was = stands-less sound (λ shape. DoesWithout shape m) AnyShape m course buffer c list (λ shape does. tt) was

-- A shape that does without what is missing later did so before: the list stands by those that do so later.
pub stands-later : (sound : Type 0) (given : Given) (old new : Members) (course : Course) (buffer : List ℕ) (c : Contents) (list : ℕ → Sector) → IsMoved given old new
    → StandsInCourse sound (λ shape. DoesWithout shape old) old course buffer c list → StandsInCourse sound (λ shape. DoesWithout shape new) old course buffer c list
stands-later sound given old new course buffer c list moved was =
    stands-less sound (λ shape. DoesWithout shape new) (λ shape. DoesWithout shape old) old course buffer c list (λ shape does. shape-without-before given old new moved shape does) was

-- the shape that places a sector does without what is missing, if each in force does
pub does-for : (m : Members) → DoWithout m → (x : ℕ) → DoesWithout (shape_for m.newest x) m
does-for m does x = of (is_reshaping m.newest) (side (is_backward m.newest) m.newest.reshape_position x)
  where
    of : (active : Bool) (s : Side) → DoesWithout (if active then shape_at m.newest s else shape_of m.newest) m
    of true Old = does.old
    of true New = does.final
    of false s = does.old

pub stands-whole : (sound : Type 0) → CoursesStandWhole sound
stands-whole sound m course buffer c list does was = record {
  stands = λ x slot any. was.stands x slot (does-for m does x);
  window = was.window;
  zeros = was.zeros;
  copied = λ any. was.copied does.final;
  tail = λ any. was.tail does.final;
  zeroed = λ any. was.zeroed does.final;
  rows = λ so x any. was.rows so x (does-for m does x);
}

-- Sectors of which each shape does without what is missing of it: the list stands by their shapes.
pub stands-stretch : (sound : Type 0) (m : Members) (course : Course) (buffer : List ℕ) (c : Contents) (list : ℕ → Sector) (from to : ℕ)
    → ((x : ℕ) → from ≤ x → x < to → DoesWithout (shape_for m.newest x) m) → StandsInCourse sound (λ shape. DoesWithout shape m) m course buffer c list
    → StandsInCourse sound (λ shape. (x : ℕ) × (from ≤ x) × (x < to) × (shape_for m.newest x ≡ shape)) m course buffer c list
stands-stretch sound m course buffer c list from to does was =
    stands-less sound (λ shape. (x : ℕ) × (from ≤ x) × (x < to) × (shape_for m.newest x ≡ shape)) (λ shape. DoesWithout shape m) m course buffer c list
    (λ shape own. subst (λ (s : Shape). DoesWithout s m) own.3 (does own.0 own.1 own.2)) was

-- what stands by any shape
module _ (sound : Type 0) (m : Members) (course : Course) (buffer : List ℕ) (c : Contents) (list : ℕ → Sector) (was : StandsInCourse sound AnyShape m course buffer c list) where
  pub list-whole : ListStands (hidden_in course.window) m c list
  list-whole x slot shown = was.stands x slot tt shown

  pub rows-whole : sound → RowsStand (hidden_in course.window) m c list
  rows-whole so x shown = was.rows so x tt shown

-- a shape does without what is missing of it, or not
pub does-or : (shape : Shape) (m : Members) → DoesWithout shape m ⊎ (DoesWithout shape m → ⊥)
does-or shape m = elim (cases_lt (tolerance shape) (lacking shape m)) [
  | inl above ↦ inr (λ few. absurd (omega (arith, above, few)))
  | inr few ↦ inl few
]
