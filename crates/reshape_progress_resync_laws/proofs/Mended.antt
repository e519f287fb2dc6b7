-- What stands in a course while a resync is pending stands on, with a stripe more mended, with none left, and behind writes.
use Rattle.std.proofs.Common.{◌≡◌, inl, inr, ℕ, ◌+◌, ◌*◌, ◌<◌, ◌≤◌, List, Option, Some, refl, sym, ◌∙◌, ap, subst, arith}
use Rattle.std.proofs.lemmas.Bool.{cases_lt}
use Rattle.std.proofs.lemmas.Nat.{mul-le}
use Rattle.reshape_progress.specs.raid_types_the_Shape.{Shape}
use Rattle.reshape_progress.specs.raid_types_Sectors.{Sector, IsSector, zero_sector}
use Rattle.reshape_progress.specs.bank_Given.{Given}
use Rattle.reshape_progress.specs.bank_Tape.{Contents}
use Rattle.reshape_progress.specs.sb_codec_the_Sb.{Sb}
use Rattle.reshape_progress.specs.raid_layout_Layout.{place}
use Rattle.reshape_progress.proofs.reshape_geometry_Rows.{rows_hold}
use Rattle.reshape_progress.specs.sb_specs_the_Members.{Members}
use Rattle.reshape_progress.specs.sb_specs_Reading.{final_shape, list_length, data_offset_of}
use Rattle.reshape_progress.specs.stripe_row_Rows.{reading_of, held_slot}
use Rattle.reshape_progress.proofs.stripe_row_Losses.{holder-of}
use Rattle.reshape_progress.specs.stripe_list_Full.{AreWholeIn, RowStands}
use Rattle.reshape_progress.specs.history_Stands.{shape_for}
use Rattle.reshape_progress.specs.crash_views_Regions.{AreShapesFit, place_by}
use Rattle.reshape_progress.specs.crash_views_Windows.{IsShown}
use Rattle.reshape_progress.proofs.crash_safety_laws_LessViews.{ends-place}
use Rattle.reshape_progress.specs.array_members_Placed.{IsPlaced}
use Rattle.reshape_progress.specs.array_members_Moving.{IsMoved}
use Rattle.reshape_progress.specs.array_members_Lacking.{AreOtherRowsKept}
use Rattle.reshape_progress.proofs.array_members_Fit.{for-alike, list-alike}
use Rattle.reshape_progress.proofs.array_members_HeldRows.{held-moved}
use Rattle.reshape_progress.proofs.array_members_LackingWrites.{others-same}
use Rattle.reshape_progress.specs.reshape_window_steps_Zeroing.{IsThrough}
use Rattle.reshape_progress.proofs.reshape_window_steps_CopyLaws.{row-later}
use Rattle.stripe_region_resync.specs.stripe_region_read_Stretches.{RowsStandIn}
use Rattle.stripe_region_resync.specs.Mends.{low_shape, low_stripes, resync_stripes, stripe_after, relied_sector, IsResyncRow, AreEndsStanding}
use Rattle.stripe_region_resync.proofs.Alike.{low-alike, low-stripes-alike, relied-alike}
use Rattle.stripe_region_resync.proofs.ReliedLaws.{to-all}
use Rattle.stripe_region_resync.proofs.StripeLaws.{is-next}
use Rattle.stripe_region_resync.proofs.StripeRows.{next-within, next-has, next-past}
use Rattle.reshape_progress.specs.reshape_request_the_Window.{Window}
use Rattle.reshape_progress.specs.reshape_request_the_Window_TheVariants.{Closed, Entered, Unsure}
use Rattle.reshape_progress.specs.declared.course.Course.{Course}
use Rattle.reshape_progress.specs.Course.{IsCourseOf, IsCopiedRow, IsOfStripes, IsZeroedRow, hidden_in, past_stripe, StandsInCourse}
use Rattle.reshape_progress.proofs.Frames.{zeroed-before}
use Rattle.reshape_progress.proofs.Courses.{courses-move}
use Rattle.reshape_progress.proofs.Writes.{writes-go-on}
use Rattle.reshape_progress_resync_laws.specs.Mended.{IsAside, IsResyncSector, StandsSynced, NoneIsPending, FewerShapesStand, SyncedCoursesMove, IsResyncing, IsSynced, ResyncsGoOn, ResyncsEnd, SyncedWritesGoOn}

-- ---- with no resync

pub none-pending : (sound : Type 0) (among : Shape → Type 0) → NoneIsPending sound among
none-pending sound among m course buffer c list = (
  λ was. record {
    in_course = record { stands = was.stands; window = was.window; zeros = was.zeros; copied = was.copied; tail = was.tail; zeroed = was.zeroed; rows = λ so. absurd so };
    ends = λ some. absurd (cc);
    whole = λ some. absurd (cc);
    rows = λ so x below own shown. was.rows so x own shown;
  },
  λ was. record {
    stands = was.in_course.stands;
    window = was.in_course.window;
    zeros = was.in_course.zeros;
    copied = was.in_course.copied;
    tail = was.in_course.tail;
    zeroed = was.in_course.zeroed;
    rows = λ so x own shown. was.rows so x shown.within own shown;
  },
)

-- by fewer shapes
pub fewer-shapes : (sound : Type 0) → FewerShapesStand sound
fewer-shapes sound among fewer resync m course buffer c list of was = record {
  in_course = record {
    stands = λ x slot own. was.in_course.stands x slot (of (shape_for m.newest x) own);
    window = was.in_course.window;
    zeros = was.in_course.zeros;
    copied = λ own. was.in_course.copied (of (final_shape m.newest) own);
    tail = λ own. was.in_course.tail (of (final_shape m.newest) own);
    zeroed = λ own. was.in_course.zeroed (of (final_shape m.newest) own);
    rows = λ so. absurd so;
  };
  ends = λ some aside own. was.ends some aside (of (low_shape m.newest) own);
  whole = was.whole;
  rows = λ so x below own. was.rows so x below (of (shape_for m.newest x) own);
}

-- ---- on members that moved

module _ (given : Given) (old new : Members) (moved : IsMoved given old new) (list : ℕ → Sector) where
  -- the sectors that a resync reads are the same
  pub whole-on : ((x : ℕ) → IsResyncSector old.newest x → IsSector (list x)) → (x : ℕ) → IsResyncSector new.newest x → IsSector (list x)
  whole-on whole x (inl low) = whole x (inl (subst (λ (n : ℕ). x < n) (list-alike old.newest new.newest moved.reshape moved.shape moved.size) low))
  whole-on whole x (inr under) = whole x (inr (subst (λ (s : Shape). (place s x).row < low_stripes old.newest * s.chunk) (low-alike old.newest new.newest moved.reshape moved.shape moved.size)
      (subst (λ (n : ℕ). (place (low_shape new.newest) x).row < n * (low_shape new.newest).chunk) (low-stripes-alike old.newest new.newest moved.reshape moved.shape moved.size) under)))

  shown-before : (course : Course) (x : ℕ) → IsShown (hidden_in course.window) new.newest x → IsShown (hidden_in course.window) old.newest x
  shown-before course x shown = record {
    within = subst (λ (n : ℕ). x < n) (list-alike old.newest new.newest moved.reshape moved.shape moved.size) shown.within;
    outside = shown.outside;
  }

  module _ (c e : Contents) (kept : AreOtherRowsKept (λ row. ⊥) (reading_of new) c e) where
    pub ends-on : AreEndsStanding old c list → AreEndsStanding new e list
    ends-on ends x slot new-past under held =
        let low = low-alike old.newest new.newest moved.reshape moved.shape moved.size in
        let stripes = low-stripes-alike old.newest new.newest moved.reshape moved.shape moved.size in
        let past : list_length old.newest ≤ x = subst (λ (n : ℕ). n ≤ x) (list-alike old.newest new.newest moved.reshape moved.shape moved.size) new-past in
        subst (λ (s : Shape). (place s x).row < low_stripes old.newest * s.chunk → held_slot (reading_of new) (place s x).role (place s x).row ≡ Some slot
        → e slot (data_offset_of (reading_of new) slot + (place s x).row) ≡ list x) (sym low)
        (λ small here.
        kept (place (low_shape old.newest) x).row (λ none. none) (place (low_shape old.newest) x).role slot (holder-of (reading_of new) (place (low_shape old.newest) x).role (place (low_shape old.newest) x).row slot here)
        ∙ ap (λ (n : ℕ). c slot (n + (place (low_shape old.newest) x).row)) (moved.offsets slot)
        ∙ ends x slot past small (held-moved moved (place (low_shape old.newest) x).role (place (low_shape old.newest) x).row slot here))
        (subst (λ (n : ℕ). (place (low_shape new.newest) x).row < n * (low_shape new.newest).chunk) stripes under) held

    pub rows-on : (among : Shape → Type 0) (course : Course) (resync : Option ℕ) → RowsStandIn among (hidden_in course.window) (relied_sector old.newest resync) old c list
        → RowsStandIn among (hidden_in course.window) (relied_sector new.newest resync) new e list
    rows-on among course resync rows x below own shown =
        let same = for-alike old.newest new.newest moved.reshape moved.shape moved.size x in
        subst (λ (s : Shape). RowStands (reading_of new) e s list (place s x).row) (sym same)
        (row-later given old new moved (shape_for old.newest x) list (place_by old.newest x).row c e (kept (place_by old.newest x).row (λ none. none))
        (rows x (subst (λ (n : ℕ). x < n) (relied-alike old.newest new.newest moved.reshape moved.shape moved.size resync) below) (subst among same own) (shown-before course x shown)))

pub mended-courses-move : (sound : Type 0) (among : Shape → Type 0) → SyncedCoursesMove sound among
mended-courses-move sound among given old new resync course buffer c e list placed moved others was =
    let kept : AreOtherRowsKept (λ row. ⊥) (reading_of new) c e = others-same given (λ row. ⊥) old new c e moved placed others in
    record {
      in_course = courses-move ⊥ among given old new course buffer c e list placed moved others was.in_course;
      ends = λ some aside own. ends-on given old new moved list c e kept (was.ends some aside (subst among (low-alike old.newest new.newest moved.reshape moved.shape moved.size) own));
      whole = λ some so. whole-on given old new moved list (was.whole some so);
      rows = λ so. rows-on given old new moved list c e kept among course resync (was.rows so);
    }

-- ---- a stripe is mended

-- no copied row is known where no window is entered
none-copied : (newest : Sb) (window : Window) → IsAside window → (row : ℕ) → IsCopiedRow newest window row → ⊥
none-copied newest Closed aside row at = at
none-copied newest (Entered span copied sectioned) aside row at = aside
none-copied newest (Unsure span) aside row at = at

-- its rows are of whole sectors where those that a resync reads are
whole-rows : (newest : Sb) → AreShapesFit newest → (mended : ℕ) → mended < resync_stripes newest → (list : ℕ → Sector) → ((x : ℕ) → IsResyncSector newest x → IsSector (list x))
    → (row : ℕ) → IsResyncRow newest mended row → AreWholeIn (stripe_after newest mended).shape list row
whole-rows newest fit mended lt list whole row at y here = elim (cases_lt y (list_length newest)) [
  | inl low ↦ whole y (inl low)
  | inr past ↦ (
      let there : IsResyncRow newest mended (place (stripe_after newest mended).shape y).row = subst (λ (r : ℕ). IsResyncRow newest mended r) (sym here) at in
      let low = next-past newest fit mended lt y past there in
      let high = there.1 in
      let few = low.1 in
      let all = mul-le ((stripe_after newest mended).at + 1) (stripe_after newest mended).shape.chunk (low_stripes newest) (stripe_after newest mended).shape.chunk (omega (arith, few)) (omega arith) in
      let under : (place (stripe_after newest mended).shape y).row < low_stripes newest * (stripe_after newest mended).shape.chunk = omega (arith, high, all) in
      whole y (inr (subst (λ (s : Shape). (place s y).row < low_stripes newest * s.chunk) low.0 under)))
]

-- no row of it is one that is zeroed
zeroed-beside : (newest : Sb) → AreShapesFit newest → (zeroed mended row : ℕ) → (0 < zeroed → IsThrough newest) → mended < resync_stripes newest → IsZeroedRow newest zeroed row → IsResyncRow newest mended row → ⊥
zeroed-beside newest fit zeroed mended row through lt at here =
    let there = through (some-of (final_shape newest) (past_stripe newest) zeroed row at) in
    let z = next-has newest fit mended lt row here in
    let own : shape_for newest z.0 ≡ (stripe_after newest mended).shape = (is-next newest fit mended lt).own z.0 z.1 z.2 in
    let z-in : z.0 < list_length newest = (let to = z.2 in let within = next-within newest fit mended lt in omega (arith, to, within)) in
    let shape = (ends-place newest z.0 there.active z-in).1 there.last in
    let below = (rows_hold (final_shape newest) (record { lo = 0; hi = list_length newest }) z.0 fit.valid.final (omega arith, z-in)).1 in
    let same : row ≡ (place (final_shape newest) z.0).row = sym z.3 ∙ ap (λ (s : Shape). (place s z.0).row) (sym own ∙ shape) in
    let far = at.0 in
    absurd (omega (arith, same, below, far))
  where
    some-of : (shape : Shape) (first count row : ℕ) → IsOfStripes shape first count row → 0 < count
    some-of shape first count row at = elim (cases_lt 0 count) [
      | inl some ↦ some
      | inr none ↦ absurd (
          let low = at.0 in
          let high = at.1 in
          let same : (first + count) * shape.chunk ≡ first * shape.chunk = ap (λ (n : ℕ). n * shape.chunk) (nothing-more first count none) in
          omega (arith, low, high, same))
    ]
      where
        nothing-more : (a b : ℕ) → b ≤ 0 → a + b ≡ a
        nothing-more a b none = omega (arith, none)

module _ (sound : Type 0) (among : Shape → Type 0) (given : Given) (old new : Members) (course : Course) (mended : ℕ) (buffer : List ℕ) (c e : Contents) (list : ℕ → Sector)
    (placed : IsPlaced given old) (moved : IsMoved given old new) (course-is : IsCourseOf old.newest course) (aside : IsAside course.window) (lt : mended < resync_stripes old.newest)
    (left : IsResyncing among old new course mended c e list) (was : StandsSynced sound among (Some mended) old course buffer c list) where
  own-final : among (final_shape new.newest) → among (final_shape old.newest)
  own-final own = subst among moved.reshape.final own

  own-low : among (low_shape new.newest) → among (low_shape old.newest)
  own-low own = subst among (low-alike old.newest new.newest moved.reshape moved.shape moved.size) own

  course-on : StandsInCourse ⊥ among new course buffer e list
  course-on = record {
    stands = left.stands was.in_course.stands;
    window = was.in_course.window;
    zeros = λ forth x past. was.in_course.zeros (sym moved.reshape.backward ∙ forth) x (subst (λ (n : ℕ). n ≤ x) (list-alike old.newest new.newest moved.reshape moved.shape moved.size) past);
    copied = λ own row at. absurd (none-copied new.newest course.window aside row at);
    tail = λ own. left.tail (own-final own) (was.in_course.tail (own-final own));
    zeroed = λ own row at.
        let before = zeroed-before old.newest new.newest moved.reshape moved.shape moved.size course.zeroed row at in
        subst (λ (s : Shape). RowStands (reading_of new) e s (λ x. zero_sector) row) (sym moved.reshape.final)
        (row-later given old new moved (final_shape old.newest) (λ x. zero_sector) row c e (left.others row (zeroed-beside old.newest placed.fit course.zeroed mended row course-is.through lt before)) (was.in_course.zeroed (own-final own) row before));
    rows = λ so. absurd so;
  }

  rows-of : (resync : Option ℕ) → RowsStandIn among (hidden_in course.window) (relied_sector old.newest resync) new e list
      → RowsStandIn among (hidden_in course.window) (relied_sector new.newest resync) new e list
  rows-of resync rows x below = rows x (subst (λ (n : ℕ). x < n) (relied-alike old.newest new.newest moved.reshape moved.shape moved.size resync) below)

  pub not-mended : StandsSynced sound among (Some mended) new course buffer e list
  not-mended = record {
    in_course = course-on;
    ends = λ some outside own. left.ends (own-low own) (was.ends some aside (own-low own));
    whole = λ some so. whole-on given old new moved list (was.whole some so);
    rows = λ so. rows-of (Some mended) (left.kept (was.rows so));
  }

  pub one-mended : among (low_shape old.newest) → IsSynced among old new course mended c e list → StandsSynced sound among (Some (mended + 1)) new course buffer e list
  one-mended own done = record {
    in_course = course-on;
    ends = λ some outside low. left.ends own (was.ends some aside own);
    whole = λ some so. whole-on given old new moved list (was.whole some so);
    rows = λ so. rows-of (Some (mended + 1)) (done (whole-rows old.newest placed.fit mended lt list (was.whole refl so)) was.in_course.stands (was.ends refl aside own) (was.rows so));
  }

pub mends-go-on : (sound : Type 0) (among : Shape → Type 0) → ResyncsGoOn sound among
mends-go-on sound among given old new course mended buffer c e list placed moved course-is aside lt left was = (
  not-mended sound among given old new course mended buffer c e list placed moved course-is aside lt left was,
  one-mended sound among given old new course mended buffer c e list placed moved course-is aside lt left was,
)

-- ---- the end

pub resyncs-end : (sound : Type 0) (among : Shape → Type 0) → ResyncsEnd sound among
resyncs-end sound among m course buffer c list fit was = record {
  in_course = was.in_course;
  ends = λ some. absurd (cc);
  whole = λ some. absurd (cc);
  rows = λ so x below. was.rows so x (subst (λ (n : ℕ). x < n) (sym (to-all m.newest fit)) below);
}

-- ---- a write

pub mended-writes-go-on : (sound : Type 0) (among : Shape → Type 0) → SyncedWritesGoOn sound among
mended-writes-go-on sound among given old new resync course buffer c e list list' first from placed moved course-is w within beside others stands tail ends whole rows was = record {
  in_course = writes-go-on ⊥ among given old new course buffer c e list list' first from placed moved course-is w within beside others stands tail (λ so. absurd so) was.in_course;
  ends = ends;
  whole = whole;
  rows = rows;
}
