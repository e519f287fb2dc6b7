-- The steps of a window that an opening found, while a resync is pending that has mended nothing: its stripes are copied, and it is recorded.
use Rattle.std.proofs.Common.{◌≡◌, ◌⊎◌, inl, inr, ℕ, ◌+◌, ◌<◌, Bool, true, false, List, Some, None, refl, sym, ◌∙◌, ap, subst, arith}
use Rattle.std.proofs.lemmas.Bool.{cases_lt}
use Rattle.reshape_progress.specs.raid_types_the_Shape.{Shape}
use Rattle.reshape_progress.specs.raid_types_the_Span.{Span}
use Rattle.reshape_progress.specs.raid_types_Sectors.{Sector, IsSector}
use Rattle.reshape_progress.specs.bank_Given.{Given}
use Rattle.reshape_progress.specs.bank_Tape.{Contents}
use Rattle.reshape_progress.specs.sb_codec_the_Sb.{Sb}
use Rattle.reshape_progress.specs.reshape_geometry_Geometry.{stripes, beyond}
use Rattle.reshape_progress.specs.sb_specs_the_Members.{Members}
use Rattle.reshape_progress.specs.sb_specs_Reading.{is_reshaping, is_backward, final_shape, list_length, next_window}
use Rattle.reshape_progress.specs.crash_views_Regions.{AreShapesFit}
use Rattle.reshape_progress.specs.crash_views_Windows.{moved_past}
use Rattle.reshape_progress.proofs.crash_views_Headers.{window-filled}
use Rattle.reshape_progress.proofs.crash_views_Stands.{window-inside}
use Rattle.reshape_progress.proofs.crash_views_UnderWay.{is-reshaping}
use Rattle.reshape_progress.proofs.crash_reshape_laws_GrownLaws.{zero-is-sector}
use Rattle.reshape_progress.specs.array_members_Placed.{IsPlaced}
use Rattle.reshape_progress.specs.array_members_Moving.{IsMoved}
use Rattle.reshape_progress.proofs.array_members_Fit.{list-alike}
use Rattle.stripe_region_resync.specs.Mends.{relied_sector}
use Rattle.stripe_region_resync.proofs.ReliedLaws.{relied-reaches}
use Rattle.reshape_progress.specs.declared.course.Course.{Course}
use Rattle.reshape_progress.specs.Course.{AnyShape, StandsInCourse}
use Rattle.reshape_progress.specs.Laws.{entered, closed}
use Rattle.reshape_progress.proofs.Courses.{copies-go-on, records-close}
use Rattle.reshape_progress.proofs.Finishes.{rests-go-on, finishes-close}
use Rattle.reshape_progress_resync_laws.specs.Mended.{IsResyncSector, StandsSynced, ResyncsBegin, SyncedCopiesGoOn, SyncedRestsGoOn, SyncedRecordsClose, SyncedFinishesClose}
use Rattle.reshape_progress_resync_laws.proofs.Mended.{none-pending, whole-on}
use Rattle.reshape_progress_resync_laws.proofs.Ends.{none-ends, tails-are-ends}

-- where no stripe is mended, no row is relied on
none-relied : (newest : Sb) → AreShapesFit newest → (mended x : ℕ) → mended ≡ 0 → x < relied_sector newest (Some mended) → ⊥
none-relied newest fit mended x none below = absurd (
    let first : relied_sector newest (Some mended) ≡ 0 = ap (λ (n : ℕ). relied_sector newest (Some n)) none ∙ (relied-reaches newest fit).0 in
    omega (arith, below, first))

-- so that is how a resync begins
pub resyncs-begin : (sound : Type 0) (among : Shape → Type 0) → ResyncsBegin sound among
resyncs-begin sound among m course buffer c list fit stands ends whole = record {
  in_course = stands;
  ends = λ some. ends;
  whole = λ some. whole;
  rows = λ so x below. absurd (none-relied m.newest fit 0 x refl below);
}

-- ---- copies

pub mended-copies-go-on : (sound : Type 0) (among : Shape → Type 0) → SyncedCopiesGoOn sound among
mended-copies-go-on sound among given old new None span copied sectioned buffer c e list placed moved none next left plain kept was =
    let done = copies-go-on sound among given old new span copied sectioned buffer c e list placed moved next left plain kept ((none-pending sound among old (entered span copied sectioned) buffer c list).1 was) in (
      (none-pending sound among new (entered span copied sectioned) buffer e list).0 done.0,
      λ stands. (none-pending sound among new (entered span (copied + 1) sectioned) buffer e list).0 (done.1 stands),
    )
mended-copies-go-on sound among given old new (Some mended) span copied sectioned buffer c e list placed moved none next left plain kept was =
    let done = copies-go-on ⊥ among given old new span copied sectioned buffer c e list placed moved next left plain kept was.in_course in (
      record {
        in_course = done.0;
        ends = λ some aside. absurd aside;
        whole = λ some so. whole-on given old new moved list (was.whole some so);
        rows = λ so x below. absurd (none-relied new.newest moved.placed.fit mended x none below);
      },
      λ stands. record {
        in_course = done.1 stands;
        ends = λ some aside. absurd aside;
        whole = λ some so. whole-on given old new moved list (was.whole some so);
        rows = λ so x below. absurd (none-relied new.newest moved.placed.fit mended x none below);
      },
    )

pub mended-rests-go-on : (sound : Type 0) (among : Shape → Type 0) → SyncedRestsGoOn sound among
mended-rests-go-on sound among given old new None span copied sectioned buffer c e list placed moved none next plain kept was =
    let done = rests-go-on sound among given old new span copied sectioned buffer c e list placed moved next plain kept ((none-pending sound among old (entered span copied sectioned) buffer c list).1 was) in (
      (none-pending sound among new (entered span copied sectioned) buffer e list).0 done.0,
      λ stands. (none-pending sound among new (entered span (stripes (final_shape new.newest) span.lo span.hi) sectioned) buffer e list).0 (done.1 stands),
    )
mended-rests-go-on sound among given old new (Some mended) span copied sectioned buffer c e list placed moved none next plain kept was =
    let done = rests-go-on ⊥ among given old new span copied sectioned buffer c e list placed moved next plain kept was.in_course in (
      record {
        in_course = done.0;
        ends = λ some aside. absurd aside;
        whole = λ some so. whole-on given old new moved list (was.whole some so);
        rows = λ so x below. absurd (none-relied new.newest moved.placed.fit mended x none below);
      },
      λ stands. record {
        in_course = done.1 stands;
        ends = λ some aside. absurd aside;
        whole = λ some so. whole-on given old new moved list (was.whole some so);
        rows = λ so x below. absurd (none-relied new.newest moved.placed.fit mended x none below);
      },
    )

-- ---- the position moves

module _ (sound : Type 0) (given : Given) (old new : Members) (span : Span) (course : Course) (buffer former : List ℕ) (c e : Contents) (list : ℕ → Sector) (mended : ℕ)
    (placed : IsPlaced given old) (none : mended ≡ 0) (next : next_window old.newest ≡ Some span) (moved : IsMoved given (moved_past span old) new)
    (was : StandsSynced sound AnyShape (Some mended) old course former c list) (done : StandsInCourse ⊥ AnyShape new (closed 0) buffer e list) where
  active : is_reshaping new.newest ≡ true
  active = moved.reshape.reshaping ∙ is-reshaping old.newest span next

  long : list_length new.newest ≡ list_length old.newest
  long = list-alike (moved_past span old).newest new.newest moved.reshape moved.shape moved.size

  -- forward, or the position is before the list's end
  way : (is_backward new.newest ≡ false) ⊎ (new.newest.reshape_position < list_length new.newest)
  way = of (is_backward old.newest) refl
    where
      of : (b : Bool) → is_backward old.newest ≡ b → (is_backward new.newest ≡ false) ⊎ (new.newest.reshape_position < list_length new.newest)
      of false forth = inl (moved.reshape.backward ∙ forth)
      of true back = inr (
          let here : new.newest.reshape_position ≡ span.lo = moved.reshape.position ∙ ap (λ (b : Bool). beyond b span) back in
          let filled = window-filled old.newest placed.fit span next in
          let inside = window-inside old.newest placed.fit span next in
          let same = long in
          omega (arith, here, filled, inside, same))

  whole-closed : sound → ((x : ℕ) → IsResyncSector old.newest x → IsSector (list x)) → (x : ℕ) → IsResyncSector new.newest x → IsSector (list x)
  whole-closed so whole x (inl low) = whole x (inl (subst (λ (n : ℕ). x < n) long low))
  whole-closed so whole x (inr under) = elim (cases_lt x (list_length new.newest)) [
    | inl low ↦ whole x (inl (subst (λ (n : ℕ). x < n) long low))
    | inr past ↦ elim way [
      | inl forth ↦ subst IsSector (sym (done.zeros forth x past)) zero-is-sector
      | inr before ↦ absurd (none-ends new.newest moved.placed.fit active x past under before)
    ]
  ]

  pub closed-mended : StandsSynced sound AnyShape (Some mended) new (closed 0) buffer e list
  closed-mended = record {
    in_course = done;
    ends = λ some aside own. tails-are-ends new e list moved.placed.fit active way (done.tail tt);
    whole = λ some so. whole-closed so (was.whole some so);
    rows = λ so x below. absurd (none-relied new.newest moved.placed.fit mended x none below);
  }

pub mended-records-close : (sound : Type 0) → SyncedRecordsClose sound
mended-records-close sound scope given old new None span sectioned buffer c e list backed placed none next moved others was =
    (none-pending sound AnyShape new (closed 0) buffer e list).0 (records-close sound scope given old new span sectioned buffer c e list backed placed next moved others
    ((none-pending sound AnyShape old (entered span (stripes (final_shape old.newest) span.lo span.hi) sectioned) buffer c list).1 was))
mended-records-close sound scope given old new (Some mended) span sectioned buffer c e list backed placed none next moved others was =
    closed-mended sound given old new span (entered span (stripes (final_shape old.newest) span.lo span.hi) sectioned) buffer buffer c e list mended placed none next moved was
    (records-close ⊥ scope given old new span sectioned buffer c e list backed placed next moved others was.in_course)

pub mended-finishes-close : (sound : Type 0) → SyncedFinishesClose sound
mended-finishes-close sound given old new None span copied sectioned buffer c e list placed none moved next plain kept stands was =
    (none-pending sound AnyShape new (closed 0) buffer e list).0 (finishes-close sound given old new span copied sectioned buffer c e list placed moved next plain kept stands
    ((none-pending sound AnyShape old (entered span copied sectioned) buffer c list).1 was))
mended-finishes-close sound given old new (Some mended) span copied sectioned buffer c e list placed none moved next plain kept stands was =
    closed-mended sound given old new span (entered span copied sectioned) buffer buffer c e list mended placed none next moved was
    (finishes-close ⊥ given old new span copied sectioned buffer c e list placed moved next plain kept stands was.in_course)
