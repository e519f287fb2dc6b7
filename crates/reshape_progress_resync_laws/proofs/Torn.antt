-- A write that is cut leaves what stands by the shapes that place none of its sectors.
use Rattle.std.proofs.Common.{◌≡◌, ℕ, ◌+◌, ◌*◌, ◌<◌, ◌≤◌, Some, sym, ◌∙◌, ap, subst, arith}
use Rattle.reshape_progress.specs.raid_types_the_Shape.{Shape}
use Rattle.reshape_progress.specs.raid_layout_Layout.{place}
use Rattle.reshape_progress.specs.sb_specs_Reading.{list_length, data_offset_of}
use Rattle.reshape_progress.specs.stripe_row_Rows.{reading_of, held_slot}
use Rattle.reshape_progress.proofs.stripe_row_Losses.{holder-of}
use Rattle.reshape_progress.specs.stripe_list_Full.{RowStands}
use Rattle.reshape_progress.specs.history_Stands.{shape_for}
use Rattle.reshape_progress.specs.crash_views_Regions.{place_by}
use Rattle.reshape_progress.proofs.array_members_Fit.{for-alike, list-alike}
use Rattle.reshape_progress.proofs.array_members_HeldRows.{held-moved}
use Rattle.reshape_progress.proofs.reshape_window_steps_CopyLaws.{row-later}
use Rattle.stripe_region_resync.proofs.stripe_region_write_LowRuns.{low-rows}
use Rattle.stripe_region_resync.proofs.stripe_region_write_Together.{rows-together, together-shape}
use Rattle.stripe_region_resync.specs.Mends.{low_shape, low_stripes}
use Rattle.stripe_region_resync.proofs.Alike.{low-alike, low-stripes-alike, relied-alike}
use Rattle.reshape_progress.proofs.Writes.{torn-writes-go-on}
use Rattle.reshape_progress_resync_laws.specs.Mended.{SyncedTornWritesGoOn}
use Rattle.reshape_progress_resync_laws.proofs.Mended.{whole-on}

pub mended-torn-writes-go-on : (sound : Type 0) (among : Shape → Type 0) → SyncedTornWritesGoOn sound among
mended-torn-writes-go-on sound among scope given old new resync course buffer c e list first to placed active moved course-is within beside kept was = record {
  in_course = torn-writes-go-on ⊥ among scope given old new course buffer c e list first to placed active moved course-is within beside kept was.in_course;
  ends = λ some aside new-own x slot new-past new-under held.
      let own : among (low_shape old.newest) = subst among low new-own in
      let past : list_length old.newest ≤ x = subst (λ (n : ℕ). n ≤ x) long new-past in
      let under : (place (low_shape old.newest) x).row < low_stripes old.newest * (low_shape old.newest).chunk =
      subst (λ (s : Shape). (place s x).row < low_stripes old.newest * s.chunk) low (subst (λ (n : ℕ). (place (low_shape new.newest) x).row < n * (low_shape new.newest).chunk) stripes-same new-under) in
      subst (λ (s : Shape). held_slot (reading_of new) (place s x).role (place s x).row ≡ Some slot → e slot (data_offset_of (reading_of new) slot + (place s x).row) ≡ list x) (sym low)
      (λ here.
      kept (place (low_shape old.newest) x).row
      (λ touched. touched.3 (subst among (sym (low-rows old.newest placed.fit (place (low_shape old.newest) x).row touched.0 under (let end = touched.2 in omega (arith, end, within)) touched.4)) own))
      (place (low_shape old.newest) x).role slot (holder-of (reading_of new) (place (low_shape old.newest) x).role (place (low_shape old.newest) x).row slot here)
      ∙ ap (λ (n : ℕ). c slot (n + (place (low_shape old.newest) x).row)) (moved.offsets slot)
      ∙ was.ends some aside own x slot past under (held-moved moved (place (low_shape old.newest) x).role (place (low_shape old.newest) x).row slot here)) held;
  whole = λ some so. whole-on given old new moved list (was.whole some so);
  rows = λ so x below new-own shown.
      let same = for-alike old.newest new.newest moved.reshape moved.shape moved.size x in
      let own : among (shape_for old.newest x) = subst among same new-own in
      let x-in : x < list_length old.newest = subst (λ (n : ℕ). x < n) long shown.within in
      subst (λ (s : Shape). RowStands (reading_of new) e s list (place s x).row) (sym same)
      (row-later given old new moved (shape_for old.newest x) list (place_by old.newest x).row c e
      (kept (place_by old.newest x).row (λ touched.
      (let y-in : touched.0 < list_length old.newest = (let end = touched.2 in omega (arith, end, within)) in
      touched.3 (subst among (sym (together-shape old.newest x touched.0 (rows-together old.newest placed.fit x touched.0 x-in y-in (sym touched.4)))) own))))
      (was.rows so x (subst (λ (n : ℕ). x < n) (relied-alike old.newest new.newest moved.reshape moved.shape moved.size resync) below) own (record { within = x-in; outside = shown.outside })));
}
  where
    low : low_shape new.newest ≡ low_shape old.newest
    low = low-alike old.newest new.newest moved.reshape moved.shape moved.size

    stripes-same : low_stripes new.newest ≡ low_stripes old.newest
    stripes-same = low-stripes-alike old.newest new.newest moved.reshape moved.shape moved.size

    long : list_length new.newest ≡ list_length old.newest
    long = list-alike old.newest new.newest moved.reshape moved.shape moved.size
