-- How the list stands on members without an active reshape: in the words of one shape and in those of regions, and on fewer members.
use Rattle.std.proofs.Common.{◌≡◌, ℕ, ◌*◌, ◌<◌, Option, Some, None, [], sym, ap, subst, arith}
use Rattle.array_reshaping_invariant.specs.raid_types_Sectors.{Sector}
use Rattle.array_reshaping_invariant.specs.raid_types_the_Shape.{Shape}
use Rattle.array_reshaping_invariant.specs.bank_Given.{Given, sizes}
use Rattle.array_reshaping_invariant.specs.bank_Tape.{Contents}
use Rattle.array_reshaping_invariant.specs.raid_layout_Layout.{place}
use Rattle.array_reshaping_invariant.proofs.raid_layout_Places.{place-sector_below}
use Rattle.array_reshaping_invariant.specs.sb_specs_the_Members.{Members}
use Rattle.array_reshaping_invariant.specs.sb_specs_Reading.{Scope, shape_of, list_length}
use Rattle.array_reshaping_invariant.specs.crash_views_Regions.{ArePlaced}
use Rattle.array_reshaping_invariant.specs.crash_views_Windows.{ListStands as ListIsShown, RowsStand as RowsAreShown}
use Rattle.array_reshaping_invariant.proofs.crash_views_Stands.{list-still, still-stands}
use Rattle.array_reshaping_invariant.specs.crash_safety_laws_Marking.{AreOthersPresent}
use Rattle.array_reshaping_invariant.specs.array_members_the_Work.{Work}
use Rattle.array_reshaping_invariant.specs.array_members_Lacking.{ListStands, RowsStand, RowsStandAmong, RowsStandBelow, synced_rows}
use Rattle.array_reshaping_invariant.specs.array_members_Moving.{IsMoved}
use Rattle.array_reshaping_invariant.specs.array_members_Placed.{IsPlaced}
use Rattle.array_reshaping_invariant.proofs.array_members_Fit.{valid, multiple, list-alike}
use Rattle.array_reshaping_invariant.proofs.array_members_LackingLists.{list-moved, among-moved}
use Rattle.array_reshaping_invariant.proofs.array_members_Still.{placed-two, backup-still}
use Rattle.array_reshaping_invariant.proofs.array_call_specs_DegradedLaws.{rebuilt-moved}
use Rattle.array_fixed_invariant.specs.Still.{AreAtRest, HasListStood}

-- ---- on fewer members

-- as many rows are mended
pub mended-moved : {given : Given} {old new : Members} → IsMoved given old new → (resync : Option ℕ) → synced_rows resync new ≡ synced_rows resync old
mended-moved moved None = moved.size
mended-moved moved (Some mended) = ap (λ (s : Shape). mended * s.chunk) moved.shape

-- the list stands on, where every sector but the superblocks stays
pub stood-moved : (sound : Type 0) (work : Work) (given : Given) (old new : Members) (before after : Contents) (list : ℕ → Sector) → IsMoved given old new → IsPlaced given old → AreOthersPresent before after
    → HasListStood sound work old before list → HasListStood sound work new after list
stood-moved sound work given old new before after list moved was others l = record {
  stands = list-moved given old new before after list moved was others l.stands;
  whole = λ so x lt. l.whole so x (subst (λ (n : ℕ). x < n) (list-alike old.newest new.newest moved.reshape moved.shape moved.size) lt);
  rows = λ so. subst (λ (n : ℕ). RowsStandBelow n new after list) (sym (mended-moved moved work.resync))
      (among-moved (shape_of new.newest) (λ row. row < synced_rows work.resync old) given old new before after list moved was others
      (subst (λ (s : Shape). RowsStandAmong s (λ row. row < synced_rows work.resync old) old before list) (sym moved.shape) (l.rows so)));
  rebuilt = λ so. rebuilt-moved work given old new before after list moved was others (l.rebuilt so);
}

-- ---- in the words of regions

module _ (given : Given) (m : Members) (rest : AreAtRest given m) where
  -- no backup is asked of members without a reshape
  abbrev alone : Scope
  alone = record { uuid = []; given = 0; backup = None; sizes = sizes given }

  placed : ArePlaced alone given m
  placed = placed-two alone given m rest.placed (backup-still alone m.newest rest.still) (λ role slot held none. absurd (cc))

  pub list-shown : (c : Contents) (list : ℕ → Sector) → ListStands m c list → ListIsShown None m c list
  list-shown c list stands = (still-stands alone given m c list placed rest.still).0.1 stands

  pub shown-list : (c : Contents) (list : ℕ → Sector) → ListIsShown None m c list → ListStands m c list
  shown-list c list shown = (still-stands alone given m c list placed rest.still).0.0 shown

  pub rows-shown : (c : Contents) (list : ℕ → Sector) → RowsStand m c list → RowsAreShown None m c list
  rows-shown c list stands = (still-stands alone given m c list placed rest.still).1.1 stands

  pub shown-rows : (c : Contents) (list : ℕ → Sector) → RowsAreShown None m c list → RowsStand m c list
  shown-rows c list shown = (still-stands alone given m c list placed rest.still).1.0 shown

  -- a row of the members has its sectors in the list
  pub sector-inside : (x : ℕ) → (place (shape_of m.newest) x).row < m.newest.size → x < list_length m.newest
  sector-inside x lt =
      let below = place-sector_below (shape_of m.newest) (valid given m rest.placed) x m.newest.size (multiple given m rest.placed) lt in
      let long = list-still m.newest rest.still in
      omega (arith, below, long)
