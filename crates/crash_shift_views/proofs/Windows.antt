-- What a window writes stands before each old row that is read, and in no new one.
use Rattle.std.proofs.Common.{◌≡◌, ◌⊎◌, inl, inr, ℕ, ◌+◌, ◌-◌, ◌<◌, false, cond, Some, None, List, [], slice_index_or, min, refl, sym, ap, ap₂, ◌∙◌, arith}
use Rattle.std.proofs.lemmas.Bool.{cases_lt}
use Rattle.std.specs.Option.{option_map_or}
use Rattle.history.specs.raid_types_the_Shape.{Shape}
use Rattle.history.specs.raid_types_the_Span.{Span}
use Rattle.history.specs.raid_types_the_Side.{Side}
use Rattle.history.specs.raid_types_the_Side_TheVariants.{Old, New}
use Rattle.history.specs.raid_types_Search.{tabulate}
use Rattle.history.specs.raid_types_Sectors.{Sector}
use Rattle.history.specs.bank_Tape.{Contents, IsDrawn, IsIn as IsOneOf}
use Rattle.history.specs.raid_layout_Layout.{place}
use Rattle.history.specs.reshape_geometry_Geometry.{side, window, rows, list_end, unit, IsIn}
use Rattle.history.specs.sb_specs_Reading.{Scope, Reading, reading, shape_of, final_shape, list_length, next_window, role_state, holder, data_offset_of}
use Rattle.history.proofs.SameLaws.{HaveSameMembers, read-same}
use Rattle.history.proofs.raid_parity_Columns.{tabulate-same}
use Rattle.reshape_shift_laws.proofs.stripe_region_laws_RegionLaws.{forward-is}
use Rattle.reshape_shift_laws.specs.Shifts.{IsShiftedRow}
use Rattle.reshape_shift_laws.proofs.ShiftLaws.{windows-overwrite-nothing}
use Rattle.crash_shift_views.specs.Shifted.{down_by, own_shift, new_offset_of, placed_from, shifted_sector, shifted_list}
use Rattle.crash_shift_views.specs.Steps.{IsShiftingReading, IsWindowSector, IsWindowWritten, CopiedWindowsReadAlike, CopiedImagesStandAlike, IsCopied, CopiesStayRight, recorded, RecordedWindowsStand, AreRolesAlike}
use Rattle.crash_shift_views.proofs.Alike.{placed-alike, alike-self, side-is, below-is-new, above-is-old}

-- ---- the window of a reading

module _ (r : Reading) (is : IsShiftingReading r) where
  by : (slot : ℕ) → new_offset_of r slot ≡ data_offset_of r slot - down_by r.newest.new_offset
  by slot = ap (λ b. data_offset_of r slot - cond b (down_by r.newest.new_offset) (own_shift r slot)) is.shifted

  window-is : (span : Span) → next_window r.newest ≡ Some span → window (shape_of r.newest) (final_shape r.newest) r.newest.size false r.newest.reshape_position ≡ Some span
  window-is span e =
      sym (ap₂ (λ a b. cond a (window (shape_of r.newest) (final_shape r.newest) r.newest.size b r.newest.reshape_position) None) is.active is.forth) ∙ e

  module _ (span : Span) (next : next_window r.newest ≡ Some span) (c e : Contents) (written : IsWindowWritten r span c e) (x : ℕ) (lt : x < list_length r.newest) where
    overwrites-nothing : (row : ℕ) → IsIn row (rows (final_shape r.newest) span.lo span.hi)
        → IsShiftedRow (shape_of r.newest) (final_shape r.newest) r.newest.size r.newest.reshape_position (down_by r.newest.new_offset) span row
    overwrites-nothing row within =
        windows-overwrite-nothing (shape_of r.newest) (final_shape r.newest) r.newest.size r.newest.reshape_position (down_by r.newest.new_offset) span row
        (record { way = is.way; enough = is.enough }) (window-is span next) within

    old-cell : side false r.newest.reshape_position x ≡ Old → (role slot : ℕ) → holder (role_state r role) ≡ Some slot
        → e slot (data_offset_of r slot + (place (shape_of r.newest) x).row) ≡ c slot (data_offset_of r slot + (place (shape_of r.newest) x).row)
    old-cell is_old role slot held = elim (written slot (data_offset_of r slot + (place (shape_of r.newest) x).row)) [
      | inl same ↦ same
      | inr w ↦ (
          let room = is.room role slot held in
          let before = (overwrites-nothing w.row w.written).before (data_offset_of r slot) x (omega (arith, room)) lt is_old in
          let at = w.place_is in
          absurd (omega (arith, before, at, by slot)))
    ]

    new-cell : side false r.newest.reshape_position x ≡ New → (slot : ℕ)
        → e slot (new_offset_of r slot + (place (final_shape r.newest) x).row) ≡ c slot (new_offset_of r slot + (place (final_shape r.newest) x).row)
    new-cell is_new slot = elim (written slot (new_offset_of r slot + (place (final_shape r.newest) x).row)) [
      | inl same ↦ same
      | inr w ↦ absurd ((overwrites-nothing w.row w.written).behind x lt is_new (let at = w.place_is in omega (arith, at)))
    ]

    by_side : (s : Side) → side false r.newest.reshape_position x ≡ s → shifted_sector e r x ≡ shifted_sector c r x
    by_side Old is_old =
        side-is e r x Old is.active is.forth is_old
        ∙ placed-alike (data_offset_of r) (data_offset_of r) c e r r (shape_of r.newest) is.way.force.old_valid x (alike-self (shape_of r.newest) r) (λ role slot below held. old-cell is_old role slot held)
        ∙ sym (side-is c r x Old is.active is.forth is_old)
    by_side New is_new =
        side-is e r x New is.active is.forth is_new
        ∙ placed-alike (new_offset_of r) (new_offset_of r) c e r r (final_shape r.newest) is.way.force.new_valid x (alike-self (final_shape r.newest) r) (λ role slot below held. new-cell is_new slot)
        ∙ sym (side-is c r x New is.active is.forth is_new)

    pub copied : shifted_sector e r x ≡ shifted_sector c r x
    copied = by_side (side false r.newest.reshape_position x) refl

pub copied-alike : CopiedWindowsReadAlike
copied-alike c e r span x is next written lt = copied r is span next c e written x lt

-- ---- whole images

-- the superblocks lie before all rows
members-same : (scope : Scope) (c e : Contents) (r : Reading) (span : Span) → IsShiftingReading r → IsWindowWritten r span c e → HaveSameMembers scope e c
members-same scope c e r span is written = record { eighth = λ slot seen. at slot 8 (omega arith); ninth = λ slot seen. at slot 9 (omega arith) }
  where
    at : (slot k : ℕ) → k < 10 → e slot k ≡ c slot k
    at slot k lt = elim (written slot k) [
      | inl same ↦ same
      | inr w ↦ absurd (let far = w.behind in omega (arith, far, lt))
    ]

pub images-alike : CopiedImagesStandAlike
unfolding shifted_list
images-alike scope c e r span found is next written =
    let same : reading scope e ≡ Some r = read-same scope e c (members-same scope c e r span is written) ∙ found in (
      same,
      ap (λ o. option_map_or (λ r. tabulate (list_length r.newest) (shifted_sector e r)) o []) same
          ∙ tabulate-same (list_length r.newest) (shifted_sector e r) (shifted_sector c r) (λ x lt. copied-alike c e r span x is next written lt)
          ∙ sym (ap (λ o. option_map_or (λ r. tabulate (list_length r.newest) (shifted_sector c r)) o []) found),
    )

-- ---- the position moves

module _ (c : Contents) (r : Reading) (span : Span) (list : ℕ → Sector) (is : IsShiftingReading r) (next : next_window r.newest ≡ Some span)
    (outside : (x : ℕ) → x < list_length r.newest → (IsIn x span → ⊥) → shifted_sector c r x ≡ list x)
    (inside : (x : ℕ) → IsIn x span → placed_from (new_offset_of r) c r (final_shape r.newest) x ≡ list x) where
  at : (r.newest.reshape_position < list_end (shape_of r.newest) (final_shape r.newest) r.newest.size) × (span.lo ≡ r.newest.reshape_position)
      × (span.hi ≡ min (r.newest.reshape_position + unit (shape_of r.newest) (final_shape r.newest)) (list_end (shape_of r.newest) (final_shape r.newest) r.newest.size))
  at = forward-is (shape_of r.newest) (final_shape r.newest) r.newest.size r.newest.reshape_position span (window-is r is span next)

  shape-alike : (shape : Shape) → AreRolesAlike shape r (recorded span r)
  shape-alike shape = record { roles = λ role lt. refl; rows = λ role lt. refl }

  new-is : (x : ℕ) → x < span.hi → shifted_sector c (recorded span r) x ≡ placed_from (new_offset_of r) c r (final_shape r.newest) x
  new-is x lt =
      side-is c (recorded span r) x New is.active is.forth (below-is-new span.hi x lt)
      ∙ placed-alike (new_offset_of r) (new_offset_of (recorded span r)) c c r (recorded span r) (final_shape r.newest) is.way.force.new_valid x (shape-alike (final_shape r.newest)) (λ role slot below held. refl)

  pub recorded-stands : (x : ℕ) → x < list_length r.newest → shifted_sector c (recorded span r) x ≡ list x
  recorded-stands x lt = elim (cases_lt x span.hi) [
    | inl below ↦ elim (cases_lt x span.lo) [
      | inl passed ↦
          let is_new : side false r.newest.reshape_position x ≡ New = below-is-new r.newest.reshape_position x (let e = at.1 in omega (arith, passed, e)) in
          new-is x below ∙ sym (side-is c r x New is.active is.forth is_new) ∙ outside x lt (λ within. omega (arith, passed, within.0))
      | inr from ↦ new-is x below ∙ inside x (from, below)
    ]
    | inr past ↦
        let was_old : side false r.newest.reshape_position x ≡ Old = above-is-old r.newest.reshape_position x (let e = at in omega (arith, past, e.0, e.1, e.2)) in
        side-is c (recorded span r) x Old is.active is.forth (above-is-old span.hi x past)
        ∙ placed-alike (data_offset_of r) (data_offset_of (recorded span r)) c c r (recorded span r) (shape_of r.newest) is.way.force.old_valid x (shape-alike (shape_of r.newest)) (λ role slot below held. refl)
        ∙ sym (side-is c r x Old is.active is.forth was_old) ∙ outside x lt (λ within. omega (arith, past, within.1))
  ]

pub windows-recorded : RecordedWindowsStand
windows-recorded c r span list is next outside inside x lt = recorded-stands c r span list is next outside inside x lt

-- ---- each image

-- before the copy, where a place of the window had some value
module _ (first : Reading) (span : Span) (d e : ℕ → ℕ → List Sector) (somewhere : (s k : ℕ) → (v : Sector) × IsOneOf (d s k) v) (copying : IsCopied first span d e)
    (c : Contents) (drawn : IsDrawn e c) where
  of_before : (s k : ℕ) → ((v : Sector) → IsOneOf (e s k) v → IsOneOf (d s k) v) ⊎ IsWindowSector first span s k → Sector
  of_before s k (inl less) = c s k
  of_before s k (inr w) = (somewhere s k).0

  was-drawn : IsDrawn d (λ s k. of_before s k (copying s k))
  unfolding of_before
  was-drawn s k = by (copying s k)
    where
      by : (how : ((v : Sector) → IsOneOf (e s k) v → IsOneOf (d s k) v) ⊎ IsWindowSector first span s k) → IsOneOf (d s k) (of_before s k how)
      by (inl less) = less (c s k) (drawn s k)
      by (inr w) = (somewhere s k).1

  was-written : (r : Reading) → final_shape r.newest ≡ final_shape first.newest → ((slot : ℕ) → new_offset_of r slot ≡ new_offset_of first slot)
      → IsWindowWritten r span (λ s k. of_before s k (copying s k)) c
  unfolding of_before
  was-written r shape offsets s k = by (copying s k)
    where
      by : (how : ((v : Sector) → IsOneOf (e s k) v → IsOneOf (d s k) v) ⊎ IsWindowSector first span s k) → (c s k ≡ of_before s k how) ⊎ IsWindowSector r span s k
      by (inl less) = inl refl
      by (inr w) = inr (record {
        row = w.row;
        behind = w.behind;
        written = rw shape w.written;
        place_is = w.place_is ∙ ap (λ n. n + w.row) (sym (offsets s));
      })

pub copies-right : CopiesStayRight
copies-right scope n values first span d e somewhere copying right c drawn =
    let before = right (λ s k. of_before first span d e somewhere copying c drawn s k (copying s k)) (was-drawn first span d e somewhere copying c drawn) in
    let alike = images-alike scope (λ s k. of_before first span d e somewhere copying c drawn s k (copying s k)) c before.found span before.is before.shifting before.next
    (was-written first span d e somewhere copying c drawn before.found before.shape before.offsets) in
    record {
      found = before.found;
      is = alike.0;
      shifting = before.shifting;
      next = before.next;
      shape = before.shape;
      offsets = before.offsets;
      sized = before.sized;
      allowed = λ fine x lt. rw (ap (λ l. slice_index_or l x []) alike.1) (before.allowed fine x lt);
    }
