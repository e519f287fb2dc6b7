-- The sectors of the next window stand by the old shape, and so do all of their rows.
use Rattle.std.proofs.Common.{◌≡◌, inl, inr, ℕ, ◌+◌, ◌-◌, ◌<◌, ◌≤◌, nat_lt, Bool, true, false, if◌then◌else◌, [], Option, Some, None, unwrap_or, option_map, refl, sym, ◌∙◌, ap, subst, arith}
use Rattle.std.specs.Int.{◌∣◌}
use Rattle.std.proofs.lemmas.Bool.{cases_lt}
use Rattle.std.proofs.lemmas.Bool.Decides.{nat_tests}
use Rattle.raid_layout.specs.raid_types_the_Shape.{Shape}
use Rattle.raid_layout.specs.raid_types_the_Span.{Span}
use Rattle.raid_layout.specs.raid_types_the_Side_TheVariants.{Old}
use Rattle.raid_layout.specs.raid_types_Sectors.{Sector}
use Rattle.reshape_begin_end.specs.bank_Tape.{Contents}
use Rattle.raid_layout.specs.Layout.{place}
use Rattle.reshape_begin_end.specs.reshape_geometry_Geometry.{unit, list_end, side, window, row_at, IsIn}
use Rattle.reshape_begin_end.proofs.reshape_geometry_Divisions.{quotient}
use Rattle.reshape_begin_end.proofs.reshape_geometry_Valid.{the_unit}
use Rattle.reshape_begin_end.specs.stripe_region_laws_Regions.{IsUnderWay}
use Rattle.reshape_begin_end.proofs.stripe_region_laws_RegionLaws.{by-old, forward-is, backward-is, new-ahead, new-behind}
use Rattle.reshape_begin_end.specs.sb_specs_the_Members.{Members}
use Rattle.reshape_begin_end.specs.sb_specs_Reading.{is_backward, shape_of, final_shape, list_length, next_window, data_offset_of}
use Rattle.reshape_begin_end.specs.stripe_row_Rows.{reading_of, is_held, held_sector}
use Rattle.reshape_begin_end.specs.stripe_list_Full.{DataStands}
use Rattle.reshape_begin_end.specs.stripe_list_Calls.{IsListed}
use Rattle.reshape_begin_end.specs.history_Stands.{shape_for}
use Rattle.reshape_begin_end.specs.crash_views_Regions.{AreShapesFit}
use Rattle.reshape_begin_end.specs.crash_views_Windows.{ListStands}
use Rattle.reshape_begin_end.proofs.crash_views_Stands.{StandsAt, data-from}
use Rattle.reshape_begin_end.proofs.crash_views_UnderWay.{is-reshaping, window-is, under-way, shape-on, side-or}
use Rattle.reshape_window_rows.specs.Copies.{AreLackingGood}

-- ---- the window's sectors, and those of their rows

-- a window lies in the list, and each of its sectors is old, as is each sector of the list in one of their rows
pub record IsOldWindow (old new : Shape) (size : ℕ) (back : Bool) (position : ℕ) (span : Span) : Type 0 where
  pub order : span.lo ≤ span.hi
  pub inside : span.hi ≤ list_end old new size
  pub rows : (x y : ℕ) → IsIn x span → y < list_end old new size → row_at old y ≡ row_at old x → side back position y ≡ Old

ahead-window : (old new : Shape) (size position : ℕ) (span : Span) → IsUnderWay old new size false position → window old new size false position ≡ Some span → IsOldWindow old new size false position span
ahead-window old new size position span way is =
    let at = forward-is old new size position span is in
    let lo = at.1 in
    let hi = at.2 in
    let on : unit old new ∣ position = elim way.on_unit [ inl on ↦ on | inr last ↦ absurd (let below = at.0 in omega (arith, below, last)) ] in
    let some = (the_unit old new way.force.old_valid way.force.new_valid).positive in
    record {
      order = let below = at.0 in omega (arith, lo, hi, below, some);
      inside = omega (arith, hi);
      rows = λ x y inside within same. elim (side-or false position y) [
        | inl is-old ↦ is-old
        | inr is-new ↦ absurd (
            let a = (by-old old new size way.force position on).low y (new-ahead position y is-new) in
            let b = (by-old old new size way.force position on).high x (let low = inside.0 in omega (arith, low, lo)) in
            omega (arith, a, b, same)
            )
      ];
    }

behind-window : (old new : Shape) (size position : ℕ) (span : Span) → IsUnderWay old new size true position → window old new size true position ≡ Some span → IsOldWindow old new size true position span
behind-window old new size position span way is =
    let at = backward-is old new size position span is in
    let lo = at.1 in
    let hi = at.2 in
    let some = (the_unit old new way.force.old_valid way.force.new_valid).positive in
    let below = (quotient (position - 1) (unit old new) some).0 in
    let in-list = way.within in
    record {
      order = omega (arith, lo, hi, below);
      inside = omega (arith, hi, in-list);
      rows = λ x y inside within same. elim (side-or true position y) [
        | inl is-old ↦ is-old
        | inr is-new ↦ absurd (
            let from = new-behind position y is-new in
            elim way.on_unit [
              | inl on ↦ (
                  let a = (by-old old new size way.force position on).high y from in
                  let b = (by-old old new size way.force position on).low x (let high = inside.1 in omega (arith, high, hi)) in
                  omega (arith, a, b, same))
              | inr last ↦ omega (arith, from, last, within)
            ]
            )
      ];
    }

old-window : (old new : Shape) (size : ℕ) (back : Bool) (position : ℕ) (span : Span) → IsUnderWay old new size back position → window old new size back position ≡ Some span
    → IsOldWindow old new size back position span
old-window old new size false position span way is = ahead-window old new size position span way is
old-window old new size true position span way is = behind-window old new size position span way is

-- ---- what is held

held-is : (b : Bool) (h : Option ℕ) (f : ℕ → Sector) (slot : ℕ) → (if b then h else None) ≡ Some slot → (if b then option_map f h else None) ≡ Some (f slot)
held-is true h f slot is = ap (option_map f) is
held-is false h f slot is = absurd (cc)

module _ (old new : Members) (fit : AreShapesFit old.newest) (span : Span) (next : next_window old.newest ≡ Some span) where
  pub the-window : IsOldWindow (shape_of old.newest) (final_shape old.newest) old.newest.size (is_backward old.newest) old.newest.reshape_position span
  the-window = old-window (shape_of old.newest) (final_shape old.newest) old.newest.size (is_backward old.newest) old.newest.reshape_position span
      (under-way old.newest fit (is-reshaping old.newest span next)) (window-is old.newest span next)

  module _ (c : Contents) (list : ℕ → Sector) (stands : ListStands None old c list) where
    -- the list, and behind its end what is held there
    filled : ℕ → Sector
    filled x = if nat_lt x (list_length old.newest) then list x else unwrap_or (held_sector c (reading_of old) (place (shape_of old.newest) x).role (place (shape_of old.newest) x).row) []

    filled-in : (x : ℕ) → x < list_length old.newest → filled x ≡ list x
    unfolding filled
    filled-in x lt =
        let is : nat_lt x (list_length old.newest) ≡ true = grind (arith, nat_tests, lt) in
        ap (λ (b : Bool). if b then list x else unwrap_or (held_sector c (reading_of old) (place (shape_of old.newest) x).role (place (shape_of old.newest) x).row) []) is

    filled-past : (x : ℕ) → list_length old.newest ≤ x → filled x ≡ unwrap_or (held_sector c (reading_of old) (place (shape_of old.newest) x).role (place (shape_of old.newest) x).row) []
    unfolding filled
    filled-past x ge =
        let is : nat_lt x (list_length old.newest) ≡ false = grind (arith, nat_tests, ge) in
        ap (λ (b : Bool). if b then list x else unwrap_or (held_sector c (reading_of old) (place (shape_of old.newest) x).role (place (shape_of old.newest) x).row) []) is

    data-filled : (x : ℕ) → IsIn x span → DataStands (reading_of old) c (shape_of old.newest) filled (place (shape_of old.newest) x).row
    data-filled x inside =
        let shape : Shape = shape_of old.newest in
        let r = reading_of old in
        data-from old c filled shape fit.valid.old (place shape x).row (λ y at slot held. elim (cases_lt y (list_length old.newest)) [
          | inl below ↦
              let is : shape_for old.newest y ≡ shape = shape-on old.newest (is-reshaping old.newest span next) y Old (the-window.rows x y inside below at) in
              subst (λ (s : Shape). StandsAt old c list y (place s y)) is (λ slot held. stands y slot (record { within = below; outside = refl }) held) slot held ∙ sym (filled-in y below)
          | inr past ↦
              sym (filled-past y past
              ∙ ap (λ (o : Option Sector). unwrap_or o []) (held-is (is_held r (place shape y).role (place shape y).row) _ (λ slot. c slot (data_offset_of r slot + (place shape y).row)) slot held))
        ])

    pub window-read : (synced : Bool) (x : ℕ) (sector : Sector) → IsIn x span → IsListed (shape_of old.newest) synced (reading_of old) (reading_of new) c x sector
        → (synced ≡ true → AreLackingGood (reading_of old) (reading_of new) c (shape_of old.newest) span list) → sector ≡ list x
    window-read synced x sector inside listed good = of synced (is_held (reading_of new) (place (shape_of old.newest) x).role (place (shape_of old.newest) x).row) refl refl
      where
        below : x < list_length old.newest
        below = let high = inside.1 in let in-list = the-window.inside in omega (arith, high, in-list)

        of : (s h : Bool) → synced ≡ s → is_held (reading_of new) (place (shape_of old.newest) x).role (place (shape_of old.newest) x).row ≡ h → sector ≡ list x
        of false h dirty is = listed filled (data-filled x inside) (λ clean lacks. absurd (let both = sym dirty ∙ clean in cc)) ∙ filled-in x below
        of true true clean is = listed filled (data-filled x inside) (λ same lacks. absurd (let both = sym is ∙ lacks in cc)) ∙ filled-in x below
        of true false clean is = listed list (good clean x inside is).sectors (λ same lacks. good clean x inside lacks)
