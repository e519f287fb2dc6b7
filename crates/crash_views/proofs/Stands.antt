-- How the list stands on members of one shape or two, before and after a window is recorded.
use Rattle.std.proofs.Common.{◌≡◌, ◌⊎◌, inl, inr, ℕ, ◌+◌, ◌-◌, ◌*◌, ◌/◌, ◌%◌, ◌<◌, ◌≤◌, ◌==◌, ◌&&◌, ◌||◌, nat_le, nat_lt, min, Bool, true, false, not, cond, List, [], ◌∷◌, Option, Some, None, unwrap_or, refl, sym, ◌∙◌, ap, subst, arith}
use Rattle.std.specs.Prelude.{IsTrue, IfSome}
use Rattle.std.proofs.lemmas.Bool.{cases_lt, eq-eqb}
use Rattle.std.proofs.lemmas.Bool.Decides.{nat_tests}
use Rattle.std.proofs.lemmas.Nat.{mod_below}
use Rattle.std.proofs.Math.Nat.{div-add-mod', div-mul_cancel}
use Rattle.history.specs.raid_types_the_Shape.{Shape}
use Rattle.history.specs.raid_types_the_Place.{Place}
use Rattle.history.specs.raid_types_the_Span.{Span}
use Rattle.history.specs.raid_types_the_Side.{Side}
use Rattle.history.specs.raid_types_the_Side_TheVariants.{Old, New}
use Rattle.history.specs.raid_types_the_Refusal.{Refusal}
use Rattle.history.specs.raid_types_the_Refusal_TheVariants.{PositionNotOnUnit}
use Rattle.history.specs.raid_types_Sectors.{Sector}
use Rattle.history.specs.raid_types_Shapes.{data_disks, is_valid_shape, is_multiple}
use Rattle.history.specs.bank_Given.{Given}
use Rattle.history.specs.bank_Tape.{Contents, IsIn}
use Rattle.history.specs.sb_codec_the_Sb.{Sb}
use Rattle.history.specs.raid_layout_Layout.{place}
use Rattle.stripe_list.proofs.raid_layout_Places.{chunk_some, data_some, place-sector, place-sector_below, place-role_below, sector_at}
use Rattle.history.specs.reshape_geometry_Geometry.{rows, side, window, beyond, unit, IsOnUnit}
use Rattle.history.specs.reshape_geometry_Geometry as geometry
use Rattle.stripe_region_laws.specs.Regions.{IsUnderWay}
use Rattle.history.proofs.reshape_geometry_GoingOn.{keeps_the_unit}
use Rattle.stripe_region_laws.proofs.RegionLaws.{forward-is, backward-is, new-ahead, old-ahead, new-behind, old-behind}
use Rattle.stripe_region_laws.proofs.reshape_geometry_Rows.{rows_hold}
use Rattle.history.specs.sb_specs_the_Members.{Members}
use Rattle.history.specs.sb_specs_Reading.{Scope, is_reshaping, is_backward, shape_of, final_shape, list_length, next_window, data_offset_of}
use Rattle.history.specs.sb_specs_Verdict.{off_unit, unit_of}
use Rattle.stripe_list.specs.stripe_row_Rows.{reading_of, held_slot}
use Rattle.stripe_list.proofs.stripe_row_Losses.{holder-of}
use Rattle.stripe_list.specs.Full.{DataStands, RowStands}
use Rattle.stripe_list.proofs.FullLaws.{data_here, full-data, sector_there}
use Rattle.history.specs.Stands.{shape_at, shape_for, covers}
use Rattle.crash_views.specs.Regions.{place_by, AreShapesFit, ArePlaced}
use Rattle.crash_views.specs.Views.{Disk, IsTailZero, IsSettled}
use Rattle.crash_views.specs.Windows.{ListStands, RowsStand, StillStands, moved_past, MovedStands, MovedRowsStand, MovedIsPlaced, AreHoldersFlushed, FlushedIsRight}
use Rattle.crash_views.proofs.Alike.{row-below, whole-chunks}
use Rattle.crash_views.proofs.UnderWay.{is-reshaping, window-is, under-way, shape-on, side-or}

-- ---- without a reshape

module _ (newest : Sb) (still : is_reshaping newest ≡ false) where
  pub for-still : (x : ℕ) → shape_for newest x ≡ shape_of newest
  for-still x = ap (λ (b : Bool). cond b (shape_at newest (side (is_backward newest) newest.reshape_position x)) (shape_of newest)) still

  pub final-still : final_shape newest ≡ shape_of newest
  final-still = ap (λ (target : Option Shape). unwrap_or target (shape_of newest))
      (ap (λ (b : Bool). cond b (Some (record { level = newest.new_level; layout = newest.new_layout; chunk = newest.new_chunk; disks = newest.raid_disks })) None) still)

  pub list-still : list_length newest ≡ data_disks (shape_of newest) * newest.size
  list-still = ap (λ (s : Shape). min (data_disks (shape_of newest)) (data_disks s) * newest.size) final-still ∙ ap (λ (n : ℕ). n * newest.size) (min-same (data_disks (shape_of newest)))
    where
      min-same : (n : ℕ) → min n n ≡ n
      min-same n = grind (arith, nat_tests)

module _ (m : Members) (c : Contents) (list : ℕ → Sector) where
  -- a sector stands at this place, where that is held
  abbrev pub StandsAt : ℕ → Place → Type 0
  StandsAt x p = (slot : ℕ) → held_slot (reading_of m) p.role p.row ≡ Some slot → c slot (data_offset_of (reading_of m) slot + p.row) ≡ list x

  -- a row that stands has each of its sectors
  pub data-at : (shape : Shape) → IsTrue (is_valid_shape shape) → (row : ℕ) → DataStands (reading_of m) c shape list row → (x : ℕ) → (place shape x).row ≡ row → StandsAt x (place shape x)
  data-at shape valid row stands x at slot held =
      let role : ℕ = (place shape x).role in
      let here : DataStands (reading_of m) c shape list (place shape x).row = subst (DataStands (reading_of m) c shape list) (sym at) stands in
      here role slot (place-role_below shape valid x) (data_here shape role (place shape x).row x valid refl) held ∙ full-data shape list role (place shape x).row x valid refl

  -- and the other way
  pub data-from : (shape : Shape) → IsTrue (is_valid_shape shape) → (row : ℕ) → ((x : ℕ) → (place shape x).row ≡ row → StandsAt x (place shape x)) → DataStands (reading_of m) c shape list row
  data-from shape valid row each role slot lt part held =
      let found = sector_there shape role row valid lt part in
      let at : StandsAt found.0 (record { role = role; row = row }) = subst (StandsAt found.0) found.1 (each found.0 (ap (λ (p : Place). p.row) found.1)) in
      at slot held ∙ sym (full-data shape list role row found.0 valid found.1)

module _ (scope : Scope) (given : Given) (m : Members) (c : Contents) (list : ℕ → Sector) (placed : ArePlaced scope given m) (still : is_reshaping m.newest ≡ false) where
  abbrev shape : Shape
  shape = shape_of m.newest

  inside : (x : ℕ) → (place shape x).row < m.newest.size → x < list_length m.newest
  inside x lt =
      let below = place-sector_below shape placed.fit.valid.old x m.newest.size (whole-chunks m.newest placed.fit shape placed.fit.size) lt in
      let long = list-still m.newest still in
      omega (arith, below, long)

  rows-of : ListStands None m c list → (row : ℕ) → row < m.newest.size → DataStands (reading_of m) c shape list row
  rows-of stands row lt = data-from m c list shape placed.fit.valid.old row (λ x at slot held.
      let within : x < list_length m.newest = inside x (omega (arith, at, lt)) in
      subst (λ (s : Shape). StandsAt m c list x (place s x)) (for-still m.newest still x) (λ slot held. stands x slot (record { within = within; outside = refl }) held) slot held)

  list-of : ((row : ℕ) → row < m.newest.size → DataStands (reading_of m) c shape list row) → ListStands None m c list
  list-of each x slot shown held =
      subst (λ (s : Shape). StandsAt m c list x (place s x)) (sym (for-still m.newest still x))
      (data-at m c list shape placed.fit.valid.old (place shape x).row (each (place shape x).row (subst (λ (s : Shape). (place s x).row < m.newest.size) (for-still m.newest still x) (row-below m.newest placed.fit x shown.within))) x refl) slot held

  all-rows : RowsStand None m c list → (row : ℕ) → row < m.newest.size → RowStands (reading_of m) c shape list row
  all-rows stands row lt =
      let x : ℕ = sector_at shape (row / shape.chunk) 0 (row % shape.chunk) in
      let at : (place shape x).row ≡ row =
      ap (λ (p : Place). p.row) (place-sector shape (row / shape.chunk) 0 (row % shape.chunk) (data_some shape placed.fit.valid.old) (mod_below row shape.chunk (chunk_some shape placed.fit.valid.old)))
      ∙ div-add-mod' row shape.chunk in
      subst (RowStands (reading_of m) c shape list) at
      (subst (λ (s : Shape). RowStands (reading_of m) c s list (place s x).row) (for-still m.newest still x) (stands x (record { within = inside x (omega (arith, at, lt)); outside = refl })))

  shown-rows : ((row : ℕ) → row < m.newest.size → RowStands (reading_of m) c shape list row) → RowsStand None m c list
  shown-rows each x shown =
      subst (λ (s : Shape). RowStands (reading_of m) c s list (place s x).row) (sym (for-still m.newest still x))
      (each (place shape x).row (subst (λ (s : Shape). (place s x).row < m.newest.size) (for-still m.newest still x) (row-below m.newest placed.fit x shown.within)))

pub still-stands : StillStands
still-stands scope given m c list placed still = (
  (rows-of scope given m c list placed still, list-of scope given m c list placed still),
  (all-rows scope given m c list placed still, shown-rows scope given m c list placed still),
)

-- ---- the position moves

outside-is : (span : Span) (x : ℕ) → (x < span.lo) ⊎ (span.hi ≤ x) → covers (Some span) x ≡ false
outside-is span x (inl low) = of span.lo span.hi low
  where
    of : (lo hi : ℕ) → x < lo → (nat_le lo x && nat_lt x hi) ≡ false
    of lo hi low = grind (arith, nat_tests, low)
outside-is span x (inr high) = of span.lo span.hi high
  where
    both : (a : Bool) → (a && false) ≡ false
    both true = refl
    both false = refl

    past : (hi : ℕ) → hi ≤ x → nat_lt x hi ≡ false
    past hi high = grind (arith, nat_tests, high)

    of : (lo hi : ℕ) → hi ≤ x → (nat_le lo x && nat_lt x hi) ≡ false
    of lo hi high = ap (λ (b : Bool). nat_le lo x && b) (past hi high) ∙ both (nat_le lo x)

-- what is new once the position has moved was new, or is the window's; what is still old was old, and isn't
module _ (old new : Shape) (size : ℕ) (span : Span) where
  sides-after : (back : Bool) (position x : ℕ) → window old new size back position ≡ Some span → side back (beyond back span) x ≡ New
      → geometry.IsIn x span ⊎ ((side back position x ≡ New) × (covers (Some span) x ≡ false))
  sides-after false position x is new-now =
      let at = forward-is old new size position span is in
      elim (cases_lt x span.lo) [
        | inl before ↦ inr (ap (λ (b : Bool). cond b New Old) (less x position (let e = at.1 in omega (arith, before, e))), outside-is span x (inl before))
        | inr from ↦ inl (from, new-ahead span.hi x new-now)
      ]
    where
      less : (a b : ℕ) → a < b → nat_lt a b ≡ true
      less a b lt = grind (arith, nat_tests, lt)
  sides-after true position x is new-now =
      let at = backward-is old new size position span is in
      elim (cases_lt x span.hi) [
        | inl before ↦ inl (new-behind span.lo x new-now, before)
        | inr from ↦ inr (ap (λ (b : Bool). cond b New Old) (less position x (let e = at.2 in omega (arith, from, e))), outside-is span x (inr from))
      ]
    where
      less : (a b : ℕ) → a ≤ b → nat_le a b ≡ true
      less a b le = grind (arith, nat_tests, le)

  old-after : (back : Bool) (position x : ℕ) → window old new size back position ≡ Some span → span.lo ≤ span.hi → side back (beyond back span) x ≡ Old
      → (side back position x ≡ Old) × (covers (Some span) x ≡ false)
  old-after false position x is order old-now =
      let at = forward-is old new size position span is in
      let far = old-ahead span.hi x old-now in
      (ap (λ (b : Bool). cond b New Old) (more x position (let e = at.1 in omega (arith, far, e, order))), outside-is span x (inr far))
    where
      more : (a b : ℕ) → b ≤ a → nat_lt a b ≡ false
      more a b le = grind (arith, nat_tests, le)
  old-after true position x is order old-now =
      let at = backward-is old new size position span is in
      let near = old-behind span.lo x old-now in
      (ap (λ (b : Bool). cond b New Old) (more position x (let e = at.2 in omega (arith, near, e, order))), outside-is span x (inl near))
    where
      more : (a b : ℕ) → b < a → nat_le a b ≡ false
      more a b lt = grind (arith, nat_tests, lt)

-- a window's start is at most its end
pub span-order : (newest : Sb) → AreShapesFit newest → (span : Span) → next_window newest ≡ Some span → span.lo ≤ span.hi
span-order newest fit span next = of (is_backward newest) (window-is newest span next)
  where
    div-le : (p u : ℕ) → (p - 1) / u * u ≤ p
    div-le p u = let e = div-add-mod' (p - 1) u in omega (arith, e)

    of : (back : Bool) → window (shape_of newest) (final_shape newest) newest.size back newest.reshape_position ≡ Some span → span.lo ≤ span.hi
    of false is = let at = forward-is (shape_of newest) (final_shape newest) newest.size newest.reshape_position span is in omega (arith, at.0, at.1, at.2)
    of true is = let at = backward-is (shape_of newest) (final_shape newest) newest.size newest.reshape_position span is in
        let le = div-le newest.reshape_position (unit (shape_of newest) (final_shape newest)) in omega (arith, at.1, at.2, le)

-- and its end is in the list
pub window-inside : (newest : Sb) → AreShapesFit newest → (span : Span) → next_window newest ≡ Some span → span.hi ≤ list_length newest
window-inside newest fit span next = of (is_backward newest) (window-is newest span next)
  where
    of : (back : Bool) → window (shape_of newest) (final_shape newest) newest.size back newest.reshape_position ≡ Some span → span.hi ≤ list_length newest
    of false is = let at = forward-is (shape_of newest) (final_shape newest) newest.size newest.reshape_position span is in omega (arith, at.2)
    of true is =
        let at = backward-is (shape_of newest) (final_shape newest) newest.size newest.reshape_position span is in
        let within = fit.position (is-reshaping newest span next) in
        omega (arith, at.2, within)

module _ (scope : Scope) (given : Given) (m : Members) (span : Span) (placed : ArePlaced scope given m) (next : next_window m.newest ≡ Some span) where
  abbrev after : Members
  after = moved_past span m

  active : is_reshaping m.newest ≡ true
  active = is-reshaping m.newest span next

  shape-after : (x : ℕ) (s : Side) → side (is_backward m.newest) (beyond (is_backward m.newest) span) x ≡ s → shape_for after.newest x ≡ shape_at m.newest s
  shape-after x s is = shape-on after.newest active x s is ∙ same s
    where
      same : (s : Side) → shape_at after.newest s ≡ shape_at m.newest s
      same Old = refl
      same New = refl

  -- by the cases of a sector
  by-side : (P : Shape → Type 0) (x : ℕ) → x < list_length m.newest → (geometry.IsIn x span → P (final_shape m.newest))
      → (covers (Some span) x ≡ false → P (shape_for m.newest x)) → P (shape_for after.newest x)
  by-side P x below window-has other-has = elim (side-or (is_backward m.newest) (beyond (is_backward m.newest) span) x) [
    | inl old ↦ (
        let was = old-after (shape_of m.newest) (final_shape m.newest) m.newest.size span (is_backward m.newest) m.newest.reshape_position x (window-is m.newest span next) (span-order m.newest placed.fit span next) old in
        subst P (shape-on m.newest active x Old was.0 ∙ sym (shape-after x Old old)) (other-has was.1))
    | inr new ↦ elim (sides-after (shape_of m.newest) (final_shape m.newest) m.newest.size span (is_backward m.newest) m.newest.reshape_position x (window-is m.newest span next) new) [
      | inl inside ↦ subst P (sym (shape-after x New new)) (window-has inside)
      | inr was ↦ subst P (shape-on m.newest active x New was.0 ∙ sym (shape-after x New new)) (other-has was.1)
    ]
  ]

  moved-fits : AreShapesFit after.newest
  moved-fits = record {
    valid = record { old = placed.fit.valid.old; final = placed.fit.valid.final };
    size = placed.fit.size;
    final_size = placed.fit.final_size;
    level = placed.fit.level;
    unit = unit-after (keeps_the_unit (shape_of m.newest) (final_shape m.newest) m.newest.size (is_backward m.newest) m.newest.reshape_position way.force way.within way.on_unit);
    position = λ a. within-after (is_backward m.newest) (window-is m.newest span next);
    delta = placed.fit.delta;
    delta_back = placed.fit.delta_back;
  }
    where
      way : IsUnderWay (shape_of m.newest) (final_shape m.newest) m.newest.size (is_backward m.newest) m.newest.reshape_position
      way = under-way m.newest placed.fit active

      unit-after : IfSome (window (shape_of m.newest) (final_shape m.newest) m.newest.size (is_backward m.newest) m.newest.reshape_position) (λ span. IsOnUnit (shape_of m.newest) (final_shape m.newest) m.newest.size (beyond (is_backward m.newest) span))
          → off_unit after.newest ≡ None
      unit-after kept = of (subst (λ (o : Option Span). IfSome o (λ span. IsOnUnit (shape_of m.newest) (final_shape m.newest) m.newest.size (beyond (is_backward m.newest) span))) (window-is m.newest span next) kept)
        where
          any : (a b c : Bool) → (b ≡ true) ⊎ (c ≡ true) → ◌≡◌ {A = Option Refusal} (cond (not a || b || c) None (Some (PositionNotOnUnit (beyond (is_backward m.newest) span) (unit_of m.newest)))) None
          any false b c is = refl
          any true true c is = refl
          any true false true is = refl
          any true false false (inl e) = absurd (cc)
          any true false false (inr e) = absurd (cc)

          of : IsOnUnit (shape_of m.newest) (final_shape m.newest) m.newest.size (beyond (is_backward m.newest) span) → off_unit after.newest ≡ None
          of (inl whole) = any (is_reshaping m.newest) (is_multiple (beyond (is_backward m.newest) span) (unit_of m.newest)) ((beyond (is_backward m.newest) span) == list_length m.newest) (inl (eq-eqb ((beyond (is_backward m.newest) span) / unit_of m.newest * unit_of m.newest) (beyond (is_backward m.newest) span) (div-mul_cancel (unit_of m.newest) whole)))
          of (inr last) = any (is_reshaping m.newest) (is_multiple (beyond (is_backward m.newest) span) (unit_of m.newest)) ((beyond (is_backward m.newest) span) == list_length m.newest) (inr (eq-eqb (beyond (is_backward m.newest) span) (list_length m.newest) last))

      within-after : (back : Bool) → window (shape_of m.newest) (final_shape m.newest) m.newest.size back m.newest.reshape_position ≡ Some span → beyond back span ≤ list_length m.newest
      within-after false is = let at = forward-is (shape_of m.newest) (final_shape m.newest) m.newest.size m.newest.reshape_position span is in omega (arith, at.2)
      within-after true is =
          let at = backward-is (shape_of m.newest) (final_shape m.newest) m.newest.size m.newest.reshape_position span is in
          let order = span-order m.newest placed.fit span next in
          let w = way.within in
          omega (arith, at.2, order, w)

  pub moved-placed : ArePlaced scope given after
  moved-placed = record {
    fit = moved-fits;
    roles = placed.roles;
    holders = λ role slot held. let h = placed.holders role slot held in record { small = h.small; known = h.known; short = h.short; within = h.within };
    behind = placed.behind;
    members_own = placed.members_own;
    apart = placed.apart;
    backup = placed.backup;
  }

pub moved-stands : MovedStands
moved-stands scope given m span c list placed next copied stands x slot shown held =
    by-side scope given m span placed next (λ s. StandsAt m c list x (place s x)) x shown.within
    (λ inside. data-at m c list (final_shape m.newest) placed.fit.valid.final (place (final_shape m.newest) x).row
    (copied (place (final_shape m.newest) x).row (rows_hold (final_shape m.newest) span x placed.fit.valid.final inside)) x refl)
    (λ out slot held. stands x slot (record { within = shown.within; outside = out }) held)
    slot held

pub moved-rows-stand : MovedRowsStand
moved-rows-stand scope given m span c list placed next copied stands x shown =
    again (shape_for (moved_past span m).newest x) (place (shape_for (moved_past span m).newest x) x).row
    (by-side scope given m span placed next (λ s. RowStands (reading_of m) c s list (place s x).row) x shown.within
    (λ inside. copied (place (final_shape m.newest) x).row (rows_hold (final_shape m.newest) span x placed.fit.valid.final inside))
    (λ out. stands x (record { within = shown.within; outside = out })))
  where
    again : (s : Shape) (row : ℕ) → RowStands (reading_of m) c s list row → RowStands (reading_of (moved_past span m)) c s list row
    again s row stands = record { whole = stands.whole; sectors = stands.sectors; parity = stands.parity }

pub moved-is-placed : MovedIsPlaced
moved-is-placed scope given m span placed next = moved-placed scope given m span placed next

-- ---- flushed members

pub alone : (d : List Sector) (v w : Sector) → d ≡ w ∷ [] → IsIn d v → v ≡ w
alone d v w is may = of (subst (λ (l : List Sector). IsIn l v) is may)
  where
    of : (v ≡ w) ⊎ ⊥ → v ≡ w
    of (inl same) = same
    of (inr none) = absurd none

module _ (scope : Scope) (given : Given) (m : Members) (c : Contents) (d : Disk) (placed : ArePlaced scope given m) (flushed : AreHoldersFlushed m c d) where
  -- what a holder has of a row is what stands there
  pub flushed-there : (slot role row : ℕ) → held_slot (reading_of m) role row ≡ Some slot → (v : Sector) → IsIn (d slot (data_offset_of (reading_of m) slot + row)) v
      → v ≡ c slot (data_offset_of (reading_of m) slot + row)
  flushed-there slot role row holds v is =
      let own = holder-of (reading_of m) role row slot holds in
      alone (d slot (data_offset_of (reading_of m) slot + row)) v (c slot (data_offset_of (reading_of m) slot + row))
      (flushed role slot (data_offset_of (reading_of m) slot + row) own (λ e. absurd (let far = placed.behind role slot own in omega (arith, e, far)))) is

  -- where the list's rows stand, of allowed values, they are settled
  unfoldable pub flushed-settled : (values : ℕ → List Sector) (list : ℕ → Sector) → ((x : ℕ) → x < list_length m.newest → IsIn (values x) (list x)) → IsTailZero m.newest list → RowsStand None m c list
      → IsSettled scope m values d
  flushed-settled values list allowed zeros rows = record {
    list = list;
    allowed = allowed;
    zeros = zeros;
    rows = λ c' drawn x outside. (
        let stands = rows x (record { within = outside.within; outside = refl }) in
        let row = (place_by m.newest x).row in
        record {
          whole = stands.whole;
          sectors = λ role slot lt part held.
              flushed-there slot role row held (c' slot (data_offset_of (reading_of m) slot + row)) (drawn slot (data_offset_of (reading_of m) slot + row)) ∙ stands.sectors role slot lt part held;
          parity = λ role slot lt part held.
              flushed-there slot role row held (c' slot (data_offset_of (reading_of m) slot + row)) (drawn slot (data_offset_of (reading_of m) slot + row)) ∙ stands.parity role slot lt part held;
        });
  }

unfoldable pub flushed-right : (sound : Type 0) → FlushedIsRight sound
flushed-right sound scope given told m c list d has = record {
  placed = has.placed;
  sized = has.sized;
  gone = has.missing;
  unclean = has.unclean;
  reshaping = has.reshaping;
  held = λ header may x slot outside holds v is.
      subst (λ (w : Sector). IsIn (told.values x) w)
      (sym (flushed-there scope given m c d has.placed has.flushed slot (place_by m.newest x).role (place_by m.newest x).row holds v is
      ∙ has.stands x slot (record { within = outside.within; outside = refl }) holds))
      (has.allowed x outside.within);
  sections = λ header may span active x low high v is. absurd (let none = has.plain header may in cc);
  settled = λ clean few premise. flushed-settled scope given m c d has.placed has.flushed told.values list has.allowed (has.zeros premise) (has.rows clean few premise);
  headers = has.headers;
  tails = λ premise x slot tail holds v is.
      flushed-there scope given m c d has.placed has.flushed slot (place (final_shape m.newest) x).role (place (final_shape m.newest) x).row holds v is ∙ has.tails premise x slot tail holds ∙ has.zeros premise x tail;
}
