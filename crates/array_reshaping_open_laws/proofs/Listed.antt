-- The list of an array in a reshape that an opening finds stands in its course: nothing of the window is copied, and its section's sectors are in the buffer.
use Rattle.std.proofs.Common.{◌≡◌, inl, inr, ℕ, zero, suc, ◌+◌, ◌-◌, ◌*◌, ◌/◌, ◌<◌, ◌≤◌, nat_lt, nat_le, ◌&&◌, Bool, true, false, cond, List, [], Option, Some, None, unwrap_or, refl, sym, ◌∙◌, ap, ap₂, subst, arith}
use Rattle.std.specs.Prelude.{slice_index_or}
use Rattle.std.proofs.lemmas.Bool.{cases_lt}
use Rattle.std.proofs.lemmas.Bool.Decides.{nat_tests}
use Rattle.std.proofs.lemmas.Nat.{mul-le}
use Rattle.std.proofs.Math.Nat.{div-mul-le_self}
use Rattle.array_reshaping_invariant.specs.raid_types_the_Shape.{Shape}
use Rattle.array_found_laws.specs.raid_types_the_Side.{Side}
use Rattle.array_found_laws.specs.raid_types_the_Side_TheVariants.{Old, New}
use Rattle.array_reshaping_invariant.specs.raid_types_the_Span.{Span}
use Rattle.array_reshaping_invariant.specs.raid_types_Sectors.{Sector, zero_sector}
use Rattle.array_reshaping_invariant.specs.raid_types_Shapes.{stripe_sectors}
use Rattle.array_reshaping_invariant.specs.bank_Given.{Given, sizes}
use Rattle.array_reshaping_invariant.specs.bank_Tape.{Contents}
use Rattle.array_reshaping_invariant.specs.raid_layout_Layout.{place, row_roles}
use Rattle.array_reshaping_invariant.proofs.raid_layout_Places.{chunk_some, place-role_below}
use Rattle.array_reshaping_invariant.specs.raid_parity_Parity.{Row, fill}
use Rattle.array_reshaping_invariant.specs.raid_parity_Rows.{IsSector}
use Rattle.array_reshaping_invariant.proofs.raid_parity_Columns.{tabulate-same}
use Rattle.array_reshaping_invariant.specs.reshape_geometry_Geometry as geometry
use Rattle.array_reshaping_invariant.specs.reshape_geometry_Geometry.{side}
use Rattle.array_reshaping_invariant.specs.sb_specs_the_Members.{Members}
use Rattle.array_reshaping_invariant.specs.sb_specs_Reading.{Scope, Reading, reading, is_reshaping, is_backward, shape_of, final_shape, list_length, next_window, data_offset_of}
use Rattle.array_reshaping_invariant.specs.sb_specs_Election.{reading_in}
use Rattle.array_reshaping_invariant.specs.stripe_row_Rows.{reading_of, held_sector, held_row, held_slot, standing_sector, IsTolerated}
use Rattle.array_reshaping_invariant.specs.stripe_list_Full.{RowStands}
use Rattle.array_reshaping_invariant.specs.history_Opened.{HasGoodRows, HasZeroTail}
use Rattle.array_reshaping_invariant.specs.history_Reshaped.{IsGoodRow}
use Rattle.array_reshaping_invariant.specs.history_Stands.{stands, shape_for, covers, placed_sector, held_sector as found_sector, held_row as found_row}
use Rattle.array_reshaping_invariant.specs.crash_views_Regions.{backup_of, header_in, open_by, place_by, ArePlaced, DoWithout, IsReadOf}
use Rattle.array_reshaping_invariant.specs.crash_views_Views.{IsTail}
use Rattle.array_reshaping_invariant.specs.crash_views_Windows.{IsShown, ListStands, RowsStand, AreTailsStanding}
use Rattle.array_reshaping_invariant.proofs.crash_views_Alike.{for-both, valid-for, row-below}
use Rattle.array_reshaping_invariant.proofs.crash_views_Standing.{standing_at, section-here, held-same, read-covered, read-placed}
use Rattle.array_reshaping_invariant.proofs.crash_views_UnderWay.{shape-on, side-or}
use Rattle.array_reshaping_invariant.proofs.crash_views_WindowLaws.{open-window}
use Rattle.array_reshaping_invariant.specs.reshape_request_the_Window.{Window}
use Rattle.array_reshaping_invariant.specs.array_members_Placed.{IsPlaced}
use Rattle.array_reshaping_invariant.specs.stripe_region_resync_Resyncs.{low_shape, low_stripes, AreEndsStanding}
use Rattle.array_reshaping_invariant.proofs.stripe_region_write_Sides.{low-valid, low-is, low-before, low-few}
use Rattle.array_reshaping_invariant.specs.reshape_progress_Course.{hidden_in, HasWindowIn, IsCopiedRow, past_stripe, AnyShape, StandsInCourse}
use Rattle.array_reshaping_invariant.proofs.reshape_progress_Courses.{none-of-none}
use Rattle.array_reshaping_invariant.specs.reshape_progress_resync_laws_Synced.{IsResyncSector}
use Rattle.array_reshaping_invariant.proofs.reshape_progress_resync_laws_Ends.{tails-are-ends}
use Rattle.array_open_window.specs.Finding.{window_for, IsFoundIn}
use Rattle.array_reshaping_open_laws.specs.Opening.{found_course}
use Rattle.array_reshaping_open_laws.proofs.Regions.{for-same, beside-window, past-tail, past-old}
use Rattle.array_reshaping_open_laws.proofs.Rows.{zero-is_sector, standing-held, standing-whole, good-stands}

is-less : (a b : ℕ) → a < b → nat_lt a b ≡ true
is-less a b lt = grind (arith, nat_tests, lt)

not-less : (a b : ℕ) → b ≤ a → nat_lt a b ≡ false
not-less a b le = grind (arith, nat_tests, le)

is-covered : (span : Span) (x : ℕ) → geometry.IsIn x span → covers (Some span) x ≡ true
is-covered span x (low, high) = of span.lo span.hi low high
  where
    of : (lo hi : ℕ) → lo ≤ x → x < hi → ◌≡◌ {A = Bool} (nat_le lo x && nat_lt x hi) true
    of lo hi low high = grind (arith, nat_tests, low, high)

-- backward, the first sector is new only at the last position
at-first : (back : Bool) (p : ℕ) → back ≡ true → side back p 0 ≡ New → p ≡ 0
at-first false p is new = absurd (cc)
at-first true p is new = of (nat_le p 0) refl new
  where
    of : (b : Bool) → nat_le p 0 ≡ b → ◌≡◌ {A = Side} (cond b New Old) New → p ≡ 0
    of true e is = grind (arith, nat_tests, e)
    of false e is = absurd (cc)

more : (n k below : ℕ) → below < n * k → 0 < n
more zero k below lt = absurd (let none : 0 * k ≡ 0 = omega arith in omega (arith, lt, none))
more (suc n) k below lt = omega arith

-- what is hidden is what the header makes active
hidden-is : (o : Option Span) → hidden_in (window_for o) ≡ o
hidden-is (Some span) = refl
hidden-is None = refl

module _ (bank : Given) (scope : Scope) (sizes_are : scope.sizes ≡ sizes bank) (m : Members) (backed : ArePlaced scope bank m) (active : is_reshaping m.newest ≡ true) (does : DoWithout m)
    (c : Contents) (read : IsReadOf scope m (reading_in bank.slots m)) (says : reading scope c ≡ Some (reading_in bank.slots m)) where
  abbrev r : Reading
  r = reading_in bank.slots m

  abbrev hidden : Option Span
  hidden = open_by scope m.newest (header_in scope c)

  abbrev own : Reading
  own = reading_of m

  -- ---- the list: what stands, and behind its end zeros forward, and backward what stands in the old shape there

  abbrev past : ℕ → Sector
  past x = cond (is_backward m.newest) (standing_sector c (reading_of m) (shape_of m.newest) (place (shape_of m.newest) x).row (place (shape_of m.newest) x).role) zero_sector

  abbrev pub found-list : ℕ → Sector
  found-list x = cond (nat_lt x (list_length m.newest)) (slice_index_or (stands scope c) x []) (past x)

  abbrev list : ℕ → Sector
  list = found-list

  pub list-in : (x : ℕ) → x < list_length m.newest → list x ≡ slice_index_or (stands scope c) x []
  list-in x lt = ap (λ (b : Bool). cond b (slice_index_or (stands scope c) x []) (past x)) (is-less x (list_length m.newest) lt)

  list-past : (x : ℕ) → list_length m.newest ≤ x → list x ≡ past x
  list-past x le = ap (λ (b : Bool). cond b (slice_index_or (stands scope c) x []) (past x)) (not-less x (list_length m.newest) le)

  list-zero : is_backward m.newest ≡ false → (x : ℕ) → list_length m.newest ≤ x → list x ≡ zero_sector
  list-zero forth x le = list-past x le ∙ ap (λ (b : Bool). cond b (standing_sector c own (shape_of m.newest) (place (shape_of m.newest) x).row (place (shape_of m.newest) x).role) zero_sector) forth

  list-old : is_backward m.newest ≡ true → (x : ℕ) → list_length m.newest ≤ x → list x ≡ standing_sector c own (shape_of m.newest) (place (shape_of m.newest) x).row (place (shape_of m.newest) x).role
  list-old back x le = list-past x le ∙ ap (λ (b : Bool). cond b (standing_sector c own (shape_of m.newest) (place (shape_of m.newest) x).row (place (shape_of m.newest) x).role) zero_sector) back

  -- a sector that isn't hidden stands at its place
  list-shown : (x : ℕ) → IsShown hidden m.newest x → list x ≡ standing_at m c x
  list-shown x shown = list-in x shown.within ∙ read-placed scope bank m backed c r read says x shown.within shown.outside

  pub list-stands : ListStands hidden m c list
  list-stands x slot shown held = sym (list-shown x shown ∙ standing-held m c (shape_for m.newest x) (place_by m.newest x).row (place_by m.newest x).role slot held)

  -- the section has those that are
  pub list-hidden : (span : Span) → hidden ≡ Some span → (x : ℕ) → geometry.IsIn x span → x < list_length m.newest → list x ≡ c (backup_of scope) (8 + (x - span.lo))
  list-hidden span is x within lt = list-in x lt ∙ read-covered scope bank m backed c r read says x lt span is (is-covered span x within)

  -- ---- the tail

  -- what stands at a place of this shape
  placed-is : (shape : Shape) (x : ℕ) → placed_sector c r shape x ≡ standing_sector c own shape (place shape x).row (place shape x).role
  placed-is shape x =
      let role : ℕ = (place shape x).role in
      let row : ℕ = (place shape x).row in
      ap₂ (λ (o : Option Sector) (l : Row). unwrap_or o (fill (row_roles shape row) l role)) (held-same scope bank m backed c r read role row) (row-same shape row)
    where
      row-same : (shape : Shape) (row : ℕ) → found_row c r shape row ≡ held_row c own shape row
      row-same shape row = tabulate-same shape.disks (λ role. found_sector c r role row) (λ role. held_sector c own role row) (λ role lt. held-same scope bank m backed c r read role row)

  held-row-same : (shape : Shape) (row : ℕ) → found_row c r shape row ≡ held_row c own shape row
  held-row-same shape row = tabulate-same shape.disks (λ role. found_sector c r role row) (λ role. held_sector c own role row) (λ role lt. held-same scope bank m backed c r read role row)

  -- a sound opening finds zeros in the tail
  tail-zero : HasZeroTail c r → (x : ℕ) → IsTail m.newest x → standing_sector c own (final_shape m.newest) (place (final_shape m.newest) x).row (place (final_shape m.newest) x).role ≡ zero_sector
  tail-zero zeros x tail = sym (placed-is (final_shape m.newest) x) ∙ zeros tail.forth tail.through x tail.past tail.stripe

  pub tails-stand : HasZeroTail c r → AreTailsStanding m c list
  tails-stand zeros x slot tail held =
      sym (standing-held m c (final_shape m.newest) (place (final_shape m.newest) x).row (place (final_shape m.newest) x).role slot held)
      ∙ tail-zero zeros x tail ∙ sym (list-zero tail.forth x tail.past)

  -- ---- the rows

  module _ (whole : (slot k : ℕ) → k < scope.sizes.sectors slot → IsSector (c slot k)) (placed : IsPlaced bank m) (good : HasGoodRows scope c r) (zeros : HasZeroTail c r) (x : ℕ) (shown : IsShown hidden m.newest x) where
    abbrev shape : Shape
    shape = shape_for m.newest x

    abbrev row : ℕ
    row = (place_by m.newest x).row

    row-in : (place_by m.newest x).row < m.newest.size
    row-in = row-below m.newest placed.fit x shown.within

    -- a listed sector in the row is placed by the same shape, and isn't hidden
    shown-beside : (y : ℕ) → y < list_length m.newest → (place (shape_for m.newest x) y).row ≡ (place_by m.newest x).row → IsShown hidden m.newest y
    shown-beside y y-in at = record { within = y-in; outside = of hidden refl shown.outside }
      where
        of : (o : Option Span) → open_by scope m.newest (header_in scope c) ≡ o → covers o x ≡ false → covers o y ≡ false
        of None is out = refl
        of (Some span) is out = beside-window m.newest placed.fit active x y shown.within at span (open-window scope m.newest (header_in scope c) span is) out

    listed-in : (y : ℕ) → y < list_length m.newest → (place (shape_for m.newest x) y).row ≡ (place_by m.newest x).row
        → list y ≡ standing_sector c (reading_of m) (shape_for m.newest x) (place_by m.newest x).row (place (shape_for m.newest x) y).role
    listed-in y y-in at =
        list-shown y (shown-beside y y-in at)
        ∙ ap (λ (s : Shape). standing_sector c own s (place s y).row (place s y).role) (for-same m.newest placed.fit active x y shown.within at y-in)
        ∙ ap (λ (n : ℕ). standing_sector c own shape n (place shape y).role) at

    listed-past : (y : ℕ) → list_length m.newest ≤ y → (place (shape_for m.newest x) y).row ≡ (place_by m.newest x).row
        → list y ≡ standing_sector c (reading_of m) (shape_for m.newest x) (place_by m.newest x).row (place (shape_for m.newest x) y).role
    listed-past y le at = of (is_backward m.newest) refl
      where
        of : (back : Bool) → is_backward m.newest ≡ back → list y ≡ standing_sector c (reading_of m) (shape_for m.newest x) (place_by m.newest x).row (place (shape_for m.newest x) y).role
        of false forth =
            let found = past-tail m.newest placed.fit active x y shown.within at row-in le forth in
            list-zero forth y le ∙ sym (tail-zero zeros y found.0)
            ∙ ap (λ (s : Shape). standing_sector c own s (place s y).row (place s y).role) (sym found.1)
            ∙ ap (λ (n : ℕ). standing_sector c own shape n (place shape y).role) at
        of true back =
            list-old back y le
            ∙ ap (λ (s : Shape). standing_sector c own s (place s y).row (place s y).role) (sym (past-old m.newest placed.fit active x y shown.within at row-in le back))
            ∙ ap (λ (n : ℕ). standing_sector c own shape n (place shape y).role) at

    listed : (y : ℕ) → (place (shape_for m.newest x) y).row ≡ (place_by m.newest x).row → list y ≡ standing_sector c (reading_of m) (shape_for m.newest x) (place_by m.newest x).row (place (shape_for m.newest x) y).role
    listed y at = elim (cases_lt y (list_length m.newest)) [
      | inl lt ↦ listed-in y lt at
      | inr le ↦ listed-past y le at
    ]

    good-here : IsGoodRow c r (shape_for m.newest x) (place_by m.newest x).row
    good-here = good x shown.within (ap (λ (o : Option Span). covers o x) (section-here scope bank m backed c r read) ∙ shown.outside)

    pub row-stands : RowStands (reading_of m) c (shape_for m.newest x) list (place_by m.newest x).row
    row-stands =
        good-stands bank m placed scope sizes_are c whole shape (valid-for m.newest placed.fit x) (for-both (λ (s : Shape). IsTolerated (reading_of m) s) m.newest does.old does.final x) row row-in list listed
        r (held-row-same shape row) good-here

  -- ---- behind the list's end, in the last stripe below the position

  module _ (placed : IsPlaced bank m) (x : ℕ) (past-it : list_length m.newest ≤ x) (under : (place (low_shape m.newest) x).row < low_stripes m.newest * (low_shape m.newest).chunk) where
    -- backward, the old shape places it
    low-old : is_backward m.newest ≡ true → low_shape m.newest ≡ shape_of m.newest
    low-old back = elim (side-or (is_backward m.newest) m.newest.reshape_position 0) [
      | inl is ↦ shape-on m.newest active 0 Old is
      | inr is ↦ absurd (
          let none = at-first (is_backward m.newest) m.newest.reshape_position back is in
          let some = more (low_stripes m.newest) (low_shape m.newest).chunk (place (low_shape m.newest) x).row under in
          let reach = low-before m.newest placed.fit 0 some in
          let end = low-is m.newest placed.fit active in
          let chunk = chunk_some (low_shape m.newest) (low-valid m.newest placed.fit) in
          let first : 0 * stripe_sectors (low_shape m.newest) ≡ 0 = omega arith in
          omega (arith, none, reach, end, chunk, first))
    ]

    -- in a row that members have
    low-row : (place (low_shape m.newest) x).row < m.newest.size
    low-row =
        let few = low-few m.newest placed.fit in
        let all = mul-le (low_stripes m.newest) (low_shape m.newest).chunk (m.newest.size / (low_shape m.newest).chunk) (low_shape m.newest).chunk few (omega arith) in
        let most = div-mul-le_self m.newest.size (low_shape m.newest).chunk in
        omega (arith, under, all, most)

  -- what slots hold there is the list's too
  pub ends-stand : IsPlaced bank m → HasZeroTail c r → AreEndsStanding m c list
  ends-stand placed zeros = of (is_backward m.newest) refl
    where
      of : (back : Bool) → is_backward m.newest ≡ back → AreEndsStanding m c list
      of false forth = tails-are-ends m c list placed.fit active (inl forth) (tails-stand zeros)
      of true back = λ x slot past-it under held.
          subst (λ (s : Shape). held_slot (reading_of m) (place s x).role (place s x).row ≡ Some slot → c slot (data_offset_of (reading_of m) slot + (place s x).row) ≡ list x) (sym (low-old placed x past-it under back))
          (λ here. sym (list-old back x past-it ∙ standing-held m c (shape_of m.newest) (place (shape_of m.newest) x).row (place (shape_of m.newest) x).role slot here)) held

  -- ---- the sectors that a resync reads are whole

  module _ (whole : (slot k : ℕ) → k < scope.sizes.sectors slot → IsSector (c slot k)) (placed : IsPlaced bank m)
      (room : (span : Span) → next_window m.newest ≡ Some span → 8 + (span.hi - span.lo) ≤ scope.sizes.sectors (backup_of scope)) where
    whole-shown : (x : ℕ) → IsShown hidden m.newest x → IsSector (list x)
    whole-shown x shown =
        subst IsSector (sym (list-shown x shown))
        (standing-whole bank m placed scope sizes_are c whole (shape_for m.newest x) (valid-for m.newest placed.fit x) (for-both (λ (s : Shape). IsTolerated (reading_of m) s) m.newest does.old does.final x)
        (place_by m.newest x).row (row-below m.newest placed.fit x shown.within) (place_by m.newest x).role (place-role_below (shape_for m.newest x) (valid-for m.newest placed.fit x) x))

    whole-hidden : (span : Span) → hidden ≡ Some span → (x : ℕ) → geometry.IsIn x span → x < list_length m.newest → IsSector (list x)
    whole-hidden span is x within lt =
        subst IsSector (sym (list-hidden span is x within lt))
        (whole (backup_of scope) (8 + (x - span.lo))
        (let fits = room span (open-window scope m.newest (header_in scope c) span is) in let low = within.0 in let high = within.1 in omega (arith, fits, low, high)))

    whole-in : (x : ℕ) → x < list_length m.newest → IsSector (list x)
    whole-in x lt = of hidden refl
      where
        inside : (lo hi : ℕ) → ◌≡◌ {A = Bool} (nat_le lo x && nat_lt x hi) true → (lo ≤ x) × (x < hi)
        inside lo hi is = (grind (arith, nat_tests, is), grind (arith, nat_tests, is))

        by : (o : Option Span) → open_by scope m.newest (header_in scope c) ≡ o → (b : Bool) → covers o x ≡ b → IsSector (list x)
        by (Some span) is true at = whole-hidden span is x (inside span.lo span.hi at) lt
        by None is true at = absurd (cc)
        by o is false out = whole-shown x (record { within = lt; outside = ap (λ (o : Option Span). covers o x) is ∙ out })

        of : (o : Option Span) → open_by scope m.newest (header_in scope c) ≡ o → IsSector (list x)
        of o is = by o is (covers o x) refl

    whole-past : (x : ℕ) → list_length m.newest ≤ x → (place (low_shape m.newest) x).row < low_stripes m.newest * (low_shape m.newest).chunk → IsSector (list x)
    whole-past x past-it under = of (is_backward m.newest) refl
      where
        of : (back : Bool) → is_backward m.newest ≡ back → IsSector (list x)
        of false forth = subst IsSector (sym (list-zero forth x past-it)) zero-is_sector
        of true back =
            let old = low-old placed x past-it under back in
            subst IsSector (sym (list-old back x past-it))
            (standing-whole bank m placed scope sizes_are c whole (shape_of m.newest) placed.fit.valid.old does.old (place (shape_of m.newest) x).row
            (subst (λ (s : Shape). (place s x).row < m.newest.size) old (low-row placed x past-it under)) (place (shape_of m.newest) x).role
            (place-role_below (shape_of m.newest) placed.fit.valid.old x))

    pub mend-whole : (x : ℕ) → IsResyncSector m.newest x → IsSector (list x)
    mend-whole x (inl lt) = whole-in x lt
    mend-whole x (inr under) = elim (cases_lt x (list_length m.newest)) [
      | inl lt ↦ whole-in x lt
      | inr past-it ↦ whole-past x past-it under
    ]

  -- ---- the course

  -- nothing is copied yet
  none-copied : (o : Option Span) (k : ℕ) → IsCopiedRow m.newest (window_for o) k → ⊥
  none-copied None k copied = copied
  none-copied (Some span) k copied = absurd (none-of-none (final_shape m.newest) (span.lo / stripe_sectors (final_shape m.newest)) k copied)

  section-has : (slot : ℕ → Sector) (buffer : List ℕ) (o : Option Span) → IsFoundIn slot (window_for o) buffer → ((span : Span) → o ≡ Some span → (x : ℕ) → geometry.IsIn x span → list x ≡ slot (8 + (x - span.lo)))
      → HasWindowIn (window_for o) buffer list
  section-has slot buffer None found has = tt
  section-has slot buffer (Some span) found has = (found.room, λ x within. found.each (x - span.lo) (let low = within.0 in let high = within.1 in omega (arith, low, high)) ∙ sym (has span refl x within))

  -- The list stands in the course that begins here. Where the epoch opened sound its rows stand, if the array is clean; and the tail stands, which may be asked only of a sound opening.
  module _ (sound : Type 0) (placed : IsPlaced bank m) (buffer : List ℕ) (window : Window) (inside : (span : Span) → next_window m.newest ≡ Some span → span.hi ≤ list_length m.newest)
      (is : window ≡ window_for (open_by scope m.newest (header_in scope c))) (found : IsFoundIn (c (backup_of scope)) window buffer) (tail : AreTailsStanding m c list)
      (rows : sound → RowsStand (open_by scope m.newest (header_in scope c)) m c list) where
    found-here : IsFoundIn (c (backup_of scope)) (window_for (open_by scope m.newest (header_in scope c))) buffer
    found-here = subst (λ (w : Window). IsFoundIn (c (backup_of scope)) w buffer) is found

    stands-by : StandsInCourse sound AnyShape m (found_course (window_for (open_by scope m.newest (header_in scope c)))) buffer c list
    stands-by = record {
      stands = λ x slot any shown held. subst (λ (o : Option Span). ListStands o m c list) (sym (hidden-is hidden)) list-stands x slot shown held;
      window = section-has (c (backup_of scope)) buffer hidden found-here
          (λ span here x within. list-hidden span here x within (let most = inside span (open-window scope m.newest (header_in scope c) span here) in let high = within.1 in omega (arith, high, most)));
      zeros = λ forth x le. list-zero forth x le;
      copied = λ any row copied. absurd (none-copied hidden row copied);
      tail = λ any. tail;
      zeroed = λ any row zeroed. absurd (none-of-none (final_shape m.newest) (past_stripe m.newest) row zeroed);
      rows = λ so x any shown. subst (λ (o : Option Span). RowsStand o m c list) (sym (hidden-is hidden)) (rows so) x shown;
    }

    pub found-stands : StandsInCourse sound AnyShape m (found_course window) buffer c list
    found-stands = subst (λ (w : Window). StandsInCourse sound AnyShape m (found_course w) buffer c list) (sym is) stands-by
