-- What the list is behind a write of two runs, and by which list their rows may be written.
use Rattle.std.proofs.Common.{◌≡◌, ◌⊎◌, inl, inr, ℕ, ◌+◌, ◌-◌, ◌*◌, ◌/◌, ◌<◌, ◌≤◌, ◌==◌, Bool, true, false, if◌then◌else◌, List, [], length, slice_index, Contains, Option, Some, refl, sym, ◌∙◌, ap, subst, arith, eqb-true, eq-eqb}
use Rattle.std.specs.Option.{option_map_or}
use Rattle.std.proofs.lemmas.Bool.{cases_lt}
use Rattle.std.proofs.lemmas.List.{get_or_default}
use Rattle.stripe_region_read.specs.raid_types_Sectors.{Sector}
use Rattle.stripe_region_read.specs.raid_types_Shapes.{is_valid_shape}
use Rattle.stripe_region_read.specs.raid_types_the_Shape.{Shape}
use Rattle.stripe_region_read.specs.raid_types_the_Span.{Span}
use Rattle.stripe_region_read.specs.raid_types_the_Role_TheVariants.{Recovering}
use Rattle.stripe_region_read.specs.bank_Given.{Given}
use Rattle.stripe_region_read.specs.bank_Tape.{Contents, IsIn}
use Rattle.stripe_region_read.specs.sb_codec_the_Sb.{Sb}
use Rattle.stripe_region_read.specs.raid_layout_Layout.{place}
use Rattle.stripe_region_read.proofs.raid_layout_Places.{place-role_below, place-sector_below}
use Rattle.stripe_region_read.specs.raid_parity_Rows.{IsSector, sector_of}
use Rattle.stripe_region_read.specs.sb_specs_the_Members.{Members}
use Rattle.stripe_region_read.specs.sb_specs_Reading.{is_reshaping, shape_of, final_shape, list_length, role_state, holder, data_offset_of}
use Rattle.stripe_region_read.specs.stripe_row_Rows.{reading_of, held_slot}
use Rattle.stripe_region_read.proofs.stripe_row_Losses.{holder-of}
use Rattle.stripe_region_read.specs.stripe_list_Full.{full_sector, AreWholeIn, RowStands}
use Rattle.stripe_region_read.specs.stripe_list_Writing.{IsWritten, AreDataFrom, HasFull}
use Rattle.stripe_region_read.proofs.stripe_list_FullLaws.{full-data, full-same}
use Rattle.stripe_region_read.specs.history_Stands.{covers, shape_for}
use Rattle.stripe_region_read.specs.crash_views_Regions.{place_by}
use Rattle.stripe_region_read.specs.crash_views_Views.{IsTail}
use Rattle.stripe_region_read.specs.crash_views_Windows.{IsShown, AreTailsStanding}
use Rattle.stripe_region_read.proofs.crash_views_Alike.{valid-for}
use Rattle.stripe_region_read.proofs.crash_views_Stands.{data-at, data-from, for-still, final-still, list-still}
use Rattle.stripe_region_read.specs.crash_safety_laws_Marking.{AreOthersPresent}
use Rattle.stripe_region_read.specs.crash_safety_laws_Steady.{AreWritesAllowed}
use Rattle.stripe_region_read.specs.array_members_Placed.{AreWhole, IsPlaced, IsInForce}
use Rattle.stripe_region_read.specs.array_members_Moving.{IsMoved}
use Rattle.stripe_region_read.specs.array_members_Lacking.{DataStandsAmong, AreOtherRowsKept, AreRowsRead}
use Rattle.stripe_region_read.proofs.array_members_Elements.{contains_or_not}
use Rattle.stripe_region_read.proofs.array_members_Fit.{fit-multiple, force-valid, list-alike, for-alike}
use Rattle.stripe_region_read.proofs.array_members_HeldRows.{held-moved}
use Rattle.stripe_region_read.proofs.array_members_MovedLaws.{moved-then}
use Rattle.stripe_region_read.proofs.array_members_LackingLists.{data-held}
use Rattle.stripe_region_read.proofs.array_members_LackingWrites.{list-in, list-in-is, list-with, list-with-is}
use Rattle.stripe_region_read.proofs.StretchLaws.{relied-below}
use Rattle.stripe_region_write.specs.declared.runs.Run.{Run}
use Rattle.stripe_region_read.specs.Stretches.{ListStandsIn, RowsStandIn}
use Rattle.stripe_region_write.specs.Runs.{IsRun, IsRelied, AreRuns, AreRowsOf, AreFull, StayRebuilt, MayBeHidden, WindowRowsStand}
use Rattle.stripe_region_write.proofs.Together.{mates-together, together-shape, shown-mate}
use Rattle.stripe_region_write.proofs.RunLaws.{run-sector, run-region, run-mate, mate-shape}
use Rattle.stripe_region_write.specs.Ends.{low_shape, low_stripes, AreEndsStanding}
use Rattle.stripe_region_write.proofs.LowRuns.{low-run, low-stripes-alike}
use Rattle.stripe_region_write.proofs.Tails.{is_listed, listed-is, tailed-is, listed-or-tail, tail-run, tail-before}

-- where a row stands among these
index-of : (rows : List ℕ) (row : ℕ) → Contains rows row → (i : ℕ) × (i < length rows) × (slice_index rows i ≡ row)
index-of rows row has = (has.0, has.1, get_or_default rows has.0 0 row has.1 ∙ has.2)

-- two lists that are one at a sector are so behind a write
pub written-same : (one one' two two' : ℕ → Sector) (first : ℕ) (from : List ℕ) → IsWritten one one' first from → IsWritten two two' first from → (x : ℕ) → one x ≡ two x → one' x ≡ two' x
written-same one one' two two' first from w v x same = elim (cases_lt x first) [
  | inl low ↦ w.other x (inl low) ∙ same ∙ sym (v.other x (inl low))
  | inr above ↦ elim (cases_lt x (first + length from / 512)) [
    | inl inside ↦ w.here x above inside ∙ sym (v.here x above inside)
    | inr high ↦ w.other x (inr high) ∙ same ∙ sym (v.other x (inr high))
  ]
]

-- a list by which rows may be written that were read: where the list has sectors, and in the tail, it becomes the same
pub record IsChosen (newest : Sb) (shape : Shape) (first : ℕ) (from rows buffer : List ℕ) (list list' : ℕ → Sector) : Type 0 where
  pub chosen : ℕ → Sector
  pub chosen' : ℕ → Sector
  pub written : IsWritten chosen chosen' first from
  pub read : AreDataFrom 0 shape chosen rows buffer
  pub first_same : (y : ℕ) → y < list_length newest → chosen y ≡ list y
  pub same : (y : ℕ) → y < list_length newest → chosen' y ≡ list' y
  pub tail : (y : ℕ) → IsTail newest y → chosen' y ≡ list' y

-- what stands in the regions of some shapes stands in that of one of them
module _ (among : Shape → Type 0) (shape : Shape) (own : among shape) (m : Members) (before : Contents) (hidden : Option Span) (list : ℕ → Sector) where
  pub list-in-one : ListStandsIn among hidden m before list → ListStandsIn (λ s. s ≡ shape) hidden m before list
  list-in-one stands x slot same out held = stands x slot (subst among (sym same) own) out held

  pub rows-in-one : (relied : ℕ) → RowsStandIn among hidden relied m before list → RowsStandIn (λ s. s ≡ shape) hidden relied m before list
  rows-in-one relied stands x lt same out = stands x lt (subst among (sym same) own) out

  pub tails-in-one : (among (final_shape m.newest) → AreTailsStanding m before list) → final_shape m.newest ≡ shape → AreTailsStanding m before list
  tails-in-one tails same = tails (subst among (sym same) own)

-- it is allowed where that is
pub chosen-allowed : (m : Members) (values : ℕ → List Sector) (shape : Shape) (first : ℕ) (from rows buffer : List ℕ) (list list' : ℕ → Sector) (is : IsChosen m.newest shape first from rows buffer list list')
    → AreWritesAllowed m values list' → AreWritesAllowed m values is.chosen'
chosen-allowed m values shape first from rows buffer list list' is allowed y lt = subst (λ (v : Sector). IsIn (values y) v) (sym (is.same y lt)) (allowed y lt)

-- ---- one run

module _ (given : Given) (old mid new : Members) (one : IsMoved given old mid) (two : IsMoved given mid new) (was : IsPlaced given old) (run : Run) (is : IsRun old.newest run)
    (before : Contents) (first : ℕ) (from rows buffer : List ℕ) (these : AreRowsOf run old.newest.size rows) (read : AreRowsRead run.shape run.synced old mid before rows buffer) where
  valid : is_valid_shape run.shape ≡ true
  valid = force-valid old.newest was.fit run.shape is.force

  -- what was read of a sector that a slot holds in the end is what stood there
  read-is : (list : ℕ → Sector) (x slot : ℕ) → Contains rows (place run.shape x).row → held_slot (reading_of new) (place run.shape x).role (place run.shape x).row ≡ Some slot
      → before slot (data_offset_of (reading_of old) slot + (place run.shape x).row) ≡ list x → list-in run.shape rows buffer x ≡ list x
  read-is list x slot has held stood =
      let row = (place run.shape x).row in
      let role = (place run.shape x).role in
      let at = index-of rows row has in
      sym (list-in-is run.shape rows buffer 0 these.touched.once at.0 (omega arith) at.1 x (sym at.2))
      ∙ read.held at.0 at.1 role slot (place-role_below run.shape valid x) (subst (λ (r : ℕ). held_slot (reading_of mid) role r ≡ Some slot) (sym at.2) (held-moved two role row slot held))
      ∙ ap (λ (r : ℕ). before slot (data_offset_of (reading_of mid) slot + r)) at.2
      ∙ ap (λ (n : ℕ). before slot (n + row)) (one.offsets slot)
      ∙ stood

  module _ (after : Contents) (full : AreFull new after run.shape first from rows buffer) where
    -- such a sector stands by the list that was written
    pub sector-written : (list list' : ℕ → Sector) → IsWritten list list' first from → (x slot : ℕ) → Contains rows (place run.shape x).row
        → held_slot (reading_of new) (place run.shape x).role (place run.shape x).row ≡ Some slot
        → before slot (data_offset_of (reading_of old) slot + (place run.shape x).row) ≡ list x → after slot (data_offset_of (reading_of new) slot + (place run.shape x).row) ≡ list' x
    sector-written list list' w x slot has held stood =
        let list0 = list-in run.shape rows buffer in
        let list1 = list-with list0 first from in
        full list0 list1 (list-with-is list0 first from) (list-in-is run.shape rows buffer 0 these.touched.once) (place run.shape x).row has (place run.shape x).role slot (place-role_below run.shape valid x) held
        ∙ full-data run.shape list1 (place run.shape x).role (place run.shape x).row x valid refl
        ∙ written-same list0 list1 list list' first from (list-with-is list0 first from) w x (read-is list x slot has held stood)

    -- and a row with its parity, where what was read of it is the list's
    pub row-written : (list list' list0 : ℕ → Sector) → IsWritten list list' first from → AreDataFrom 0 run.shape list0 rows buffer
        → ((x : ℕ) → first ≤ x → x < first + length from / 512 → IsSector (sector_of from (x - first)))
        → (row : ℕ) → Contains rows row → AreWholeIn run.shape list row → ((y : ℕ) → (place run.shape y).row ≡ row → list0 y ≡ list y) → RowStands (reading_of new) after run.shape list' row
    row-written list list' list0 w holds small row has whole same = record {
      whole = λ y at. elim (cases_lt y first) [
        | inl low ↦ subst IsSector (sym (w.other y (inl low))) (whole y at)
        | inr above ↦ elim (cases_lt y (first + length from / 512)) [
          | inl inside ↦ subst IsSector (sym (w.here y above inside)) (small y above inside)
          | inr high ↦ subst IsSector (sym (w.other y (inr high))) (whole y at)
        ]
      ];
      sectors = λ role slot lt here held. there role slot lt held;
      parity = λ role slot lt here held. there role slot lt held;
    }
      where
        list1 : ℕ → Sector
        list1 = list-with list0 first from

        both : (y : ℕ) → (place run.shape y).row ≡ row → list' y ≡ list-with list0 first from y
        both y at = written-same list list' list0 (list-with list0 first from) first from w (list-with-is list0 first from) y (sym (same y at))

        there : (role slot : ℕ) → role < run.shape.disks → held_slot (reading_of new) role row ≡ Some slot → after slot (data_offset_of (reading_of new) slot + row) ≡ full_sector run.shape list' row role
        there role slot lt held =
            full list0 (list-with list0 first from) (list-with-is list0 first from) holds row has role slot lt held
            ∙ full-same run.shape (list-with list0 first from) list' row valid both role lt

  -- ---- a list with what stands at some places

  abbrev there-of : ℕ → Sector
  there-of y = option_map_or (λ slot. before slot (data_offset_of (reading_of old) slot + (place run.shape y).row)) (held_slot (reading_of old) (place run.shape y).role (place run.shape y).row) []

  -- the list's sectors that pass, and elsewhere what stands there
  abbrev mixed : (ℕ → Bool) → (ℕ → Sector) → ℕ → Sector
  mixed test list y = if test y then list y else there-of y

  mixed-is : (test : ℕ → Bool) (list : ℕ → Sector) (y : ℕ) → test y ≡ true → mixed test list y ≡ list y
  mixed-is test list y passes = ap (λ (b : Bool). if b then list y else there-of y) passes

  -- stands in the rows, where those do
  mixed-stands : (test : ℕ → Bool) (list : ℕ → Sector)
      → ((y slot : ℕ) → test y ≡ true → Contains rows (place run.shape y).row → held_slot (reading_of old) (place run.shape y).role (place run.shape y).row ≡ Some slot
      → before slot (data_offset_of (reading_of old) slot + (place run.shape y).row) ≡ list y) → DataStandsAmong run.shape (Contains rows) old before (mixed test list)
  mixed-stands test list each row has below =
      data-from old before (mixed test list) run.shape valid row (λ y at slot held. by y slot (subst (λ (r : ℕ). Contains rows r) (sym at) has) held (test y) refl)
    where
      by : (y slot : ℕ) → Contains rows (place run.shape y).row → held_slot (reading_of old) (place run.shape y).role (place run.shape y).row ≡ Some slot → (b : Bool) → test y ≡ b
          → before slot (data_offset_of (reading_of old) slot + (place run.shape y).row) ≡ (if test y then list y else there-of y)
      by y slot among held true passes = each y slot passes among held ∙ sym (ap (λ (b : Bool). if b then list y else there-of y) passes)
      by y slot among held false fails =
          sym (ap (λ (o : Option ℕ). option_map_or (λ slot. before slot (data_offset_of (reading_of old) slot + (place run.shape y).row)) o []) held)
          ∙ sym (ap (λ (b : Bool). if b then list y else there-of y) fails)

  -- ---- where the rows stood

  module _ (copied : Option Span) (relied : ℕ) (trusted : IsRelied old.newest copied relied run) (hidden : Option Span) (list : ℕ → Sector) (shown : (x : ℕ) → run.first ≤ x → x < run.end → IsShown hidden old.newest x) where
    -- where parity is relied on, each row stands
    rows-stood : RowsStandIn (λ s. s ≡ run.shape) hidden relied old before list → WindowRowsStand copied old before list → run.synced ≡ true → (row : ℕ) → Contains rows row
        → RowStands (reading_of old) before run.shape list row
    rows-stood stood fresh synced row has =
        let touch = these.touched.only row has in
        let x = touch.0 in
        let low : run.first ≤ x = touch.1 in
        let high : x < run.end = (let under = touch.2 in let order = is.order in omega (arith, under, order)) in
        subst (λ (r : ℕ). RowStands (reading_of old) before run.shape list r) touch.3
        (subst (λ (s : Shape). RowStands (reading_of old) before s list (place s x).row) (is.one x low high) (at x low high (covers copied x) refl))
      where
        at : (x : ℕ) → run.first ≤ x → x < run.end → (b : Bool) → covers copied x ≡ b → RowStands (reading_of old) before (shape_for old.newest x) list (place_by old.newest x).row
        at x low high true inside = fresh x inside (shown x low high).within
        at x low high false out =
            stood x (relied-below old.newest was.fit run.shape is.force relied x (shown x low high).within (trusted.rows synced x low high out)) (is.one x low high) (shown x low high)

    -- what was read of a row that stood is the list's
    pub row-read : RowsStandIn (λ s. s ≡ run.shape) hidden relied old before list → WindowRowsStand copied old before list → (row : ℕ) → RowStands (reading_of old) before run.shape list row
        → (list0 : ℕ → Sector) × AreDataFrom 0 run.shape list0 rows buffer × ((y : ℕ) → (place run.shape y).row ≡ row → list0 y ≡ list y)
    row-read stood fresh row stands = of run.synced refl
      where
        of : (b : Bool) → run.synced ≡ b → (list0 : ℕ → Sector) × AreDataFrom 0 run.shape list0 rows buffer × ((y : ℕ) → (place run.shape y).row ≡ row → list0 y ≡ list y)
        of true synced = (
          list,
          read.listed list (λ r has below. (rows-stood stood fresh synced r has).sectors) (λ yes r has below. rows-stood stood fresh synced r has),
          λ y at. refl,
        )
        of false unsynced = (
          mixed (λ y. (place run.shape y).row == row) list,
          read.listed (mixed (λ y. (place run.shape y).row == row) list)
              (mixed-stands (λ y. (place run.shape y).row == row) list (λ y slot passes has held.
              let at : (place run.shape y).row ≡ row = eqb-true (place run.shape y).row row passes in
              data-at old before list run.shape valid row stands.sectors y at slot held))
              (λ yes. absurd (let both = sym unsynced ∙ yes in cc)),
          λ y at. mixed-is (λ y. (place run.shape y).row == row) list y (eq-eqb (place run.shape y).row row at),
        )

    -- the list has its sectors in the rows, and those of the tail
    behind-end : MayBeHidden old.newest hidden → ListStandsIn (λ s. s ≡ run.shape) hidden old before list → (final_shape old.newest ≡ run.shape → AreTailsStanding old before list)
        → DataStandsAmong run.shape (Contains rows) old before (mixed (λ y. is_listed old.newest y) list)
    behind-end window stands tails = mixed-stands (λ y. is_listed old.newest y) list (λ y slot passes has held. elim (listed-or-tail old.newest y passes) [
      | inl y-in ↦
          let touch = these.touched.only (place run.shape y).row has in
          let t = run-sector old.newest was.fit run is (place run.shape y).row touch in
          let here : shape_for old.newest y ≡ run.shape = mate-shape old.newest was.fit run is (place run.shape y).row y touch y-in refl in
          let out = shown-mate old.newest was.fit hidden window t.0 y (shown t.0 t.1 t.2).within (run-mate old.newest was.fit run is (place run.shape y).row y touch y-in refl) (shown t.0 t.1 t.2).outside in
          subst (λ (s : Shape). held_slot (reading_of old) (place s y).role (place s y).row ≡ Some slot → before slot (data_offset_of (reading_of old) slot + (place s y).row) ≡ list y) here
          (stands y slot here (record { within = y-in; outside = out })) held
      | inr tail ↦
          let same : run.shape ≡ final_shape old.newest = tail-run old.newest was.fit run is y (place run.shape y).row tail (these.touched.only (place run.shape y).row has) in
          subst (λ (s : Shape). held_slot (reading_of old) (place s y).role (place s y).row ≡ Some slot → before slot (data_offset_of (reading_of old) slot + (place s y).row) ≡ list y)
          (sym same) (tails (sym same) y slot tail) held
    ])

    -- so there is a list by which they may be written
    pub choose : MayBeHidden old.newest hidden → ListStandsIn (λ s. s ≡ run.shape) hidden old before list → (final_shape old.newest ≡ run.shape → AreTailsStanding old before list)
        → AreWhole new ⊎ (RowsStandIn (λ s. s ≡ run.shape) hidden relied old before list × WindowRowsStand copied old before list)
        → (list' : ℕ → Sector) → IsWritten list list' first from → IsChosen old.newest run.shape first from rows buffer list list'
    choose window stands tails which list' w = of which run.synced refl
      where
        -- where the two lists are one, they become the same
        becomes : (y : ℕ) → mixed (λ y. is_listed old.newest y) list y ≡ list y → list-with (mixed (λ y. is_listed old.newest y) list) first from y ≡ list' y
        becomes y same = written-same (mixed (λ y. is_listed old.newest y) list) (list-with (mixed (λ y. is_listed old.newest y) list) first from) list list' first from
            (list-with-is (mixed (λ y. is_listed old.newest y) list) first from) w y same

        by-ended : AreDataFrom 0 run.shape (mixed (λ y. is_listed old.newest y) list) rows buffer → IsChosen old.newest run.shape first from rows buffer list list'
        by-ended holds = record {
          chosen = mixed (λ y. is_listed old.newest y) list;
          chosen' = list-with (mixed (λ y. is_listed old.newest y) list) first from;
          written = list-with-is (mixed (λ y. is_listed old.newest y) list) first from;
          read = holds;
          first_same = λ y lt. mixed-is (λ y. is_listed old.newest y) list y (listed-is old.newest y lt);
          same = λ y lt. becomes y (mixed-is (λ y. is_listed old.newest y) list y (listed-is old.newest y lt));
          tail = λ y tail. becomes y (mixed-is (λ y. is_listed old.newest y) list y (tailed-is old.newest y tail));
        }

        of : AreWhole new ⊎ (RowsStandIn (λ s. s ≡ run.shape) hidden relied old before list × WindowRowsStand copied old before list) → (b : Bool) → run.synced ≡ b → IsChosen old.newest run.shape first from rows buffer list list'
        of (inl whole) b synced = by-ended (data-held given old mid run.shape is.force one was (two.whole whole) before rows buffer (mixed (λ y. is_listed old.newest y) list)
            (λ row has. subst (λ (n : ℕ). row < n) (sym one.size) (these.below row has)) read.held (behind-end window stands tails))
        of (inr rows-stand) false unsynced = by-ended (read.listed (mixed (λ y. is_listed old.newest y) list) (behind-end window stands tails) (λ yes. absurd (let both = sym unsynced ∙ yes in cc)))
        of (inr (rows-stand, fresh)) true synced = record {
          chosen = list;
          chosen' = list';
          written = w;
          read = read.listed list (λ r has below. (rows-stood rows-stand fresh synced r has).sectors) (λ yes r has below. rows-stood rows-stand fresh synced r has);
          first_same = λ y lt. refl;
          same = λ y lt. refl;
          tail = λ y tail. refl;
        }

-- ---- two runs

module _ (given : Given) (old mid new : Members) (one : IsMoved given old mid) (two : IsMoved given mid new) (was : IsPlaced given old) (before between after : Contents) (others : AreOthersPresent before between)
    (copied : Option Span) (relied first : ℕ) (from : List ℕ) (low high : Run) (are : AreRuns old.newest copied relied first (first + length from / 512) low high)
    (rows buffer far_rows far_buffer : List ℕ) (low-rows : AreRowsOf low old.newest.size rows) (high-rows : AreRowsOf high old.newest.size far_rows)
    (low-read : AreRowsRead low.shape low.synced old mid before rows buffer) (high-read : AreRowsRead high.shape high.synced old mid before far_rows far_buffer)
    (kept : AreOtherRowsKept (λ row. Contains rows row ⊎ Contains far_rows row) (reading_of new) between after) where
  moved : IsMoved given old new
  moved = moved-then given old mid new one two

  -- each sector of the write stands in one of the rows
  touches : (y : ℕ) → first ≤ y → y < first + length from / 512 → Contains rows (place_by old.newest y).row ⊎ Contains far_rows (place_by old.newest y).row
  touches y above under = elim (cases_lt y low.end) [
    | inl near ↦ (
        let begin : low.first ≤ y = (let begins = are.begins in omega (arith, begins, above)) in
        inl (subst (λ (s : Shape). Contains rows (place s y).row) (sym (are.low.one y begin near)) (low-rows.touched.all y begin (let order = are.low.order in omega (arith, near, order)))))
    | inr past ↦ (
        let begin : high.first ≤ y = (let meet = are.meet in omega (arith, meet, past)) in
        let end : y < high.end = (let ends = are.ends in omega (arith, ends, under)) in
        inr (subst (λ (s : Shape). Contains far_rows (place s y).row) (sym (are.high.one y begin end)) (high-rows.touched.all y begin (let order = are.high.order in omega (arith, end, order)))))
  ]

  -- a sector that stands in none of them isn't written
  unwritten : (list list' : ℕ → Sector) → IsWritten list list' first from → (y : ℕ) → (Contains rows (place_by old.newest y).row → ⊥) → (Contains far_rows (place_by old.newest y).row → ⊥) → list' y ≡ list y
  unwritten list list' w y not-low not-high = elim (cases_lt y first) [
    | inl below ↦ w.other y (inl below)
    | inr above ↦ elim (cases_lt y (first + length from / 512)) [
      | inl inside ↦ elim (touches y above inside) [ inl has ↦ absurd (not-low has) | inr has ↦ absurd (not-high has) ]
      | inr past ↦ w.other y (inr past)
    ]
  ]

  -- what a holder has of another row is as it was
  row-kept : (row role slot : ℕ) → (Contains rows row → ⊥) → (Contains far_rows row → ⊥) → holder (role_state (reading_of new) role) ≡ Some slot
      → after slot (data_offset_of (reading_of new) slot + row) ≡ before slot (data_offset_of (reading_of old) slot + row)
  row-kept row role slot not-low not-high held =
      kept row (λ which. elim which [ inl has ↦ not-low has | inr has ↦ not-high has ]) role slot held
      ∙ ap (λ (n : ℕ). between slot (n + row)) (moved.offsets slot)
      ∙ others slot (data_offset_of (reading_of old) slot + row) (λ e. absurd (let far = was.behind role slot (moved.held role slot held) in omega (arith, e, far)))

  same-shape : (x : ℕ) → shape_for new.newest x ≡ shape_for old.newest x
  same-shape x = for-alike old.newest new.newest moved.reshape moved.shape moved.size x

  shown-before : (hidden : Option Span) (x : ℕ) → IsShown hidden new.newest x → IsShown hidden old.newest x
  shown-before hidden x shown = record {
    within = subst (λ (n : ℕ). x < n) (list-alike old.newest new.newest moved.reshape moved.shape moved.size) shown.within;
    outside = shown.outside;
  }

  low-shape : (x : ℕ) → x < list_length old.newest → Contains rows (place_by old.newest x).row → shape_for old.newest x ≡ low.shape
  low-shape x x-in has = run-region old.newest was.fit low are.low (place_by old.newest x).row x (low-rows.touched.only (place_by old.newest x).row has) x-in refl

  high-shape : (x : ℕ) → x < list_length old.newest → Contains far_rows (place_by old.newest x).row → shape_for old.newest x ≡ high.shape
  high-shape x x-in has = run-region old.newest was.fit high are.high (place_by old.newest x).row x (high-rows.touched.only (place_by old.newest x).row has) x-in refl

  -- each other row is as it was
  pub others-kept : (among : ℕ → Type 0) → ((row : ℕ) → Contains rows row → among row) → ((row : ℕ) → Contains far_rows row → among row) → AreOtherRowsKept among (reading_of new) before after
  others-kept among near far row none role slot held =
      row-kept row role slot (λ has. none (near row has)) (λ has. none (far row has)) held ∙ ap (λ (n : ℕ). before slot (n + row)) (sym (moved.offsets slot))

  module _ (low-full : AreFull new after low.shape first from rows buffer) (high-full : AreFull new after high.shape first from far_rows far_buffer) where
    -- a sector of the list stands, by its shape
    abbrev Stays : (list list' : ℕ → Sector) → ℕ → ℕ → Shape → Type 0
    Stays list list' x slot s = held_slot (reading_of new) (place s x).role (place s x).row ≡ Some slot
        → before slot (data_offset_of (reading_of old) slot + (place s x).row) ≡ list x → after slot (data_offset_of (reading_of new) slot + (place s x).row) ≡ list' x

    sector-stays : (list list' : ℕ → Sector) → IsWritten list list' first from → (x slot : ℕ) → x < list_length old.newest → Stays list list' x slot (shape_for old.newest x)
    sector-stays list list' w x slot x-in = elim (contains_or_not rows (place_by old.newest x).row) [
      | inl has ↦ subst (λ (s : Shape). Contains rows (place s x).row → Stays list list' x slot s) (sym (low-shape x x-in has))
          (λ here held stood. sector-written given old mid new one two was low are.low before first from rows buffer low-rows low-read after low-full list list' w x slot here held stood) has
      | inr not-low ↦ elim (contains_or_not far_rows (place_by old.newest x).row) [
        | inl has ↦ subst (λ (s : Shape). Contains far_rows (place s x).row → Stays list list' x slot s) (sym (high-shape x x-in has))
            (λ here held stood. sector-written given old mid new one two was high are.high before first from far_rows far_buffer high-rows high-read after high-full list list' w x slot here held stood) has
        | inr not-high ↦ (λ held stood.
            row-kept (place_by old.newest x).row (place_by old.newest x).role slot not-low not-high (holder-of (reading_of new) (place_by old.newest x).role (place_by old.newest x).row slot held)
            ∙ stood ∙ sym (unwritten list list' w x not-low not-high))
      ]
    ]

    -- so the list stands with the write put in
    pub list-written : (among : Shape → Type 0) (hidden : Option Span) (list list' : ℕ → Sector) → IsWritten list list' first from → ListStandsIn among hidden old before list → ListStandsIn among hidden new after list'
    list-written among hidden list list' w stands x slot own shown held =
        let was-shown = shown-before hidden x shown in
        subst (λ (s : Shape). held_slot (reading_of new) (place s x).role (place s x).row ≡ Some slot → after slot (data_offset_of (reading_of new) slot + (place s x).row) ≡ list' x) (sym (same-shape x))
        (λ held. sector-stays list list' w x slot was-shown.within held
        (stands x slot (subst among (same-shape x) own) was-shown (held-moved moved (place_by old.newest x).role (place_by old.newest x).row slot held))) held

    -- and so does the tail
    tail-stays : (list list' : ℕ → Sector) → IsWritten list list' first from → (x slot : ℕ) → IsTail old.newest x → Stays list list' x slot (final_shape old.newest)
    tail-stays list list' w x slot tail = elim (contains_or_not rows (place (final_shape old.newest) x).row) [
      | inl has ↦ subst (λ (s : Shape). Contains rows (place s x).row → Stays list list' x slot s)
          (tail-run old.newest was.fit low are.low x (place (final_shape old.newest) x).row tail (low-rows.touched.only (place (final_shape old.newest) x).row has))
          (λ here held stood. sector-written given old mid new one two was low are.low before first from rows buffer low-rows low-read after low-full list list' w x slot here held stood) has
      | inr not-low ↦ elim (contains_or_not far_rows (place (final_shape old.newest) x).row) [
        | inl has ↦ subst (λ (s : Shape). Contains far_rows (place s x).row → Stays list list' x slot s)
            (tail-run old.newest was.fit high are.high x (place (final_shape old.newest) x).row tail (high-rows.touched.only (place (final_shape old.newest) x).row has))
            (λ here held stood. sector-written given old mid new one two was high are.high before first from far_rows far_buffer high-rows high-read after high-full list list' w x slot here held stood) has
        | inr not-high ↦ (λ held stood.
            row-kept (place (final_shape old.newest) x).row (place (final_shape old.newest) x).role slot not-low not-high
            (holder-of (reading_of new) (place (final_shape old.newest) x).role (place (final_shape old.newest) x).row slot held)
            ∙ stood ∙ sym (w.other x (inr (let end = are.ends in let within = are.high.within in let past = tail.past in omega (arith, end, within, past)))))
      ]
    ]

    pub tails-written : (list list' : ℕ → Sector) → IsWritten list list' first from → AreTailsStanding old before list → AreTailsStanding new after list'
    tails-written list list' w stands x slot tail held =
        let before-tail = tail-before given old new moved x tail in
        subst (λ (s : Shape). held_slot (reading_of new) (place s x).role (place s x).row ≡ Some slot → after slot (data_offset_of (reading_of new) slot + (place s x).row) ≡ list' x) (sym moved.reshape.final)
        (λ held. tail-stays list list' w x slot before-tail held
        (stands x slot before-tail (held-moved moved (place (final_shape old.newest) x).role (place (final_shape old.newest) x).row slot held))) held

    -- and so does what is behind the list's end in the last stripe below the position
    ends-stays : (list list' : ℕ → Sector) → IsWritten list list' first from → (x slot : ℕ) → list_length old.newest ≤ x
        → (place (low_shape old.newest) x).row < low_stripes old.newest * (low_shape old.newest).chunk → Stays list list' x slot (low_shape old.newest)
    ends-stays list list' w x slot past under = elim (contains_or_not rows (place (low_shape old.newest) x).row) [
      | inl has ↦ subst (λ (s : Shape). Contains rows (place s x).row → Stays list list' x slot s)
          (low-run old.newest was.fit low are.low (place (low_shape old.newest) x).row under (low-rows.touched.only (place (low_shape old.newest) x).row has))
          (λ here held stood. sector-written given old mid new one two was low are.low before first from rows buffer low-rows low-read after low-full list list' w x slot here held stood) has
      | inr not-low ↦ elim (contains_or_not far_rows (place (low_shape old.newest) x).row) [
        | inl has ↦ subst (λ (s : Shape). Contains far_rows (place s x).row → Stays list list' x slot s)
            (low-run old.newest was.fit high are.high (place (low_shape old.newest) x).row under (high-rows.touched.only (place (low_shape old.newest) x).row has))
            (λ here held stood. sector-written given old mid new one two was high are.high before first from far_rows far_buffer high-rows high-read after high-full list list' w x slot here held stood) has
        | inr not-high ↦ (λ held stood.
            row-kept (place (low_shape old.newest) x).row (place (low_shape old.newest) x).role slot not-low not-high
            (holder-of (reading_of new) (place (low_shape old.newest) x).role (place (low_shape old.newest) x).row slot held)
            ∙ stood ∙ sym (w.other x (inr (let end = are.ends in let within = are.high.within in omega (arith, end, within, past)))))
      ]
    ]

    pub ends-written : (list list' : ℕ → Sector) → IsWritten list list' first from → AreEndsStanding old before list → AreEndsStanding new after list'
    ends-written list list' w stands x slot new-past new-under held =
        let same = same-shape 0 in
        let past : list_length old.newest ≤ x = subst (λ (n : ℕ). n ≤ x) (list-alike old.newest new.newest moved.reshape moved.shape moved.size) new-past in
        let under : (place (low_shape old.newest) x).row < low_stripes old.newest * (low_shape old.newest).chunk =
        subst (λ (s : Shape). (place s x).row < low_stripes old.newest * s.chunk) same
        (subst (λ (n : ℕ). (place (low_shape new.newest) x).row < n * (low_shape new.newest).chunk) (low-stripes-alike old.newest new.newest moved.reshape moved.shape moved.size) new-under) in
        subst (λ (s : Shape). held_slot (reading_of new) (place s x).role (place s x).row ≡ Some slot → after slot (data_offset_of (reading_of new) slot + (place s x).row) ≡ list' x) (sym same)
        (λ held. ends-stays list list' w x slot past under held
        (stands x slot past under (held-moved moved (place (low_shape old.newest) x).role (place (low_shape old.newest) x).row slot held))) held

    -- a row that isn't touched stands with its parity
    row-stays : (list list' : ℕ → Sector) → IsWritten list list' first from → (x : ℕ) → x < list_length old.newest → (Contains rows (place_by old.newest x).row → ⊥) → (Contains far_rows (place_by old.newest x).row → ⊥)
        → RowStands (reading_of old) before (shape_for old.newest x) list (place_by old.newest x).row → RowStands (reading_of new) after (shape_for old.newest x) list' (place_by old.newest x).row
    row-stays list list' w x x-in not-low not-high stood = record {
      whole = λ y at. subst IsSector (sym (same y at)) (stood.whole y at);
      sectors = λ role slot lt here held. there role slot lt held (stood.sectors role slot lt here (held-moved moved role (place_by old.newest x).row slot held));
      parity = λ role slot lt here held. there role slot lt held (stood.parity role slot lt here (held-moved moved role (place_by old.newest x).row slot held));
    }
      where
        -- its sectors aren't written
        same : (y : ℕ) → (place (shape_for old.newest x) y).row ≡ (place_by old.newest x).row → list' y ≡ list y
        same y at = elim (cases_lt y (first + length from / 512)) [
          | inr past ↦ w.other y (inr past)
          | inl under ↦ (
              let y-in : y < list_length old.newest = (let end = are.ends in let within = are.high.within in omega (arith, under, end, within)) in
              let here : shape_for old.newest y ≡ shape_for old.newest x = together-shape old.newest x y (mates-together old.newest was.fit x y x-in y-in at) in
              let row : (place_by old.newest y).row ≡ (place_by old.newest x).row = ap (λ (s : Shape). (place s y).row) here ∙ at in
              unwritten list list' w y (λ has. not-low (subst (λ (r : ℕ). Contains rows r) row has)) (λ has. not-high (subst (λ (r : ℕ). Contains far_rows r) row has)))
        ]

        there : (role slot : ℕ) → role < (shape_for old.newest x).disks → held_slot (reading_of new) role (place_by old.newest x).row ≡ Some slot
            → before slot (data_offset_of (reading_of old) slot + (place_by old.newest x).row) ≡ full_sector (shape_for old.newest x) list (place_by old.newest x).row role
            → after slot (data_offset_of (reading_of new) slot + (place_by old.newest x).row) ≡ full_sector (shape_for old.newest x) list' (place_by old.newest x).row role
        there role slot lt held stood =
            row-kept (place_by old.newest x).row role slot not-low not-high (holder-of (reading_of new) role (place_by old.newest x).row slot held)
            ∙ stood ∙ full-same (shape_for old.newest x) list list' (place_by old.newest x).row (valid-for old.newest was.fit x) same role lt

    module _ (hidden : Option Span) (list list' : ℕ → Sector) (w : IsWritten list list' first from) (small : (x : ℕ) → first ≤ x → x < first + length from / 512 → IsSector (sector_of from (x - first)))
        (shown : (x : ℕ) → first ≤ x → x < first + length from / 512 → IsShown hidden old.newest x) (among : Shape → Type 0) (fresh : WindowRowsStand copied old before list) (bound : ℕ) (trusted : relied ≤ bound)
        (stands : RowsStandIn among hidden bound old before list) where
      relied-stand : (shape : Shape) → among shape → RowsStandIn (λ s. s ≡ shape) hidden relied old before list
      relied-stand shape own = rows-in-one among shape own old before hidden list relied (λ x lt own out. stands x (omega (arith, lt, trusted)) own out)

      low-shown : (x : ℕ) → low.first ≤ x → x < low.end → IsShown hidden old.newest x
      low-shown x begin end = shown x (let begins = are.begins in omega (arith, begins, begin)) (let order = are.high.order in let meet = are.meet in let ends = are.ends in omega (arith, end, order, meet, ends))

      high-shown : (x : ℕ) → high.first ≤ x → x < high.end → IsShown hidden old.newest x
      high-shown x begin end = shown x (let begins = are.begins in let some = are.some in let meet = are.meet in omega (arith, begins, some, meet, begin)) (let ends = are.ends in omega (arith, end, ends))

      row-low : among low.shape → (row : ℕ) → Contains rows row → RowStands (reading_of old) before low.shape list row → RowStands (reading_of new) after low.shape list' row
      row-low own row has stood =
          let found = row-read given old mid new one two was low are.low before first from rows buffer low-rows low-read copied relied are.low_relied hidden list low-shown (relied-stand low.shape own) fresh row stood in
          row-written given old mid new one two was low are.low before first from rows buffer low-rows low-read after low-full list list' found.0 w found.1 small row has stood.whole found.2

      row-high : among high.shape → (row : ℕ) → Contains far_rows row → RowStands (reading_of old) before high.shape list row → RowStands (reading_of new) after high.shape list' row
      row-high own row has stood =
          let found = row-read given old mid new one two was high are.high before first from far_rows far_buffer high-rows high-read copied relied are.high_relied hidden list high-shown (relied-stand high.shape own) fresh row stood in
          row-written given old mid new one two was high are.high before first from far_rows far_buffer high-rows high-read after high-full list list' found.0 w found.1 small row has stood.whole found.2

      -- and so do its rows, with their parity
      pub rows-written : RowsStandIn among hidden bound new after list'
      rows-written x below new-own is-shown =
          let was-shown = shown-before hidden x is-shown in
          let own : among (shape_for old.newest x) = subst among (same-shape x) new-own in
          let stood = stands x below own was-shown in
          subst (λ (s : Shape). RowStands (reading_of new) after s list' (place s x).row) (sym (same-shape x))
          (elim (contains_or_not rows (place_by old.newest x).row) [
            | inl has ↦ subst (λ (s : Shape). Contains rows (place s x).row → RowStands (reading_of old) before s list (place s x).row → RowStands (reading_of new) after s list' (place s x).row)
                (sym (low-shape x was-shown.within has)) (λ here. row-low (subst among (low-shape x was-shown.within has) own) (place low.shape x).row here) has stood
            | inr not-low ↦ elim (contains_or_not far_rows (place_by old.newest x).row) [
              | inl has ↦ subst (λ (s : Shape). Contains far_rows (place s x).row → RowStands (reading_of old) before s list (place s x).row → RowStands (reading_of new) after s list' (place s x).row)
                  (sym (high-shape x was-shown.within has)) (λ here. row-high (subst among (high-shape x was-shown.within has) own) (place high.shape x).row here) has stood
              | inr not-high ↦ row-stays list list' w x was-shown.within not-low not-high stood
            ]
          ])

  -- without a reshape, what was rebuilt on a slot stays so
  module _ (still : is_reshaping old.newest ≡ false) (list list' : ℕ → Sector) (w : IsWritten list list' first from) (rebuilt : StayRebuilt new between after low.shape first from rows buffer)
      (chosen : IsChosen old.newest low.shape first from rows buffer list list') where
    low-still : low.shape ≡ shape_of old.newest
    low-still = of are.low.force
      where
        of : IsInForce old.newest low.shape → low.shape ≡ shape_of old.newest
        of (inl same) = same
        of (inr same) = same ∙ final-still old.newest still

    valid-still : is_valid_shape (shape_of old.newest) ≡ true
    valid-still = was.fit.valid.old

    in-list : (row y : ℕ) → row < old.newest.size → (place (shape_of old.newest) y).row ≡ row → y < list_length old.newest
    in-list row y below at =
        let near = place-sector_below (shape_of old.newest) valid-still y old.newest.size (fit-multiple old.newest was.fit) (omega (arith, below, at)) in
        let long = list-still old.newest still in
        omega (arith, near, long)

    -- no row is touched by the second run
    none-far : (row : ℕ) → Contains far_rows row → ⊥
    none-far row has =
        let touch = high-rows.touched.only row has in
        let from = touch.1 in
        let end = touch.2 in
        let meet = are.meet in
        let ends = are.ends in
        let more = (are.apart (omega (arith, from, end, meet, ends))).0 in
        absurd (let both = sym still ∙ more in cc)

    -- what a slot had of a row before the first was written
    had-between : (row role slot : ℕ) → holder (role_state (reading_of new) role) ≡ Some slot → between slot (data_offset_of (reading_of new) slot + row) ≡ before slot (data_offset_of (reading_of old) slot + row)
    had-between row role slot held =
        ap (λ (n : ℕ). between slot (n + row)) (moved.offsets slot)
        ∙ others slot (data_offset_of (reading_of old) slot + row) (λ e. absurd (let far = was.behind role slot (moved.held role slot held) in omega (arith, e, far)))

    low-rebuilt : (role slot row : ℕ) → role < low.shape.disks → role_state (reading_of new) role ≡ Recovering slot → row < old.newest.size → Contains rows row
        → HasFull (reading_of old) before (shape_of old.newest) list row role slot → HasFull (reading_of new) after low.shape chosen.chosen' row role slot
    low-rebuilt role slot row lt is below has full =
        rebuilt chosen.chosen chosen.chosen' chosen.written chosen.read row has role slot lt is
        (had-between row role slot (ap holder is) ∙ full
        ∙ full-same (shape_of old.newest) list chosen.chosen row valid-still (λ y at. chosen.first_same y (in-list row y below at)) role (subst (λ (s : Shape). role < s.disks) low-still lt)
        ∙ ap (λ (s : Shape). full_sector s chosen.chosen row role) (sym low-still))

    pub rebuilt-written : (role slot row : ℕ) → role < (shape_of old.newest).disks → role_state (reading_of new) role ≡ Recovering slot → row < old.newest.size
        → HasFull (reading_of old) before (shape_of old.newest) list row role slot → HasFull (reading_of new) after (shape_of old.newest) list' row role slot
    rebuilt-written role slot row lt is below full = elim (contains_or_not rows row) [
      | inl has ↦
          low-rebuilt role slot row (subst (λ (s : Shape). role < s.disks) (sym low-still) lt) is below has full
          ∙ ap (λ (s : Shape). full_sector s chosen.chosen' row role) low-still
          ∙ sym (full-same (shape_of old.newest) list' chosen.chosen' row valid-still (λ y at. chosen.same y (in-list row y below at)) role lt)
      | inr none ↦
          row-kept row role slot none (none-far row) (ap holder is) ∙ full
          ∙ full-same (shape_of old.newest) list list' row valid-still (λ y at. unwritten list list' w y
          (λ has. none (subst (λ (r : ℕ). Contains rows r) at (subst (λ (s : Shape). Contains rows (place s y).row) (for-still old.newest still y) has))) (none-far (place_by old.newest y).row)) role lt
    ]
