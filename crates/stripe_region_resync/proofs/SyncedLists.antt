-- What a mended stripe leaves of the list: it stands as before, and in one stripe more each row with its parity.
use Rattle.std.proofs.Common.{◌≡◌, inl, inr, ℕ, ◌+◌, ◌*◌, ◌<◌, ◌≤◌, Bool, true, false, if◌then◌else◌, [], Option, Some, refl, sym, ◌∙◌, ap, subst, arith}
use Rattle.std.specs.Option.{option_map_or}
use Rattle.std.proofs.lemmas.Bool.{cases_lt}
use Rattle.std.proofs.lemmas.Nat.{mul-le}
use Rattle.reshape_request.specs.raid_types_Sectors.{Sector}
use Rattle.reshape_request.specs.raid_types_Shapes.{is_valid_shape}
use Rattle.reshape_request.specs.raid_types_the_Shape.{Shape}
use Rattle.reshape_request.specs.raid_types_the_Span.{Span}
use Rattle.reshape_request.specs.bank_Given.{Given}
use Rattle.reshape_request.specs.bank_Tape.{Contents}
use Rattle.reshape_request.specs.raid_layout_Layout.{place}
use Rattle.reshape_request.specs.sb_specs_the_Members.{Members}
use Rattle.reshape_request.specs.sb_specs_Reading.{final_shape, list_length, data_offset_of}
use Rattle.stripe_region_write.specs.stripe_row_Rows.{reading_of, held_slot}
use Rattle.stripe_region_write.proofs.stripe_row_Losses.{holder-of}
use Rattle.stripe_region_write.specs.stripe_list_Full.{AreWholeIn, DataStands, RowStands}
use Rattle.stripe_region_write.specs.history_Stands.{shape_for}
use Rattle.stripe_region_write.specs.crash_views_Regions.{place_by}
use Rattle.stripe_region_write.specs.crash_views_Views.{IsTail}
use Rattle.stripe_region_write.specs.crash_views_Windows.{IsShown, AreTailsStanding}
use Rattle.stripe_region_write.proofs.crash_views_Stands.{data-at, data-from}
use Rattle.stripe_region_write.specs.array_members_Placed.{IsPlaced}
use Rattle.stripe_region_write.specs.array_members_Moving.{IsMoved}
use Rattle.stripe_region_write.specs.array_members_Lacking.{IsHeldRowKept, DoesWithout, DataStandsAmong, AreOtherRowsKept}
use Rattle.stripe_region_write.proofs.array_members_Fit.{for-alike, list-alike}
use Rattle.stripe_region_write.proofs.array_members_HeldRows.{held-moved}
use Rattle.stripe_region_write.proofs.array_members_SyncedParts.{stripe-within}
use Rattle.stripe_region_write.specs.stripe_region_read_Stretches.{ListStandsIn, RowsStandIn}
use Rattle.stripe_region_write.proofs.Tails.{is_listed, listed-is, tailed-is, listed-or-tail, tail-before}
use Rattle.stripe_region_resync.specs.declared.stripes.Stripe.{Stripe}
use Rattle.stripe_region_resync.specs.Mends.{low_shape, low_stripes, resync_stripes, stripe_after, relied_sector, IsResyncRow, AreEndsStanding}
use Rattle.stripe_region_resync.proofs.Alike.{low-stripes-alike}
use Rattle.stripe_region_resync.proofs.StripeLaws.{is-next}
use Rattle.stripe_region_resync.proofs.StripeRows.{of-stripe-or, next-valid, next-row, next-region, next-sector, next-mate, next-behind, next-past, next-ended, next-tail}

-- ---- a row that isn't written stands on

row-on : (given : Given) (old new : Members) → IsMoved given old new → (shape : Shape) (list : ℕ → Sector) (row : ℕ) (before after : Contents)
    → IsHeldRowKept (reading_of new) before after row → RowStands (reading_of old) before shape list row → RowStands (reading_of new) after shape list row
row-on given old new moved shape list row before after kept stands = record {
  whole = stands.whole;
  sectors = λ role slot lt here held. there role slot held ∙ stands.sectors role slot lt here (held-moved moved role row slot held);
  parity = λ role slot lt here held. there role slot held ∙ stands.parity role slot lt here (held-moved moved role row slot held);
}
  where
    there : (role slot : ℕ) → held_slot (reading_of new) role row ≡ Some slot → after slot (data_offset_of (reading_of new) slot + row) ≡ before slot (data_offset_of (reading_of old) slot + row)
    there role slot held = kept role slot (holder-of (reading_of new) role row slot held) ∙ ap (λ (n : ℕ). before slot (n + row)) (moved.offsets slot)

-- ---- a list with what stands at some places

module _ (m : Members) (c : Contents) (shape : Shape) (valid : is_valid_shape shape ≡ true) (test : ℕ → Bool) (list : ℕ → Sector) where
  abbrev there-of : ℕ → Sector
  there-of y = option_map_or (λ slot. c slot (data_offset_of (reading_of m) slot + (place shape y).row)) (held_slot (reading_of m) (place shape y).role (place shape y).row) []

  -- the list's sectors that pass, and elsewhere what stands there
  abbrev mixed : ℕ → Sector
  mixed y = if test y then list y else there-of y

  mixed-is : (y : ℕ) → test y ≡ true → mixed y ≡ list y
  mixed-is y passes = ap (λ (b : Bool). if b then list y else there-of y) passes

  -- stands in a row where those do
  mixed-stands : (row : ℕ) → ((y slot : ℕ) → test y ≡ true → (place shape y).row ≡ row → held_slot (reading_of m) (place shape y).role (place shape y).row ≡ Some slot
      → c slot (data_offset_of (reading_of m) slot + (place shape y).row) ≡ list y) → DataStands (reading_of m) c shape mixed row
  mixed-stands row each = data-from m c mixed shape valid row (λ y at slot held. by y slot at held (test y) refl)
    where
      by : (y slot : ℕ) → (place shape y).row ≡ row → held_slot (reading_of m) (place shape y).role (place shape y).row ≡ Some slot → (b : Bool) → test y ≡ b
          → c slot (data_offset_of (reading_of m) slot + (place shape y).row) ≡ (if b then list y else there-of y)
      by y slot at held true passes = each y slot passes at held
      by y slot at held false fails = sym (ap (λ (o : Option ℕ). option_map_or (λ slot. c slot (data_offset_of (reading_of m) slot + (place shape y).row)) o []) held)

module _ (given : Given) (old new : Members) (moved : IsMoved given old new) (was : IsPlaced given old) (mended : ℕ) (lt : mended < resync_stripes old.newest) (before after : Contents) where
  abbrev next : Stripe
  next = stripe_after old.newest mended

  valid : is_valid_shape next.shape ≡ true
  valid = next-valid old.newest was.fit mended lt

  same-shape : (x : ℕ) → shape_for new.newest x ≡ shape_for old.newest x
  same-shape x = for-alike old.newest new.newest moved.reshape moved.shape moved.size x

  same-length : list_length new.newest ≡ list_length old.newest
  same-length = list-alike old.newest new.newest moved.reshape moved.shape moved.size

  shown-before : (hidden : Option Span) (x : ℕ) → IsShown hidden new.newest x → IsShown hidden old.newest x
  shown-before hidden x shown = record { within = subst (λ (n : ℕ). x < n) same-length shown.within; outside = shown.outside }

  -- the stripe's rows are rows of the members
  row-small : (row : ℕ) → IsResyncRow old.newest mended row → row < old.newest.size
  row-small row at =
      let is = is-next old.newest was.fit mended lt in
      let within = stripe-within given old was next.shape is.force next.at is.below in
      let high = at.1 in
      omega (arith, within, high)

  -- ---- what the list has in the stripe

  -- a sector that one of its shape's places is kept for
  abbrev Stands : (ℕ → Sector) → ℕ → ℕ → Type 0
  Stands list y slot = before slot (data_offset_of (reading_of old) slot + (place next.shape y).row) ≡ list y

  -- of the list's sectors there, where they are shown
  listed-there : (hidden : Option Span) (list : ℕ → Sector) (among : Shape → Type 0) → among next.shape
      → ((x : ℕ) → relied_sector old.newest (Some mended) ≤ x → x < relied_sector old.newest (Some (mended + 1)) → IsShown hidden old.newest x)
      → ListStandsIn among hidden old before list → (y slot : ℕ) → y < list_length old.newest → IsResyncRow old.newest mended (place next.shape y).row
      → held_slot (reading_of old) (place next.shape y).role (place next.shape y).row ≡ Some slot → Stands list y slot
  listed-there hidden list among own shown stands y slot y-in at held =
      let here = next-sector old.newest was.fit mended lt y y-in at in
      let is : shape_for old.newest y ≡ next.shape = next-mate old.newest was.fit mended lt y y-in at in
      subst (λ (s : Shape). held_slot (reading_of old) (place s y).role (place s y).row ≡ Some slot → before slot (data_offset_of (reading_of old) slot + (place s y).row) ≡ list y) is
      (stands y slot (subst among (sym is) own) (shown y here.0 here.1)) held

  -- of those behind the list's end
  ended-there : (list : ℕ → Sector) → AreEndsStanding old before list → (y slot : ℕ) → list_length old.newest ≤ y → IsResyncRow old.newest mended (place next.shape y).row
      → held_slot (reading_of old) (place next.shape y).role (place next.shape y).row ≡ Some slot → Stands list y slot
  ended-there list ends y slot past at held =
      let low = next-past old.newest was.fit mended lt y past at in
      let high = at.1 in
      let all = mul-le (next.at + 1) next.shape.chunk (low_stripes old.newest) next.shape.chunk (let few = low.1 in omega (arith, few)) (omega arith) in
      let under : (place next.shape y).row < low_stripes old.newest * next.shape.chunk = omega (arith, high, all) in
      subst (λ (s : Shape). (place s y).row < low_stripes old.newest * s.chunk → held_slot (reading_of old) (place s y).role (place s y).row ≡ Some slot
      → before slot (data_offset_of (reading_of old) slot + (place s y).row) ≡ list y) (sym low.0) (ends y slot past) under held

  -- so its data stands in the stripe
  pub stripe-data : (hidden : Option Span) (list : ℕ → Sector) (among : Shape → Type 0) → among next.shape
      → ((x : ℕ) → relied_sector old.newest (Some mended) ≤ x → x < relied_sector old.newest (Some (mended + 1)) → IsShown hidden old.newest x)
      → ListStandsIn among hidden old before list → AreEndsStanding old before list → DataStandsAmong next.shape (IsResyncRow old.newest mended) old before list
  stripe-data hidden list among own shown stands ends row has below =
      data-from old before list next.shape valid row (λ y at slot held.
      let here : IsResyncRow old.newest mended (place next.shape y).row = subst (λ (r : ℕ). IsResyncRow old.newest mended r) (sym at) has in
      elim (cases_lt y (list_length old.newest)) [
        | inl y-in ↦ listed-there hidden list among own shown stands y slot y-in here held
        | inr past ↦ ended-there list ends y slot past here held
      ])

  -- and that of a list which has what stands there behind the end, but for a tail
  pub stripe-listed : (hidden : Option Span) (list : ℕ → Sector)
      → ((x : ℕ) → relied_sector old.newest (Some mended) ≤ x → x < relied_sector old.newest (Some (mended + 1)) → IsShown hidden old.newest x)
      → ListStandsIn (λ s. s ≡ next.shape) hidden old before list → (next.shape ≡ final_shape old.newest → AreTailsStanding old before list)
      → (list0 : ℕ → Sector) × DataStandsAmong next.shape (IsResyncRow old.newest mended) old before list0
      × ((x : ℕ) → x < list_length old.newest → list0 x ≡ list x) × ((x : ℕ) → IsTail old.newest x → list0 x ≡ list x)
  stripe-listed hidden list shown stands tails = (
    mixed old before next.shape valid (is_listed old.newest) list,
    λ row has below. mixed-stands old before next.shape valid (is_listed old.newest) list row (λ y slot passes at held.
        let here : IsResyncRow old.newest mended (place next.shape y).row = subst (λ (r : ℕ). IsResyncRow old.newest mended r) (sym at) has in
        elim (listed-or-tail old.newest y passes) [
          | inl y-in ↦ listed-there hidden list (λ s. s ≡ next.shape) refl shown stands y slot y-in here held
          | inr tail ↦ (
              let same = next-tail old.newest was.fit mended lt y tail in
              subst (λ (s : Shape). held_slot (reading_of old) (place s y).role (place s y).row ≡ Some slot → before slot (data_offset_of (reading_of old) slot + (place s y).row) ≡ list y)
              (sym same) (tails same y slot tail) held)
        ]),
    λ x x-in. mixed-is old before next.shape valid (is_listed old.newest) list x (listed-is old.newest x x-in),
    λ x tail. mixed-is old before next.shape valid (is_listed old.newest) list x (tailed-is old.newest x tail),
  )

  -- ---- what is left of it

  module _ (others : AreOtherRowsKept (IsResyncRow old.newest mended) (reading_of new) before after)
      (keeps : DoesWithout next.shape new → (list : ℕ → Sector) → DataStandsAmong next.shape (IsResyncRow old.newest mended) old before list
      → DataStandsAmong next.shape (IsResyncRow old.newest mended) new after list) where
    -- data of another row is as it was
    beside : (row role slot : ℕ) → (IsResyncRow old.newest mended row → ⊥) → held_slot (reading_of new) role row ≡ Some slot
        → after slot (data_offset_of (reading_of new) slot + row) ≡ before slot (data_offset_of (reading_of old) slot + row)
    beside row role slot out held = others row out role slot (holder-of (reading_of new) role row slot held) ∙ ap (λ (n : ℕ). before slot (n + row)) (moved.offsets slot)

    -- and so is that of the stripe
    within : DoesWithout next.shape new → (y slot : ℕ) → IsResyncRow old.newest mended (place next.shape y).row → held_slot (reading_of new) (place next.shape y).role (place next.shape y).row ≡ Some slot
        → after slot (data_offset_of (reading_of new) slot + (place next.shape y).row) ≡ before slot (data_offset_of (reading_of old) slot + (place next.shape y).row)
    within does y slot at held =
        let list : ℕ → Sector = mixed old before next.shape valid (λ z. false) (λ z. []) in
        let stood : DataStandsAmong next.shape (IsResyncRow old.newest mended) old before list =
        λ row has below. mixed-stands old before next.shape valid (λ z. false) (λ z. []) row (λ z slot passes here held. absurd (cc)) in
        let row = (place next.shape y).row in
        data-at new after list next.shape valid row (keeps does list stood row at (subst (λ (n : ℕ). row < n) (sym moved.size) (row-small row at))) y refl slot held
        ∙ ap (λ (o : Option ℕ). option_map_or (λ slot. before slot (data_offset_of (reading_of old) slot + row)) o []) (held-moved moved (place next.shape y).role row slot held)

    -- a sector of some shape stands on
    abbrev Stays : (ℕ → Sector) → ℕ → ℕ → Shape → Type 0
    Stays list x slot s = held_slot (reading_of new) (place s x).role (place s x).row ≡ Some slot
        → before slot (data_offset_of (reading_of old) slot + (place s x).row) ≡ list x → after slot (data_offset_of (reading_of new) slot + (place s x).row) ≡ list x

    -- where its row is of the stripe, it is of the stripe's shape, which does without what is missing
    stays : (list : ℕ → Sector) (x slot : ℕ) (s : Shape) → (IsResyncRow old.newest mended (place s x).row → (s ≡ next.shape) × DoesWithout next.shape new) → Stays list x slot s
    stays list x slot s which held stood = elim (of-stripe-or next.shape next.at (place s x).row) [
      | inr out ↦ beside (place s x).row (place s x).role slot out held ∙ stood
      | inl at ↦ (
          let own = which at in
          subst (λ (t : Shape). IsResyncRow old.newest mended (place t x).row → Stays list x slot t) (sym own.0) (λ here held stood. within own.1 x slot here held ∙ stood) at held stood)
    ]

    pub list-stays : (among : Shape → Type 0) → ((s : Shape) → among s → DoesWithout s new) → (hidden : Option Span) (list : ℕ → Sector) → ListStandsIn among hidden old before list → ListStandsIn among hidden new after list
    list-stays among does hidden list stands x slot new-own shown held =
        let was-shown = shown-before hidden x shown in
        let own : among (shape_for old.newest x) = subst among (same-shape x) new-own in
        subst (λ (s : Shape). held_slot (reading_of new) (place s x).role (place s x).row ≡ Some slot → after slot (data_offset_of (reading_of new) slot + (place s x).row) ≡ list x) (sym (same-shape x))
        (λ held. stays list x slot (shape_for old.newest x)
        (λ at. (let same = next-region old.newest was.fit mended lt x was-shown.within at in (same, does next.shape (subst among same own)))) held
        (stands x slot own was-shown (held-moved moved (place_by old.newest x).role (place_by old.newest x).row slot held))) held

    pub tails-stay : DoesWithout (final_shape old.newest) new → (list : ℕ → Sector) → AreTailsStanding old before list → AreTailsStanding new after list
    tails-stay does list stands x slot tail held =
        let before-tail = tail-before given old new moved x tail in
        let same = next-tail old.newest was.fit mended lt x before-tail in
        subst (λ (s : Shape). held_slot (reading_of new) (place s x).role (place s x).row ≡ Some slot → after slot (data_offset_of (reading_of new) slot + (place s x).row) ≡ list x) (sym moved.reshape.final)
        (λ held. stays list x slot (final_shape old.newest) (λ at. (sym same, subst (λ (s : Shape). DoesWithout s new) (sym same) does)) held
        (stands x slot before-tail (held-moved moved (place (final_shape old.newest) x).role (place (final_shape old.newest) x).row slot held))) held

    pub ends-stay : DoesWithout (low_shape old.newest) new → (list : ℕ → Sector) → AreEndsStanding old before list → AreEndsStanding new after list
    ends-stay does list stands x slot new-past under held =
        let past : list_length old.newest ≤ x = subst (λ (n : ℕ). n ≤ x) same-length new-past in
        let small : (place (low_shape old.newest) x).row < low_stripes old.newest * (low_shape old.newest).chunk =
        subst (λ (s : Shape). (place s x).row < low_stripes old.newest * s.chunk) (same-shape 0) (subst (λ (n : ℕ). (place (low_shape new.newest) x).row < n * (low_shape new.newest).chunk) (low-stripes-alike old.newest new.newest moved.reshape moved.shape moved.size) under) in
        subst (λ (s : Shape). held_slot (reading_of new) (place s x).role (place s x).row ≡ Some slot → after slot (data_offset_of (reading_of new) slot + (place s x).row) ≡ list x) (sym (same-shape 0))
        (λ held. stays list x slot (low_shape old.newest)
        (λ at. (let same = next-ended old.newest was.fit mended lt x past small in (sym same, subst (λ (s : Shape). DoesWithout s new) (sym same) does))) held
        (stands x slot past small (held-moved moved (place (low_shape old.newest) x).role (place (low_shape old.newest) x).row slot held))) held

    -- the rows that were relied on stand on
    pub rows-kept : (among : Shape → Type 0) (hidden : Option Span) (list : ℕ → Sector) → RowsStandIn among hidden (relied_sector old.newest (Some mended)) old before list
        → RowsStandIn among hidden (relied_sector old.newest (Some mended)) new after list
    rows-kept among hidden list rows x below new-own shown =
        let was-shown = shown-before hidden x shown in
        subst (λ (s : Shape). RowStands (reading_of new) after s list (place s x).row) (sym (same-shape x))
        (row-on given old new moved (shape_for old.newest x) list (place_by old.newest x).row before after
        (others (place_by old.newest x).row (next-behind old.newest was.fit mended lt x was-shown.within below))
        (rows x below (subst among (same-shape x) new-own) was-shown))

    -- and those of the stripe, where it was mended
    module _ (mends : (list : ℕ → Sector) → DataStandsAmong next.shape (IsResyncRow old.newest mended) old before list → (row : ℕ) → IsResyncRow old.newest mended row → AreWholeIn next.shape list row
        → RowStands (reading_of new) after next.shape list row) where
      pub rows-mended : (among : Shape → Type 0) (hidden : Option Span) (list : ℕ → Sector)
          → ((x : ℕ) → relied_sector old.newest (Some mended) ≤ x → x < relied_sector old.newest (Some (mended + 1)) → IsShown hidden old.newest x)
          → ((row : ℕ) → IsResyncRow old.newest mended row → AreWholeIn next.shape list row) → ListStandsIn among hidden old before list → AreEndsStanding old before list
          → RowsStandIn among hidden (relied_sector old.newest (Some mended)) old before list
          → RowsStandIn among hidden (relied_sector old.newest (Some (mended + 1))) new after list
      rows-mended among hidden list are-shown whole stands ends rows x below new-own shown =
          let was-shown = shown-before hidden x shown in
          let own : among (shape_for old.newest x) = subst among (same-shape x) new-own in
          subst (λ (s : Shape). RowStands (reading_of new) after s list (place s x).row) (sym (same-shape x))
          (elim (of-stripe-or next.shape next.at (place_by old.newest x).row) [
            | inl at ↦ (
                let same = next-region old.newest was.fit mended lt x was-shown.within at in
                subst (λ (s : Shape). IsResyncRow old.newest mended (place s x).row → RowStands (reading_of new) after s list (place s x).row) (sym same)
                (λ here. mends list (stripe-data hidden list among (subst among same own) are-shown stands ends) (place next.shape x).row here (whole (place next.shape x).row here)) at)
            | inr out ↦ elim (cases_lt x (relied_sector old.newest (Some mended))) [
              | inl early ↦ row-on given old new moved (shape_for old.newest x) list (place_by old.newest x).row before after (others (place_by old.newest x).row out) (rows x early own was-shown)
              | inr late ↦ absurd (
                  let is = is-next old.newest was.fit mended lt in
                  let same : shape_for old.newest x ≡ next.shape = is.own x (let begins = is.begins in omega (arith, late, begins)) below in
                  out (subst (λ (s : Shape). IsResyncRow old.newest mended (place s x).row) (sym same) (next-row old.newest was.fit mended lt x late below)))
            ]
          ])
