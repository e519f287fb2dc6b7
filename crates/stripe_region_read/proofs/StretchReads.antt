-- What the reads of one stretch after another leave: the bytes, and the list's sectors.
use Rattle.std.proofs.Common.{◌≡◌, ◌⊎◌, inl, inr, ℕ, ◌+◌, ◌-◌, ◌*◌, ◌/◌, ◌<◌, ◌≤◌, ◌==◌, Bool, true, false, if◌then◌else◌, List, [], length, take, drop, Option, Some, refl, sym, ◌∙◌, ap, subst, arith, eqb-true, eq-eqb}
use Rattle.std.proofs.lemmas.Bool.{cases_lt}
use Rattle.std.proofs.lemmas.List.{drop-drop, drop-take, take-take, length-drop, length-take-le}
use Rattle.std.proofs.lemmas.Slice.{take-put_mid_below, between-put_mid}
use Rattle.std.specs.Option.{option_map_or}
use borrow.Rule.Slice.PartMut.{put_mid}
use Rattle.stripe_io.specs.raid_types_Sectors.{Sector}
use Rattle.stripe_io.specs.raid_types_Shapes.{is_valid_shape}
use Rattle.stripe_io.specs.raid_types_the_Shape.{Shape}
use Rattle.stripe_io.specs.raid_types_the_Span.{Span}
use Rattle.stripe_io.specs.bank_Given.{Given}
use Rattle.stripe_io.specs.bank_Tape.{Contents}
use Rattle.stripe_io.specs.raid_layout_Layout.{place}
use Rattle.stripe_io.specs.raid_parity_Rows.{sector_of}
use Rattle.stripe_io.specs.sb_specs_the_Members.{Members}
use Rattle.stripe_io.specs.sb_specs_Reading.{data_offset_of}
use Rattle.stripe_io.specs.stripe_row_Rows.{reading_of, held_slot}
use Rattle.stripe_io.specs.stripe_list_Full.{DataStands, RowStands}
use Rattle.stripe_io.specs.history_Stands.{shape_for}
use Rattle.stripe_io.specs.crash_views_Windows.{IsShown}
use Rattle.stripe_io.proofs.crash_views_Stands.{data-from}
use Rattle.stripe_io.specs.array_members_Placed.{AreWhole, IsPlaced, IsInForce}
use Rattle.stripe_io.specs.array_members_Moving.{IsMoved}
use Rattle.stripe_io.proofs.array_members_Fit.{force-valid}
use Rattle.stripe_io.proofs.array_members_HeldRows.{held-moved}
use Rattle.stripe_io.proofs.array_members_LackingLists.{row-moved}
use Rattle.stripe_region_read.specs.Stretches.{ListStandsIn, RowsStandIn, relied_rows}
use Rattle.stripe_region_read.proofs.StretchLaws.{relied-below}

-- ---- the bytes

-- a sector in as few words
pub plain : (bytes : List ℕ) (i : ℕ) → sector_of bytes i ≡ take 512 (drop (512 * i) bytes)
plain bytes i =
    let n : 512 * i + 512 - 512 * i ≡ 512 = omega arith in
    ap (λ (m : ℕ). take m (drop (512 * i) bytes)) n

-- a sector of a part is a sector of the whole
sector-part : (bytes : List ℕ) (d i n : ℕ) → 512 * i + 512 ≤ n → sector_of (take n (drop (512 * d) bytes)) i ≡ sector_of bytes (d + i)
sector-part bytes d i n le =
    let rest : n ≡ 512 * i + (n - 512 * i) = omega (arith, le) in
    let place : 512 * d + 512 * i ≡ 512 * (d + i) = omega arith in
    plain (take n (drop (512 * d) bytes)) i
    ∙ ap (λ (m : ℕ). take 512 (drop (512 * i) (take m (drop (512 * d) bytes)))) rest
    ∙ ap (λ (l : List ℕ). take 512 l) (drop-take (512 * i) (n - 512 * i) (drop (512 * d) bytes))
    ∙ take-take 512 (n - 512 * i) (drop (512 * i) (drop (512 * d) bytes)) (omega (arith, le))
    ∙ ap (λ (l : List ℕ). take 512 l) (drop-drop (512 * i) (512 * d) bytes)
    ∙ ap (λ (m : ℕ). take 512 (drop m bytes)) place ∙ sym (plain bytes (d + i))

module _ (bytes part : List ℕ) (d e : ℕ) (within : 512 * e ≤ length bytes) (some : d ≤ e) where
  -- the part's length
  pub part-long : length (take (512 * e - 512 * d) (drop (512 * d) bytes)) ≡ 512 * e - 512 * d
  part-long = let left = length-drop (512 * d) bytes in length-take-le (512 * e - 512 * d) (drop (512 * d) bytes) (omega (arith, left, within))

  pub part-count : length (take (512 * e - 512 * d) (drop (512 * d) bytes)) / 512 ≡ e - d
  part-count = let long = part-long in omega (arith, long)

  -- the part is put back: a sector of it, and one before it
  pub sector-here : length part ≡ 512 * e - 512 * d → (j : ℕ) → d ≤ j → j < e → sector_of (put_mid (512 * d) (512 * e - 512 * d) bytes part) j ≡ sector_of part (j - d)
  sector-here long j low high =
      let at : d + (j - d) ≡ j = omega (arith, low) in
      ap (λ (k : ℕ). sector_of (put_mid (512 * d) (512 * e - 512 * d) bytes part) k) (sym at)
      ∙ sym (sector-part (put_mid (512 * d) (512 * e - 512 * d) bytes part) d (j - d) (512 * e - 512 * d) (omega (arith, low, high)))
      ∙ ap (λ (l : List ℕ). sector_of l (j - d)) (between-put_mid (512 * d) (512 * e - 512 * d) bytes part (512 * e) (omega (arith, within, some)) long)

  pub sector-before : (j : ℕ) → j < d → sector_of (put_mid (512 * d) (512 * e - 512 * d) bytes part) j ≡ sector_of bytes j
  sector-before j low =
      plain (put_mid (512 * d) (512 * e - 512 * d) bytes part) j
      ∙ sym (drop-take (512 * j) 512 (put_mid (512 * d) (512 * e - 512 * d) bytes part))
      ∙ ap (λ (l : List ℕ). drop (512 * j) l) (take-put_mid_below (512 * d) (512 * e - 512 * d) bytes part (512 * j + 512) (omega (arith, low)) (omega (arith, within, some)))
      ∙ drop-take (512 * j) 512 bytes ∙ sym (plain bytes j)

-- ---- a list that has one sector, and elsewhere what stands there

module _ (m : Members) (c : Contents) (shape : Shape) (x : ℕ) (list : ℕ → Sector) where
  -- what stands at the place of a sector
  abbrev there : ℕ → Sector
  there y = option_map_or (λ slot. c slot (data_offset_of (reading_of m) slot + (place shape y).row)) (held_slot (reading_of m) (place shape y).role (place shape y).row) []

  abbrev pub stood : ℕ → Sector
  stood y = if y == x then list x else there y

  pub stood-here : stood x ≡ list x
  stood-here = ap (λ (b : Bool). if b then list x else there x) (eq-eqb x x refl)

  -- its data stands in that row where the sector does
  pub stood-data : is_valid_shape shape ≡ true → ((slot : ℕ) → held_slot (reading_of m) (place shape x).role (place shape x).row ≡ Some slot → c slot (data_offset_of (reading_of m) slot + (place shape x).row) ≡ list x)
      → DataStands (reading_of m) c shape stood (place shape x).row
  stood-data valid own = data-from m c stood shape valid (place shape x).row (λ y same slot held. by y slot held (y == x) refl)
    where
      by : (y slot : ℕ) → held_slot (reading_of m) (place shape y).role (place shape y).row ≡ Some slot → (b : Bool) → (y == x) ≡ b
          → c slot (data_offset_of (reading_of m) slot + (place shape y).row) ≡ (if b then list x else there y)
      by y slot held true is =
          let same : x ≡ y = sym (eqb-true y x is) in
          subst (λ (z : ℕ). held_slot (reading_of m) (place shape z).role (place shape z).row ≡ Some slot → c slot (data_offset_of (reading_of m) slot + (place shape z).row) ≡ list x) same (own slot) held
      by y slot held false is = sym (ap (λ (o : Option ℕ). option_map_or (λ slot. c slot (data_offset_of (reading_of m) slot + (place shape y).row)) o []) held)

-- ---- a sector that isn't hidden comes as the list's

module _ (given : Given) (old mid new : Members) (moved : IsMoved given old mid) (was : IsPlaced given old) (c : Contents) (shape : Shape) (force : IsInForce old.newest shape)
    (relied rows : ℕ) (same : rows ≡ relied_rows old.newest relied shape) (x : ℕ) (placed : shape_for old.newest x ≡ shape) (v : Sector)
    (read : (list : ℕ → Sector) → DataStands (reading_of mid) c shape list (place shape x).row → ((place shape x).row < rows → AreWhole new ⊎ RowStands (reading_of mid) c shape list (place shape x).row) → v ≡ list x)
    (among : Shape → Type 0) (read-by : among (shape_for old.newest x)) (hidden : Option Span) (list : ℕ → Sector) (stands : ListStandsIn among hidden old c list) (shown : IsShown hidden old.newest x) where
  -- the sector stands on the members that are there
  own : (slot : ℕ) → held_slot (reading_of mid) (place shape x).role (place shape x).row ≡ Some slot → c slot (data_offset_of (reading_of mid) slot + (place shape x).row) ≡ list x
  own slot held =
      ap (λ (n : ℕ). c slot (n + (place shape x).row)) (moved.offsets slot)
      ∙ subst (λ (s : Shape). held_slot (reading_of old) (place s x).role (place s x).row ≡ Some slot → c slot (data_offset_of (reading_of old) slot + (place s x).row) ≡ list x) placed
      (stands x slot read-by shown) (held-moved moved (place shape x).role (place shape x).row slot held)

  alone : ((place shape x).row < rows → AreWhole new ⊎ RowStands (reading_of mid) c shape (stood mid c shape x list) (place shape x).row) → v ≡ list x
  alone fills = read (stood mid c shape x list) (stood-data mid c shape x list (force-valid old.newest was.fit shape force) own) fills ∙ stood-here mid c shape x list

  pub sector-read : AreWhole new ⊎ RowsStandIn among hidden relied old c list → v ≡ list x
  sector-read (inl whole) = alone (λ low. inl whole)
  sector-read (inr stand) = elim (cases_lt (place shape x).row rows) [
    | inl low ↦
        let below : x < relied = relied-below old.newest was.fit shape force relied x shown.within (subst (λ (n : ℕ). (place shape x).row < n) same low) in
        let row : RowStands (reading_of old) c shape list (place shape x).row = subst (λ (s : Shape). RowStands (reading_of old) c s list (place s x).row) placed (stand x below read-by shown) in
        let still : RowStands (reading_of mid) c shape list (place shape x).row = row-moved given old mid c c list moved was (λ s k other. refl) (place shape x).row shape row in
        read list still.sectors (λ near. inr still)
    | inr high ↦ alone (λ low. absurd (omega (arith, low, high)))
  ]

-- ---- the list by fewer shapes

module _ (among wider : Shape → Type 0) (within : (s : Shape) → among s → wider s) (hidden : Option Span) (m : Members) (c : Contents) (list : ℕ → Sector) where
  pub list-among : ListStandsIn wider hidden m c list → ListStandsIn among hidden m c list
  list-among stands x slot own shown held = stands x slot (within (shape_for m.newest x) own) shown held

  pub rows-among : (relied : ℕ) → RowsStandIn wider hidden relied m c list → RowsStandIn among hidden relied m c list
  rows-among relied stands x below own shown = stands x below (within (shape_for m.newest x) own) shown
