-- A list that stands on the members that are there, behind a write.
use Rattle.std.proofs.Common.{◌≡◌, ◌⊎◌, inl, inr, ℕ, ◌+◌, ◌-◌, ◌*◌, ◌/◌, ◌<◌, ◌≤◌, Bool, true, false, List, length, take, drop, slice_index, Contains, Some, None, refl, sym, ◌∙◌, ap, subst, arith}
use Rattle.std.proofs.lemmas.Bool.{cases_lt}
use Rattle.std.proofs.lemmas.List.{get_or_default}
use Rattle.std.specs.Prelude.{Option, is_some}
use Rattle.crash_role_laws.specs.raid_types_Sectors.{Sector, IsWhole}
use Rattle.crash_role_laws.specs.raid_types_Shapes.{is_valid_shape}
use Rattle.crash_role_laws.specs.raid_types_the_Shape.{Shape}
use Rattle.crash_role_laws.specs.raid_types_the_Role_TheVariants.{Recovering}
use Rattle.crash_role_laws.specs.raid_types_the_Place.{Place}
use Rattle.crash_role_laws.specs.bank_Given.{Given}
use Rattle.crash_role_laws.specs.bank_Tape.{Contents}
use Rattle.crash_role_laws.specs.raid_layout_Layout.{place}
use Rattle.crash_role_laws.specs.raid_parity_Rows.{IsSector, sector_of}
use Rattle.crash_role_laws.specs.sb_specs_the_Members.{Members}
use Rattle.crash_role_laws.specs.sb_specs_Reading.{shape_of, role_count, role_state, holder, data_offset_of}
use Rattle.crash_role_laws.specs.stripe_row_Rows.{reading_of, held_slot}
use Rattle.crash_role_laws.proofs.stripe_row_Losses.{holder-of}
use Rattle.crash_role_laws.proofs.stripe_row_NewRow.{whole_sector}
use Rattle.crash_role_laws.specs.stripe_list_Full.{full_sector, AreWholeIn, DataStands, RowStands}
use Rattle.crash_role_laws.specs.stripe_list_Buffers.{buffered, AreTouched, AreStanding, IsTouched}
use Rattle.crash_role_laws.specs.stripe_list_Writing.{IsWritten, AreDataFrom, HasFull}
use Rattle.crash_role_laws.proofs.raid_layout_Places.{place-role_below}
use Rattle.array_members.specs.Rows.{row_sector}
use Rattle.array_members.proofs.MemberLaws.{holder-is}
use Rattle.crash_role_laws.proofs.stripe_list_FullLaws.{data_here, full-data, full-same, sector_there}
use Rattle.array_members.specs.Placed.{places_of, AreWhole, IsPlaced, IsInForce}
use Rattle.crash_role_laws.specs.crash_safety_laws_Marking.{AreOthersPresent}
use Rattle.array_members.specs.Moving.{IsMoved}
use Rattle.array_members.specs.Lacking.{ListStands, RowsStand, DataStandsAmong, RowsStandAmong, AreOtherRowsKept, AreBytes, AreRowsRead, AreRowsWritten}
use Rattle.array_members.proofs.Fit.{force-valid, force-disks, count-alike}
use Rattle.array_members.proofs.Elements.{contains_or_not, contains-at}
use Rattle.array_members.proofs.MovedLaws.{moved-then}
use Rattle.array_members.proofs.LackingWrites.{list-in, list-in-is, list-with, list-with-is}
use Rattle.array_members.proofs.HeldRows.{whole-held, held-moved}

-- where a row stands among these
index-of : (rows : List ℕ) (row : ℕ) → Contains rows row → (i : ℕ) × (i < length rows) × (slice_index rows i ≡ row)
index-of rows row has = (has.0, has.1, get_or_default rows has.0 0 row has.1 ∙ has.2)

-- ---- what moved, without a write

-- a row stands on, on fewer members
module _ (given : Given) (old new : Members) (before after : Contents) (list : ℕ → Sector) (moved : IsMoved given old new) (was : IsPlaced given old) (others : AreOthersPresent before after) (row : ℕ) where
  -- what a slot that holds a role has of it is as it was
  still-there : (role slot : ℕ) → holder (role_state (reading_of new) role) ≡ Some slot → after slot (data_offset_of (reading_of new) slot + row) ≡ before slot (data_offset_of (reading_of old) slot + row)
  still-there role slot held =
      ap (λ (n : ℕ). after slot (n + row)) (moved.offsets slot)
      ∙ others slot (data_offset_of (reading_of old) slot + row) (λ e. absurd (let far = was.behind role slot (moved.held role slot held) in omega (arith, e, far)))

  module _ (shape : Shape) where
    pub data-moved : DataStands (reading_of old) before shape list row → DataStands (reading_of new) after shape list row
    data-moved stands role slot lt here held =
        still-there role slot (holder-of (reading_of new) role row slot held) ∙ stands role slot lt here (held-moved moved role row slot held)

    pub row-moved : RowStands (reading_of old) before shape list row → RowStands (reading_of new) after shape list row
    row-moved stands = record {
      whole = stands.whole;
      sectors = data-moved stands.sectors;
      parity = λ role slot lt here held.
          still-there role slot (holder-of (reading_of new) role row slot held) ∙ stands.parity role slot lt here (held-moved moved role row slot held);
    }

-- and so do the list, and all rows, or those among some
pub list-moved : (given : Given) (old new : Members) (before after : Contents) (list : ℕ → Sector) → IsMoved given old new → IsPlaced given old → AreOthersPresent before after
    → ListStands old before list → ListStands new after list
list-moved given old new before after list moved was others stands row below =
    subst (λ (s : Shape). DataStands (reading_of new) after s list row) (sym moved.shape)
    (data-moved given old new before after list moved was others row (shape_of old.newest) (stands row (subst (λ (n : ℕ). row < n) moved.size below)))

pub rows-moved : (given : Given) (old new : Members) (before after : Contents) (list : ℕ → Sector) → IsMoved given old new → IsPlaced given old → AreOthersPresent before after
    → RowsStand old before list → RowsStand new after list
rows-moved given old new before after list moved was others stands row below =
    subst (λ (s : Shape). RowStands (reading_of new) after s list row) (sym moved.shape)
    (row-moved given old new before after list moved was others row (shape_of old.newest) (stands row (subst (λ (n : ℕ). row < n) moved.size below)))

-- those of one shape, among some
pub data-among-moved : (shape : Shape) (among : ℕ → Type 0) (given : Given) (old new : Members) (before after : Contents) (list : ℕ → Sector) → IsMoved given old new → IsPlaced given old → AreOthersPresent before after
    → DataStandsAmong shape among old before list → DataStandsAmong shape among new after list
data-among-moved shape among given old new before after list moved was others stands row has below =
    data-moved given old new before after list moved was others row shape (stands row has (subst (λ (n : ℕ). row < n) moved.size below))

pub among-moved : (shape : Shape) (among : ℕ → Type 0) (given : Given) (old new : Members) (before after : Contents) (list : ℕ → Sector) → IsMoved given old new → IsPlaced given old → AreOthersPresent before after
    → RowsStandAmong shape among old before list → RowsStandAmong shape among new after list
among-moved shape among given old new before after list moved was others stands row has below =
    row-moved given old new before after list moved was others row shape (stands row has (subst (λ (n : ℕ). row < n) moved.size below))

-- ---- a write

module _ (given : Given) (old mid new : Members) (one : IsMoved given old mid) (two : IsMoved given mid new) (was : IsPlaced given old) (shape : Shape) (force : IsInForce old.newest shape)
    (before between after : Contents) (others : AreOthersPresent before between) (first count : ℕ) (from rows buffer buffer' : List ℕ) (fits : length from / 512 ≤ count)
    (touched : AreTouched shape first count rows)
    (done : AreRowsWritten shape first from rows 0 (length rows) new between after buffer buffer')
    (list list' : ℕ → Sector) (write : IsWritten list list' first from) where
  both : IsMoved given old new
  both = moved-then given old mid new one two

  valid : is_valid_shape shape ≡ true
  valid = force-valid old.newest was.fit shape force

  -- a sector of a row that isn't touched is as it was
  outside : (row x : ℕ) → (Contains rows row → ⊥) → (place shape x).row ≡ row → list' x ≡ list x
  outside row x none at = elim (cases_lt x first) [
    | inl low ↦ write.other x (inl low)
    | inr from_first ↦ elim (cases_lt x (first + length from / 512)) [
      | inl inside ↦ absurd (none (subst (λ (r : ℕ). Contains rows r) at (touched.all x from_first (omega (arith, inside, fits)))))
      | inr high ↦ write.other x (inr high)
    ]
  ]

  -- what a holder has of a row is as it was before the first is written
  between-there : (row role slot : ℕ) → holder (role_state (reading_of new) role) ≡ Some slot → between slot (data_offset_of (reading_of new) slot + row) ≡ before slot (data_offset_of (reading_of old) slot + row)
  between-there row role slot held =
      ap (λ (n : ℕ). between slot (n + row)) (both.offsets slot)
      ∙ others slot (data_offset_of (reading_of old) slot + row) (λ e. absurd (let far = was.behind role slot (both.held role slot held) in omega (arith, e, far)))

  -- what a holder has of such a row is as it was
  kept-there : (row role slot : ℕ) → (Contains rows row → ⊥) → holder (role_state (reading_of new) role) ≡ Some slot
      → after slot (data_offset_of (reading_of new) slot + row) ≡ before slot (data_offset_of (reading_of old) slot + row)
  kept-there row role slot none held =
      done.others row (λ i low lt e. none (subst (λ (r : ℕ). Contains rows r) e (contains-at rows i lt))) role slot held
      ∙ between-there row role slot held

  module _ (row role slot : ℕ) (lt : role < shape.disks) (held : held_slot (reading_of new) role row ≡ Some slot) where
    holds : holder (role_state (reading_of new) role) ≡ Some slot
    holds = holder-of (reading_of new) role row slot held

    -- where the row is touched, it has the full sector of any list that was read
    full-there : (has : Contains rows row) (list0 list0' : ℕ → Sector) → IsWritten list0 list0' first from → AreDataFrom 0 shape list0 rows buffer
        → after slot (data_offset_of (reading_of new) slot + row) ≡ full_sector shape list0' row role
    full-there has list0 list0' w data_of_it =
        let at = index-of rows row has in
        subst (λ (r : ℕ). held_slot (reading_of new) role r ≡ Some slot → after slot (data_offset_of (reading_of new) slot + r) ≡ full_sector shape list0' r role) at.2
        (done.full list0 list0' w data_of_it at.0 (omega arith) at.1 role slot lt) held

    -- where it isn't, it still has that of the list
    still-full : (none : Contains rows row → ⊥) → before slot (data_offset_of (reading_of old) slot + row) ≡ full_sector shape list row role
        → after slot (data_offset_of (reading_of new) slot + row) ≡ full_sector shape list' row role
    still-full none stands =
        kept-there row role slot none holds ∙ stands ∙ full-same shape list list' row valid (λ x at. outside row x none at) role lt

    -- the place of a data role
    module _ (synced : Bool) (read : AreRowsRead shape synced old mid before rows buffer) (x : ℕ) (there : place shape x ≡ record { role = role; row = row })
        (stands : before slot (data_offset_of (reading_of old) slot + row) ≡ full_sector shape list row role) where
      -- what was read there is the list's
      read-is : (has : Contains rows row) → list-in shape rows buffer x ≡ list x
      read-is has =
          let at = index-of rows row has in
          let own : (place shape x).row ≡ slice_index rows at.0 = ap (λ (p : Place). p.row) there ∙ sym at.2 in
          sym (list-in-is shape rows buffer 0 touched.once at.0 (omega arith) at.1 x own)
          ∙ ap (λ (p : Place). buffered buffer at.0 p.role) there
          ∙ read.held at.0 at.1 role slot lt (subst (λ (r : ℕ). held_slot (reading_of mid) role r ≡ Some slot) (sym at.2) (held-moved two role row slot held))
          ∙ ap (λ (r : ℕ). before slot (data_offset_of (reading_of mid) slot + r)) at.2
          ∙ ap (λ (n : ℕ). before slot (n + row)) (one.offsets slot)
          ∙ stands ∙ full-data shape list role row x valid there

      data-written : after slot (data_offset_of (reading_of new) slot + row) ≡ full_sector shape list' row role
      data-written = elim (contains_or_not rows row) [
        | inl has ↦
            let list0 = list-in shape rows buffer in
            let list1 = list-with list0 first from in
            let w : IsWritten list0 list1 first from = list-with-is list0 first from in
            full-there has list0 list1 w (list-in-is shape rows buffer 0 touched.once)
            ∙ full-data shape list1 role row x valid there
            ∙ elim (cases_lt x first) [
              | inl low ↦ w.other x (inl low) ∙ read-is has ∙ sym (write.other x (inl low))
              | inr from_first ↦ elim (cases_lt x (first + length from / 512)) [
                | inl inside ↦ w.here x from_first inside ∙ sym (write.here x from_first inside)
                | inr high ↦ w.other x (inr high) ∙ read-is has ∙ sym (write.other x (inr high))
              ]
            ]
            ∙ sym (full-data shape list' role row x valid there)
        | inr none ↦ still-full none stands
      ]

  -- the list stands in the rows that are touched
  pub data-touched : (synced : Bool) → AreRowsRead shape synced old mid before rows buffer → DataStandsAmong shape (IsTouched shape first count) old before list
      → DataStandsAmong shape (IsTouched shape first count) new after list'
  data-touched synced read stands row touch below role slot lt here held =
      let low : row < old.newest.size = subst (λ (n : ℕ). row < n) both.size below in
      let found = sector_there shape role row valid lt here in
      data-written row role slot lt held synced read found.0 found.1 (stands row touch low role slot lt here (held-moved both role row slot held))

  -- and the others are as they were
  pub others-kept : AreOtherRowsKept (IsTouched shape first count) (reading_of new) before after
  others-kept row none role slot held =
      kept-there row role slot (λ has. none (touched.only row has)) held ∙ ap (λ (n : ℕ). before slot (n + row)) (sym (both.offsets slot))

  -- a row that was rebuilt on a recovering slot stays so
  pub rebuilt-written : AreDataFrom 0 shape list rows buffer → (role slot row : ℕ) → role < shape.disks → role_state (reading_of new) role ≡ Recovering slot
      → HasFull (reading_of old) before shape list row role slot → HasFull (reading_of new) after shape list' row role slot
  rebuilt-written has role slot row lt is full = elim (contains_or_not rows row) [
    | inl there ↦
        let at = index-of rows row there in
        subst (λ (r : ℕ). between slot (data_offset_of (reading_of new) slot + r) ≡ full_sector shape list r role
        → after slot (data_offset_of (reading_of new) slot + r) ≡ full_sector shape list' r role) at.2
        (done.rebuilt list list' write has at.0 (omega arith) at.1 role slot lt is) (between-there row role slot (ap holder is) ∙ full)
    | inr none ↦ kept-there row role slot none (ap holder is) ∙ full ∙ full-same shape list list' row valid (λ x at. outside row x none at) role lt
  ]

  -- and a row with its parity, if it is touched or stood before, where its sectors are whole
  pub row-written : AreDataFrom 0 shape list rows buffer → ((x : ℕ) → first ≤ x → x < first + length from / 512 → IsSector (sector_of from (x - first)))
      → (row : ℕ) → AreWholeIn shape list row → IsTouched shape first count row ⊎ RowStands (reading_of old) before shape list row
      → RowStands (reading_of new) after shape list' row
  row-written has small row whole which = record {
    whole = whole_after;
    sectors = λ role slot lt here held. elim (contains_or_not rows row) [
      | inl there ↦ full-there row role slot lt held there list list' write has
      | inr none ↦ still-full row role slot lt held none ((stood none which).sectors role slot lt here (held-moved both role row slot held))
    ];
    parity = λ role slot lt here held. elim (contains_or_not rows row) [
      | inl there ↦ full-there row role slot lt held there list list' write has
      | inr none ↦ still-full row role slot lt held none ((stood none which).parity role slot lt here (held-moved both role row slot held))
    ];
  }
    where
      stood : (Contains rows row → ⊥) → IsTouched shape first count row ⊎ RowStands (reading_of old) before shape list row
          → RowStands (reading_of old) before shape list row
      stood none (inl touch) = absurd (none (subst (λ (r : ℕ). Contains rows r) touch.3 (touched.all touch.0 touch.1 touch.2)))
      stood none (inr stands) = stands

      whole_after : AreWholeIn shape list' row
      whole_after x at = elim (cases_lt x first) [
        | inl less ↦ subst IsSector (sym (write.other x (inl less))) (whole x at)
        | inr from_first ↦ elim (cases_lt x (first + length from / 512)) [
          | inl inside ↦ subst IsSector (sym (write.here x from_first inside)) (small x from_first inside)
          | inr high ↦ subst IsSector (sym (write.other x (inr high))) (whole x at)
        ]
      ]

-- ---- the marks of a write, where every role is whole

pub row-sector : (bytes : List ℕ) (i : ℕ) → sector_of bytes i ≡ row_sector bytes i
row-sector bytes i = let n : 512 * i + 512 - 512 * i ≡ 512 = omega arith in ap (λ (k : ℕ). take k (drop (512 * i) bytes)) n

-- and by a list that stands there
pub data-held : (given : Given) (old mid : Members) (shape : Shape) → IsInForce old.newest shape → IsMoved given old mid → IsPlaced given old → AreWhole mid → (c : Contents) (rows buffer : List ℕ) (list : ℕ → Sector)
    → ((row : ℕ) → Contains rows row → row < mid.newest.size) → ((i : ℕ) → i < length rows → AreStanding (reading_of mid) c shape (slice_index rows i) (buffered buffer i))
    → DataStandsAmong shape (Contains rows) old c list → AreDataFrom 0 shape list rows buffer
data-held given old mid shape force moved was whole c rows buffer list below standing stands i low lt x at =
    let valid = force-valid old.newest was.fit shape force in
    let row = slice_index rows i in
    let role = (place shape x).role in
    let slot = (places_of mid).slot role in
    let there : place shape x ≡ record { role = role; row = row } = λ k. record { role = role; row = at k } in
    let role_lt : role < shape.disks = place-role_below shape valid x in
    let below_row = below row (contains-at rows i lt) in
    let low : role < role_count mid.newest = (let within = force-disks old.newest was.fit shape force in let count = count-alike old.newest mid.newest moved.reshape moved.shape moved.size in omega (arith, role_lt, within, count)) in
    let held = whole-held (reading_of mid) role row slot (whole role low) (holder-is given mid moved.placed whole role low) below_row in
    standing i lt role slot role_lt held
    ∙ ap (λ (n : ℕ). c slot (n + row)) (moved.offsets slot)
    ∙ stands row (contains-at rows i lt) (subst (λ (n : ℕ). row < n) moved.size below_row) role slot role_lt (data_here shape role row x valid there) (held-moved moved role row slot held)
    ∙ full-data shape list role row x valid there

-- So the buffer has the list's data where every role is whole in the end, and, where parity is relied on, where the touched rows stood. Where it
-- isn't, each role that has data was there.
pub data-read : (given : Given) (old mid new : Members) (shape : Shape) → IsInForce old.newest shape → IsMoved given old mid → IsMoved given mid new → IsPlaced given old → (c : Contents) (first count : ℕ) (rows buffer : List ℕ) (list : ℕ → Sector)
    (synced : Bool) → AreTouched shape first count rows → ((row : ℕ) → Contains rows row → row < mid.newest.size) → AreRowsRead shape synced old mid c rows buffer
    → DataStandsAmong shape (IsTouched shape first count) old c list → (synced ≡ true → AreWhole new ⊎ RowsStandAmong shape (IsTouched shape first count) old c list) → AreDataFrom 0 shape list rows buffer
data-read given old mid new shape force one two was c first count rows buffer list synced touched below read stands full = of synced refl
  where
    only : DataStandsAmong shape (Contains rows) old c list
    only row has = stands row (touched.only row has)

    by : AreWhole new ⊎ RowsStandAmong shape (IsTouched shape first count) old c list → AreDataFrom 0 shape list rows buffer
    by (inl whole) = data-held given old mid shape force one was (two.whole whole) c rows buffer list below read.held only
    by (inr good) = read.listed list only (λ is row has. good row (touched.only row has))

    of : (b : Bool) → synced ≡ b → AreDataFrom 0 shape list rows buffer
    of true is = by (full is)
    of false not = read.listed list only (λ is. absurd (let both = sym not ∙ is in cc))

pub sectors-whole : (from : List ℕ) → IsWhole from → AreBytes from → (i : ℕ) → i < length from / 512 → IsSector (sector_of from i)
sectors-whole from whole small i lt = whole_sector from (length from / 512) i whole small lt

pub none-of : {A : Type 0} (o : Option A) → is_some o ≡ false → o ≡ None
none-of None e = refl
none-of (Some x) e = absurd (cc)
