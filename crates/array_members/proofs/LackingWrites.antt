-- Rows that are written while members are lost.
use Rattle.std.proofs.Common.{◌≡◌, ◌⊎◌, inl, inr, ℕ, ◌+◌, ◌-◌, ◌/◌, ◌<◌, ◌≤◌, ◌==◌, ◌&&◌, nat_lt, nat_le, Bool, true, false, if◌then◌else◌, List, [], append-nil, length, slice_index, Option, Some, unwrap_or, refl, sym, ◌∙◌, ap, ap₂, subst, arith, eq-eqb, eqb-true}
use Rattle.std.proofs.lemmas.Bool.Decides.{nat_tests}
use Rattle.std.proofs.lemmas.Bool.{cases_lt}
use Rattle.crash_role_laws.specs.raid_types_Search.{least_below}
use Rattle.crash_role_laws.proofs.raid_types_Least.{least_below-only}
use Rattle.crash_role_laws.specs.raid_types_Sectors.{Sector}
use Rattle.crash_role_laws.specs.raid_types_the_Shape.{Shape}
use Rattle.crash_role_laws.specs.raid_types_the_Role_TheVariants.{Recovering}
use Rattle.crash_role_laws.specs.bank_Given.{Given}
use Rattle.crash_role_laws.specs.bank_the_Operation.{Operation}
use Rattle.crash_role_laws.specs.bank_Tape.{Contents, EachMark, disk}
use Rattle.crash_role_laws.specs.raid_layout_Layout.{place}
use Rattle.crash_role_laws.proofs.raid_layout_Places.{place-role_below}
use Rattle.crash_role_laws.specs.raid_types_Shapes.{is_valid_shape}
use Rattle.std.specs.Prelude.{IsTrue, Result, Ok, Err, OnOk, is_some}
use Rattle.crash_role_laws.specs.raid_parity_Rows.{sector_of}
use Rattle.crash_role_laws.specs.sb_specs_the_Members.{Members}
use Rattle.crash_role_laws.specs.sb_specs_Reading.{role_state, holder, data_offset_of}
use Rattle.crash_role_laws.specs.stripe_row_Rows.{reading_of}
use Rattle.crash_role_laws.proofs.stripe_row_Losses.{holder-of}
use Rattle.crash_role_laws.specs.stripe_list_Calls.{AreLost as IsListLost}
use Rattle.crash_role_laws.specs.stripe_list_Buffers.{buffered, AreDistinct, AreStanding}
use Rattle.crash_role_laws.specs.stripe_list_Full.{full_sector}
use Rattle.crash_role_laws.specs.stripe_list_Writing.{IsWritten, AreDataFrom, HasFull}
use Rattle.array_members.specs.Placed.{IsPlaced, AreLost, IsInForce}
use Rattle.crash_role_laws.specs.stripe_list_the_Unavailable.{Unavailable}
use Rattle.array_members.proofs.HeldRows.{held-moved}
use Rattle.array_members.proofs.MemberLaws.{are_lost}
use Rattle.crash_role_laws.proofs.bank_Marks.{each_mark-along}
use Rattle.crash_role_laws.specs.crash_safety_laws_Marking.{AreOthersPresent}
use Rattle.array_members.specs.Moving.{IsMoved}
use Rattle.array_members.specs.Lacking.{AreOtherRowsKept, AreRowsWritten, refused_by}
use Rattle.array_members.proofs.Fit.{force-valid}

-- ---- the rows of the members

lt-is : (a b : ℕ) → a < b → nat_lt a b ≡ true
lt-is a b lt = grind (arith, nat_tests, lt)

-- ---- from one time to a later one

-- a slot that recovers a role in the end did so before
pub recovering-before : {given : Given} {mid new : Members} → IsMoved given mid new → (role slot : ℕ) → role_state (reading_of new) role ≡ Recovering slot → role_state (reading_of mid) role ≡ Recovering slot
recovering-before moved role slot is = sym (moved.states role slot (ap holder is)) ∙ is

-- and its place of a row is the same
pub full-before : {given : Given} {mid new : Members} → IsMoved given mid new → (c : Contents) (shape : Shape) (list : ℕ → Sector) (row role slot : ℕ)
    → HasFull (reading_of new) c shape list row role slot → HasFull (reading_of mid) c shape list row role slot
full-before moved c shape list row role slot full = subst (λ (n : ℕ). c slot (n + row) ≡ full_sector shape list row role) (moved.offsets slot) full

module _ (given : Given) (mid new : Members) (moved : IsMoved given mid new) (was : IsPlaced given mid) where
  -- a place that is held in the end, where no sector but superblocks has changed
  module _ (between after : Contents) (others : AreOthersPresent between after) where
    at-later : (role slot row : ℕ) → holder (role_state (reading_of new) role) ≡ Some slot → after slot (data_offset_of (reading_of new) slot + row) ≡ between slot (data_offset_of (reading_of mid) slot + row)
    at-later role slot row held =
        ap (λ (n : ℕ). after slot (n + row)) (moved.offsets slot)
        ∙ others slot (data_offset_of (reading_of mid) slot + row) (λ e. absurd (let far = was.behind role slot (moved.held role slot held) in omega (arith, e, far)))

    pub standing-later : (shape : Shape) (row : ℕ) (sectors : ℕ → Sector) → AreStanding (reading_of mid) between shape row sectors → AreStanding (reading_of new) after shape row sectors
    standing-later shape row sectors stands role slot lt held =
        stands role slot lt (held-moved moved role row slot held) ∙ sym (at-later role slot row (holder-of (reading_of new) role row slot held))

    pub written-later : (shape : Shape) (first : ℕ) (from rows : List ℕ) (start next : ℕ) (before : Contents) (buffer buffer' : List ℕ)
        → AreRowsWritten shape first from rows start next mid before between buffer buffer' → AreRowsWritten shape first from rows start next new before after buffer buffer'
    written-later shape first from rows start next before buffer buffer' did = record {
      full = λ list list' w has i from_start lt role slot l held.
          at-later role slot (slice_index rows i) (holder-of (reading_of new) role (slice_index rows i) slot held)
          ∙ did.full list list' w has i from_start lt role slot l (held-moved moved role (slice_index rows i) slot held);
      rebuilt = λ list list' w has i from_start lt role slot l is full.
          at-later role slot (slice_index rows i) (ap holder is)
          ∙ did.rebuilt list list' w has i from_start lt role slot l (recovering-before moved role slot is) (full-before moved before shape list (slice_index rows i) role slot full);
      others = λ row none role slot held.
          at-later role slot row held ∙ did.others row none role slot (moved.held role slot held)
          ∙ ap (λ (n : ℕ). before slot (n + row)) (sym (moved.offsets slot));
      rest = did.rest;
      standing = λ i from_next lt. standing-later shape (slice_index rows i) (buffered buffer' i) (did.standing i from_next lt);
    }

-- a full sector of a slot that holds the role in the end stays, where no sector but superblocks has changed
pub full-later : {given : Given} {mid new : Members} → IsMoved given mid new → IsPlaced given mid → {between after : Contents} → AreOthersPresent between after → (shape : Shape) (list : ℕ → Sector) (row role slot : ℕ)
    → holder (role_state (reading_of new) role) ≡ Some slot → HasFull (reading_of mid) between shape list row role slot → HasFull (reading_of new) after shape list row role slot
full-later {given = given} {mid = mid} {new = new} moved was {between = between} {after = after} others shape list row role slot held full =
    at-later given mid new moved was between after others role slot row held ∙ full

-- rows that are kept by one and by the next
pub others-then : (given : Given) (among : ℕ → Type 0) (a b c : Members) (before between after : Contents) → IsMoved given b c → AreOtherRowsKept among (reading_of b) before between
    → AreOtherRowsKept among (reading_of c) between after → AreOtherRowsKept among (reading_of c) before after
others-then given among a b c before between after moved one two row out role slot held =
    two row out role slot held
    ∙ ap (λ (n : ℕ). between slot (n + row)) (moved.offsets slot)
    ∙ one row out role slot (moved.held role slot held)
    ∙ ap (λ (n : ℕ). before slot (n + row)) (sym (moved.offsets slot))

-- each row is kept where no sector but superblocks has changed
pub others-same : (given : Given) (among : ℕ → Type 0) (mid new : Members) (between after : Contents) → IsMoved given mid new → IsPlaced given mid → AreOthersPresent between after
    → AreOtherRowsKept among (reading_of new) between after
others-same given among mid new between after moved was others row out role slot held =
    at-later given mid new moved was between after others role slot row held ∙ ap (λ (n : ℕ). between slot (n + row)) (sym (moved.offsets slot))

-- ---- one stretch after another

-- the rows that aren't written yet still have the list's data
pub data-later : (shape : Shape) → IsTrue (is_valid_shape shape) → (first : ℕ) (from rows : List ℕ) (a b : ℕ) → a ≤ b → (mid : Members) (before between : Contents) (x y : List ℕ) (list : ℕ → Sector)
    → AreRowsWritten shape first from rows a b mid before between x y → AreDataFrom a shape list rows x → AreDataFrom b shape list rows y
data-later shape valid first from rows a b ab mid before between x y list one has i from_b lt k there =
    one.rest i (place shape k).role from_b lt (place-role_below shape valid k) ∙ has i (omega (arith, ab, from_b)) lt k there

pub written-then : (given : Given) (mid new : Members) → IsMoved given mid new → IsPlaced given mid → (shape : Shape) → IsInForce mid.newest shape → (first : ℕ) (from rows : List ℕ) → AreDistinct rows
    → (a b c : ℕ) → a ≤ b → c ≤ length rows → (before between after : Contents) (x y z : List ℕ) → AreRowsWritten shape first from rows a b mid before between x y
    → AreRowsWritten shape first from rows b c new between after y z → b ≤ c → AreRowsWritten shape first from rows a c new before after x z
written-then given mid new moved was shape force first from rows once a b c ab within before between after x y z one two bc = record {
  rebuilt = λ list list' w has i from_a lt. elim (cases_lt i b) [
    | inl early ↦ (λ role slot l is full.
        let row = slice_index rows i in
        two.others row (λ j from_b lt' e. absurd (once i j (omega (arith, early, from_b)) (omega (arith, lt', within)) (sym e))) role slot (ap holder is)
        ∙ ap (λ (n : ℕ). between slot (n + row)) (moved.offsets slot)
        ∙ one.rebuilt list list' w has i from_a early role slot l (recovering-before moved role slot is) (full-before moved before shape list row role slot full))
    | inr late ↦ (λ role slot l is full.
        let row = slice_index rows i in
        two.rebuilt list list' w (later list has) i late lt role slot l is
        (ap (λ (n : ℕ). between slot (n + row)) (moved.offsets slot)
        ∙ one.others row (λ j from_a lt' e. absurd (once j i (omega (arith, lt', late)) (omega (arith, lt, within)) e)) role slot (ap holder (recovering-before moved role slot is))
        ∙ full-before moved before shape list row role slot full))
  ];
  full = λ list list' w has i from_a lt. elim (cases_lt i b) [
    | inl early ↦ (λ role slot l held.
        let row = slice_index rows i in
        let holds = holder-of (reading_of new) role row slot held in
        two.others row (λ j from_b lt' e. absurd (once i j (omega (arith, early, from_b)) (omega (arith, lt', within)) (sym e))) role slot holds
        ∙ ap (λ (n : ℕ). between slot (n + row)) (moved.offsets slot)
        ∙ one.full list list' w has i from_a early role slot l (held-moved moved role row slot held))
    | inr late ↦ two.full list list' w (later list has) i late lt
  ];
  others = λ row none role slot held.
      two.others row (λ i from_b lt. none i (omega (arith, ab, from_b)) lt) role slot held
      ∙ ap (λ (n : ℕ). between slot (n + row)) (moved.offsets slot)
      ∙ one.others row (λ i from_a lt. none i from_a (omega (arith, lt, bc))) role slot (moved.held role slot held)
      ∙ ap (λ (n : ℕ). before slot (n + row)) (sym (moved.offsets slot));
  rest = λ i role from_c lt l. two.rest i role from_c lt l ∙ one.rest i role (omega (arith, from_c, bc)) lt l;
  standing = two.standing;
}
  where
    -- the rows that aren't written yet still have the list's data
    later : (list : ℕ → Sector) → AreDataFrom a shape list rows x → AreDataFrom b shape list rows y
    later list has = data-later shape (force-valid mid.newest was.fit shape force) first from rows a b ab mid before between x y list one has

-- ---- a list that has the data of these rows
-- the first of these rows on which the sector has its place
abbrev row-of : Shape → List ℕ → ℕ → ℕ
row-of shape rows x = unwrap_or (least_below (length rows) (λ i. slice_index rows i == (place shape x).row)) 0

abbrev pub list-in : Shape → List ℕ → List ℕ → ℕ → Sector
list-in shape rows buffer x = buffered buffer (row-of shape rows x) (place shape x).role

pub list-in-is : (shape : Shape) (rows buffer : List ℕ) (start : ℕ) → AreDistinct rows → AreDataFrom start shape (list-in shape rows buffer) rows buffer
list-in-is shape rows buffer start once i from_start lt x there =
    ap (λ (o : Option ℕ). buffered buffer (unwrap_or o 0) (place shape x).role)
    (sym (least_below-only (length rows) (λ j. slice_index rows j == (place shape x).row) i lt (eq-eqb (slice_index rows i) (place shape x).row (sym there))
    (λ j below passes. only j below (eqb-true (slice_index rows j) (place shape x).row passes ∙ there))))
  where
    only : (j : ℕ) → j < length rows → slice_index rows j ≡ slice_index rows i → j ≡ i
    only j below e = elim (cases_lt j i) [
      | inl less ↦ absurd (once j i less lt e)
      | inr more ↦ elim (cases_lt i j) [
        | inl less ↦ absurd (once i j less below (sym e))
        | inr back ↦ omega (arith, more, back)
      ]
    ]

-- the list with the write done
abbrev pub list-with : (ℕ → Sector) → ℕ → List ℕ → ℕ → Sector
list-with list first from x = if nat_le first x && nat_lt x (first + length from / 512) then sector_of from (x - first) else list x

pub list-with-is : (list : ℕ → Sector) (first : ℕ) (from : List ℕ) → IsWritten list (list-with list first from) first from
list-with-is list first from = record {
  here = λ x low high. ap₂ (λ (a b : Bool). if a && b then sector_of from (x - first) else list x) (le-is first x low) (lt-is x (first + length from / 512) high);
  other = λ x out. by x out;
}
  where
    le-is : (a b : ℕ) → a ≤ b → nat_le a b ≡ true
    le-is a b le = grind (arith, nat_tests, le)

    not-le : (a b : ℕ) → b < a → nat_le a b ≡ false
    not-le a b lt = grind (arith, nat_tests, lt)

    not-lt : (a b : ℕ) → b ≤ a → nat_lt a b ≡ false
    not-lt a b le = grind (arith, nat_tests, le)

    none : (b : Bool) → (b && false) ≡ false
    none true = refl
    none false = refl

    by : (x : ℕ) → (x < first) ⊎ (first + length from / 512 ≤ x) → list-with list first from x ≡ list x
    by x (inl low) = ap (λ (a : Bool). if a && nat_lt x (first + length from / 512) then sector_of from (x - first) else list x) (not-le first x low)
    by x (inr high) = ap (λ (b : Bool). if nat_le first x && b then sector_of from (x - first) else list x) (not-lt x (first + length from / 512) high)
        ∙ ap (λ (b : Bool). if b then sector_of from (x - first) else list x) (none (nat_le first x))

-- ---- marks where nothing was done before, or behind

pub marks-here : {P : (ℕ → ℕ → List Sector) → Type 0} (tells : Type 0) (start : Contents) (tape : List Operation) → P (disk start tape) → EachMark tells start tape tape P
marks-here {P = P} tells start tape here = subst (λ (l : List Operation). EachMark tells start tape l P) (append-nil tape) (each_mark-along tells start tape [] P here)

-- ---- what the calls below lose and answer

pub lost-of : (given : Given) (shape : Shape) (old new : Members) (lost : ℕ) (before after : ℕ → ℕ) → IsPlaced given old → IsListLost shape old new lost before after → AreLost given shape old new lost before after
lost-of given shape old new lost before after placed did = are_lost given shape old new lost before after placed did.members did.failed did.never_falls

pub ok-of : {T Q : Type 0} (shape : Shape) (m : Members) (answer : Result T Unavailable) → is_some (refused_by shape m answer) ≡ false → OnOk answer Q → Q
ok-of shape m (Ok done) none q = q
ok-of shape m (Err cause) none q = absurd (cc)
