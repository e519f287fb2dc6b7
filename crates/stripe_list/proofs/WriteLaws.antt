-- One row: what its rewriting leaves, and what a stop may leave on the way.
use Rattle.std.proofs.Common.{◌≡◌, ◌≢◌, ◌⊎◌, inl, inr, ℕ, ◌+◌, ◌-◌, ◌/◌, ◌<◌, ◌≤◌, Bool, true, false, ◌||◌, if◌then◌else◌, List, ◌∷◌, length, Option, Some, None, refl, sym, ◌∙◌, ap, subst, arith}
use Rattle.std.proofs.lemmas.Bool.{cases_lt}
use Rattle.raid_layout.specs.raid_types_the_Shape.{Shape}
use Rattle.raid_layout.specs.raid_types_the_Place.{Place}
use Rattle.raid_layout.specs.raid_types_Sectors.{Sector}
use Rattle.raid_layout.specs.raid_types_Shapes.{is_valid_shape, has_slot}
use Rattle.stripe_row.specs.bank_Given.{Given}
use Rattle.stripe_row.specs.bank_the_Operation.{Operation}
use Rattle.stripe_row.specs.bank_Tape.{Contents, IsIn, disk}
use Rattle.raid_layout.specs.Layout.{place, row_roles}
use Rattle.raid_layout.proofs.Places.{place-only}
use Rattle.stripe_row.specs.raid_parity_Parity.{fill}
use Rattle.stripe_row.specs.raid_parity_Rows.{sector_of, row_without}
use Rattle.stripe_row.proofs.raid_parity_Columns.{bool_cases}
use Rattle.stripe_row.specs.sb_specs_the_Members.{Members}
use Rattle.stripe_row.specs.sb_specs_Reading.{Reading, role_state, holder, data_offset_of}
use Rattle.stripe_row.specs.Rows.{present, reading_of, held_slot, members_without}
use Rattle.stripe_row.specs.Writes.{is_parity, is_due, due_slot, new_sector, place_on, AreApart, HasNew, IsWriting, AreWritten, OthersStand}
use Rattle.stripe_row.proofs.Losses.{some_slot, chosen, holder-of, held_slot-after}
use Rattle.stripe_row.proofs.Written.{present-is, present-same}
use Rattle.stripe_list.specs.Full.{full_sector}
use Rattle.stripe_list.specs.Buffers.{AreStanding}
use Rattle.stripe_list.specs.Writing.{IsOther, HasOther, IsChanged, IsWritten, AreDataOf, IsFull, StaysRebuilt, IsRowKept, MayHaveFull, IsPutting}
use Rattle.stripe_list.proofs.FullLaws.{full-data, new-full}
use Rattle.stripe_list.proofs.LossLaws.{recovering-after}

-- The bytes of a row, with its sectors of the write put in their places, and the set of the roles that have one.
pub record IsRowChange (shape : Shape) (row first : ℕ) (from old bytes : List ℕ) (changed : ℕ) : Type 0 where
  pub put : (role x : ℕ) → role < shape.disks → place shape x ≡ record { role = role; row = row } → first ≤ x → x < first + length from / 512
      → sector_of bytes role ≡ sector_of from (x - first)
  pub kept : (role : ℕ) → role < shape.disks → IsOther shape first (length from / 512) role row → sector_of bytes role ≡ sector_of old role
  pub there : (role : ℕ) → has_slot changed role ≡ true → IsChanged shape first (length from / 512) role row
  pub left : (role : ℕ) → role < shape.disks → has_slot changed role ≡ false → is_parity (row_roles shape row) role ≡ false → HasOther shape first (length from / 512) role row

cancel : (a b c : ℕ) → a + b ≡ a + c → b ≡ c
cancel a b c is = omega (arith, is)

both_false : (a b : Bool) → (a || b) ≡ false → (a ≡ false) × (b ≡ false)
both_false true b none = absurd (cc)
both_false false b none = (refl, none)

due_true : (b : Bool) (o : Option ℕ) (s : ℕ) → (if b then o else None) ≡ Some s → b ≡ true
due_true true o s is = refl
due_true false o s is = absurd (cc)

in_more : (l old : List Sector) (w v : Sector) → l ≡ w ∷ old → IsIn l v → (v ≡ w) ⊎ IsIn old v
in_more l old w v is among = subst (λ (k : List Sector). IsIn k v) is among

among : (first count x : ℕ) → ((first ≤ x) × (x < first + count)) ⊎ ((x < first) ⊎ (first + count ≤ x))
among first count x = elim (cases_lt x first) [
  | inl below ↦ inr (inl below)
  | inr low ↦ elim (cases_lt x (first + count)) [ inl high ↦ inl (low, high) | inr above ↦ inr (inr above) ]
]

-- what stands on a role that has another sector is none of those that are written
other_only : (shape : Shape) (first count role row : ℕ) → is_valid_shape shape ≡ true → HasOther shape first count role row → IsOther shape first count role row
other_only shape first count role row valid other x placed =
    subst (λ (y : ℕ). (y < first) ⊎ (first + count ≤ y)) (place-only shape valid other.0 x (other.1 ∙ sym placed)) other.2

-- ---- the new row

module _ (shape : Shape) (valid : is_valid_shape shape ≡ true) (row first : ℕ) (from old bytes : List ℕ) (changed : ℕ) (change : IsRowChange shape row first from old bytes changed)
    (list list' : ℕ → Sector) (written : IsWritten list list' first from) (own : AreDataOf shape list row (sector_of old)) where
  new_data : (role x : ℕ) → role < shape.disks → place shape x ≡ record { role = role; row = row } → sector_of bytes role ≡ list' x
  new_data role x lt at = elim (among first (length from / 512) x) [
    | inl inside ↦ change.put role x lt at inside.0 inside.1 ∙ sym (written.here x inside.0 inside.1)
    | inr apart ↦
        change.kept role lt (other_only shape first (length from / 512) role row valid (x, at, apart))
        ∙ ap (λ (p : Place). sector_of old p.role) (sym at) ∙ own x (ap (λ (p : Place). p.row) at) ∙ sym (written.other x apart)
  ]

  pub new_full : (role : ℕ) → role < shape.disks → new_sector shape row bytes role ≡ full_sector shape list' row role
  new_full = new-full shape list' row bytes valid new_data

-- what isn't written has the same full sector by both lists
pub full_unwritten : (shape : Shape) → is_valid_shape shape ≡ true → (row first : ℕ) (from old bytes : List ℕ) (changed : ℕ) → IsRowChange shape row first from old bytes changed
    → (list list' : ℕ → Sector) → IsWritten list list' first from
    → (role : ℕ) → role < shape.disks → is_due shape row changed role ≡ false → full_sector shape list row role ≡ full_sector shape list' row role
full_unwritten shape valid row first from old bytes changed change list list' written role lt kept =
    let no = both_false (has_slot changed role) (is_parity (row_roles shape row) role) kept in
    let other = change.left role lt no.0 no.1 in
    full-data shape list role row other.0 valid other.1 ∙ sym (written.other other.0 other.2) ∙ sym (full-data shape list' role row other.0 valid other.1)

-- what isn't written stands
pub others_stand : (shape : Shape) → is_valid_shape shape ≡ true → (row first : ℕ) (from old bytes : List ℕ) (changed : ℕ) → IsRowChange shape row first from old bytes changed
    → (r : Reading) (c : Contents) → AreStanding r c shape row (sector_of old) → OthersStand c r shape row bytes changed
others_stand shape valid row first from old bytes changed change r c standing role slot lt kept held =
    let no = both_false (has_slot changed role) (is_parity (row_roles shape row) role) kept in
    change.kept role lt (other_only shape first (length from / 512) role row valid (change.left role lt no.0 no.1)) ∙ standing role slot lt held

-- ---- at each mark

pub putting : (r : Reading) (shape : Shape) (row : ℕ) (bytes : List ℕ) (changed : ℕ) (list : ℕ → Sector) (d e : ℕ → ℕ → List Sector)
    → ((role : ℕ) → role < shape.disks → new_sector shape row bytes role ≡ full_sector shape list row role) → IsWriting r shape row bytes changed d e
    → IsPutting r shape list (λ other. other ≡ row) d e
putting r shape row bytes changed list d e full writing s k = at (writing s k)
  where
    at : (e s k ≡ d s k) ⊎ HasNew shape.disks (due_slot r shape row changed) (place_on r row) (new_sector shape row bytes) s k (d s k) (e s k)
        → (e s k ≡ d s k) ⊎ MayHaveFull r shape list (λ other. other ≡ row) s k (d s k) (e s k)
    at (inl same) = inl same
    at (inr has) = inr (record {
      row = row;
      role = has.role;
      among = refl;
      within = has.within;
      held = some_slot (is_due shape row changed has.role) (holder (role_state r has.role)) s has.slot;
      place = has.place;
      values = λ v there. elim (in_more (e s k) (d s k) (new_sector shape row bytes has.role) v has.value there) [
        | inl new ↦ inr (new ∙ full has.role has.within)
        | inr before ↦ inl before
      ];
    })

-- no other row is written
pub others_kept : (r : Reading) (shape : Shape) (row : ℕ) (bytes : List ℕ) (changed : ℕ) (given given' : Given) (old new : List Operation) → given' ≡ given
    → IsWriting r shape row bytes changed (disk given.start old) (disk given.start new) → (other : ℕ) → other ≢ row → IsRowKept r (present given old) (present given' new) other
others_kept r shape row bytes changed given given' old new same writing other ne slot =
    ap (λ (g : Given). present g new slot (data_offset_of r slot + other)) same
    ∙ present-same given old new slot (data_offset_of r slot + other) (at (writing slot (data_offset_of r slot + other)))
  where
    at : (disk given.start new slot (data_offset_of r slot + other) ≡ disk given.start old slot (data_offset_of r slot + other))
        ⊎ HasNew shape.disks (due_slot r shape row changed) (place_on r row) (new_sector shape row bytes) slot (data_offset_of r slot + other)
        (disk given.start old slot (data_offset_of r slot + other)) (disk given.start new slot (data_offset_of r slot + other))
        → disk given.start new slot (data_offset_of r slot + other) ≡ disk given.start old slot (data_offset_of r slot + other)
    at (inl is) = is
    at (inr has) = absurd (ne (cancel (data_offset_of r slot) other row has.place))

-- ---- and after it

module _ (members : Members) (lost : ℕ) (given : Given) (old new : List Operation) (shape : Shape) (row : ℕ) (bytes : List ℕ) (changed : ℕ) where
  -- a role that is written, and whose slot isn't lost, has its sector of the new row there
  written_here : AreWritten (reading_of members) shape row bytes changed lost (disk given.start old) (disk given.start new)
      → (role slot : ℕ) → role < shape.disks → is_due shape row changed role ≡ true → holder (role_state (reading_of members) role) ≡ Some slot → has_slot lost slot ≡ false
      → present given new slot (place_on (reading_of members) row slot) ≡ new_sector shape row bytes role
  written_here written role slot lt due held here =
      let r = reading_of members in
      present-is given new slot (place_on r row slot) (new_sector shape row bytes role) (disk given.start old slot (place_on r row slot))
      (written role slot lt (chosen (is_due shape row changed role) (holder (role_state r role)) slot due held) here)

  -- one that isn't written is as it was
  kept_here : AreApart (reading_of members) → IsWriting (reading_of members) shape row bytes changed (disk given.start old) (disk given.start new)
      → (role slot : ℕ) → is_due shape row changed role ≡ false → holder (role_state (reading_of members) role) ≡ Some slot
      → present given new slot (place_on (reading_of members) row slot) ≡ present given old slot (place_on (reading_of members) row slot)
  kept_here apart writing role slot kept held =
      present-same given old new slot (place_on (reading_of members) row slot) (same (writing slot (place_on (reading_of members) row slot)))
    where
      same : (disk given.start new slot (place_on (reading_of members) row slot) ≡ disk given.start old slot (place_on (reading_of members) row slot))
          ⊎ HasNew shape.disks (due_slot (reading_of members) shape row changed) (place_on (reading_of members) row) (new_sector shape row bytes) slot (place_on (reading_of members) row slot)
          (disk given.start old slot (place_on (reading_of members) row slot)) (disk given.start new slot (place_on (reading_of members) row slot))
          → disk given.start new slot (place_on (reading_of members) row slot) ≡ disk given.start old slot (place_on (reading_of members) row slot)
      same (inl is) = is
      same (inr has) = absurd (
          let r = reading_of members in
          let due = due_true (is_due shape row changed has.role) (holder (role_state r has.role)) slot has.slot in
          let own = some_slot (is_due shape row changed has.role) (holder (role_state r has.role)) slot has.slot in
          let is = apart has.role role slot own held in
          let due' = subst (λ (x : ℕ). is_due shape row changed x ≡ true) is due in
          cc
          )

  -- each role whose slot holds it afterwards has its sector of the new row there
  has_new : AreApart (reading_of members) → OthersStand (present given old) (reading_of members) shape row bytes changed
      → IsWriting (reading_of members) shape row bytes changed (disk given.start old) (disk given.start new)
      → AreWritten (reading_of members) shape row bytes changed lost (disk given.start old) (disk given.start new)
      → (role slot : ℕ) → role < shape.disks → held_slot (reading_of (members_without lost members)) role row ≡ Some slot
      → present given new slot (place_on (reading_of (members_without lost members)) row slot) ≡ new_sector shape row bytes role
  has_new apart others writing written role slot lt held_after =
      let r = reading_of members in
      let before = held_slot-after members lost role row slot held_after in
      let held = holder-of r role row slot before.0 in
      elim (bool_cases (is_due shape row changed role)) [
        | inl due ↦ written_here written role slot lt due held before.1
        | inr kept ↦
            let plain : new_sector shape row bytes role ≡ sector_of bytes role = ap (λ (b : Bool). if b then fill (row_roles shape row) (row_without (is_parity (row_roles shape row)) shape.disks (sector_of bytes)) role else sector_of bytes role) (both_false (has_slot changed role) (is_parity (row_roles shape row) role) kept).1 in
            kept_here apart writing role slot kept held ∙ sym (plain ∙ others role slot lt kept before.0)
      ]

  -- each recovering slot that had its full sector has that of the new list
  new_rebuilt : (list list' : ℕ → Sector) → AreApart (reading_of members)
      → IsWriting (reading_of members) shape row bytes changed (disk given.start old) (disk given.start new)
      → AreWritten (reading_of members) shape row bytes changed lost (disk given.start old) (disk given.start new)
      → ((role : ℕ) → role < shape.disks → new_sector shape row bytes role ≡ full_sector shape list' row role)
      → ((role : ℕ) → role < shape.disks → is_due shape row changed role ≡ false → full_sector shape list row role ≡ full_sector shape list' row role)
      → StaysRebuilt (reading_of (members_without lost members)) (present given old) (present given new) shape list list' row
  new_rebuilt list list' apart writing written full same role slot lt recovers was =
      let before = recovering-after members lost role slot recovers in
      let held : holder (role_state (reading_of members) role) ≡ Some slot = ap holder before.0 in
      elim (bool_cases (is_due shape row changed role)) [
        | inl due ↦ written_here written role slot lt due held before.1 ∙ full role lt
        | inr kept ↦ kept_here apart writing role slot kept held ∙ was ∙ same role lt kept
      ]

pub row_full : (members m : Members) (lost : ℕ) (given given' : Given) (old new : List Operation) (shape : Shape) (row : ℕ) (bytes : List ℕ) (changed : ℕ) (list : ℕ → Sector)
    → m ≡ members_without lost members → given' ≡ given → AreApart (reading_of members) → OthersStand (present given old) (reading_of members) shape row bytes changed
    → IsWriting (reading_of members) shape row bytes changed (disk given.start old) (disk given.start new)
    → AreWritten (reading_of members) shape row bytes changed lost (disk given.start old) (disk given.start new)
    → ((role : ℕ) → role < shape.disks → new_sector shape row bytes role ≡ full_sector shape list row role)
    → IsFull (reading_of m) (present given' new) shape list row
row_full members m lost given given' old new shape row bytes changed list is same apart others writing written full =
    subst (λ (g : Given). IsFull (reading_of m) (present g new) shape list row) (sym same)
    (subst (λ (n : Members). IsFull (reading_of n) (present given new) shape list row) (sym is)
    (λ role slot lt held. has_new members lost given old new shape row bytes changed apart others writing written role slot lt held ∙ full role lt))

pub row_rebuilt : (members m : Members) (lost : ℕ) (given given' : Given) (old new : List Operation) (shape : Shape) (row : ℕ) (bytes : List ℕ) (changed : ℕ) (list list' : ℕ → Sector)
    → m ≡ members_without lost members → given' ≡ given → AreApart (reading_of members)
    → IsWriting (reading_of members) shape row bytes changed (disk given.start old) (disk given.start new)
    → AreWritten (reading_of members) shape row bytes changed lost (disk given.start old) (disk given.start new)
    → ((role : ℕ) → role < shape.disks → new_sector shape row bytes role ≡ full_sector shape list' row role)
    → ((role : ℕ) → role < shape.disks → is_due shape row changed role ≡ false → full_sector shape list row role ≡ full_sector shape list' row role)
    → StaysRebuilt (reading_of m) (present given old) (present given' new) shape list list' row
row_rebuilt members m lost given given' old new shape row bytes changed list list' is same apart writing written full kept =
    subst (λ (g : Given). StaysRebuilt (reading_of m) (present given old) (present g new) shape list list' row) (sym same)
    (subst (λ (n : Members). StaysRebuilt (reading_of n) (present given old) (present given new) shape list list' row) (sym is)
    (new_rebuilt members lost given old new shape row bytes changed list list' apart writing written full kept))
