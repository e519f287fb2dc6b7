-- Rows that were read whole.
use Rattle.std.proofs.Common.{◌≡◌, inl, inr, ℕ, ◌+◌, ◌*◌, ◌<◌, ◌≤◌, Bool, true, false, nat_lt, if◌then◌else◌, List, Option, Some, None, unwrap_or, option_map, refl, sym, ap, ◌∙◌, subst, arith}
use Rattle.std.proofs.lemmas.Bool.Decides.{nat_tests}
use Rattle.raid_layout.specs.raid_types_the_Shape.{Shape}
use Rattle.raid_layout.specs.raid_types_the_Role.{Role}
use Rattle.raid_layout.specs.raid_types_the_Role_TheVariants.{Whole, Recovering, Missing}
use Rattle.raid_layout.specs.raid_types_Sectors.{Sector}
use Rattle.raid_layout.specs.raid_types_Shapes.{is_valid_shape, is_multiple, data_disks}
use Rattle.stripe_row.specs.bank_Tape.{Contents}
use Rattle.raid_layout.specs.Layout.{place, row_roles}
use Rattle.raid_layout.proofs.Places.{place-role_below, place-row_below}
use Rattle.raid_layout.proofs.OnlyParity.{parity_only-all}
use Rattle.stripe_row.specs.raid_parity_Parity.{fill}
use Rattle.stripe_row.proofs.raid_parity_Columns.{bool_cases}
use Rattle.stripe_row.specs.sb_specs_the_Members.{Members}
use Rattle.stripe_row.specs.sb_specs_Reading.{Reading, role_state, rows_held, holder, data_offset_of}
use Rattle.stripe_row.specs.Rows.{reading_of, is_held, held_slot, held_sector, held_row, standing_sector, members_without, IsTolerated}
use Rattle.stripe_row.proofs.Lacks.{lacking-missing}
use Rattle.stripe_row.proofs.Losses.{held_slot-after}
use Rattle.stripe_list.specs.Calls.{IsListed}
use Rattle.stripe_list.specs.Full.{DataStands, RowStands}
use Rattle.stripe_list.specs.Buffers.{IsTouched, IsDataWhole, IsRowRead, AreRead}
use Rattle.stripe_list.specs.Writing.{AreDataFrom}
use Rattle.stripe_list.proofs.Elements.{contains-at}
use Rattle.std.specs.Prelude.{Contains, slice_index}
use Rattle.stripe_list.proofs.ListLaws.{listed_held, listed_filled, listed_later, listed_since}

-- ---- what stands where a slot holds it

some_holder : (r : Reading) (state : Role) (row : ℕ) → nat_lt row (rows_held r state) ≡ true → (slot : ℕ) × (holder state ≡ Some slot)
some_holder r (Whole slot) row there = (slot, refl)
some_holder r (Recovering slot) row there = (slot, refl)
some_holder r Missing row there = absurd (none row there)
  where
    none : (row : ℕ) → nat_lt row 0 ≡ true → ⊥
    none row there = grind (arith, nat_tests, there)

by_slot : (b : Bool) (h : Option ℕ) (f : ℕ → Sector) (other : Sector) (slot : ℕ) → (if b then h else None) ≡ Some slot → unwrap_or (if b then option_map f h else None) other ≡ f slot
by_slot true h f other slot is = ap (λ (o : Option ℕ). unwrap_or (option_map f o) other) is
by_slot false h f other slot is = absurd (cc)

pub standing_held : (c : Contents) (r : Reading) (shape : Shape) (row role slot : ℕ) → held_slot r role row ≡ Some slot → standing_sector c r shape row role ≡ c slot (data_offset_of r slot + row)
standing_held c r shape row role slot held =
    by_slot (is_held r role row) (holder (role_state r role)) (λ slot. c slot (data_offset_of r slot + row)) (fill (row_roles shape row) (held_row c r shape row) role) slot held

by_test : (b : Bool) (h : Option ℕ) (f : ℕ → Sector) (other v : Sector) (slot : ℕ) → b ≡ true → h ≡ Some slot → v ≡ unwrap_or (if b then option_map f h else None) other
    → (if b then option_map f h else None) ≡ Some v
by_test true h f other v slot met is same =
    let here : v ≡ f slot = same ∙ ap (λ (o : Option ℕ). unwrap_or (option_map f o) other) is in
    ap (λ (o : Option ℕ). option_map f o) is ∙ ap (λ (s : Sector). Some s) (sym here)
by_test false h f other v slot met is same = absurd (cc)

held_some : (c : Contents) (r : Reading) (shape : Shape) (row role : ℕ) (v : Sector) → is_held r role row ≡ true → v ≡ standing_sector c r shape row role → held_sector c r role row ≡ Some v
held_some c r shape row role v held is =
    let some = some_holder r (role_state r role) row held in
    by_test (is_held r role row) (holder (role_state r role)) (λ slot. c slot (data_offset_of r slot + row)) (fill (row_roles shape row) (held_row c r shape row) role) v some.0 held some.1 is

-- ---- a row that was read

-- a role on which a sector of the list is placed isn't parity alone
not_only : (shape : Shape) (x : ℕ) → is_valid_shape shape ≡ true → (new : Reading) → IsDataWhole new shape → (place shape x).row < new.newest.size
    → is_held new (place shape x).role (place shape x).row ≡ false → ⊥
not_only shape x valid new whole below lacks =
    let lt = place-role_below shape valid x in
    let only = whole (place shape x).role lt (lacking-missing new (place shape x).role (place shape x).row below lacks) in
    (parity_only-all shape valid (place shape x).role lt).0 only x refl

listed_own : (shape : Shape) (synced : Bool) (old new : Members) (lost : ℕ) (c : Contents) (x : ℕ) (v : Sector) → is_valid_shape shape ≡ true → new ≡ members_without lost old
    → (place shape x).row < new.newest.size → IsTolerated (reading_of new) shape → (synced ≡ false → IsDataWhole (reading_of new) shape)
    → v ≡ standing_sector c (reading_of new) shape (place shape x).row (place shape x).role → IsListed shape synced (reading_of old) (reading_of new) c x v
listed_own shape synced old new lost c x v valid is below few whole stands =
    elim (bool_cases (is_held (reading_of new) (place shape x).role (place shape x).row)) [
      | inl held ↦ listed_since shape synced (reading_of new) c c x v old lost new is refl
          (listed_held shape synced (reading_of new) (reading_of new) c x v valid (held_some c (reading_of new) shape (place shape x).row (place shape x).role v held stands))
      | inr lacks ↦ elim (bool_cases synced) [
        | inl on ↦ listed_filled shape synced old new lost c x v valid is below on lacks few stands
        | inr off ↦ absurd (not_only shape x valid (reading_of new) (whole off) below lacks)
      ]
    ]

pub row_read : (shape : Shape) (synced : Bool) (old new : Members) (lost : ℕ) (c : Contents) (row : ℕ) (sectors : ℕ → Sector) → is_valid_shape shape ≡ true → new ≡ members_without lost old
    → row < new.newest.size → IsTolerated (reading_of new) shape → (synced ≡ false → IsDataWhole (reading_of new) shape)
    → ((role : ℕ) → role < shape.disks → sectors role ≡ standing_sector c (reading_of new) shape row role) → IsRowRead shape synced (reading_of old) (reading_of new) c row sectors
row_read shape synced old new lost c row sectors valid is below few whole stands = record {
  held = λ role slot lt held. stands role lt ∙ standing_held c (reading_of new) shape row role slot held;
  listed = λ x at. listed_own shape synced old new lost c x (sectors (place shape x).role) valid is (subst (λ (n : ℕ). n < new.newest.size) (sym at) below) few whole
      (stands (place shape x).role (place-role_below shape valid x) ∙ ap (λ (n : ℕ). standing_sector c (reading_of new) shape n (place shape x).role) (sym at));
}

-- ---- in the rest of a call

pub read_later : (shape : Shape) (synced : Bool) (old : Reading) (c : Contents) (row : ℕ) (sectors sectors' : ℕ → Sector) (mid : Members) (lost : ℕ) (new : Members) → is_valid_shape shape ≡ true
    → new ≡ members_without lost mid → ((role : ℕ) → role < shape.disks → sectors' role ≡ sectors role)
    → IsRowRead shape synced old (reading_of mid) c row sectors → IsRowRead shape synced old (reading_of new) c row sectors'
read_later shape synced old c row sectors sectors' mid lost new valid is same was = record {
  held = λ role slot lt held. same role lt ∙ at_slot role slot lt held;
  listed = λ x at.
      subst (λ (v : Sector). IsListed shape synced old (reading_of new) c x v) (sym (same (place shape x).role (place-role_below shape valid x)))
      (listed_later shape synced old c x (sectors (place shape x).role) mid lost new is (was.listed x at));
}
  where
    at_slot : (role slot : ℕ) → role < shape.disks → held_slot (reading_of new) role row ≡ Some slot → sectors role ≡ c slot (data_offset_of (reading_of new) slot + row)
    at_slot = subst (λ (m : Members). (role slot : ℕ) → role < shape.disks → held_slot (reading_of m) role row ≡ Some slot → sectors role ≡ c slot (data_offset_of (reading_of m) slot + row)) (sym is)
        (λ role slot lt held. was.held role slot lt (held_slot-after mid lost role row slot held).0)

pub read_since : (shape : Shape) (synced : Bool) (new : Reading) (c c' : Contents) (row : ℕ) (sectors sectors' : ℕ → Sector) (old : Members) (lost : ℕ) (mid : Members) → is_valid_shape shape ≡ true
    → mid ≡ members_without lost old → c' ≡ c → ((role : ℕ) → role < shape.disks → sectors' role ≡ sectors role)
    → IsRowRead shape synced (reading_of mid) new c' row sectors → IsRowRead shape synced (reading_of old) new c row sectors'
read_since shape synced new c c' row sectors sectors' old lost mid valid is now same was = record {
  held = λ role slot lt held. same role lt ∙ was.held role slot lt held ∙ ap (λ (e : Contents). e slot (data_offset_of new slot + row)) now;
  listed = λ x at.
      subst (λ (v : Sector). IsListed shape synced (reading_of old) new c x v) (sym (same (place shape x).role (place-role_below shape valid x)))
      (listed_since shape synced new c c' x (sectors (place shape x).role) old lost mid is now (was.listed x at));
}

-- a touched row is one of the array's
pub touched-below : (shape : Shape) (size first count row : ℕ) → is_valid_shape shape ≡ true → is_multiple size shape.chunk ≡ true → first + count ≤ data_disks shape * size
    → IsTouched shape first count row → row < size
touched-below shape size first count row valid multiple within t = subst (λ (r : ℕ). r < size) t.3 (place-row_below shape valid t.0 size multiple (omega (arith, t.2, within)))

-- what was read of rows that stood as a list are that list's sectors
pub data_read : (start : ℕ) (shape : Shape) (synced : Bool) (old new : Reading) (c : Contents) (list : ℕ → Sector) (rows buffer : List ℕ) → AreRead shape synced old new c rows buffer
    → ((row : ℕ) → Contains rows row → DataStands old c shape list row) → (synced ≡ true → (row : ℕ) → Contains rows row → RowStands old c shape list row)
    → AreDataFrom start shape list rows buffer
data_read start shape synced old new c list rows buffer read stands parity i low lt x at =
    let row = slice_index rows i in
    let has : Contains rows row = contains-at rows i lt in
    (read i lt).listed x at list (subst (λ (n : ℕ). DataStands old c shape list n) (sym at) (stands row has))
    (λ synced' lacks. subst (λ (n : ℕ). RowStands old c shape list n) (sym at) (parity synced' row has))
