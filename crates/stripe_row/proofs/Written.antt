-- What stands once a row was written.
use Rattle.std.proofs.Common.{◌≡◌, ◌⊎◌, inl, inr, ℕ, ◌+◌, ◌<◌, Bool, true, false, not, ◌||◌, ◌==◌, if◌then◌else◌, List, [], ◌∷◌, length, take, map, Option, Some, None, refl, sym, ◌∙◌, ap, ap₂, subst, arith}
use Rattle.std.proofs.lemmas.List.{take_all}
use Rattle.std.specs.Int.Bits.{or_zero_r}
use Rattle.std.proofs.lemmas.Nat.Bits.{bit_at-zero}
use Rattle.sb_specs.specs.raid_types_the_Shape.{Shape}
use Rattle.sb_specs.specs.raid_types_the_Role.{Role}
use Rattle.sb_specs.specs.raid_types_the_Role_TheVariants.{Whole, Recovering, Missing}
use Rattle.sb_specs.specs.raid_types_Sectors.{Sector}
use Rattle.sb_specs.specs.raid_types_Shapes.{has_slot}
use Rattle.sb_specs.specs.bank_Given.{Given}
use Rattle.sb_specs.specs.bank_the_Operation.{Operation}
use Rattle.sb_specs.specs.bank_Tape.{Contents, disk, value_after}
use Rattle.sb_specs.proofs.bank_Laws.{choices-present}
use Rattle.sb_specs.specs.raid_layout_Layout.{row_roles}
use Rattle.raid_parity_simd.specs.raid_parity_Parity.{Row, fill, AreEquationsMet}
use Rattle.raid_parity_simd.specs.raid_parity_Rows.{row_without, sector_of}
use Rattle.raid_parity_simd.specs.raid_parity_Fills.{IsGoodBut}
use Rattle.raid_parity_simd.proofs.raid_parity_Columns.{bool_cases}
use Rattle.raid_parity_simd.proofs.raid_parity_OwnFills.{fills-are-own, good-rows-stay-good}
use Rattle.sb_specs.specs.declared.members.Members.{Members}
use Rattle.sb_specs.specs.Reading.{Reading, role_state, holder, data_offset_of}
use Rattle.stripe_row.specs.Rows.{present, reading_of, is_held, held_slot, held_row, standing_sector, role_without, members_without, IsTolerated}
use Rattle.stripe_row.specs.Writes.{is_parity, is_due, due_slot, new_sector, place_on, AreApart, OthersStand, HasNew, IsWriting, AreWritten, IsGoodRow}
use Rattle.stripe_row.proofs.Losses.{some_slot, chosen, holder-of, held_slot-after, row_is, all_stand}
use Rattle.stripe_row.proofs.NewRow.{lacking_few}

-- ---- what a sector holds now is the first of its values

first_is : (v w : Sector) (vs : List Sector) (l : List Sector) → take 1 l ≡ v ∷ [] → l ≡ w ∷ vs → v ≡ w
first_is v w vs l one is =
    let same : ◌≡◌ {A = List Sector} (v ∷ []) (w ∷ []) = sym one ∙ ap (λ (m : List Sector). take 1 m) is in
    cc

pub present-first : (given : Given) (tape : List Operation) (s k : ℕ) → take 1 (disk given.start tape s k) ≡ present given tape s k ∷ []
present-first given tape s k =
    choices-present s k (given.start s k) [] tape ∙ ap (λ (l : List Operation). value_after s k (given.start s k) l ∷ []) (sym (take_all (length tape) tape (omega arith)))

pub present-is : (given : Given) (tape : List Operation) (s k : ℕ) (w : Sector) (vs : List Sector) → disk given.start tape s k ≡ w ∷ vs → present given tape s k ≡ w
present-is given tape s k w vs is = first_is (present given tape s k) w vs (disk given.start tape s k) (present-first given tape s k) is

pub present-same : (given : Given) (old new : List Operation) (s k : ℕ) → disk given.start new s k ≡ disk given.start old s k → present given new s k ≡ present given old s k
present-same given old new s k same =
    let e : ◌≡◌ {A = List Sector} (present given new s k ∷ []) (present given old s k ∷ []) =
    sym (present-first given new s k) ∙ ap (λ (l : List Sector). take 1 l) same ∙ present-first given old s k in
    cc

-- ---- nothing lost is as before

without_none : (state : Role) → role_without 0 state ≡ state
without_none (Whole slot) = ap (λ (n : ℕ). if n == 1 then Missing else Whole slot) (bit_at-zero slot)
without_none (Recovering slot) = ap (λ (n : ℕ). if n == 1 then Missing else Recovering slot) (bit_at-zero slot)
without_none Missing = refl

map_same : (roles : List Role) → map (role_without 0) roles ≡ roles
map_same [] = refl
map_same (state ∷ roles) = ap₂ (λ (x : Role) (xs : List Role). x ∷ xs) (without_none state) (map_same roles)

pub members_without-none : (members : Members) → members ≡ members_without 0 members
members_without-none members =
    sym (ap₂ (λ (roles : List Role) (lost : ℕ). record members { roles = roles; lost = lost }) (map_same members.roles) (or_zero_r members.lost))

-- ---- the row

some_test : (b : Bool) (x : Option ℕ) (s : ℕ) → (if b then x else None) ≡ Some s → b ≡ true
some_test true x s is = refl
some_test false x s is = absurd (cc)

neither : (a b : Bool) → (a || b) ≡ false → b ≡ false
neither a false is = refl
neither true true is = is
neither false true is = is

module _ (members : Members) (lost : ℕ) (given : Given) (old new : List Operation) (shape : Shape) (row : ℕ) (bytes : List ℕ) (changed : ℕ) where
  -- each role whose slot holds it afterwards has its sector of the new row there
  has_new : AreApart (reading_of members) → OthersStand (present given old) (reading_of members) shape row bytes changed
      → IsWriting (reading_of members) shape row bytes changed (disk given.start old) (disk given.start new)
      → AreWritten (reading_of members) shape row bytes changed lost (disk given.start old) (disk given.start new)
      → (role slot : ℕ) → role < shape.disks → held_slot (reading_of (members_without lost members)) role row ≡ Some slot
      → new_sector shape row bytes role ≡ present given new slot (place_on (reading_of (members_without lost members)) row slot)
  has_new apart others writing written role slot lt held_after =
      let r = reading_of members in
      let before = held_slot-after members lost role row slot held_after in
      elim (bool_cases (is_due shape row changed role)) [
        | inl due ↦ sym (present-is given new slot (place_on r row slot) (new_sector shape row bytes role) (disk given.start old slot (place_on r row slot))
            (written role slot lt (chosen (is_due shape row changed role) (holder (role_state r role)) slot due (holder-of r role row slot before.0)) before.1))
        | inr kept ↦
            let stands = others role slot lt kept before.0 in
            let plain : new_sector shape row bytes role ≡ sector_of bytes role = ap (λ (b : Bool). if b then fill (row_roles shape row) (row_without (is_parity (row_roles shape row)) shape.disks (sector_of bytes)) role else sector_of bytes role) (neither (has_slot changed role) (is_parity (row_roles shape row) role) kept) in
            plain ∙ stands ∙ sym (present-same given old new slot (place_on r row slot) (same kept before.0 (writing slot (place_on r row slot))))
      ]
    where
      same : is_due shape row changed role ≡ false → held_slot (reading_of members) role row ≡ Some slot
          → (disk given.start new slot (place_on (reading_of members) row slot) ≡ disk given.start old slot (place_on (reading_of members) row slot))
          ⊎ HasNew shape.disks (due_slot (reading_of members) shape row changed) (place_on (reading_of members) row) (new_sector shape row bytes) slot (place_on (reading_of members) row slot)
          (disk given.start old slot (place_on (reading_of members) row slot)) (disk given.start new slot (place_on (reading_of members) row slot))
          → disk given.start new slot (place_on (reading_of members) row slot) ≡ disk given.start old slot (place_on (reading_of members) row slot)
      same kept held (inl is) = is
      same kept held (inr has) = absurd (
          let r = reading_of members in
          let due = some_test (is_due shape row changed has.role) (holder (role_state r has.role)) slot has.slot in
          let own = some_slot (is_due shape row changed has.role) (holder (role_state r has.role)) slot has.slot in
          let is = apart has.role role slot own (holder-of r role row slot held) in
          let due' = subst (λ (x : ℕ). is_due shape row changed x ≡ true) is due in
          cc
          )

-- the row that was written
pub record IsRowWritten (c : Contents) (r : Reading) (shape : Shape) (row : ℕ) (new : ℕ → Sector) : Type 0 where
  pub good : AreEquationsMet (row_roles shape row) (held_row c r shape row)
  pub sectors : (role : ℕ) → role < shape.disks → standing_sector c r shape row role ≡ new role

-- a good row of which no more roles are missing than tolerated, and whose other roles stand
row_stands : (c : Contents) (r : Reading) (shape : Shape) (row : ℕ) (sectors : ℕ → Sector) → IsGoodRow (row_roles shape row) sectors → row < r.newest.size → IsTolerated r shape
    → ((role slot : ℕ) → role < shape.disks → held_slot r role row ≡ Some slot → sectors role ≡ c slot (data_offset_of r slot + row)) → IsRowWritten c r shape row sectors
row_stands c r shape row sectors is below few has =
    let but : IsGoodBut (row_roles shape row) sectors (λ role. not (is_held r role row)) =
    record { valid = is.valid; whole = is.whole; good = is.good; tolerated = lacking_few r shape row sectors below few } in
    record {
      good = subst (λ (w : Row). AreEquationsMet (row_roles shape row) w) (row_is c r shape row sectors sectors has) (good-rows-stay-good (row_roles shape row) sectors (λ role. not (is_held r role row)) but);
      sectors = λ role lt. sym (all_stand c r shape row sectors sectors has (λ other l held. refl)
          (λ other l lacks. sym (fills-are-own (row_roles shape row) sectors (λ role. not (is_held r role row)) other but l)) role lt);
    }

pub row_written : (members m : Members) (lost : ℕ) (given given' : Given) (old new : List Operation) (shape : Shape) (row : ℕ) (bytes : List ℕ) (changed : ℕ)
    → m ≡ members_without lost members → given' ≡ given → AreApart (reading_of members) → OthersStand (present given old) (reading_of members) shape row bytes changed
    → IsWriting (reading_of members) shape row bytes changed (disk given.start old) (disk given.start new)
    → AreWritten (reading_of members) shape row bytes changed lost (disk given.start old) (disk given.start new)
    → IsGoodRow (row_roles shape row) (new_sector shape row bytes) → row < members.newest.size → IsTolerated (reading_of m) shape
    → IsRowWritten (present given' new) (reading_of m) shape row (new_sector shape row bytes)
row_written members m lost given given' old new shape row bytes changed is same apart others writing written good below few =
    subst (λ (g : Given). IsRowWritten (present g new) (reading_of m) shape row (new_sector shape row bytes)) (sym same)
    (subst (λ (n : Members). IsRowWritten (present given new) (reading_of n) shape row (new_sector shape row bytes)) (sym is)
    (row_stands (present given new) (reading_of (members_without lost members)) shape row (new_sector shape row bytes) good below (subst (λ (n : Members). IsTolerated (reading_of n) shape) is few)
    (has_new members lost given old new shape row bytes changed apart others writing written)))
