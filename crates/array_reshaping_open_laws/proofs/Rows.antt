-- A good row of what the slots hold stands as the list that has what stands there.
use Rattle.std.proofs.Common.{◌≡◌, inl, inr, ℕ, ◌+◌, ◌<◌, ◌≤◌, Bool, true, false, cond, not, if◌then◌else◌, nat_lt, length, Option, Some, None, unwrap_or, option_map, refl, sym, ◌∙◌, ap, subst, arith}
use Rattle.std.specs.Option.{option_map_or}
use Rattle.std.proofs.lemmas.Bool.{cases_lt}
use Rattle.std.proofs.lemmas.Bool.Decides.{nat_tests}
use Rattle.std.proofs.lemmas.List.{get_or_past, get_or-replicate, length-replicate}
use Rattle.array_found_laws.specs.raid_types_the_Place.{Place}
use Rattle.array_found_laws.specs.raid_types_the_RowRoles.{RowRoles}
use Rattle.array_reshaping_invariant.specs.raid_types_the_Shape.{Shape}
use Rattle.array_reshaping_invariant.specs.raid_types_Sectors.{Sector, zero_sector}
use Rattle.array_reshaping_invariant.specs.raid_types_Shapes.{is_valid_shape}
use Rattle.array_reshaping_invariant.specs.bank_Given.{Given, Sizes, sizes}
use Rattle.array_reshaping_invariant.specs.bank_Tape.{Contents}
use Rattle.array_reshaping_invariant.specs.raid_layout_Layout.{place, row_roles}
use Rattle.array_reshaping_invariant.proofs.raid_layout_Places.{place-role_below}
use Rattle.array_reshaping_invariant.specs.raid_parity_Fills.{IsGoodBut}
use Rattle.array_reshaping_invariant.specs.raid_parity_Parity.{Row, fill, lacking_in, AreEquationsMet}
use Rattle.array_reshaping_invariant.specs.raid_parity_Rows.{IsSector, row_without, whole_row, filled_sector}
use Rattle.array_reshaping_invariant.proofs.raid_parity_OwnFills.{fills-are-own}
use Rattle.array_reshaping_invariant.proofs.raid_parity_Refilled.{filled-sector, good-filled}
use Rattle.array_reshaping_invariant.specs.sb_specs_the_Members.{Members}
use Rattle.array_reshaping_invariant.specs.sb_specs_Reading.{Scope, Reading, role_state, holder, data_offset_of}
use Rattle.array_reshaping_invariant.specs.stripe_row_Rows.{reading_of, is_held, held_slot, held_sector, held_row, standing_sector, IsTolerated}
use Rattle.array_reshaping_invariant.specs.stripe_row_Writes.{is_parity}
use Rattle.array_reshaping_invariant.proofs.stripe_row_Losses.{row_is, all_stand}
use Rattle.array_reshaping_invariant.proofs.stripe_row_NewRow.{parity_few, lacking_few}
use Rattle.array_reshaping_invariant.specs.stripe_list_Full.{listed_at, full_sector, AreWholeIn, RowStands}
use Rattle.array_reshaping_invariant.proofs.stripe_list_FullLaws.{full-data, listed-is, row_roles-valid, sector_there}
use Rattle.array_reshaping_invariant.proofs.stripe_list_Parities.{filled-same}
use Rattle.array_reshaping_invariant.specs.history_Reshaped.{IsGoodRow}
use Rattle.array_reshaping_invariant.specs.history_Stands.{held_row as found_row}
use Rattle.array_reshaping_invariant.specs.array_members_Placed.{IsPlaced}

pub zero-is_sector : IsSector zero_sector
unfolding zero_sector
zero-is_sector = record {
  whole = length-replicate {A = ℕ} 512 0;
  bytes = λ at. elim (cases_lt at 512) [
    | inl below ↦ subst (λ (n : ℕ). n < 256) (sym (get_or-replicate 512 at 0 0 below)) (omega arith)
    | inr past ↦ subst (λ (n : ℕ). n < 256) (sym (get_or_past zero_sector at 0 (omega (arith, length-replicate {A = ℕ} 512 0, past)))) (omega arith)
  ];
}

-- what a slot holds stands, whatever would stand there else
held-there : (b : Bool) (h : Option ℕ) (f : ℕ → Sector) (other : Sector) (slot : ℕ) → (if b then h else None) ≡ Some slot → unwrap_or (if b then option_map f h else None) other ≡ f slot
held-there true h f other slot is = ap (λ (o : Option ℕ). unwrap_or (option_map f o) other) is
held-there false h f other slot is = absurd (cc)

pub standing-held : (m : Members) (c : Contents) (shape : Shape) (row role slot : ℕ) → held_slot (reading_of m) role row ≡ Some slot
    → standing_sector c (reading_of m) shape row role ≡ c slot (data_offset_of (reading_of m) slot + row)
standing-held m c shape row role slot held =
    held-there (is_held (reading_of m) role row) (holder (role_state (reading_of m) role)) (λ slot. c slot (data_offset_of (reading_of m) slot + row))
    (fill (row_roles shape row) (held_row c (reading_of m) shape row) role) slot held

module _ (bank : Given) (m : Members) (placed : IsPlaced bank m) (scope : Scope) (sizes_are : scope.sizes ≡ sizes bank) (c : Contents) (whole : (slot k : ℕ) → k < scope.sizes.sectors slot → IsSector (c slot k))
    (shape : Shape) (valid : is_valid_shape shape ≡ true) (does : IsTolerated (reading_of m) shape) (row : ℕ) (below : row < m.newest.size) where
  abbrev own : Reading
  own = reading_of m

  abbrev roles : RowRoles
  roles = row_roles shape row

  abbrev lacks : ℕ → Bool
  lacks role = not (is_held own role row)

  -- what a slot holds, and zeros where none does
  there : ℕ → Sector
  there role = unwrap_or (held_sector c own role row) zero_sector

  there-is : (role slot : ℕ) → held_slot own role row ≡ Some slot → there role ≡ c slot (data_offset_of own slot + row)
  unfolding there
  there-is role slot held = held-there (is_held own role row) (holder (role_state own role)) (λ slot. c slot (data_offset_of own slot + row)) zero_sector slot held

  is-below : (a b : ℕ) → a < b → nat_lt a b ≡ true
  is-below a b lt = grind (arith, nat_tests, lt)

  whole-at : (role slot : ℕ) → holder (role_state own role) ≡ Some slot → IsSector (c slot (data_offset_of own slot + row))
  whole-at role slot held =
      let at = placed.holders role slot held in
      let long : scope.sizes.sectors slot ≡ bank.sectors slot =
      ap (λ (z : Sizes). z.sectors slot) sizes_are ∙ ap (λ (b : Bool). cond b (bank.sectors slot) 0) (is-below slot bank.slots at.known) in
      whole slot (data_offset_of own slot + row) (omega (arith, long, at.within, below))

  there-whole : (role : ℕ) → role < shape.disks → IsSector (there role)
  unfolding there
  there-whole role lt = by (is_held own role row) (holder (role_state own role)) (λ slot held. whole-at role slot held)
    where
      by : (b : Bool) (h : Option ℕ) → ((slot : ℕ) → h ≡ Some slot → IsSector (c slot (data_offset_of own slot + row)))
          → IsSector (unwrap_or (if b then option_map (λ slot. c slot (data_offset_of own slot + row)) h else None) zero_sector)
      by true (Some slot) each = each slot refl
      by true None each = zero-is_sector
      by false h each = zero-is_sector

  few : length (lacking_in (row_without lacks shape.disks there)) ≤ 2
  few = most (row_roles shape row).q (lacking_few own shape row there below does)
    where
      most : (q : Option ℕ) → length (lacking_in (row_without lacks shape.disks there)) ≤ option_map_or (λ q. 2) q 1 → length (lacking_in (row_without lacks shape.disks there)) ≤ 2
      most (Some q) le = le
      most None le = omega (arith, le)

  -- the row with its fills
  abbrev full : ℕ → Sector
  full = filled_sector roles lacks shape.disks there

  full-whole : (role : ℕ) → role < shape.disks → IsSector (full role)
  full-whole role lt = filled-sector roles there there-whole lacks few role lt

  full-stands : (role : ℕ) → role < shape.disks → full role ≡ standing_sector c own shape row role
  full-stands role lt = all_stand c own shape row there full (λ other slot l held. there-is other slot held)
      (λ other l held. ap (λ (b : Bool). cond (not b) (fill roles (row_without lacks shape.disks there) other) (there other)) held)
      (λ other l none. ap (λ (b : Bool). cond (not b) (fill roles (row_without lacks shape.disks there) other) (there other)) none) role lt

  -- so each sector of it stands whole
  pub standing-whole : (role : ℕ) → role < shape.disks → IsSector (standing_sector c (reading_of m) shape row role)
  standing-whole role lt = subst IsSector (full-stands role lt) (full-whole role lt)

  module _ (list : ℕ → Sector) (listed : (x : ℕ) → (place shape x).row ≡ row → list x ≡ standing_sector c (reading_of m) shape row (place shape x).role) where
    -- a sector that has its place in the row is that of its role
    full-listed : (x : ℕ) → (place shape x).row ≡ row → list x ≡ full (place shape x).role
    full-listed x at = listed x at ∙ sym (full-stands (place shape x).role (place-role_below shape valid x))

    -- and so is whole
    row-whole : AreWholeIn shape list row
    row-whole x at = subst IsSector (sym (full-listed x at)) (full-whole (place shape x).role (place-role_below shape valid x))

    list-there : (role x : ℕ) → place shape x ≡ record { role = role; row = row } → list x ≡ standing_sector c own shape row role
    list-there role x at = listed x (ap (λ (p : Place). p.row) at) ∙ ap (λ (p : Place). standing_sector c own shape row p.role) at

    module _ (found : Reading) (same : found_row c found shape row ≡ held_row c own shape row) (good : IsGoodRow c found shape row) where
      row-there : found_row c found shape row ≡ row_without lacks shape.disks there
      row-there = same ∙ sym (row_is c own shape row there there (λ role slot lt held. there-is role slot held))

      full-good : AreEquationsMet roles (whole_row shape.disks full)
      full-good = good-filled roles there there-whole lacks few (subst (λ (l : Row). AreEquationsMet roles l) row-there good.parity)

      full-data_is : (role : ℕ) → role < shape.disks → is_parity roles role ≡ false → full role ≡ list (listed_at shape row role)
      full-data_is role lt here =
          let at = sector_there shape role row valid lt here in
          full-stands role lt ∙ sym (ap list (listed-is shape role row at.0 valid at.1) ∙ list-there role at.0 at.1)

      full-parity_is : (role : ℕ) → role < shape.disks → is_parity roles role ≡ true → full role ≡ full_sector shape list row role
      full-parity_is role lt here =
          let but : IsGoodBut roles full (is_parity roles) =
          record { valid = row_roles-valid shape row valid; whole = full-whole; good = full-good; tolerated = parity_few roles full } in
          sym (ap (λ (b : Bool). cond b (fill roles (row_without (is_parity roles) shape.disks full) role) (full role)) here
          ∙ fills-are-own roles full (is_parity roles) role but lt)
          ∙ filled-same roles shape.disks full (λ other. list (listed_at shape row other)) full-data_is role lt

      -- the row stands as the list
      pub good-stands : RowStands (reading_of m) c shape list row
      good-stands = record {
        whole = row-whole;
        sectors = λ role slot lt here held.
            let at = sector_there shape role row valid lt here in
            sym (full-data shape list role row at.0 valid at.1 ∙ list-there role at.0 at.1 ∙ standing-held m c shape row role slot held);
        parity = λ role slot lt here held. sym (standing-held m c shape row role slot held) ∙ sym (full-stands role lt) ∙ full-parity_is role lt here;
      }
