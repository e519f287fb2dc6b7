-- The flat list of what was opened, on the members that are there.
use Rattle.std.proofs.Common.{◌≡◌, inl, inr, ℕ, ◌+◌, ◌*◌, ◌/◌, ◌%◌, ◌<◌, ◌≤◌, Bool, true, false, cond, not, if◌then◌else◌, ltb, nat_lt, min, List, [], length, drop, get_or, Option, Some, None, unwrap_or, option_map, refl, sym, ◌∙◌, ap, ap₂, subst, arith}
use Rattle.std.specs.Option.{option_map_or}
use Rattle.std.specs.Prelude.{slice_index_or}
use Rattle.std.proofs.lemmas.Bool.{cases_lt}
use Rattle.std.proofs.lemmas.Bool.Decides.{nat_tests}
use Rattle.std.proofs.lemmas.List.{get_or-take, get_or-drop, get_or_past, get_or-replicate, length-replicate}
use Rattle.std.proofs.lemmas.Nat.{mod_below, div-add-mod'}
use Rattle.array_found_laws.specs.raid_types_the_Place.{Place}
use Rattle.array_found_laws.specs.raid_types_the_RowRoles.{RowRoles}
use Rattle.array_found_laws.specs.raid_types_the_Shape.{Shape}
use Rattle.bank.specs.raid_types_the_Span.{Span}
use Rattle.array_found_laws.specs.raid_types_the_Role.{Role}
use Rattle.array_found_laws.specs.raid_types_the_Role_TheVariants.{Whole, Recovering, Missing}
use Rattle.array_found_laws.specs.raid_types_Sectors.{Sector, zero_sector}
use Rattle.array_found_laws.specs.raid_types_Shapes.{data_disks}
use Rattle.array_found_laws.proofs.raid_types_Tabulated.{length-tabulate, get_or-tabulate}
use Rattle.array_found_laws.specs.sb_codec_the_Sb.{Sb}
use Rattle.bank.specs.Given.{Given, Sizes, sizes}
use Rattle.bank.specs.Tape.{Contents}
use Rattle.array_found_laws.specs.raid_layout_Layout.{place, row_roles}
use Rattle.array_found_laws.proofs.raid_layout_Places.{chunk_some, data_some, place-sector, place-role_below, place-row_below, place-sector_below, sector_at}
use Rattle.array_found_laws.specs.raid_parity_Fills.{IsGoodBut}
use Rattle.array_found_laws.specs.raid_parity_Parity.{Row, fill, lacking_in, AreEquationsMet}
use Rattle.array_found_laws.specs.raid_parity_Rows.{IsSector, row_without, whole_row, filled_sector}
use Rattle.array_found_laws.proofs.raid_parity_Columns.{tabulate-same}
use Rattle.array_found_laws.proofs.raid_parity_OwnFills.{fills-are-own}
use Rattle.array_found_laws.proofs.raid_parity_Refilled.{filled-sector, good-filled}
use Rattle.array_found_laws.specs.sb_specs_the_Members.{Members}
use Rattle.array_found_laws.specs.sb_specs_Reading.{Scope, Reading, reading, is_reshaping, shape_of, target_of, list_length, next_window, rows_held, role_state, holder, data_offset_of}
use Rattle.array_found_laws.specs.sb_specs_Election.{reading_in}
use Rattle.sb_add_spare.specs.stripe_row_Rows.{reading_of, is_held, held_slot, held_sector, held_row, standing_sector, IsTolerated}
use Rattle.sb_add_spare.specs.stripe_row_Writes.{is_parity}
use Rattle.sb_add_spare.proofs.stripe_row_Losses.{row_is, all_stand}
use Rattle.sb_add_spare.proofs.stripe_row_NewRow.{parity_few, lacking_few}
use Rattle.sb_add_spare.specs.stripe_list_Full.{listed_at, full_sector, AreWholeIn, RowStands}
use Rattle.sb_add_spare.proofs.stripe_list_FullLaws.{full-data, listed-is, row_roles-valid, sector_there}
use Rattle.sb_add_spare.proofs.stripe_list_Parities.{filled-same}
use Rattle.sb_add_spare.specs.history_ActiveSection.{section_for, active_section}
use Rattle.sb_add_spare.specs.history_Flat.{now, values_of}
use Rattle.sb_add_spare.specs.history_Opened.{HasGoodRows}
use Rattle.sb_add_spare.specs.history_Reshaped.{IsGoodRow}
use Rattle.sb_add_spare.specs.history_Stands.{stands, shape_for, covers, placed_sector, held_sector as found_sector, held_row as found_row, standing_sector as listed_sector}
use Rattle.sb_add_spare.proofs.history_SameLaws.{stands-is}
use Rattle.sb_add_spare.specs.array_members_Placed.{places_of, IsPlaced}
use Rattle.sb_add_spare.specs.array_members_Whole.{list_size}
use Rattle.sb_add_spare.specs.array_members_Lacking.{ListStands, RowsStand}
use Rattle.sb_add_spare.proofs.array_members_Fit.{valid, multiple}
use Rattle.array_found_laws.specs.array_call_specs_Kept.{AreSectorsWhole}

-- a list that nothing happened to
now-first : (list : List Sector) (x : ℕ) → now list [] x ≡ slice_index_or list x []
unfolding values_of
now-first list x = get_or-take 1 (drop x list) 0 [] (omega arith) ∙ get_or-drop x list 0 [] ∙ ap (λ (k : ℕ). get_or list k []) (plain x)
  where
    plain : (n : ℕ) → n + 0 ≡ n
    plain n = omega arith

zero-is_sector : IsSector zero_sector
unfolding zero_sector
zero-is_sector = record {
  whole = length-replicate {A = ℕ} 512 0;
  bytes = λ at. elim (cases_lt at 512) [
    | inl below ↦ subst (λ (n : ℕ). n < 256) (sym (get_or-replicate 512 at 0 0 below)) (omega arith)
    | inr past ↦ subst (λ (n : ℕ). n < 256) (sym (get_or_past zero_sector at 0 (omega (arith, length-replicate {A = ℕ} 512 0, past)))) (omega arith)
  ];
}

-- what a slot holds stands, whatever would stand there else
held-there : (b : Bool) (h : Option ℕ) (f : ℕ → Sector) (other : Sector) (slot : ℕ) → (if b then h else None) ≡ Some slot → unwrap_or (if b then option_map f h else None) other ≡ f slot
held-there true h f other slot is = ap (λ (o : Option ℕ). unwrap_or (option_map f o) other) is
held-there false h f other slot is = absurd (cc)

below-is : (a b : ℕ) → a < b → nat_lt a b ≡ true
below-is a b lt = grind (arith, nat_tests, lt)

module _ (bank : Given) (m : Members) (placed : IsPlaced bank m) (still : is_reshaping m.newest ≡ false) (scope : Scope) (c : Contents) (says : reading scope c ≡ Some (reading_in bank.slots m)) where
  abbrev r : Reading
  r = reading_in bank.slots m

  abbrev own : Reading
  own = reading_of m

  abbrev shape : Shape
  shape = shape_of m.newest

  abbrev list : ℕ → Sector
  list = now (stands scope c) []

  -- ---- the members say what the opening read

  offset-is : (slot : ℕ) → slot < bank.slots → data_offset_of r slot ≡ data_offset_of own slot
  offset-is slot lt = ap (λ (o : Option Sb). option_map_or (λ sb. sb.data_offset) o 0) (get_or-take bank.slots m.own slot None lt)

  sector-same : (role row : ℕ) → found_sector c r role row ≡ held_sector c own role row
  sector-same role row = by (role_state own role) refl
    where
      of : Reading → Role → Option Sector
      of q state = cond (ltb row (rows_held q state)) (option_map (λ slot. c slot (data_offset_of q slot + row)) (holder state)) None

      by : (state : Role) → role_state own role ≡ state → of r state ≡ of own state
      by (Whole slot) is = ap (λ (o : ℕ). cond (ltb row m.newest.size) (Some (c slot (o + row))) None) (offset-is slot (placed.holders role slot (ap holder is)).known)
      by (Recovering slot) is =
          ap (λ (o : Option Sb). cond (ltb row (cond (is_reshaping m.newest) 0 (option_map_or (λ sb. sb.recovery_offset) o 0))) (Some (c slot (option_map_or (λ sb. sb.data_offset) o 0 + row))) None)
          (get_or-take bank.slots m.own slot None (placed.holders role slot (ap holder is)).known)
      by Missing is = refl

  row-same : (row : ℕ) → found_row c r shape row ≡ held_row c own shape row
  row-same row = tabulate-same shape.disks (λ role. found_sector c r role row) (λ role. held_sector c own role row) (λ role lt. sector-same role row)

  placed-is : (x : ℕ) → placed_sector c r shape x ≡ standing_sector c own shape (place shape x).row (place shape x).role
  placed-is x =
      ap₂ (λ (o : Option Sector) (l : Row). unwrap_or o (fill (row_roles shape (place shape x).row) l (place shape x).role))
      (sector-same (place shape x).role (place shape x).row) (row-same (place shape x).row)

  -- ---- the list

  no-target : target_of m.newest ≡ None
  no-target = ap (λ (b : Bool). cond b (Some (record { level = m.newest.new_level; layout = m.newest.new_layout; chunk = m.newest.new_chunk; disks = m.newest.raid_disks })) None) still

  length-is : list_length m.newest ≡ list_size (places_of m)
  length-is =
      ap (λ (target : Option Shape). min (data_disks shape) (data_disks (unwrap_or target shape)) * m.newest.size) no-target
      ∙ ap (λ (n : ℕ). n * m.newest.size) (same (data_disks shape))
    where
      same : (n : ℕ) → min n n ≡ n
      same n = grind (arith, nat_tests)

  shape-is : (x : ℕ) → shape_for m.newest x ≡ shape
  shape-is x = by (is_reshaping m.newest) refl still
    where
      by : (b : Bool) → is_reshaping m.newest ≡ b → b ≡ false → shape_for m.newest x ≡ shape
      by true here not = absurd (cc)
      by false here not = cc

  no-section : (backup : Option ℕ) → section_for scope c backup (next_window m.newest) ≡ None
  no-section at = ap (section_for scope c at) no-window ∙ none at
    where
      no-window : next_window m.newest ≡ None
      no-window = let e = still in cc

      none : (at : Option ℕ) → section_for scope c at None ≡ None
      none (Some slot) = refl
      none None = refl

  pub list-length : length (stands scope c) ≡ list_size (places_of m)
  list-length = ap length (stands-is scope c r says) ∙ length-tabulate (list_length m.newest) (listed_sector scope c r) ∙ length-is

  -- no section of the backup covers it
  uncovered : (x : ℕ) → listed_sector scope c r x ≡ placed_sector c r (shape_for m.newest x) x
  uncovered x = other (covers (active_section scope c r) x) _ (placed_sector c r (shape_for m.newest x) x) (ap (λ (active : Option Span). covers active x) (no-section scope.backup))
    where
      other : (b : Bool) (s t : Sector) → b ≡ false → (if b then s else t) ≡ t
      other true s t free = absurd (cc)
      other false s t free = refl

  list-at : (x : ℕ) → x < list_size (places_of m) → list x ≡ standing_sector c own shape (place shape x).row (place shape x).role
  list-at x within =
      now-first (stands scope c) x
      ∙ ap (λ (l : List Sector). get_or l x []) (stands-is scope c r says)
      ∙ get_or-tabulate (list_length m.newest) (listed_sector scope c r) x [] (omega (arith, within, length-is))
      ∙ uncovered x
      ∙ ap (λ (s : Shape). placed_sector c r s x) (shape-is x)
      ∙ placed-is x

  -- a sector that has its place in a row of the members is one of the list
  within-list : (row x : ℕ) → row < m.newest.size → (place shape x).row ≡ row → x < list_size (places_of m)
  within-list row x below at = place-sector_below shape (valid bank m placed) x m.newest.size (multiple bank m placed) (omega (arith, at, below))

  list-there : (row role x : ℕ) → row < m.newest.size → place shape x ≡ record { role = role; row = row } → list x ≡ standing_sector c own shape row role
  list-there row role x below there =
      list-at x (within-list row x below (ap (λ (p : Place). p.row) there))
      ∙ ap (λ (p : Place). standing_sector c own shape p.row p.role) there

  standing-held : (row role slot : ℕ) → held_slot own role row ≡ Some slot → standing_sector c own shape row role ≡ c slot (data_offset_of own slot + row)
  standing-held row role slot held =
      held-there (is_held own role row) (holder (role_state own role)) (λ slot. c slot (data_offset_of own slot + row)) (fill (row_roles shape row) (held_row c own shape row) role) slot held

  pub list-stands : ListStands m c (now (stands scope c) [])
  list-stands row below role slot lt here held =
      let found = sector_there shape role row (valid bank m placed) lt here in
      sym (full-data shape list role row found.0 (valid bank m placed) found.1 ∙ list-there row role found.0 below found.1 ∙ standing-held row role slot held)

  -- ---- the rows, where each sector is whole and no more roles are missing than the array can do without

  module _ (sizes_are : scope.sizes ≡ sizes bank) (whole : (slot k : ℕ) → k < scope.sizes.sectors slot → IsSector (c slot k))
      (does : IsTolerated (reading_of m) (shape_of m.newest)) where
    module _ (row : ℕ) (below : row < m.newest.size) where
      abbrev roles : RowRoles
      roles = row_roles shape row

      abbrev lacks : ℕ → Bool
      lacks role = not (is_held own role row)

      -- what a slot holds, and zeros where none does
      there : ℕ → Sector
      there role = unwrap_or (held_sector c own role row) zero_sector

      there-is : (role slot : ℕ) → held_slot own role row ≡ Some slot → there role ≡ c slot (data_offset_of own slot + row)
      unfolding there
      there-is role slot held = held-there (is_held own role row) (holder (role_state own role)) (λ slot. c slot (data_offset_of own slot + row)) zero_sector slot held

      whole-at : (role slot : ℕ) → holder (role_state own role) ≡ Some slot → IsSector (c slot (data_offset_of own slot + row))
      whole-at role slot held =
          let at = placed.holders role slot held in
          let long : scope.sizes.sectors slot ≡ bank.sectors slot =
          ap (λ (z : Sizes). z.sectors slot) sizes_are ∙ ap (λ (b : Bool). cond b (bank.sectors slot) 0) (below-is slot bank.slots at.known) in
          whole slot (data_offset_of own slot + row) (omega (arith, long, at.within, below))

      there-whole : (role : ℕ) → role < shape.disks → IsSector (there role)
      unfolding there
      there-whole role lt = by (is_held own role row) (holder (role_state own role)) (λ slot held. whole-at role slot held)
        where
          by : (b : Bool) (h : Option ℕ) → ((slot : ℕ) → h ≡ Some slot → IsSector (c slot (data_offset_of own slot + row)))
              → IsSector (unwrap_or (if b then option_map (λ slot. c slot (data_offset_of own slot + row)) h else None) zero_sector)
          by true (Some slot) each = each slot refl
          by true None each = zero-is_sector
          by false h each = zero-is_sector

      few : length (lacking_in (row_without lacks shape.disks there)) ≤ 2
      few = most (row_roles shape row).q (lacking_few own shape row there below does)
        where
          most : (q : Option ℕ) → length (lacking_in (row_without lacks shape.disks there)) ≤ option_map_or (λ q. 2) q 1 → length (lacking_in (row_without lacks shape.disks there)) ≤ 2
          most (Some q) le = le
          most None le = omega (arith, le)

      -- the row with its fills
      abbrev full : ℕ → Sector
      full = filled_sector roles lacks shape.disks there

      full-whole : (role : ℕ) → role < shape.disks → IsSector (full role)
      full-whole role lt = filled-sector roles there there-whole lacks few role lt

      full-stands : (role : ℕ) → role < shape.disks → full role ≡ standing_sector c own shape row role
      full-stands role lt = all_stand c own shape row there full (λ other slot l held. there-is other slot held)
          (λ other l held. ap (λ (b : Bool). cond (not b) (fill roles (row_without lacks shape.disks there) other) (there other)) held)
          (λ other l none. ap (λ (b : Bool). cond (not b) (fill roles (row_without lacks shape.disks there) other) (there other)) none) role lt

      -- a sector that has its place in the row is that of its role
      full-listed : (x : ℕ) → (place shape x).row ≡ row → list x ≡ full (place shape x).role
      full-listed x at =
          list-at x (within-list row x below at)
          ∙ ap (λ (n : ℕ). standing_sector c own shape n (place shape x).role) at
          ∙ sym (full-stands (place shape x).role (place-role_below shape (valid bank m placed) x))

      -- and so is whole
      row-whole : AreWholeIn shape list row
      row-whole x at = subst IsSector (sym (full-listed x at)) (full-whole (place shape x).role (place-role_below shape (valid bank m placed) x))

    pub list-whole : AreSectorsWhole (list_size (places_of m)) (now (stands scope c) [])
    list-whole x within = row-whole (place shape x).row (place-row_below shape (valid bank m placed) x m.newest.size (multiple bank m placed) within) x refl

    -- ---- where each row is good

    -- some sector of the list has its place in the row
    on-row : (row : ℕ) → row < m.newest.size → (x : ℕ) × (x < list_size (places_of m)) × ((place shape x).row ≡ row)
    on-row row below =
        let some : 0 < shape.chunk = chunk_some shape (valid bank m placed) in
        let x : ℕ = sector_at shape (row / shape.chunk) 0 (row % shape.chunk) in
        let at : (place shape x).row ≡ row =
        ap (λ (q : Place). q.row) (place-sector shape (row / shape.chunk) 0 (row % shape.chunk) (data_some shape (valid bank m placed)) (mod_below row shape.chunk some)) ∙ div-add-mod' row shape.chunk in
        (x, within-list row x below at, at)

    module _ (good : HasGoodRows scope c r) where
      good-row : (row : ℕ) → row < m.newest.size → IsGoodRow c r shape row
      good-row row below =
          let found = on-row row below in
          let x : ℕ = found.0 in
          let here : IsGoodRow c r (shape_for m.newest x) (place (shape_for m.newest x) x).row =
          good x (omega (arith, found.1, length-is)) (ap (λ (o : Option Span). covers o x) (no-section scope.backup)) in
          subst (λ (n : ℕ). IsGoodRow c r shape n) found.2
          (subst (λ (s : Shape). IsGoodRow c r s (place s x).row) (shape-is x) here)

      module _ (row : ℕ) (below : row < m.newest.size) where
        row-is : found_row c r shape row ≡ row_without (lacks row below) shape.disks (there row below)
        row-is = row-same row ∙ sym (row_is c own shape row (there row below) (there row below) (λ role slot lt held. there-is row below role slot held))

        full-good : AreEquationsMet (roles row below) (whole_row shape.disks (full row below))
        full-good = good-filled (roles row below) (there row below) (there-whole row below) (lacks row below) (few row below)
            (subst (λ (l : Row). AreEquationsMet (roles row below) l) row-is (good-row row below).parity)

        -- is that of the list
        full-data_is : (role : ℕ) → role < shape.disks → is_parity (roles row below) role ≡ false → full row below role ≡ list (listed_at shape row role)
        full-data_is role lt here =
            let found = sector_there shape role row (valid bank m placed) lt here in
            full-stands row below role lt ∙ sym (ap list (listed-is shape role row found.0 (valid bank m placed) found.1) ∙ list-there row role found.0 below found.1)

        full-parity_is : (role : ℕ) → role < shape.disks → is_parity (roles row below) role ≡ true → full row below role ≡ full_sector shape list row role
        full-parity_is role lt here =
            let but : IsGoodBut (roles row below) (full row below) (is_parity (roles row below)) =
            record { valid = row_roles-valid shape row (valid bank m placed); whole = full-whole row below; good = full-good; tolerated = parity_few (roles row below) (full row below) } in
            sym (ap (λ (b : Bool). cond b (fill (roles row below) (row_without (is_parity (roles row below)) shape.disks (full row below)) role) (full row below role)) here
            ∙ fills-are-own (roles row below) (full row below) (is_parity (roles row below)) role but lt)
            ∙ filled-same (roles row below) shape.disks (full row below) (λ other. list (listed_at shape row other)) full-data_is role lt

        row-stands : RowStands own c shape list row
        row-stands = record {
          whole = row-whole row below;
          sectors = list-stands row below;
          parity = λ role slot lt here held.
              sym (standing-held row role slot held) ∙ sym (full-stands row below role lt) ∙ full-parity_is role lt here;
        }

      pub rows-stand : RowsStand m c (now (stands scope c) [])
      rows-stand row below = row-stands row below
