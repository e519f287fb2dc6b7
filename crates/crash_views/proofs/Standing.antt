-- What an image stands for that is read of members of one shape or two.
use Rattle.std.proofs.Common.{◌≡◌, ℕ, ◌+◌, ◌-◌, ◌<◌, nat_lt, Bool, true, false, cond, List, [], length, get_or, Option, Some, None, unwrap_or, option_map, refl, sym, ◌∙◌, ap, ap₂}
use Rattle.std.specs.Prelude.{slice_index_or}
use Rattle.std.specs.Option.{option_or, option_map_or}
use Rattle.history.specs.raid_types_the_Refusal.{Refusal}
use Rattle.history.specs.raid_types_the_Refusal_TheVariants.{NoSuperblock}
use Rattle.history.specs.raid_types_the_Shape.{Shape}
use Rattle.history.specs.raid_types_the_Span.{Span}
use Rattle.history.specs.raid_types_the_Role.{Role}
use Rattle.history.specs.raid_types_the_Role_TheVariants.{Missing}
use Rattle.history.specs.raid_types_Sectors.{Sector}
use Rattle.history.proofs.raid_types_Tabulated.{length-tabulate, get_or-tabulate}
use Rattle.history.specs.bank_Given.{Given}
use Rattle.history.specs.bank_Tape.{Contents}
use Rattle.history.specs.raid_layout_Layout.{row_roles}
use Rattle.history.specs.raid_parity_Parity.{Row, fill}
use Rattle.history.proofs.raid_parity_Columns.{tabulate-same}
use Rattle.history.specs.sb_specs_the_Members.{Members}
use Rattle.history.specs.sb_specs_Reading.{Scope, Reading, reading, list_length, next_window, role_state, rows_held, holder, data_offset_of}
use Rattle.history.specs.sb_specs_Verdict.{members_missing, dirty_degraded}
use Rattle.history.specs.sb_specs_Reads.{roles_refusal}
use Rattle.history.proofs.sb_specs_ReadAlike.{refused-same}
use Rattle.stripe_list.specs.stripe_row_Rows.{reading_of}
use Rattle.stripe_list.specs.stripe_row_Rows as rows
use Rattle.history.specs.bank_backup_Section.{section_sector}
use Rattle.history.specs.ActiveSection.{section_for, active_section}
use Rattle.history.specs.Stands.{stands, verdict, refusal_of, held_sector, placed_sector, shape_for, standing_sector, covers}
use Rattle.history.proofs.SameLaws.{stands-is}
use Rattle.crash_views.specs.Regions.{backup_of, header_in, open_by, place_by, ArePlaced, IsReadOf, refusal_for, RefusedForMissing}
use Rattle.crash_views.proofs.Alike.{length-alike, window-alike, placing-alike, backup-alike}

-- what a role in this state has of a row
abbrev held_as : Contents → Reading → Role → ℕ → Option Sector
held_as c r state row = cond (nat_lt row (rows_held r state)) (option_map (λ slot. c slot (data_offset_of r slot + row)) (holder state)) None

held-alike : (c : Contents) (q r : Reading) (h : Option ℕ) (row : ℕ) → ((slot : ℕ) → h ≡ Some slot → data_offset_of q slot ≡ data_offset_of r slot)
    → option_map (λ slot. c slot (data_offset_of q slot + row)) h ≡ option_map (λ slot. c slot (data_offset_of r slot + row)) h
held-alike c q r (Some slot) row offsets = ap (λ (at : ℕ). Some (c slot (at + row))) (offsets slot refl)
held-alike c q r None row offsets = refl

-- what stands at the place of a sector, by what the members say
abbrev pub standing_at : Members → Contents → ℕ → Sector
standing_at m c x = rows.standing_sector c (reading_of m) (shape_for m.newest x) (place_by m.newest x).row (place_by m.newest x).role

-- the active section is decided by the next window and the header
section-is : (scope : Scope) (c : Contents) (span : Option Span) → section_for scope c scope.backup span ≡ section_for scope (λ s k. header_in scope c) scope.backup span
section-is scope c span = of scope.backup span
  where
    of : (backup : Option ℕ) (span : Option Span) → section_for scope c backup span ≡ section_for scope (λ s k. c (unwrap_or backup 0) 0) backup span
    of (Some b) (Some s) = refl
    of (Some b) None = refl
    of None s = refl

joined : (a b : Option Refusal) → option_or (option_or a (option_or b (option_or None None))) None ≡ option_or a b
joined (Some x) b = refl
joined None (Some y) = refl
joined None None = refl

module _ (scope : Scope) (given : Given) (m : Members) (placed : ArePlaced scope given m) (c : Contents) (r : Reading) (read : IsReadOf scope m r) where
  pub length-is : list_length r.newest ≡ list_length m.newest
  length-is = sym (length-alike m.newest r.newest read.array)

  pub shape-is : (x : ℕ) → shape_for r.newest x ≡ shape_for m.newest x
  shape-is x = sym (placing-alike m.newest r.newest read.array x)

  pub section-here : active_section scope c r ≡ open_by scope m.newest (header_in scope c)
  section-here = section-is scope c (next_window r.newest)
      ∙ ap (λ (w : Option Span). section_for scope (λ s k. header_in scope c) scope.backup w) (sym (window-alike m.newest r.newest read.array))

  state-is : (role : ℕ) → role_state r role ≡ role_state (reading_of m) role
  state-is role = ap (λ (l : List Role). get_or l role Missing) read.roles

  pub held-same : (role row : ℕ) → held_sector c r role row ≡ rows.held_sector c (reading_of m) role row
  held-same role row =
      let state = role_state (reading_of m) role in
      ap (λ (s : Role). held_as c r s row) (state-is role)
      ∙ ap (λ (n : ℕ). cond (nat_lt row n) (option_map (λ slot. c slot (data_offset_of r slot + row)) (holder state)) None) (read.rows role)
      ∙ ap (λ (o : Option Sector). cond (nat_lt row (rows_held (reading_of m) state)) o None) (held-alike c r (reading_of m) (holder state) row (λ slot held. read.offsets role slot held))

  pub placed-same : (x : ℕ) → placed_sector c r (shape_for r.newest x) x ≡ standing_at m c x
  placed-same x =
      let shape : Shape = shape_for m.newest x in
      let role : ℕ = (place_by m.newest x).role in
      let row : ℕ = (place_by m.newest x).row in
      ap (λ (s : Shape). placed_sector c r s x) (shape-is x)
      ∙ ap₂ (λ (own : Option Sector) (held : Row). unwrap_or own (fill (row_roles shape row) held role)) (held-same role row)
      (tabulate-same shape.disks (λ (role : ℕ). held_sector c r role row) (λ (role : ℕ). rows.held_sector c (reading_of m) role row) (λ role lt. held-same role row))

  -- the flat list is as long as the members say
  pub read-length : reading scope c ≡ Some r → length (stands scope c) ≡ list_length m.newest
  read-length here = ap length (stands-is scope c r here) ∙ length-tabulate (list_length r.newest) (standing_sector scope c r) ∙ length-is

  read-at : reading scope c ≡ Some r → (x : ℕ) → x < list_length m.newest → slice_index_or (stands scope c) x [] ≡ standing_sector scope c r x
  read-at here x below =
      ap (λ (l : List Sector). get_or l x []) (stands-is scope c r here)
      ∙ get_or-tabulate (list_length r.newest) (standing_sector scope c r) x [] (rw length-is below)

  -- a sector stands in the active section where that covers it, and else at its place, or is filled in
  pub read-covered : reading scope c ≡ Some r → (x : ℕ) → x < list_length m.newest → (span : Span) → open_by scope m.newest (header_in scope c) ≡ Some span → covers (Some span) x ≡ true
      → slice_index_or (stands scope c) x [] ≡ c (backup_of scope) (8 + (x - span.lo))
  read-covered here x below span opened inside =
      read-at here x below
      ∙ ap (λ (o : Option Span). cond (covers o x) (option_map_or (λ span. section_sector (c (unwrap_or scope.backup 0)) span x) o []) (placed_sector c r (shape_for r.newest x) x)) (section-here ∙ opened)
      ∙ ap (λ (b : Bool). cond b (section_sector (c (unwrap_or scope.backup 0)) span x) (placed_sector c r (shape_for r.newest x) x)) inside

  pub read-placed : reading scope c ≡ Some r → (x : ℕ) → x < list_length m.newest → covers (open_by scope m.newest (header_in scope c)) x ≡ false
      → slice_index_or (stands scope c) x [] ≡ standing_at m c x
  read-placed here x below outside =
      read-at here x below
      ∙ ap (λ (b : Bool). cond b (option_map_or (λ span. section_sector (c (unwrap_or scope.backup 0)) span x) (active_section scope c r) []) (placed_sector c r (shape_for r.newest x) x))
      (ap (λ (o : Option Span). covers o x) section-here ∙ outside)
      ∙ placed-same x

  -- it is refused as the members are
  pub refused : refusal_of scope r ≡ refusal_for m
  refused =
      (λ i. option_or ((read.refused ∙ ap (roles_refusal r.newest) read.roles ∙ sym (refused-same m.newest r.newest read.array m.roles)) i) ((sym (backup-alike m.newest r.newest read.array scope) ∙ placed.backup) i))
      ∙ ap (λ (o : Option Refusal). option_or (option_or (members_missing m.newest m.roles) (option_or (dirty_degraded m.newest m.roles) (option_or o None))) None) placed.fit.unit
      ∙ joined (members_missing m.newest m.roles) (dirty_degraded m.newest m.roles)

  pub read-refused : reading scope c ≡ Some r → verdict scope c ≡ refusal_for m
  unfolding verdict
  read-refused here = ap (λ (found : Option Reading). option_map_or (refusal_of scope) found (Some NoSuperblock)) here ∙ refused

pub refused-for : (c : Contents) → RefusedForMissing
refused-for c scope given m r placed read = refused scope given m placed c r read
