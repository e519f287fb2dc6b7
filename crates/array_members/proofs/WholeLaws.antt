-- What an array with every role whole stands for, and when a mark of it is safe.
use Rattle.std.proofs.Common.{◌≡◌, ℕ, ◌+◌, ◌*◌, ◌<◌, Bool, true, false, cond, List, [], length, get_or, refl, ap, ap₂, ◌∙◌, arith, Option, Some, None, unwrap_or, option_map, ltb, min}
use Rattle.std.specs.Option.{option_map_or}
use Rattle.std.specs.Prelude.{slice_index_or}
use Rattle.std.proofs.lemmas.Bool.Decides.{nat_tests}
use Rattle.crash_role_laws.specs.raid_types_the_Shape.{Shape}
use Rattle.crash_role_laws.specs.raid_types_the_Span.{Span}
use Rattle.crash_role_laws.specs.raid_types_the_Role.{Role}
use Rattle.crash_role_laws.specs.raid_types_the_Refusal_TheVariants.{NoSuperblock}
use Rattle.crash_role_laws.specs.raid_types_Sectors.{Sector}
use Rattle.crash_role_laws.specs.raid_types_Shapes.{data_disks}
use Rattle.crash_role_laws.proofs.raid_types_Tabulated.{length-tabulate, get_or-tabulate}
use Rattle.crash_role_laws.specs.bank_Tape.{Contents}
use Rattle.crash_role_laws.specs.raid_layout_Layout.{place, row_roles}
use Rattle.crash_role_laws.proofs.raid_layout_Places.{place-row_below, place-role_below}
use Rattle.crash_role_laws.specs.raid_parity_Parity.{fill}
use Rattle.crash_role_laws.specs.bank_backup_Section.{section_sector}
use Rattle.crash_role_laws.specs.sb_specs_Reading.{Scope, Reading, reading, is_reshaping, shape_of, target_of, final_shape, next_window, list_length, rows_held, holder, data_offset_of}
use Rattle.crash_role_laws.specs.history_ActiveSection.{section_for}
use Rattle.crash_role_laws.specs.history_Stands.{stands, verdict, refusal_of, held_sector, held_row, placed_sector, shape_for, standing_sector, covers}
use Rattle.crash_role_laws.proofs.history_SameLaws.{stands-is}
use Rattle.array_members.specs.Whole.{Places, AreFit, in_row, placed, list_size, IsReadWhole}

module _ (scope : Scope) (p : Places) (fit : AreFit p) (c : Contents) (r : Reading) (whole : IsReadWhole scope p r) where
  no_target : (reshaping : Bool) → is_reshaping r.newest ≡ reshaping → reshaping ≡ false → target_of r.newest ≡ None
  no_target true is not = absurd (cc)
  no_target false is not =
      ap (λ (b : Bool). cond b (Some (record { level = r.newest.new_level; layout = r.newest.new_layout; chunk = r.newest.new_chunk; disks = r.newest.raid_disks })) None) is

  final-is : final_shape r.newest ≡ shape_of r.newest
  final-is = ap (λ (target : Option Shape). unwrap_or target (shape_of r.newest)) (no_target (is_reshaping r.newest) refl whole.still)

  min-same : (n : ℕ) → min n n ≡ n
  min-same n = grind (arith, nat_tests)

  pub length-is : list_length r.newest ≡ list_size p
  length-is =
      ap (λ (s : Shape). min (data_disks (shape_of r.newest)) (data_disks s) * r.newest.size) final-is
      ∙ ap (λ (n : ℕ). n * r.newest.size) (min-same (data_disks (shape_of r.newest)))
      ∙ ap₂ (λ (s : Shape) (n : ℕ). data_disks s * n) whole.shape whole.size

  pub shape-is : (x : ℕ) → shape_for r.newest x ≡ p.shape
  shape-is x = by (is_reshaping r.newest) refl whole.still ∙ whole.shape
    where
      by : (b : Bool) → is_reshaping r.newest ≡ b → b ≡ false → shape_for r.newest x ≡ shape_of r.newest
      by true is not = absurd (cc)
      by false is not = cc

  no_section : (backup : Option ℕ) → section_for scope c backup (next_window r.newest) ≡ None
  no_section backup = ap (section_for scope c backup) no_window ∙ none backup
    where
      no_window : next_window r.newest ≡ None
      no_window = cc

      none : (backup : Option ℕ) → section_for scope c backup None ≡ None
      none (Some slot) = refl
      none None = refl

  pub held-is : (role row : ℕ) → role < p.shape.disks → row < p.size → held_sector c r role row ≡ Some (in_row p c row role)
  held-is role row below short =
      ap (λ (state : Role). cond (ltb row (rows_held r state)) (option_map (λ slot. c slot (data_offset_of r slot + row)) (holder state)) None) (whole.whole role below)
      ∙ ap₂ (λ (n o : ℕ). cond (ltb row n) (Some (c (p.slot role) (o + row))) None) whole.size (whole.offset role below)
      ∙ ap (λ (b : Bool). cond b (Some (in_row p c row role)) None) (within row p.size short)
    where
      within : (a b : ℕ) → a < b → ltb a b ≡ true
      within a b lt = grind (arith, nat_tests, lt)

  standing-is : (x : ℕ) → x < list_size p → standing_sector scope c r x ≡ placed p c x
  standing-is x below =
      ap (λ (active : Option Span). cond (covers active x) (option_map_or (λ span. section_sector (c (unwrap_or scope.backup 0)) span x) active [])
      (placed_sector c r (shape_for r.newest x) x)) (no_section scope.backup)
      ∙ ap (λ (s : Shape). placed_sector c r s x) (shape-is x)
      ∙ ap (λ (found : Option Sector). unwrap_or found (fill (row_roles p.shape (place p.shape x).row) (held_row c r p.shape (place p.shape x).row) (place p.shape x).role))
      (held-is (place p.shape x).role (place p.shape x).row (place-role_below p.shape fit.valid x) (place-row_below p.shape fit.valid x p.size fit.multiple below))

  pub stands-length : reading scope c ≡ Some r → length (stands scope c) ≡ list_size p
  stands-length here = ap length (stands-is scope c r here) ∙ length-tabulate (list_length r.newest) (standing_sector scope c r) ∙ length-is

  -- the flat list is what stands at its places
  pub stands-at : reading scope c ≡ Some r → (x : ℕ) → x < list_size p → slice_index_or (stands scope c) x [] ≡ placed p c x
  stands-at here x below =
      ap (λ (l : List Sector). get_or l x []) (stands-is scope c r here)
      ∙ get_or-tabulate (list_length r.newest) (standing_sector scope c r) x [] (rw length-is below)
      ∙ standing-is x below

  pub assembles : reading scope c ≡ Some r → verdict scope c ≡ None
  unfolding verdict
  assembles here = ap (λ (found : Option Reading). option_map_or (refusal_of scope) found (Some NoSuperblock)) here ∙ whole.accepted
