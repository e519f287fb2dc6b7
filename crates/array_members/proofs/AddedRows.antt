-- The list on the members with a slot that is made a spare: it has no part in it.
use Rattle.std.proofs.Common.{◌≡◌, ◌≢◌, ℕ, ◌+◌, ◌≤◌, nat_lt, cond, if◌then◌else◌, Option, Some, None, refl, sym, ◌∙◌, ap, subst}
use Rattle.std.specs.Option.{option_map_or}
use Rattle.crash_role_laws.specs.raid_types_Sectors.{Sector}
use Rattle.crash_role_laws.specs.raid_types_the_Shape.{Shape}
use Rattle.crash_role_laws.specs.raid_types_the_Role.{Role}
use Rattle.crash_role_laws.specs.raid_types_the_Role_TheVariants.{Whole, Recovering, Missing}
use Rattle.crash_role_laws.specs.sb_codec_the_Sb.{Sb}
use Rattle.crash_role_laws.specs.bank_Tape.{Contents}
use Rattle.crash_role_laws.specs.sb_specs_the_Members.{Members}
use Rattle.crash_role_laws.specs.sb_specs_Reading.{shape_of, is_reshaping, role_state, rows_held, holder, data_offset_of}
use Rattle.crash_role_laws.specs.stripe_row_Rows.{reading_of, held_slot}
use Rattle.crash_role_laws.proofs.stripe_row_Losses.{holder-of}
use Rattle.crash_role_laws.specs.stripe_list_Full.{DataStands, ParityStands}
use Rattle.array_members.specs.declared.work.Work.{Work}
use Rattle.array_members.specs.Lacking.{ListStands, RowsStandAmong}
use Rattle.array_members.specs.Rebuilding.{AreRebuilt, with_spare}
use Rattle.array_members.proofs.AddedMembers.{own-other}

module _ (m : Members) (slot : ℕ) (sb : Sb) (untaken : (role : ℕ) → holder (role_state (reading_of m) role) ≡ Some slot → ⊥) where
  other : (role s : ℕ) → holder (role_state (reading_of m) role) ≡ Some s → s ≢ slot
  other role s held same = untaken role (held ∙ ap (λ (n : ℕ). Some n) same)

  pub offset-with : (role s : ℕ) → holder (role_state (reading_of m) role) ≡ Some s → data_offset_of (reading_of (with_spare slot sb m)) s ≡ data_offset_of (reading_of m) s
  offset-with role s held = ap (λ (o : Option Sb). option_map_or (λ (x : Sb). x.data_offset) o 0) (own-other m slot sb s (other role s held))

  -- each role has as many rows
  pub rows-as : (role : ℕ) (state : Role) → role_state (reading_of m) role ≡ state → rows_held (reading_of (with_spare slot sb m)) state ≡ rows_held (reading_of m) state
  rows-as role (Whole s) is = refl
  rows-as role (Recovering s) is =
      ap (λ (o : Option Sb). if is_reshaping m.newest then 0 else option_map_or (λ (x : Sb). x.recovery_offset) o 0) (own-other m slot sb s (other role s (ap holder is)))
  rows-as role Missing is = refl

  pub held-with : (role row s : ℕ) → held_slot (reading_of (with_spare slot sb m)) role row ≡ Some s → held_slot (reading_of m) role row ≡ Some s
  held-with role row s held = sym (ap (λ (n : ℕ). cond (nat_lt row n) (holder (role_state (reading_of m) role)) None) (rows-as role (role_state (reading_of m) role) refl)) ∙ held

  -- what a holder has stands where it did
  there : (c : Contents) (role row s : ℕ) → held_slot (reading_of (with_spare slot sb m)) role row ≡ Some s
      → c s (data_offset_of (reading_of (with_spare slot sb m)) s + row) ≡ c s (data_offset_of (reading_of m) s + row)
  there c role row s held = ap (λ (n : ℕ). c s (n + row)) (offset-with role s (holder-of (reading_of m) role row s (held-with role row s held)))

  pub data-with : (c : Contents) (shape : Shape) (list : ℕ → Sector) (row : ℕ) → DataStands (reading_of m) c shape list row → DataStands (reading_of (with_spare slot sb m)) c shape list row
  data-with c shape list row stands role s lt parity held = there c role row s held ∙ stands role s lt parity (held-with role row s held)

  pub parity-with : (c : Contents) (shape : Shape) (list : ℕ → Sector) (row : ℕ) → ParityStands (reading_of m) c shape list row → ParityStands (reading_of (with_spare slot sb m)) c shape list row
  parity-with c shape list row stands role s lt parity held = there c role row s held ∙ stands role s lt parity (held-with role row s held)

  pub list-with : (c : Contents) (list : ℕ → Sector) → ListStands m c list → ListStands (with_spare slot sb m) c list
  list-with c list stands row lt = data-with c (shape_of m.newest) list row (stands row lt)

  pub among-with : (shape : Shape) (among : ℕ → Type 0) (c : Contents) (list : ℕ → Sector) → RowsStandAmong shape among m c list → RowsStandAmong shape among (with_spare slot sb m) c list
  among-with shape among c list stands row is lt =
      let was = stands row is lt in
      record { whole = was.whole; sectors = data-with c shape list row was.sectors; parity = parity-with c shape list row was.parity }

  pub rebuilt-with : (work : Work) (c : Contents) (list : ℕ → Sector) → AreRebuilt work m c list → AreRebuilt work (with_spare slot sb m) c list
  rebuilt-with work c list rebuilt role s row lt is held below within =
      ap (λ (n : ℕ). c s (n + row)) (offset-with role s (ap holder is))
      ∙ rebuilt role s row lt is (subst (λ (n : ℕ). n ≤ row) (rows-as role (Recovering s) is) held) below within
