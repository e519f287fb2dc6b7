-- Rows of a run that were read, and what their parity gives.
use Rattle.std.proofs.Common.{◌≡◌, ℕ, ◌+◌, ◌*◌, ◌/◌, ◌<◌, Bool, true, false, not, nat_lt, if◌then◌else◌, List, Option, Some, None, sym, ◌∙◌, ap, subst, inl, inr, arith}
use Rattle.raid_layout.specs.raid_types_the_Shape.{Shape}
use Rattle.raid_layout.specs.raid_types_the_RowRoles.{RowRoles}
use Rattle.raid_layout.specs.raid_types_the_Role.{Role}
use Rattle.raid_layout.specs.raid_types_the_Role_TheVariants.{Whole, Recovering, Missing}
use Rattle.raid_layout.specs.raid_types_Sectors.{Sector}
use Rattle.raid_layout.specs.raid_types_Shapes.{has_slot}
use Rattle.raid_layout.specs.Layout.{row_roles, stripe_p, stripe_q}
use Rattle.raid_parity_simd.specs.Buffers.{buffered, role_sectors}
use Rattle.stripe_row.specs.bank_Given.{Given}
use Rattle.stripe_row.specs.bank_the_Operation.{Operation}
use Rattle.stripe_row.specs.bank_Tape.{Contents}
use Rattle.stripe_row.specs.raid_parity_Parity.{Row, fill}
use Rattle.stripe_row.specs.raid_parity_Rows.{row_without, sector_of}
use Rattle.stripe_row.proofs.raid_parity_Columns.{bool_cases}
use Rattle.stripe_row.specs.sb_specs_the_Members.{Members}
use Rattle.stripe_row.specs.sb_specs_Reading.{Reading, role_state, rows_held, holder, data_offset_of}
use Rattle.stripe_row.specs.Rows.{reading_of, is_held, held_slot, standing_sector, role_without, members_without, present}
use Rattle.stripe_row.proofs.Lacks.{row-same}
use Rattle.stripe_row.proofs.Losses.{state_after, held_slot-after, all_stand}
use Rattle.stripe_runs.specs.declared.runs.Run.{Run}
use Rattle.stripe_runs.specs.Runs.{AreAlike, IsHeldSector}
use Rattle.stripe_runs.proofs.AlikeLaws.{all_past}

-- ---- rows that are alike

-- a stripe's rows have the same parity roles
pub roles_along : (shape : Shape) (row j : ℕ) → (row + j) / shape.chunk ≡ row / shape.chunk → row_roles shape row ≡ row_roles shape (row + j)
roles_along shape row j same = ap (λ (s : ℕ). let roles : RowRoles = record { disks = shape.disks; p = stripe_p shape s; q = stripe_q shape s } in roles) (sym same)

-- what the parity gives in a row, where it is alike the first
pub fill_along : (r : Reading) (shape : Shape) (row j : ℕ) (sectors : ℕ → Sector) (role : ℕ) → (row + j) / shape.chunk ≡ row / shape.chunk
    → ((other : ℕ) → other < shape.disks → is_held r other (row + j) ≡ is_held r other row)
    → fill (row_roles shape row) (row_without (λ other. not (is_held r other row)) shape.disks sectors) role
    ≡ fill (row_roles shape (row + j)) (row_without (λ other. not (is_held r other (row + j))) shape.disks sectors) role
fill_along r shape row j sectors role stripe same =
    ap (λ (roles : RowRoles). fill roles (row_without (λ other. not (is_held r other row)) shape.disks sectors) role) (roles_along shape row j stripe)
    ∙ ap (λ (w : Row). fill (row_roles shape (row + j)) w role)
    (row-same shape.disks (λ other. not (is_held r other row)) (λ other. not (is_held r other (row + j))) sectors (λ other lt. ap not (sym (same other lt))))

-- a slot that holds a role in the first row holds it in each
pub slot_along : (r : Reading) (role row j slot : ℕ) → is_held r role (row + j) ≡ is_held r role row → held_slot r role (row + j) ≡ Some slot → held_slot r role row ≡ Some slot
slot_along r role row j slot same held = subst (λ (b : Bool). (if b then holder (role_state r role) else None) ≡ Some slot) same held

-- ---- and stay so, whatever is lost

missing_alike : (b : Bool) (r : Reading) (state : Role) (row j : ℕ) → nat_lt (row + j) (rows_held r state) ≡ nat_lt row (rows_held r state)
    → nat_lt (row + j) (rows_held r (if b then Missing else state)) ≡ nat_lt row (rows_held r (if b then Missing else state))
missing_alike true r state row j same = all_past row j 0 (omega arith)
missing_alike false r state row j same = same

alike_by : (r : Reading) (lost row j : ℕ) (state : Role) → nat_lt (row + j) (rows_held r state) ≡ nat_lt row (rows_held r state)
    → nat_lt (row + j) (rows_held r (role_without lost state)) ≡ nat_lt row (rows_held r (role_without lost state))
alike_by r lost row j (Whole s) same = missing_alike (has_slot lost s) r (Whole s) row j same
alike_by r lost row j (Recovering s) same = missing_alike (has_slot lost s) r (Recovering s) row j same
alike_by r lost row j Missing same = same

pub alike_after : (m new : Members) (lost : ℕ) (shape : Shape) (row count : ℕ) → new ≡ members_without lost m → AreAlike (reading_of m) shape row count → AreAlike (reading_of new) shape row count
alike_after m new lost shape row count is alike =
    subst (λ (n : Members). AreAlike (reading_of n) shape row count) (sym is) (record {
      stripe = alike.stripe;
      held = λ role j lt within.
          subst (λ (state : Role). nat_lt (row + j) (rows_held (reading_of m) state) ≡ nat_lt row (rows_held (reading_of m) state)) (sym (state_after m lost role))
          (alike_by (reading_of m) lost row j (role_state (reading_of m) role) (alike.held role j lt within));
    })

-- ---- sectors that were read

-- a set that is longer has no fewer sectors to show
pub sector_kept : (c : Contents) (r : Reading) (lost lost' role row : ℕ) (old new : Sector) → ((s : ℕ) → has_slot lost s ≡ true → has_slot lost' s ≡ true) → new ≡ old
    → IsHeldSector c r lost role row old → IsHeldSector c r lost' role row new
sector_kept c r lost lost' role row old new stay same has slot is there =
    same ∙ has slot is (elim (bool_cases (has_slot lost slot)) [ inl gone ↦ absurd (let e = stay slot gone in cc) | inr here ↦ here ])

-- the same sectors, where the bank is as it was
pub sector_moved : (given given' : Given) (old new : List Operation) (r : Reading) (lost role row : ℕ) (sector : Sector) → given' ≡ given → new ≡ old
    → IsHeldSector (present given' new) r lost role row sector → IsHeldSector (present given old) r lost role row sector
sector_moved given given' old new r lost role row sector same is has slot held here =
    has slot held here ∙ ap (λ (t : List Operation). present given' t slot (data_offset_of r slot + row)) is
    ∙ ap (λ (g : Given). present g old slot (data_offset_of r slot + row)) same

-- the row that was read, and filled
pub row_read : (members m : Members) (lost : ℕ) → m ≡ members_without lost members → (c : Contents) (shape : Shape) (row : ℕ) (old new : ℕ → Sector)
    → ((role : ℕ) → role < shape.disks → IsHeldSector c (reading_of members) lost role row (old role))
    → ((role : ℕ) → role < shape.disks → is_held (reading_of m) role row ≡ true → new role ≡ old role)
    → ((role : ℕ) → role < shape.disks → is_held (reading_of m) role row ≡ false
    → new role ≡ fill (row_roles shape row) (row_without (λ other. not (is_held (reading_of m) other row)) shape.disks old) role)
    → (role : ℕ) → role < shape.disks → new role ≡ standing_sector c (reading_of m) shape row role
row_read members m lost is c shape row old new has kept lacking =
    all_stand c (reading_of m) shape row old new
    (subst (λ (n : Members). (role slot : ℕ) → role < shape.disks → held_slot (reading_of n) role row ≡ Some slot → old role ≡ c slot (data_offset_of (reading_of n) slot + row)) (sym is) own)
    kept lacking
  where
    own : (role slot : ℕ) → role < shape.disks → held_slot (reading_of (members_without lost members)) role row ≡ Some slot
        → old role ≡ c slot (data_offset_of (reading_of (members_without lost members)) slot + row)
    own role slot lt held = let before = held_slot-after members lost role row slot held in has role lt slot before.0 before.1

-- ---- one role's sectors of a run

module _ (r : Reading) (shape : Shape) (run : Run) (role lost : ℕ) (c : Contents) (alike : AreAlike r shape run.row run.count) (low : role < shape.disks) where
  first_slot : (j slot : ℕ) → j < run.count → held_slot r role (run.row + j) ≡ Some slot → held_slot r role run.row ≡ Some slot
  first_slot j slot lt held = slot_along r role run.row j slot (alike.held role j low lt) held

  -- no slot holds them
  pub sectors_none : held_slot r role run.row ≡ None → (j : ℕ) → j < run.count → (sector : Sector) → IsHeldSector c r lost role (run.row + j) sector
  sectors_none none j lt sector slot held here = absurd (let e : ◌≡◌ {A = Option ℕ} None (Some slot) = sym none ∙ first_slot j slot lt held in cc)

  module _ (s : ℕ) (has : held_slot r role run.row ≡ Some s) where
    one_slot : (j slot : ℕ) → j < run.count → held_slot r role (run.row + j) ≡ Some slot → s ≡ slot
    one_slot j slot lt held = let e : ◌≡◌ {A = Option ℕ} (Some s) (Some slot) = sym has ∙ first_slot j slot lt held in cc

    -- the slot that does is lost
    pub sectors_lost : has_slot lost s ≡ true → (j : ℕ) → j < run.count → (sector : Sector) → IsHeldSector c r lost role (run.row + j) sector
    sectors_lost gone j lt sector slot held here = absurd (
        let same = one_slot j slot lt held in
        let gone' = subst (λ (t : ℕ). has_slot lost t ≡ true) same gone in
        cc
        )

    -- and where it isn't, they were read from it
    pub sectors_here : (at : ℕ) → at ≡ data_offset_of r s + run.row → (j : ℕ) → j < run.count → (bytes : List ℕ) → sector_of bytes (role_sectors * role + run.at + j) ≡ c s (at + j)
        → IsHeldSector c r lost role (run.row + j) (buffered bytes (run.at + j) role)
    sectors_here at is j lt bytes read slot held here =
        let same = one_slot j slot lt held in
        let there : at + j ≡ data_offset_of r s + (run.row + j) = omega (arith, is) in
        let place : role_sectors * role + (run.at + j) ≡ role_sectors * role + run.at + j = omega arith in
        ap (sector_of bytes) place ∙ read ∙ ap (c s) there ∙ ap (λ (t : ℕ). c t (data_offset_of r t + (run.row + j))) same
