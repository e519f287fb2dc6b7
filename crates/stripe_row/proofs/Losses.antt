-- What is lost in a call, and what is held afterwards.
use Rattle.std.proofs.Common.{◌≡◌, ◌⊎◌, inl, inr, ℕ, ◌+◌, ◌<◌, Bool, true, false, not, nat_lt, if◌then◌else◌, List, Option, Some, None, unwrap_or, option_map, refl, sym, ◌∙◌, ap, subst, arith}
use Rattle.std.proofs.lemmas.Bool.Decides.{nat_tests}
use Rattle.sb_specs.specs.raid_types_the_Shape.{Shape}
use Rattle.sb_specs.specs.raid_types_the_Role.{Role}
use Rattle.sb_specs.specs.raid_types_the_Role_TheVariants.{Whole, Recovering, Missing}
use Rattle.sb_specs.specs.raid_types_Sectors.{Sector}
use Rattle.sb_specs.specs.raid_types_Shapes.{has_slot}
use Rattle.sb_specs.specs.bank_Given.{Given, IsFaulted, NeverFalls}
use Rattle.sb_specs.specs.bank_the_Operation.{Operation}
use Rattle.sb_specs.specs.bank_Tape.{Contents}
use Rattle.sb_specs.proofs.bank_Causes.{faulted_longer}
use Rattle.sb_specs.specs.raid_layout_Layout.{row_roles}
use Rattle.raid_parity_simd.specs.raid_parity_Parity.{fill}
use Rattle.raid_parity_simd.specs.raid_parity_Rows.{sector_of, row_without}
use Rattle.raid_parity_simd.proofs.raid_parity_Columns.{tabulate-same, bool_cases}
use Rattle.sb_specs.specs.declared.members.Members.{Members}
use Rattle.sb_specs.specs.Reading.{Reading, role_state, rows_held, holder, data_offset_of}
use Rattle.stripe_row.specs.Rows.{reading_of, is_held, held_slot, held_sector, held_row, standing_sector, role_without, members_without, present, HasSector, HaveFailed, IsLoss}
use Rattle.stripe_row.proofs.Tables.{get_or-map}

pub some_slot : (b : Bool) (x : Option ℕ) (slot : ℕ) → (if b then x else None) ≡ Some slot → x ≡ Some slot
some_slot true x slot is = is
some_slot false x slot is = absurd (cc)

-- a set that is longer has no fewer sectors to show
pub sector_kept : (c : Contents) (r : Reading) (row lost lost' : ℕ) (bytes bytes' : List ℕ) (role : ℕ) → ((s : ℕ) → has_slot lost s ≡ true → has_slot lost' s ≡ true)
    → sector_of bytes' role ≡ sector_of bytes role → HasSector c r row lost bytes role → HasSector c r row lost' bytes' role
sector_kept c r row lost lost' bytes bytes' role stay same has slot is there =
    same ∙ has slot is (elim (bool_cases (has_slot lost slot)) [ inl gone ↦ absurd (let e = stay slot gone in cc) | inr here ↦ here ])

-- one role more was tried
pub failed_more : (r : Reading) (role disks lost lost' : ℕ) (a b c : ℕ → ℕ) → role < disks → NeverFalls a b → NeverFalls b c
    → HaveFailed r disks lost a b → IsLoss r role lost lost' b c → HaveFailed r disks lost' a c
failed_more r role disks lost lost' a b c lt ab bc failed loss s gone = by_case (loss s gone)
  where
    by_case : (has_slot lost s ≡ true) ⊎ (IsFaulted s b c × (holder (role_state r role) ≡ Some s)) → IsFaulted s a c × (role : ℕ) × (role < disks) × (holder (role_state r role) ≡ Some s)
    by_case (inl before) =
        let was = failed s before in
        (faulted_longer s a a b c (omega arith) (bc s) (ab s) was.0, was.1, was.2, was.3)
    by_case (inr now) = (faulted_longer s a b c c (ab s) (omega arith) (bc s) now.0, role, lt, now.1)

-- the same sectors, where the bank is as it was
pub sector_moved : (given given' : Given) (old new : List Operation) (r : Reading) (row lost role : ℕ) (bytes : List ℕ) → given' ≡ given → new ≡ old
    → HasSector (present given' new) r row lost bytes role → HasSector (present given old) r row lost bytes role
sector_moved given given' old new r row lost role bytes same is has slot held here =
    has slot held here ∙ ap (λ (t : List Operation). present given' t slot (data_offset_of r slot + row)) is
    ∙ ap (λ (g : Given). present g old slot (data_offset_of r slot + row)) same

-- the holder of a role that is held
pub holder-of : (r : Reading) (role row slot : ℕ) → held_slot r role row ≡ Some slot → holder (role_state r role) ≡ Some slot
holder-of r role row slot is = some_slot (is_held r role row) (holder (role_state r role)) slot is

-- ---- the states afterwards

pub state_after : (members : Members) (lost role : ℕ) → role_state (reading_of (members_without lost members)) role ≡ role_without lost (role_state (reading_of members) role)
state_after members lost role = get_or-map (role_without lost) members.roles role Missing refl

-- a role that has a holder afterwards is as it was, and its holder isn't lost
pub record IsKeptBy (lost slot : ℕ) (state : Role) : Type 0 where
  pub same : role_without lost state ≡ state
  pub here : has_slot lost slot ≡ false
  pub holder : holder state ≡ Some slot

kept_by : (b : Bool) (lost s slot : ℕ) (state : Role) → has_slot lost s ≡ b → holder state ≡ Some s → role_without lost state ≡ (if b then Missing else state)
    → holder (if b then Missing else state) ≡ Some slot → IsKeptBy lost slot state
kept_by true lost s slot state bit own is held = absurd (cc)
kept_by false lost s slot state bit own is held =
    let same : s ≡ slot = cc in
    record { same = is; here = subst (λ (t : ℕ). has_slot lost t ≡ false) same bit; holder = held }

pub state_kept : (lost slot : ℕ) (state : Role) → holder (role_without lost state) ≡ Some slot → IsKeptBy lost slot state
state_kept lost slot (Whole s) held = kept_by (has_slot lost s) lost s slot (Whole s) refl refl refl held
state_kept lost slot (Recovering s) held = kept_by (has_slot lost s) lost s slot (Recovering s) refl refl refl held
state_kept lost slot Missing held = absurd (cc)

-- the slot that holds a role's row, by the state of the role
pub held_by : Reading → Role → ℕ → Option ℕ
held_by r state row = if nat_lt row (rows_held r state) then holder state else None

held_after : (r : Reading) (lost row slot : ℕ) (state : Role) → held_by r (role_without lost state) row ≡ Some slot → (held_by r state row ≡ Some slot) × (has_slot lost slot ≡ false)
unfolding held_by
held_after r lost row slot state is =
    let kept = state_kept lost slot state (some_slot (nat_lt row (rows_held r (role_without lost state))) (holder (role_without lost state)) slot is) in
    (ap (λ (s : Role). held_by r s row) (sym kept.same) ∙ is, kept.here)

-- a slot that holds a role's row afterwards did so before, and isn't lost
pub held_slot-after : (members : Members) (lost role row slot : ℕ) → held_slot (reading_of (members_without lost members)) role row ≡ Some slot
    → (held_slot (reading_of members) role row ≡ Some slot) × (has_slot lost slot ≡ false)
unfolding held_by
held_slot-after members lost role row slot is =
    held_after (reading_of members) lost row slot (role_state (reading_of members) role)
    (ap (λ (s : Role). held_by (reading_of members) s row) (sym (state_after members lost role)) ∙ is)

-- a holder afterwards was one before
pub holder-after : (members : Members) (lost role slot : ℕ) → holder (role_state (reading_of (members_without lost members)) role) ≡ Some slot
    → holder (role_state (reading_of members) role) ≡ Some slot
holder-after members lost role slot is = (state_kept lost slot (role_state (reading_of members) role) (ap holder (sym (state_after members lost role)) ∙ is)).holder

-- ---- what stands

some_holder : (r : Reading) (state : Role) (row : ℕ) → nat_lt row (rows_held r state) ≡ true → (slot : ℕ) × (holder state ≡ Some slot)
some_holder r (Whole slot) row there = (slot, refl)
some_holder r (Recovering slot) row there = (slot, refl)
some_holder r Missing row there = absurd (none row there)
  where
    none : (row : ℕ) → nat_lt row 0 ≡ true → ⊥
    none row there = grind (arith, nat_tests, there)

pub chosen : (b : Bool) (h : Option ℕ) (slot : ℕ) → b ≡ true → h ≡ Some slot → (if b then h else None) ≡ Some slot
chosen true h slot met is = is
chosen false h slot met is = absurd (cc)

found : (b : Bool) (h : Option ℕ) (f : ℕ → Sector) (other : Sector) (slot : ℕ) → b ≡ true → h ≡ Some slot → unwrap_or (if b then option_map f h else None) other ≡ f slot
found true h f other slot met is = ap (λ (x : Option ℕ). unwrap_or (option_map f x) other) is
found false h f other slot met is = absurd (cc)

filled : (b : Bool) (h : Option ℕ) (f : ℕ → Sector) (other : Sector) → b ≡ false → unwrap_or (if b then option_map f h else None) other ≡ other
filled true h f other unmet = absurd (cc)
filled false h f other unmet = refl

in_row : (b : Bool) (h : Option ℕ) (f : ℕ → Sector) (x : Sector) → (b ≡ true → (slot : ℕ) × (h ≡ Some slot) × (x ≡ f slot))
    → (if not b then None else Some x) ≡ (if b then option_map f h else None)
in_row true h f x has = let here = has refl in ap Some here.2 ∙ ap (λ (o : Option ℕ). option_map f o) (sym here.1)
in_row false h f x has = refl

module _ (c : Contents) (r : Reading) (shape : Shape) (row : ℕ) (old new : ℕ → Sector)
    (has : (role slot : ℕ) → role < shape.disks → held_slot r role row ≡ Some slot → old role ≡ c slot (data_offset_of r slot + row)) where
  there : (role : ℕ) → role < shape.disks → is_held r role row ≡ true → (slot : ℕ) × (holder (role_state r role) ≡ Some slot) × (old role ≡ c slot (data_offset_of r slot + row))
  there role lt held =
      let some = some_holder r (role_state r role) row held in
      (some.0, some.1, has role some.0 lt (chosen (is_held r role row) (holder (role_state r role)) some.0 held some.1))

  pub row_is : row_without (λ role. not (is_held r role row)) shape.disks old ≡ held_row c r shape row
  row_is = tabulate-same shape.disks (λ role. if not (is_held r role row) then None else Some (old role)) (λ role. held_sector c r role row)
      (λ role lt. in_row (is_held r role row) (holder (role_state r role)) (λ slot. c slot (data_offset_of r slot + row)) (old role) (there role lt))

  pub all_stand : ((role : ℕ) → role < shape.disks → is_held r role row ≡ true → new role ≡ old role)
      → ((role : ℕ) → role < shape.disks → is_held r role row ≡ false
      → new role ≡ fill (row_roles shape row) (row_without (λ other. not (is_held r other row)) shape.disks old) role)
      → (role : ℕ) → role < shape.disks → new role ≡ standing_sector c r shape row role
  all_stand kept lacking role lt = elim (bool_cases (is_held r role row)) [
    | inl held ↦
        let here = there role lt held in
        kept role lt held ∙ here.2
        ∙ sym (found (is_held r role row) (holder (role_state r role)) (λ slot. c slot (data_offset_of r slot + row)) (fill (row_roles shape row) (held_row c r shape row) role) here.0 held here.1)
    | inr lacks ↦
        lacking role lt lacks ∙ ap (λ row'. fill (row_roles shape row) row' role) row_is
        ∙ sym (filled (is_held r role row) (holder (role_state r role)) (λ slot. c slot (data_offset_of r slot + row)) (fill (row_roles shape row) (held_row c r shape row) role) lacks)
  ]

-- the row that was read, and filled
pub row_read : (members m : Members) (lost : ℕ) → m ≡ members_without lost members → (c : Contents) (shape : Shape) (row : ℕ) (old new : List ℕ)
    → ((role : ℕ) → role < shape.disks → HasSector c (reading_of members) row lost old role)
    → ((role : ℕ) → role < shape.disks → is_held (reading_of m) role row ≡ true → sector_of new role ≡ sector_of old role)
    → ((role : ℕ) → role < shape.disks → is_held (reading_of m) role row ≡ false
    → sector_of new role ≡ fill (row_roles shape row) (row_without (λ other. not (is_held (reading_of m) other row)) shape.disks (sector_of old)) role)
    → (role : ℕ) → role < shape.disks → sector_of new role ≡ standing_sector c (reading_of m) shape row role
row_read members m lost is_without c shape row old new has kept lacking = all_stand c (reading_of m) shape row (sector_of old) (sector_of new) (subst (λ (m' : Members). (role slot : ℕ) → role < shape.disks → held_slot (reading_of m') role row ≡ Some slot → sector_of old role ≡ c slot (data_offset_of (reading_of m') slot + row)) (sym is_without) own) kept lacking
  where
    own : (role slot : ℕ) → role < shape.disks → held_slot (reading_of (members_without lost members)) role row ≡ Some slot
        → sector_of old role ≡ c slot (data_offset_of (reading_of (members_without lost members)) slot + row)
    own role slot lt is = let before = held_slot-after members lost role row slot is in has role lt slot before.0 before.1

-- no slot beyond the first 32 holds a role afterwards
pub small_after : (members m : Members) (lost : ℕ) → m ≡ members_without lost members
    → ((role slot : ℕ) → holder (role_state (reading_of members) role) ≡ Some slot → slot < 32)
    → (role slot : ℕ) → holder (role_state (reading_of m) role) ≡ Some slot → slot < 32
small_after members m lost is_without small role slot is =
    small role slot (holder-after members lost role slot (subst (λ (m' : Members). holder (role_state (reading_of m') role) ≡ Some slot) is_without is))
