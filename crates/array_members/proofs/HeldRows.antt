-- The rows that slots hold of roles: of whole ones all, of recovering ones the first.
use Rattle.std.proofs.Common.{◌≡◌, ◌⊎◌, inl, inr, ℕ, ◌+◌, ◌<◌, ◌≤◌, Bool, true, false, not, cond, nat_lt, List, get_or, Option, Some, None, is_some, option_map, refl, sym, ◌∙◌, ap, ap₂, subst, arith}
use Rattle.std.specs.Option.{option_map_or}
use Rattle.std.proofs.lemmas.Bool.Decides.{nat_tests}
use Rattle.crash_role_laws.specs.raid_types_the_Role.{Role}
use Rattle.crash_role_laws.specs.raid_types_the_Role_TheVariants.{Whole, Recovering, Missing}
use Rattle.crash_role_laws.specs.raid_types_Sectors.{Sector}
use Rattle.crash_role_laws.specs.raid_types_the_Shape.{Shape}
use Rattle.crash_role_laws.specs.bank_Given.{Given}
use Rattle.crash_role_laws.specs.bank_Tape.{Contents}
use Rattle.crash_role_laws.specs.sb_specs_the_Members.{Members}
use Rattle.crash_role_laws.specs.sb_specs_Reading.{Reading, shape_of, is_reshaping, is_whole, role_state, rows_held, holder, own_of, data_offset_of, final_shape}
use Rattle.crash_role_laws.specs.stripe_row_Rows.{reading_of, is_held, is_missing, held_slot, held_sector, role_without, missing_count}
use Rattle.crash_role_laws.proofs.stripe_row_Losses.{holder-of, state_kept}
use Rattle.crash_role_laws.proofs.stripe_row_Tables.{get_or-map}
use Rattle.array_members.specs.Placed.{is_unassigned, AreLess}
use Rattle.array_members.specs.Moving.{IsMoved}
use Rattle.array_members.specs.Lacking.{DoesWithout}
use Rattle.array_members.proofs.Counts.{count-implied}
use Rattle.crash_role_laws.specs.crash_views_Regions.{DoWithout}

-- ---- by the state of the role

-- the recovery offset in a slot's superblock
abbrev pub recovered_of : Reading → ℕ → ℕ
recovered_of r slot = option_map_or (λ sb. sb.recovery_offset) (own_of r slot) 0

-- each state has as many rows where the superblocks say so
pub rows-same : (a b : Reading) → is_reshaping a.newest ≡ is_reshaping b.newest → a.newest.size ≡ b.newest.size → ((slot : ℕ) → recovered_of a slot ≡ recovered_of b slot)
    → (state : Role) → rows_held a state ≡ rows_held b state
rows-same a b still size own (Whole slot) = size
rows-same a b still size own (Recovering slot) = ap₂ (λ (active : Bool) (n : ℕ). cond active 0 n) still (own slot)
rows-same a b still size own Missing = refl

-- the slot that holds a row of a role in this state
abbrev held_as : Reading → Role → ℕ → Option ℕ
held_as r state row = cond (nat_lt row (rows_held r state)) (holder state) None

-- a slot holds the row, or none does
held-or : (r : Reading) (state : Role) (row : ℕ) → ((slot : ℕ) × (held_as r state row ≡ Some slot)) ⊎ (nat_lt row (rows_held r state) ≡ false)
held-or r state row = of state
  where
    either : (b : Bool) (slot : ℕ) → ((s : ℕ) × (cond b (Some slot) None ≡ Some s)) ⊎ (b ≡ false)
    either true slot = inl (slot, refl)
    either false slot = inr refl

    none : (n : ℕ) → nat_lt n 0 ≡ false
    none n = grind (arith, nat_tests)

    of : (state : Role) → ((slot : ℕ) × (held_as r state row ≡ Some slot)) ⊎ (nat_lt row (rows_held r state) ≡ false)
    of (Whole slot) = either (nat_lt row (rows_held r (Whole slot))) slot
    of (Recovering slot) = either (nat_lt row (rows_held r (Recovering slot))) slot
    of Missing = inr (none row)

pub held-or-lacking : (r : Reading) (role row : ℕ) → ((slot : ℕ) × (held_slot r role row ≡ Some slot)) ⊎ (is_held r role row ≡ false)
held-or-lacking r role row = held-or r (role_state r role) row

whole-as : (r : Reading) (state : Role) (row slot : ℕ) → not (is_whole state) ≡ false → holder state ≡ Some slot → row < r.newest.size → held_as r state row ≡ Some slot
whole-as r (Whole s) row slot whole held lt = ap (λ (b : Bool). cond b (Some s) None) (within row r.newest.size lt) ∙ held
  where
    within : (a b : ℕ) → a < b → nat_lt a b ≡ true
    within a b lt = grind (arith, nat_tests, lt)
whole-as r (Recovering s) row slot whole held lt = absurd (cc)
whole-as r Missing row slot whole held lt = absurd (cc)

-- the holder of a whole role has each row
pub whole-held : (r : Reading) (role row slot : ℕ) → is_missing r role ≡ false → holder (role_state r role) ≡ Some slot → row < r.newest.size → held_slot r role row ≡ Some slot
whole-held r role row slot whole held lt = whole-as r (role_state r role) row slot whole held lt

-- the sector that a slot holds
pub sector-held : (c : Contents) (r : Reading) (role row slot : ℕ) → held_slot r role row ≡ Some slot → held_sector c r role row ≡ Some (c slot (data_offset_of r slot + row))
sector-held c r role row slot held = of (is_held r role row) (holder (role_state r role)) held
  where
    of : (b : Bool) (h : Option ℕ) → cond b h None ≡ Some slot → ◌≡◌ {A = Option Sector} (cond b (option_map (λ slot. c slot (data_offset_of r slot + row)) h) None) (Some (c slot (data_offset_of r slot + row)))
    of true h is = ap (λ (o : Option ℕ). option_map (λ slot. c slot (data_offset_of r slot + row)) o) is
    of false h is = absurd (cc)

-- ---- in the same array later

-- a row that is held of a role that is as it was
held-by : (a b : Reading) (role row slot : ℕ) → role_state a role ≡ role_state b role → rows_held a (role_state b role) ≡ rows_held b (role_state b role)
    → held_slot a role row ≡ Some slot → held_slot b role row ≡ Some slot
held-by a b role row slot state rows held =
    sym (ap (λ (n : ℕ). cond (nat_lt row n) (holder (role_state b role)) None) rows) ∙ sym (ap (λ (s : Role). held_as a s row) state) ∙ held

-- a role that still has its slot is as it was
pub state-less : (lost : ℕ) (old new : Members) → AreLess lost old new → (role slot : ℕ) → holder (role_state (reading_of new) role) ≡ Some slot
    → role_state (reading_of new) role ≡ role_state (reading_of old) role
state-less lost old new less role slot held =
    let without : role_state (reading_of new) role ≡ role_without lost (role_state (reading_of old) role) =
    ap (λ (l : List Role). get_or l role Missing) less.roles ∙ get_or-map (role_without lost) old.roles role Missing refl in
    without ∙ (state_kept lost slot (role_state (reading_of old) role) (ap holder (sym without) ∙ held)).same

-- and a row that its slot holds was held before
pub held-less : (lost : ℕ) (old new : Members) → AreLess lost old new → (role row slot : ℕ) → held_slot (reading_of new) role row ≡ Some slot → held_slot (reading_of old) role row ≡ Some slot
held-less lost old new less role row slot held =
    held-by (reading_of new) (reading_of old) role row slot (state-less lost old new less role slot (holder-of (reading_of new) role row slot held)) (less.rows (role_state (reading_of old) role)) held

pub held-moved : {given : Given} {old new : Members} → IsMoved given old new → (role row slot : ℕ) → held_slot (reading_of new) role row ≡ Some slot → held_slot (reading_of old) role row ≡ Some slot
held-moved {old = old} {new = new} moved role row slot held =
    let same = moved.states role slot (holder-of (reading_of new) role row slot held) in
    held-by (reading_of new) (reading_of old) role row slot same (subst (λ (s : Role). rows_held (reading_of new) s ≡ rows_held (reading_of old) s) same (moved.rows role)) held

-- a role that was missing is missing
pub missing-moved : {given : Given} {old new : Members} → IsMoved given old new → (role : ℕ) → is_missing (reading_of old) role ≡ true → is_missing (reading_of new) role ≡ true
missing-moved {old = old} {new = new} moved role gone = by (role_state (reading_of new) role) refl
  where
    by : (state : Role) → role_state (reading_of new) role ≡ state → is_missing (reading_of new) role ≡ true
    by (Whole slot) is = ap (λ (s : Role). not (is_whole s)) (moved.states role slot (ap holder is)) ∙ gone
    by (Recovering slot) is = ap (λ (s : Role). not (is_whole s)) is
    by Missing is = ap (λ (s : Role). not (is_whole s)) is

-- one that is missing was so, unless no slot holds it
pub missing-before : {given : Given} {old new : Members} → IsMoved given old new → (role : ℕ) → is_missing (reading_of new) role ≡ true
    → (is_missing (reading_of old) role ≡ true) ⊎ (is_unassigned (reading_of new) role ≡ true)
missing-before {old = old} {new = new} moved role gone = by (role_state (reading_of new) role) refl
  where
    by : (state : Role) → role_state (reading_of new) role ≡ state → (is_missing (reading_of old) role ≡ true) ⊎ (is_unassigned (reading_of new) role ≡ true)
    by (Whole slot) is = absurd (let e = sym (ap (λ (s : Role). not (is_whole s)) is) ∙ gone in cc)
    by (Recovering slot) is = inl (ap (λ (s : Role). not (is_whole s)) (sym (moved.states role slot (ap holder is))) ∙ gone)
    by Missing is = inr (ap (λ (s : Role). not (is_some (holder s))) is)

-- ---- roles that no slot holds

pub vacant-missing : (r : Reading) (role : ℕ) → is_unassigned r role ≡ true → is_missing r role ≡ true
vacant-missing r role none = of (role_state r role) none
  where
    of : (state : Role) → not (is_some (holder state)) ≡ true → not (is_whole state) ≡ true
    of (Whole slot) e = absurd (cc)
    of (Recovering slot) e = refl
    of Missing e = refl

-- one that had no slot has none
pub vacant-moved : {given : Given} {old new : Members} → IsMoved given old new → (role : ℕ) → is_unassigned (reading_of old) role ≡ true → is_unassigned (reading_of new) role ≡ true
vacant-moved {old = old} {new = new} moved role none = by (holder (role_state (reading_of new) role)) refl
  where
    by : (held : Option ℕ) → holder (role_state (reading_of new) role) ≡ held → is_unassigned (reading_of new) role ≡ true
    by (Some slot) is = absurd (let e = sym (ap (λ (h : Option ℕ). not (is_some h)) (moved.held role slot is)) ∙ none in cc)
    by None is = ap (λ (h : Option ℕ). not (is_some h)) is

-- an array that does without those that are missing did so before: of one shape, or of both
pub shape-without-before : (given : Given) (old new : Members) → IsMoved given old new → (shape : Shape) → DoesWithout shape new → DoesWithout shape old
shape-without-before given old new moved shape does =
    let more : missing_count (reading_of old) shape ≤ missing_count (reading_of new) shape =
    count-implied shape.disks (is_missing (reading_of old)) (is_missing (reading_of new)) (λ role lt missing. missing-moved moved role missing) in
    omega (arith, more, does)

pub without-before : (given : Given) (old new : Members) → IsMoved given old new → DoWithout new → DoWithout old
without-before given old new moved does = record {
  old = shape-without-before given old new moved (shape_of old.newest) (subst (λ (s : Shape). DoesWithout s new) moved.shape does.old);
  final = shape-without-before given old new moved (final_shape old.newest) (subst (λ (s : Shape). DoesWithout s new) moved.reshape.final does.final);
}
