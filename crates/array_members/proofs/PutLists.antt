-- The list of an array of one shape behind a write of some of its rows: those were put, and the others are as they were.
use Rattle.std.proofs.Common.{◌≡◌, ◌⊎◌, inl, inr, ℕ, zero, suc, ◌+◌, ◌*◌, ◌/◌, ◌<◌, ◌≤◌, ◌==◌, Bool, true, false, List, length, Some, refl, sym, ◌∙◌, ap, subst, arith, eq-eqb, eqb-true}
use Rattle.std.proofs.lemmas.Bool.{cases_lt}
use Rattle.crash_role_laws.specs.raid_types_Sectors.{Sector}
use Rattle.crash_role_laws.specs.raid_types_the_Shape.{Shape}
use Rattle.crash_role_laws.specs.raid_types_the_Role_TheVariants.{Recovering}
use Rattle.crash_role_laws.specs.bank_Given.{Given}
use Rattle.crash_role_laws.specs.bank_Tape.{Contents}
use Rattle.crash_role_laws.specs.raid_layout_Layout.{place}
use Rattle.crash_role_laws.specs.sb_specs_the_Members.{Members}
use Rattle.crash_role_laws.specs.sb_specs_Reading.{shape_of, role_state, holder, data_offset_of}
use Rattle.crash_role_laws.specs.stripe_row_Rows.{reading_of}
use Rattle.crash_role_laws.proofs.stripe_row_Losses.{holder-of}
use Rattle.crash_role_laws.specs.stripe_list_Full.{full_sector, DataStands, RowStands}
use Rattle.crash_role_laws.specs.stripe_list_Buffers.{IsTouched}
use Rattle.crash_role_laws.specs.stripe_list_Writing.{IsWritten, HasFull}
use Rattle.crash_role_laws.proofs.stripe_list_FullLaws.{full-same}
use Rattle.crash_role_laws.specs.raid_parity_Rows.{IsSector}
use Rattle.array_members.specs.Placed.{IsPlaced}
use Rattle.array_members.specs.Moving.{IsMoved}
use Rattle.array_members.specs.Lacking.{ListStands, DataStandsAmong, AreOtherRowsKept, IsOfStripe}
use Rattle.array_members.proofs.Fit.{valid}
use Rattle.array_members.proofs.HeldRows.{held-moved}

-- ---- whether a row is among some

pub touched-or-not : (shape : Shape) (first count row : ℕ) → IsTouched shape first count row ⊎ (IsTouched shape first count row → ⊥)
touched-or-not shape first count row = go count
  where
    -- of the first n sectors
    go : (n : ℕ) → IsTouched shape first n row ⊎ (IsTouched shape first n row → ⊥)
    go zero = inr (λ at. let low = at.1 in let high = at.2 in omega (arith, low, high))
    go (suc n) = by (go n) ((place shape (first + n)).row == row) refl
      where
        by : IsTouched shape first n row ⊎ (IsTouched shape first n row → ⊥) → (b : Bool) → ((place shape (first + n)).row == row) ≡ b → IsTouched shape first (suc n) row ⊎ (IsTouched shape first (suc n) row → ⊥)
        by (inl at) b is = inl (at.0, at.1, (let high = at.2 in omega (arith, high)), at.3)
        by (inr none) true is = inl (first + n, omega arith, omega arith, eqb-true (place shape (first + n)).row row is)
        by (inr none) false is = inr (λ at. elim (cases_lt at.0 (first + n)) [
          | inl less ↦ none (at.0, at.1, less, at.3)
          | inr more ↦ absurd (
              let same : at.0 ≡ first + n = (let high = at.2 in omega (arith, more, high)) in
              let here : (place shape (first + n)).row ≡ row = subst (λ (x : ℕ). (place shape x).row ≡ row) same at.3 in
              let clash : true ≡ false = sym (eq-eqb (place shape (first + n)).row row here) ∙ is in cc
              )
        ])

pub stripe-or-not : (shape : Shape) (stripe row : ℕ) → IsOfStripe shape stripe row ⊎ (IsOfStripe shape stripe row → ⊥)
stripe-or-not shape stripe row = elim (cases_lt row (stripe * shape.chunk)) [
  | inl low ↦ inr (λ at. let high = at.0 in omega (arith, low, high))
  | inr from ↦ elim (cases_lt row ((stripe + 1) * shape.chunk)) [
    | inl low ↦ inl (from, low)
    | inr out ↦ inr (λ at. let high = at.1 in omega (arith, out, high))
  ]
]

-- a sector of a row that a write doesn't touch is as it was
pub untouched-same : (shape : Shape) (first count : ℕ) (from : List ℕ) → length from / 512 ≤ count → (list list' : ℕ → Sector) → IsWritten list list' first from
    → (row : ℕ) → (IsTouched shape first count row → ⊥) → (x : ℕ) → (place shape x).row ≡ row → list' x ≡ list x
untouched-same shape first count from fits list list' write row none x at = elim (cases_lt x first) [
  | inl low ↦ write.other x (inl low)
  | inr from_first ↦ elim (cases_lt x (first + length from / 512)) [
    | inl inside ↦ absurd (none (x, from_first, omega (arith, inside, fits), at))
    | inr high ↦ write.other x (inr high)
  ]
]

-- ---- behind the write

module _ (given : Given) (old new : Members) (moved : IsMoved given old new) (was : IsPlaced given old) (before after : Contents)
    (among : ℕ → Type 0) (which : (row : ℕ) → among row ⊎ (among row → ⊥)) (others : AreOtherRowsKept among (reading_of new) before after) (list list' : ℕ → Sector)
    (same : (row : ℕ) → (among row → ⊥) → (x : ℕ) → (place (shape_of old.newest) x).row ≡ row → list' x ≡ list x) where
  -- what a slot holds of such a row
  there : (row role slot : ℕ) → (among row → ⊥) → holder (role_state (reading_of new) role) ≡ Some slot → after slot (data_offset_of (reading_of new) slot + row) ≡ before slot (data_offset_of (reading_of old) slot + row)
  there row role slot none holds = others row none role slot holds ∙ ap (λ (n : ℕ). before slot (n + row)) (moved.offsets slot)

  full-there : (row role : ℕ) → (among row → ⊥) → role < (shape_of old.newest).disks → full_sector (shape_of old.newest) list row role ≡ full_sector (shape_of old.newest) list' row role
  full-there row role none lt = full-same (shape_of old.newest) list list' row (valid given old was) (same row none) role lt

  -- the list stands
  pub list-put : ListStands old before list → DataStandsAmong (shape_of old.newest) among new after list' → ListStands new after list'
  list-put stands put row below = subst (λ (s : Shape). DataStands (reading_of new) after s list' row) (sym moved.shape) (of (which row))
    where
      of : among row ⊎ (among row → ⊥) → DataStands (reading_of new) after (shape_of old.newest) list' row
      of (inl has) = put row has below
      of (inr none) = λ role slot lt here held.
          there row role slot none (holder-of (reading_of new) role row slot held)
          ∙ stands row (subst (λ (n : ℕ). row < n) moved.size below) role slot lt here (held-moved moved role row slot held)
          ∙ full-there row role none lt

  -- and so does a row that isn't among those
  pub row-put : (row : ℕ) → (among row → ⊥) → ((x : ℕ) → (place (shape_of old.newest) x).row ≡ row → list' x ≡ list x) → RowStands (reading_of old) before (shape_of old.newest) list row
      → RowStands (reading_of new) after (shape_of old.newest) list' row
  row-put row none alike stands = record {
    whole = λ x at. subst IsSector (sym (alike x at)) (stands.whole x at);
    sectors = λ role slot lt here held. there row role slot none (holder-of (reading_of new) role row slot held) ∙ stands.sectors role slot lt here (held-moved moved role row slot held) ∙ full-there row role none lt;
    parity = λ role slot lt here held. there row role slot none (holder-of (reading_of new) role row slot held) ∙ stands.parity role slot lt here (held-moved moved role row slot held) ∙ full-there row role none lt;
  }

  -- what was rebuilt of it stays so
  pub rebuilt-put : (role slot row : ℕ) → (among row → ⊥) → role < (shape_of old.newest).disks → role_state (reading_of new) role ≡ Recovering slot → HasFull (reading_of old) before (shape_of old.newest) list row role slot
      → HasFull (reading_of new) after (shape_of old.newest) list' row role slot
  rebuilt-put role slot row none lt is full = there row role slot none (ap holder is) ∙ full ∙ full-there row role none lt
