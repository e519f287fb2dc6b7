-- What stands once a run of rows was written.
use Rattle.std.proofs.Common.{◌≡◌, ℕ, ◌+◌, ◌<◌, Bool, true, false, not, ◌||◌, if◌then◌else◌, List, Some, inl, inr, refl, sym, ◌∙◌, ap, subst, arith}
use Rattle.std.specs.Prelude.{slice_index}
use Rattle.raid_layout.specs.raid_types_the_Shape.{Shape}
use Rattle.raid_layout.specs.raid_types_Sectors.{Sector}
use Rattle.raid_layout.specs.raid_types_Shapes.{has_slot}
use Rattle.raid_layout.specs.Layout.{row_roles}
use Rattle.raid_parity_simd.specs.Buffers.{buffered}
use Rattle.stripe_row.specs.bank_Given.{Given}
use Rattle.stripe_row.specs.bank_the_Operation.{Operation}
use Rattle.stripe_row.specs.bank_Tape.{Contents, disk}
use Rattle.stripe_row.specs.raid_parity_Parity.{Row, fill, AreEquationsMet}
use Rattle.stripe_row.specs.raid_parity_Rows.{row_without}
use Rattle.stripe_row.specs.raid_parity_Fills.{IsGoodBut}
use Rattle.stripe_row.proofs.raid_parity_Columns.{bool_cases}
use Rattle.stripe_row.proofs.raid_parity_OwnFills.{fills-are-own, good-rows-stay-good}
use Rattle.stripe_row.specs.sb_specs_the_Members.{Members}
use Rattle.stripe_row.specs.sb_specs_Reading.{Reading, role_state, holder, data_offset_of}
use Rattle.stripe_row.specs.Rows.{present, reading_of, is_held, held_slot, members_without, IsTolerated}
use Rattle.stripe_row.specs.Writes.{is_parity, AreApart, IsGoodRow}
use Rattle.stripe_row.proofs.Losses.{holder-of, held_slot-after, row_is, all_stand}
use Rattle.stripe_row.proofs.NewRow.{lacking_few}
use Rattle.stripe_row.proofs.Written.{IsRowWritten, present-is, present-same}
use Rattle.stripe_runs.specs.declared.runs.Run.{Run}
use Rattle.stripe_runs.specs.Writing.{IsNewSector, is_due_in, new_buffered, IsWritingRun, IsRunWritten, OthersStandIn}
use Rattle.stripe_runs.proofs.GainLaws.{gained_not}

both_false : (a b : Bool) → (a || b) ≡ false → b ≡ false
both_false true b none = absurd (cc)
both_false false b none = none

-- a good row of which no more roles are missing than tolerated, and whose other roles stand
row_stands : (c : Contents) (r : Reading) (shape : Shape) (row : ℕ) (sectors : ℕ → Sector) → IsGoodRow (row_roles shape row) sectors → row < r.newest.size → IsTolerated r shape
    → ((role slot : ℕ) → role < shape.disks → held_slot r role row ≡ Some slot → sectors role ≡ c slot (data_offset_of r slot + row)) → IsRowWritten c r shape row sectors
row_stands c r shape row sectors is below few has =
    let but : IsGoodBut (row_roles shape row) sectors (λ role. not (is_held r role row)) =
    record { valid = is.valid; whole = is.whole; good = is.good; tolerated = lacking_few r shape row sectors below few } in
    record {
      good = subst (λ (w : Row). AreEquationsMet (row_roles shape row) w) (row_is c r shape row sectors sectors has) (good-rows-stay-good (row_roles shape row) sectors (λ role. not (is_held r role row)) but);
      sectors = λ role lt. sym (all_stand c r shape row sectors sectors has (λ other l held. refl)
          (λ other l lacks. sym (fills-are-own (row_roles shape row) sectors (λ role. not (is_held r role row)) other but l)) role lt);
    }

module _ (members : Members) (lost : ℕ) (given : Given) (old new : List Operation) (shape : Shape) (run : Run) (changed buffer : List ℕ) (apart : AreApart (reading_of members))
    (others : OthersStandIn (present given old) (reading_of members) shape run changed buffer)
    (writing : IsWritingRun (reading_of members) shape run changed buffer (disk given.start old) (disk given.start new))
    (written : IsRunWritten (reading_of members) shape run changed buffer lost (disk given.start old) (disk given.start new)) (j : ℕ) (among : j < run.count) where
  -- the place of a role that isn't due is as it was
  kept_here : (role slot : ℕ) → is_due_in shape run changed j role ≡ false → holder (role_state (reading_of members) role) ≡ Some slot
      → present given new slot (data_offset_of (reading_of members) slot + (run.row + j)) ≡ present given old slot (data_offset_of (reading_of members) slot + (run.row + j))
  kept_here role slot kept held =
      present-same given old new slot (data_offset_of (reading_of members) slot + (run.row + j))
      (gained_not (IsNewSector (reading_of members) 0 shape.disks run.row run.count (is_due_in shape run changed) (new_buffered shape run buffer)) (disk given.start old) (disk given.start new) slot
      (data_offset_of (reading_of members) slot + (run.row + j)) none writing)
    where
      none : (v : Sector) → IsNewSector (reading_of members) 0 shape.disks run.row run.count (is_due_in shape run changed) (new_buffered shape run buffer) slot
          (data_offset_of (reading_of members) slot + (run.row + j)) v → ⊥
      none v p =
          let place = p.place in
          let row : p.j ≡ j = omega (arith, place) in
          let role' : p.role ≡ role = apart p.role role slot p.held held in
          let due = subst (λ (i : ℕ). is_due_in shape run changed i role ≡ true) row (subst (λ (r : ℕ). is_due_in shape run changed p.j r ≡ true) role' p.is_written) in
          absurd (cc)

  -- each role whose slot holds it afterwards has its sector of the new row there
  has_new : (role slot : ℕ) → role < shape.disks → held_slot (reading_of (members_without lost members)) role (run.row + j) ≡ Some slot
      → new_buffered shape run buffer j role ≡ present given new slot (data_offset_of (reading_of (members_without lost members)) slot + (run.row + j))
  has_new role slot lt held_after =
      let r = reading_of members in
      let before = held_slot-after members lost role (run.row + j) slot held_after in
      let held = holder-of r role (run.row + j) slot before.0 in
      elim (bool_cases (is_due_in shape run changed j role)) [
        | inl due ↦ sym (present-is given new slot (data_offset_of r slot + (run.row + j)) (new_buffered shape run buffer j role) (disk given.start old slot (data_offset_of r slot + (run.row + j)))
            (written role j slot (omega arith) lt among due held before.1))
        | inr kept ↦
            let roles = row_roles shape (run.row + j) in
            let sectors = buffered buffer (run.at + j) in
            let plain : new_buffered shape run buffer j role ≡ sectors role =
            ap (λ (b : Bool). if b then fill roles (row_without (is_parity roles) shape.disks sectors) role else sectors role) (both_false (has_slot (slice_index changed (run.at + j)) role) (is_parity roles role) kept) in
            plain ∙ others role j slot lt among kept before.0 ∙ sym (kept_here role slot kept held)
      ]

pub run_stands : (members m : Members) (lost : ℕ) (given given' : Given) (old new : List Operation) (shape : Shape) (run : Run) (changed buffer : List ℕ) → m ≡ members_without lost members → given' ≡ given
    → AreApart (reading_of members) → OthersStandIn (present given old) (reading_of members) shape run changed buffer
    → IsWritingRun (reading_of members) shape run changed buffer (disk given.start old) (disk given.start new)
    → IsRunWritten (reading_of members) shape run changed buffer lost (disk given.start old) (disk given.start new)
    → IsTolerated (reading_of m) shape → (j : ℕ) → j < run.count → IsGoodRow (row_roles shape (run.row + j)) (new_buffered shape run buffer j) → run.row + j < members.newest.size
    → IsRowWritten (present given' new) (reading_of m) shape (run.row + j) (new_buffered shape run buffer j)
run_stands members m lost given given' old new shape run changed buffer is same apart others writing written few j among good below =
    subst (λ (g : Given). IsRowWritten (present g new) (reading_of m) shape (run.row + j) (new_buffered shape run buffer j)) (sym same)
    (subst (λ (n : Members). IsRowWritten (present given new) (reading_of n) shape (run.row + j) (new_buffered shape run buffer j)) (sym is)
    (row_stands (present given new) (reading_of (members_without lost members)) shape (run.row + j) (new_buffered shape run buffer j) good below
    (subst (λ (n : Members). IsTolerated (reading_of n) shape) is few)
    (has_new members lost given old new shape run changed buffer apart others writing written j among)))
