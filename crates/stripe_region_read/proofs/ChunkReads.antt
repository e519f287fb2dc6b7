-- Sectors of the list that stand on one role, in rows one behind the other: those of a chunk, and what one call reads of them.
use Rattle.std.proofs.Common.{◌≡◌, ℕ, ◌+◌, ◌-◌, ◌*◌, ◌/◌, ◌%◌, ◌<◌, ◌≤◌, nat_lt, Bool, true, if◌then◌else◌, List, length, Some, None, refl, sym, ◌∙◌, ap, subst, arith}
use Rattle.std.proofs.lemmas.Bool.Decides.{nat_tests}
use Rattle.std.proofs.lemmas.Nat.{div-add-mod'}
use Rattle.stripe_io.specs.raid_types_Sectors.{Sector}
use Rattle.stripe_io.specs.raid_types_Shapes.{is_valid_shape, is_multiple, data_disks}
use Rattle.stripe_io.specs.raid_types_the_Place.{Place}
use Rattle.stripe_io.specs.raid_types_the_Shape.{Shape}
use Rattle.stripe_io.specs.raid_types_the_Role.{Role}
use Rattle.stripe_io.specs.raid_types_the_Role_TheVariants.{Whole}
use Rattle.stripe_io.specs.bank_Tape.{Contents, AreSectors}
use Rattle.stripe_io.specs.raid_layout_Layout.{place, stripe_of, data_index, stripe_data}
use Rattle.stripe_io.proofs.raid_layout_Places.{data_index-below, sector_at, sector_at-parts, place-sector, place-row_below}
use Rattle.stripe_io.specs.raid_parity_Rows.{sector_of}
use Rattle.stripe_io.specs.sb_specs_the_Members.{Members}
use Rattle.stripe_io.specs.sb_specs_Reading.{role_state, rows_held, holder, data_offset_of}
use Rattle.stripe_io.specs.stripe_row_Rows.{reading_of, held_slot}
use Rattle.stripe_io.specs.stripe_list_Full.{DataStands}
use Rattle.stripe_io.proofs.crash_views_Stands.{data-at}
use Rattle.stripe_region_read.specs.Stretches.{IsOneRun}
use Rattle.stripe_region_read.proofs.StretchReads.{plain}

-- from a sector on, those of its chunk stand so
pub chunk-run : (shape : Shape) → is_valid_shape shape ≡ true → (x end : ℕ) → end ≤ x / shape.chunk * shape.chunk + shape.chunk → IsOneRun shape x (end - x)
chunk-run shape valid x end within i lt =
    let parts = div-add-mod' x shape.chunk in
    let inside : x % shape.chunk + i < shape.chunk = omega (arith, parts, within, lt) in
    let sum = sector_at-parts shape x in
    let same : sector_at shape (stripe_of shape x) (data_index shape x) (x % shape.chunk + i) ≡ x + i = omega (arith, sum) in
    let at : place shape (x + i) ≡ record { role = stripe_data shape (stripe_of shape x) (data_index shape x); row = stripe_of shape x * shape.chunk + (x % shape.chunk + i) } =
    ap (place shape) (sym same) ∙ place-sector shape (stripe_of shape x) (data_index shape x) (x % shape.chunk + i) (data_index-below shape valid x) inside in
    (ap (λ (p : Place). p.role) at, ap (λ (p : Place). p.row) at ∙ omega arith)

lt-is : (a b : ℕ) → a < b → nat_lt a b ≡ true
lt-is a b lt = grind (arith, nat_tests, lt)

-- a slot that has a role whole holds each of its rows
held-whole : (m : Members) (role slot row : ℕ) → role_state (reading_of m) role ≡ Whole slot → row < m.newest.size → held_slot (reading_of m) role row ≡ Some slot
held-whole m role slot row is low =
    ap (λ (state : Role). if nat_lt row (rows_held (reading_of m) state) then holder state else None) is
    ∙ ap (λ (b : Bool). if b then Some slot else None) (lt-is row m.newest.size low)

-- what it gives of them is the list's, where that stands
module _ (m : Members) (c : Contents) (shape : Shape) (valid : is_valid_shape shape ≡ true) (multiple : is_multiple m.newest.size shape.chunk ≡ true) (first count : ℕ)
    (within : first + count ≤ data_disks shape * m.newest.size) (run : IsOneRun shape first count) (slot : ℕ) (is : role_state (reading_of m) (place shape first).role ≡ Whole slot)
    (bytes : List ℕ) (long : length bytes / 512 ≡ count) (read : AreSectors (c slot) (data_offset_of (reading_of m) slot + (place shape first).row) bytes) where
  pub run-listed : (list : ℕ → Sector) (i : ℕ) → i < count → DataStands (reading_of m) c shape list (place shape (first + i)).row → sector_of bytes i ≡ list (first + i)
  run-listed list i lt stands =
      let one = run i lt in
      let row = one.1 in
      let low : (place shape (first + i)).row < m.newest.size = place-row_below shape valid (first + i) m.newest.size multiple (omega (arith, within, lt)) in
      let held : held_slot (reading_of m) (place shape (first + i)).role (place shape (first + i)).row ≡ Some slot =
      subst (λ (r : ℕ). held_slot (reading_of m) r (place shape (first + i)).row ≡ Some slot) (sym one.0) (held-whole m (place shape first).role slot (place shape (first + i)).row is low) in
      plain bytes i
      ∙ read i (omega (arith, lt, long))
      ∙ ap (c slot) (omega (arith, row))
      ∙ data-at m c list shape valid (place shape (first + i)).row stands (first + i) refl slot held

-- the rows of such a run lie within the members'
pub run-within : (shape : Shape) → is_valid_shape shape ≡ true → (size first count : ℕ) → is_multiple size shape.chunk ≡ true → 0 < count → first + count ≤ data_disks shape * size → IsOneRun shape first count
    → (place shape first).row + count ≤ size
run-within shape valid size first count multiple some within run =
    let last = place-row_below shape valid (first + (count - 1)) size multiple (omega (arith, some, within)) in
    let row = (run (count - 1) (omega (arith, some))).1 in
    omega (arith, last, row, some)
