-- Which sectors of the list have their places in the first so many rows, and which rows the sectors of a stripe's first chunk touch.
use Rattle.std.proofs.Common.{◌≡◌, inl, inr, ℕ, ◌+◌, ◌-◌, ◌*◌, ◌/◌, ◌<◌, ◌≤◌, true, eq-eqb, eqb-true, refl, sym, ◌∙◌, ap, subst, arith}
use Rattle.std.proofs.lemmas.Bool.{cases_lt}
use Rattle.std.proofs.lemmas.Nat.{div-mul-add, mul-le}
use Rattle.crash_role_laws.specs.raid_types_the_Shape.{Shape}
use Rattle.crash_role_laws.specs.raid_types_the_Place.{Place}
use Rattle.crash_role_laws.specs.raid_types_Shapes.{is_valid_shape, is_multiple, data_disks}
use Rattle.crash_role_laws.specs.raid_layout_Layout.{place}
use Rattle.crash_role_laws.proofs.raid_layout_Places.{chunk_some, data_some, place-sector, place-row_below, place-sector_below}
use Rattle.crash_role_laws.specs.stripe_list_Buffers.{IsTouched}

-- ---- whole stripes

-- so many chunks are a multiple of a chunk
pub stripes-multiple : (m chunk : ℕ) → 0 < chunk → is_multiple (m * chunk) chunk ≡ true
stripes-multiple m chunk some =
    eq-eqb (m * chunk / chunk * chunk) (m * chunk) (ap (λ (n : ℕ). n / chunk * chunk) (let e : m * chunk ≡ m * chunk + 0 = omega arith in e) ∙ ap (λ (n : ℕ). n * chunk) (div-mul-add m chunk 0 some))

-- and the whole size is that of its stripes
pub stripes-whole : (size chunk : ℕ) → is_multiple size chunk ≡ true → size / chunk * chunk ≡ size
stripes-whole size chunk multiple = eqb-true (size / chunk * chunk) size multiple

pub stripes-within : (size chunk m : ℕ) → is_multiple size chunk ≡ true → m ≤ size / chunk → m * chunk ≤ size
stripes-within size chunk m multiple few = let whole = stripes-whole size chunk multiple in let le : m * chunk ≤ size / chunk * chunk = mul-le m chunk (size / chunk) chunk few (omega arith) in omega (arith, le, whole)

module _ (shape : Shape) (valid : is_valid_shape shape ≡ true) where
  -- a sector behind those of the first so many rows has its place behind these rows
  pub row-beyond : (x rows : ℕ) → is_multiple rows shape.chunk ≡ true → data_disks shape * rows ≤ x → rows ≤ (place shape x).row
  row-beyond x rows whole far = elim (cases_lt (place shape x).row rows) [
    | inl below ↦ let near = place-sector_below shape valid x rows whole below in absurd (omega (arith, far, near))
    | inr beyond ↦ beyond
  ]

  -- the sectors of so many stripes have their places in their rows, and no other sector has
  pub row-in_stripes : (x m : ℕ) → x < data_disks shape * (m * shape.chunk) → (place shape x).row < m * shape.chunk
  row-in_stripes x m below = place-row_below shape valid x (m * shape.chunk) (stripes-multiple m shape.chunk (chunk_some shape valid)) below

  pub sector-in_stripes : (x m : ℕ) → (place shape x).row < m * shape.chunk → x < data_disks shape * (m * shape.chunk)
  sector-in_stripes x m below = place-sector_below shape valid x (m * shape.chunk) (stripes-multiple m shape.chunk (chunk_some shape valid)) below

  -- ---- the first chunk of a stripe

  -- its sectors have their places in the stripe's rows, one after another
  pub row-of_first : (stripe at : ℕ) → at < shape.chunk → (place shape (stripe * (data_disks shape * shape.chunk) + at)).row ≡ stripe * shape.chunk + at
  row-of_first stripe at lt =
      ap (λ (x : ℕ). (place shape x).row) (same (data_disks shape) shape.chunk)
      ∙ ap (λ (p : Place). p.row) (place-sector shape stripe 0 at (data_some shape valid) lt)
    where
      same : (disks chunk : ℕ) → stripe * (disks * chunk) + at ≡ (stripe * disks + 0) * chunk + at
      same disks chunk = omega arith

  -- so many of them from one on touch just as many rows
  module _ (stripe done count : ℕ) (within : done + count ≤ shape.chunk) where
    pub touched-of_stripe : (row : ℕ) → IsTouched shape (stripe * (data_disks shape * shape.chunk) + done) count row
        → (stripe * shape.chunk + done ≤ row) × (row < stripe * shape.chunk + done + count)
    touched-of_stripe row touched = by (stripe * (data_disks shape * shape.chunk)) refl
      where
        from : (base first x : ℕ) → first + done ≤ x → x < first + done + count → row ≡ base + (x - first) → (base + done ≤ row) × (row < base + done + count)
        from base first x low high is = (omega (arith, low, high, is), omega (arith, low, high, is))

        by : (first : ℕ) → stripe * (data_disks shape * shape.chunk) ≡ first → (stripe * shape.chunk + done ≤ row) × (row < stripe * shape.chunk + done + count)
        by first is =
            let x = touched.0 in
            let low : first + done ≤ x = subst (λ (n : ℕ). n + done ≤ x) is touched.1 in
            let high : x < first + done + count = subst (λ (n : ℕ). x < n + done + count) is touched.2 in
            let at : stripe * (data_disks shape * shape.chunk) + (x - first) ≡ x = subst (λ (n : ℕ). n + (x - first) ≡ x) (sym is) (omega (arith, low)) in
            let row_is : row ≡ stripe * shape.chunk + (x - first) = sym touched.3 ∙ ap (λ (y : ℕ). (place shape y).row) (sym at) ∙ row-of_first stripe (x - first) (omega (arith, low, high, within)) in
            from (stripe * shape.chunk) first x low high row_is

    pub of_stripe-touched : (row : ℕ) → stripe * shape.chunk + done ≤ row → row < stripe * shape.chunk + done + count
        → IsTouched shape (stripe * (data_disks shape * shape.chunk) + done) count row
    of_stripe-touched row low high = by (stripe * shape.chunk) refl
      where
        by : (base : ℕ) → stripe * shape.chunk ≡ base → IsTouched shape (stripe * (data_disks shape * shape.chunk) + done) count row
        by base is =
            let from : base + done ≤ row = subst (λ (n : ℕ). n + done ≤ row) is low in
            let to : row < base + done + count = subst (λ (n : ℕ). row < n + done + count) is high in (
              stripe * (data_disks shape * shape.chunk) + (row - base),
              omega (arith, from),
              omega (arith, from, to),
              row-of_first stripe (row - base) (omega (arith, from, to, within)) ∙ ap (λ (n : ℕ). n + (row - base)) is ∙ omega (arith, from),
            )
