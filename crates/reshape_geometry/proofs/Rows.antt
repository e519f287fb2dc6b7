-- The rows that a span touches.
use Rattle.std.proofs.Common.{◌≡◌, ℕ, ◌+◌, ◌*◌, ◌/◌, ◌%◌, ◌^◌, ◌<◌, ◌≤◌, Bool, true, false, min, max, ap, subst, inl, inr, arith}
use Rattle.std.specs.Prelude.{IsTrue, ◌↔◌}
use Rattle.std.proofs.lemmas.Bool.{cases_lt, ltb-false, ltb-true, lt-ltb}
use Rattle.std.proofs.Math.Nat.{mul-le-mul_left, mul-le-mul_right, div-div-eq-div-mul, mod-lt}
use Rattle.raid_types.specs.declared.places.Shape.{Shape}
use Rattle.raid_types.specs.declared.places.Span.{Span}
use Rattle.raid_types.specs.Shapes.{data_disks, stripe_sectors, is_valid_shape}
use Rattle.reshape_geometry.specs.Geometry.{AreInForce, list_end, ceiling, rows, meets, is_critical, row_at, IsIn, live_sectors}
use Rattle.reshape_geometry.proofs.Divisions.{quotient, ceiling_bounds, floor_grows, next_multiple}
use Rattle.reshape_geometry.proofs.Valid.{bounded}

-- a place inside a span lies in a stripe of the span
stripe_inside : (x hi s : ℕ) → 0 < s → x < hi → x / s < ceiling hi s
stripe_inside x hi s p lt =
    let q = quotient x s p in
    let b = ceiling_bounds hi s p in
    elim (cases_lt (x / s) (ceiling hi s)) [
      | inl less ↦ less
      | inr ge ↦ (let le : ceiling hi s * s ≤ x / s * s = mul-le-mul_right s ge in absurd (omega (arith, le, q.0, b.0, lt)))
    ]

pub rows_hold : (shape : Shape) (span : Span) (x : ℕ) → IsTrue (is_valid_shape shape) → IsIn x span → IsIn (row_at shape x) (rows shape span.lo span.hi)
rows_hold shape span x valid (low, high) =
    let b = bounded shape valid in
    let s = stripe_sectors shape in
    let ps : 0 < s = omega (arith, b.some_stripe) in
    let same : x / shape.chunk / data_disks shape ≡ x / s = div-div-eq-div-mul x shape.chunk (data_disks shape) in
    let row : row_at shape x ≡ x / s * shape.chunk + x % shape.chunk = ap (λ (q : ℕ). q * shape.chunk + x % shape.chunk) same in
    let rest : x % shape.chunk < shape.chunk = mod-lt x (omega (arith, b.some_chunk)) in
    let below : span.lo / s * shape.chunk ≤ x / s * shape.chunk = mul-le-mul_right shape.chunk (floor_grows span.lo x s ps low) in
    let above = next_multiple (x / s) (ceiling span.hi s) shape.chunk (stripe_inside x span.hi s ps high) in
    (omega (arith, row, below), omega (arith, row, rest, above))

-- spans that don't meet have no number in common
apart : (a b : Span) (x : ℕ) → meets a b ≡ false → IsIn x a → IsIn x b → ⊥
apart a b x e (la, ha) (lb, hb) = let le = ltb-false (max a.lo b.lo) (min a.hi b.hi) e in omega (arith, le, la, ha, lb, hb)

pub writes_apart : (old new : Shape) (size : ℕ) (back : Bool) (span : Span) → AreInForce old new size → is_critical old new size back span ≡ false
    → (row y : ℕ) → IsIn row (rows new span.lo span.hi) → IsIn y (live_sectors old new size back span) → row_at old y ≡ row → ⊥
writes_apart old new size true span f e row y written live same =
    let live_span : Span = record { lo = 0; hi = span.hi } in
    let stands = rows_hold old live_span y f.old_valid live in
    apart (rows new span.lo span.hi) (rows old 0 span.hi) row e written (subst (λ (r : ℕ). IsIn r (rows old 0 span.hi)) same stands)
writes_apart old new size false span f e row y written live same =
    let live_span : Span = record { lo = span.lo; hi = list_end old new size } in
    let stands = rows_hold old live_span y f.old_valid live in
    apart (rows new span.lo span.hi) (rows old span.lo (list_end old new size)) row e written (subst (λ (r : ℕ). IsIn r (rows old span.lo (list_end old new size))) same stands)

-- the rows of a span in a list fit
pub short_rows : (shape : Shape) (lo hi : ℕ) → IsTrue (is_valid_shape shape) → lo ≤ hi → hi ≤ 2 ^ 53
    → (lo / stripe_sectors shape * shape.chunk ≤ 2 ^ 54) × (ceiling hi (stripe_sectors shape) * shape.chunk ≤ 2 ^ 54)
short_rows shape lo hi valid le short =
    let b = bounded shape valid in
    let s = stripe_sectors shape in
    let ps : 0 < s = omega (arith, b.some_stripe) in
    let chunk : shape.chunk ≤ s = (let m : shape.chunk * 1 ≤ shape.chunk * data_disks shape = mul-le-mul_left shape.chunk b.some_data in omega (arith, m)) in
    let down : lo / s * shape.chunk ≤ lo / s * s = mul-le-mul_left (lo / s) chunk in
    let up : ceiling hi s * shape.chunk ≤ ceiling hi s * s = mul-le-mul_left (ceiling hi s) chunk in
    let q = quotient lo s ps in
    let c = ceiling_bounds hi s ps in
    (omega (arith, down, q.0, le, short), omega (arith, up, c.1, short, b.most_stripe))

-- spans meet exactly where a number lies in both; the greater of their starts does, if any
meeting : (a b : Span) → IsTrue (meets a b) ↔ ((row : ℕ) × IsIn row a × IsIn row b)
meeting a b = (
  λ e. (let lt = ltb-true (max a.lo b.lo) (min a.hi b.hi) e in (max a.lo b.lo, (omega arith, omega (arith, lt)), (omega arith, omega (arith, lt)))),
  λ (row, (la, ha), (lb, hb)). lt-ltb (max a.lo b.lo) (min a.hi b.hi) (omega (arith, la, ha, lb, hb)),
)

pub critical_shared : (old new : Shape) (size : ℕ) (back : Bool) (span : Span)
    → let live = live_sectors old new size back span in IsTrue (is_critical old new size back span) ↔ ((row : ℕ) × IsIn row (rows new span.lo span.hi) × IsIn row (rows old live.lo live.hi))
critical_shared old new size true span = meeting (rows new span.lo span.hi) (rows old 0 span.hi)
critical_shared old new size false span = meeting (rows new span.lo span.hi) (rows old span.lo (list_end old new size))
