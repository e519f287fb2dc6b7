-- The steps of all windows in one sum, as the code computes it.
use Rattle.std.proofs.Common.{◌≡◌, ℕ, suc, ◌+◌, ◌-◌, ◌*◌, ◌/◌, ◌^◌, ◌<◌, ◌≤◌, Bool, true, false, cond, refl, sym, ap, ◌∙◌, arith}
use Rattle.std.specs.Prelude.{sum_by}
use Rattle.std.specs.Int.{div_ceil}
use Rattle.std.proofs.Math.Nat.{mul-le-mul_left}
use Rattle.raid_types.specs.declared.places.Shape.{Shape}
use Rattle.raid_types.specs.Shapes.{stripe_sectors}
use Rattle.reshape_geometry.specs.Geometry.{AreInForce, unit, list_end, ceiling, windows, next_windows, window_steps, zeroed_stripes}
use Rattle.reshape_geometry.proofs.Divisions.{ceiling-div_ceil, ceiling_le, quotient}
use Rattle.reshape_geometry.proofs.Tilings.{forward_sum, backward_sum, forward_total}
use Rattle.reshape_geometry.proofs.Valid.{bounded, bounded_pair}

pub rounded_up : (w n k of : ℕ) → 0 < k → k ≡ of → w ≡ div_ceil n k → w ≡ ceiling n of
rounded_up w n k of p e same = same ∙ ceiling-div_ceil n k p ∙ ap (λ (x : ℕ). ceiling n x) e

pub ceiling_below : (n k : ℕ) → 0 < k → ceiling n k ≤ n
ceiling_below n k p = ceiling_le n k n p (let le : n * 1 ≤ n * k = mul-le-mul_left n (omega arith) in omega (arith, le))

-- rounding up adds at most one
pub one_up : (n k : ℕ) → 0 < k → ceiling n k ≤ n / k + 1
one_up n k p = ceiling_le n k (n / k + 1) p (let b = quotient n k p in omega (arith, b.1))

pub backward_value : (old new : Shape) (size p w c : ℕ) → AreInForce old new size → w ≡ ceiling p (unit old new) → c ≡ ceiling p (stripe_sectors new)
    → 2 * w + c ≡ sum_by (window_steps new) (windows old new size true p)
backward_value old new size p w c f ew ec =
    let n = bounded new f.new_valid in
    let b = bounded_pair old new size f in
    let sum = backward_sum old new size (ceiling p (unit old new)) p _ (omega (arith, n.some_stripe)) b.some_unit b.new_stripes refl in
    omega (arith, ew, ec, sum)

pub forward_none : (old new : Shape) (size p w : ℕ) → AreInForce old new size → w ≡ ceiling (list_end old new size - p) (unit old new) → w ≡ 0
    → 0 ≡ sum_by (window_steps new) (windows old new size false p)
forward_none old new size p w f ew z =
    let none : ceiling (list_end old new size - p) (unit old new) ≡ 0 = sym ew ∙ z in
    ap (λ (n : ℕ). sum_by (window_steps new) (next_windows old new size false n p)) (sym none)

pub forward_value : (old new : Shape) (size p w f u t : ℕ) → AreInForce old new size → p ≤ list_end old new size
    → w ≡ ceiling (list_end old new size - p) (unit old new) → (w ≡ 0 → ⊥)
    → f ≡ p / stripe_sectors new → u ≡ ceiling p (stripe_sectors new) → t ≡ ceiling (list_end old new size) (stripe_sectors new)
    → 2 * w + (t - f) + (w - 1) * (u - f) ≡ sum_by (window_steps new) (windows old new size false p)
forward_value old new size p w f u t force within ew nz ef eu et =
    let n = bounded new force.new_valid in
    let b = bounded_pair old new size force in
    let back : w ≡ suc (w - 1) = omega (arith, nz) in
    let sum = forward_sum old new size (suc (w - 1)) p _ (omega (arith, n.some_stripe)) b.some_unit b.new_stripes within (sym ew ∙ back) in
    let list : next_windows old new size false (suc (w - 1)) p ≡ windows old new size false p = ap (λ (k : ℕ). next_windows old new size false k p) (sym back ∙ ew) in
    let times : (w - 1) * (u - f) ≡ (w - 1) * (ceiling p (stripe_sectors new) - p / stripe_sectors new) = ap (λ (x : ℕ). (w - 1) * (x - f)) eu ∙ ap (λ (x : ℕ). (w - 1) * (ceiling p (stripe_sectors new) - x)) ef in
    let value : 2 * w + (t - f) + (w - 1) * (u - f) ≡ forward_total (stripe_sectors new) (list_end old new size) (suc (w - 1)) p = omega (arith, times, et, ef, back) in
    value ∙ sym sum ∙ ap (sum_by (window_steps new)) list

-- the product of the code is at most the number of windows
pub once_each : (w f u : ℕ) → u ≤ f + 1 → (w - 1) * (u - f) ≤ w
once_each w f u le = let m : (w - 1) * (u - f) ≤ (w - 1) * 1 = mul-le-mul_left (w - 1) (omega arith) in omega (arith, m)

-- the same where the number is known by another name
pub rounded_up_at : (w n k m of : ℕ) → 0 < k → n ≡ m → k ≡ of → w ≡ div_ceil n k → w ≡ ceiling m of
rounded_up_at w n k m of p en e same = rounded_up w n k of p e same ∙ ap (λ (x : ℕ). ceiling x of) en

pub zeroed_value : (old new : Shape) (size : ℕ) (back : Bool) (w chunk : ℕ) → back ≡ false → w ≡ ceiling (list_end old new size) (stripe_sectors new) → chunk ≡ new.chunk
    → size / chunk - w ≡ zeroed_stripes old new size back
zeroed_value old new size back w chunk forth ew ec =
    ap (λ (x : ℕ). size / x - w) ec ∙ ap (λ (x : ℕ). size / new.chunk - x) ew ∙ ap (λ (b : Bool). cond b 0 (size / new.chunk - ceiling (list_end old new size) (stripe_sectors new))) (sym forth)

-- no part of the forward sum is large
pub record AreShort (w d product : ℕ) : Type 0 where
  pub windows : w ≤ 2 ^ 53
  pub stripes : d ≤ 2 ^ 53
  pub twice : product ≤ w

pub forward_short : (w e p u s c d : ℕ) → 0 < u → 0 < s → e ≤ 2 ^ 53 → w ≡ div_ceil (e - p) u → c ≡ div_ceil p s → d ≡ div_ceil e s
    → AreShort w d ((w - 1) * (c - p / s))
forward_short w e p u s c d pu ps short ew ec ed =
    let same_w : w ≡ ceiling (e - p) u = rounded_up w (e - p) u u pu refl ew in
    let same_c : c ≡ ceiling p s = rounded_up c p s s ps refl ec in
    let same_d : d ≡ ceiling e s = rounded_up d e s s ps refl ed in
    record {
      windows = omega (arith, same_w, ceiling_below (e - p) u pu, short);
      stripes = omega (arith, same_d, ceiling_below e s ps, short);
      twice = once_each w (p / s) c (omega (arith, same_c, one_up p s ps));
    }
