-- What the limits of shapes and sizes give.
use Rattle.std.proofs.Common.{◌≡◌, ℕ, ◌*◌, ◌/◌, ◌^◌, ◌<◌, ◌≤◌, true, min, sym, ap, ◌∙◌, arith}
use Rattle.std.specs.Prelude.{IsTrue}
use Rattle.std.proofs.lemmas.Bool.{and_parts, leb-true, eqb-true}
use Rattle.std.proofs.lemmas.Bool.Decides.{nat_tests}
use Rattle.std.proofs.Math.Nat.{mul-le-mul_right, div-mul_cancel}
use Rattle.std.proofs.lemmas.Nat.{mul-le}
use Rattle.raid_types.specs.declared.places.Shape.{Shape}
use Rattle.raid_types.specs.Shapes.{data_disks, stripe_sectors, tolerance, is_valid_shape, is_chunk, is_disk_count}
use Rattle.std.specs.Int.{IsGcd}
use Rattle.reshape_geometry.specs.Geometry.{AreInForce, list_end, is_size, unit, common_multiple, ceiling, IsLeastCommonMultiple}
use Rattle.reshape_geometry.proofs.Divisions.{ceiling_le}
use Rattle.reshape_geometry.proofs.Multiples.{least_common, by_divisor, at_most_product}

-- what the limits give of a shape's stripe
pub record IsBounded (shape : Shape) : Type 0 where
  pub some_data : 1 ≤ data_disks shape
  pub most_data : data_disks shape ≤ 32
  pub enough : tolerance shape ≤ shape.disks
  pub some_chunk : 8 ≤ shape.chunk
  pub most_chunk : shape.chunk ≤ 1024
  pub some_stripe : 8 ≤ stripe_sectors shape
  pub most_stripe : stripe_sectors shape ≤ 32768

chunk_bounds : (chunk : ℕ) → is_chunk chunk ≡ true → (8 ≤ chunk) × (chunk ≤ 1024)
chunk_bounds chunk e = grind (arith, nat_tests)

disk_bounds : (shape : Shape) → is_disk_count shape.level shape.disks ≡ true → (1 ≤ data_disks shape) × (data_disks shape ≤ 32) × (tolerance shape ≤ shape.disks)
disk_bounds shape e = (grind (arith, nat_tests), grind (arith, nat_tests), grind (arith, nat_tests))

stripe_bounds : (c d : ℕ) → 8 ≤ c → c ≤ 1024 → 1 ≤ d → d ≤ 32 → (8 ≤ c * d) × (c * d ≤ 32768)
stripe_bounds c d a b e f = let low = mul-le 8 1 c d a e in let high = mul-le c d 1024 32 b f in (omega (arith, low), omega (arith, high))

pub bounded : (shape : Shape) → IsTrue (is_valid_shape shape) → IsBounded shape
bounded shape valid =
    let p1 = and_parts _ _ valid in
    let p2 = and_parts _ _ p1.0 in
    let c = chunk_bounds shape.chunk p2.1 in
    let d = disk_bounds shape p1.1 in
    let s = stripe_bounds shape.chunk (data_disks shape) c.0 c.1 d.0 d.1 in
    record { some_data = d.0; most_data = d.1; enough = d.2; some_chunk = c.0; most_chunk = c.1; some_stripe = s.0; most_stripe = s.1 }

-- the unit of two valid shapes
pub the_unit : (old new : Shape) → IsTrue (is_valid_shape old) → IsTrue (is_valid_shape new) → IsLeastCommonMultiple (stripe_sectors old) (stripe_sectors new) (unit old new)
the_unit old new v w =
    let o = bounded old v in
    let n = bounded new w in
    least_common (stripe_sectors old) (stripe_sectors new) (omega (arith, o.some_stripe)) (omega (arith, n.some_stripe))

pub short_unit : (old new : Shape) → IsTrue (is_valid_shape old) → IsTrue (is_valid_shape new) → unit old new ≤ 2 ^ 30
short_unit old new v w =
    let o = bounded old v in
    let n = bounded new w in
    let u = the_unit old new v w in
    let p = at_most_product _ _ _ (omega (arith, o.some_stripe)) (omega (arith, n.some_stripe)) u in
    let q = mul-le (stripe_sectors old) (stripe_sectors new) 32768 32768 o.most_stripe n.most_stripe in
    omega (arith, p, q)

-- the unit, by a greatest common divisor
pub unit_by_divisor : (old new : Shape) → IsTrue (is_valid_shape old) → IsTrue (is_valid_shape new) → (a b g : ℕ) → a ≡ stripe_sectors old → b ≡ stripe_sectors new → IsGcd a b g → a / g * b ≡ unit old new
unit_by_divisor old new v w a b g ea eb gcd =
    let o = bounded old v in
    let n = bounded new w in
    let pa : 0 < a = omega (arith, o.some_stripe, ea) in
    let pb : 0 < b = omega (arith, n.some_stripe, eb) in
    by_divisor a b g (common_multiple a b) pa pb gcd (least_common a b pa pb)
    ∙ ap (λ (x : ℕ). common_multiple x b) ea ∙ ap (λ (y : ℕ). common_multiple (stripe_sectors old) y) eb

-- ---- two shapes over one size

pub record IsBoundedPair (old new : Shape) (size : ℕ) : Type 0 where
  pub some_unit : 0 < unit old new
  pub short_unit : unit old new ≤ 2 ^ 30
  pub old_stripes : unit old new ≡ unit old new / stripe_sectors old * stripe_sectors old
  pub new_stripes : unit old new ≡ unit old new / stripe_sectors new * stripe_sectors new
  pub short_list : list_end old new size ≤ 2 ^ 53

size_bounds : (size chunk : ℕ) → is_size size chunk ≡ true → (1 ≤ size) × (size ≤ 2 ^ 48) × (size / chunk * chunk ≡ size)
size_bounds size chunk e =
    let p1 = and_parts _ _ e in
    let p2 = and_parts _ _ p1.0 in
    (leb-true 1 size p2.0, leb-true size (2 ^ 48) p2.1, eqb-true _ _ p1.1)

pub bounded_pair : (old new : Shape) (size : ℕ) → AreInForce old new size → IsBoundedPair old new size
bounded_pair old new size f =
    let o = bounded old f.old_valid in
    let n = bounded new f.new_valid in
    let u = the_unit old new f.old_valid f.new_valid in
    let s = size_bounds size old.chunk f.old_size in
    let most : min (data_disks old) (data_disks new) * size ≤ 32 * 2 ^ 48 = mul-le _ size 32 (2 ^ 48) (omega (arith, o.most_data)) s.1 in
    record {
      some_unit = u.positive;
      short_unit = short_unit old new f.old_valid f.new_valid;
      old_stripes = sym (div-mul_cancel (stripe_sectors old) u.first);
      new_stripes = sym (div-mul_cancel (stripe_sectors new) u.second);
      short_list = omega (arith, most);
    }

-- the stripes that hold the list are stripes of the new shape
pub list_fits : (old new : Shape) (size : ℕ) → AreInForce old new size → ceiling (list_end old new size) (stripe_sectors new) ≤ size / new.chunk
list_fits old new size f =
    let n = bounded new f.new_valid in
    let s = size_bounds size new.chunk f.new_size in
    let less : list_end old new size ≤ data_disks new * size = mul-le-mul_right size (omega arith) in
    let whole : data_disks new * size ≡ size / new.chunk * (new.chunk * data_disks new) = ap (λ (x : ℕ). data_disks new * x) (sym s.2) ∙ omega arith in
    ceiling_le (list_end old new size) (stripe_sectors new) (size / new.chunk) (omega (arith, n.some_stripe)) (omega (arith, less, whole))

pub same_list_end : (old new : Shape) (size m a b : ℕ) → a ≡ data_disks old → b ≡ data_disks new → m ≡ min a b → m * size ≡ list_end old new size
same_list_end old new size m a b ea eb em = ap (λ (x : ℕ). x * size) (em ∙ ap (λ (x : ℕ). min x b) ea ∙ ap (λ (x : ℕ). min (data_disks old) x) eb)
