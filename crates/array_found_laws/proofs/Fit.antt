-- The shapes in force of a reshape that is refused for nothing fit the size, and its position stands on their unit.
use Rattle.std.proofs.Common.{◌≡◌, ℕ, zero, suc, ◌+◌, ◌-◌, ◌≤◌, ◌==◌, ◌&&◌, ◌||◌, nat_le, nat_lt, Bool, true, false, not, cond, List, [], ◌∷◌, length, take, get_or, Option, Some, None, unwrap_or, ℤ, pos, negsuc, ◌-ℤ◌, refl, sym, ◌∙◌, ap, subst, arith}
use Rattle.std.specs.Prelude.{◌^◌, find}
use Rattle.std.specs.Int.{bit_at}
use Rattle.std.proofs.lemmas.Bool.{leb-true, eqb-true}
use Rattle.std.proofs.lemmas.Bool.Decides.{nat_tests}
use Rattle.array_call_specs.specs.raid_types_the_Shape.{Shape}
use Rattle.array_call_specs.specs.raid_types_Shapes.{is_multiple}
use Rattle.array_call_specs.specs.sb_codec_the_Sb.{Sb}
use Rattle.array_call_specs.specs.bank_Given.{sizes}
use Rattle.array_call_specs.specs.reshape_geometry_Geometry.{is_size}
use Rattle.array_call_specs.specs.sb_specs_Reading.{is_reshaping, is_negative, is_zero, count_of, shape_of, final_shape, list_length}
use Rattle.array_call_specs.specs.sb_specs_Election.{reading_in}
use Rattle.array_call_specs.specs.sb_specs_Verdict.{fresh_from, bad_field, judged_fields, is_bad_size, off_unit, AreValidShapes}
use Rattle.array_call_specs.specs.crash_views_Regions.{AreShapesFit}
use Rattle.array_found_laws.specs.Laws.{ElectedReshapesFit}
use Rattle.array_found_laws.proofs.Elected.{fields-pass, elected-unrefused, elected-valid}

-- ---- a judged field

field-fails : (l : List (ℕ × Bool)) (k : ℕ) → find (λ (f : ℕ × Bool). f.1) l ≡ None → (get_or l k (0, false)).1 ≡ false
field-fails [] k e = refl
field-fails (x ∷ l) zero e = by x.1 e
  where
    by : (b : Bool) → cond b (Some x) (find (λ (f : ℕ × Bool). f.1) l) ≡ None → b ≡ false
    by true e = absurd (cc)
    by false e = refl
field-fails (x ∷ l) (suc k) e = field-fails l k (by x.1 e)
  where
    by : (b : Bool) → cond b (Some x) (find (λ (f : ℕ × Bool). f.1) l) ≡ None → find (λ (f : ℕ × Bool). f.1) l ≡ None
    by true e = absurd (cc)
    by false e = e

so : (a b : Bool) → a ≡ true → (a && not b) ≡ false → b ≡ true
so true true e h = refl
so true false e h = absurd (cc)
so false b e h = absurd (cc)

all-four : (a b c d : Bool) → not (a && b && c && d) ≡ false → ((a && b && c) ≡ true) × ((a && b) ≡ true) × (d ≡ true)
all-four true true true true e = (refl, refl, refl)
all-four true true true false e = absurd (cc)
all-four true true false d e = absurd (cc)
all-four true false c d e = absurd (cc)
all-four false b c d e = absurd (cc)

or-second : (r d : Bool) → r ≡ true → (not r || d) ≡ true → d ≡ true
or-second true d e h = h
or-second false d e h = absurd (cc)

and-both : (a b : Bool) → a ≡ true → b ≡ true → (a && b) ≡ true
and-both true true e h = refl
and-both true false e h = absurd (cc)
and-both false b e h = absurd (cc)

-- ---- the disk counts

-- at most so many are left of a count
at-most : (n k : ℕ) → count_of (pos n -ℤ pos k) ≤ n
at-most n zero = let e : n + 0 ≤ n = omega arith in e
at-most n (suc k) = of (nat_lt n (suc k))
  where
    of : (b : Bool) → count_of (cond b (negsuc (suc k - suc n)) (pos (n - suc k))) ≤ n
    of true = let e : 0 ≤ n = omega arith in e
    of false = let e : n - suc k ≤ n = omega arith in e

apart : (k : ℕ) → (suc k == 0) ≡ false
apart k = grind (arith, nat_tests)

none-of : (z bit : Bool) → z ≡ false → (z && bit) ≡ true → ⊥
none-of true bit is e = absurd (cc)
none-of false bit is e = absurd (cc)

-- forward the old shape has no more disks than the new one
forward-more : (n : ℕ) (delta : ℤ) (bit : Bool) → (is_negative delta || is_zero delta && bit) ≡ false → count_of (pos n -ℤ delta) ≤ n
forward-more n (pos k) bit e = at-most n k
forward-more n (negsuc k) bit e = absurd (cc)

-- backward no fewer
backward-fewer : (n : ℕ) (delta : ℤ) (bit : Bool) → (is_negative delta || is_zero delta && bit) ≡ true → n ≤ count_of (pos n -ℤ delta)
backward-fewer n (pos zero) bit e = let le : n ≤ n + 0 = omega arith in le
backward-fewer n (pos (suc k)) bit e = absurd (none-of (suc k == 0) bit (apart k) e)
backward-fewer n (negsuc k) bit e = let le : n ≤ n + suc k = omega arith in le

-- ---- the fields of a superblock that is refused for nothing

module _ (newest : Sb) (slots : List (Sb × ℕ)) (fields : bad_field newest slots ≡ None) where
  field : (k : ℕ) → (get_or (judged_fields newest slots) k (0, false)).1 ≡ false
  field k = field-fails (judged_fields newest slots) k (fields-pass newest slots fields)

  size-good : is_bad_size newest ≡ false
  size-good = field 2

  pub sizes-good : (is_size newest.size newest.chunksize ≡ true) × ((nat_le 1 newest.size && nat_le newest.size (2 ^ 48)) ≡ true) × ((not (is_reshaping newest) || is_multiple newest.size newest.new_chunk) ≡ true)
  sizes-good = all-four (nat_le 1 newest.size) (nat_le newest.size (2 ^ 48)) (is_multiple newest.size newest.chunksize) (not (is_reshaping newest) || is_multiple newest.size newest.new_chunk) size-good

-- ---- a reshape that is refused for nothing

module _ (newest : Sb) (slots : List (Sb × ℕ)) (active : is_reshaping newest ≡ true) (valid : AreValidShapes newest) (fields : bad_field newest slots ≡ None) (unit : off_unit newest ≡ None) where
  level-same : newest.new_level ≡ newest.level
  level-same = eqb-true newest.new_level newest.level (so (is_reshaping newest) (newest.new_level == newest.level) active (field newest slots fields 5))

  within : newest.reshape_position ≤ list_length newest
  within = leb-true newest.reshape_position (list_length newest) (so (is_reshaping newest) (nat_le newest.reshape_position (list_length newest)) active (field newest slots fields 6))

  final-is : final_shape newest ≡ record { level = newest.new_level; layout = newest.new_layout; chunk = newest.new_chunk; disks = newest.raid_disks }
  final-is = ap (λ (b : Bool). unwrap_or (cond b (Some (record { level = newest.new_level; layout = newest.new_layout; chunk = newest.new_chunk; disks = newest.raid_disks })) None) (shape_of newest)) active

  disks-are : (shape_of newest).disks ≡ count_of (pos newest.raid_disks -ℤ newest.delta_disks)
  disks-are = ap (λ (b : Bool). cond b (count_of (pos newest.raid_disks -ℤ newest.delta_disks)) newest.raid_disks) active

  final-disks : (final_shape newest).disks ≡ newest.raid_disks
  final-disks = ap (λ (s : Shape). s.disks) final-is

  pub moving-fit : AreShapesFit newest
  moving-fit = record {
    valid = valid;
    size = (sizes-good newest slots fields).0;
    final_size = subst (λ (s : Shape). is_size newest.size s.chunk ≡ true) (sym final-is)
        (and-both (nat_le 1 newest.size && nat_le newest.size (2 ^ 48)) (is_multiple newest.size newest.new_chunk) (sizes-good newest slots fields).1 (or-second (is_reshaping newest) (is_multiple newest.size newest.new_chunk) active (sizes-good newest slots fields).2));
    level = ap (λ (s : Shape). s.level) final-is ∙ level-same;
    unit = unit;
    position = λ is. within;
    delta = λ is forth. (let few = forward-more newest.raid_disks newest.delta_disks (bit_at newest.feature_map 5 == 1) forth in let old = disks-are in let new = final-disks in omega (arith, few, old, new));
    delta_back = λ is back. (let few = backward-fewer newest.raid_disks newest.delta_disks (bit_at newest.feature_map 5 == 1) back in let old = disks-are in let new = final-disks in omega (arith, few, old, new));
  }

-- ---- an election

pub reshape-fits : ElectedReshapesFit
reshape-fits bank given members are active =
    let X : List (Option Sb) = take bank.slots members.own in
    let u = elected-unrefused (sizes bank).sectors X members.lost members are.elected in
    moving-fit members.newest (fresh_from members.newest (sizes bank).sectors 0 (reading_in (length X) members).own) active (elected-valid (sizes bank).sectors X members.lost members are.elected) u.fields u.unit
