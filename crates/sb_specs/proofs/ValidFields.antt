-- What holds where no field is bad.
use Rattle.std.proofs.Common.{◌≡◌, ◌≤◌, ◌<◌, ◌+◌, ◌*◌, ◌^◌, nat_lt, ℕ, Bool, true, false, cond, leb, ◌&&◌, nat_eq, refl, ap, ◌∙◌, arith, List, [], ◌∷◌, Option, Some, None, unwrap_or, option_map, max}
use Rattle.std.specs.Prelude.{not, find, pos, ◌-ℤ◌}
use Rattle.std.specs.Option.{option_or}
use Rattle.std.proofs.lemmas.Bool.{leb-true}
use Rattle.std.proofs.lemmas.Bool.Decides.{nat_tests}
use Rattle.reshape_geometry.specs.raid_types_the_Shape.{Shape}
use Rattle.reshape_geometry.specs.raid_types_the_Refusal.{Refusal}
use Rattle.reshape_geometry.specs.raid_types_the_Refusal_TheVariants.{BadField}
use Rattle.reshape_geometry.specs.raid_types_Shapes.{is_level, is_layout, is_chunk, is_disk_count, is_valid_shape}
use Rattle.sb_codec.specs.declared.sb.Sb.{Sb}
use Rattle.sb_specs.specs.Reading.{is_reshaping, shape_of, final_shape, role_count, count_of}
use Rattle.sb_specs.specs.Verdict.{judged_fields, bad_field, first_bad_entry, AreValidShapes}

-- each test of the list fails
AllFalse : List (ℕ × Bool) → Type 0
AllFalse [] = Unit {0}
AllFalse (x ∷ xs) = (x.1 ≡ false) × AllFalse xs

no_first : (b : Bool) (x : ℕ × Bool) (rest : Option (ℕ × Bool)) → cond b (Some x) rest ≡ None → (b ≡ false) × (rest ≡ None)
no_first true x rest e = absurd (cc)
no_first false x rest e = (refl, e)

all_false : (xs : List (ℕ × Bool)) → find (λ f. f.1) xs ≡ None → AllFalse xs
unfolding AllFalse
all_false [] e = tt
all_false (x ∷ xs) e =
    let parts : (x.1 ≡ false) × (find (λ f. f.1) xs ≡ None) = no_first x.1 x (find (λ f. f.1) xs) e in
    (parts.0, all_false xs parts.1)

found_none : (found : Option (ℕ × Bool)) (rest : Option Refusal) → option_or (option_map (λ f. BadField f.0) found) rest ≡ None → found ≡ None
found_none None rest e = refl
found_none (Some f) rest e = absurd (cc)

is_so : (b : Bool) → not b ≡ false → b ≡ true
is_so true e = refl
is_so false e = absurd (cc)

then_so : (r b : Bool) → r ≡ true → (r && not b) ≡ false → b ≡ true
then_so true true e h = refl
then_so true false e h = absurd (cc)
then_so false b e h = absurd (cc)

all_four : (a b c d : Bool) → a ≡ true → b ≡ true → c ≡ true → d ≡ true → (a && b && c && d) ≡ true
all_four true true true true e f g h = refl
all_four true true true false e f g h = absurd (cc)
all_four true true false d e f g h = absurd (cc)
all_four true false c d e f g h = absurd (cc)
all_four false b c d e f g h = absurd (cc)

last : (a b : Bool) → (a && b) ≡ true → b ≡ true
last true b e = e
last false b e = absurd (cc)

same_number : (a b : ℕ) → nat_eq a b ≡ true → a ≡ b
same_number a b e = grind (arith, nat_tests)

-- the judged tests that the shapes are made of
record Passed (sb : Sb) : Type 0 where
  level : is_level sb.level ≡ true
  layout : is_layout sb.level sb.layout ≡ true
  chunk : is_chunk sb.chunksize ≡ true
  disks : is_disk_count sb.level sb.raid_disks ≡ true
  new_level : (is_reshaping sb && not (nat_eq sb.new_level sb.level)) ≡ false
  old_disks : (is_reshaping sb && not (is_disk_count sb.level (shape_of sb).disks)) ≡ false
  new_layout : (is_reshaping sb && not (is_layout sb.level sb.new_layout)) ≡ false
  new_chunk : (is_reshaping sb && not (is_chunk sb.new_chunk)) ≡ false

passed : (sb : Sb) (slots : List (Sb × ℕ)) → bad_field sb slots ≡ None → Passed sb
unfolding AllFalse
passed sb slots e =
    let h : AllFalse (judged_fields sb slots) = all_false (judged_fields sb slots)
    (found_none (find (λ f. f.1) (judged_fields sb slots)) (option_map (λ index. BadField (256 + 2 * index)) (first_bad_entry sb slots)) e) in
    record {
      level = is_so (is_level sb.level) h.0;
      layout = is_so (is_layout sb.level sb.layout) h.1.0;
      chunk = is_so (is_chunk sb.chunksize) h.1.1.1.0;
      disks = is_so (is_disk_count sb.level sb.raid_disks) h.1.1.1.1.0;
      new_level = h.1.1.1.1.1.0;
      old_disks = h.1.1.1.1.1.1.1.0;
      new_layout = h.1.1.1.1.1.1.1.1.0;
      new_chunk = h.1.1.1.1.1.1.1.1.1.0;
    }

-- the old shape's disks, or those of the one shape
disks_of : (sb : Sb) (r : Bool) → is_reshaping sb ≡ r → Passed sb → is_disk_count sb.level (shape_of sb).disks ≡ true
disks_of sb true e p = then_so (is_reshaping sb) (is_disk_count sb.level (shape_of sb).disks) e p.old_disks
disks_of sb false e p = ap (λ b. is_disk_count sb.level (cond b (count_of (pos sb.raid_disks -ℤ sb.delta_disks)) sb.raid_disks)) e ∙ p.disks

old_valid : (sb : Sb) (r : Bool) → is_reshaping sb ≡ r → Passed sb → is_valid_shape (shape_of sb) ≡ true
old_valid sb r e p =
    all_four (is_level sb.level) (is_layout sb.level sb.layout) (is_chunk sb.chunksize) (is_disk_count sb.level (shape_of sb).disks)
    p.level p.layout p.chunk (disks_of sb r e p)

abbrev new_shape : Sb → Shape
new_shape sb = record { level = sb.new_level; layout = sb.new_layout; chunk = sb.new_chunk; disks = sb.raid_disks }

final_valid : (sb : Sb) (r : Bool) → is_reshaping sb ≡ r → Passed sb → is_valid_shape (final_shape sb) ≡ true
final_valid sb true e p =
    let level : sb.new_level ≡ sb.level = same_number sb.new_level sb.level (then_so (is_reshaping sb) (nat_eq sb.new_level sb.level) e p.new_level) in
    ap (λ b. is_valid_shape (unwrap_or (cond b (Some (new_shape sb)) None) (shape_of sb))) e
    ∙ all_four (is_level sb.new_level) (is_layout sb.new_level sb.new_layout) (is_chunk sb.new_chunk) (is_disk_count sb.new_level sb.raid_disks)
    (ap is_level level ∙ p.level)
    (ap (λ n. is_layout n sb.new_layout) level ∙ then_so (is_reshaping sb) (is_layout sb.level sb.new_layout) e p.new_layout)
    (then_so (is_reshaping sb) (is_chunk sb.new_chunk) e p.new_chunk)
    (ap (λ n. is_disk_count n sb.raid_disks) level ∙ p.disks)
final_valid sb false e p =
    ap (λ b. is_valid_shape (unwrap_or (cond b (Some (new_shape sb)) None) (shape_of sb))) e ∙ old_valid sb false e p

pub valid-shapes : (sb : Sb) (slots : List (Sb × ℕ)) → bad_field sb slots ≡ None → AreValidShapes sb
valid-shapes sb slots e = record {
  old = old_valid sb (is_reshaping sb) refl (passed sb slots e);
  final = final_valid sb (is_reshaping sb) refl (passed sb slots e);
}

few_disks : (least disks : ℕ) → (leb least disks && leb disks 16) ≡ true → disks ≤ 16
few_disks least disks e = leb-true disks 16 (last (leb least disks) (leb disks 16) e)

valid_few : (s : Shape) → is_valid_shape s ≡ true → s.disks ≤ 16
valid_few s e =
    few_disks (cond (nat_eq s.level 6) 4 2) s.disks
    (last (is_level s.level && is_layout s.level s.layout && is_chunk s.chunk) (is_disk_count s.level s.disks) e)

pub few-roles : (sb : Sb) → AreValidShapes sb → role_count sb ≤ 16
few-roles sb valid =
    let old : (shape_of sb).disks ≤ 16 = valid_few (shape_of sb) valid.old in
    let final : (final_shape sb).disks ≤ 16 = valid_few (final_shape sb) valid.final in
    larger (shape_of sb).disks (final_shape sb).disks old final
  where
    larger : (a b : ℕ) → a ≤ 16 → b ≤ 16 → max a b ≤ 16
    larger a b h k = omega arith

is_less : (a b : ℕ) → not (nat_lt a b) ≡ false → a < b
is_less a b h = grind (arith, nat_tests)

-- the event count is below its limit
pub few-events : (sb : Sb) (slots : List (Sb × ℕ)) → bad_field sb slots ≡ None → sb.events < 2 ^ 62
unfolding AllFalse
few-events sb slots e =
    let h : AllFalse (judged_fields sb slots) = all_false (judged_fields sb slots)
    (found_none (find (λ f. f.1) (judged_fields sb slots)) (option_map (λ index. BadField (256 + 2 * index)) (first_bad_entry sb slots)) e) in
    is_less sb.events (2 ^ 62) h.1.1.1.1.1.1.1.1.1.1.1.0
