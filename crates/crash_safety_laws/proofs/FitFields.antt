-- Shapes that fit have no field that is refused.
use Rattle.std.proofs.Common.{◌≡◌, ◌^◌, ◌<◌, ◌≤◌, ◌==◌, nat_lt, ℕ, Bool, true, false, not, cond, ◌&&◌, ◌||◌, refl, sym, ap, ◌∙◌, arith, [], ◌∷◌, Some, None, unwrap_or}
use Rattle.std.specs.Prelude.{nat_le, find, pos, ◌-ℤ◌}
use Rattle.std.proofs.lemmas.Bool.Decides.{nat_tests}
use Rattle.crash_views.specs.raid_types_the_Shape.{Shape}
use Rattle.crash_views.specs.raid_types_Shapes.{is_level, is_layout, is_chunk, is_disk_count, is_multiple, is_valid_shape}
use Rattle.crash_views.specs.reshape_geometry_Geometry.{is_size}
use Rattle.sb_update_laws.specs.sb_codec_the_Sb.{Sb}
use Rattle.crash_views.specs.sb_specs_Reading.{is_reshaping, shape_of, final_shape, list_length, count_of}
use Rattle.crash_views.specs.sb_specs_Verdict.{judged_fields, is_bad_size}
use Rattle.crash_views.specs.Regions.{AreShapesFit}

four : (a b c d : Bool) → (a && b && c && d) ≡ true → (a ≡ true) × (b ≡ true) × (c ≡ true) × (d ≡ true)
four true true true true e = (refl, refl, refl, refl)
four true true true false e = absurd (cc)
four true true false d e = absurd (cc)
four true false c d e = absurd (cc)
four false b c d e = absurd (cc)

three : (a b c : Bool) → (a && b && c) ≡ true → (a ≡ true) × (b ≡ true) × (c ≡ true)
three true true true e = (refl, refl, refl)
three true true false e = absurd (cc)
three true false c e = absurd (cc)
three false b c e = absurd (cc)

passes : (b : Bool) → b ≡ true → not b ≡ false
passes b e = ap not e

-- a test that counts in a reshape alone
guarded : (r b : Bool) → (r ≡ true → b ≡ true) → (r && not b) ≡ false
guarded true b h = ap not (h refl)
guarded false b h = refl

equal-to : (a b : ℕ) → a ≡ b → (a == b) ≡ true
equal-to a b e = grind (arith, nat_tests, e)

at-most : (a b : ℕ) → a ≤ b → nat_le a b ≡ true
at-most a b e = grind (arith, nat_tests, e)

is-less : (a b : ℕ) → a < b → nat_lt a b ≡ true
is-less a b lt = grind (arith, nat_tests)

module _ (sb : Sb) (fit : AreShapesFit sb) (few : sb.events < 2 ^ 62) where
  abbrev new_shape : Shape
  new_shape = record { level = sb.new_level; layout = sb.new_layout; chunk = sb.new_chunk; disks = sb.raid_disks }

  old-parts : (is_level sb.level ≡ true) × (is_layout sb.level sb.layout ≡ true) × (is_chunk sb.chunksize ≡ true) × (is_disk_count sb.level (shape_of sb).disks ≡ true)
  old-parts = four (is_level sb.level) (is_layout sb.level sb.layout) (is_chunk sb.chunksize) (is_disk_count sb.level (shape_of sb).disks) fit.valid.old

  size-parts : (nat_le 1 sb.size ≡ true) × (nat_le sb.size (2 ^ 48) ≡ true) × (is_multiple sb.size sb.chunksize ≡ true)
  size-parts = three (nat_le 1 sb.size) (nat_le sb.size (2 ^ 48)) (is_multiple sb.size sb.chunksize) fit.size

  -- what is known of the new shape, while a reshape is active
  final-is : is_reshaping sb ≡ true → final_shape sb ≡ new_shape
  final-is active = ap (λ (b : Bool). unwrap_or (cond b (Some new_shape) None) (shape_of sb)) active

  level-is : is_reshaping sb ≡ true → sb.new_level ≡ sb.level
  level-is active = sym (ap (λ (s : Shape). s.level) (final-is active)) ∙ fit.level

  new-parts : is_reshaping sb ≡ true → (is_level sb.new_level ≡ true) × (is_layout sb.new_level sb.new_layout ≡ true) × (is_chunk sb.new_chunk ≡ true) × (is_disk_count sb.new_level sb.raid_disks ≡ true)
  new-parts active = four (is_level sb.new_level) (is_layout sb.new_level sb.new_layout) (is_chunk sb.new_chunk) (is_disk_count sb.new_level sb.raid_disks)
      (sym (ap is_valid_shape (final-is active)) ∙ fit.valid.final)

  new-size : is_reshaping sb ≡ true → is_multiple sb.size sb.new_chunk ≡ true
  new-size active = (three (nat_le 1 sb.size) (nat_le sb.size (2 ^ 48)) (is_multiple sb.size sb.new_chunk) (sym (ap (λ (s : Shape). is_size sb.size s.chunk) (final-is active)) ∙ fit.final_size)).2

  disks-are : (r : Bool) → is_reshaping sb ≡ r → is_disk_count sb.level sb.raid_disks ≡ true
  disks-are true active = ap (λ (n : ℕ). is_disk_count n sb.raid_disks) (sym (level-is active)) ∙ (new-parts active).3
  disks-are false none = sym (ap (λ (b : Bool). is_disk_count sb.level (cond b (count_of (pos sb.raid_disks -ℤ sb.delta_disks)) sb.raid_disks)) none) ∙ old-parts.3

  size-is : (r : Bool) → is_reshaping sb ≡ r → is_bad_size sb ≡ false
  size-is r is = passes (nat_le 1 sb.size && nat_le sb.size (2 ^ 48) && is_multiple sb.size sb.chunksize && (not (is_reshaping sb) || is_multiple sb.size sb.new_chunk))
      ((λ i. size-parts.0 i && size-parts.1 i && size-parts.2 i && (not (is_reshaping sb) || is_multiple sb.size sb.new_chunk)) ∙ last r is)
    where
      last : (r : Bool) → is_reshaping sb ≡ r → (not (is_reshaping sb) || is_multiple sb.size sb.new_chunk) ≡ true
      last true active = (λ i. not (active i) || new-size active i)
      last false none = ap (λ (b : Bool). not b || is_multiple sb.size sb.new_chunk) none

  pub fields-fit : find (λ f. f.1) (judged_fields sb []) ≡ None
  fields-fit i = find (λ (f : ℕ × Bool). f.1) (
      (72, passes (is_level sb.level) old-parts.0 i) ∷
      (76, passes (is_layout sb.level sb.layout) old-parts.1 i) ∷
      (80, size-is (is_reshaping sb) refl i) ∷
      (88, passes (is_chunk sb.chunksize) old-parts.2 i) ∷
      (92, passes (is_disk_count sb.level sb.raid_disks) (disks-are (is_reshaping sb) refl) i) ∷
      (100, guarded (is_reshaping sb) (sb.new_level == sb.level) (λ active. equal-to sb.new_level sb.level (level-is active)) i) ∷
      (104, guarded (is_reshaping sb) (nat_le sb.reshape_position (list_length sb)) (λ active. at-most sb.reshape_position (list_length sb) (fit.position active)) i) ∷
      (112, guarded (is_reshaping sb) (is_disk_count sb.level (shape_of sb).disks) (λ active. old-parts.3) i) ∷
      (116, guarded (is_reshaping sb) (is_layout sb.level sb.new_layout) (λ active. ap (λ (n : ℕ). is_layout n sb.new_layout) (sym (level-is active)) ∙ (new-parts active).1) i) ∷
      (120, guarded (is_reshaping sb) (is_chunk sb.new_chunk) (λ active. (new-parts active).2) i) ∷
      (128, false) ∷
      (200, passes (nat_lt sb.events (2 ^ 62)) (is-less sb.events (2 ^ 62) few) i) ∷
      (220, false) ∷ [])
