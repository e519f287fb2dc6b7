-- What an election that refuses nothing says of the newest superblock and of the roles that are missing.
use Rattle.std.proofs.Common.{◌≡◌, ℕ, ◌+◌, ◌*◌, Bool, List, [], ◌∷◌, length, Option, Some, None, option_map, refl, sym, ◌∙◌, ap}
use Rattle.std.specs.Prelude.{find}
use Rattle.std.specs.Option.{option_or, option_map_or}
use Rattle.array_call_specs.specs.raid_types_the_Refusal.{Refusal}
use Rattle.array_call_specs.specs.raid_types_the_Refusal_TheVariants.{NoSuperblock, MembersMissing, BadField}
use Rattle.array_call_specs.specs.raid_types_the_Shape.{Shape}
use Rattle.array_call_specs.specs.raid_types_the_Role.{Role}
use Rattle.array_call_specs.specs.raid_types_Shapes.{tolerance}
use Rattle.array_call_specs.specs.sb_codec_the_Sb.{Sb}
use Rattle.array_call_specs.specs.sb_specs_the_Members.{Members}
use Rattle.array_call_specs.specs.sb_specs_Reading.{Reading, reading_of, reading_by, newest_of, shape_of, target_of, final_shape, shapes_in_force}
use Rattle.array_call_specs.specs.sb_specs_Verdict.{members_refusal, first_of_all, fresh_from, unsupported, bad_field, judged_fields, first_bad_entry, two_holders, members_missing, missing_count, too_many, dirty_degraded, off_unit, AreValidShapes}
use Rattle.array_call_specs.specs.sb_specs_Election.{reading_in, IsElected}
use Rattle.array_call_specs.proofs.sb_specs_ValidFields.{valid-shapes}
use Rattle.array_call_specs.specs.crash_views_Regions.{DoWithout}
use Rattle.array_call_specs.proofs.crash_views_Alike.{found-none}
use Rattle.array_call_specs.proofs.crash_views_Judged.{within-few}

-- ---- nothing is refused

both-none : (a b : Option Refusal) → option_or a b ≡ None → (a ≡ None) × (b ≡ None)
both-none None b e = (refl, e)
both-none (Some x) b e = absurd (cc)

no-map : {A B : Type 0} (f : A → B) (a : Option A) → option_map f a ≡ None → a ≡ None
no-map f None e = refl
no-map f (Some x) e = absurd (cc)

-- neither for a field of the newest superblock, nor for what is missing, nor for the position
pub record IsUnrefused (newest : Sb) (slots : List (Sb × ℕ)) (roles : List Role) : Type 0 where
  pub fields : bad_field newest slots ≡ None
  pub missing : members_missing newest roles ≡ None
  pub degraded : dirty_degraded newest roles ≡ None
  pub unit : off_unit newest ≡ None

pub unrefused : (sectors : ℕ → ℕ) (r : Reading) → members_refusal sectors r ≡ None → IsUnrefused r.newest (fresh_from r.newest sectors 0 r.own) r.roles
unrefused sectors r none =
    let slots : List (Sb × ℕ) = fresh_from r.newest sectors 0 r.own in
    let one = both-none (unsupported slots) (first_of_all (bad_field r.newest slots ∷ two_holders slots ∷ members_missing r.newest r.roles ∷ dirty_degraded r.newest r.roles ∷ off_unit r.newest ∷ [])) none in
    let two = both-none (bad_field r.newest slots) (first_of_all (two_holders slots ∷ members_missing r.newest r.roles ∷ dirty_degraded r.newest r.roles ∷ off_unit r.newest ∷ [])) one.1 in
    let three = both-none (two_holders slots) (first_of_all (members_missing r.newest r.roles ∷ dirty_degraded r.newest r.roles ∷ off_unit r.newest ∷ [])) two.1 in
    let four = both-none (members_missing r.newest r.roles) (first_of_all (dirty_degraded r.newest r.roles ∷ off_unit r.newest ∷ [])) three.1 in
    let five = both-none (dirty_degraded r.newest r.roles) (first_of_all (off_unit r.newest ∷ [])) four.1 in
    let six = both-none (off_unit r.newest) None five.1 in
    record { fields = two.0; missing = four.0; degraded = five.0; unit = six.0 }

-- no judged field fails then
pub fields-pass : (newest : Sb) (slots : List (Sb × ℕ)) → bad_field newest slots ≡ None → find (λ (f : ℕ × Bool). f.1) (judged_fields newest slots) ≡ None
fields-pass newest slots none =
    no-map (λ (f : ℕ × Bool). BadField f.0) (find (λ (f : ℕ × Bool). f.1) (judged_fields newest slots))
    (both-none (option_map (λ (f : ℕ × Bool). BadField f.0) (find (λ (f : ℕ × Bool). f.1) (judged_fields newest slots)))
    (option_map (λ (index : ℕ). BadField (256 + 2 * index)) (first_bad_entry newest slots)) none).0

-- ---- what a reading is made of

module _ (sectors : ℕ → ℕ) (own : List (Option Sb)) (r : Reading) (says : reading_of sectors own ≡ Some r) where
  by_newest : (found : Option Sb) → newest_of own ≡ found → option_map (reading_by sectors own) found ≡ Some r
      → (newest_of own ≡ Some r.newest) × (own ≡ r.own)
  by_newest None is e = absurd (cc)
  by_newest (Some sb) is e =
      let same : reading_by sectors own sb ≡ r = cc in
      (is ∙ ap (λ (r : Reading). Some r.newest) same, ap (λ (r : Reading). r.own) same)

  pub reading-made : (newest_of own ≡ Some r.newest) × (own ≡ r.own)
  reading-made = by_newest (newest_of own) refl says

-- ---- an election

module _ (sectors : ℕ → ℕ) (own : List (Option Sb)) (lost : ℕ) (m : Members) (elected : IsElected sectors own lost m) where
  pub elected-passes : members_refusal sectors (reading_in (length own) m) ≡ None
  elected-passes = sym (ap (λ (found : Option Reading). option_map_or (members_refusal sectors) found (Some NoSuperblock)) elected.says) ∙ elected.accepted

  pub elected-unrefused : IsUnrefused m.newest (fresh_from m.newest sectors 0 (reading_in (length own) m).own) m.roles
  elected-unrefused = unrefused sectors (reading_in (length own) m) elected-passes

  pub elected-valid : AreValidShapes m.newest
  elected-valid = valid-shapes m.newest (fresh_from m.newest sectors 0 (reading_in (length own) m).own) elected-unrefused.fields

  -- no more roles are missing than a shape in force can do without
  pub elected-does : DoWithout m
  elected-does =
      let none = no-map (λ (shape : Shape). MembersMissing (missing_count m.roles shape) (tolerance shape)) (find (too_many m.roles) (shapes_in_force m.newest)) elected-unrefused.missing in
      let both = found-none (too_many m.roles) (shape_of m.newest) (target_of m.newest) none in
      record {
        old = within-few (tolerance (shape_of m.newest)) (missing_count m.roles (shape_of m.newest)) both.0;
        final = within-few (tolerance (final_shape m.newest)) (missing_count m.roles (final_shape m.newest)) both.1;
      }
