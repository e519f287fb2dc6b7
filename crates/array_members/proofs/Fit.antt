-- What the shapes in force give: their numbers, and the rows that a call on them asks for.
use Rattle.std.proofs.Common.{◌≡◌, inl, inr, ℕ, ◌*◌, ◌^◌, ◌≤◌, ◌==◌, nat_le, max, min, true, false, not, ◌||◌, cond, length, Option, Some, None, refl, sym, ◌∙◌, ap, subst, arith}
use Rattle.std.specs.Prelude.{IsTrue}
use Rattle.std.proofs.lemmas.Bool.{and_parts}
use Rattle.std.proofs.lemmas.Bool.Decides.{nat_tests}
use Rattle.crash_role_laws.specs.raid_types_the_Shape.{Shape}
use Rattle.crash_role_laws.specs.raid_types_the_Refusal.{Refusal}
use Rattle.crash_role_laws.specs.raid_types_the_Refusal_TheVariants.{PositionNotOnUnit}
use Rattle.crash_role_laws.specs.raid_types_Shapes.{is_valid_shape, is_multiple, data_disks}
use Rattle.crash_role_laws.specs.bank_Given.{Given}
use Rattle.crash_role_laws.specs.sb_codec_the_Sb.{Sb}
use Rattle.crash_role_laws.specs.reshape_geometry_Geometry.{is_size, unit, side}
use Rattle.crash_role_laws.specs.sb_specs_the_Members.{Members}
use Rattle.crash_role_laws.specs.sb_specs_Reading.{is_reshaping, is_backward, shape_of, final_shape, role_count, list_length}
use Rattle.crash_role_laws.specs.history_Stands.{shape_at, shape_for}
use Rattle.crash_role_laws.specs.raid_types_the_Side.{Side}
use Rattle.crash_role_laws.specs.raid_types_the_Side_TheVariants.{Old, New}
use Rattle.crash_role_laws.specs.sb_specs_Reads.{SaysSame}
use Rattle.crash_role_laws.proofs.sb_specs_ValidFields.{few-roles}
use Rattle.crash_role_laws.specs.stripe_row_Rows.{reading_of}
use Rattle.crash_role_laws.specs.stripe_list_Calls.{HasRows}
use Rattle.crash_role_laws.specs.crash_views_Regions.{AreShapesFit}
use Rattle.crash_role_laws.proofs.crash_views_Alike.{final-alike}
use Rattle.crash_role_laws.proofs.crash_views_Stands.{final-still}
use Rattle.array_members.specs.Placed.{IsPlaced, IsInForce, HaveSameReshape}

-- ---- a superblock whose shapes fit

module _ (newest : Sb) (fit : AreShapesFit newest) where
  pub fit-valid : IsTrue (is_valid_shape (shape_of newest))
  fit-valid = fit.valid.old

  pub fit-multiple : IsTrue (is_multiple newest.size (shape_of newest).chunk)
  fit-multiple = (and_parts _ _ fit.size).1

  pub fit-short : newest.size ≤ 2 ^ 48
  fit-short = let most : nat_le newest.size (2 ^ 48) ≡ true = (and_parts _ _ (and_parts _ _ fit.size).0).1 in grind (arith, nat_tests, most)

  pub fit-some : 1 ≤ newest.size
  fit-some = let least : nat_le 1 newest.size ≡ true = (and_parts _ _ (and_parts _ _ fit.size).0).0 in grind (arith, nat_tests, least)

  -- so it is of each shape in force
  pub force-valid : (shape : Shape) → IsInForce newest shape → IsTrue (is_valid_shape shape)
  force-valid shape (inl same) = subst (λ (s : Shape). IsTrue (is_valid_shape s)) (sym same) fit.valid.old
  force-valid shape (inr same) = subst (λ (s : Shape). IsTrue (is_valid_shape s)) (sym same) fit.valid.final

  pub force-multiple : (shape : Shape) → IsInForce newest shape → IsTrue (is_multiple newest.size shape.chunk)
  force-multiple shape (inl same) = subst (λ (s : Shape). IsTrue (is_multiple newest.size s.chunk)) (sym same) fit-multiple
  force-multiple shape (inr same) = subst (λ (s : Shape). IsTrue (is_multiple newest.size s.chunk)) (sym same) ((and_parts _ _ fit.final_size).1)

  pub force-disks : (shape : Shape) → IsInForce newest shape → shape.disks ≤ role_count newest
  force-disks shape (inl same) = subst (λ (s : Shape). s.disks ≤ role_count newest) (sym same) (lower (shape_of newest).disks (final_shape newest).disks)
    where
      lower : (a b : ℕ) → a ≤ max a b
      lower a b = omega arith
  force-disks shape (inr same) = subst (λ (s : Shape). s.disks ≤ role_count newest) (sym same) (upper (shape_of newest).disks (final_shape newest).disks)
    where
      upper : (a b : ℕ) → b ≤ max a b
      upper a b = omega arith

-- ---- members that are placed

module _ (given : Given) (m : Members) (placed : IsPlaced given m) where
  pub valid : IsTrue (is_valid_shape (shape_of m.newest))
  valid = fit-valid m.newest placed.fit

  pub multiple : IsTrue (is_multiple m.newest.size (shape_of m.newest).chunk)
  multiple = fit-multiple m.newest placed.fit

  pub short : m.newest.size ≤ 2 ^ 48
  short = fit-short m.newest placed.fit

  pub few : length m.roles ≤ 16
  few = subst (λ (n : ℕ). n ≤ 16) (sym placed.roles) (few-roles m.newest placed.fit.valid)

  -- each shape in force has its roles
  pub disks-within : (shape : Shape) → IsInForce m.newest shape → shape.disks ≤ length m.roles
  disks-within shape is = subst (λ (n : ℕ). shape.disks ≤ n) (sym placed.roles) (force-disks m.newest placed.fit shape is)

  pub has-rows : (shape : Shape) → IsInForce m.newest shape → HasRows given (reading_of m) shape
  has-rows shape is = record {
    valid = force-valid m.newest placed.fit shape is;
    multiple = force-multiple m.newest placed.fit shape is;
    short = short;
    roles = disks-within shape is;
    few = few;
    holders = placed.holders;
  }

  -- without a reshape the roles are those of the one shape
  pub roles-still : is_reshaping m.newest ≡ false → length m.roles ≡ (shape_of m.newest).disks
  roles-still still = placed.roles ∙ ap (λ (s : Shape). max (shape_of m.newest).disks s.disks) (final-still m.newest still) ∙ same (shape_of m.newest).disks
    where
      same : (n : ℕ) → max n n ≡ n
      same n = grind (arith, nat_tests)

-- ---- superblocks that say the same of the shapes

-- the shape of a side, of two
abbrev at-side : Shape → Shape → Side → Shape
at-side old new Old = old
at-side old new New = new

at-side-is : (sb : Sb) (s : Side) → shape_at sb s ≡ at-side (shape_of sb) (final_shape sb) s
at-side-is sb Old = refl
at-side-is sb New = refl

module _ (old new : Sb) (reshape : HaveSameReshape old new) (shape : shape_of new ≡ shape_of old) (size : new.size ≡ old.size) where
  pub count-alike : role_count new ≡ role_count old
  count-alike i = max (shape i).disks (reshape.final i).disks

  pub list-alike : list_length new ≡ list_length old
  list-alike i = min (data_disks (shape i)) (data_disks (reshape.final i)) * size i

  -- each sector is placed by the same shape
  pub for-alike : (x : ℕ) → shape_for new x ≡ shape_for old x
  for-alike x =
      ap (λ (s : Shape). cond (is_reshaping new) s (shape_of new)) (at-side-is new (side (is_backward new) new.reshape_position x))
      ∙ (λ i. cond (reshape.reshaping i) (at-side (shape i) (reshape.final i) (side (reshape.backward i) (reshape.position i) x)) (shape i))
      ∙ ap (λ (s : Shape). cond (is_reshaping old) s (shape_of old)) (sym (at-side-is old (side (is_backward old) old.reshape_position x)))

  pub force-alike : (s : Shape) → IsInForce new s → IsInForce old s
  force-alike s (inl same) = inl (same ∙ shape)
  force-alike s (inr same) = inr (same ∙ reshape.final)

  pub alike-force : (s : Shape) → IsInForce old s → IsInForce new s
  alike-force s (inl same) = inl (same ∙ sym shape)
  alike-force s (inr same) = inr (same ∙ sym reshape.final)

  pub fit-alike : AreShapesFit old → AreShapesFit new
  fit-alike fit = record {
    valid = record { old = ap is_valid_shape shape ∙ fit.valid.old; final = ap is_valid_shape reshape.final ∙ fit.valid.final };
    size = (λ i. is_size (size i) (shape i).chunk) ∙ fit.size;
    final_size = (λ i. is_size (size i) (reshape.final i).chunk) ∙ fit.final_size;
    level = ap (λ (s : Shape). s.level) reshape.final ∙ fit.level ∙ ap (λ (s : Shape). s.level) (sym shape);
    unit = unit-same ∙ fit.unit;
    position = λ active. rw reshape.position (rw list-alike (fit.position (sym reshape.reshaping ∙ active)));
    delta = λ active forth. subst₂-le (ap (λ (s : Shape). s.disks) shape) (ap (λ (s : Shape). s.disks) reshape.final) (fit.delta (sym reshape.reshaping ∙ active) (sym reshape.backward ∙ forth));
    delta_back = λ active back. subst₂-le (ap (λ (s : Shape). s.disks) reshape.final) (ap (λ (s : Shape). s.disks) shape) (fit.delta_back (sym reshape.reshaping ∙ active) (sym reshape.backward ∙ back));
  }
    where
      subst₂-le : {a b c d : ℕ} → a ≡ b → c ≡ d → b ≤ d → a ≤ c
      subst₂-le ab cd le = omega (arith, ab, cd, le)

      unit-same : ◌≡◌ {A = Option Refusal}
          (cond (not (is_reshaping new) || is_multiple new.reshape_position (unit (shape_of new) (final_shape new)) || (new.reshape_position == list_length new)) None (Some (PositionNotOnUnit new.reshape_position (unit (shape_of new) (final_shape new)))))
          (cond (not (is_reshaping old) || is_multiple old.reshape_position (unit (shape_of old) (final_shape old)) || (old.reshape_position == list_length old)) None (Some (PositionNotOnUnit old.reshape_position (unit (shape_of old) (final_shape old)))))
      unit-same i = cond (not (reshape.reshaping i) || is_multiple (reshape.position i) (unit (shape i) (reshape.final i)) || (reshape.position i == list-alike i)) None
          (Some (PositionNotOnUnit (reshape.position i) (unit (shape i) (reshape.final i))))

-- the same of both, and one after another
pub reshape-same : (newest : Sb) → HaveSameReshape newest newest
reshape-same newest = record { reshaping = refl; final = refl; position = refl; backward = refl }

pub reshape-then : (a b c : Sb) → HaveSameReshape a b → HaveSameReshape b c → HaveSameReshape a c
reshape-then a b c one two = record { reshaping = two.reshaping ∙ one.reshaping; final = two.final ∙ one.final; position = two.position ∙ one.position; backward = two.backward ∙ one.backward }

pub reshape-said : (old new : Sb) → SaysSame old new → HaveSameReshape old new
reshape-said old new says = record { reshaping = sym says.reshaping; final = sym (final-alike old new says); position = sym says.reshape_position; backward = sym says.backward }
