-- What the superblocks say once a reshape has begun.
use Rattle.std.proofs.Common.{◌≡◌, ◌⊎◌, ℕ, ◌+◌, ◌-◌, ◌*◌, ◌/◌, ◌%◌, ◌^◌, ◌<◌, ◌≤◌, ◌==◌, Bool, true, false, cond, not, ◌&&◌, ◌||◌, nat_lt, min, max, bit_and, bit_or, Option, Some, None, unwrap_or, inl, inr, refl, sym, ◌∙◌, ap, ap₂, subst, arith}
use Rattle.std.specs.Prelude.{pos, ◌-ℤ◌}
use Rattle.std.specs.Int.{bit_at}
use Rattle.std.proofs.lemmas.Nat.{div-add-mod'}
use Rattle.std.proofs.lemmas.Bool.Decides.{nat_tests}
use Rattle.std.proofs.lemmas.Nat.Bits.{bit_at_and, bit_at_or}
use Rattle.sb_update.specs.raid_types_the_Shape.{Shape}
use Rattle.sb_update.specs.raid_types_Shapes.{data_disks, tolerance_of, is_multiple, is_valid_shape}
use Rattle.sb_update.specs.sb_codec_the_Sb.{Sb}
use Rattle.sb_update.proofs.raid_layout_Limits.{limited, IsLimited}
use Rattle.sb_update.specs.reshape_geometry_Geometry.{AreInForce, list_end, is_size}
use Rattle.sb_update.specs.sb_specs_Reading.{is_reshaping, is_backward, is_zero, shape_of, final_shape, role_count, list_length, count_of}
use Rattle.sb_update.specs.raid_types_the_Refusal.{Refusal}
use Rattle.sb_update.specs.raid_types_the_Refusal_TheVariants.{PositionNotOnUnit}
use Rattle.sb_update.specs.sb_specs_Verdict.{off_unit, unit_of}
use Rattle.crash_reshape_laws.specs.crash_views_Regions.{AreShapesFit}
use Rattle.reshape_sb_updates.specs.Beginning.{goes_back, map_with_reshape, with_reshape, HasBegun}
use Rattle.reshape_sb_updates.proofs.Differences.{former-count, negative-is}

-- ---- the feature map

bits-at : (map bits i c k : ℕ) → bit_at (2 ^ 32 - 1 - (4 + 32)) i ≡ c → bit_at bits i ≡ k → bit_at (bit_or (bit_and map (2 ^ 32 - 1 - (4 + 32))) bits) i ≡ max (min (bit_at map i) c) k
bits-at map bits i c k ec ek = bit_at_or (bit_and map (2 ^ 32 - 1 - (4 + 32))) bits i ∙ ap₂ max (bit_at_and map (2 ^ 32 - 1 - (4 + 32)) i ∙ ap (min (bit_at map i)) ec) ek

only : (b k : ℕ) → max (min b 0) k ≡ k
only b k = omega arith

map-active : (map : ℕ) → (bit_at (map_with_reshape map) 2 == 1) ≡ true
map-active map = ap (λ (n : ℕ). n == 1) (bits-at map 4 2 0 1 refl refl ∙ only (bit_at map 2) 1)

map-forth : (map : ℕ) → (bit_at (map_with_reshape map) 5 == 1) ≡ false
map-forth map = ap (λ (n : ℕ). n == 1) (bits-at map 4 5 0 0 refl refl ∙ only (bit_at map 5) 0)

-- ---- its fields

module _ (sb : Sb) (to : Shape) (still : is_reshaping sb ≡ false) (forced : AreInForce (shape_of sb) to sb.size) (level : to.level ≡ sb.level) where
  abbrev Then : Sb
  Then = with_reshape to sb

  pub active : is_reshaping Then ≡ true
  active = map-active sb.feature_map

  pub old-shape : shape_of Then ≡ shape_of sb
  old-shape = ap (λ (n : ℕ). record { level = sb.level; layout = sb.layout; chunk = sb.chunksize; disks = n })
      (ap (λ (b : Bool). cond b (count_of (pos to.disks -ℤ (pos to.disks -ℤ pos (shape_of sb).disks))) to.disks) active ∙ former-count to.disks (shape_of sb).disks)

  pub new-shape : final_shape Then ≡ to
  new-shape = ap (λ (b : Bool). unwrap_or (cond b (Some (record { level = to.level; layout = to.layout; chunk = to.chunk; disks = to.disks })) None) (shape_of Then)) active

  now-limits : IsLimited (shape_of sb)
  now-limits = limited (shape_of sb) forced.old_valid

  to-limits : IsLimited to
  to-limits = limited to forced.new_valid

  -- fewer data disks are fewer disks
  fewer : nat_lt to.disks (shape_of sb).disks ≡ goes_back (shape_of sb) to
  fewer = of to.disks (shape_of sb).disks to-limits.least now-limits.least to-limits.least_6 now-limits.least_6 ∙ ap (λ (t : ℕ). nat_lt (to.disks - tolerance_of t) (data_disks (shape_of sb))) (sym level)
    where
      of : (a b : ℕ) → 2 ≤ a → 2 ≤ b → (to.level ≡ 6 → 4 ≤ a) → (sb.level ≡ 6 → 4 ≤ b) → nat_lt a b ≡ nat_lt (a - tolerance_of sb.level) (b - tolerance_of sb.level)
      of a b x y six six' = by (sb.level == 6) refl
        where
          by : (t : Bool) → (sb.level == 6) ≡ t → nat_lt a b ≡ nat_lt (a - cond t 2 1) (b - cond t 2 1)
          by true is = grind (arith, nat_tests)
          by false is = grind (arith, nat_tests)

  pub backward : is_backward Then ≡ goes_back (shape_of sb) to
  backward = ap₂ (λ (n b : Bool). n || is_zero (pos to.disks -ℤ pos (shape_of sb).disks) && b) (negative-is to.disks (shape_of sb).disks ∙ fewer) (map-forth sb.feature_map)
      ∙ counted (goes_back (shape_of sb) to) (is_zero (pos to.disks -ℤ pos (shape_of sb).disks))
    where
      counted : (a z : Bool) → (a || z && false) ≡ a
      counted true z = refl
      counted false true = refl
      counted false false = refl

  pub length-is : list_length Then ≡ list_end (shape_of sb) to sb.size
  length-is = ap₂ (λ (a b : Shape). min (data_disks a) (data_disks b) * sb.size) old-shape new-shape

  pub start : Then.reshape_position ≡ cond (is_backward Then) (list_length Then) 0
  start = ap₂ (λ (b : Bool) (n : ℕ). cond b n 0) (sym backward) (sym length-is)

  pub has-begun : HasBegun sb to Then
  has-begun = record { active = active; old = old-shape; new = new-shape; backward = backward; start = start; size = refl; clean = refl }

  pub count-is : role_count Then ≡ max (shape_of sb).disks to.disks
  count-is = ap₂ (λ (a b : Shape). max a.disks b.disks) old-shape new-shape

  -- ---- the shapes fit

  at-start : (back : Bool) → is_backward Then ≡ back → (Then.reshape_position ≡ 0) ⊎ (Then.reshape_position ≡ list_length Then)
  at-start true is = inr (start ∙ ap (λ (b : Bool). cond b (list_length Then) 0) is)
  at-start false is = inl (start ∙ ap (λ (b : Bool). cond b (list_length Then) 0) is)

  on-unit : off_unit Then ≡ None
  on-unit = subst (λ (n : ℕ). ◌≡◌ {A = Option Refusal} (cond (not (is_reshaping Then) || is_multiple n (unit_of Then) || (n == list_length Then)) None (Some (PositionNotOnUnit n (unit_of Then)))) None) refl (elim (at-start (is_backward Then) refl) [
    | inl zero-is ↦ subst (λ (n : ℕ). ◌≡◌ {A = Option Refusal} (cond (not (is_reshaping Then) || is_multiple n (unit_of Then) || (n == list_length Then)) None (Some (PositionNotOnUnit n (unit_of Then)))) None) (sym zero-is)
        (second (is_reshaping Then) (is_multiple 0 (unit_of Then)) (0 == list_length Then) (PositionNotOnUnit 0 (unit_of Then)) (zero-multiple (unit_of Then)))
    | inr end-is ↦ subst (λ (n : ℕ). ◌≡◌ {A = Option Refusal} (cond (not (is_reshaping Then) || is_multiple n (unit_of Then) || (n == list_length Then)) None (Some (PositionNotOnUnit n (unit_of Then)))) None) (sym end-is)
        (third (is_reshaping Then) (is_multiple (list_length Then) (unit_of Then)) (list_length Then == list_length Then) (PositionNotOnUnit (list_length Then) (unit_of Then)) (self (list_length Then)))
  ])
    where
      self : (n : ℕ) → (n == n) ≡ true
      self n = grind (arith, nat_tests)

      zero-multiple : (k : ℕ) → is_multiple 0 k ≡ true
      zero-multiple k = ap (λ (n : ℕ). n == 0) (none-of (0 / k * k) (0 % k) (div-add-mod' 0 k))
        where
          none-of : (a b : ℕ) → a + b ≡ 0 → a ≡ 0
          none-of a b e = omega (arith, e)

      second : (a b c : Bool) (r : Refusal) → b ≡ true → ◌≡◌ {A = Option Refusal} (cond (not a || b || c) None (Some r)) None
      second true true c r is = refl
      second false true c r is = refl
      second a false c r is = absurd (cc)

      third : (a b c : Bool) (r : Refusal) → c ≡ true → ◌≡◌ {A = Option Refusal} (cond (not a || b || c) None (Some r)) None
      third true true true r is = refl
      third true false true r is = refl
      third false b true r is = refl
      third a b false r is = absurd (cc)

  pub fits : AreShapesFit Then
  fits = record {
    valid = record { old = ap is_valid_shape old-shape ∙ forced.old_valid; final = ap is_valid_shape new-shape ∙ forced.new_valid };
    size = ap (λ (s : Shape). is_size sb.size s.chunk) old-shape ∙ forced.old_size;
    final_size = ap (λ (s : Shape). is_size sb.size s.chunk) new-shape ∙ forced.new_size;
    level = ap (λ (s : Shape). s.level) new-shape ∙ level ∙ sym (ap (λ (s : Shape). s.level) old-shape);
    unit = on-unit;
    position = λ a. elim (at-start (is_backward Then) refl) [ inl zero-is ↦ omega (arith, zero-is) | inr end-is ↦ omega (arith, end-is) ];
    delta = λ a forth. (
        let no : nat_lt to.disks (shape_of sb).disks ≡ false = fewer ∙ sym backward ∙ forth in
        let le = not-less to.disks (shape_of sb).disks no in
        let few : (shape_of Then).disks ≡ (shape_of sb).disks = ap (λ (s : Shape). s.disks) old-shape in
        let many : (final_shape Then).disks ≡ to.disks = ap (λ (s : Shape). s.disks) new-shape in
        omega (arith, le, few, many));
    delta_back = λ a back. (
        let yes : nat_lt to.disks (shape_of sb).disks ≡ true = fewer ∙ sym backward ∙ back in
        let le = is-less to.disks (shape_of sb).disks yes in
        let few : (shape_of Then).disks ≡ (shape_of sb).disks = ap (λ (s : Shape). s.disks) old-shape in
        let many : (final_shape Then).disks ≡ to.disks = ap (λ (s : Shape). s.disks) new-shape in
        omega (arith, le, few, many));
  }
    where
      not-less : (a b : ℕ) → nat_lt a b ≡ false → b ≤ a
      not-less a b isnt = grind (arith, nat_tests)

      is-less : (a b : ℕ) → nat_lt a b ≡ true → a < b
      is-less a b is = grind (arith, nat_tests)
