-- When a sector reads alike from two contents, of two readings, at two offsets.
use Rattle.std.proofs.Common.{◌≡◌, inl, inr, ℕ, ◌+◌, ◌-◌, ◌<◌, ◌≤◌, Bool, true, false, cond, ltb, Option, Some, None, unwrap_or, option_map, refl, sym, ap, ap₂, ◌∙◌, arith}
use Rattle.std.proofs.lemmas.Bool.Decides.{nat_tests}
use Rattle.std.specs.Option.{option_map_or}
use Rattle.history.specs.raid_types_the_Shape.{Shape}
use Rattle.history.specs.raid_types_the_Side.{Side}
use Rattle.history.specs.raid_types_the_Side_TheVariants.{Old, New}
use Rattle.history.specs.raid_types_Sectors.{Sector}
use Rattle.history.specs.raid_types_Shapes.{is_valid_shape}
use Rattle.history.specs.bank_Tape.{Contents}
use Rattle.history.specs.raid_layout_Layout.{place, row_roles}
use Rattle.history.specs.raid_parity_Parity.{fill}
use Rattle.history.specs.reshape_geometry_Geometry.{side}
use Rattle.history.specs.sb_specs_Reading.{Reading, is_reshaping, is_backward, shape_of, final_shape, role_state, rows_held, holder, data_offset_of}
use Rattle.history.specs.Stands.{shape_for, shape_at}
use Rattle.history.proofs.raid_layout_Places.{place-role_below}
use Rattle.history.proofs.raid_parity_Columns.{tabulate-same}
use Rattle.crash_shift_views.specs.Shifted.{has_shift, down_by, shift_in, own_shift, shift_for, new_offset_of, offset_at, offset_for, held_from, placed_from, shifted_sector}
use Rattle.crash_shift_views.specs.Steps.{PlainImagesReadAlike, AreRolesAlike, BeginsReadAlike, EndsReadAlike, EndingSlotsKeepTheirPlace}

mapped : (o : Option ℕ) (f g : ℕ → Sector) → ((s : ℕ) → o ≡ Some s → f s ≡ g s) → option_map f o ≡ option_map g o
mapped None f g same = refl
mapped (Some s) f g same = ap (λ v. Some v) (same s refl)

-- ---- one sector

module _ (one two : ℕ → ℕ) (c e : Contents) (r q : Reading) (shape : Shape) (valid : is_valid_shape shape ≡ true) (x : ℕ)
    (alike : AreRolesAlike shape r q)
    (cells : (role slot : ℕ) → role < shape.disks → holder (role_state r role) ≡ Some slot → e slot (two slot + (place shape x).row) ≡ c slot (one slot + (place shape x).row)) where
  held-alike : (role : ℕ) → role < shape.disks → held_from two e q role (place shape x).row ≡ held_from one c r role (place shape x).row
  held-alike role lt =
      ap (λ state. cond (ltb (place shape x).row (rows_held q state)) (option_map (λ slot. e slot (two slot + (place shape x).row)) (holder state)) None) (alike.roles role lt)
      ∙ ap (λ n. cond (ltb (place shape x).row n) (option_map (λ slot. e slot (two slot + (place shape x).row)) (holder (role_state r role))) None) (alike.rows role lt)
      ∙ ap (λ o. cond (ltb (place shape x).row (rows_held r (role_state r role))) o None)
      (mapped (holder (role_state r role)) (λ slot. e slot (two slot + (place shape x).row)) (λ slot. c slot (one slot + (place shape x).row)) (λ s is. cells role s lt is))

  pub placed-alike : placed_from two e q shape x ≡ placed_from one c r shape x
  placed-alike =
      ap₂ (λ o row. unwrap_or o (fill (row_roles shape (place shape x).row) row (place shape x).role)) (held-alike (place shape x).role (place-role_below shape valid x))
      (tabulate-same shape.disks (λ role. held_from two e q role (place shape x).row) (λ role. held_from one c r role (place shape x).row) (λ role lt. held-alike role lt))

pub alike-self : (shape : Shape) (r : Reading) → AreRolesAlike shape r r
alike-self shape r = record { roles = λ role lt. refl; rows = λ role lt. refl }

-- ---- where a sector is read

pub still-is : (c : Contents) (r : Reading) (x : ℕ) → is_reshaping r.newest ≡ false → shifted_sector c r x ≡ placed_from (new_offset_of r) c r (shape_of r.newest) x
still-is c r x still =
    ap₂ (λ (o : ℕ → ℕ) s. placed_from o c r s x)
    (ap (λ b. cond b (offset_at r (side (is_backward r.newest) r.newest.reshape_position x)) (new_offset_of r)) still)
    (ap (λ b. cond b (shape_at r.newest (side (is_backward r.newest) r.newest.reshape_position x)) (shape_of r.newest)) still)

pub side-is : (c : Contents) (r : Reading) (x : ℕ) (s : Side) → is_reshaping r.newest ≡ true → is_backward r.newest ≡ false → side false r.newest.reshape_position x ≡ s
    → shifted_sector c r x ≡ placed_from (offset_at r s) c r (shape_at r.newest s) x
side-is c r x s active forth is =
    let here : side (is_backward r.newest) r.newest.reshape_position x ≡ s = ap (λ b. side b r.newest.reshape_position x) forth ∙ is in
    ap₂ (λ (o : ℕ → ℕ) shape. placed_from o c r shape x)
    (ap (λ b. cond b (offset_at r (side (is_backward r.newest) r.newest.reshape_position x)) (new_offset_of r)) active ∙ ap (λ t. offset_at r t) here)
    (ap (λ b. cond b (shape_at r.newest (side (is_backward r.newest) r.newest.reshape_position x)) (shape_of r.newest)) active ∙ ap (λ t. shape_at r.newest t) here)

pub below-is-new : (p x : ℕ) → x < p → side false p x ≡ New
below-is-new p x lt = of (ltb x p) refl
  where
    of : (b : Bool) → ltb x p ≡ b → ◌≡◌ {A = Side} (cond b New Old) New
    of true e = refl
    of false e = absurd (grind (arith, nat_tests, e, lt))

pub above-is-old : (p x : ℕ) → p ≤ x → side false p x ≡ Old
above-is-old p x le = of (ltb x p) refl
  where
    of : (b : Bool) → ltb x p ≡ b → ◌≡◌ {A = Side} (cond b New Old) Old
    of true e = absurd (grind (arith, nat_tests, e, le))
    of false e = refl

-- ---- plain images

plain-offset : (r : Reading) (slot : ℕ) → has_shift r.newest ≡ false → own_shift r slot ≡ 0 → new_offset_of r slot ≡ data_offset_of r slot
plain-offset r slot plain own =
    let zero : shift_for r slot ≡ 0 = ap (λ b. cond b (down_by r.newest.new_offset) (own_shift r slot)) plain ∙ own in
    omega (arith, zero)

pub plain-alike : PlainImagesReadAlike
plain-alike c r x plain own = ap (λ (o : ℕ → ℕ). placed_from o c r (shape_for r.newest x) x) (λ i slot. offsets slot i)
  where
    at : (s : Side) (slot : ℕ) → offset_at r s slot ≡ data_offset_of r slot
    at Old slot = refl
    at New slot = plain-offset r slot plain (own slot)

    by : (b : Bool) (s : Side) (slot : ℕ) → (cond b (offset_at r s) (new_offset_of r)) slot ≡ data_offset_of r slot
    by true s slot = at s slot
    by false s slot = plain-offset r slot plain (own slot)

    offsets : (slot : ℕ) → offset_for r x slot ≡ data_offset_of r slot
    offsets slot = by (is_reshaping r.newest) (side (is_backward r.newest) r.newest.reshape_position x) slot

-- ---- the begin

pub begun-alike : BeginsReadAlike
begun-alike c r q x begun =
    let is_old : side false q.newest.reshape_position x ≡ Old = above-is-old q.newest.reshape_position x (omega (arith, begun.first)) in
    side-is c q x Old begun.active begun.forth is_old
    ∙ ap (λ s. placed_from (data_offset_of q) c q s x) begun.shape
    ∙ placed-alike (new_offset_of r) (data_offset_of q) c c r q (shape_of r.newest) begun.valid x begun.alike
    (λ role slot lt is. ap (λ n. c slot (n + (place (shape_of r.newest) x).row)) (begun.offsets slot ∙ sym (plain-offset r slot begun.plain (begun.own slot))))
    ∙ sym (still-is c r x begun.still)

-- ---- the end

pub ended-alike : EndsReadAlike
ended-alike c r q x ended lt =
    let is_new : side false r.newest.reshape_position x ≡ New = below-is-new r.newest.reshape_position x (omega (arith, lt, ended.last)) in
    still-is c q x ended.still
    ∙ ap (λ s. placed_from (new_offset_of q) c q s x) ended.shape
    ∙ placed-alike (new_offset_of r) (new_offset_of q) c c r q (final_shape r.newest) ended.valid x ended.alike
    (λ role slot below is. ap (λ n. c slot (n + (place (final_shape r.newest) x).row)) (ended.offsets role slot is))
    ∙ sym (side-is c r x New ended.active ended.forth is_new)

pub ending-slots : EndingSlotsKeepTheirPlace
ending-slots r q slot shifted plain (inl before) =
    let offset : data_offset_of q slot ≡ data_offset_of r slot = ap (λ o. option_map_or (λ sb. sb.data_offset) o 0) (before.own ∙ sym before.was) in
    let by_q : shift_for q slot ≡ down_by r.newest.new_offset =
    ap (λ b. cond b (down_by q.newest.new_offset) (own_shift q slot)) plain
    ∙ ap (λ o. option_map_or shift_in o 0) before.own
    ∙ ap (λ b. cond b (down_by before.sb.new_offset) 0) before.shifted ∙ ap down_by before.same in
    let by_r : shift_for r slot ≡ down_by r.newest.new_offset = ap (λ b. cond b (down_by r.newest.new_offset) (own_shift r slot)) shifted in
    ap₂ (λ (n m : ℕ). n - m) offset (by_q ∙ sym by_r)
ending-slots r q slot shifted plain (inr moved) =
    let offset : data_offset_of q slot ≡ data_offset_of r slot - down_by r.newest.new_offset = ap (λ o. option_map_or (λ sb. sb.data_offset) o 0) moved.own ∙ moved.moved in
    let by_q : shift_for q slot ≡ 0 =
    ap (λ b. cond b (down_by q.newest.new_offset) (own_shift q slot)) plain
    ∙ ap (λ o. option_map_or shift_in o 0) moved.own
    ∙ ap (λ b. cond b (down_by moved.sb.new_offset) 0) moved.plain in
    let by_r : shift_for r slot ≡ down_by r.newest.new_offset = ap (λ b. cond b (down_by r.newest.new_offset) (own_shift r slot)) shifted in
    omega (arith, offset, by_q, by_r)
