-- Where no field is bad and the size fits, each phase leads from a valid shape to a valid one.
use Rattle.std.proofs.Common.{◌≡◌, ℕ, ◌<◌, ◌^◌, Bool, true, false, not, cond, List, [], ◌∷◌, ◌++◌, None, refl, sym, ap, subst, ◌∙◌, inl, inr, arith}
use Rattle.std.specs.Prelude.{IsTrue, ◌==◌}
use Rattle.std.proofs.lemmas.Bool.{cases_Bool, and_parts, and_from, or_parts, eqb-true, cond-true, cond-false}
use Rattle.std.proofs.lemmas.Bool.Decides.{nat_tests}
use Rattle.reshape_geometry.specs.raid_types_the_Shape.{Shape}
use Rattle.reshape_geometry.specs.raid_types_the_Wish.{Wish}
use Rattle.reshape_geometry.specs.raid_types_the_Phase.{Phase}
use Rattle.reshape_geometry.specs.raid_types_the_Phase_TheVariants.{Reshape, DownTo5}
use Rattle.reshape_geometry.specs.raid_types_Shapes.{is_level, is_layout, is_chunk, is_disk_count, is_valid_shape, is_multiple}
use Rattle.reshape_geometry.specs.Geometry.{AreInForce, is_size}
use Rattle.reshape_plan.specs.Plans.{is_same_shape, taken_up, before_down, phases_to, some_shape, target, wished_level, bad_field, phases, last_shape, AreSound}
use Rattle.reshape_plan.proofs.Judged.{IsGood, good_from, same_shape, phases_same, phases_up, phases_down, valid_parts, six_layout, five_of, now_five, not_not}

-- a shape with all its fields within the limits, over a size that its chunk divides
record Fits (s : Shape) (size : ℕ) : Type 0 where
  valid : is_valid_shape s ≡ true
  sized : is_size size s.chunk ≡ true

in_force : (a b : Shape) (size : ℕ) → Fits a size → Fits b size → AreInForce a b size
in_force a b size f g = record { old_valid = f.valid; new_valid = g.valid; old_size = f.sized; new_size = g.sized }

valid_from : (s : Shape) → is_level s.level ≡ true → is_layout s.level s.layout ≡ true → is_chunk s.chunk ≡ true → is_disk_count s.level s.disks ≡ true → is_valid_shape s ≡ true
valid_from s a b c d = and_from _ _ (and_from _ _ (and_from _ _ a b) c) d

abbrev bad_count : Shape → Bool
bad_count s = not (is_disk_count s.level s.disks)

-- the size is within its limits, whatever chunk divides it
sized_by : (size a b : ℕ) → is_size size a ≡ true → is_multiple size b ≡ true → is_size size b ≡ true
sized_by size a b e m = let p = and_parts _ _ e in and_from _ _ p.0 m

up_sound : (s : Bool) (up to : Shape) (size : ℕ) → Fits up size → (s ≡ false → Fits to size) → to.level ≡ up.level → AreSound up size (cond s [] (Reshape to ∷ []))
up_sound true up to size f g same = tt
up_sound false up to size f g same = (in_force up to size f (g refl), same, tt)

down_sound : (s : Bool) (now to : Shape) (size : ℕ) → Fits now size → (s ≡ false → Fits (before_down to) size) → Fits to size → now.level ≡ 6 → to.level ≡ 5 → (s ≡ true → now ≡ before_down to)
    → AreSound now size (cond s [] (Reshape (before_down to) ∷ []) ++ DownTo5 to ∷ [])
down_sound true now to size f g h six five same = (in_force now to size f h, (five, same refl), tt)
down_sound false now to size f g h six five same = (in_force now (before_down to) size f (g refl), sym six, (in_force (before_down to) to size (g refl) h, (five, refl), tt))

now_six : (now level : ℕ) → is_level now ≡ true → is_level level ≡ true → (level == now) ≡ false → (level == 6) ≡ false → now ≡ 6
now_six now level e f ne five = grind (arith, nat_tests)

-- the counts that pass
up_count : (s : Bool) (to : Shape) → some_shape bad_count (cond s [] (Reshape to ∷ [])) ≡ false → s ≡ false → is_disk_count to.level to.disks ≡ true
up_count true to e f = absurd (cc)
up_count false to e f = not_not _ (or_parts _ _ e).0

down_count : (s : Bool) (from to : Shape) → some_shape bad_count (cond s [] (Reshape from ∷ []) ++ DownTo5 to ∷ []) ≡ false → is_disk_count to.level to.disks ≡ true
down_count true from to e = not_not _ (or_parts _ _ e).0
down_count false from to e = not_not _ (or_parts _ _ (or_parts _ _ e).1).0

from_count : (s : Bool) (from to : Shape) → some_shape bad_count (cond s [] (Reshape from ∷ []) ++ DownTo5 to ∷ []) ≡ false → s ≡ false → is_disk_count from.level from.disks ≡ true
from_count true from to e f = absurd (cc)
from_count false from to e f = not_not _ (or_parts _ _ e).0

-- a target within the limits, and the way to it
pub record IsSoundTarget (now : Shape) (size level : ℕ) (to : Shape) : Type 0 where
  pub sound : AreSound now size (phases_to now level to)
  pub few : to.disks < 2 ^ 31

few_disks : (level disks : ℕ) → is_disk_count level disks ≡ true → disks < 2 ^ 31
few_disks level disks e = grind (arith, nat_tests)

same_few : (a b : Shape) → is_same_shape a b ≡ true → is_disk_count a.level a.disks ≡ true → b.disks < 2 ^ 31
same_few a b e count = let disks = ap (λ (s : Shape). s.disks) (same_shape a b e) in let short = few_disks a.level a.disks count in omega (arith, disks, short)

fits_target : (now : Shape) (size level : ℕ) (to : Shape) → IsGood now level to → to.level ≡ level → is_size size now.chunk ≡ true → is_multiple size to.chunk ≡ true → is_disk_count to.level to.disks ≡ true → Fits to size
fits_target now size level to g at sized multiple count = record {
  valid = valid_from to (subst (λ (l : ℕ). is_level l ≡ true) (sym at) g.good) (subst (λ (l : ℕ). is_layout l to.layout ≡ true) (sym at) g.layout) g.chunk count;
  sized = sized_by size now.chunk to.chunk sized multiple;
}

pub sound_target : (now : Shape) (size level : ℕ) (to : Shape) → IsTrue (is_valid_shape now) → is_size size now.chunk ≡ true → to.level ≡ level → IsGood now level to → is_multiple size to.chunk ≡ true → IsSoundTarget now size level to
sound_target now size level to valid sized at g multiple =
    let n = valid_parts now valid in
    let here : Fits now size = record { valid = valid; sized = sized } in
    let counts : some_shape bad_count (phases_to now level to) ≡ false = (or_parts _ _ g.disks).1 in
    elim (cases_Bool (level == now.level)) [
      | inl same ↦ (
          let count = not_not _ (or_parts _ _ (subst (λ (l : List Phase). some_shape bad_count l ≡ false) (phases_same now level to same) counts)).0 in
          let there = fits_target now size level to g at sized multiple count in
          record {
            sound = subst (AreSound now size) (sym (phases_same now level to same)) (in_force now to size here there, at ∙ eqb-true _ _ same, tt);
            few = few_disks to.level to.disks count;
          })
      | inr other ↦ elim (cases_Bool (level == 6)) [
        | inl six ↦ (
            let up = taken_up now in
            let list = subst (λ (l : List Phase). some_shape bad_count l ≡ false) (phases_up now level to other six) counts in
            let parts = or_parts _ _ list in
            let above : Fits up size = record { valid = valid_from up refl (six_layout now.layout (subst (λ (l : ℕ). is_layout l now.layout ≡ true) (now_five now.level level n.0 other six) n.1)) n.2 (not_not _ parts.0); sized = sized } in
            let there = λ (apart : is_same_shape up to ≡ false). fits_target now size level to g at sized multiple (up_count (is_same_shape up to) to parts.1 apart) in
            record {
              sound = subst (AreSound now size) (sym (phases_up now level to other six)) (in_force now up size here above, (now_five now.level level n.0 other six, refl), up_sound (is_same_shape up to) up to size above there (at ∙ eqb-true _ _ six));
              few = elim (cases_Bool (is_same_shape up to)) [
                | inl e ↦ same_few up to e (not_not _ parts.0)
                | inr e ↦ few_disks to.level to.disks (up_count (is_same_shape up to) to parts.1 e)
              ];
            })
        | inr five ↦ (
            let down = before_down to in
            let list = subst (λ (l : List Phase). some_shape bad_count l ≡ false) (phases_down now level to other five) counts in
            let count = down_count (is_same_shape now down) down to list in
            let there = fits_target now size level to g at sized multiple count in
            let layout = six_layout to.layout (subst (λ (l : ℕ). is_layout l to.layout ≡ true) (five_of level g.good five) g.layout) in
            let between = λ (apart : is_same_shape now down ≡ false). (let f : Fits down size = record { valid = valid_from down refl layout g.chunk (from_count (is_same_shape now down) down to list apart); sized = there.sized } in f) in
            record {
              sound = subst (AreSound now size) (sym (phases_down now level to other five)) (down_sound (is_same_shape now down) now to size here between there (now_six now.level level n.0 g.good other five) (at ∙ five_of level g.good five) (same_shape now down));
              few = few_disks to.level to.disks count;
            })
      ]
    ]

-- ---- the target of a wish

target_level : (now : Shape) (wish : Wish) → is_level (wished_level now wish) ≡ true → (target now wish).level ≡ wished_level now wish
target_level now wish e =
    elim (cases_Bool (wished_level now wish == now.level)) [
      | inl same ↦ ap (λ (s : Shape). s.level) (cond-true (wished_level now wish == now.level) _ _ same) ∙ sym (eqb-true _ _ same)
      | inr other ↦ elim (cases_Bool (wished_level now wish == 6)) [
        | inl six ↦ ap (λ (s : Shape). s.level) (cond-false (wished_level now wish == now.level) _ _ other ∙ cond-true (wished_level now wish == 6) _ _ six) ∙ sym (eqb-true _ _ six)
        | inr five ↦ ap (λ (s : Shape). s.level) (cond-false (wished_level now wish == now.level) _ _ other ∙ cond-false (wished_level now wish == 6) _ _ five) ∙ sym (five_of _ e five)
      ]
    ]

pub levelled : (now : Shape) (wish : Wish) (level : ℕ) (to : Shape) → level ≡ wished_level now wish → to ≡ target now wish → is_level level ≡ true → to.level ≡ level
levelled now wish level to el et good =
    ap (λ (s : Shape). s.level) et ∙ target_level now wish (subst (λ (l : ℕ). is_level l ≡ true) el good) ∙ sym el

pub good_target : (now : Shape) (wish : Wish) (level : ℕ) (to : Shape) → IsTrue (is_valid_shape now) → level ≡ wished_level now wish → to ≡ target now wish → bad_field now level to ≡ None → IsGood now level to
good_target now wish level to valid el et none = good_from now level to valid (levelled now wish level to el et) none

pub some_chunk : (chunk : ℕ) → is_chunk chunk ≡ true → 0 < chunk
some_chunk chunk e = grind (arith, nat_tests)

-- ---- the phases lead to the target

up_leads : (s : Bool) (up to : Shape) → (s ≡ true → up ≡ to) → last_shape up (cond s [] (Reshape to ∷ [])) ≡ to
up_leads true up to same = same refl
up_leads false up to same = refl

down_leads : (s : Bool) (now from to : Shape) → last_shape now (cond s [] (Reshape from ∷ []) ++ DownTo5 to ∷ []) ≡ to
down_leads true now from to = refl
down_leads false now from to = refl

leads : (now : Shape) (level : ℕ) (to : Shape) → last_shape now (phases_to now level to) ≡ to
leads now level to =
    elim (cases_Bool (level == now.level)) [
      | inl same ↦ ap (last_shape now) (phases_same now level to same)
      | inr other ↦ elim (cases_Bool (level == 6)) [
        | inl six ↦ ap (last_shape now) (phases_up now level to other six) ∙ up_leads (is_same_shape (taken_up now) to) (taken_up now) to (same_shape (taken_up now) to)
        | inr five ↦ ap (last_shape now) (phases_down now level to other five) ∙ down_leads (is_same_shape now (before_down to)) now (before_down to) to
      ]
    ]

pub phases_lead : (now : Shape) (wish : Wish) → last_shape now (phases now wish) ≡ target now wish
phases_lead now wish = leads now (wished_level now wish) (target now wish)
