-- Which of the shapes on the way to a target decide whether a field is within its limits.
use Rattle.std.proofs.Common.{◌≡◌, ℕ, Bool, true, false, not, ◌||◌, cond, [], ◌∷◌, ◌++◌, Some, None, refl, sym, ap, subst, ◌∙◌, inl, inr, arith}
use Rattle.std.specs.Prelude.{IsTrue, ◌==◌}
use Rattle.std.proofs.lemmas.Bool.{cases_Bool, and_parts, eqb-true, cond-true, cond-false, not_from_true, not_from_false}
use Rattle.std.proofs.lemmas.Bool.Decides.{nat_tests}
use Rattle.reshape_geometry.specs.raid_types_the_Shape.{Shape}
use Rattle.reshape_geometry.specs.raid_types_the_Phase_TheVariants.{Reshape, UpTo6, DownTo5}
use Rattle.reshape_geometry.specs.raid_types_the_ShapeField_TheVariants.{Level, Layout, Chunk, Disks}
use Rattle.reshape_geometry.specs.raid_types_Shapes.{is_level, is_layout, is_chunk, is_disk_count, is_valid_shape}
use Rattle.reshape_plan.specs.Plans.{is_same_shape, as_six, taken_up, before_down, reshape_unless_same, phases_to, some_shape, bad_field, has_bad_disks}

pub same_shape : (a b : Shape) → is_same_shape a b ≡ true → a ≡ b
same_shape a b e =
    let p1 = and_parts _ _ e in
    let p2 = and_parts _ _ p1.0 in
    let p3 = and_parts _ _ p2.0 in
    let level : a.level ≡ b.level = eqb-true _ _ p3.0 in
    let layout : a.layout ≡ b.layout = eqb-true _ _ p3.1 in
    let chunk : a.chunk ≡ b.chunk = eqb-true _ _ p2.1 in
    let disks : a.disks ≡ b.disks = eqb-true _ _ p1.1 in
    let s1 : (let x : Shape = record { level = a.level; layout = a.layout; chunk = a.chunk; disks = a.disks } in x) ≡ record { level = b.level; layout = b.layout; chunk = b.chunk; disks = b.disks } = cc in
    s1

-- ---- the phases in each of the three cases

pub phases_same : (now : Shape) (level : ℕ) (to : Shape) → (level == now.level) ≡ true → phases_to now level to ≡ Reshape to ∷ []
phases_same now level to e = cond-true (level == now.level) _ _ e

pub phases_up : (now : Shape) (level : ℕ) (to : Shape) → (level == now.level) ≡ false → (level == 6) ≡ true → phases_to now level to ≡ UpTo6 (taken_up now) ∷ reshape_unless_same (taken_up now) to
phases_up now level to e f = cond-false (level == now.level) _ _ e ∙ cond-true (level == 6) _ _ f

pub phases_down : (now : Shape) (level : ℕ) (to : Shape) → (level == now.level) ≡ false → (level == 6) ≡ false → phases_to now level to ≡ reshape_unless_same now (before_down to) ++ DownTo5 to ∷ []
phases_down now level to e f = cond-false (level == now.level) _ _ e ∙ cond-false (level == 6) _ _ f

-- ---- the target decides

or_none : (b : Bool) → (b || false) ≡ b
or_none true = refl
or_none false = refl

up_rest : (s : Bool) (fails : Shape → Bool) (to : Shape) → (s ≡ true → fails to ≡ false) → some_shape fails (cond s [] (Reshape to ∷ [])) ≡ fails to
up_rest true fails to same = sym (same refl)
up_rest false fails to same = or_none (fails to)

-- up: the shape that is taken up passes, so the target decides
up_decides : (now to : Shape) (fails : Shape → Bool) → fails (taken_up now) ≡ false → some_shape fails (UpTo6 (taken_up now) ∷ reshape_unless_same (taken_up now) to) ≡ fails to
up_decides now to fails passes =
    ap (λ (b : Bool). b || some_shape fails (reshape_unless_same (taken_up now) to)) passes
    ∙ up_rest (is_same_shape (taken_up now) to) fails to (λ e. ap fails (sym (same_shape (taken_up now) to e)) ∙ passes)

two_fail : (a b : Bool) → (b ≡ false → a ≡ false) → (a || (b || false)) ≡ b
two_fail true true h = refl
two_fail true false h = h refl
two_fail false true h = refl
two_fail false false h = refl

down_rest : (s : Bool) (fails : Shape → Bool) (from to : Shape) → (fails to ≡ false → fails from ≡ false) → some_shape fails (cond s [] (Reshape from ∷ []) ++ DownTo5 to ∷ []) ≡ fails to
down_rest true fails from to h = or_none (fails to)
down_rest false fails from to h = two_fail (fails from) (fails to) h

-- the target decides wherever the shapes of its takeover pass with it
pub decides : (now : Shape) (level : ℕ) (to : Shape) (fails : Shape → Bool)
    → ((level == now.level) ≡ false → (level == 6) ≡ true → fails (taken_up now) ≡ false)
    → ((level == now.level) ≡ false → (level == 6) ≡ false → fails to ≡ false → fails (before_down to) ≡ false)
    → some_shape fails (phases_to now level to) ≡ fails to
decides now level to fails up down =
    elim (cases_Bool (level == now.level)) [
      | inl same ↦ ap (some_shape fails) (phases_same now level to same) ∙ or_none (fails to)
      | inr other ↦ elim (cases_Bool (level == 6)) [
        | inl six ↦ ap (some_shape fails) (phases_up now level to other six) ∙ up_decides now to fails (up other six)
        | inr five ↦ ap (some_shape fails) (phases_down now level to other five) ∙ down_rest (is_same_shape now (before_down to)) fails (before_down to) to (down other five)
      ]
    ]

-- ---- layouts and chunks

pub six_layout : (layout : ℕ) → is_layout 5 layout ≡ true → is_layout 6 (as_six layout) ≡ true
six_layout layout e = grind (arith, nat_tests)

pub valid_parts : (s : Shape) → IsTrue (is_valid_shape s) → (is_level s.level ≡ true) × (is_layout s.level s.layout ≡ true) × (is_chunk s.chunk ≡ true) × (is_disk_count s.level s.disks ≡ true)
valid_parts s valid =
    let p1 = and_parts _ _ valid in
    let p2 = and_parts _ _ p1.0 in
    let p3 = and_parts _ _ p2.0 in
    (p3.0, p3.1, p2.1, p1.1)

-- a level within the limits that isn't 6 is 5
pub five_of : (level : ℕ) → is_level level ≡ true → (level == 6) ≡ false → level ≡ 5
five_of level e ne = grind (arith, nat_tests)

-- where another level is wished, and it is 6, the present one is 5
pub now_five : (now level : ℕ) → is_level now ≡ true → (level == now) ≡ false → (level == 6) ≡ true → now ≡ 5
now_five now level e ne six = grind (arith, nat_tests)

pub not_not : (b : Bool) → not b ≡ false → b ≡ true
not_not true e = refl
not_not false e = sym e

pub layout_decides : (now : Shape) (level : ℕ) (to : Shape) → IsTrue (is_valid_shape now) → is_level level ≡ true → to.level ≡ level
    → some_shape (λ s. not (is_layout s.level s.layout)) (phases_to now level to) ≡ not (is_layout level to.layout)
layout_decides now level to valid good at =
    let n = valid_parts now valid in
    decides now level to (λ s. not (is_layout s.level s.layout))
    (λ other six. not_from_true _ (six_layout now.layout (subst (λ (l : ℕ). is_layout l now.layout ≡ true) (now_five now.level level n.0 other six) n.1)))
    (λ other five passes. not_from_true _ (six_layout to.layout (subst (λ (l : ℕ). is_layout l to.layout ≡ true) (at ∙ five_of level good five) (not_not _ passes))))
    ∙ ap (λ (l : ℕ). not (is_layout l to.layout)) at

pub chunk_decides : (now : Shape) (level : ℕ) (to : Shape) → IsTrue (is_valid_shape now)
    → some_shape (λ s. not (is_chunk s.chunk)) (phases_to now level to) ≡ not (is_chunk to.chunk)
chunk_decides now level to valid =
    let n = valid_parts now valid in
    decides now level to (λ s. not (is_chunk s.chunk)) (λ other six. not_from_true _ n.2) (λ other five passes. passes)

-- ---- the first bad field

pub good_level : (now : Shape) (level : ℕ) (to : Shape) → is_level level ≡ true
    → bad_field now level to ≡ cond (some_shape (λ s. not (is_layout s.level s.layout)) (phases_to now level to)) (Some Layout) (cond (some_shape (λ s. not (is_chunk s.chunk)) (phases_to now level to)) (Some Chunk) (cond (has_bad_disks now level to) (Some Disks) None))
good_level now level to e = cond-false (not (is_level level)) _ _ (not_from_true _ e)

-- with a good level, the first bad field by the target's layout and chunk
pub by_target : (now : Shape) (level : ℕ) (to : Shape) → IsTrue (is_valid_shape now) → is_level level ≡ true → to.level ≡ level
    → bad_field now level to ≡ cond (not (is_layout level to.layout)) (Some Layout) (cond (not (is_chunk to.chunk)) (Some Chunk) (cond (has_bad_disks now level to) (Some Disks) None))
by_target now level to valid e at =
    good_level now level to e
    ∙ ap (λ (b : Bool). cond b (Some Layout) (cond (some_shape (λ s. not (is_chunk s.chunk)) (phases_to now level to)) (Some Chunk) (cond (has_bad_disks now level to) (Some Disks) None))) (layout_decides now level to valid e at)
    ∙ ap (λ (b : Bool). cond (not (is_layout level to.layout)) (Some Layout) (cond b (Some Chunk) (cond (has_bad_disks now level to) (Some Disks) None))) (chunk_decides now level to valid)

pub layout_bad : (now : Shape) (level : ℕ) (to : Shape) → IsTrue (is_valid_shape now) → is_level level ≡ true → to.level ≡ level → is_layout level to.layout ≡ false → Some Layout ≡ bad_field now level to
layout_bad now level to valid e at l =
    sym (by_target now level to valid e at ∙ ap (λ (b : Bool). cond (not b) (Some Layout) (cond (not (is_chunk to.chunk)) (Some Chunk) (cond (has_bad_disks now level to) (Some Disks) None))) l)

good_layout : (now : Shape) (level : ℕ) (to : Shape) → IsTrue (is_valid_shape now) → is_level level ≡ true → to.level ≡ level → is_layout level to.layout ≡ true
    → bad_field now level to ≡ cond (not (is_chunk to.chunk)) (Some Chunk) (cond (has_bad_disks now level to) (Some Disks) None)
good_layout now level to valid e at l =
    by_target now level to valid e at ∙ ap (λ (b : Bool). cond (not b) (Some Layout) (cond (not (is_chunk to.chunk)) (Some Chunk) (cond (has_bad_disks now level to) (Some Disks) None))) l

pub chunk_bad : (now : Shape) (level : ℕ) (to : Shape) → IsTrue (is_valid_shape now) → is_level level ≡ true → to.level ≡ level → is_layout level to.layout ≡ true → is_chunk to.chunk ≡ false → Some Chunk ≡ bad_field now level to
chunk_bad now level to valid e at l h =
    sym (good_layout now level to valid e at l ∙ ap (λ (b : Bool). cond (not b) (Some Chunk) (cond (has_bad_disks now level to) (Some Disks) None)) h)

pub by_disks : (now : Shape) (level : ℕ) (to : Shape) → IsTrue (is_valid_shape now) → is_level level ≡ true → to.level ≡ level → is_layout level to.layout ≡ true → is_chunk to.chunk ≡ true
    → (d : Bool) → has_bad_disks now level to ≡ d → bad_field now level to ≡ cond d (Some Disks) None
by_disks now level to valid e at l h d hd =
    good_layout now level to valid e at l
    ∙ ap (λ (b : Bool). cond (not b) (Some Chunk) (cond (has_bad_disks now level to) (Some Disks) None)) h
    ∙ ap (λ (b : Bool). cond b (Some Disks) None) hd

-- what no bad field tells
pub record IsGood (now : Shape) (level : ℕ) (to : Shape) : Type 0 where
  pub good : is_level level ≡ true
  pub layout : is_layout level to.layout ≡ true
  pub chunk : is_chunk to.chunk ≡ true
  pub disks : has_bad_disks now level to ≡ false

level_bad : (now : Shape) (level : ℕ) (to : Shape) → is_level level ≡ false → Some Level ≡ bad_field now level to
level_bad now level to e = sym (cond-true (not (is_level level)) _ _ (not_from_false _ e))

pub good_from : (now : Shape) (level : ℕ) (to : Shape) → IsTrue (is_valid_shape now) → (is_level level ≡ true → to.level ≡ level) → bad_field now level to ≡ None → IsGood now level to
good_from now level to valid levelled none =
    elim (cases_Bool (is_level level)) [
      | inr bad ↦ (let e = level_bad now level to bad in absurd (cc))
      | inl good ↦ elim (cases_Bool (is_layout level to.layout)) [
        | inr bad ↦ (let e = layout_bad now level to valid good (levelled good) bad in absurd (cc))
        | inl layout ↦ elim (cases_Bool (is_chunk to.chunk)) [
          | inr bad ↦ (let e = chunk_bad now level to valid good (levelled good) layout bad in absurd (cc))
          | inl chunk ↦ elim (cases_Bool (has_bad_disks now level to)) [
            | inl bad ↦ (let e = by_disks now level to valid good (levelled good) layout chunk true bad in absurd (cc))
            | inr disks ↦ record { good = good; layout = layout; chunk = chunk; disks = disks }
          ]
        ]
      ]
    ]
