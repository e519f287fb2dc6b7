-- The planned view of a takeover is right.
use Rattle.std.proofs.Common.{◌≡◌, ◌⊎◌, inl, inr, ℕ, suc, ◌+◌, ◌*◌, ◌≤◌, Bool, true, false, cond, sym, ◌∙◌, ap, subst, arith}
use Rattle.std.specs.Prelude.{IsTrue}
use Rattle.crash_safety_laws.specs.sb_codec_the_Sb.{Sb}
use Rattle.crash_safety_laws.specs.raid_types_the_Shape.{Shape}
use Rattle.crash_safety_laws.specs.raid_types_Search.{count_below}
use Rattle.crash_safety_laws.specs.raid_types_Shapes.{data_disks, tolerance, tolerance_of, is_valid_shape}
use Rattle.crash_safety_laws.specs.reshape_plan_Plans.{taken_up}
use Rattle.crash_safety_laws.specs.sb_specs_the_Members.{Members}
use Rattle.crash_safety_laws.specs.sb_specs_Reading.{is_reshaping, shape_of, list_length}
use Rattle.crash_safety_laws.specs.stripe_row_Rows.{reading_of, is_missing, IsTolerated}
use Rattle.crash_safety_laws.specs.history_Stands.{shape_for}
use Rattle.crash_safety_laws.specs.crash_views_Regions.{DoWithout}
use Rattle.crash_reshape_laws.specs.Ends.{IsPlacedAs, AreRolesKept}
use Rattle.crash_reshape_laws.specs.Takeovers.{IsTakenUp, IsTakenDown, TakeoversPlaceAlike, TakeoversAreRight, TakeoversAreSeenRight}
use Rattle.crash_safety_laws.proofs.crash_views_Stands.{for-still, final-still, list-still}
use Rattle.crash_reshape_laws.proofs.EndLaws.{alike-plans, still-plain, fewer-pass}
use Rattle.crash_safety_laws.proofs.LessViews.{updates-seen}
use Rattle.crash_reshape_laws.proofs.TakenShapes.{taken-alike, taken-over}

-- one role more is missing at most
one-more : (n : ℕ) (f : ℕ → Bool) → count_below (n + 1) f ≡ count_below n f + cond (f n) 1 0
unfolding count_below
one-more n f = ap (λ (k : ℕ). count_below k f) (next n)
  where
    next : (n : ℕ) → n + 1 ≡ suc n
    next n = omega arith

bit-small : (b : Bool) → cond b 1 0 ≤ 1
bit-small true = omega arith
bit-small false = omega arith

pub place-alike : TakeoversPlaceAlike
place-alike scope given m plan former placed (inl up) = record {
  within = (let a = long-after in let b = long-before in omega (arith, a, b));
  shapes = λ x lt. subst (λ (s : Shape). IsPlacedAs s (shape_for plan.newest x)) (sym (for-still m.newest up.still x))
      (subst (IsPlacedAs (shape_of m.newest)) (sym (after-is x)) (taken-alike (shape_of m.newest) former.fit.valid.old valid up.five).0);
  kept = λ x lt. subst (λ (s : Shape). AreRolesKept m plan s.disks (shape_for plan.newest x).disks) (sym (for-still m.newest up.still x))
      (subst (λ (s : Shape). AreRolesKept m plan (shape_of m.newest).disks s.disks) (sym (after-is x)) up.kept);
}
  where
    valid : IsTrue (is_valid_shape (taken_up (shape_of m.newest)))
    valid = subst (λ (s : Shape). IsTrue (is_valid_shape s)) up.shape placed.fit.valid.old

    after-is : (x : ℕ) → shape_for plan.newest x ≡ taken_up (shape_of m.newest)
    after-is x = for-still plan.newest up.still_too x ∙ up.shape

    long-before : list_length m.newest ≡ data_disks (shape_of m.newest) * m.newest.size
    long-before = list-still m.newest up.still

    long-after : list_length plan.newest ≡ data_disks (shape_of m.newest) * m.newest.size
    long-after = list-still plan.newest up.still_too ∙ (λ i. data_disks (up.shape i) * up.size i) ∙ ap (λ (n : ℕ). n * m.newest.size) (taken-over (shape_of m.newest) former.fit.valid.old up.five).deep
place-alike scope given m plan former placed (inr down) = record {
  within = (let a = long-after in let b = long-before in omega (arith, a, b));
  shapes = λ x lt. subst (λ (s : Shape). IsPlacedAs s (shape_for plan.newest x)) (sym (before-is x))
      (subst (IsPlacedAs (taken_up (shape_of plan.newest))) (sym (for-still plan.newest down.still_too x)) (taken-alike (shape_of plan.newest) placed.fit.valid.old valid down.five).1);
  kept = λ x lt. subst (λ (s : Shape). AreRolesKept m plan s.disks (shape_for plan.newest x).disks) (sym (before-is x))
      (subst (λ (s : Shape). AreRolesKept m plan ((shape_of plan.newest).disks + 1) s.disks) (sym (for-still plan.newest down.still_too x)) down.kept);
}
  where
    valid : IsTrue (is_valid_shape (taken_up (shape_of plan.newest)))
    valid = subst (λ (s : Shape). IsTrue (is_valid_shape s)) down.shape former.fit.valid.old

    before-is : (x : ℕ) → shape_for m.newest x ≡ taken_up (shape_of plan.newest)
    before-is x = for-still m.newest down.still x ∙ down.shape

    long-before : list_length m.newest ≡ data_disks (shape_of plan.newest) * plan.newest.size
    long-before = list-still m.newest down.still ∙ (λ i. data_disks (down.shape i) * sym down.size i) ∙ ap (λ (n : ℕ). n * plan.newest.size) (taken-over (shape_of plan.newest) placed.fit.valid.old down.five).deep

    long-after : list_length plan.newest ≡ data_disks (shape_of plan.newest) * plan.newest.size
    long-after = list-still plan.newest down.still_too

-- where the plan does without what it misses, the members did
both-shapes : (m : Members) → is_reshaping m.newest ≡ false → IsTolerated (reading_of m) (shape_of m.newest) → DoWithout m
both-shapes m still few = record { old = few; final = subst (IsTolerated (reading_of m)) (sym (final-still m.newest still)) few }

without-up : (m plan : Members) → IsTakenUp m plan → DoWithout plan → DoWithout m
without-up m plan up few = both-shapes m up.still (
    let six : IsTolerated (reading_of plan) (taken_up (shape_of m.newest)) = subst (IsTolerated (reading_of plan)) up.shape few.old in
    let more = one-more (shape_of m.newest).disks (is_missing (reading_of plan)) in
    let last : ◌≡◌ {A = ℕ} (cond (is_missing (reading_of plan) (shape_of m.newest).disks) 1 0) 1 = ap (λ (b : Bool). cond b 1 0) up.last in
    let le = fewer-pass (shape_of m.newest).disks (is_missing (reading_of m)) (is_missing (reading_of plan)) up.missing in
    let t : tolerance (shape_of m.newest) ≡ 1 = ap tolerance_of up.five in
    omega (arith, six, more, last, le, t))

without-down : (m plan : Members) → IsTakenDown m plan → DoWithout plan → DoWithout m
without-down m plan down few = both-shapes m down.still (subst (IsTolerated (reading_of m)) (sym down.shape) (
    let five : IsTolerated (reading_of plan) (shape_of plan.newest) = few.old in
    let more = one-more (shape_of plan.newest).disks (is_missing (reading_of m)) in
    let small = bit-small (is_missing (reading_of m) (shape_of plan.newest).disks) in
    let le = fewer-pass (shape_of plan.newest).disks (is_missing (reading_of m)) (is_missing (reading_of plan)) down.missing in
    let t : tolerance (shape_of plan.newest) ≡ 1 = ap tolerance_of down.five in
    omega (arith, five, more, small, le, t)))

pub takeovers : (sound : Type 0) → TakeoversAreRight sound
takeovers sound scope given before after m plan d way placed told right = alike-plans sound scope given before after m plan d (record {
  alike = place-alike scope given m plan right.placed placed way;
  placed = placed;
  told = told;
  clean = clean way;
  former = still-plain scope m d (still way);
  plain = still-plain scope plan d (still-too way);
  without = without way;
  headers = λ active. absurd (no plan.newest active (still-too way));
  tails = λ x tail. absurd (no plan.newest tail.active (still-too way));
}) right
  where
    clean : IsTakenUp m plan ⊎ IsTakenDown m plan → plan.newest.resync_offset ≡ m.newest.resync_offset
    clean (inl up) = up.clean
    clean (inr down) = down.clean

    still : IsTakenUp m plan ⊎ IsTakenDown m plan → is_reshaping m.newest ≡ false
    still (inl up) = up.still
    still (inr down) = down.still

    still-too : IsTakenUp m plan ⊎ IsTakenDown m plan → is_reshaping plan.newest ≡ false
    still-too (inl up) = up.still_too
    still-too (inr down) = down.still_too

    without : IsTakenUp m plan ⊎ IsTakenDown m plan → DoWithout plan → DoWithout m
    without (inl up) = without-up m plan up
    without (inr down) = without-down m plan down

    no : (newest : Sb) → is_reshaping newest ≡ true → is_reshaping newest ≡ false → ⊥
    no newest active none = absurd (cc)

pub takeovers-seen : (sound : Type 0) → TakeoversAreSeenRight sound
takeovers-seen sound scope given before after m plan d e c way placed told some updating right reads =
    updates-seen sound scope given before after m plan d e c some updating right (takeovers sound scope given before after m plan d way placed told right) reads
