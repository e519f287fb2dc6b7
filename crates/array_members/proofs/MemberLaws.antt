-- An array whose roles are whole, as its members say it, and what the loss of slots leaves of it.
use Rattle.std.proofs.Common.{◌≡◌, ◌≢◌, ◌⊎◌, inl, inr, ℕ, zero, suc, ◌<◌, ◌≤◌, ◌==◌, ◌||◌, Bool, true, false, not, cond, if◌then◌else◌, List, [], ◌∷◌, map, bit_or, max, Option, Some, unwrap_or, refl, sym, ◌∙◌, ap, subst, arith}
use Rattle.std.specs.Prelude.{◌^◌}
use Rattle.std.specs.Int.{bit_at}
use Rattle.std.specs.Option.{option_map_or}
use Rattle.std.specs.List.{list_any}
use Rattle.std.proofs.lemmas.Bool.{cases_lt}
use Rattle.std.proofs.lemmas.Bool.Decides.{nat_tests}
use Rattle.std.proofs.lemmas.Nat.{mul-le}
use Rattle.std.proofs.lemmas.Nat.Bits.{bit_at_or}
use Rattle.crash_role_laws.specs.raid_types_the_Shape.{Shape}
use Rattle.crash_role_laws.specs.raid_types_the_Role.{Role}
use Rattle.crash_role_laws.specs.raid_types_the_Role_TheVariants.{Whole, Recovering, Missing}
use Rattle.crash_role_laws.specs.raid_types_Search.{count_below}
use Rattle.crash_role_laws.specs.raid_types_Shapes.{has_slot, data_disks}
use Rattle.crash_role_laws.specs.bank_Given.{Given, NeverFalls}
use Rattle.crash_role_laws.proofs.raid_layout_Limits.{limited}
use Rattle.crash_role_laws.proofs.raid_parity_Columns.{bool_cases}
use Rattle.crash_role_laws.specs.sb_specs_the_Members.{Members}
use Rattle.crash_role_laws.specs.sb_specs_Reading.{role_state, holder, shape_of, is_whole, role_count}
use Rattle.crash_role_laws.specs.sb_specs_Update.{is_held_by}
use Rattle.crash_role_laws.proofs.sb_specs_SlotSets.{same_set, none_there}
use Rattle.crash_role_laws.specs.stripe_row_Rows.{reading_of, is_missing, missing_count, role_without, members_without, HaveFailed}
use Rattle.crash_role_laws.proofs.stripe_row_Losses.{state_after, state_kept, holder-after}
use Rattle.crash_role_laws.proofs.stripe_row_Written.{members_without-none}
use Rattle.crash_role_laws.proofs.stripe_row_Tables.{count_below-above, length-mapped}
use Rattle.array_members.specs.Whole.{AreFit, placed, list_size}
use Rattle.array_members.specs.Placed.{places_of, AreWhole, IsPlaced, AreLess, AreLost, IsInForce}
use Rattle.crash_role_laws.specs.crash_safety_laws_Steady.{AreUnlost}
use Rattle.array_members.proofs.HeldRows.{rows-same}
use Rattle.array_members.proofs.Fit.{reshape-same, valid, force-disks, multiple, short}

-- ---- the roles

whole_by : (state : Role) → not (is_whole state) ≡ false → state ≡ Whole (unwrap_or (holder state) 0)
whole_by (Whole slot) not = refl
whole_by (Recovering slot) not = absurd (cc)
whole_by Missing not = absurd (cc)

module _ (given : Given) (m : Members) (is : IsPlaced given m) (whole : AreWhole m) where
  pub state-is : (role : ℕ) → role < role_count m.newest → role_state (reading_of m) role ≡ Whole ((places_of m).slot role)
  state-is role lt = whole_by (role_state (reading_of m) role) (whole role lt)

  pub holder-is : (role : ℕ) → role < role_count m.newest → holder (role_state (reading_of m) role) ≡ Some ((places_of m).slot role)
  holder-is role lt = ap holder (state-is role lt)

  count_none : (n : ℕ) (test : ℕ → Bool) → ((k : ℕ) → k < n → test k ≡ false) → count_below n test ≡ 0
  unfolding count_below
  count_none zero test none = refl
  count_none (suc n) test none =
      let before : count_below n test ≡ 0 = count_none n test (λ k lt. none k (omega (arith, lt))) in
      let last : ◌≡◌ {A = ℕ} (cond (test n) 1 0) 0 = ap (λ (b : Bool). cond b 1 0) (none n (omega arith)) in
      omega (arith, before, last)

  pub none_missing : (shape : Shape) → IsInForce m.newest shape → missing_count (reading_of m) shape ≡ 0
  none_missing shape force = count_none shape.disks (is_missing (reading_of m)) (λ role lt. let within = force-disks m.newest is.fit shape force in whole role (omega (arith, lt, within)))

pub fit-of : (given : Given) (m : Members) → IsPlaced given m → AreFit (places_of m)
fit-of given m is = record { valid = valid given m is; multiple = multiple given m is; short = short given m is }

pub list-few : (given : Given) (m : Members) → IsPlaced given m → list_size (places_of m) ≤ 2 ^ 52
list-few given m placed =
    let most = (limited (shape_of m.newest) (valid given m placed)).most in
    let few : data_disks (shape_of m.newest) ≤ 16 = omega (arith, most) in
    let all = mul-le (data_disks (shape_of m.newest)) m.newest.size 16 (2 ^ 48) few (short given m placed) in
    omega (arith, all)

-- ---- losses

some_or_none : (n : ℕ) (test : ℕ → Bool) → ((s : ℕ) × (test s ≡ true)) ⊎ ((s : ℕ) → s < n → test s ≡ false)
some_or_none zero test = inr (λ s lt. absurd (omega (arith, lt)))
some_or_none (suc n) test = by (bool_cases (test n)) (some_or_none n test)
  where
    by : (test n ≡ true) ⊎ (test n ≡ false) → ((s : ℕ) × (test s ≡ true)) ⊎ ((s : ℕ) → s < n → test s ≡ false) → ((s : ℕ) × (test s ≡ true)) ⊎ ((s : ℕ) → s < suc n → test s ≡ false)
    by (inl here) before = inl (n, here)
    by (inr none) (inl some) = inl some
    by (inr none) (inr before) = inr (λ s lt. elim (cases_lt s n) [
      | inl below ↦ before s below
      | inr above ↦ let same : s ≡ n = omega (arith, lt, above) in ap test same ∙ none
    ])

-- a set that isn't empty has a slot
pub some_slot : (lost : ℕ) → ((s : ℕ) → has_slot lost s ≡ true → s < 32) → lost ≢ 0 → (s : ℕ) × (has_slot lost s ≡ true)
some_slot lost small not = by (some_or_none 32 (has_slot lost))
  where
    by : ((s : ℕ) × (has_slot lost s ≡ true)) ⊎ ((s : ℕ) → s < 32 → has_slot lost s ≡ false) → (s : ℕ) × (has_slot lost s ≡ true)
    by (inl some) = some
    by (inr none) = absurd (not (same_set lost 0 (λ s. at s (bool_cases (has_slot lost s)) ∙ sym (none_there s))))
      where
        at : (s : ℕ) → (has_slot lost s ≡ true) ⊎ (has_slot lost s ≡ false) → has_slot lost s ≡ false
        at s (inl here) = none s (small s here)
        at s (inr gone) = gone

-- no loss leaves the members as they are
pub without-none : (m : Members) → members_without 0 m ≡ m
without-none m = sym (members_without-none m)

missing_of : (lost s : ℕ) (state : Role) → holder state ≡ Some s → has_slot lost s ≡ true → role_without lost state ≡ Missing
missing_of lost s state held gone =
    ap (λ (o : Option ℕ). if option_map_or (has_slot lost) o false then Missing else state) held ∙ ap (λ (b : Bool). if b then Missing else state) gone

-- a slot that is live afterwards was so before
held_before : (lost slot : ℕ) (state : Role) → is_held_by slot (role_without lost state) ≡ true → is_held_by slot state ≡ true
held_before lost slot state held = by (option_map_or (has_slot lost) (holder state) false) refl
  where
    by : (b : Bool) → option_map_or (has_slot lost) (holder state) false ≡ b → is_held_by slot state ≡ true
    by true bit = absurd (let e = ap (λ (b : Bool). is_held_by slot (if b then Missing else state)) (sym bit) ∙ held in cc)
    by false bit = ap (λ (b : Bool). is_held_by slot (if b then Missing else state)) (sym bit) ∙ held

or_more : (a b c d : Bool) → (a || b) ≡ true → (a ≡ true → c ≡ true) → (b ≡ true → d ≡ true) → (c || d) ≡ true
or_more true b true d either one two = refl
or_more true b false d either one two = absurd (let e = one refl in cc)
or_more false true true d either one two = refl
or_more false true false d either one two = two refl
or_more false false c d either one two = absurd (cc)

any_before : (lost slot : ℕ) (roles : List Role) → list_any (is_held_by slot) (map (role_without lost) roles) ≡ true → list_any (is_held_by slot) roles ≡ true
any_before lost slot [] held = held
any_before lost slot (state ∷ roles) held =
    or_more (is_held_by slot (role_without lost state)) (list_any (is_held_by slot) (map (role_without lost) roles)) (is_held_by slot state) (list_any (is_held_by slot) roles) held
    (held_before lost slot state) (any_before lost slot roles)

pub placed-without : (given : Given) (m : Members) (lost : ℕ) → IsPlaced given m → IsPlaced given (members_without lost m)
placed-without given m lost is = record {
  fit = is.fit;
  roles = length-mapped (role_without lost) m.roles ∙ is.roles;
  holders = λ role slot held.
      let was = is.holders role slot (holder-after m lost role slot held) in
      record { small = was.small; known = was.known; short = was.short; within = was.within };
  behind = λ role slot held. is.behind role slot (holder-after m lost role slot held);
  apart = λ a b slot one two. is.apart a b slot (holder-after m lost a slot one) (holder-after m lost b slot two);
  live = λ slot held. is.live slot (live_before slot held);
}
  where
    live_before : (slot : ℕ) → (list_any (is_held_by slot) (map (role_without lost) m.roles) || list_any (λ spare. spare == slot) m.spares) ≡ true
        → (list_any (is_held_by slot) m.roles || list_any (λ spare. spare == slot) m.spares) ≡ true
    live_before slot held = or_more (list_any (is_held_by slot) (map (role_without lost) m.roles)) (list_any (λ spare. spare == slot) m.spares)
        (list_any (is_held_by slot) m.roles) (list_any (λ spare. spare == slot) m.spares) held (any_before lost slot m.roles) (λ e. e)

-- such members say the same of the array, but for the lost roles
pub less-without : (m : Members) (lost : ℕ) → AreLess lost m (members_without lost m)
less-without m lost = record {
  reshape = reshape-same m.newest;
  shape = refl;
  size = refl;
  roles = refl;
  offsets = λ slot. refl;
  rows = rows-same (reading_of (members_without lost m)) (reading_of m) refl refl (λ slot. refl);
}

neither : (m a b : ℕ) → m ≡ max a b → (a == 1) ≡ false → (b == 1) ≡ false → (m == 1) ≡ false
neither m a b is no_a no_b = grind (arith, nat_tests)

-- no slot that still holds a role was lost
pub unlost-without : (m : Members) (lost : ℕ) → AreUnlost m → AreUnlost (members_without lost m)
unlost-without m lost unlost role slot held =
    let kept = state_kept lost slot (role_state (reading_of m) role) (ap holder (sym (state_after m lost role)) ∙ held) in
    neither (bit_at (bit_or m.lost lost) slot) (bit_at m.lost slot) (bit_at lost slot) (bit_at_or m.lost lost slot) (unlost role slot kept.holder) kept.here

-- what the loss of these slots leaves
pub are_lost : (given : Given) (shape : Shape) (old new : Members) (lost : ℕ) (before after : ℕ → ℕ) → IsPlaced given old → new ≡ members_without lost old
    → HaveFailed (reading_of old) shape.disks lost before after → NeverFalls before after → AreLost given shape old new lost before after
are_lost given shape old new lost before after is without failed never = record {
  members = without;
  kept = λ none. without ∙ ap (λ (n : ℕ). members_without n old) none ∙ without-none old;
  failed = failed;
  missing = λ some.
      let one = some_slot lost (λ s gone. let f = failed s gone in (is.holders f.1 s f.3).small) some in
      let f = failed one.0 one.1 in
      let gone : is_missing (reading_of (members_without lost old)) f.1 ≡ true =
      ap (λ (s : Role). not (is_whole s)) (state_after old lost f.1 ∙ missing_of lost one.0 (role_state (reading_of old) f.1) f.3 one.1) in
      let above = count_below-above shape.disks f.1 (is_missing (reading_of (members_without lost old))) f.2 gone in
      subst (λ (m : Members). 0 < missing_count (reading_of m) shape) (sym without) (omega (arith, above));
  placed = subst (IsPlaced given) (sym without) (placed-without given old lost is);
  never_falls = never;
}
