-- Where no live slot is left, no role is held; where a shape does without what it misses, one is.
use Rattle.std.proofs.Common.{◌≡◌, ◌⊎◌, inl, inr, ℕ, zero, suc, ◌+◌, ◌<◌, ◌≤◌, ◌&&◌, Bool, true, false, not, cond, Some, refl, ap, arith}
use Rattle.std.proofs.lemmas.Bool.Decides.{nat_tests}
use Rattle.history_invariant_laws.specs.raid_types_Search.{all_below, count_below}
use Rattle.history_invariant_laws.specs.raid_types_Shapes.{tolerance_of}
use Rattle.history_invariant_laws.specs.raid_types_the_Shape.{Shape}
use Rattle.history_invariant_laws.specs.raid_types_the_Role.{Role}
use Rattle.history_invariant_laws.specs.raid_types_the_Role_TheVariants.{Whole, Recovering, Missing}
use Rattle.reshape_progress_resync_laws.specs.bank_Given.{Given}
use Rattle.reshape_window_io.proofs.raid_layout_Limits.{limited}
use Rattle.reshape_progress_resync_laws.specs.sb_specs_the_Members.{Members}
use Rattle.reshape_progress_resync_laws.specs.sb_specs_Reading.{is_whole, role_state, holder}
use Rattle.reshape_progress_resync_laws.specs.stripe_row_Rows.{reading_of, is_missing}
use Rattle.reshape_progress_resync_laws.specs.crash_safety_laws_Safety.{HasLiveSlot}
use Rattle.reshape_progress_resync_laws.specs.crash_safety_laws_Steady.{AreUnlost}
use Rattle.reshape_progress_resync_laws.specs.array_members_Placed.{IsPlaced, IsInForce}
use Rattle.reshape_progress_resync_laws.specs.array_members_Lacking.{DoesWithout}
use Rattle.reshape_progress_resync_laws.proofs.array_members_Fit.{force-valid}
use Rattle.reshape_progress_resync_laws.proofs.array_members_LiveLeft.{holder-left}

-- all are missing
pub none-held : (given : Given) (m : Members) → IsPlaced given m → AreUnlost m → (HasLiveSlot m → ⊥) → (role : ℕ) → is_missing (reading_of m) role ≡ true
none-held given m placed unlost none role = of (role_state (reading_of m) role) refl
  where
    of : (state : Role) → role_state (reading_of m) role ≡ state → is_missing (reading_of m) role ≡ true
    of (Whole slot) is = absurd (none (holder-left given m role slot placed unlost (ap holder is)))
    of (Recovering slot) is = ap (λ (s : Role). not (is_whole s)) is
    of Missing is = ap (λ (s : Role). not (is_whole s)) is

-- what is so of each below is so of all
pub all_below-each : (n : ℕ) (test : ℕ → Bool) → ((k : ℕ) → k < n → test k ≡ true) → all_below n test ≡ true
unfolding all_below
all_below-each zero test each = refl
all_below-each (suc n) test each = both (all_below n test) (test n) (all_below-each n test (λ k lt. each k (omega (arith, lt)))) (each n (omega arith))
  where
    both : (a b : Bool) → a ≡ true → b ≡ true → (a && b) ≡ true
    both true b e f = f
    both false b e f = absurd (cc)

-- ---- where one is left

-- a test that fails somewhere, or passes everywhere
fails-or-all : (n : ℕ) (test : ℕ → Bool) → ((k : ℕ) × (test k ≡ false)) ⊎ (count_below n test ≡ n)
unfolding count_below
fails-or-all zero test = inr refl
fails-or-all (suc n) test = by (test n) refl (fails-or-all n test)
  where
    more : (b : Bool) (count : ℕ) → count ≡ n → b ≡ true → count + cond b 1 0 ≡ suc n
    more true count all is = omega (arith, all)
    more false count all is = absurd (cc)

    by : (b : Bool) → test n ≡ b → ((k : ℕ) × (test k ≡ false)) ⊎ (count_below n test ≡ n) → ((k : ℕ) × (test k ≡ false)) ⊎ (count_below n test + cond (test n) 1 0 ≡ suc n)
    by false is rest = inl (n, is)
    by true is (inl found) = inl found
    by true is (inr all) = inr (more (test n) (count_below n test) all is)

held-whole : (state : Role) → not (is_whole state) ≡ false → (slot : ℕ) × (holder state ≡ Some slot)
held-whole (Whole slot) e = (slot, refl)
held-whole (Recovering slot) e = absurd (cc)
held-whole Missing e = absurd (cc)

fewer : (level disks : ℕ) → (level ≡ 5) ⊎ (level ≡ 6) → 2 ≤ disks → (level ≡ 6 → 4 ≤ disks) → tolerance_of level < disks
fewer level disks (inl five) least least_6 = grind (arith, nat_tests, five, least)
fewer level disks (inr six) least least_6 = let four = least_6 six in grind (arith, nat_tests, six, four)

-- a shape that does without what it misses has more disks than that, so some role is held
pub shape-left : (given : Given) (m : Members) → IsPlaced given m → AreUnlost m → (shape : Shape) → IsInForce m.newest shape → DoesWithout shape m → HasLiveSlot m
shape-left given m placed unlost shape force does = by (fails-or-all shape.disks (is_missing (reading_of m)))
  where
    by : ((k : ℕ) × (is_missing (reading_of m) k ≡ false)) ⊎ (count_below shape.disks (is_missing (reading_of m)) ≡ shape.disks) → HasLiveSlot m
    by (inl found) = let held = held-whole (role_state (reading_of m) found.0) found.1 in holder-left given m found.0 held.0 placed unlost held.1
    by (inr all) =
        let limits = limited shape (force-valid m.newest placed.fit shape force) in
        let few = fewer shape.level shape.disks limits.level limits.least limits.least_6 in
        absurd (omega (arith, all, few, does))
