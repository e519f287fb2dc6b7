-- An array that does without the roles that it misses has a live slot left.
use Rattle.std.proofs.Common.{◌≡◌, ◌⊎◌, inl, inr, ℕ, zero, suc, ◌+◌, ◌<◌, ◌≤◌, Bool, true, false, not, cond, List, Some, refl, arith}
use Rattle.std.proofs.lemmas.Bool.Decides.{nat_tests}
use Rattle.crash_role_laws.specs.raid_types_Search.{count_below}
use Rattle.crash_role_laws.specs.raid_types_Shapes.{is_valid_shape, tolerance_of}
use Rattle.crash_role_laws.specs.raid_types_Sectors.{Sector}
use Rattle.crash_role_laws.specs.raid_types_the_Role.{Role}
use Rattle.crash_role_laws.specs.raid_types_the_Role_TheVariants.{Whole, Recovering, Missing}
use Rattle.crash_role_laws.specs.bank_Given.{Given}
use Rattle.crash_role_laws.proofs.raid_layout_Limits.{limited}
use Rattle.crash_role_laws.specs.sb_specs_the_Members.{Members}
use Rattle.crash_role_laws.specs.sb_specs_Reading.{Scope, is_whole, shape_of, role_state, holder}
use Rattle.crash_role_laws.specs.stripe_row_Rows.{reading_of, is_missing}
use Rattle.array_members.specs.Placed.{IsPlaced}
use Rattle.crash_role_laws.specs.crash_safety_laws_Steady.{AreUnlost, IsSteady, IsSafeNow}
use Rattle.array_members.specs.Lacking.{DoesWithout}
use Rattle.crash_role_laws.specs.crash_safety_laws_Safety.{HasLiveSlot}
use Rattle.crash_role_laws.specs.crash_views_Views.{Ledger}
use Rattle.crash_role_laws.proofs.crash_safety_laws_Spent.{live-holder}
use Rattle.crash_role_laws.specs.crash_views_Regions.{DoWithout}

-- a test that fails somewhere, or passes everywhere
fails-or-all : (n : ℕ) (test : ℕ → Bool) → ((k : ℕ) × (test k ≡ false)) ⊎ (count_below n test ≡ n)
unfolding count_below
fails-or-all zero test = inr refl
fails-or-all (suc n) test = by (test n) refl (fails-or-all n test)
  where
    more : (b : Bool) (count : ℕ) → count ≡ n → b ≡ true → count + cond b 1 0 ≡ suc n
    more true count all is = omega (arith, all)
    more false count all is = absurd (cc)

    by : (b : Bool) → test n ≡ b → ((k : ℕ) × (test k ≡ false)) ⊎ (count_below n test ≡ n) → ((k : ℕ) × (test k ≡ false)) ⊎ (count_below n test + cond (test n) 1 0 ≡ suc n)
    by false is rest = inl (n, is)
    by true is (inl found) = inl found
    by true is (inr all) = inr (more (test n) (count_below n test) all is)

held-whole : (state : Role) → not (is_whole state) ≡ false → (slot : ℕ) × (holder state ≡ Some slot)
held-whole (Whole slot) e = (slot, refl)
held-whole (Recovering slot) e = absurd (cc)
held-whole Missing e = absurd (cc)

fewer : (level disks : ℕ) → (level ≡ 5) ⊎ (level ≡ 6) → 2 ≤ disks → (level ≡ 6 → 4 ≤ disks) → tolerance_of level < disks
fewer level disks (inl five) least least_6 = grind (arith, nat_tests, five, least)
fewer level disks (inr six) least least_6 = let four = least_6 six in grind (arith, nat_tests, six, four)

-- a valid shape has more disks than it can do without, so some role is held
pub some-held : (m : Members) → is_valid_shape (shape_of m.newest) ≡ true → DoesWithout (shape_of m.newest) m → (role : ℕ) × (slot : ℕ) × (holder (role_state (reading_of m) role) ≡ Some slot)
some-held m valid does = by (fails-or-all (shape_of m.newest).disks (is_missing (reading_of m)))
  where
    by : ((k : ℕ) × (is_missing (reading_of m) k ≡ false)) ⊎ (count_below (shape_of m.newest).disks (is_missing (reading_of m)) ≡ (shape_of m.newest).disks)
        → (role : ℕ) × (slot : ℕ) × (holder (role_state (reading_of m) role) ≡ Some slot)
    by (inl found) = let held = held-whole (role_state (reading_of m) found.0) found.1 in (found.0, held.0, held.1)
    by (inr all) =
        let limits = limited (shape_of m.newest) valid in
        let few = fewer (shape_of m.newest).level (shape_of m.newest).disks limits.level limits.least limits.least_6 in
        absurd (omega (arith, all, few, does))

-- a slot that holds a role is left
pub holder-left : (given : Given) (m : Members) (role slot : ℕ) → IsPlaced given m → AreUnlost m → holder (role_state (reading_of m) role) ≡ Some slot → HasLiveSlot m
holder-left given m role slot placed unlost held = (slot, live-holder given m false role slot placed.holders held, unlost role slot held)

pub without-left : (given : Given) (m : Members) → IsPlaced given m → AreUnlost m → DoWithout m → HasLiveSlot m
without-left given m placed unlost does = let held = some-held m placed.fit.valid.old does.old in holder-left given m held.0 held.1 placed unlost held.2

-- and where one is, it is steady
pub left-steady : {sound : Type 0} {scope : Scope} {given : Given} {told : Ledger} {members : Members} {d : ℕ → ℕ → List Sector} → HasLiveSlot members
    → IsSafeNow sound scope given told members d → IsSteady sound scope given told members d
left-steady left (inl steady) = steady
left-steady left (inr spent) = absurd (spent.none left)
