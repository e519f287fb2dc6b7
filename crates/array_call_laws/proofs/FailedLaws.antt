-- A slot that is taken out of an array.
use Rattle.std.proofs.Common.{◌≡◌, ◌⊎◌, inl, inr, ℕ, ◌+◌, ◌<◌, ◌≤◌, ◌==◌, ◌||◌, Bool, true, false, not, cond, List, length, Option, Some, None, is_some, refl, sym, ◌∙◌, ap, subst, arith}
use Rattle.std.proofs.lemmas.Bool.Decides.{nat_tests}
use Rattle.std.proofs.lemmas.Bool.{eqb-true}
use Rattle.std.specs.Option.{option_map_or}
use Rattle.array_call_specs.specs.raid_types_Shapes.{has_slot}
use Rattle.array_call_specs.specs.raid_types_the_Role.{Role}
use Rattle.array_call_specs.specs.raid_types_the_Role_TheVariants.{Missing}
use Rattle.array_call_specs.specs.bank_Given.{Given}
use Rattle.array_call_specs.specs.sb_specs_the_Members.{Members}
use Rattle.array_call_specs.specs.sb_specs_Reading.{is_clean, role_state, holder}
use Rattle.array_call_specs.specs.stripe_row_Rows.{reading_of, role_without, members_without}
use Rattle.array_call_specs.proofs.stripe_row_Losses.{state_after}
use Rattle.array_call_specs.specs.array_members_Placed.{is_unassigned, IsPlaced}
use Rattle.array_call_specs.specs.crash_safety_laws_Steady.{AreUnlost, IsSafeOver}
use Rattle.array_call_specs.specs.array_members_Moving.{IsMoved}
use Rattle.array_call_specs.proofs.array_members_MemberLaws.{placed-without, unlost-without}
use Rattle.array_call_specs.proofs.array_members_MovedLaws.{moved-without}
use Rattle.array_call_specs.specs.bank_Tape.{disk}
use Rattle.array_call_specs.specs.bank_the_Operation.{Operation}
use Rattle.array_call_specs.specs.history_Sound.{OpensFit}
use Rattle.array_call_specs.specs.crash_safety_laws_Safety.{HasLiveSlot, IsRisen}
use Rattle.array_call_specs.proofs.KeptLaws.{NamesSafe}
use Rattle.array_call_specs.proofs.array_members_LackingLaws.{holder-without}
use Rattle.array_call_specs.proofs.crash_safety_laws_Steady.{losing-stays-safe}
use Rattle.array_call_specs.proofs.array_members_Still.{told-same}
use Rattle.array_call_specs.proofs.crash_safety_laws_Without.{in-both, live-before}
use Rattle.std.specs.Prelude.{◌^◌}
use Rattle.array_call_specs.specs.sb_specs_Reads.{has_spare}

module _ (given : Given) (m mid : Members) (lost slot role : ℕ) (was : IsPlaced given m) (unlost : AreUnlost m) (is : mid ≡ members_without lost m) (alone : (s : ℕ) → has_slot lost s ≡ (slot == s))
    (held : holder (role_state (reading_of m) role) ≡ Some slot) where
  pub placed-out : IsPlaced given mid
  placed-out = subst (IsPlaced given) (sym is) (placed-without given m lost was)

  pub unlost-out : AreUnlost mid
  unlost-out = subst AreUnlost (sym is) (unlost-without m lost unlost)

  pub moved-out : IsMoved given m mid
  moved-out = subst (IsMoved given m) (sym is) (moved-without given m lost was unlost (λ s gone. (role, held ∙ ap (λ (n : ℕ). Some n) (eqb-true slot s (sym (alone s) ∙ gone)))))

  itself : (n : ℕ) → (n == n) ≡ true
  itself n = grind (arith, nat_tests)

  -- no slot holds its role
  pub out-vacant : is_unassigned (reading_of mid) role ≡ true
  out-vacant = subst (λ (x : Members). is_unassigned (reading_of x) role ≡ true) (sym is)
      (ap (λ (s : Role). not (is_some (holder s))) (state_after m lost role ∙ ap (λ (h : Option ℕ). cond (option_map_or (has_slot lost) h false) Missing (role_state (reading_of m) role)) held
      ∙ ap (λ (b : Bool). cond b Missing (role_state (reading_of m) role)) (alone slot ∙ itself slot)))

  -- the spares are as they were
  pub out-spares : (s : ℕ) → has_spare m.spares s ≡ true → has_spare mid.spares s ≡ true
  out-spares s has = subst (λ (x : Members). has_spare x.spares s ≡ true) (sym is) has

  -- and of the others those alone that had none before
  pub out-only : (other : ℕ) → is_unassigned (reading_of mid) other ≡ true → (is_unassigned (reading_of m) other ≡ true) ⊎ (other ≡ role)
  out-only other none = by (holder (role_state (reading_of m) other)) refl
    where
      now : not (is_some (holder (role_without lost (role_state (reading_of m) other)))) ≡ true
      now = ap (λ (s : Role). not (is_some (holder s))) (sym (state_after m lost other)) ∙ subst (λ (x : Members). is_unassigned (reading_of x) other ≡ true) is none

      by : (found : Option ℕ) → holder (role_state (reading_of m) other) ≡ found → (is_unassigned (reading_of m) other ≡ true) ⊎ (other ≡ role)
      by None state = inl (ap (λ (h : Option ℕ). not (is_some h)) state)
      by (Some s) state = of (has_slot lost s) refl
        where
          of : (b : Bool) → has_slot lost s ≡ b → (is_unassigned (reading_of m) other ≡ true) ⊎ (other ≡ role)
          of true gone =
              let same : slot ≡ s = eqb-true slot s (sym (alone s) ∙ gone) in
              inr (was.apart other role slot (state ∙ ap (λ (n : ℕ). Some n) (sym same)) held)
          of false kept = absurd (
              let e = ap (λ (h : Option ℕ). not (is_some h)) (sym (holder-without lost s (role_state (reading_of m) other) state kept)) ∙ now in cc)

-- ---- what naming it does

module _ (m mid : Members) (lost : ℕ) (is : mid ≡ members_without lost m) where
  pub clean-out : is_clean mid.newest ≡ is_clean m.newest
  clean-out = ap (λ (x : Members). is_clean x.newest) is

  live-out : HasLiveSlot mid → HasLiveSlot m
  live-out live = of (subst HasLiveSlot is live)
    where
      first : (a b : Bool) → (a || b) ≡ false → a ≡ false
      first false b e = refl
      first true b e = e

      of : HasLiveSlot (members_without lost m) → HasLiveSlot m
      of left = (left.0, live-before m lost false left.0 left.1, first (has_slot m.lost left.0) (has_slot lost left.0) (sym (in-both m.lost lost left.0) ∙ left.2))

  pub rise-out : {tells : Type 0} (new : Members) (before after : List Operation) → IsRisen tells mid new before after → IsRisen tells m new before after
  rise-out new before after rise = record {
    left = λ live. live-out (rise.left live);
    events = λ t live. subst (λ (x : Members). new.newest.events + length before ≤ x.newest.events + length after) is (rise.events t live);
  }

  -- the array is as safe as it was before its slot was taken out
  pub named-out : {tells : Type 0} (given : Given) (new : Members) (before after : List Operation) → NamesSafe tells given mid new before after → NamesSafe tells given m new before after
  named-out given new before after named t world told room gone unclean safe =
      named t world told
      (λ live. subst (λ (x : Members). x.newest.events + length after < 2 ^ 62 + length before) (sym is) (room (live-out live))) gone
      (λ dirty. unclean (sym clean-out ∙ dirty))
      (subst (λ (x : Members). IsSafeOver world given told x before) (sym is)
      (losing-stays-safe (OpensFit world) world.scope given lost told told m (disk given.start before) (told-same told) safe))
