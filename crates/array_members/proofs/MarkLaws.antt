-- What an update that gives no slot anything else leaves of the roles, and how many spares an update leaves.
use Rattle.std.proofs.Common.{◌≡◌, ◌≢◌, ℕ, zero, suc, ◌+◌, ◌-◌, ◌<◌, ◌≤◌, Bool, true, false, not, cond, ◌&&◌, List, [], ◌∷◌, length, length-append, get_or, if◌then◌else◌, refl, sym, ap, ◌∙◌, arith, Option, Some, None, map, replicate}
use Rattle.std.specs.Option.{option_map_or}
use Rattle.std.proofs.lemmas.Bool.Decides.{nat_tests}
use Rattle.std.proofs.lemmas.List.{ext_get_or}
use Rattle.crash_role_laws.specs.raid_types_Search.{tabulate, least_below}
use Rattle.crash_role_laws.specs.raid_types_Shapes.{has_slot}
use Rattle.crash_role_laws.proofs.raid_types_Least.{least_below-none, least_below-only}
use Rattle.crash_role_laws.proofs.raid_types_Tabulated.{length-tabulate, get_or-tabulate}
use Rattle.crash_role_laws.specs.raid_types_the_Role.{Role}
use Rattle.crash_role_laws.specs.raid_types_the_Role_TheVariants.{Whole, Recovering, Missing}
use Rattle.crash_role_laws.specs.sb_specs_the_Give.{Give}
use Rattle.crash_role_laws.specs.sb_specs_the_Give_TheVariants.{Same}
use Rattle.crash_role_laws.specs.sb_specs_Reading.{holder}
use Rattle.crash_role_laws.proofs.crash_safety_laws_Kept.{give_of-same}
use Rattle.crash_role_laws.specs.sb_specs_Update.{is_held_by, role_from, give_of, planned_role}
use Rattle.crash_role_laws.specs.sb_specs_the_Change.{Change}
use Rattle.crash_role_laws.specs.sb_specs_the_Members.{Members}
use Rattle.crash_role_laws.specs.sb_specs_Outcome.{slots_below, is_same, is_planned_holder, held_state, planned_state, planned_spares}
use Rattle.crash_role_laws.specs.stripe_row_Rows.{role_without}

-- no slot holds two roles
abbrev pub Apart : List Role → Type 0
Apart roles = (a b slot : ℕ) → holder (get_or roles a Missing) ≡ Some slot → holder (get_or roles b Missing) ≡ Some slot → a ≡ b

pub held-holder : (slot : ℕ) (state : Role) → is_held_by slot state ≡ true → holder state ≡ Some slot
held-holder slot (Whole s) held = ap (λ (n : ℕ). Some n) (grind (arith, nat_tests, held))
held-holder slot (Recovering s) held = ap (λ (n : ℕ). Some n) (grind (arith, nat_tests, held))
held-holder slot Missing held = absurd (cc)

pub holder-held : (slot : ℕ) (state : Role) → holder state ≡ Some slot → is_held_by slot state ≡ true
holder-held slot (Whole s) is = let same : s ≡ slot = cc in grind (arith, nat_tests, same)
holder-held slot (Recovering s) is = let same : s ≡ slot = cc in grind (arith, nat_tests, same)
holder-held slot Missing is = absurd (cc)

-- the role that a slot holds, of those from some place on
pub role_from-found : (slot i : ℕ) (roles : List Role) (k : ℕ) → is_held_by slot (get_or roles k Missing) ≡ true
    → ((j : ℕ) → is_held_by slot (get_or roles j Missing) ≡ true → j ≡ k) → role_from slot i roles ≡ Some (i + k)
role_from-found slot i [] k held only = absurd (cc)
role_from-found slot i (state ∷ roles) zero held only =
    ap (λ (b : Bool). cond b (Some i) (role_from slot (i + 1) roles)) held ∙ ap (λ (n : ℕ). Some n) (omega arith)
role_from-found slot i (state ∷ roles) (suc k) held only =
    ap (λ (b : Bool). cond b (Some i) (role_from slot (i + 1) roles)) (by (is_held_by slot state) refl)
    ∙ role_from-found slot (i + 1) roles k held (λ j is. let e : suc j ≡ suc k = only (suc j) is in omega (arith, e))
    ∙ ap (λ (n : ℕ). Some n) (omega arith)
  where
    by : (b : Bool) → is_held_by slot state ≡ b → b ≡ false
    by true is = let e : 0 ≡ suc k = only 0 is in absurd (omega (arith, e))
    by false is = refl

pub role_from-holds : (slot i : ℕ) (roles : List Role) (r : ℕ) → role_from slot i roles ≡ Some r → (i ≤ r) × (is_held_by slot (get_or roles (r - i) Missing) ≡ true)
role_from-holds slot i [] r is = absurd (cc)
role_from-holds slot i (state ∷ roles) r is = by (is_held_by slot state) refl is (λ found. role_from-holds slot (i + 1) roles r found)
  where
    by : (b : Bool) → is_held_by slot state ≡ b → cond b (Some i) (role_from slot (i + 1) roles) ≡ Some r
        → (role_from slot (i + 1) roles ≡ Some r → (i + 1 ≤ r) × (is_held_by slot (get_or roles (r - (i + 1)) Missing) ≡ true))
        → (i ≤ r) × (is_held_by slot (get_or (state ∷ roles) (r - i) Missing) ≡ true)
    by true held found behind =
        let same : i ≡ r = cc in
        let none : r - i ≡ 0 = omega (arith, same) in (omega (arith, same), ap (λ (k : ℕ). is_held_by slot (get_or (state ∷ roles) k Missing)) none ∙ held)
    by false held found behind =
        let rest : (i + 1 ≤ r) × (is_held_by slot (get_or roles (r - (i + 1)) Missing) ≡ true) = behind found in
        let more : r - i ≡ suc (r - (i + 1)) = omega (arith, rest.0) in
        (omega (arith, rest.0), ap (λ (k : ℕ). is_held_by slot (get_or (state ∷ roles) k Missing)) more ∙ rest.1)

same-is : (role : ℕ) (found : Option ℕ) → is_same role found ≡ true → found ≡ Some role
same-is role None is = absurd (cc)
same-is role (Some other) is = ap (λ (n : ℕ). Some n) (grind (arith, nat_tests, is))

both : (a b : Bool) → (a && b) ≡ true → (a ≡ true) × (b ≡ true)
both true b e = (refl, e)
both false b e = absurd (cc)

-- each slot stays what it was
module _ (roles : List Role) (lost : ℕ) (apart : Apart roles) (small : (role slot : ℕ) → holder (get_or roles role Missing) ≡ Some slot → slot < 32) where
  planned-is : (role slot : ℕ) → is_planned_holder roles (replicate 32 Same) lost role slot ≡ (not (has_slot lost slot) && is_same role (role_from slot 0 roles))
  planned-is role slot = ap (λ (g : Give). not (has_slot lost slot) && is_same role (planned_role roles g slot)) (give_of-same 32 slot)

  planned-held : (role slot : ℕ) → is_planned_holder roles (replicate 32 Same) lost role slot ≡ true → (has_slot lost slot ≡ false) × (holder (get_or roles role Missing) ≡ Some slot)
  planned-held role slot is =
      let parts : (not (has_slot lost slot) ≡ true) × (is_same role (role_from slot 0 roles) ≡ true) = both (not (has_slot lost slot)) (is_same role (role_from slot 0 roles)) (sym (planned-is role slot) ∙ is) in
      let found : (0 ≤ role) × (is_held_by slot (get_or roles (role - 0) Missing) ≡ true) = role_from-holds slot 0 roles role (same-is role (role_from slot 0 roles) parts.1) in
      let none : role - 0 ≡ role = omega arith in
      (flip (has_slot lost slot) parts.0, held-holder slot (get_or roles role Missing) (ap (λ (k : ℕ). is_held_by slot (get_or roles k Missing)) (sym none) ∙ found.1))
    where
      flip : (b : Bool) → not b ≡ true → b ≡ false
      flip true e = absurd (cc)
      flip false e = refl

  held-planned : (role slot : ℕ) → has_slot lost slot ≡ false → holder (get_or roles role Missing) ≡ Some slot → is_planned_holder roles (replicate 32 Same) lost role slot ≡ true
  held-planned role slot kept is =
      planned-is role slot
      ∙ ap (λ (b : Bool). not b && is_same role (role_from slot 0 roles)) kept
      ∙ ap (λ (o : Option ℕ). is_same role o) (role_from-found slot 0 roles role (holder-held slot (get_or roles role Missing) is)
      (λ j held. apart j role slot (held-holder slot (get_or roles j Missing) held) is))
      ∙ (let none : 0 + role ≡ role = omega arith in grind (arith, nat_tests, none))

  no-holder : (role slot : ℕ) → holder (get_or roles role Missing) ≢ Some slot → is_planned_holder roles (replicate 32 Same) lost role slot ≡ false
  no-holder role slot none = by (is_planned_holder roles (replicate 32 Same) lost role slot) refl
    where
      by : (b : Bool) → is_planned_holder roles (replicate 32 Same) lost role slot ≡ b → b ≡ false
      by true is = absurd (none (planned-held role slot is).1)
      by false is = refl

  found-is : (role : ℕ) (found : Option ℕ) → least_below 32 (is_planned_holder roles (replicate 32 Same) lost role) ≡ found
      → planned_state roles (replicate 32 Same) lost role ≡ option_map_or (λ slot. get_or roles role Missing) found Missing
  found-is role found is =
      ap (λ (o : Option ℕ). option_map_or (λ slot. held_state (get_or roles role Missing) (give_of (replicate 32 Same) slot) slot) o Missing) is ∙ by found
    where
      by : (found : Option ℕ) → option_map_or (λ slot. held_state (get_or roles role Missing) (give_of (replicate 32 Same) slot) slot) found Missing
          ≡ option_map_or (λ slot. get_or roles role Missing) found Missing
      by (Some slot) = ap (λ (g : Give). held_state (get_or roles role Missing) g slot) (give_of-same 32 slot)
      by None = refl

  pub state-kept : (role : ℕ) → planned_state roles (replicate 32 Same) lost role ≡ role_without lost (get_or roles role Missing)
  state-kept role = by_state (get_or roles role Missing) refl
    where
      by_lost : (state : Role) (slot : ℕ) (b : Bool) → get_or roles role Missing ≡ state → holder state ≡ Some slot → has_slot lost slot ≡ b
          → planned_state roles (replicate 32 Same) lost role ≡ cond b Missing state
      by_lost state slot false is held kept =
          let here : holder (get_or roles role Missing) ≡ Some slot = ap holder is ∙ held in
          found-is role (Some slot) (least_below-only 32 (is_planned_holder roles (replicate 32 Same) lost role) slot (small role slot here) (held-planned role slot kept here)
          (λ j below other. let there : holder (get_or roles role Missing) ≡ Some j = (planned-held role j other).1 in cc)) ∙ is
      by_lost state slot true is held gone =
          let here : holder (get_or roles role Missing) ≡ Some slot = ap holder is ∙ held in
          found-is role None (least_below-none 32 (is_planned_holder roles (replicate 32 Same) lost role) (λ j below. none j))
        where
          none : (j : ℕ) → is_planned_holder roles (replicate 32 Same) lost role j ≡ false
          none j = by (is_planned_holder roles (replicate 32 Same) lost role j) refl
            where
              by : (b : Bool) → is_planned_holder roles (replicate 32 Same) lost role j ≡ b → b ≡ false
              by true planned =
                  let there : holder (get_or roles role Missing) ≡ Some j = (planned-held role j planned).1 in
                  let here : holder (get_or roles role Missing) ≡ Some slot = ap holder is ∙ held in
                  let same : j ≡ slot = cc in
                  let kept : has_slot lost j ≡ false = (planned-held role j planned).0 in
                  absurd (cc)
              by false planned = refl

      by_state : (state : Role) → get_or roles role Missing ≡ state → planned_state roles (replicate 32 Same) lost role ≡ role_without lost (get_or roles role Missing)
      by_state (Whole slot) is = by_lost (Whole slot) slot (has_slot lost slot) is refl refl ∙ sym (ap (role_without lost) is)
      by_state (Recovering slot) is = by_lost (Recovering slot) slot (has_slot lost slot) is refl refl ∙ sym (ap (role_without lost) is)
      by_state Missing is =
          found-is role None (least_below-none 32 (is_planned_holder roles (replicate 32 Same) lost role)
          (λ j below. no-holder role j (λ other. let e : ◌≡◌ {A = Option ℕ} None (Some j) = sym (ap holder is) ∙ other in absurd (cc))))
          ∙ sym (ap (role_without lost) is)

  get_or-map : (states : List Role) (role : ℕ) → get_or (map (role_without lost) states) role Missing ≡ role_without lost (get_or states role Missing)
  get_or-map [] role = refl
  get_or-map (state ∷ states) zero = refl
  get_or-map (state ∷ states) (suc role) = get_or-map states role

  length-map : (states : List Role) → length (map (role_without lost) states) ≡ length states
  length-map [] = refl
  length-map (state ∷ states) = ap suc (length-map states)

  pub roles-kept : (count : ℕ) → count ≡ length roles → tabulate count (planned_state roles (replicate 32 Same) lost) ≡ map (role_without lost) roles
  roles-kept count is =
      ext_get_or Missing (tabulate count (planned_state roles (replicate 32 Same) lost)) (map (role_without lost) roles)
      (length-tabulate count (planned_state roles (replicate 32 Same) lost) ∙ is ∙ sym (length-map roles))
      (λ i lt. get_or-tabulate count (planned_state roles (replicate 32 Same) lost) i Missing (omega (arith, lt, length-tabulate count (planned_state roles (replicate 32 Same) lost)))
      ∙ state-kept i ∙ sym (get_or-map roles i))

-- ---- the spares

one-more : (b : Bool) (n : ℕ) → length (if b then n ∷ [] else []) ≤ 1
one-more true n = omega arith
one-more false n = omega arith

pub few-below : (n : ℕ) (test : ℕ → Bool) → length (slots_below n test) ≤ n
unfolding slots_below
few-below zero test = omega arith
few-below (suc n) test =
    let last = if test n then n ∷ [] else [] in
    omega (arith, few-below n test, one-more (test n) n, length-append (slots_below n test) last)

pub few-planned : (members : Members) (change : Change) (lost : ℕ) → length (planned_spares members change lost) ≤ 32
few-planned members change lost = few-below 32 _
