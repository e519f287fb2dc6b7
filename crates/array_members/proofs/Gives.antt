-- A slot that is given a role, which it recovers or has whole: what an update plans for the roles then.
use Rattle.std.proofs.Common.{◌≡◌, ◌≢◌, inl, inr, ℕ, zero, suc, ◌<◌, ◌==◌, Bool, true, false, not, cond, ◌&&◌, List, set, length, get_or, map, replicate, Option, Some, None, refl, sym, ◌∙◌, ap, arith}
use Rattle.std.specs.Option.{option_or, option_map_or}
use Rattle.std.proofs.lemmas.Bool.{cases_eq}
use Rattle.std.proofs.lemmas.Bool.Decides.{nat_tests}
use Rattle.std.proofs.lemmas.List.{ext_get_or, length-map, length-set, length-replicate, get_or-set_same, get_or-set_other, map-set, set-get_or}
use Rattle.crash_role_laws.specs.raid_types_Search.{tabulate, least_below}
use Rattle.crash_role_laws.specs.raid_types_Shapes.{has_slot}
use Rattle.crash_role_laws.specs.raid_types_the_Role.{Role}
use Rattle.crash_role_laws.specs.raid_types_the_Role_TheVariants.{Whole, Recovering, Missing}
use Rattle.crash_role_laws.proofs.raid_types_Least.{least_below-none, least_below-only}
use Rattle.crash_role_laws.proofs.raid_types_Tabulated.{length-tabulate, get_or-tabulate}
use Rattle.crash_role_laws.specs.sb_specs_the_Give.{Give}
use Rattle.crash_role_laws.specs.sb_specs_the_Give_TheVariants.{Same}
use Rattle.crash_role_laws.specs.sb_specs_the_Give_TheVariants as give
use Rattle.crash_role_laws.specs.sb_specs_the_Members.{Members}
use Rattle.crash_role_laws.specs.sb_specs_Reading.{holder}
use Rattle.crash_role_laws.specs.sb_specs_Update.{role_from, give_of, planned_role}
use Rattle.crash_role_laws.specs.sb_specs_Outcome.{is_same, is_planned_holder, held_state, planned_state}
use Rattle.crash_role_laws.proofs.sb_read_laws_SaidLists.{role-holder}
use Rattle.crash_role_laws.specs.stripe_row_Rows.{role_without}
use Rattle.array_members.specs.Rebuilding.{with_state}
use Rattle.array_members.proofs.MarkLaws.{Apart, state-kept}
use Rattle.crash_role_laws.proofs.crash_safety_laws_Kept.{give_of-same}
use Rattle.crash_role_laws.proofs.crash_safety_laws_Without.{state-without}

-- ---- what is given

-- the state of the role: recovered from an offset on, or whole
abbrev pub state_given : Option ℕ → ℕ → Role
state_given (Some offset) slot = Recovering slot
state_given None slot = Whole slot

-- the members with this role given to the slot
abbrev pub with_given : Option ℕ → ℕ → ℕ → Members → Members
with_given recovery role slot members = with_state role (state_given recovery slot) slot recovery members

pub holder-given : (recovery : Option ℕ) (slot : ℕ) → holder (state_given recovery slot) ≡ Some slot
holder-given (Some offset) slot = refl
holder-given None slot = refl

pub given-without : (lost : ℕ) (recovery : Option ℕ) (slot : ℕ) → role_without lost (state_given recovery slot) ≡ cond (has_slot lost slot) Missing (state_given recovery slot)
given-without lost (Some offset) slot = refl
given-without lost None slot = refl

held-given : (former : Role) (role : ℕ) (recovery : Option ℕ) (slot : ℕ) → held_state former (give.Role role recovery) slot ≡ state_given recovery slot
held-given former role (Some offset) slot = refl
held-given former role None slot = refl

abbrev pub gives_of : ℕ → ℕ → Option ℕ → List Give
gives_of slot role recovery = set (replicate 32 Same) slot (give.Role role recovery)

pub give-here : (slot role : ℕ) (recovery : Option ℕ) → slot < 32 → give_of (gives_of slot role recovery) slot ≡ give.Role role recovery
give-here slot role recovery small = get_or-set_same (replicate 32 Same) slot (give.Role role recovery) Same (let long = length-replicate 32 Same in omega (arith, small, long))

pub give-other : (slot role : ℕ) (recovery : Option ℕ) (s : ℕ) → s ≢ slot → give_of (gives_of slot role recovery) s ≡ Same
give-other slot role recovery s apart = get_or-set_other (replicate 32 Same) slot s (give.Role role recovery) Same apart ∙ give_of-same 32 s

-- ---- tests

self : (a : ℕ) → (a == a) ≡ true
self a = grind (arith, nat_tests)

equal : (a b : ℕ) → (a == b) ≡ true → a ≡ b
equal a b h = grind (arith, nat_tests)

differ : (a b : ℕ) → a ≢ b → (a == b) ≡ false
differ a b h = grind (arith, nat_tests)

both : (a b : Bool) → (a && b) ≡ true → (a ≡ true) × (b ≡ true)
both true b e = (refl, e)
both false b e = absurd (cc)

flip : (b : Bool) → not b ≡ true → b ≡ false
flip true e = absurd (cc)
flip false e = refl

none-of : (a b : Bool) → (b ≡ true → ⊥) → (a && b) ≡ false
none-of true true no_way = absurd (no_way refl)
none-of true false no_way = refl
none-of false b no_way = refl

same-is : (role : ℕ) (found : Option ℕ) → is_same role found ≡ true → found ≡ Some role
same-is role None is = absurd (cc)
same-is role (Some other) is = ap (λ (n : ℕ). Some n) (equal other role is)

least-found : (n : ℕ) (test : ℕ → Bool) (k : ℕ) → least_below n test ≡ Some k → test k ≡ true
unfolding least_below
least-found zero test k is = absurd (cc)
least-found (suc n) test k is = of (least_below n test) (test n) (least-found n test k) refl is
  where
    of : (found : Option ℕ) (b : Bool) → (found ≡ Some k → test k ≡ true) → test n ≡ b → option_or found (cond b (Some n) None) ≡ Some k → test k ≡ true
    of (Some m) b rest last is = rest is
    of None true rest last is = let same : n ≡ k = cc in ap test (sym same) ∙ last
    of None false rest last is = absurd (cc)

-- ---- the roles

-- A slot may be given a role: it holds no other one, and of the slots that hold the role all others were lost.
pub record IsGivable (roles : List Role) (lost role slot : ℕ) : Type 0 where
  pub only : (r : ℕ) → holder (get_or roles r Missing) ≡ Some slot → r ≡ role
  pub others : (s : ℕ) → s ≢ slot → holder (get_or roles role Missing) ≡ Some s → has_slot lost s ≡ true

module _ (roles : List Role) (lost : ℕ) (apart : Apart roles) (small : (role slot : ℕ) → holder (get_or roles role Missing) ≡ Some slot → slot < 32)
    (role slot : ℕ) (recovery : Option ℕ) (here : slot < 32) (may : IsGivable roles lost role slot) where
  abbrev gives : List Give
  gives = gives_of slot role recovery

  abbrev test : ℕ → ℕ → Bool
  test r s = is_planned_holder roles gives lost r s

  test-here : (r : ℕ) → test r slot ≡ (not (has_slot lost slot) && (role == r))
  test-here r = ap (λ (g : Give). not (has_slot lost slot) && is_same r (planned_role roles g slot)) (give-here slot role recovery here)

  test-other : (r s : ℕ) → s ≢ slot → test r s ≡ (not (has_slot lost s) && is_same r (role_from s 0 roles))
  test-other r s other = ap (λ (g : Give). not (has_slot lost s) && is_same r (planned_role roles g s)) (give-other slot role recovery s other)

  -- no other slot is to hold the role
  none-other : (s : ℕ) → s ≢ slot → test role s ≡ false
  none-other s other = by (test role s) refl
    where
      by : (b : Bool) → test role s ≡ b → b ≡ false
      by true is = absurd (
          let parts = both (not (has_slot lost s)) (is_same role (role_from s 0 roles)) (sym (test-other role s other) ∙ is) in
          let gone = may.others s other (role-holder s roles role (same-is role (role_from s 0 roles) parts.1)) in
          let kept = flip (has_slot lost s) parts.0 in
          let clash = sym gone ∙ kept in cc
          )
      by false is = refl

  state-here : planned_state roles gives lost role ≡ role_without lost (state_given recovery slot)
  state-here = by (has_slot lost slot) refl ∙ sym (given-without lost recovery slot)
    where
      found : (o : Option ℕ) → least_below 32 (test role) ≡ o → planned_state roles gives lost role ≡ option_map_or (λ s. held_state (get_or roles role Missing) (give_of gives s) s) o Missing
      found o is = ap (λ (o : Option ℕ). option_map_or (λ s. held_state (get_or roles role Missing) (give_of gives s) s) o Missing) is

      by : (b : Bool) → has_slot lost slot ≡ b → planned_state roles gives lost role ≡ cond b Missing (state_given recovery slot)
      by true gone = found None (least_below-none 32 (test role) (λ j below. elim (cases_eq j slot) [
        | inl same ↦ ap (test role) same ∙ test-here role ∙ ap (λ (b : Bool). not b && (role == role)) gone
        | inr other ↦ none-other j other
      ]))
      by false kept =
          found (Some slot) (least_below-only 32 (test role) slot here (test-here role ∙ (λ i. not (kept i) && self role i)) (λ j below is. elim (cases_eq j slot) [
            | inl same ↦ same
            | inr other ↦ absurd (let clash = sym is ∙ none-other j other in cc)
          ]))
          ∙ ap (λ (g : Give). held_state (get_or roles role Missing) g slot) (give-here slot role recovery here)
          ∙ held-given (get_or roles role Missing) role recovery slot

  -- another role has its holder, if that isn't lost
  state-other : (r : ℕ) → r ≢ role → planned_state roles gives lost r ≡ role_without lost (get_or roles r Missing)
  state-other r apart_role =
      (λ i. option_map_or (λ s. held_state (get_or roles r Missing) (give_of gives s) s) (least_below 32 (λ s. test-same s i)) Missing)
      ∙ of (least_below 32 (is_planned_holder roles (replicate 32 Same) lost r)) refl
      ∙ state-kept roles lost apart small r
    where
      out-here : is_planned_holder roles (replicate 32 Same) lost r slot ≡ false
      out-here = ap (λ (g : Give). not (has_slot lost slot) && is_same r (planned_role roles g slot)) (give_of-same 32 slot)
          ∙ none-of (not (has_slot lost slot)) (is_same r (role_from slot 0 roles)) (λ is. apart_role (may.only r (role-holder slot roles r (same-is r (role_from slot 0 roles) is))))

      test-same : (s : ℕ) → test r s ≡ is_planned_holder roles (replicate 32 Same) lost r s
      test-same s = elim (cases_eq s slot) [
        | inl same ↦ ap (test r) same ∙ test-here r ∙ none-of (not (has_slot lost slot)) (role == r) (λ is. apart_role (sym (equal role r is))) ∙ sym out-here
            ∙ ap (is_planned_holder roles (replicate 32 Same) lost r) (sym same)
        | inr other ↦ test-other r s other ∙ sym (ap (λ (g : Give). not (has_slot lost s) && is_same r (planned_role roles g s)) (give_of-same 32 s))
      ]

      of : (found : Option ℕ) → least_below 32 (is_planned_holder roles (replicate 32 Same) lost r) ≡ found
          → option_map_or (λ s. held_state (get_or roles r Missing) (give_of gives s) s) (least_below 32 (is_planned_holder roles (replicate 32 Same) lost r)) Missing
          ≡ planned_state roles (replicate 32 Same) lost r
      of None is =
          ap (λ (o : Option ℕ). option_map_or (λ s. held_state (get_or roles r Missing) (give_of gives s) s) o Missing) is
          ∙ sym (ap (λ (o : Option ℕ). option_map_or (λ s. held_state (get_or roles r Missing) (give_of (replicate 32 Same) s) s) o Missing) is)
      of (Some s) is =
          ap (λ (o : Option ℕ). option_map_or (λ s. held_state (get_or roles r Missing) (give_of gives s) s) o Missing) is
          ∙ ap (λ (g : Give). held_state (get_or roles r Missing) g s) (give-other slot role recovery s not-here ∙ sym (give_of-same 32 s))
          ∙ sym (ap (λ (o : Option ℕ). option_map_or (λ s. held_state (get_or roles r Missing) (give_of (replicate 32 Same) s) s) o Missing) is)
        where
          not-here : s ≢ slot
          not-here same = absurd (let yes = least-found 32 (is_planned_holder roles (replicate 32 Same) lost r) s is in
              let no = ap (is_planned_holder roles (replicate 32 Same) lost r) same ∙ out-here in let clash = sym yes ∙ no in cc)

  -- what an update plans for all of them
  pub roles-given : (count : ℕ) → count ≡ length roles → role < length roles → tabulate count (planned_state roles gives lost) ≡ map (role_without lost) (set roles role (state_given recovery slot))
  roles-given count is below =
      ext_get_or Missing (tabulate count (planned_state roles gives lost)) (map (role_without lost) (set roles role (state_given recovery slot)))
      (length-tabulate count (planned_state roles gives lost) ∙ is ∙ sym (length-map (set roles role (state_given recovery slot)) (role_without lost) ∙ length-set roles role (state_given recovery slot)))
      (λ i lt. get_or-tabulate count (planned_state roles gives lost) i Missing (omega (arith, lt, length-tabulate count (planned_state roles gives lost)))
      ∙ at i
      ∙ sym (state-without lost (set roles role (state_given recovery slot)) i))
    where
      at : (i : ℕ) → planned_state roles gives lost i ≡ role_without lost (get_or (set roles role (state_given recovery slot)) i Missing)
      at i = elim (cases_eq i role) [
        | inl same ↦ ap (planned_state roles gives lost) same ∙ state-here
            ∙ sym (ap (role_without lost) (ap (λ (k : ℕ). get_or (set roles role (state_given recovery slot)) k Missing) same ∙ get_or-set_same roles role (state_given recovery slot) Missing below))
        | inr other ↦ state-other i other ∙ sym (ap (role_without lost) (get_or-set_other roles role i (state_given recovery slot) Missing other))
      ]

-- ---- without slots that were lost before

-- where the slot is lost, the roles are as if it had been given none
pub given-lost : (lost : ℕ) (roles : List Role) (role slot : ℕ) (recovery : Option ℕ) → has_slot lost slot ≡ true → role_without lost (get_or roles role Missing) ≡ Missing
    → map (role_without lost) (set roles role (state_given recovery slot)) ≡ map (role_without lost) roles
given-lost lost roles role slot recovery gone none =
    map-set (role_without lost) roles role (state_given recovery slot)
    ∙ ap (λ (s : Role). set (map (role_without lost) roles) role s)
    (given-without lost recovery slot ∙ ap (λ (b : Bool). cond b Missing (state_given recovery slot)) gone ∙ sym (state-without lost roles role ∙ none))
    ∙ set-get_or (map (role_without lost) roles) role Missing
