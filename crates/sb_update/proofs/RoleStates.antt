-- The states of the roles after an update.
use Rattle.std.proofs.Common.{◌≡◌, ℕ, zero, suc, ◌+◌, ◌<◌, ◌≤◌, ◌==◌, inl, inr, Bool, true, false, if◌then◌else◌, List, [], ◌∷◌, ◌++◌, length, take, get_or, set, Option, Some, None, refl, sym, ◌∙◌, ap, arith, eq-eqb, get_or-set_other}
use Rattle.std.specs.Option.{option_or, option_map_or}
use Rattle.std.proofs.lemmas.Bool.{cases_eq}
use Rattle.std.proofs.lemmas.Bool.Decides.{nat_tests}
use Rattle.std.proofs.lemmas.Grind.{get_or-set_at}
use Rattle.std.proofs.lemmas.List.{ext_get_or, get_or-take, length-take-le, take_more_set}
use Rattle.bank.specs.raid_types_the_Role.{Role}
use Rattle.bank.specs.raid_types_the_Role_TheVariants.{Missing}
use Rattle.sb_specs.specs.raid_types_Search.{tabulate, least_below}
use Rattle.bank.proofs.raid_types_Tabulated.{length-tabulate, get_or-tabulate}
use Rattle.sb_specs.specs.declared.change.Give.{Give}
use Rattle.sb_specs.specs.Update.{give_of}
use Rattle.sb_specs.specs.Outcome.{is_planned_holder, held_state, planned_state}

-- the first ones of a tabulated list
pub take-tabulate : {X : Type 0} (d : X) (k n : ℕ) (f : ℕ → X) → k ≤ n → take k (tabulate n f) ≡ tabulate k f
take-tabulate d k n f le =
    let long : length (take k (tabulate n f)) ≡ k = length-take-le k (tabulate n f) (omega (arith, le, length-tabulate n f)) in
    ext_get_or d (take k (tabulate n f)) (tabulate k f) (long ∙ sym (length-tabulate k f))
    (λ i lt. let below : i < k = omega (arith, lt, long) in
    get_or-take k (tabulate n f) i d below ∙ get_or-tabulate n f i d (omega (arith, below, le)) ∙ sym (get_or-tabulate k f i d below))

tabulate-suc : {X : Type 0} (n : ℕ) (f : ℕ → X) → tabulate (suc n) f ≡ tabulate n f ++ f n ∷ []
unfolding tabulate
tabulate-suc n f = refl

pub tabulate-first : {X : Type 0} (f : ℕ → X) → tabulate 0 f ≡ []
unfolding tabulate
tabulate-first f = refl

-- one state more was set
pub states-more : {X : Type 0} (f : ℕ → X) (states : List X) (i : ℕ) (x : X) → i < length states → take i states ≡ tabulate i f → x ≡ f i
    → take (i + 1) (set states i x) ≡ tabulate (i + 1) f
states-more f states i x lt is here =
    let next : i + 1 ≡ suc i = omega arith in
    take_more_set states i x lt ∙ ap (λ (l : List _). l ++ x ∷ []) is ∙ ap (λ y. tabulate i f ++ y ∷ []) here ∙ sym (ap (λ (n : ℕ). tabulate n f) next ∙ tabulate-suc i f)

-- ---- the first slot that holds each role

pub least_below-start : (test : ℕ → Bool) → least_below 0 test ≡ None
unfolding least_below
least_below-start test = refl

-- one slot more
pub least_below-more : (n : ℕ) (test : ℕ → Bool) → least_below (n + 1) test ≡ option_or (least_below n test) (if test n then Some n else None)
unfolding least_below
least_below-more n test = let next : n + 1 ≡ suc n = omega arith in ap (λ (m : ℕ). least_below m test) next

pub least_below-lt : (n : ℕ) (test : ℕ → Bool) (k : ℕ) → least_below n test ≡ Some k → k < n
unfolding least_below
least_below-lt zero test k is = absurd (cc)
least_below-lt (suc n) test k is = by_last (least_below n test) (test n) (least_below-lt n test k) is
  where
    by_last : (o : Option ℕ) (b : Bool) → (o ≡ Some k → k < n) → option_or o (if b then Some n else None) ≡ Some k → k < suc n
    by_last (Some j) b before same = let lt = before same in omega (arith, lt)
    by_last None true before same = let e : n ≡ k = cc in omega (arith, e)
    by_last None false before same = absurd (cc)

or-none : (o : Option ℕ) → o ≡ option_or o None
or-none None = refl
or-none (Some x) = refl

or-more : (o p : Option ℕ) (x : ℕ) → o ≡ Some x → o ≡ option_or o p
or-more None p x is = absurd (cc)
or-more (Some y) p x is = refl

-- a slot is noted as the holder of its role where there was none, and otherwise not
pub noted-none : (holders : List (Option ℕ)) (r : ℕ) → get_or holders r None ≡ option_or (get_or holders r None) None
noted-none holders r = or-none (get_or holders r None)

pub noted-first : (holders : List (Option ℕ)) (role slot r : ℕ) → role < length holders → get_or holders role None ≡ None
    → get_or (set holders role (Some slot)) r None ≡ option_or (get_or holders r None) (if role == r then Some slot else None)
noted-first holders role slot r within none = elim (cases_eq r role) [
  | inl same ↦
      let test : (role == r) ≡ true = eq-eqb role r (sym same) in
      get_or-set_at holders role r (Some slot) None same within
      ∙ sym ((λ j. option_or (get_or holders (same j) None) (if test j then Some slot else None)) ∙ ap (λ (o : Option ℕ). option_or o (Some slot)) none)
  | inr other ↦
      let test : (role == r) ≡ false = grind (arith, nat_tests) in
      get_or-set_other holders role r (Some slot) None other ∙ or-none (get_or holders r None)
      ∙ sym (ap (λ (b : Bool). option_or (get_or holders r None) (if b then Some slot else None)) test)
]

pub noted-later : (holders : List (Option ℕ)) (role slot r x : ℕ) → get_or holders role None ≡ Some x → get_or holders r None ≡ option_or (get_or holders r None) (if role == r then Some slot else None)
noted-later holders role slot r x is = elim (cases_eq r role) [
  | inl same ↦ or-more (get_or holders r None) _ x (ap (λ (n : ℕ). get_or holders n None) same ∙ is)
  | inr other ↦
      let test : (role == r) ≡ false = grind (arith, nat_tests) in
      or-none (get_or holders r None) ∙ sym (ap (λ (b : Bool). option_or (get_or holders r None) (if b then Some slot else None)) test)
]

-- the state of a role by the first slot that holds it, or where there is none
module _ (roles : List Role) (gives : List Give) (lost role : ℕ) where
  state_by : Option ℕ → Role
  state_by o = option_map_or (λ s. held_state (get_or roles role Missing) (give_of gives s) s) o Missing

  pub state-found : (former : Role) (give : Give) (slot : ℕ) → former ≡ get_or roles role Missing → give ≡ give_of gives slot
      → Some slot ≡ least_below 32 (is_planned_holder roles gives lost role) → held_state former give slot ≡ planned_state roles gives lost role
  unfolding state_by
  state-found former give slot was given first = (λ j. held_state (was j) (given j) slot) ∙ ap state_by first

  pub state-none : None ≡ least_below 32 (is_planned_holder roles gives lost role) → Missing ≡ planned_state roles gives lost role
  unfolding state_by least_below
  state-none none = ap state_by none
