-- What a list of superblocks says of a role and of the spares, slot by slot.
use Rattle.std.proofs.Common.{◌≡◌, inl, inr, ℕ, zero, suc, ◌+◌, ◌-◌, ◌<◌, ◌≤◌, Bool, true, false, cond, List, [], ◌∷◌, ◌++◌, length, get_or, Option, Some, None, unwrap_or, refl, sym, ◌∙◌, ap, ap₂, subst, arith}
use Rattle.std.proofs.lemmas.Bool.{cases_lt}
use Rattle.std.proofs.lemmas.Bool.Decides.{nat_tests}
use Rattle.std.proofs.lemmas.List.{append_assoc}
use Rattle.sb_specs.specs.raid_types_the_Role.{Role}
use Rattle.sb_specs.specs.raid_types_the_Role_TheVariants.{Whole, Recovering, Missing}
use Rattle.sb_specs.specs.sb_codec_the_Sb.{Sb}
use Rattle.sb_specs.specs.Reading.{holder_from, spares_from, holder, holds_role, state_of}
use Rattle.sb_specs.specs.Update.{is_held_by, role_from}
use Rattle.sb_specs.specs.Outcome.{slots_below}
use Rattle.sb_specs.specs.Reads.{held_in, spare_in}
use Rattle.sb_specs.proofs.ReadLists.{Own, holder-step, spare-step}
use Rattle.sb_specs.proofs.SlotSets.{slots-first, slots-suc}

-- ---- a role's holder

-- no slot holds it
pub holder-none : (N : Sb) (role i : ℕ) (X : Own) → ((k : ℕ) → held_in N role (i + k) (get_or X k None) ≡ None) → holder_from N role i X ≡ Missing
holder-none N role i [] none = refl
holder-none N role i (x ∷ X) none =
    let first : i + 0 ≡ i = omega arith in
    holder-step N role i x X
    ∙ ap₂ (λ a b. unwrap_or a b)
    (subst (λ (j : ℕ). held_in N role j x ≡ None) first (none 0))
    (holder-none N role (i + 1) X (λ k. let next : i + suc k ≡ i + 1 + k = omega arith in subst (λ (j : ℕ). held_in N role j (get_or X k None) ≡ None) next (none (suc k))))

-- this slot holds it, and none before it does
pub holder-found : (N : Sb) (role i : ℕ) (X : Own) (k : ℕ) (state : Role) → k < length X → held_in N role (i + k) (get_or X k None) ≡ Some state
    → ((j : ℕ) → j < k → held_in N role (i + j) (get_or X j None) ≡ None) → holder_from N role i X ≡ state
holder-found N role i [] k state lt is before = absurd (omega (arith, lt))
holder-found N role i (x ∷ X) zero state lt is before =
    let first : i + 0 ≡ i = omega arith in
    holder-step N role i x X ∙ ap (λ a. unwrap_or a (holder_from N role (i + 1) X)) (subst (λ (j : ℕ). held_in N role j x ≡ Some state) first is)
holder-found N role i (x ∷ X) (suc k) state lt is before =
    let first : i + 0 ≡ i = omega arith in
    holder-step N role i x X
    ∙ ap₂ (λ a b. unwrap_or a b)
    (subst (λ (j : ℕ). held_in N role j x ≡ None) first (before 0 (omega arith)))
    (holder-found N role (i + 1) X k state (omega (arith, lt))
    (let next : i + suc k ≡ i + 1 + k = omega arith in subst (λ (j : ℕ). held_in N role j (get_or X k None) ≡ Some state) next is)
    (λ j h. let next : i + suc j ≡ i + 1 + j = omega arith in subst (λ (m : ℕ). held_in N role m (get_or X j None) ≡ None) next (before (suc j) (omega (arith, h)))))

-- the state of a role is that of its holder
abbrev IsStateAt : Sb → ℕ → ℕ → Own → ℕ → Type 0
IsStateAt N role i X slot = (k : ℕ) × (slot ≡ i + k) × (held_in N role (i + k) (get_or X k None) ≡ Some (holder_from N role i X))

state-next : (N : Sb) (role i : ℕ) (x : Option Sb) (X : Own) (slot : ℕ) → holder_from N role i (x ∷ X) ≡ holder_from N role (i + 1) X → IsStateAt N role (i + 1) X slot → IsStateAt N role i (x ∷ X) slot
state-next N role i x X slot same h =
    let next : i + 1 + h.0 ≡ i + suc h.0 = omega arith in
    (suc h.0, h.1 ∙ next, subst (λ (j : ℕ). held_in N role j (get_or X h.0 None) ≡ Some (holder_from N role (i + 1) X)) next h.2 ∙ ap (λ (s : Role). Some s) (sym same))

state-first : (N : Sb) (role i : ℕ) (sb : Sb) (X : Own) (slot : ℕ) (b : Bool) → holds_role N role sb ≡ b
    → (holder (holder_from N role (i + 1) X) ≡ Some slot → IsStateAt N role (i + 1) X slot)
    → holder (cond b (state_of i sb) (holder_from N role (i + 1) X)) ≡ Some slot → IsStateAt N role i (Some sb ∷ X) slot
state-first N role i sb X slot true e rest is =
    let first : i + 0 ≡ i = omega arith in
    let here : Some i ≡ Some slot = sym (holder_slot i sb) ∙ is in
    let same : slot ≡ i + 0 = (let j : i ≡ slot = cc in sym j ∙ sym first) in
    let all : holder_from N role i (Some sb ∷ X) ≡ state_of i sb = ap (λ c. cond c (state_of i sb) (holder_from N role (i + 1) X)) e in (
      0,
      same,
      subst (λ (j : ℕ). held_in N role j (Some sb) ≡ Some (holder_from N role i (Some sb ∷ X))) (sym first)
          (ap (λ c. cond c (Some (state_of i sb)) None) e ∙ ap (λ (s : Role). Some s) (sym all)),
    )
  where
    holder_slot : (slot : ℕ) (sb : Sb) → holder (state_of slot sb) ≡ Some slot
    holder_slot slot sb = of _
      where
        of : (b : Bool) → holder (cond b (Recovering slot) (Whole slot)) ≡ Some slot
        of true = refl
        of false = refl
state-first N role i sb X slot false e rest is =
    state-next N role i (Some sb) X slot (ap (λ c. cond c (state_of i sb) (holder_from N role (i + 1) X)) e) (rest is)

state-at : (N : Sb) (role i : ℕ) (X : Own) (slot : ℕ) → holder (holder_from N role i X) ≡ Some slot → IsStateAt N role i X slot
state-at N role i [] slot is = absurd (cc)
state-at N role i (None ∷ X) slot is = state-next N role i None X slot refl (state-at N role (i + 1) X slot is)
state-at N role i (Some sb ∷ X) slot is = state-first N role i sb X slot (holds_role N role sb) refl (state-at N role (i + 1) X slot) is

pub state-here : (N : Sb) (role : ℕ) (X : Own) (slot : ℕ) → holder (holder_from N role 0 X) ≡ Some slot → held_in N role slot (get_or X slot None) ≡ Some (holder_from N role 0 X)
state-here N role X slot is =
    let h = state-at N role 0 X slot is in
    let here : 0 + h.0 ≡ slot = sym h.1 in
    let same : h.0 ≡ slot = omega (arith, h.1) in
    (λ i. held_in N role (sym here i) (get_or X (sym same i) None)) ∙ h.2

-- ---- the role of a slot

pub held-holder : (slot : ℕ) (state : Role) → is_held_by slot state ≡ true → holder state ≡ Some slot
held-holder slot (Whole s) held = ap (λ (n : ℕ). Some n) (grind (arith, nat_tests, held))
held-holder slot (Recovering s) held = ap (λ (n : ℕ). Some n) (grind (arith, nat_tests, held))
held-holder slot Missing held = absurd (cc)

pub role-holds : (slot i : ℕ) (roles : List Role) (r : ℕ) → role_from slot i roles ≡ Some r → (i ≤ r) × (is_held_by slot (get_or roles (r - i) Missing) ≡ true)
role-holds slot i [] r is = absurd (cc)
role-holds slot i (state ∷ roles) r is = by (is_held_by slot state) refl is (λ found. role-holds slot (i + 1) roles r found)
  where
    by : (b : Bool) → is_held_by slot state ≡ b → cond b (Some i) (role_from slot (i + 1) roles) ≡ Some r
        → (role_from slot (i + 1) roles ≡ Some r → (i + 1 ≤ r) × (is_held_by slot (get_or roles (r - (i + 1)) Missing) ≡ true))
        → (i ≤ r) × (is_held_by slot (get_or (state ∷ roles) (r - i) Missing) ≡ true)
    by true held found behind =
        let same : i ≡ r = cc in
        let none : r - i ≡ 0 = omega (arith, same) in (omega (arith, same), ap (λ (k : ℕ). is_held_by slot (get_or (state ∷ roles) k Missing)) none ∙ held)
    by false held found behind =
        let rest : (i + 1 ≤ r) × (is_held_by slot (get_or roles (r - (i + 1)) Missing) ≡ true) = behind found in
        let more : r - i ≡ suc (r - (i + 1)) = omega (arith, rest.0) in
        (omega (arith, rest.0), ap (λ (k : ℕ). is_held_by slot (get_or (state ∷ roles) k Missing)) more ∙ rest.1)

-- the role that a slot holds has it as its holder
pub role-holder : (slot : ℕ) (roles : List Role) (r : ℕ) → role_from slot 0 roles ≡ Some r → holder (get_or roles r Missing) ≡ Some slot
role-holder slot roles r is =
    let found = role-holds slot 0 roles r is in
    let none : r - 0 ≡ r = omega arith in
    held-holder slot (get_or roles r Missing) (ap (λ (k : ℕ). is_held_by slot (get_or roles k Missing)) (sym none) ∙ found.1)

-- ---- the spares

cons-step : (b : Bool) (l : List ℕ) (i : ℕ) (rest : List ℕ) → l ++ cond b (i ∷ rest) rest ≡ (l ++ cond b (i ∷ []) []) ++ rest
cons-step true l i rest = sym (append_assoc l (i ∷ []) rest)
cons-step false l i rest = sym (append_assoc l [] rest)

joined-spares : (N : Sb) (sectors : ℕ → ℕ) (test : ℕ → Bool) (i : ℕ) (X : Own) → ((k : ℕ) → k < length X → spare_in N (sectors (i + k)) (get_or X k None) ≡ test (i + k))
    → slots_below i test ++ spares_from N sectors i X ≡ slots_below (i + length X) test
joined-spares N sectors test i [] same =
    let none : i ≡ i + 0 = omega arith in nothing (slots_below i test) ∙ ap (λ (n : ℕ). slots_below n test) none
  where
    nothing : (l : List ℕ) → l ++ [] ≡ l
    nothing [] = refl
    nothing (x ∷ l) = ap (λ (r : List ℕ). x ∷ r) (nothing l)
joined-spares N sectors test i (x ∷ X) same =
    let first : i + 0 ≡ i = omega arith in
    let next : suc i ≡ i + 1 = omega arith in
    let all : i + 1 + length X ≡ i + suc (length X) = omega arith in
    let here : spare_in N (sectors i) x ≡ test i = subst (λ (j : ℕ). spare_in N (sectors j) x ≡ test j) first (same 0 (omega arith)) in
    ap (λ (l : List ℕ). slots_below i test ++ l)
    (spare-step N sectors i x X ∙ ap (λ b. cond b (i ∷ spares_from N sectors (i + 1) X) (spares_from N sectors (i + 1) X)) here)
    ∙ cons-step (test i) (slots_below i test) i (spares_from N sectors (i + 1) X)
    ∙ ap (λ (l : List ℕ). l ++ spares_from N sectors (i + 1) X) (sym (slots-suc test i) ∙ ap (λ (n : ℕ). slots_below n test) next)
    ∙ joined-spares N sectors test (i + 1) X
    (λ k lt. let step : i + suc k ≡ i + 1 + k = omega arith in subst (λ (j : ℕ). spare_in N (sectors j) (get_or X k None) ≡ test j) step (same (suc k) (omega (arith, lt))))
    ∙ ap (λ (n : ℕ). slots_below n test) all

-- no more pass from some place on
none-past : (test : ℕ → Bool) (n k : ℕ) → ((s : ℕ) → n ≤ s → test s ≡ false) → slots_below (n + k) test ≡ slots_below n test
none-past test n zero fails = let none : n + 0 ≡ n = omega arith in ap (λ (m : ℕ). slots_below m test) none
none-past test n (suc k) fails =
    let next : n + suc k ≡ suc (n + k) = omega arith in
    ap (λ (m : ℕ). slots_below m test) next ∙ slots-suc test (n + k)
    ∙ ap (λ b. slots_below (n + k) test ++ cond b ((n + k) ∷ []) []) (fails (n + k) (omega arith))
    ∙ nothing (slots_below (n + k) test) ∙ none-past test n k fails
  where
    nothing : (l : List ℕ) → l ++ [] ≡ l
    nothing [] = refl
    nothing (x ∷ l) = ap (λ (r : List ℕ). x ∷ r) (nothing l)

-- none passes from either of two places on
same-below : (test : ℕ → Bool) (n m : ℕ) → ((s : ℕ) → n ≤ s → test s ≡ false) → ((s : ℕ) → m ≤ s → test s ≡ false) → slots_below n test ≡ slots_below m test
same-below test n m past past' = elim (cases_lt n m) [
  | inl below ↦ let all : n + (m - n) ≡ m = omega (arith, below) in sym (none-past test n (m - n) past) ∙ ap (λ (k : ℕ). slots_below k test) all
  | inr above ↦ let all : m + (n - m) ≡ n = omega (arith, above) in ap (λ (k : ℕ). slots_below k test) (sym all) ∙ none-past test m (n - m) past'
]

-- the slots that pass are the spares, and none of them is past the list or from n on
pub spares-are : (N : Sb) (sectors : ℕ → ℕ) (test : ℕ → Bool) (n : ℕ) (X : Own) → ((k : ℕ) → k < length X → spare_in N (sectors k) (get_or X k None) ≡ test k)
    → ((s : ℕ) → length X ≤ s → test s ≡ false) → ((s : ℕ) → n ≤ s → test s ≡ false) → spares_from N sectors 0 X ≡ slots_below n test
spares-are N sectors test n X same past past' =
    let all : 0 + length X ≡ length X = omega arith in
    sym (ap (λ (l : List ℕ). l ++ spares_from N sectors 0 X) (slots-first test))
    ∙ joined-spares N sectors test 0 X (λ k lt. let here : k ≡ 0 + k = omega arith in subst (λ (j : ℕ). spare_in N (sectors j) (get_or X k None) ≡ test j) here (same k lt))
    ∙ ap (λ (k : ℕ). slots_below k test) all
    ∙ same-below test (length X) n past past'
