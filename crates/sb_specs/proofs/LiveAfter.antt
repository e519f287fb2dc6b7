-- The slots that are live after an update were live in it and aren't lost, so that they can be written again.
use Rattle.std.proofs.Common.{◌≡◌, ◌⊎◌, inl, inr, ℕ, zero, suc, ◌+◌, ◌<◌, ◌≤◌, ◌-◌, ◌==◌, Bool, true, false, not, ◌&&◌, ◌||◌, List, [], ◌∷◌, get_or, Option, Some, None, if◌then◌else◌, refl, sym, ◌∙◌, ap, subst, arith}
use Rattle.std.specs.List.{list_any}
use Rattle.std.specs.Option.{is_some, option_or, option_map_or}
use Rattle.std.proofs.lemmas.Bool.{eqb-true}
use Rattle.std.proofs.lemmas.List.Folds.{list_any-append}
use Rattle.bank.specs.raid_types_the_Role.{Role}
use Rattle.bank.specs.raid_types_the_Role_TheVariants.{Whole, Recovering, Missing}
use Rattle.reshape_geometry.specs.raid_types_Search.{tabulate, least_below}
use Rattle.reshape_geometry.specs.raid_types_Shapes.{has_slot}
use Rattle.sb_codec.specs.declared.sb.Sb.{Sb}
use Rattle.sb_codec.specs.Superblock.{sb_of, checksum}
use Rattle.sb_codec.specs.Writable.{IsWritable}
use Rattle.bank.specs.Given.{Given}
use Rattle.sb_specs.specs.declared.change.Give.{Give}
use Rattle.sb_specs.specs.declared.change.Give.TheVariants.{Same, Spare}
use Rattle.sb_specs.specs.declared.change.Give.TheVariants as give
use Rattle.sb_specs.specs.declared.change.Change.{Change}
use Rattle.sb_specs.specs.declared.members.Members.{Members}
use Rattle.sb_specs.specs.Reading.{role_count}
use Rattle.sb_specs.specs.Update.{planned, is_held_by, is_live, is_added, role_from, planned_role, is_planned_spare, give_of, own_in}
use Rattle.sb_specs.specs.Writing.{IsMember, AreMembers}
use Rattle.sb_specs.specs.Outcome.{slots_below, is_in_update, live_set, IsStored, IsPlannedOwn, AreStored, is_left, is_same, is_planned_holder, held_state, planned_state, planned_roles, planned_spares, AreGivesOfLive}
use Rattle.sb_specs.proofs.SlotSets.{in-set_of, some_role}
use Rattle.sb_specs.proofs.Taken.{left_live}

-- ---- searches that found something

or_cases : (a b : Bool) → (a || b) ≡ true → (a ≡ true) ⊎ (b ≡ true)
or_cases true b is = inl refl
or_cases false b is = inr is

and_first : (a b : Bool) → (a && b) ≡ true → a ≡ true
and_first true b is = refl
and_first false b is = is

and_second : (a b : Bool) → (a && b) ≡ true → b ≡ true
and_second true b is = is
and_second false b is = absurd (cc)

not_true : (a : Bool) → not a ≡ true → a ≡ false
not_true true is = sym is
not_true false is = refl

found_in : (o : Option ℕ) (b : Bool) (n k : ℕ) → option_or o (if b then Some n else None) ≡ Some k → (o ≡ Some k) ⊎ ((b ≡ true) × (n ≡ k))
found_in (Some m) b n k is = inl is
found_in None true n k is = inr (refl, (let same = is in cc))
found_in None false n k is = absurd (cc)

least_found : (n : ℕ) (test : ℕ → Bool) (k : ℕ) → least_below n test ≡ Some k → (k < n) × (test k ≡ true)
unfolding least_below
least_found zero test k is = absurd (cc)
least_found (suc n) test k is = of (least_found n test k) (found_in (least_below n test) (test n) n k is)
  where
    of : (least_below n test ≡ Some k → (k < n) × (test k ≡ true)) → (least_below n test ≡ Some k) ⊎ ((test n ≡ true) × (n ≡ k)) → (k < suc n) × (test k ≡ true)
    of before (inl found) = let f = before found in (omega (arith, f.0), f.1)
    of before (inr here) = (omega (arith, here.1), subst (λ (m : ℕ). test m ≡ true) here.1 here.0)

any_tabulated : {X : Type 0} (p : X → Bool) (f : ℕ → X) (n : ℕ) → list_any p (tabulate n f) ≡ true → (i : ℕ) × (p (f i) ≡ true)
unfolding tabulate
any_tabulated p f zero is = absurd (cc)
any_tabulated p f (suc n) is = of (any_tabulated p f n) (or_cases (list_any p (tabulate n f)) (list_any p (f n ∷ [])) (sym (list_any-append p (tabulate n f) (f n ∷ [])) ∙ is))
  where
    of : (list_any p (tabulate n f) ≡ true → (i : ℕ) × (p (f i) ≡ true)) → (list_any p (tabulate n f) ≡ true) ⊎ (list_any p (f n ∷ []) ≡ true) → (i : ℕ) × (p (f i) ≡ true)
    of before (inl found) = before found
    of before (inr here) = (n, last (p (f n)) here)
      where
        last : (b : Bool) → (b || false) ≡ true → b ≡ true
        last true is = refl
        last false is = is

any_slot : (f : ℕ → Bool) (s n : ℕ) → list_any (λ x. x == s) (slots_below n f) ≡ true → (s < n) × (f s ≡ true)
unfolding slots_below
any_slot f s zero is = absurd (cc)
any_slot f s (suc n) is = of (any_slot f s n) (or_cases (list_any (λ x. x == s) (slots_below n f)) (list_any (λ x. x == s) (if f n then n ∷ [] else []))
    (sym (list_any-append (λ x. x == s) (slots_below n f) (if f n then n ∷ [] else [])) ∙ is))
  where
    last : (b : Bool) → list_any (λ x. x == s) (if b then n ∷ [] else []) ≡ true → (b ≡ true) × (n ≡ s)
    last true is = (refl, eqb-true n s (one (n == s) is))
      where
        one : (b : Bool) → (b || false) ≡ true → b ≡ true
        one true is = refl
        one false is = is
    last false is = absurd (cc)

    of : (list_any (λ x. x == s) (slots_below n f) ≡ true → (s < n) × (f s ≡ true)) → (list_any (λ x. x == s) (slots_below n f) ≡ true) ⊎ (list_any (λ x. x == s) (if f n then n ∷ [] else []) ≡ true) → (s < suc n) × (f s ≡ true)
    of before (inl there) = let found = before there in (omega (arith, found.0), found.1)
    of before (inr here) = let found = last (f n) here in (omega (arith, found.1), subst (λ (x : ℕ). f x ≡ true) found.1 found.0)

-- ---- who holds a role

same_role : (role : ℕ) (o : Option ℕ) → is_same role o ≡ true → o ≡ Some role
same_role role None is = absurd (cc)
same_role role (Some other) is = ap (λ (n : ℕ). Some n) (eqb-true other role is)

-- the first role that a slot holds is one that it holds
role_held : (slot i role : ℕ) (roles : List Role) → role_from slot i roles ≡ Some role → (i ≤ role) × (is_held_by slot (get_or roles (role - i) Missing) ≡ true)
role_held slot i role [] is = absurd (cc)
role_held slot i role (state ∷ roles) is = of (role_held slot (i + 1) role roles) (is_held_by slot state) refl is
  where
    of : (role_from slot (i + 1) roles ≡ Some role → (i + 1 ≤ role) × (is_held_by slot (get_or roles (role - (i + 1)) Missing) ≡ true)) → (b : Bool) → is_held_by slot state ≡ b → (if b then Some i else role_from slot (i + 1) roles) ≡ Some role → (i ≤ role) × (is_held_by slot (get_or (state ∷ roles) (role - i) Missing) ≡ true)
    of later true held is =
        let same : i ≡ role = (let e = is in cc) in
        let none : role - i ≡ 0 = omega (arith, same) in
        (omega (arith, same), ap (λ (n : ℕ). is_held_by slot (get_or (state ∷ roles) n Missing)) none ∙ held)
    of later false held is =
        let rest = later is in
        let next : role - i ≡ suc (role - (i + 1)) = omega (arith, rest.0) in
        (omega (arith, rest.0), ap (λ (n : ℕ). is_held_by slot (get_or (state ∷ roles) n Missing)) next ∙ rest.1)

one_holder : (s slot : ℕ) (state : Role) → is_held_by s state ≡ true → is_held_by slot state ≡ true → slot ≡ s
one_holder s slot (Whole holder) a b = sym (eqb-true holder slot b) ∙ eqb-true holder s a
one_holder s slot (Recovering holder) a b = sym (eqb-true holder slot b) ∙ eqb-true holder s a
one_holder s slot Missing a b = absurd (cc)

-- ---- a live slot was live in the update

module _ (m : Members) (change : Change) (lost : ℕ) (alone : AreGivesOfLive m change) where
  abbrev pub IsLeft : ℕ → Type 0
  IsLeft s = is_left (live_set m change) lost s ≡ true

  by_parts : (s : ℕ) → s < 32 → is_in_update m change s ≡ true → has_slot lost s ≡ false → IsLeft s
  by_parts s below is left = (λ j. (in-set_of (is_in_update m change) s below ∙ is) j && not (left j))

  -- a slot whose give isn't Same
  given_live : (s : ℕ) → (give_of change.gives s ≡ Same → ⊥) → is_in_update m change s ≡ true
  given_live s other = of (is_in_update m change s) refl
    where
      of : (b : Bool) → is_in_update m change s ≡ b → is_in_update m change s ≡ true
      of true is = is
      of false is = absurd (other (alone s is))

  is_live_then : (s : ℕ) → is_live m.roles m.spares s ≡ true → is_in_update m change s ≡ true
  is_live_then s is = ap (λ (b : Bool). b || is_added change.added s) is

  holder_live : (s role slot : ℕ) (g : Give) → give_of change.gives slot ≡ g → is_same role (planned_role m.roles g slot) ≡ true
      → is_held_by s (held_state (get_or m.roles role Missing) g slot) ≡ true → (slot ≡ s) × (is_in_update m change slot ≡ true)
  holder_live s role slot Same given same held =
      let first = same_role role (role_from slot 0 m.roles) same in
      let none : role - 0 ≡ role = omega arith in
      let here = ap (λ (n : ℕ). is_held_by slot (get_or m.roles n Missing)) (sym none) ∙ (role_held slot 0 role m.roles first).1 in
      let any : list_any (is_held_by slot) m.roles ≡ true = sym (some_role slot 0 m.roles) ∙ ap is_some first in
      (one_holder s slot (get_or m.roles role Missing) held here, is_live_then slot (ap (λ (b : Bool). b || list_any (λ spare. spare == slot) m.spares) any))
  holder_live s role slot (give.Role r (Some offset)) given same held = (eqb-true slot s held, given_live slot (λ is. absurd (let e = sym given ∙ is in cc)))
  holder_live s role slot (give.Role r None) given same held = (eqb-true slot s held, given_live slot (λ is. absurd (let e = sym given ∙ is in cc)))
  holder_live s role slot Spare given same held = absurd (cc)

  role_left : (s role : ℕ) (o : Option ℕ) → least_below 32 (is_planned_holder m.roles change.gives lost role) ≡ o
      → is_held_by s (planned_state m.roles change.gives lost role) ≡ true → IsLeft s
  role_left s role None none held =
      absurd (let e = ap (λ (p : Option ℕ). is_held_by s (option_map_or (λ slot. held_state (get_or m.roles role Missing) (give_of change.gives slot) slot) p Missing)) (sym none) ∙ held in cc)
  role_left s role (Some slot) found held =
      let f = least_found 32 (is_planned_holder m.roles change.gives lost role) slot found in
      let left = not_true (has_slot lost slot) (and_first (not (has_slot lost slot)) (is_same role (planned_role m.roles (give_of change.gives slot) slot)) f.1) in
      let same = and_second (not (has_slot lost slot)) (is_same role (planned_role m.roles (give_of change.gives slot) slot)) f.1 in
      let here : is_held_by s (held_state (get_or m.roles role Missing) (give_of change.gives slot) slot) ≡ true =
      ap (λ (p : Option ℕ). is_held_by s (option_map_or (λ x. held_state (get_or m.roles role Missing) (give_of change.gives x) x) p Missing)) (sym found) ∙ held in
      let is = holder_live s role slot (give_of change.gives slot) refl same here in
      subst IsLeft is.0 (by_parts slot f.0 is.1 left)

  spare_live : (s : ℕ) (g : Give) → give_of change.gives s ≡ g → is_planned_spare m.spares change.added g s ≡ true → is_in_update m change s ≡ true
  spare_live s Same given is = of (or_cases (list_any (λ spare. spare == s) m.spares) (is_added change.added s) is)
    where
      or_true : (b : Bool) → (b || true) ≡ true
      or_true true = refl
      or_true false = refl

      of : (list_any (λ spare. spare == s) m.spares ≡ true) ⊎ (is_added change.added s ≡ true) → is_in_update m change s ≡ true
      of (inl spare) = is_live_then s (ap (λ (b : Bool). list_any (is_held_by s) m.roles || b) spare ∙ or_true (list_any (is_held_by s) m.roles))
      of (inr added) = ap (λ (b : Bool). is_live m.roles m.spares s || b) added ∙ or_true (is_live m.roles m.spares s)
  spare_live s (give.Role r recovery) given is = absurd (cc)
  spare_live s Spare given is = given_live s (λ same. absurd (let e = sym given ∙ same in cc))

  live_left : (s : ℕ) → is_live (planned_roles m change lost) (planned_spares m change lost) s ≡ true → IsLeft s
  live_left s is = of (or_cases (list_any (is_held_by s) (planned_roles m change lost)) (list_any (λ spare. spare == s) (planned_spares m change lost)) is)
    where
      of : (list_any (is_held_by s) (planned_roles m change lost) ≡ true) ⊎ (list_any (λ spare. spare == s) (planned_spares m change lost) ≡ true) → IsLeft s
      of (inl holds) =
          let role = any_tabulated (is_held_by s) (planned_state m.roles change.gives lost) (role_count change.shared) holds in
          role_left s role.0 (least_below 32 (is_planned_holder m.roles change.gives lost role.0)) refl role.1
      of (inr spare) =
          let found = any_slot (λ slot. not (has_slot lost slot) && is_planned_spare m.spares change.added (give_of change.gives slot) slot) s 32 spare in
          let left = not_true (has_slot lost s) (and_first (not (has_slot lost s)) (is_planned_spare m.spares change.added (give_of change.gives s) s) found.1) in
          by_parts s found.0 (spare_live s (give_of change.gives s) refl (and_second (not (has_slot lost s)) (is_planned_spare m.spares change.added (give_of change.gives s) s) found.1)) left

  -- ---- and can be written again

  writable_planned : (newest : Sb) (g : Give) (sb : Sb) → IsWritable sb → IsWritable (planned newest g sb)
  writable_planned newest Same sb w = record { magic = w.magic; major = w.major; super_offset = w.super_offset; max_dev = w.max_dev }
  writable_planned newest (give.Role r (Some offset)) sb w = record { magic = w.magic; major = w.major; super_offset = w.super_offset; max_dev = w.max_dev }
  writable_planned newest (give.Role r None) sb w = record { magic = w.magic; major = w.major; super_offset = w.super_offset; max_dev = w.max_dev }
  writable_planned newest Spare sb w = record { magic = w.magic; major = w.major; super_offset = w.super_offset; max_dev = w.max_dev }

  with_checksum : (sb stored : Sb) (sum : ℕ) → stored ≡ record sb { sb_csum = sum } → IsWritable sb → IsWritable stored
  with_checksum sb stored sum is w = subst IsWritable (sym is) (record { magic = w.magic; major = w.major; super_offset = w.super_offset; max_dev = w.max_dev })

  pub live_after : (given : Given) (newest : Sb) (own own' : List (Option Sb)) → AreMembers given own (live_set m change)
      → AreStored newest change.gives (is_left (live_set m change) lost) own own'
      → (s : ℕ) → is_live (planned_roles m change lost) (planned_spares m change lost) s ≡ true → IsMember given (own_in own' s) s
  live_after given newest own own' members stored s is =
      let left = live_left s is in
      let member = members s (left_live (has_slot (live_set m change) s) (not (has_slot lost s)) left) in
      let kept : IsStored (planned newest (give_of change.gives s) member.sb) (own_in own' s) =
      subst (λ (o : Option Sb). IsPlannedOwn newest (give_of change.gives s) o (own_in own' s)) member.own (stored.written s left) in
      record {
        place = member.place;
        sb = sb_of kept.bytes;
        own = kept.own;
        writable = with_checksum (planned newest (give_of change.gives s) member.sb) (sb_of kept.bytes) (checksum kept.bytes) kept.fields (writable_planned newest (give_of change.gives s) member.sb member.writable);
      }
