-- A plan in which more slots are named lost has no more than one in which fewer are.
use Rattle.std.proofs.Common.{◌≡◌, ◌⊎◌, inl, inr, ℕ, zero, suc, ◌<◌, ◌==◌, Bool, true, false, not, ◌&&◌, cond, get_or, Option, Some, None, refl, sym, ◌∙◌, ap, subst, arith}
use Rattle.std.specs.Option.{option_or, option_map_or}
use Rattle.std.proofs.lemmas.Bool.{cases_lt}
use Rattle.std.proofs.lemmas.Bool.Decides.{nat_tests}
use Rattle.std.proofs.lemmas.List.{get_or_past}
use Rattle.crash_views.specs.raid_types_the_Role.{Role}
use Rattle.crash_views.specs.raid_types_the_Role_TheVariants.{Whole, Recovering, Missing}
use Rattle.crash_views.specs.raid_types_Search.{tabulate, least_below}
use Rattle.crash_views.specs.raid_types_Shapes.{has_slot}
use Rattle.crash_views.proofs.raid_types_Tabulated.{length-tabulate, get_or-tabulate}
use Rattle.crash_views.specs.sb_specs_the_Change.{Change}
use Rattle.crash_views.specs.sb_specs_the_Members.{Members}
use Rattle.crash_views.specs.sb_specs_Reading.{role_count, role_state, rows_held, holder, is_whole}
use Rattle.crash_views.specs.sb_specs_Update.{give_of, planned_role}
use Rattle.crash_views.specs.sb_specs_Outcome.{is_same, is_planned_holder, held_state, planned_state}
use Rattle.crash_views.proofs.sb_specs_ReadAlike.{none_below}
use Rattle.crash_views.specs.stripe_row_Rows.{reading_of}
use Rattle.crash_safety_laws.specs.Updates.{planned_view, IsLessView, HasOneHolder, PlansLoseRoles}

-- what a search finds passes, and nothing lower does
pub found-passes : (n : ℕ) (test : ℕ → Bool) (k : ℕ) → least_below n test ≡ Some k → (k < n) × (test k ≡ true)
unfolding least_below
found-passes zero test k is = absurd (cc)
found-passes (suc n) test k is = of (least_below n test) (test n) (found-passes n test k) refl is
  where
    of : (before : Option ℕ) (here : Bool) → (before ≡ Some k → (k < n) × (test k ≡ true)) → test n ≡ here → option_or before (cond here (Some n) None) ≡ Some k → (k < suc n) × (test k ≡ true)
    of (Some i) here rest passes e = let found = rest e in (omega (arith, found.0), found.1)
    of None true rest passes e = let same : n ≡ k = cc in (omega (arith, same), subst (λ (i : ℕ). test i ≡ true) same passes)
    of None false rest passes e = absurd (cc)

pub same-role : (role : ℕ) (o : Option ℕ) → is_same role o ≡ true → o ≡ Some role
same-role role None e = absurd (cc)
same-role role (Some other) e = ap (λ (n : ℕ). Some n) (equal other role e)
  where
    equal : (a b : ℕ) → (a == b) ≡ true → a ≡ b
    equal a b h = grind (arith, nat_tests)

pub both-parts : (a b : Bool) → (not a && b) ≡ true → (a ≡ false) × (b ≡ true)
both-parts true b e = absurd (cc)
both-parts false b e = (refl, e)

join-parts : (a b : Bool) → a ≡ false → b ≡ true → (not a && b) ≡ true
join-parts true b e f = absurd (cc)
join-parts false b e f = f

module _ (members : Members) (change : Change) (few more : ℕ) (within : (s : ℕ) → has_slot few s ≡ true → has_slot more s ≡ true) (one : HasOneHolder members change few) where
  -- a slot that isn't lost by the more isn't by the fewer
  kept : (s : ℕ) → has_slot more s ≡ false → has_slot few s ≡ false
  kept s none = of (has_slot few s) refl
    where
      of : (b : Bool) → has_slot few s ≡ b → b ≡ false
      of true is = absurd (let e = within s is in cc)
      of false is = refl

  abbrev holds : ℕ → ℕ → ℕ → Bool
  holds lost role slot = is_planned_holder members.roles change.gives lost role slot

  passes : (role slot : ℕ) → holds more role slot ≡ true → holds few role slot ≡ true
  passes role slot is =
      let parts = both-parts (has_slot more slot) (is_same role (planned_role members.roles (give_of change.gives slot) slot)) is in
      join-parts (has_slot few slot) (is_same role (planned_role members.roles (give_of change.gives slot) slot)) (kept slot parts.0) parts.1

  -- a slot that is found with more named is found with fewer
  found-too : (role slot : ℕ) → least_below 32 (is_planned_holder members.roles change.gives more role) ≡ Some slot → least_below 32 (is_planned_holder members.roles change.gives few role) ≡ Some slot
  found-too role slot is =
      let found = found-passes 32 (is_planned_holder members.roles change.gives more role) slot is in
      of (least_below 32 (is_planned_holder members.roles change.gives few role)) refl found.0 (passes role slot found.1)
    where
      of : (o : Option ℕ) → least_below 32 (is_planned_holder members.roles change.gives few role) ≡ o → slot < 32 → holds few role slot ≡ true → o ≡ Some slot
      of None e lt here = absurd (let none = none_below 32 (is_planned_holder members.roles change.gives few role) slot lt e in cc)
      of (Some t) e lt here =
          let there = (found-passes 32 (is_planned_holder members.roles change.gives few role) t e).1 in
          let mine = both-parts (has_slot few slot) (is_same role (planned_role members.roles (give_of change.gives slot) slot)) here in
          let its = both-parts (has_slot few t) (is_same role (planned_role members.roles (give_of change.gives t) t)) there in
          ap (λ (n : ℕ). Some n) (one t slot role its.0 mine.0 (same-role role (planned_role members.roles (give_of change.gives t) t) its.1) (same-role role (planned_role members.roles (give_of change.gives slot) slot) mine.1))

  abbrev state : ℕ → ℕ → Role
  state lost role = planned_state members.roles change.gives lost role

  -- a role is as it is with fewer named, or missing
  state-or : (role : ℕ) → (state more role ≡ state few role) ⊎ (state more role ≡ Missing)
  state-or role = of (least_below 32 (is_planned_holder members.roles change.gives more role)) refl
    where
      of : (o : Option ℕ) → least_below 32 (is_planned_holder members.roles change.gives more role) ≡ o → (state more role ≡ state few role) ⊎ (state more role ≡ Missing)
      of None e = inr (ap (λ (o : Option ℕ). option_map_or (λ slot. held_state (get_or members.roles role Missing) (give_of change.gives slot) slot) o Missing) e)
      of (Some slot) e = inl (ap (λ (o : Option ℕ). option_map_or (λ slot. held_state (get_or members.roles role Missing) (give_of change.gives slot) slot) o Missing) (e ∙ sym (found-too role slot e)))

  abbrev Few : Members
  Few = planned_view members change few

  abbrev More : Members
  More = planned_view members change more

  listed-or : (role : ℕ) → (role_state (reading_of More) role ≡ role_state (reading_of Few) role) ⊎ (role_state (reading_of More) role ≡ Missing)
  listed-or role = elim (cases_lt role (role_count change.shared)) [
    | inl below ↦ (
        let a = get_or-tabulate (role_count change.shared) (planned_state members.roles change.gives more) role Missing below in
        let b = get_or-tabulate (role_count change.shared) (planned_state members.roles change.gives few) role Missing below in
        elim (state-or role) [ inl same ↦ inl (a ∙ same ∙ sym b) | inr gone ↦ inr (a ∙ gone) ])
    | inr past ↦ inr (get_or_past (tabulate (role_count change.shared) (planned_state members.roles change.gives more)) role Missing (let long = length-tabulate (role_count change.shared) (planned_state members.roles change.gives more) in omega (arith, past, long)))
  ]

  pub loses : IsLessView Few More
  loses = record {
    array = record { level = refl; layout = refl; size = refl; chunksize = refl; raid_disks = refl; new_level = refl; reshape_position = refl; delta_disks = refl; new_layout = refl; new_chunk = refl; resync_offset = refl; reshaping = refl; backward = refl };
    roles = length-tabulate (role_count change.shared) (planned_state members.roles change.gives more) ∙ sym (length-tabulate (role_count change.shared) (planned_state members.roles change.gives few));
    states = λ role slot held. elim (listed-or role) [ inl same ↦ same | inr gone ↦ absurd (let e = sym held ∙ ap holder gone in cc) ];
    rows = λ role. same-rows (role_state (reading_of More) role);
    offsets = λ role slot held. refl;
    missing = λ role gone. elim (listed-or role) [
      | inl same ↦ ap (λ (s : Role). not (is_whole s)) same ∙ gone
      | inr none ↦ ap (λ (s : Role). not (is_whole s)) none
    ];
  }
    where
      same-rows : (s : Role) → rows_held (reading_of More) s ≡ rows_held (reading_of Few) s
      same-rows (Whole slot) = refl
      same-rows (Recovering slot) = refl
      same-rows Missing = refl

pub plans-lose : PlansLoseRoles
plans-lose members change few more within one = loses members change few more within one
