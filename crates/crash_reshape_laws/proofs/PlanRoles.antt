-- The roles that a plan doesn't give are what they were.
use Rattle.std.proofs.Common.{◌≡◌, ◌⊎◌, inl, inr, ℕ, ◌<◌, nat_lt, Bool, true, false, not, cond, get_or, Option, Some, None, option_map, refl, sym, ◌∙◌, ap, subst, arith}
use Rattle.std.specs.Option.{option_map_or}
use Rattle.std.proofs.lemmas.Bool.{cases_lt}
use Rattle.std.proofs.lemmas.Bool.Decides.{nat_tests}
use Rattle.std.proofs.lemmas.List.{get_or_past}
use Rattle.crash_safety_laws.specs.raid_types_the_Role.{Role}
use Rattle.crash_safety_laws.specs.raid_types_the_Role_TheVariants.{Whole, Recovering, Missing}
use Rattle.crash_safety_laws.specs.raid_types_Search.{tabulate, least_below}
use Rattle.crash_safety_laws.specs.raid_types_Shapes.{has_slot}
use Rattle.crash_safety_laws.proofs.raid_types_Tabulated.{length-tabulate, get_or-tabulate}
use Rattle.crash_safety_laws.specs.sb_codec_the_Sb.{Sb}
use Rattle.crash_safety_laws.specs.sb_specs_the_Give.{Give}
use Rattle.crash_safety_laws.specs.sb_specs_the_Give_TheVariants.{Same, Spare}
use Rattle.crash_safety_laws.specs.sb_specs_the_Give_TheVariants as give
use Rattle.crash_safety_laws.specs.sb_specs_the_Change.{Change}
use Rattle.crash_safety_laws.specs.sb_specs_the_Members.{Members}
use Rattle.crash_safety_laws.specs.sb_specs_Reading.{is_reshaping, shape_of, final_shape, role_count, role_state, rows_held, holder, is_whole}
use Rattle.crash_safety_laws.specs.sb_specs_Update.{with_give, give_of, own_in, planned_role}
use Rattle.crash_safety_laws.specs.sb_specs_Outcome.{is_same, is_planned_holder, held_state, planned_state}
use Rattle.crash_safety_laws.proofs.sb_read_laws_SaidLists.{role-holder}
use Rattle.crash_safety_laws.specs.stripe_row_Rows.{reading_of, is_missing, held_slot}
use Rattle.crash_safety_laws.proofs.stripe_row_Losses.{holder-of}
use Rattle.crash_safety_laws.specs.Updates.{planned_view}
use Rattle.crash_reshape_laws.specs.Ends.{AreRolesKept, AreMissingKept}
use Rattle.crash_reshape_laws.specs.Plans.{GivesFrom, HasNoneRecovering, PlansKeepRoles, PlannedIsBegun, PlannedIsEnded, PlannedIsTakenUp, PlannedIsTakenDown}
use Rattle.crash_safety_laws.proofs.PlansLose.{found-passes, same-role, both-parts}

module _ (m : Members) (change : Change) (named : ℕ) where
  abbrev Plan : Members
  Plan = planned_view m change named

  -- a role of the plan is missing, or of a slot that holds it by the plan
  pub record IsPlanned (role : ℕ) : Type 0 where
    pub slot : ℕ
    pub small : slot < 32
    pub planned : planned_role m.roles (give_of change.gives slot) slot ≡ Some role
    pub state : role_state (reading_of (planned_view m change named)) role ≡ held_state (get_or m.roles role Missing) (give_of change.gives slot) slot

  pub planned-or : (role : ℕ) → (role_state (reading_of (planned_view m change named)) role ≡ Missing) ⊎ IsPlanned role
  planned-or role = elim (cases_lt role (role_count change.shared)) [
    | inr past ↦ inl (get_or_past (tabulate (role_count change.shared) (planned_state m.roles change.gives named)) role Missing (let long = length-tabulate (role_count change.shared) (planned_state m.roles change.gives named) in omega (arith, past, long)))
    | inl below ↦ (
        let here = get_or-tabulate (role_count change.shared) (planned_state m.roles change.gives named) role Missing below in
        of (least_below 32 (is_planned_holder m.roles change.gives named role)) refl here)
  ]
    where
      of : (o : Option ℕ) → least_below 32 (is_planned_holder m.roles change.gives named role) ≡ o → role_state (reading_of (planned_view m change named)) role ≡ planned_state m.roles change.gives named role
          → (role_state (reading_of (planned_view m change named)) role ≡ Missing) ⊎ IsPlanned role
      of None e here = inl (here ∙ ap (λ (o : Option ℕ). option_map_or (λ slot. held_state (get_or m.roles role Missing) (give_of change.gives slot) slot) o Missing) e)
      of (Some slot) e here =
          let found = found-passes 32 (is_planned_holder m.roles change.gives named role) slot e in
          inr (record {
            slot = slot;
            small = found.0;
            planned = same-role role (planned_role m.roles (give_of change.gives slot) slot) (both-parts (has_slot named slot) (is_same role (planned_role m.roles (give_of change.gives slot) slot)) found.1).1;
            state = here ∙ ap (λ (o : Option ℕ). option_map_or (λ slot. held_state (get_or m.roles role Missing) (give_of change.gives slot) slot) o Missing) e;
          })

  -- a slot that is given nothing has its superblock
  pub own-same : (slot : ℕ) → slot < 32 → give_of change.gives slot ≡ Same → own_in (Plan.own) slot ≡ own_in m.own slot
  own-same slot small same =
      get_or-tabulate 32 (λ slot. option_map (with_give (give_of change.gives slot)) (own_in m.own slot)) slot None small
      ∙ ap (λ (g : Give). option_map (with_give g) (own_in m.own slot)) same ∙ of (own_in m.own slot)
    where
      of : (o : Option Sb) → option_map (with_give Same) o ≡ o
      of None = refl
      of (Some sb) = refl

  module _ (first : ℕ) (gives : GivesFrom change first) where
    -- a role that isn't given is as it was, where a slot holds it
    record IsKeptRole (role slot : ℕ) : Type 0 where
      pub small : slot < 32
      pub same : give_of change.gives slot ≡ Same
      pub was : holder (role_state (reading_of m) role) ≡ Some slot
      pub state : role_state (reading_of (planned_view m change named)) role ≡ role_state (reading_of m) role

    kept-role : (role : ℕ) → role < first → IsPlanned role → (slot : ℕ) × IsKeptRole role slot
    kept-role role lt p = of (give_of change.gives p.slot) refl
      where
        of : (g : Give) → give_of change.gives p.slot ≡ g → (slot : ℕ) × IsKeptRole role slot
        of Same is = (
          p.slot,
          record {
            small = p.small;
            same = is;
            was = role-holder p.slot m.roles role (sym (ap (λ (g : Give). planned_role m.roles g p.slot) is) ∙ p.planned);
            state = p.state ∙ ap (λ (g : Give). held_state (get_or m.roles role Missing) g p.slot) is;
          },
        )
        of (give.Role other recovery) is = absurd (
            let le = gives p.slot other recovery is in
            let same : other ≡ role = some-only other role (sym (ap (λ (g : Give). planned_role m.roles g p.slot) is) ∙ p.planned) in
            omega (arith, le, same, lt))
          where
            some-only : (a b : ℕ) → ◌≡◌ {A = Option ℕ} (Some a) (Some b) → a ≡ b
            some-only a b e = cc
        of Spare is = absurd (none role (sym (ap (λ (g : Give). planned_role m.roles g p.slot) is) ∙ p.planned))
          where
            none : (role : ℕ) → ◌≡◌ {A = Option ℕ} None (Some role) → ⊥
            none role e = absurd (cc)

    module _ (size : change.shared.size ≡ m.newest.size) (few : is_reshaping m.newest ≡ true → HasNoneRecovering m) where
      -- the rows that it has were held
      rows-were : (role slot row : ℕ) (state : Role) → role_state (reading_of m) role ≡ state → own_in (Plan.own) slot ≡ own_in m.own slot
          → cond (nat_lt row (rows_held (reading_of Plan) state)) (holder state) None ≡ Some slot
          → cond (nat_lt row (rows_held (reading_of m) state)) (holder state) None ≡ Some slot
      rows-were role slot row (Whole s) is own held = ap (λ (n : ℕ). cond (nat_lt row n) (Some s) None) (sym size) ∙ held
      rows-were role slot row Missing is own held = held
      rows-were role slot row (Recovering s) is own held = of (is_reshaping Plan.newest) (is_reshaping m.newest) refl refl
        where
          here : (s ≡ slot)
          here = from (nat_lt row (rows_held (reading_of Plan) (Recovering s))) held
            where
              from : (b : Bool) → cond b (Some s) None ≡ Some slot → s ≡ slot
              from true e = cc
              from false e = absurd (cc)

          never : (n : ℕ) → n ≡ 0 → nat_lt row n ≡ false
          never n z = grind (arith, nat_tests, z)

          of : (a b : Bool) → is_reshaping Plan.newest ≡ a → is_reshaping m.newest ≡ b → cond (nat_lt row (rows_held (reading_of m) (Recovering s))) (Some s) None ≡ Some slot
          of a true one two = absurd (few two role s is)
          of true false one two = absurd (no held)
            where
              no : cond (nat_lt row (rows_held (reading_of Plan) (Recovering s))) (Some s) None ≡ Some slot → ⊥
              no e = absurd (let none : ◌≡◌ {A = Option ℕ} None (Some slot) =
                  sym (ap (λ (b : Bool). cond b (Some s) None) (never (rows_held (reading_of Plan) (Recovering s)) (ap (λ (b : Bool). cond b 0 (option_map_or (λ sb. sb.recovery_offset) (own_in Plan.own s) 0)) one))) ∙ e in cc)
          of false false one two =
              let own' : own_in Plan.own s ≡ own_in m.own s = subst (λ (k : ℕ). own_in Plan.own k ≡ own_in m.own k) (sym here) own in
              let same : rows_held (reading_of m) (Recovering s) ≡ rows_held (reading_of Plan) (Recovering s) =
              (λ i. cond (two i) 0 (option_map_or (λ sb. sb.recovery_offset) (own_in m.own s) 0))
              ∙ ap (λ (o : Option Sb). option_map_or (λ sb. sb.recovery_offset) o 0) (sym own')
              ∙ (λ i. cond (sym one i) 0 (option_map_or (λ sb. sb.recovery_offset) (own_in Plan.own s) 0)) in
              ap (λ (n : ℕ). cond (nat_lt row n) (Some s) None) same ∙ held

      pub roles-kept : AreRolesKept m (planned_view m change named) first first
      roles-kept role row slot lt held = elim (planned-or role) [
        | inl none ↦ absurd (no (sym (holder-of (reading_of Plan) role row slot held) ∙ ap holder none))
        | inr p ↦ (
            let found = kept-role role lt p in
            let k = found.1 in
            let same : found.0 ≡ slot = some-only found.0 slot (sym k.was ∙ ap holder (sym k.state) ∙ holder-of (reading_of Plan) role row slot held) in
            let own : own_in Plan.own slot ≡ own_in m.own slot = subst (λ (s : ℕ). own_in Plan.own s ≡ own_in m.own s) same (own-same found.0 k.small k.same) in
            record {
              within = lt;
              held = rows-were role slot row (role_state (reading_of m) role) refl own (subst (λ (s : Role). cond (nat_lt row (rows_held (reading_of Plan) s)) (holder s) None ≡ Some slot) k.state held);
              offset = ap (λ (o : Option Sb). option_map_or (λ sb. sb.data_offset) o 0) own;
            })
      ]
        where
          no : ◌≡◌ {A = Option ℕ} (Some slot) None → ⊥
          no e = absurd (cc)

          some-only : (a b : ℕ) → ◌≡◌ {A = Option ℕ} (Some a) (Some b) → a ≡ b
          some-only a b e = cc

    pub missing-kept : AreMissingKept m (planned_view m change named) first
    missing-kept role lt gone = elim (planned-or role) [
      | inl none ↦ ap (λ (s : Role). not (is_whole s)) none
      | inr p ↦ ap (λ (s : Role). not (is_whole s)) (kept-role role lt p).1.state ∙ gone
    ]

pub plans-keep : PlansKeepRoles
plans-keep m change named first gives size few = (roles-kept m change named first gives size few, missing-kept m change named first gives)

still-few : (m : Members) → is_reshaping m.newest ≡ false → is_reshaping m.newest ≡ true → HasNoneRecovering m
still-few m still active = absurd (cc)

pub planned-begun : PlannedIsBegun
planned-begun m change named keeping still active shape start gives = record {
  still = still;
  active = active;
  shape = shape;
  size = keeping.size;
  clean = keeping.clean;
  start = start;
  kept = roles-kept m change named (shape_of m.newest).disks gives keeping.size (still-few m still);
  missing = missing-kept m change named (shape_of m.newest).disks gives;
}

pub planned-ended : PlannedIsEnded
planned-ended m change named keeping active still shape last gives none without = record {
  active = active;
  still = still;
  shape = shape;
  size = keeping.size;
  clean = keeping.clean;
  last = last;
  kept = roles-kept m change named (final_shape m.newest).disks gives keeping.size (λ active. none);
  missing = missing-kept m change named (final_shape m.newest).disks gives;
  without = without;
}

pub planned-down : PlannedIsTakenDown
planned-down m change named keeping still still-too five shape gives = record {
  still = still;
  still_too = still-too;
  five = five;
  shape = shape;
  size = keeping.size;
  clean = keeping.clean;
  kept = λ role row slot lt held. let k = roles-kept m change named (shape_of (planned_view m change named).newest).disks gives keeping.size (still-few m still) role row slot lt held in
      record { within = (let w = k.within in omega (arith, w)); held = k.held; offset = k.offset };
  missing = missing-kept m change named (shape_of (planned_view m change named).newest).disks gives;
}

pub planned-up : PlannedIsTakenUp
planned-up m change named keeping still still-too five shape long gives = record {
  still = still;
  still_too = still-too;
  five = five;
  shape = shape;
  size = keeping.size;
  clean = keeping.clean;
  kept = λ role row slot lt held. elim (cases_lt role (shape_of m.newest).disks) [
    | inl below ↦ roles-kept m change named (shape_of m.newest).disks from keeping.size (still-few m still) role row slot below held
    | inr at ↦ absurd (last-none role row slot (omega (arith, lt, at)) held)
  ];
  missing = missing-kept m change named (shape_of m.newest).disks from;
  last = last-missing;
}
  where
    from : GivesFrom change (shape_of m.newest).disks
    from slot role recovery is = (let g = gives slot role recovery is in omega (arith, g.0))

    -- the last role is missing, or recovers, and has no row yet
    last-or : (role : ℕ) → role ≡ (shape_of m.newest).disks → (role_state (reading_of (planned_view m change named)) role ≡ Missing)
        ⊎ ((slot : ℕ) × (slot < 32) × (role_state (reading_of (planned_view m change named)) role ≡ Recovering slot) × ((other : ℕ) × (give_of change.gives slot ≡ give.Role other (Some 0))))
    last-or role at = elim (planned-or m change named role) [
      | inl none ↦ inl none
      | inr p ↦ of p (give_of change.gives p.slot) refl
    ]
      where
        past : get_or m.roles role Missing ≡ Missing
        past = get_or_past m.roles role Missing (omega (arith, long, at))

        no : (s : ℕ) → holder (get_or m.roles role Missing) ≡ Some s → ⊥
        no s e = absurd (let none = sym (ap holder past) ∙ e in cc)

        none : (role : ℕ) → ◌≡◌ {A = Option ℕ} None (Some role) → ⊥
        none role e = absurd (cc)

        of : (p : IsPlanned m change named role) (g : Give) → give_of change.gives p.slot ≡ g → (role_state (reading_of (planned_view m change named)) role ≡ Missing)
            ⊎ ((slot : ℕ) × (slot < 32) × (role_state (reading_of (planned_view m change named)) role ≡ Recovering slot) × ((other : ℕ) × (give_of change.gives slot ≡ give.Role other (Some 0))))
        of p Same is = absurd (no p.slot (role-holder p.slot m.roles role (sym (ap (λ (g : Give). planned_role m.roles g p.slot) is) ∙ p.planned)))
        of p (give.Role other recovery) is =
            let full : give_of change.gives p.slot ≡ give.Role other (Some 0) = is ∙ ap (give.Role other) (gives p.slot other recovery is).1 in
            inr (p.slot, p.small, p.state ∙ ap (λ (g : Give). held_state (get_or m.roles role Missing) g p.slot) full, (other, full))
        of p Spare is = absurd (none role (sym (ap (λ (g : Give). planned_role m.roles g p.slot) is) ∙ p.planned))

    last-missing : is_missing (reading_of (planned_view m change named)) (shape_of m.newest).disks ≡ true
    last-missing = elim (last-or (shape_of m.newest).disks refl) [
      | inl none ↦ ap (λ (s : Role). not (is_whole s)) none
      | inr found ↦ ap (λ (s : Role). not (is_whole s)) found.2
    ]

    last-none : (role row slot : ℕ) → role ≡ (shape_of m.newest).disks → held_slot (reading_of (planned_view m change named)) role row ≡ Some slot → ⊥
    last-none role row slot at held = elim (last-or role at) [
      | inl none ↦ gone slot (sym (ap holder none) ∙ holder-of (reading_of (planned_view m change named)) role row slot held)
      | inr found ↦ (
          let own : own_in (planned_view m change named).own found.0 ≡ option_map (with_give (give.Role found.3.0 (Some 0))) (own_in m.own found.0) =
          get_or-tabulate 32 (λ slot. option_map (with_give (give_of change.gives slot)) (own_in m.own slot)) found.0 None found.1
          ∙ ap (λ (g : Give). option_map (with_give g) (own_in m.own found.0)) found.3.1 in
          let zero_is : rows_held (reading_of (planned_view m change named)) (Recovering found.0) ≡ 0 =
          ap (λ (b : Bool). cond b 0 (option_map_or (λ sb. sb.recovery_offset) (own_in (planned_view m change named).own found.0) 0)) still-too
          ∙ ap (λ (o : Option Sb). option_map_or (λ sb. sb.recovery_offset) o 0) own ∙ amount (own_in m.own found.0) found.3.0 in
          gone slot (sym (ap (λ (b : Bool). cond b (Some found.0) None) (never (rows_held (reading_of (planned_view m change named)) (Recovering found.0)) zero_is))
          ∙ sym (ap (λ (s : Role). cond (nat_lt row (rows_held (reading_of (planned_view m change named)) s)) (holder s) None) found.2) ∙ held))
    ]
      where
        gone : (slot : ℕ) → ◌≡◌ {A = Option ℕ} None (Some slot) → ⊥
        gone slot e = absurd (cc)

        never : (k : ℕ) → k ≡ 0 → nat_lt row k ≡ false
        never k z = grind (arith, nat_tests, z)

        amount : (o : Option Sb) (other : ℕ) → option_map_or (λ sb. sb.recovery_offset) (option_map (with_give (give.Role other (Some 0))) o) 0 ≡ 0
        amount None other = refl
        amount (Some sb) other = refl
