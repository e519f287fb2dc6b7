-- In the plan of a begin each role has a holder, where none was missing and there were spares enough. So what is missing behind its update was lost in it.
use Rattle.std.proofs.Common.{◌≡◌, inl, inr, ℕ, ◌+◌, ◌<◌, ◌≤◌, ◌&&◌, nat_lt, true, false, not, Option, Some, None, List, get_or, length, refl, sym, ◌∙◌, ap, arith}
use Rattle.std.specs.Prelude.{is_some}
use Rattle.std.specs.Option.{option_map_or}
use Rattle.std.proofs.lemmas.Bool.{cases_lt, and_parts}
use Rattle.std.proofs.lemmas.Bool.Decides.{nat_tests}
use Rattle.std.proofs.lemmas.List.{get_or_past}
use Rattle.array_reshaping_steps.specs.raid_types_Search.{tabulate, least_below}
use Rattle.array_reshaping_steps.specs.raid_types_Shapes.{has_slot}
use Rattle.array_reshaping_steps.specs.raid_types_the_Shape.{Shape}
use Rattle.array_reshaping_steps.specs.raid_types_the_Role.{Role}
use Rattle.array_reshaping_steps.specs.raid_types_the_Role_TheVariants.{Whole, Recovering, Missing}
use Rattle.array_reshaping_steps.proofs.raid_types_Tabulated.{length-tabulate, get_or-tabulate}
use Rattle.array_reshaping_steps.specs.bank_Given.{Given, IsFaulted}
use Rattle.array_reshaping_steps.proofs.raid_layout_Limits.{limited}
use Rattle.array_reshaping_steps.specs.reshape_geometry_Geometry.{AreInForce}
use Rattle.array_reshaping_steps.specs.sb_specs_the_Change.{Change}
use Rattle.array_reshaping_steps.specs.sb_specs_the_Give.{Give}
use Rattle.array_reshaping_steps.specs.sb_specs_the_Members.{Members}
use Rattle.array_reshaping_steps.specs.sb_specs_Outcome.{is_planned_holder, held_state, planned_state}
use Rattle.array_reshaping_steps.specs.sb_specs_Reading.{is_reshaping, is_whole, shape_of, role_count, role_state, holder}
use Rattle.array_reshaping_steps.specs.sb_specs_Update.{give_of, planned_role}
use Rattle.array_reshaping_steps.proofs.sb_read_laws_SaidLists.{held-holder}
use Rattle.array_reshaping_steps.specs.stripe_row_Rows.{reading_of, is_missing}
use Rattle.array_reshaping_steps.specs.crash_safety_laws_Safety.{HasLiveSlot}
use Rattle.array_reshaping_steps.specs.crash_safety_laws_Steady.{AreUnlost}
use Rattle.array_reshaping_steps.specs.crash_safety_laws_Updates.{HasOneHolder}
use Rattle.array_reshaping_steps.proofs.crash_safety_laws_PlannedRoles.{count-planned, planned-held}
use Rattle.array_reshaping_steps.specs.crash_reshape_laws_Plans.{HasNoneRecovering}
use Rattle.array_reshaping_steps.specs.reshape_sb_updates_Beginning.{beginning}
use Rattle.array_reshaping_steps.proofs.reshape_sb_updates_BegunPlan.{new-count, taking}
use Rattle.array_reshaping_steps.proofs.reshape_sb_updates_NewRoles.{new-or, new-taken}
use Rattle.array_reshaping_steps.proofs.reshape_sb_updates_Taken.{taking-one}
use Rattle.array_reshaping_steps.specs.reshape_begin_end_Begun.{begun_plan}
use Rattle.array_reshaping_steps.specs.array_members_Lacking.{AreLostSince, HaveFailedSince}
use Rattle.array_reshaping_steps.specs.array_members_Moving.{IsMoved}
use Rattle.array_reshaping_steps.specs.array_members_Placed.{is_unassigned, IsPlaced}
use Rattle.array_reshaping_steps.specs.array_members_Rebuilding.{AreSparesFree}
use Rattle.array_reshaping_steps.proofs.array_members_Fit.{count-alike, roles-still}
use Rattle.array_reshaping_steps.proofs.array_members_LackingLaws.{since-missing}
use Rattle.array_reshaping_steps.proofs.array_members_LiveLeft.{holder-left}
use Rattle.array_reshaping_steps.proofs.array_members_MarkLaws.{role_from-found}
use Rattle.array_reshaping_end_laws.proofs.history_invariant_laws_Behind.{IsAmong}
use Rattle.array_reshaping_steps.specs.array_fixed_invariant_Still.{AreNoneMissing}
use Rattle.array_reshaping_steps.proofs.array_call_specs_DegradedLaws.{within-count}
use Rattle.array_transition.specs.Begun.{CanBegin}
use Rattle.array_reshaping_steps.proofs.array_members_MarkLaws.{holder-held}

-- ---- one role

held-whole : (state : Role) → not (is_whole state) ≡ false → (slot : ℕ) × (holder state ≡ Some slot)
held-whole (Whole slot) e = (slot, refl)
held-whole (Recovering slot) e = absurd (cc)
held-whole Missing e = absurd (cc)

whole-held : (state : Role) (slot : ℕ) → holder state ≡ Some slot → ((t : ℕ) → state ≡ Recovering t → ⊥) → not (is_whole state) ≡ false
whole-held (Whole t) slot held none = refl
whole-held (Recovering t) slot held none = absurd (none t refl)
whole-held Missing slot held none = absurd (cc)

-- no slot recovers a role where none is missing
pub none-recovering : (given : Given) (m : Members) → IsPlaced given m → AreNoneMissing m → HasNoneRecovering m
none-recovering given m placed whole role slot is = elim (cases_lt role (role_count m.newest)) [
  | inl lt ↦ absurd (let there = whole role lt in let miss : is_missing (reading_of m) role ≡ true = ap (λ (s : Role). not (is_whole s)) is in let both : true ≡ false = sym miss ∙ there in cc)
  | inr past ↦ absurd (let count = placed.roles in let none = get_or_past m.roles role Missing (omega (arith, past, count)) in let both = sym none ∙ is in cc)
]

module _ (given : Given) (old : Members) (to : Shape) (placed : IsPlaced given old) (unlost : AreUnlost old) (free : AreSparesFree given old) (still : is_reshaping old.newest ≡ false)
    (forced : AreInForce (shape_of old.newest) to old.newest.size) (level : to.level ≡ old.newest.level) (can : CanBegin old to) where
  abbrev first : ℕ
  first = (shape_of old.newest).disks

  abbrev ch : Change
  ch = beginning old to

  counts : length old.roles ≡ (shape_of old.newest).disks
  counts = roles-still given old placed still

  own-slot : (role : ℕ) → role < first → (slot : ℕ) × (holder (role_state (reading_of old) role) ≡ Some slot)
  own-slot role lt = held-whole (role_state (reading_of old) role) (can.0 role (within-count given old placed role lt))

  -- some slot is live
  pub begin-live : HasLiveSlot old
  begin-live =
      let held = own-slot 0 (let least = (limited (shape_of old.newest) forced.old_valid).least in omega (arith, least)) in
      holder-left given old 0 held.0 placed unlost held.1

  -- ---- the plan

  one : HasOneHolder old (beginning old to) old.lost
  one = taking-one old (beginning old to) (taking old to still counts forced level)

  -- a slot that isn't lost holds the role that it gets
  plan-gets : (role slot : ℕ) → role < role_count ch.shared → slot < 32 → has_slot old.lost slot ≡ false → planned_role old.roles (give_of ch.gives slot) slot ≡ Some role
      → holder (role_state (reading_of (begun_plan old to)) role) ≡ Some slot
  plan-gets role slot below small kept has =
      ap holder (get_or-tabulate (role_count ch.shared) (planned_state old.roles ch.gives old.lost) role Missing below)
      ∙ planned-held old ch old.lost one slot role small kept has

  plan-old : (role : ℕ) → role < first → role < role_count ch.shared → (slot : ℕ) × (holder (role_state (reading_of (begun_plan old to)) role) ≡ Some slot)
  plan-old role lt below =
      let own = own-slot role lt in
      (own.0, plan-gets role own.0 below (placed.holders role own.0 own.1).small (unlost role own.0 own.1) (gets own.0 own.1))
    where
      gets : (slot : ℕ) → holder (role_state (reading_of old) role) ≡ Some slot → planned_role old.roles (give_of ch.gives slot) slot ≡ Some role
      gets slot held = elim (new-or old.spares first to.disks slot) [
        | inl same ↦ ap (λ (g : Give). planned_role old.roles g slot) same
            ∙ role_from-found slot 0 old.roles role (holder-held slot (get_or old.roles role Missing) held)
            (λ j is. placed.apart j role slot (held-holder slot (get_or old.roles j Missing) is) held)
            ∙ (let e : 0 + role ≡ role = omega arith in ap (λ (n : ℕ). Some n) e)
        | inr (other, new) ↦ absurd ((free slot new.spare).none role held)
      ]

  plan-new : (role : ℕ) → first ≤ role → role < role_count ch.shared → (slot : ℕ) × (holder (role_state (reading_of (begun_plan old to)) role) ≡ Some slot)
  plan-new role from below =
      let lt : role < to.disks = (let n = new-count old to still counts forced level in omega (arith, from, below, n)) in
      let new = new-taken old.spares first to.disks role from lt can.1 in
      (new.0, plan-gets role new.0 below new.1.small (free new.0 new.1.spare).unlost (ap (λ (g : Give). planned_role old.roles g new.0) new.1.gets))

  plan-holds : (role : ℕ) → role < role_count ch.shared → (slot : ℕ) × (holder (role_state (reading_of (begun_plan old to)) role) ≡ Some slot)
  plan-holds role below = elim (cases_lt role first) [ inl lt ↦ plan-old role lt below | inr from ↦ plan-new role from below ]

  -- the plan gives roles whole
  plan-whole : HasNoneRecovering old → HasNoneRecovering (begun_plan old to)
  plan-whole whole role slot is = elim (cases_lt role (role_count ch.shared)) [
    | inl below ↦ of (least_below 32 (is_planned_holder old.roles ch.gives old.lost role)) (sym (get_or-tabulate (role_count ch.shared) (planned_state old.roles ch.gives old.lost) role Missing below) ∙ is)
    | inr past ↦ absurd (
        let none = get_or_past (role_list (role_count ch.shared)) role Missing (let long = length-tabulate (role_count ch.shared) (planned_state old.roles ch.gives old.lost) in omega (arith, past, long)) in
        let both = sym none ∙ is in cc)
  ]
    where
      role_list : ℕ → List Role
      role_list n = tabulate n (planned_state old.roles ch.gives old.lost)

      of : (o : Option ℕ) → option_map_or (λ t. held_state (role_state (reading_of old) role) (give_of ch.gives t) t) o Missing ≡ Recovering slot → ⊥
      of None e = absurd (cc)
      of (Some t) e = elim (new-or old.spares first to.disks t) [
        | inl same ↦ whole role slot (ap (λ (g : Give). held_state (role_state (reading_of old) role) g t) (sym same) ∙ e)
        | inr new ↦ absurd (let both = ap (λ (g : Give). held_state (role_state (reading_of old) role) g t) (sym new.1.gets) ∙ e in cc)
      ]

  -- ---- behind it

  module _ (new : Members) (roles spares : ℕ) (before after : ℕ → ℕ) (moved : IsMoved given (begun_plan old to) new) (failed : HaveFailedSince (begun_plan old to) new spares before after)
      (lost : (role : ℕ) → has_slot roles role ≡ (nat_lt role (length new.roles) && is_unassigned (reading_of new) role)) where
    in-plan : (role : ℕ) → role < role_count new.newest → role < role_count ch.shared
    in-plan role lt =
        let n = count-alike (begun_plan old to).newest new.newest moved.reshape moved.shape moved.size in
        let m = count-planned old ch in
        omega (arith, lt, n, m)

    lt-true : (a b : ℕ) → a < b → nat_lt a b ≡ true
    lt-true a b lt = grind (arith, nat_tests, lt)

    lt-of : (a b : ℕ) → nat_lt a b ≡ true → a < b
    lt-of a b is = grind (arith, nat_tests, is)

    -- a role that no slot holds then had one by the plan, which has failed since
    lost-held : (role : ℕ) → has_slot roles role ≡ true → (slot : ℕ) × (holder (role_state (reading_of (begun_plan old to)) role) ≡ Some slot) × IsFaulted slot before after
    lost-held role has =
        let parts = and_parts (nat_lt role (length new.roles)) (is_unassigned (reading_of new) role) (sym (lost role) ∙ has) in
        let below : role < role_count new.newest = (let lt = lt-of role (length new.roles) parts.0 in let count = moved.placed.roles in omega (arith, lt, count)) in
        let was = plan-holds role (in-plan role below) in (
          was.0,
          was.1,
          elim (failed.roles role was.0 was.1) [
            | inl held ↦ absurd (
                let there : is_unassigned (reading_of new) role ≡ false = ap (λ (o : Option ℕ). not (is_some o)) held in
                let both : true ≡ false = sym parts.1 ∙ there in cc)
            | inr gone ↦ gone
          ],
        )

    pub lost-since : AreLostSince (begun_plan old to) new roles spares before after
    lost-since = record {
      vacant = λ role lt none. inr (lost role ∙ (λ i. lt-true role (length new.roles) (let count = moved.placed.roles in omega (arith, lt, count)) i && none i));
      gone = λ role has. (and_parts (nat_lt role (length new.roles)) (is_unassigned (reading_of new) role) (sym (lost role) ∙ has)).1;
      held = lost-held;
      failed = failed.spares_are;
      were = failed.were;
      told = failed.told;
    }

    -- what is missing then is among the lost roles
    pub lost-missing : (role : ℕ) → role < role_count new.newest → is_missing (reading_of new) role ≡ true → IsAmong roles role
    lost-missing role lt miss = elim (since-missing moved lost-since role lt miss) [
      | inl was ↦ absurd (
          let held = plan-holds role (in-plan role lt) in
          let whole : is_missing (reading_of (begun_plan old to)) role ≡ false =
          whole-held (role_state (reading_of (begun_plan old to)) role) held.0 held.1 (λ t is. plan-whole (none-recovering given old placed can.0) role t is) in
          let both : true ≡ false = sym was ∙ whole in cc)
      | inr has ↦ has
    ]
