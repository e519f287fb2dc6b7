-- In the plan of a takeover each role has a holder, where none was missing: all are whole, but for the last one of level 6, which its slot recovers. So what is missing behind its update was lost in it, or is Q.
use Rattle.std.proofs.Common.{◌≡◌, ◌⊎◌, inl, inr, ℕ, ◌+◌, ◌-◌, ◌<◌, ◌≤◌, ◌&&◌, nat_lt, true, false, not, Option, Some, None, get_or, length, refl, sym, ◌∙◌, ap, subst, arith}
use Rattle.std.specs.Prelude.{IsTrue, is_some}
use Rattle.std.specs.Option.{option_map_or}
use Rattle.std.proofs.lemmas.Bool.{cases_lt, and_parts}
use Rattle.std.proofs.lemmas.Bool.Decides.{nat_tests}
use Rattle.std.proofs.lemmas.List.{get_or_past}
use Rattle.array_takeover_laws.specs.raid_types_Search.{least_below}
use Rattle.array_takeover_laws.specs.raid_types_Shapes.{has_slot, is_valid_shape}
use Rattle.array_takeover_laws.specs.raid_types_the_Shape.{Shape}
use Rattle.array_takeover_laws.specs.raid_types_the_Role.{Role}
use Rattle.array_takeover_laws.specs.raid_types_the_Role_TheVariants.{Whole, Recovering, Missing}
use Rattle.array_takeover_laws.proofs.raid_types_Tabulated.{length-tabulate, get_or-tabulate}
use Rattle.array_fixed_sync.specs.bank_Given.{Given, IsFaulted}
use Rattle.reshape_sb_takeover.proofs.raid_layout_Limits.{limited}
use Rattle.array_fixed_sync.specs.sb_specs_the_Change.{Change}
use Rattle.array_fixed_sync.specs.sb_specs_the_Give.{Give}
use Rattle.array_fixed_sync.specs.sb_specs_the_Members.{Members}
use Rattle.array_fixed_sync.specs.sb_specs_Outcome.{is_planned_holder, held_state, planned_state}
use Rattle.array_fixed_sync.specs.sb_specs_Reading.{is_reshaping, is_whole, shape_of, role_count, role_state, holder}
use Rattle.array_fixed_sync.specs.sb_specs_Update.{give_of, planned_role}
use Rattle.array_fixed_sync.proofs.sb_read_laws_SaidLists.{held-holder}
use Rattle.array_fixed_sync.proofs.sb_read_laws_SaidSlots.{below-length}
use Rattle.array_fixed_sync.proofs.sb_specs_ValidFields.{few-roles}
use Rattle.array_fixed_sync.specs.stripe_row_Rows.{reading_of, is_missing}
use Rattle.array_fixed_sync.specs.crash_safety_laws_Safety.{HasLiveSlot}
use Rattle.array_fixed_sync.specs.crash_safety_laws_Steady.{AreUnlost}
use Rattle.array_fixed_sync.proofs.crash_safety_laws_PlannedRoles.{planned-held, held-planned}
use Rattle.array_fixed_sync.specs.array_members_Lacking.{AreLostSince, HaveFailedSince}
use Rattle.array_fixed_sync.specs.array_members_Moving.{IsMoved}
use Rattle.array_fixed_sync.specs.array_members_Placed.{is_unassigned, IsPlaced}
use Rattle.array_fixed_sync.specs.array_members_Rebuilding.{AreSparesFree}
use Rattle.array_fixed_sync.proofs.array_members_Fit.{roles-still}
use Rattle.array_fixed_sync.proofs.array_members_LiveLeft.{holder-left}
use Rattle.array_fixed_sync.proofs.array_members_MarkLaws.{role_from-found}
use Rattle.array_fixed_sync.proofs.array_members_Still.{count-still}
use Rattle.array_fixed_sync.proofs.history_invariant_laws_Behind.{IsAmong}
use Rattle.reshape_sb_takeover.specs.TakingOver.{CanTakeUp, CanTakeOver, taking_over, taken_plan}
use Rattle.reshape_sb_takeover.proofs.TakenPlan.{count, gives-or, live, one-holder}
use Rattle.array_fixed_sync.specs.array_fixed_invariant_Still.{AreNoneMissing}
use Rattle.array_takeover.proofs.Chosen.{whole-slot}
use Rattle.array_fixed_sync.proofs.array_members_MarkLaws.{holder-held}

lt-true : (a b : ℕ) → a < b → nat_lt a b ≡ true
lt-true a b lt = grind (arith, nat_tests, lt)

lt-of : (a b : ℕ) → nat_lt a b ≡ true → a < b
lt-of a b is = grind (arith, nat_tests, is)

module _ (given : Given) (old : Members) (to : Shape) (slot : ℕ) (placed : IsPlaced given old) (unlost : AreUnlost old) (free : AreSparesFree given old) (still : is_reshaping old.newest ≡ false)
    (valid : IsTrue (is_valid_shape to)) (can : CanTakeOver old to slot) (whole : AreNoneMissing old) where
  abbrev ch : Change
  ch = taking_over old to slot

  abbrev disks : ℕ
  disks = (shape_of old.newest).disks

  counts : length old.roles ≡ disks
  counts = roles-still given old placed still

  own-slot : (role : ℕ) → role < disks → (s : ℕ) × (role_state (reading_of old) role ≡ Whole s)
  own-slot role lt = whole-slot (role_state (reading_of old) role) (whole role (let n = counts in let all = placed.roles in omega (arith, lt, n, all)))

  -- no slot recovers a role
  none-recovers : (role s : ℕ) → role_state (reading_of old) role ≡ Recovering s → ⊥
  none-recovers role s is = elim (cases_lt role disks) [
    | inl lt ↦ absurd (let own = own-slot role lt in let clash : ◌≡◌ {A = Role} (Whole own.0) (Recovering s) = sym own.1 ∙ is in cc)
    | inr past ↦ absurd (let n = counts in let none = get_or_past old.roles role Missing (omega (arith, past, n)) in let clash : ◌≡◌ {A = Role} Missing (Recovering s) = sym none ∙ is in cc)
  ]

  more-than-old : CanTakeUp old to slot → to.disks ≡ disks + 1
  more-than-old up = ap (λ (s : Shape). s.disks) up.shape

  -- some slot is live
  pub live-old : HasLiveSlot old
  live-old = let own = own-slot 0 (let least = (limited (shape_of old.newest) placed.fit.valid.old).least in omega (arith, least)) in holder-left given old 0 own.0 placed unlost (ap holder own.1)

  -- ---- the plan

  plan-state : (role : ℕ) → role < role_count ch.shared → role_state (reading_of (taken_plan old to slot)) role ≡ planned_state old.roles ch.gives old.lost role
  plan-state role below = get_or-tabulate (role_count ch.shared) (planned_state old.roles ch.gives old.lost) role Missing below

  -- a slot that isn't lost holds the role that it gets
  plan-gets : (role s : ℕ) → role < role_count ch.shared → s < 32 → has_slot old.lost s ≡ false → planned_role old.roles (give_of ch.gives s) s ≡ Some role
      → holder (role_state (reading_of (taken_plan old to slot)) role) ≡ Some s
  plan-gets role s below small kept has =
      ap holder (plan-state role below) ∙ planned-held old ch old.lost (one-holder given old to slot placed free still valid can old.lost (λ n is. is)) s role small kept has

  plan-old : (role : ℕ) → role < disks → role < to.disks → role < role_count ch.shared → (s : ℕ) × (holder (role_state (reading_of (taken_plan old to slot)) role) ≡ Some s)
  plan-old role lt stays below =
      let own = own-slot role lt in
      (own.0, plan-gets role own.0 below (placed.holders role own.0 (ap holder own.1)).small (unlost role own.0 (ap holder own.1)) (gets own.0 (ap holder own.1)))
    where
      gets : (s : ℕ) → holder (role_state (reading_of old) role) ≡ Some s → planned_role old.roles (give_of ch.gives s) s ≡ Some role
      gets s held = elim (gives-or given old to slot placed free still valid can s) [
        | inl (same, up, here) ↦ absurd ((free slot up.spare).none role (held ∙ ap (λ (n : ℕ). Some n) same))
        | inr (inl (same, down, here)) ↦ absurd (
            let one : role ≡ to.disks = placed.apart role to.disks slot (held ∙ ap (λ (n : ℕ). Some n) same) (ap holder down.last) in
            omega (arith, one, stays))
        | inr (inr (apart, here)) ↦ ap (λ (g : Give). planned_role old.roles g s) here
            ∙ role_from-found s 0 old.roles role (holder-held s (get_or old.roles role Missing) held)
            (λ j is. placed.apart j role s (held-holder s (get_or old.roles j Missing) is) held)
            ∙ (let e : 0 + role ≡ role = omega arith in ap (λ (n : ℕ). Some n) e)
      ]

  plan-new : (role : ℕ) → disks ≤ role → role < to.disks → role < role_count ch.shared → (s : ℕ) × (holder (role_state (reading_of (taken_plan old to slot)) role) ≡ Some s)
  plan-new role from lt below = (slot, plan-gets role slot below up-spare.0 up-spare.1 gets)
    where
      way : CanTakeOver old to slot → CanTakeUp old to slot
      way (inl up) = up
      way (inr down) = absurd (let less = ap (λ (s : Shape). s.disks) down.shape in omega (arith, from, lt, less))

      up-spare : (slot < 32) × (has_slot old.lost slot ≡ false)
      up-spare = let has = (way can).spare in ((free slot has).room.small, (free slot has).unlost)

      gets : planned_role old.roles (give_of ch.gives slot) slot ≡ Some role
      gets = elim (gives-or given old to slot placed free still valid can slot) [
        | inl (same, up, here) ↦ ap (λ (g : Give). planned_role old.roles g slot) here ∙ (let more = more-than-old up in let one : disks ≡ role = omega (arith, from, lt, more) in ap (λ (n : ℕ). Some n) one)
        | inr (inl (same, down, here)) ↦ absurd (let less = ap (λ (s : Shape). s.disks) down.shape in omega (arith, from, lt, less))
        | inr (inr (apart, here)) ↦ absurd (apart refl)
      ]

  pub plan-holds : (role : ℕ) → role < to.disks → (s : ℕ) × (holder (role_state (reading_of (taken_plan old to slot)) role) ≡ Some s)
  plan-holds role lt =
      let below : role < role_count ch.shared = (let n = count given old to slot placed free still valid can in omega (arith, lt, n)) in
      elim (cases_lt role disks) [ inl before ↦ plan-old role before lt below | inr from ↦ plan-new role from lt below ]

  -- a slot recovers the last role of level 6 alone
  pub plan-recovers : (role s : ℕ) → role_state (reading_of (taken_plan old to slot)) role ≡ Recovering s → CanTakeUp old to slot × (role ≡ disks)
  plan-recovers role s is = of (least_below 32 (is_planned_holder old.roles ch.gives old.lost role)) (sym (plan-state role below) ∙ is)
    where
      below : role < role_count ch.shared
      below =
          let n = below-length (taken_plan old to slot).roles role s (ap holder is) in
          let all = length-tabulate (role_count ch.shared) (planned_state old.roles ch.gives old.lost) in
          omega (arith, n, all)

      gets : planned_role old.roles (give_of ch.gives s) s ≡ Some role
      gets = (held-planned old (taken_plan old to slot) ch (live given old to slot placed free still valid can) refl refl role s (ap holder is)).2

      of : (o : Option ℕ) → option_map_or (λ t. held_state (role_state (reading_of old) role) (give_of ch.gives t) t) o Missing ≡ Recovering s → CanTakeUp old to slot × (role ≡ disks)
      of None e = absurd (cc)
      of (Some t) e = elim (gives-or given old to slot placed free still valid can t) [
        | inl (same, up, here) ↦
            let both : ◌≡◌ {A = Role} (Recovering t) (Recovering s) = sym (ap (λ (g : Give). held_state (role_state (reading_of old) role) g t) here) ∙ e in
            let one : t ≡ s = cc in
            let there : planned_role old.roles (give_of ch.gives t) t ≡ Some role = subst (λ (n : ℕ). planned_role old.roles (give_of ch.gives n) n ≡ Some role) (sym one) gets in
            let last : ◌≡◌ {A = Option ℕ} (Some disks) (Some role) = sym (ap (λ (g : Give). planned_role old.roles g t) here) ∙ there in
            let last_is : role ≡ disks = cc in
            (up, last_is)
        | inr (inl (same, down, here)) ↦ absurd (let clash : ◌≡◌ {A = Role} Missing (Recovering s) = sym (ap (λ (g : Give). held_state (role_state (reading_of old) role) g t) here) ∙ e in cc)
        | inr (inr (apart, here)) ↦ absurd (none-recovers role s (sym (ap (λ (g : Give). held_state (role_state (reading_of old) role) g t) here) ∙ e))
      ]

  -- ---- behind it

  module _ (new : Members) (roles spares : ℕ) (before after : ℕ → ℕ) (moved : IsMoved given (taken_plan old to slot) new) (failed : HaveFailedSince (taken_plan old to slot) new spares before after)
      (shape : shape_of new.newest ≡ to) (one : is_reshaping new.newest ≡ false)
      (lost : (role : ℕ) → has_slot roles role ≡ (nat_lt role (length new.roles) && is_unassigned (reading_of new) role)) where
    pub count-new : role_count new.newest ≡ to.disks
    count-new = count-still new.newest one ∙ ap (λ (s : Shape). s.disks) shape

    -- a role that no slot holds then had one by the plan, which has failed since
    lost-held : (role : ℕ) → has_slot roles role ≡ true → (s : ℕ) × (holder (role_state (reading_of (taken_plan old to slot)) role) ≡ Some s) × IsFaulted s before after
    lost-held role has =
        let parts = and_parts (nat_lt role (length new.roles)) (is_unassigned (reading_of new) role) (sym (lost role) ∙ has) in
        let below : role < to.disks = (let lt = lt-of role (length new.roles) parts.0 in let count = moved.placed.roles in let n = count-new in omega (arith, lt, count, n)) in
        let was = plan-holds role below in (
          was.0,
          was.1,
          elim (failed.roles role was.0 was.1) [
            | inl held ↦ absurd (
                let there : is_unassigned (reading_of new) role ≡ false = ap (λ (o : Option ℕ). not (is_some o)) held in
                let both : true ≡ false = sym parts.1 ∙ there in cc)
            | inr gone ↦ gone
          ],
        )

    pub vacant-told : (role : ℕ) → role < role_count new.newest → is_unassigned (reading_of new) role ≡ true → has_slot roles role ≡ true
    vacant-told role lt none = lost role ∙ (λ i. lt-true role (length new.roles) (let count = moved.placed.roles in omega (arith, lt, count)) i && none i)

    pub lost-since : AreLostSince (taken_plan old to slot) new roles spares before after
    lost-since = record {
      vacant = λ role lt none. inr (vacant-told role lt none);
      gone = λ role has. (and_parts (nat_lt role (length new.roles)) (is_unassigned (reading_of new) role) (sym (lost role) ∙ has)).1;
      held = lost-held;
      failed = failed.spares_are;
      were = failed.were;
      told = failed.told;
    }

    pub lost-few : (role : ℕ) → IsAmong roles role → role < 16
    lost-few role has =
        let lt = lt-of role (length new.roles) (and_parts (nat_lt role (length new.roles)) (is_unassigned (reading_of new) role) (sym (lost role) ∙ has)).0 in
        let count = moved.placed.roles in
        let few = few-roles new.newest moved.placed.fit.valid in
        omega (arith, lt, count, few)

    -- a slot recovers the last role of level 6 alone
    pub recovers-then : (role s : ℕ) → role_state (reading_of new) role ≡ Recovering s → CanTakeUp old to slot × (role ≡ disks)
    recovers-then role s is = plan-recovers role s (sym (moved.states role s (ap holder is)) ∙ is)

    -- what is missing then is among the lost roles, or is Q
    pub missing-then : (role : ℕ) → role < role_count new.newest → is_missing (reading_of new) role ≡ true
        → IsAmong roles role ⊎ (((shape_of new.newest).level ≡ 6) × ((shape_of new.newest).disks - 1 ≡ role) × HasLiveSlot new)
    missing-then role lt miss = of (role_state (reading_of new) role) refl
      where
        of : (state : Role) → role_state (reading_of new) role ≡ state → IsAmong roles role ⊎ (((shape_of new.newest).level ≡ 6) × ((shape_of new.newest).disks - 1 ≡ role) × HasLiveSlot new)
        of (Whole s) is = absurd (let clash : false ≡ true = sym (ap (λ (r : Role). not (is_whole r)) is) ∙ miss in cc)
        of Missing is = inl (vacant-told role lt (ap (λ (r : Role). not (is_some (holder r))) is))
        of (Recovering s) is =
            let last = recovers-then role s is in
            let level : (shape_of new.newest).level ≡ 6 = ap (λ (s : Shape). s.level) (shape ∙ last.0.shape) in
            let many : (shape_of new.newest).disks ≡ disks + 1 = ap (λ (s : Shape). s.disks) (shape ∙ last.0.shape) in
            let role_is = last.1 in
            let here : (shape_of new.newest).disks - 1 ≡ role = omega (arith, many, role_is) in
            inr (level, here, holder-left given new role s moved.placed moved.unlost (ap holder is))
