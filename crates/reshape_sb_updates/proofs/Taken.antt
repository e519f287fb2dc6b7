-- What holds of roles that spares take.
use Rattle.std.proofs.Common.{◌≡◌, ◌⊎◌, inl, inr, ℕ, ◌<◌, Bool, true, false, Option, Some, None, get_or, refl, sym, ◌∙◌, ap, subst}
use Rattle.sb_update.specs.raid_types_Shapes.{has_slot}
use Rattle.sb_update.specs.raid_types_the_Role_TheVariants.{Missing, Whole}
use Rattle.sb_update.proofs.raid_types_Tabulated.{get_or-tabulate}
use Rattle.sb_update.specs.sb_specs_the_Give.{Give}
use Rattle.sb_update.specs.sb_specs_the_Give_TheVariants as give
use Rattle.sb_update.specs.sb_specs_the_Change.{Change}
use Rattle.sb_update.specs.sb_specs_the_Members.{Members}
use Rattle.sb_update.specs.sb_specs_Reading.{role_count, role_state, holder}
use Rattle.sb_update.specs.sb_specs_Update.{give_of, planned_role}
use Rattle.sb_update.specs.sb_specs_Outcome.{held_state, planned_state}
use Rattle.crash_reshape_laws.proofs.sb_read_laws_SaidLists.{role-holder}
use Rattle.crash_reshape_laws.specs.stripe_row_Rows.{reading_of}
use Rattle.crash_reshape_laws.specs.crash_safety_laws_Kinds.{IsTaking}
use Rattle.crash_reshape_laws.specs.crash_safety_laws_Updates.{planned_view, HasOneHolder}
use Rattle.crash_reshape_laws.proofs.crash_safety_laws_PlannedRoles.{planned-held}
use Rattle.crash_reshape_laws.proofs.PlanRoles.{planned-or}

module _ (old : Members) (change : Change) (t : IsTaking old change) where
  abbrev IsGivenNow : ℕ → ℕ → Type 0
  IsGivenNow s role = (recovery : Option ℕ) × (give_of change.gives s ≡ give.Role role recovery) × ((t : ℕ) → has_slot old.lost t ≡ false → holder (get_or old.roles role Missing) ≡ Some t → ⊥)

  role-of : (s role : ℕ) → planned_role old.roles (give_of change.gives s) s ≡ Some role → (holder (get_or old.roles role Missing) ≡ Some s) ⊎ IsGivenNow s role
  role-of s role is = elim (t.each s) [
    | inl same ↦ inl (role-holder s old.roles role (sym (ap (λ (g : Give). planned_role old.roles g s) same) ∙ is))
    | inr (inl (other, recovery, gets, spare, below, vacant)) ↦
        let same : other ≡ role = (let both : ◌≡◌ {A = Option ℕ} (Some other) (Some role) = sym (ap (λ (g : Give). planned_role old.roles g s) gets) ∙ is in cc) in
        inr (subst (IsGivenNow s) same (recovery, gets, vacant))
    | inr (inr (other, offset, gets, holds)) ↦
        let same : other ≡ role = (let both : ◌≡◌ {A = Option ℕ} (Some other) (Some role) = sym (ap (λ (g : Give). planned_role old.roles g s) gets) ∙ is in cc) in
        inl (subst (λ (r : ℕ). holder (get_or old.roles r Missing) ≡ Some s) same holds)
  ]

  -- no role has two holders by the plan
  pub taking-one : HasOneHolder old change old.lost
  taking-one s u role kept kept' is is' = elim (role-of s role is) [
    | inl holds ↦ elim (role-of u role is') [
      | inl holds' ↦ (let both : ◌≡◌ {A = Option ℕ} (Some s) (Some u) = sym holds ∙ holds' in cc)
      | inr (recovery', gets', vacant') ↦ absurd (vacant' s kept holds)
    ]
    | inr (recovery, gets, vacant) ↦ elim (role-of u role is') [
      | inl holds' ↦ absurd (vacant u kept' holds')
      | inr (recovery', gets', vacant') ↦ t.apart s u role recovery recovery' gets gets'
    ]
  ]

  -- so it has, with more slots lost
  pub taking-more : (lost : ℕ) → ((s : ℕ) → has_slot old.lost s ≡ true → has_slot lost s ≡ true) → HasOneHolder old change lost
  taking-more lost more s u role kept kept' is is' = taking-one s u role (before s kept) (before u kept') is is'
    where
      before : (s : ℕ) → has_slot lost s ≡ false → has_slot old.lost s ≡ false
      before s none = of (has_slot old.lost s) refl
        where
          of : (b : Bool) → has_slot old.lost s ≡ b → b ≡ false
          of true is = absurd (let e = more s is in let clash = sym e ∙ none in cc)
          of false is = refl

  -- A role that a slot gets whole it holds whole, where the slot isn't lost.
  pub taken-whole : (lost : ℕ) → ((s : ℕ) → has_slot old.lost s ≡ true → has_slot lost s ≡ true) → (s role : ℕ) → s < 32 → role < role_count change.shared → has_slot lost s ≡ false
      → give_of change.gives s ≡ give.Role role None → role_state (reading_of (planned_view old change lost)) role ≡ Whole s
  taken-whole lost more s role small below kept gets = elim (planned-or old change lost role) [
    | inl none ↦ absurd (let clash = sym held ∙ ap holder none in cc)
    | inr p ↦ (
        let here : holder (role_state (reading_of (planned_view old change lost)) role) ≡ Some p.slot = ap holder p.state ∙ given (give_of change.gives p.slot) p.slot p.planned in
        let same : p.slot ≡ s = (let both : ◌≡◌ {A = Option ℕ} (Some p.slot) (Some s) = sym here ∙ held in cc) in
        p.state ∙ ap (λ (t : ℕ). held_state (get_or old.roles role Missing) (give_of change.gives t) t) same ∙ ap (λ (g : Give). held_state (get_or old.roles role Missing) g s) gets)
  ]
    where
      held : holder (role_state (reading_of (planned_view old change lost)) role) ≡ Some s
      held = ap holder (get_or-tabulate (role_count change.shared) (planned_state old.roles change.gives lost) role Missing below)
          ∙ planned-held old change lost (taking-more lost more) s role small kept (ap (λ (g : Give). planned_role old.roles g s) gets)

      given : (g : Give) (t : ℕ) → planned_role old.roles g t ≡ Some role → holder (held_state (get_or old.roles role Missing) g t) ≡ Some t
      given give.Same t has = role-holder t old.roles role has
      given (give.Role r None) t has = refl
      given (give.Role r (Some offset)) t has = refl
      given give.Spare t has = absurd (let clash : ◌≡◌ {A = Option ℕ} None (Some role) = has in cc)
