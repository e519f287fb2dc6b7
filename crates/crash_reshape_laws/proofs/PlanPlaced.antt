-- The planned members are placed.
use Rattle.std.proofs.Common.{◌≡◌, inl, inr, ℕ, ◌<◌, ◌≤◌, Option, Some, None, refl, sym, ◌∙◌, ap, subst, arith}
use Rattle.std.specs.Option.{option_map_or}
use Rattle.crash_safety_laws.specs.raid_types_the_Role_TheVariants.{Missing}
use Rattle.crash_safety_laws.proofs.raid_types_Tabulated.{length-tabulate}
use Rattle.crash_safety_laws.specs.bank_Given.{Given}
use Rattle.crash_safety_laws.specs.sb_codec_the_Sb.{Sb}
use Rattle.crash_safety_laws.specs.sb_specs_the_Give.{Give}
use Rattle.crash_safety_laws.specs.sb_specs_the_Give_TheVariants.{Same, Spare}
use Rattle.crash_safety_laws.specs.sb_specs_the_Give_TheVariants as give
use Rattle.crash_safety_laws.specs.sb_specs_the_Change.{Change}
use Rattle.crash_safety_laws.specs.sb_specs_the_Members.{Members}
use Rattle.crash_safety_laws.specs.sb_specs_Reading.{Scope, role_count, role_state, holder, data_offset_of}
use Rattle.crash_safety_laws.specs.sb_specs_Update.{give_of, planned_role}
use Rattle.crash_safety_laws.specs.sb_specs_Outcome.{held_state, planned_state}
use Rattle.crash_safety_laws.proofs.sb_read_laws_SaidLists.{role-holder}
use Rattle.crash_safety_laws.specs.stripe_row_Rows.{reading_of, IsHolder}
use Rattle.std.proofs.Common.{get_or}
use Rattle.crash_safety_laws.specs.crash_views_Regions.{ArePlaced}
use Rattle.crash_safety_laws.specs.Updates.{planned_view}
use Rattle.crash_reshape_laws.specs.Plans.{AreGivenFit, PlannedIsPlaced}
use Rattle.crash_reshape_laws.proofs.PlanRoles.{IsPlanned, planned-or, own-same}

some-only : (a b : ℕ) → ◌≡◌ {A = Option ℕ} (Some a) (Some b) → a ≡ b
some-only a b e = cc

none-some : (a : ℕ) → ◌≡◌ {A = Option ℕ} None (Some a) → ⊥
none-some a e = absurd (cc)

module _ (m : Members) (change : Change) (named : ℕ) where
  -- a slot that holds a role of the plan is one of the first, and has that role by the plan
  holder-planned : (role slot : ℕ) → holder (role_state (reading_of (planned_view m change named)) role) ≡ Some slot → (slot < 32) × (planned_role m.roles (give_of change.gives slot) slot ≡ Some role)
  holder-planned role slot held = elim (planned-or m change named role) [
    | inl none ↦ absurd (none-some slot (sym (ap holder none) ∙ held))
    | inr p ↦ (
        let same : p.slot ≡ slot = some-only p.slot slot (sym (holds p (give_of change.gives p.slot) refl) ∙ held) in
        (subst (λ (s : ℕ). s < 32) same p.small, subst (λ (s : ℕ). planned_role m.roles (give_of change.gives s) s ≡ Some role) same p.planned))
  ]
    where
      holds : (p : IsPlanned m change named role) (g : Give) → give_of change.gives p.slot ≡ g → holder (role_state (reading_of (planned_view m change named)) role) ≡ Some p.slot
      holds p Same is = ap holder (p.state ∙ ap (λ (g : Give). held_state (get_or m.roles role Missing) g p.slot) is)
          ∙ role-holder p.slot m.roles role (sym (ap (λ (g : Give). planned_role m.roles g p.slot) is) ∙ p.planned)
      holds p (give.Role other (Some offset)) is = ap holder (p.state ∙ ap (λ (g : Give). held_state (get_or m.roles role Missing) g p.slot) is)
      holds p (give.Role other None) is = ap holder (p.state ∙ ap (λ (g : Give). held_state (get_or m.roles role Missing) g p.slot) is)
      holds p Spare is = absurd (none-some role (sym (ap (λ (g : Give). planned_role m.roles g p.slot) is) ∙ p.planned))

  module _ (scope : Scope) (given : Given) (placed : ArePlaced scope given m) (size : change.shared.size ≡ m.newest.size) (fit : AreGivenFit scope given m change named) where
    -- what is asked of a holder
    held-fit : (role slot : ℕ) → holder (role_state (reading_of (planned_view m change named)) role) ≡ Some slot
        → IsHolder given (reading_of (planned_view m change named)) slot × (10 ≤ data_offset_of (reading_of (planned_view m change named)) slot) × (scope.backup ≡ Some slot → ⊥)
    held-fit role slot held = of (give_of change.gives slot) refl
      where
        planned : (slot < 32) × (planned_role m.roles (give_of change.gives slot) slot ≡ Some role)
        planned = holder-planned role slot held

        of : (g : Give) → give_of change.gives slot ≡ g
            → IsHolder given (reading_of (planned_view m change named)) slot × (10 ≤ data_offset_of (reading_of (planned_view m change named)) slot) × (scope.backup ≡ Some slot → ⊥)
        of Same is =
            let was : holder (role_state (reading_of m) role) ≡ Some slot = role-holder slot m.roles role (sym (ap (λ (g : Give). planned_role m.roles g slot) is) ∙ planned.1) in
            let off : data_offset_of (reading_of (planned_view m change named)) slot ≡ data_offset_of (reading_of m) slot =
            ap (λ (o : Option Sb). option_map_or (λ sb. sb.data_offset) o 0) (own-same m change named slot planned.0 is) in
            let h = placed.holders role slot was in
            let w = h.within in
            let b = placed.behind role slot was in
            (record { small = h.small; known = h.known; short = h.short; within = omega (arith, off, w, size) }, omega (arith, off, b), placed.members_own role slot was)
        of (give.Role other recovery) is = fit slot other recovery is
        of Spare is = absurd (none-some role (sym (ap (λ (g : Give). planned_role m.roles g slot) is) ∙ planned.1))

pub planned-placed : PlannedIsPlaced
planned-placed scope given m change named placed size count shapes backup fit = record {
  fit = shapes;
  roles = length-tabulate (role_count change.shared) (planned_state m.roles change.gives named) ∙ count;
  holders = λ role slot held. (held-fit m change named scope given placed size fit role slot held).0;
  behind = λ role slot held. (held-fit m change named scope given placed size fit role slot held).1;
  members_own = λ role slot held. (held-fit m change named scope given placed size fit role slot held).2;
  apart = λ a b slot one two. some-only a b (sym (holder-planned m change named a slot one).1 ∙ (holder-planned m change named b slot two).1);
  backup = backup;
}
