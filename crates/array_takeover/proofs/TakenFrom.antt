-- Who has roles and who is a spare behind a takeover: roles have the slots that had them, or the spare that was chosen; spares were some, or held the role that is dropped.
use Rattle.std.proofs.Common.{◌≡◌, ◌≢◌, ◌⊎◌, inl, inr, ℕ, ◌-◌, ◌==◌, ◌&&◌, ◌||◌, nat_lt, Bool, true, false, not, cond, replicate, slice_set, Option, Some, None, refl, sym, ◌∙◌, ap, arith}
use Rattle.std.proofs.lemmas.Bool.{cases_eq, cases_lt, and_parts}
use Rattle.std.proofs.lemmas.List.{length-replicate, length-set, get_or-set_same, get_or-set_other, get_or_past}
use Rattle.array_takeover_laws.specs.raid_types_Search.{tabulate}
use Rattle.array_takeover_laws.specs.raid_types_Shapes.{has_slot}
use Rattle.array_takeover_laws.specs.raid_types_the_Shape.{Shape}
use Rattle.array_takeover_laws.specs.raid_types_the_Role_TheVariants.{Missing}
use Rattle.array_takeover_laws.proofs.raid_types_Tabulated.{length-tabulate, get_or-tabulate}
use Rattle.array_fixed_sync.specs.sb_specs_the_Change.{Change}
use Rattle.array_fixed_sync.specs.sb_specs_the_Give.{Give}
use Rattle.array_fixed_sync.specs.sb_specs_the_Give_TheVariants.{Same, Spare}
use Rattle.array_fixed_sync.specs.sb_specs_the_Give_TheVariants as give
use Rattle.array_fixed_sync.specs.sb_specs_the_Members.{Members}
use Rattle.array_fixed_sync.specs.sb_specs_Outcome.{planned_state}
use Rattle.array_fixed_sync.specs.sb_specs_Reading.{role_count, holder}
use Rattle.array_fixed_sync.specs.sb_specs_Reads.{has_spare}
use Rattle.array_fixed_sync.specs.sb_specs_Update.{give_of, planned_role, is_planned_spare}
use Rattle.array_fixed_sync.proofs.sb_read_laws_SaidLists.{role-holder}
use Rattle.array_fixed_sync.proofs.sb_read_laws_SaidSlots.{has-slots_below}
use Rattle.array_fixed_sync.proofs.crash_safety_laws_Kept.{give_of-same}
use Rattle.array_fixed_sync.proofs.crash_safety_laws_PlannedRoles.{planned-holds}
use Rattle.reshape_sb_takeover.specs.TakingOver.{level_give, taking_over, taken_plan}
use Rattle.array_fixed_sync.specs.array_members_Placed.{AreStillHeld}
use Rattle.array_fixed_sync.specs.array_members_Rebuilding.{Held, MayHold}
use Rattle.array_fixed_sync.specs.array_call_specs_Calls.{AreSparesFewer}
use Rattle.array_fixed_sync.proofs.Lowest.{lowest-found}
use Rattle.array_takeover.specs.TakenOver.{IsTakenSlot}

none-role : {P : Type 0} (role : ℕ) → ◌≡◌ {A = Option ℕ} None (Some role) → P
none-role role e = absurd (cc)

-- a spare before, or the slot held a role
abbrev pub WasSpareOrHeld : Members → ℕ → Type 0
WasSpareOrHeld old slot = (has_spare old.spares slot ≡ true) ⊎ ((role : ℕ) × Held old role slot)

module _ (old : Members) (to : Shape) (slot : ℕ) (chosen : IsTakenSlot old to slot) where
  abbrev ch : Change
  ch = taking_over old to slot

  -- ---- what is given

  given-other : (s : ℕ) → s ≢ slot → give_of ch.gives s ≡ Same
  given-other s apart = get_or-set_other (replicate 32 Same) slot s (level_give to) Same apart ∙ give_of-same 32 s

  given-here : (give_of ch.gives slot ≡ level_give to) ⊎ (give_of ch.gives slot ≡ Same)
  given-here = elim (cases_lt slot 32) [
    | inl lt ↦ inl (get_or-set_same (replicate 32 Same) slot (level_give to) Same (let long = length-replicate 32 Same in omega (arith, lt, long)))
    | inr past ↦ inr (get_or_past (slice_set (replicate 32 Same) slot (level_give to)) slot Same (let long = length-set (replicate 32 Same) slot (level_give to) ∙ length-replicate 32 Same in omega (arith, past, long)))
  ]

  -- ---- by the plan

  same-held : (role s : ℕ) → give_of ch.gives s ≡ Same → planned_role old.roles (give_of ch.gives s) s ≡ Some role → Held old role s
  same-held role s is has = role-holder s old.roles role (sym (ap (λ (g : Give). planned_role old.roles g s) is) ∙ has)

  -- at level 5 the slot gets none
  five-held : (role : ℕ) → to.level ≡ 5 → planned_role old.roles (give_of ch.gives slot) slot ≡ Some role → Held old role slot
  five-held role five has = elim given-here [
    | inl here ↦
        let spare : level_give to ≡ Spare = ap (λ (n : ℕ). cond (n == 6) (give.Role (to.disks - 1) (Some 0)) Spare) five in
        none-role role (sym (ap (λ (g : Give). planned_role old.roles g slot) (here ∙ spare)) ∙ has)
    | inr same ↦ same-held role slot same has
  ]

  gets-may : (role s : ℕ) → planned_role old.roles (give_of ch.gives s) s ≡ Some role → MayHold old role s
  gets-may role s has = elim (cases_eq s slot) [
    | inl same ↦ of same chosen
    | inr apart ↦ inl (same-held role s (given-other s apart) has)
  ]
    where
      of : s ≡ slot → IsTakenSlot old to slot → MayHold old role s
      of same (inl (six, first)) = inr (ap (has_spare old.spares) same ∙ (lowest-found 32 (has_spare old.spares) slot first).1)
      of same (inr (five, last)) = inl (five-held role five (ap (λ (n : ℕ). planned_role old.roles (give_of ch.gives n) n) (sym same) ∙ has) ∙ ap (λ (n : ℕ). Some n) (sym same))

  pub plan-may : (role s : ℕ) → Held (taken_plan old to slot) role s → MayHold old role s
  plan-may role s held = elim (cases_lt role (role_count ch.shared)) [
    | inl below ↦ gets-may role s
        (planned-holds old.roles ch.gives old.lost role s (ap holder (sym (get_or-tabulate (role_count ch.shared) (planned_state old.roles ch.gives old.lost) role Missing below)) ∙ held)).2
    | inr past ↦ absurd (
        let none = get_or_past (tabulate (role_count ch.shared) (planned_state old.roles ch.gives old.lost)) role Missing (let long = length-tabulate (role_count ch.shared) (planned_state old.roles ch.gives old.lost) in omega (arith, past, long)) in
        let both = ap holder (sym none) ∙ held in cc)
  ]

  spare-was : (s : ℕ) → is_planned_spare old.spares None (give_of ch.gives s) s ≡ true → WasSpareOrHeld old s
  spare-was s is = elim (cases_eq s slot) [
    | inl same ↦ of same chosen
    | inr apart ↦ inl (only (has_spare old.spares s) (sym (ap (λ (g : Give). is_planned_spare old.spares None g s) (given-other s apart)) ∙ is))
  ]
    where
      only : (b : Bool) → (b || false) ≡ true → b ≡ true
      only true e = refl
      only false e = absurd (cc)

      of : s ≡ slot → IsTakenSlot old to slot → WasSpareOrHeld old s
      of same (inl (six, first)) = inl (ap (has_spare old.spares) same ∙ (lowest-found 32 (has_spare old.spares) slot first).1)
      of same (inr (five, last)) = inr (to.disks, ap holder last ∙ ap (λ (n : ℕ). Some n) (sym same))

  plan-spare : (s : ℕ) → has_spare (taken_plan old to slot).spares s ≡ true → WasSpareOrHeld old s
  plan-spare s is =
      let parts = and_parts (nat_lt s 32) (not (has_slot old.lost s) && is_planned_spare old.spares None (give_of ch.gives s) s)
      (sym (has-slots_below (λ t. not (has_slot old.lost t) && is_planned_spare old.spares None (give_of ch.gives t) t) s 32) ∙ is) in
      spare-was s (and_parts (not (has_slot old.lost s)) (is_planned_spare old.spares None (give_of ch.gives s) s) parts.1).1

  -- ---- behind it

  pub taken-roles : (new : Members) → AreStillHeld (taken_plan old to slot) new → (role s : ℕ) → Held new role s → MayHold old role s
  taken-roles new held role s has = plan-may role s (held role s has)

  pub taken-spares : (new : Members) → AreSparesFewer (taken_plan old to slot) new → (s : ℕ) → has_spare new.spares s ≡ true → WasSpareOrHeld old s
  taken-spares new fewer s spare = plan-spare s (fewer s spare)
