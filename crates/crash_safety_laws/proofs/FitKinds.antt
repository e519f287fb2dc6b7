-- Changes that are fit.
use Rattle.std.proofs.Common.{◌≡◌, ◌⊎◌, inl, inr, ℕ, ◌+◌, ◌<◌, ◌==◌, ◌||◌, ◌&&◌, Bool, true, false, not, cond, nat_lt, List, get_or, Option, Some, None, refl, sym, ◌∙◌, ap, subst, arith}
use Rattle.std.specs.List.{list_any}
use Rattle.crash_views.specs.raid_types_Search.{tabulate}
use Rattle.crash_views.specs.raid_types_Shapes.{has_slot}
use Rattle.crash_views.proofs.raid_types_Tabulated.{length-tabulate, get_or-tabulate}
use Rattle.crash_views.specs.raid_types_the_Role.{Role}
use Rattle.crash_views.specs.raid_types_the_Role_TheVariants.{Whole, Recovering, Missing}
use Rattle.sb_update_laws.specs.sb_codec_the_Sb.{Sb}
use Rattle.crash_views.specs.sb_specs_the_Give.{Give}
use Rattle.crash_views.specs.sb_specs_the_Give_TheVariants.{Same}
use Rattle.crash_views.specs.sb_specs_the_Give_TheVariants as give
use Rattle.crash_views.specs.sb_specs_the_Change.{Change}
use Rattle.crash_views.specs.sb_specs_the_Members.{Members}
use Rattle.crash_views.specs.sb_specs_Reading.{Scope, reading_by, role_state, is_fresh, is_recovering, entry_of, holds_role, lies_within, role_count, holder, holder_from}
use Rattle.crash_views.specs.sb_specs_Reads.{held_in, spare_in, has_spare}
use Rattle.crash_views.specs.sb_specs_Update.{give_of, own_in, is_held_by, is_live, is_added, is_recovery, planned_role, is_planned_spare}
use Rattle.crash_views.specs.sb_specs_Outcome.{is_in_update, AreGivesOfLive}
use Rattle.crash_views.specs.sb_specs_Held.{known_of}
use Rattle.crash_views.specs.sb_specs_Plans.{KeepsRecovery}
use Rattle.crash_views.proofs.sb_specs_ReadLists.{spares-at}
use Rattle.crash_views.proofs.sb_read_laws_SaidLists.{role-holder, state-here}
use Rattle.crash_views.proofs.sb_read_laws_SaidSlots.{below-length, listed, roles-count, role-said, role-known}
use Rattle.crash_views.specs.stripe_row_Rows.{members_without}
use Rattle.crash_views.specs.Views.{Disk}
use Rattle.crash_safety_laws.specs.Held.{IsHeldBy}
use Rattle.crash_safety_laws.specs.Changing.{IsFitUpdate}
use Rattle.crash_safety_laws.specs.Kinds.{IsTaking, TakingIsFit, IsDropping, DroppingIsFit}
use Rattle.crash_safety_laws.proofs.Kept.{without-less}
use Rattle.crash_safety_laws.proofs.PlannedRoles.{count-planned}
use Rattle.crash_safety_laws.proofs.Without.{any-held, state-without, without-holder}

-- ---- tests

flip : (b : Bool) → not b ≡ true → b ≡ false
flip true e = absurd (cc)
flip false e = refl

or-first : (a b : Bool) → a ≡ true → (a || b) ≡ true
or-first true b e = refl
or-first false b e = absurd (cc)

or-second : (a b : Bool) → b ≡ true → (a || b) ≡ true
or-second true b e = refl
or-second false b e = e

or-rest : (a b : Bool) → (a || b) ≡ true → b ≡ false → a ≡ true
or-rest true b e none = refl
or-rest false b e none = absurd (cc)

-- ---- what the known superblocks say

-- a slot on which a role is whole has no recovery bit
said-whole : (sectors : ℕ → ℕ) (own : List (Option Sb)) (newest : Sb) (role slot : ℕ) (sb : Sb) → role_state (reading_by sectors own newest) role ≡ Whole slot
    → get_or own slot None ≡ Some sb → is_recovering sb ≡ false
said-whole sectors own newest role slot sb is there = of (holds_role newest role sb) (is_recovering sb) held
  where
    roles : List Role
    roles = tabulate (role_count newest) (λ role. holder_from newest role 0 own)

    below : role < role_count newest
    below = let n = below-length roles role slot (ap holder is) in let long = length-tabulate (role_count newest) (λ role. holder_from newest role 0 own) in omega (arith, n, long)

    from : holder_from newest role 0 own ≡ Whole slot
    from = sym (get_or-tabulate (role_count newest) (λ role. holder_from newest role 0 own) role Missing below) ∙ is

    held : held_in newest role slot (Some sb) ≡ Some (Whole slot)
    held = ap (held_in newest role slot) (sym there) ∙ state-here newest role own slot (ap holder from) ∙ ap (λ (s : Role). Some s) from

    of : (holds bit : Bool) → cond holds (Some (cond bit (Recovering slot) (Whole slot))) None ≡ Some (Whole slot) → bit ≡ false
    of true true e = absurd (cc)
    of true false e = refl
    of false bit e = absurd (cc)

module _ (scope : Scope) (former : Members) (gone : ℕ) (d : Disk) (held : IsHeldBy scope former d) where
  abbrev Old : Members
  Old = members_without gone former

  -- the roles that are held are among those that the array has
  role-under : (role s : ℕ) → holder (get_or Old.roles role Missing) ≡ Some s → role < role_count former.newest
  role-under role s is =
      let below = below-length Old.roles role s is in
      let long = (without-less former gone).roles in
      let count = roles-count scope held.known former held.said in
      omega (arith, below, long, count)

  -- a spare doesn't recover
  spare-whole : (s : ℕ) (sb : Sb) → has_spare former.spares s ≡ true → own_in former.own s ≡ Some sb → is_recovering sb ≡ false
  spare-whole s sb is own = of (get_or (known_of scope held.known former.own) s None) refl
      (let here : s ≡ 0 + s = omega arith in sym (ap (λ (l : List ℕ). has_spare l s) held.said.spares ∙ spares-at former.newest scope.sizes.sectors 0 s s (known_of scope held.known former.own) here) ∙ is)
    where
      of : (found : Option Sb) → get_or (known_of scope held.known former.own) s None ≡ found → spare_in former.newest (scope.sizes.sectors s) found ≡ true → is_recovering sb ≡ false
      of None e it = absurd (cc)
      of (Some other) e it =
          let there = (listed scope held.known former.own s other e).1 in
          let same : other ≡ sb = (let both : ◌≡◌ {A = Option Sb} (Some other) (Some sb) = sym there ∙ own in cc) in
          ap is_recovering (sym same) ∙ flip (is_recovering other) (parts (is_fresh former.newest other) (not (is_recovering other)) (nat_lt other.dev_number 128) (entry_of former.newest other.dev_number == 0xffff) (lies_within former.newest (scope.sizes.sectors s) other) it)
        where
          parts : (a b c d e : Bool) → (a && b && c && d && e) ≡ true → b ≡ true
          parts true true c d e h = refl
          parts true false c d e h = absurd (cc)
          parts false b c d e h = absurd (cc)

  -- nor does the holder of a whole role
  holder-whole : (role s : ℕ) (sb : Sb) → get_or Old.roles role Missing ≡ Whole s → own_in former.own s ≡ Some sb → is_recovering sb ≡ false
  holder-whole role s sb is own =
      let without = state-without gone former.roles role in
      let was : get_or former.roles role Missing ≡ Whole s = sym (without-holder gone (get_or former.roles role Missing) s (ap holder (sym without ∙ is))) ∙ sym without ∙ is in
      let k = role-known scope held.known former held.said role s (ap holder was) in
      let same : k.1 ≡ sb = (let both : ◌≡◌ {A = Option Sb} (Some k.1) (Some sb) = sym k.2 ∙ own in cc) in
      ap is_recovering (sym same) ∙ said-whole scope.sizes.sectors (known_of scope held.known former.own) former.newest role s k.1 (sym (role-said scope held.known former held.said role) ∙ was) k.3

  holder-role : (s role : ℕ) (g : Give) → g ≡ Same → planned_role Old.roles g s ≡ Some role → holder (get_or Old.roles role Missing) ≡ Some s
  holder-role s role g same is = role-holder s Old.roles role (sym (ap (λ (g : Give). planned_role Old.roles g s) same) ∙ is)

  -- ---- spares that get roles

  module _ (change : Change) (t : IsTaking Old change) where
    abbrev IsGivenNow : ℕ → ℕ → Type 0
    IsGivenNow s role = (recovery : Option ℕ) × (give_of change.gives s ≡ give.Role role recovery) × (role < role_count change.shared) × ((t : ℕ) → has_slot Old.lost t ≡ false → holder (get_or Old.roles role Missing) ≡ Some t → ⊥)

    -- a slot that gets a role held it, or it is given
    role-of : (s role : ℕ) → planned_role Old.roles (give_of change.gives s) s ≡ Some role → (holder (get_or Old.roles role Missing) ≡ Some s) ⊎ IsGivenNow s role
    role-of s role is = elim (t.each s) [
      | inl same ↦ inl (holder-role s role (give_of change.gives s) same is)
      | inr (inl (other, recovery, gets, spare, below, vacant)) ↦
          let same : other ≡ role = (let both : ◌≡◌ {A = Option ℕ} (Some other) (Some role) = sym (ap (λ (g : Give). planned_role Old.roles g s) gets) ∙ is in cc) in
          inr (subst (IsGivenNow s) same (recovery, gets, below, vacant))
      | inr (inr (other, offset, gets, holds)) ↦
          let same : other ≡ role = (let both : ◌≡◌ {A = Option ℕ} (Some other) (Some role) = sym (ap (λ (g : Give). planned_role Old.roles g s) gets) ∙ is in cc) in
          inl (subst (λ (r : ℕ). holder (get_or Old.roles r Missing) ≡ Some s) same holds)
    ]

    in-it : (s : ℕ) → is_live Old.roles Old.spares s ≡ true → is_in_update Old change s ≡ true
    in-it s live = or-first (is_live Old.roles Old.spares s) (is_added change.added s) live

    no-spare : (s role : ℕ) (recovery : Option ℕ) → give_of change.gives s ≡ give.Role role recovery → is_planned_spare former.spares change.added (give_of change.gives s) s ≡ true → ⊥
    no-spare s role recovery gets so = absurd (let none = sym (ap (λ (g : Give). is_planned_spare former.spares change.added g s) gets) ∙ so in cc)

    taking-fit : IsFitUpdate Old change
    taking-fit = record {
      none = t.none;
      gives = λ s isnt. elim (t.each s) [
        | inl same ↦ same
        | inr (inl (role, recovery, gets, spare, below, vacant)) ↦ absurd (
            let live = in-it s (or-second (list_any (is_held_by s) Old.roles) (has_spare former.spares s) spare) in
            let both = sym isnt ∙ live in cc
            )
        | inr (inr (role, offset, gets, holds)) ↦ absurd (
            let live = in-it s (or-first (list_any (is_held_by s) Old.roles) (has_spare former.spares s) (any-held s Old.roles role holds)) in
            let both = sym isnt ∙ live in cc
            )
      ];
      below = λ s role kept is. elim (role-of s role is) [
        | inl holds ↦ (let under = role-under role s holds in let count = t.count in let plan = count-planned Old change in omega (arith, under, count, plan))
        | inr (recovery, gets, below, vacant) ↦ (let plan = count-planned Old change in omega (arith, below, plan))
      ];
      one_holder = λ s u role kept kept' is is'. elim (role-of s role is) [
        | inl holds ↦ elim (role-of u role is') [
          | inl holds' ↦ (let both : ◌≡◌ {A = Option ℕ} (Some s) (Some u) = sym holds ∙ holds' in cc)
          | inr (recovery', gets', below', vacant') ↦ absurd (vacant' s kept holds)
        ]
        | inr (recovery, gets, below, vacant) ↦ elim (role-of u role is') [
          | inl holds' ↦ absurd (vacant u kept' holds')
          | inr (recovery', gets', below', vacant') ↦ t.apart s u role recovery recovery' gets gets'
        ]
      ];
      size = t.size;
      devices = λ s sb kept own. elim (t.each s) [
        | inl same ↦ subst (λ (g : Give). KeepsRecovery g sb) (sym same) tt
        | inr (inl (role, recovery, gets, spare, below, vacant)) ↦ subst (λ (g : Give). KeepsRecovery g sb) (sym gets) (kept-recovery role recovery sb (spare-whole s sb spare own))
        | inr (inr (role, offset, gets, holds)) ↦ subst (λ (g : Give). KeepsRecovery g sb) (sym gets) tt
      ];
      one = λ s u kept kept' first first'. t.one s u first first';
      spares = λ s sb kept own none so. elim (t.each s) [
        | inl same ↦ absurd (
            let was = or-rest (has_spare former.spares s) (is_added change.added s) (sym (ap (λ (g : Give). is_planned_spare former.spares change.added g s) same) ∙ so) (ap (λ (o : Option (ℕ × Sb)). is_added o s) t.none) in
            let both = sym none ∙ was in cc
            )
        | inr (inl (role, recovery, gets, spare, below, vacant)) ↦ absurd (no-spare s role recovery gets so)
        | inr (inr (role, offset, gets, holds)) ↦ absurd (no-spare s role (Some offset) gets so)
      ];
    }
      where
        kept-recovery : (role : ℕ) (recovery : Option ℕ) (sb : Sb) → is_recovering sb ≡ false → KeepsRecovery (give.Role role recovery) sb
        kept-recovery role None sb whole = whole
        kept-recovery role (Some offset) sb whole = tt

  -- ---- holders that become spares

  module _ (change : Change) (t : IsDropping Old change) where
    kept-role : (s role : ℕ) → planned_role Old.roles (give_of change.gives s) s ≡ Some role → (give_of change.gives s ≡ Same) × (holder (get_or Old.roles role Missing) ≡ Some s)
    kept-role s role is = elim (t.each s) [
      | inl same ↦ (same, holder-role s role (give_of change.gives s) same is)
      | inr (spare, other, holds) ↦ absurd (let none : ◌≡◌ {A = Option ℕ} None (Some role) = sym (ap (λ (g : Give). planned_role Old.roles g s) spare) ∙ is in cc)
    ]

    no-recovery : (s : ℕ) → is_recovery (give_of change.gives s) ≡ false
    no-recovery s = elim (t.each s) [ inl same ↦ ap is_recovery same | inr (spare, other, holds) ↦ ap is_recovery spare ]

    dropping-fit : IsFitUpdate Old change
    dropping-fit = record {
      none = t.none;
      gives = λ s isnt. elim (t.each s) [
        | inl same ↦ same
        | inr (spare, role, holds) ↦ absurd (
            let live : is_in_update Old change s ≡ true = or-first (is_live Old.roles Old.spares s) (is_added change.added s)
            (or-first (list_any (is_held_by s) Old.roles) (has_spare former.spares s) (any-held s Old.roles role (ap holder holds))) in
            let both = sym isnt ∙ live in cc
            )
      ];
      below = λ s role kept is. (let k = kept-role s role is in let under = t.below s role kept k.0 k.1 in let plan = count-planned Old change in omega (arith, under, plan));
      one_holder = λ s u role kept kept' is is'. (let both : ◌≡◌ {A = Option ℕ} (Some s) (Some u) = sym (kept-role s role is).1 ∙ (kept-role u role is').1 in cc);
      size = t.size;
      devices = λ s sb kept own. elim (t.each s) [
        | inl same ↦ subst (λ (g : Give). KeepsRecovery g sb) (sym same) tt
        | inr (spare, role, holds) ↦ subst (λ (g : Give). KeepsRecovery g sb) (sym spare) tt
      ];
      one = λ s u kept kept' first first'. absurd (let none = no-recovery s in let both = sym none ∙ first in cc);
      spares = λ s sb kept own none so. elim (t.each s) [
        | inl same ↦ absurd (
            let was = or-rest (has_spare former.spares s) (is_added change.added s) (sym (ap (λ (g : Give). is_planned_spare former.spares change.added g s) same) ∙ so) (ap (λ (o : Option (ℕ × Sb)). is_added o s) t.none) in
            let both = sym none ∙ was in cc
            )
        | inr (spare, role, holds) ↦ (holder-whole role s sb holds own, ap (λ (g : Give). planned_role Old.roles g s) spare)
      ];
    }

pub taking-is-fit : TakingIsFit
taking-is-fit scope former old change d since taking =
    subst (λ (o : Members). IsTaking o change → IsFitUpdate o change) (sym since.since) (λ t. taking-fit scope former since.gone d since.held change t) taking

pub dropping-is-fit : DroppingIsFit
dropping-is-fit scope former old change d since dropping =
    subst (λ (o : Members). IsDropping o change → IsFitUpdate o change) (sym since.since) (λ t. dropping-fit scope former since.gone d since.held change t) dropping

-- such a change gives to live slots alone
pub taking-live : (old : Members) (change : Change) → IsTaking old change → AreGivesOfLive old change
taking-live old change t s isnt = elim (t.each s) [
  | inl same ↦ same
  | inr (inl (role, recovery, gets, spare, below, vacant)) ↦ absurd (let live = in-it (or-second (list_any (is_held_by s) old.roles) (has_spare old.spares s) spare) in let both = sym isnt ∙ live in cc)
  | inr (inr (role, offset, gets, holds)) ↦ absurd (let live = in-it (or-first (list_any (is_held_by s) old.roles) (has_spare old.spares s) (any-held s old.roles role holds)) in let both = sym isnt ∙ live in cc)
]
  where
    in-it : is_live old.roles old.spares s ≡ true → is_in_update old change s ≡ true
    in-it live = or-first (is_live old.roles old.spares s) (is_added change.added s) live

pub dropping-live : (old : Members) (change : Change) → IsDropping old change → AreGivesOfLive old change
dropping-live old change t s isnt = elim (t.each s) [
  | inl same ↦ same
  | inr (spare, role, holds) ↦ absurd (
      let live : is_in_update old change s ≡ true = or-first (is_live old.roles old.spares s) (is_added change.added s) (or-first (list_any (is_held_by s) old.roles) (has_spare old.spares s) (any-held s old.roles role (ap holder holds))) in
      let both = sym isnt ∙ live in cc
      )
]
