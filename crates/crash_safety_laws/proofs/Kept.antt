-- Views that have no more than others: members of which slots were lost, and plans in which each slot stays what it is.
use Rattle.std.proofs.Common.{◌≡◌, ◌⊎◌, inl, inr, ℕ, zero, suc, ◌<◌, Bool, true, false, not, cond, map, List, [], ◌∷◌, length, get_or, Option, Some, None, option_map, replicate, refl, sym, ◌∙◌, ap, ap₂, arith}
use Rattle.std.specs.Option.{option_map_or}
use Rattle.std.proofs.lemmas.Bool.{cases_lt}
use Rattle.std.proofs.lemmas.List.{get_or_past}
use Rattle.crash_views.specs.raid_types_Search.{tabulate, least_below}
use Rattle.crash_views.specs.raid_types_Shapes.{has_slot}
use Rattle.crash_views.specs.raid_types_the_Role.{Role}
use Rattle.crash_views.specs.raid_types_the_Role_TheVariants.{Whole, Recovering, Missing}
use Rattle.crash_views.proofs.raid_types_Tabulated.{length-tabulate, get_or-tabulate}
use Rattle.sb_update_laws.specs.sb_codec_the_Sb.{Sb}
use Rattle.crash_views.specs.sb_specs_the_Give.{Give}
use Rattle.crash_views.specs.sb_specs_the_Give_TheVariants.{Same}
use Rattle.crash_views.specs.sb_specs_the_Change.{Change}
use Rattle.crash_views.specs.sb_specs_the_Members.{Members}
use Rattle.crash_views.specs.sb_specs_Reading.{role_count, role_state, rows_held, holder, is_whole}
use Rattle.crash_views.specs.sb_specs_Update.{with_give, give_of, own_in}
use Rattle.crash_views.specs.sb_specs_Outcome.{is_planned_holder, held_state, planned_state}
use Rattle.crash_views.specs.stripe_row_Rows.{reading_of, role_without, members_without}
use Rattle.crash_safety_laws.specs.Updates.{planned_view, IsLessView}
use Rattle.crash_safety_laws.proofs.ChangeViews.{says-itself}
use Rattle.crash_safety_laws.proofs.PlannedRoles.{says-shared, planned-holds}
use Rattle.crash_safety_laws.proofs.Without.{state-without, without-holder}

-- ---- slots that are lost

module _ (m : Members) (gone : ℕ) where
  length-without : (roles : List Role) → length (map (role_without gone) roles) ≡ length roles
  length-without [] = refl
  length-without (state ∷ roles) = ap suc (length-without roles)

  pub still-missing : (state : Role) → not (is_whole state) ≡ true → not (is_whole (role_without gone state)) ≡ true
  still-missing (Whole s) e = absurd (cc)
  still-missing (Recovering s) e = by (has_slot gone s)
    where
      by : (b : Bool) → not (is_whole (cond b Missing (Recovering s))) ≡ true
      by true = refl
      by false = refl
  still-missing Missing e = refl

  pub without-less : IsLessView m (members_without gone m)
  without-less = record {
    array = says-itself m.newest;
    roles = length-without m.roles;
    states = λ role slot held. (
        let is = state-without gone m.roles role in
        is ∙ without-holder gone (get_or m.roles role Missing) slot (ap holder (sym is) ∙ held));
    rows = λ role. same-rows (role_state (reading_of (members_without gone m)) role);
    offsets = λ role slot held. refl;
    missing = λ role is. ap (λ (s : Role). not (is_whole s)) (state-without gone m.roles role) ∙ still-missing (get_or m.roles role Missing) is;
  }
    where
      same-rows : (s : Role) → rows_held (reading_of (members_without gone m)) s ≡ rows_held (reading_of m) s
      same-rows (Whole slot) = refl
      same-rows (Recovering slot) = refl
      same-rows Missing = refl

-- ---- a plan in which each slot stays what it is

pub give_of-same : (n slot : ℕ) → give_of (replicate n Same) slot ≡ Same
give_of-same zero slot = refl
give_of-same (suc n) zero = refl
give_of-same (suc n) (suc slot) = give_of-same n slot

module _ (old : Members) (change : Change) (lost : ℕ) (same : (s : ℕ) → give_of change.gives s ≡ Same) (count : length old.roles ≡ role_count change.shared) where
  -- the members with what the change says of the array
  abbrev As : Members
  As = record old { newest = change.shared }

  abbrev Plan : Members
  Plan = planned_view old change lost

  -- a role is what it was, or missing
  state-or : (role : ℕ) → (planned_state old.roles change.gives lost role ≡ get_or old.roles role Missing) ⊎ (planned_state old.roles change.gives lost role ≡ Missing)
  state-or role = of (least_below 32 (is_planned_holder old.roles change.gives lost role)) refl
    where
      of : (o : Option ℕ) → least_below 32 (is_planned_holder old.roles change.gives lost role) ≡ o
          → (planned_state old.roles change.gives lost role ≡ get_or old.roles role Missing) ⊎ (planned_state old.roles change.gives lost role ≡ Missing)
      of None e = inr (ap (λ (o : Option ℕ). option_map_or (λ slot. held_state (get_or old.roles role Missing) (give_of change.gives slot) slot) o Missing) e)
      of (Some slot) e = inl (ap (λ (o : Option ℕ). option_map_or (λ slot. held_state (get_or old.roles role Missing) (give_of change.gives slot) slot) o Missing) e
          ∙ ap (λ (g : Give). held_state (get_or old.roles role Missing) g slot) (same slot))

  listed-or : (role : ℕ) → (role_state (reading_of Plan) role ≡ role_state (reading_of As) role) ⊎ (role_state (reading_of Plan) role ≡ Missing)
  listed-or role = elim (cases_lt role (role_count change.shared)) [
    | inl below ↦ (
        let here = get_or-tabulate (role_count change.shared) (planned_state old.roles change.gives lost) role Missing below in
        elim (state-or role) [ inl is ↦ inl (here ∙ is) | inr gone ↦ inr (here ∙ gone) ])
    | inr past ↦ inr (get_or_past (tabulate (role_count change.shared) (planned_state old.roles change.gives lost)) role Missing
        (let long = length-tabulate (role_count change.shared) (planned_state old.roles change.gives lost) in omega (arith, past, long)))
  ]

  -- the superblock of a slot that holds a role is what it was
  own-same : (role slot : ℕ) → holder (role_state (reading_of Plan) role) ≡ Some slot
      → get_or (tabulate 32 (λ slot. option_map (with_give (give_of change.gives slot)) (own_in old.own slot))) slot None ≡ own_in old.own slot
  own-same role slot held = get_or-tabulate 32 (λ slot. option_map (with_give (give_of change.gives slot)) (own_in old.own slot)) slot None (small role slot held)
      ∙ ap (λ (g : Give). option_map (with_give g) (own_in old.own slot)) (same slot) ∙ no-change (own_in old.own slot)
    where
      no-change : (o : Option Sb) → option_map (with_give Same) o ≡ o
      no-change None = refl
      no-change (Some sb) = refl

      small : (role slot : ℕ) → holder (role_state (reading_of Plan) role) ≡ Some slot → slot < 32
      small role slot held = elim (cases_lt role (role_count change.shared)) [
        | inl below ↦ (planned-holds old.roles change.gives lost role slot (ap holder (sym (get_or-tabulate (role_count change.shared) (planned_state old.roles change.gives lost) role Missing below)) ∙ held)).0
        | inr past ↦ absurd (
            let none = get_or_past (tabulate (role_count change.shared) (planned_state old.roles change.gives lost)) role Missing
            (let long = length-tabulate (role_count change.shared) (planned_state old.roles change.gives lost) in omega (arith, past, long)) in
            let clash = sym held ∙ ap holder none in cc
            )
      ]

  rows-same : (role : ℕ) (state : Role) → role_state (reading_of Plan) role ≡ state → rows_held (reading_of Plan) state ≡ rows_held (reading_of As) state
  rows-same role (Whole slot) is = refl
  rows-same role Missing is = refl
  rows-same role (Recovering slot) is = ap₂ (λ (active : Bool) (n : ℕ). cond active 0 n) (sym (says-shared old change).reshaping)
      (ap (λ (o : Option Sb). option_map_or (λ sb. sb.recovery_offset) o 0) (own-same role slot (ap holder is)))

  pub kept-less : IsLessView (record old { newest = change.shared }) (planned_view old change lost)
  kept-less = record {
    array = says-shared old change;
    roles = length-tabulate (role_count change.shared) (planned_state old.roles change.gives lost) ∙ sym count;
    states = λ role slot held. elim (listed-or role) [ inl is ↦ is | inr gone ↦ absurd (let e = sym held ∙ ap holder gone in cc) ];
    rows = λ role. rows-same role (role_state (reading_of Plan) role) refl;
    offsets = λ role slot held. ap (λ (o : Option Sb). option_map_or (λ sb. sb.data_offset) o 0) (own-same role slot held);
    missing = λ role gone. elim (listed-or role) [
      | inl is ↦ ap (λ (s : Role). not (is_whole s)) is ∙ gone
      | inr none ↦ ap (λ (s : Role). not (is_whole s)) none
    ];
  }
