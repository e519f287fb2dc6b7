-- Which slots hold a role, or are spares, by what an update plans, and which of them were live in it.
use Rattle.std.proofs.Common.{◌≡◌, ⊎_elim, ℕ, ◌<◌, ◌==◌, ◌||◌, ◌&&◌, Bool, true, false, not, nat_lt, map, List, get_or, Option, Some, None, refl, sym, ◌∙◌, ap, subst, arith}
use Rattle.std.specs.List.{list_any}
use Rattle.std.specs.Option.{is_some, option_map_or}
use Rattle.std.proofs.lemmas.Bool.Decides.{nat_tests}
use Rattle.crash_views.specs.raid_types_Shapes.{has_slot}
use Rattle.crash_views.specs.raid_types_Search.{least_below}
use Rattle.crash_views.specs.raid_types_the_Role.{Role}
use Rattle.crash_views.specs.raid_types_the_Role_TheVariants.{Missing}
use Rattle.crash_views.proofs.raid_types_Least.{least_below-only}
use Rattle.crash_views.proofs.raid_types_Tabulated.{length-tabulate, get_or-tabulate}
use Rattle.crash_views.specs.sb_specs_the_Give.{Give}
use Rattle.crash_views.specs.sb_specs_the_Give_TheVariants.{Same, Spare}
use Rattle.crash_views.specs.sb_specs_the_Give_TheVariants as give
use Rattle.crash_views.specs.sb_specs_the_Change.{Change}
use Rattle.crash_views.specs.sb_specs_the_Members.{Members}
use Rattle.crash_views.specs.sb_specs_Reading.{role_count, holder}
use Rattle.crash_views.specs.sb_specs_Reads.{SaysSame, has_spare}
use Rattle.crash_views.specs.sb_specs_Update.{give_of, is_held_by, is_live, is_added, role_from, planned_role, is_planned_spare}
use Rattle.crash_views.specs.sb_specs_Updating.{planned_newest}
use Rattle.crash_views.specs.sb_specs_Outcome.{is_in_update, live_set, AreGivesOfLive, is_same, is_planned_holder, held_state, planned_state, planned_roles, planned_spares}
use Rattle.crash_views.proofs.sb_specs_PlannedSb.{planned-of}
use Rattle.crash_views.proofs.sb_specs_ReadAlike.{count-same}
use Rattle.crash_views.proofs.sb_specs_ReadLists.{by_bool}
use Rattle.crash_views.proofs.sb_read_laws_SaidLists.{role-holder}
use Rattle.crash_views.proofs.sb_read_laws_SaidSlots.{below-length, has-slots_below}
use Rattle.crash_views.proofs.sb_specs_SlotSets.{some_role}
use Rattle.crash_views.specs.stripe_row_Rows.{role_without}
use Rattle.crash_safety_laws.specs.Marking.{marking}
use Rattle.crash_safety_laws.specs.Updates.{HasOneHolder}
use Rattle.crash_safety_laws.proofs.PlansLose.{found-passes, same-role}
use Rattle.crash_safety_laws.proofs.Without.{from-without, any-holds, any-held, state-without, without-holder, live-of, in-live}

-- ---- tests

both-of : (a b : Bool) → (a && b) ≡ true → (a ≡ true) × (b ≡ true)
both-of true b e = (refl, e)
both-of false b e = absurd (cc)

pub kept-and : (a b : Bool) → (not a && b) ≡ true → (a ≡ false) × (b ≡ true)
kept-and true b e = absurd (cc)
kept-and false b e = (refl, e)

or-first : (a b : Bool) → a ≡ true → (a || b) ≡ true
or-first true b e = refl
or-first false b e = absurd (cc)

or-second : (a b : Bool) → b ≡ true → (a || b) ≡ true
or-second true b e = refl
or-second false b e = e

or-rest : (a b : Bool) → (a || b) ≡ true → a ≡ false → b ≡ true
or-rest true b e none = absurd (cc)
or-rest false b e none = e

less-of : (a b : ℕ) → nat_lt a b ≡ true → a < b
less-of a b e = grind (arith, nat_tests, e)

is-less : (a b : ℕ) → a < b → nat_lt a b ≡ true
is-less a b lt = grind (arith, nat_tests)

same-self : (role : ℕ) (found : Option ℕ) → found ≡ Some role → is_same role found ≡ true
same-self role found is = ap (is_same role) is ∙ self role
  where
    self : (n : ℕ) → (n == n) ≡ true
    self n = grind (arith, nat_tests)

-- what is planned says what the change does
pub says-shared : (members : Members) (change : Change) → SaysSame change.shared (planned_newest change.shared members.newest)
says-shared members change =
    let a = (planned-of change.shared members.newest Same).array in
    record {
      level = refl;
      layout = refl;
      size = refl;
      chunksize = refl;
      raid_disks = refl;
      new_level = refl;
      reshape_position = refl;
      delta_disks = refl;
      new_layout = refl;
      new_chunk = refl;
      resync_offset = refl;
      reshaping = a.reshaping;
      backward = a.backward;
    }

pub count-planned : (members : Members) (change : Change) → role_count change.shared ≡ role_count (planned_newest change.shared members.newest)
count-planned members change = count-same change.shared (planned_newest change.shared members.newest) (says-shared members change)

-- ---- the holder of a role that is planned

given-holder : (state : Role) (g : Give) (roles : List Role) (role t s : ℕ) → state ≡ get_or roles role Missing → planned_role roles g t ≡ Some role → holder (held_state state g t) ≡ Some t
given-holder state Same roles role t s is has = ap holder is ∙ role-holder t roles role has
given-holder state (give.Role r None) roles role t s is has = refl
given-holder state (give.Role r (Some offset)) roles role t s is has = refl
given-holder state Spare roles role t s is has = absurd (cc)

-- it isn't lost, and gets that role
pub planned-holds : (roles : List Role) (gives : List Give) (lost role s : ℕ) → holder (planned_state roles gives lost role) ≡ Some s
    → (s < 32) × (has_slot lost s ≡ false) × (planned_role roles (give_of gives s) s ≡ Some role)
planned-holds roles gives lost role s is = of (least_below 32 (is_planned_holder roles gives lost role)) refl
  where
    of : (found : Option ℕ) → least_below 32 (is_planned_holder roles gives lost role) ≡ found → (s < 32) × (has_slot lost s ≡ false) × (planned_role roles (give_of gives s) s ≡ Some role)
    of None e = absurd (
        let gone = ap (λ (o : Option ℕ). holder (option_map_or (λ slot. held_state (get_or roles role Missing) (give_of gives slot) slot) o Missing)) e in
        let clash = sym is ∙ gone in cc
        )
    of (Some t) e =
        let found = found-passes 32 (is_planned_holder roles gives lost role) t e in
        let parts = kept-and (has_slot lost t) (is_same role (planned_role roles (give_of gives t) t)) found.1 in
        let has = same-role role (planned_role roles (give_of gives t) t) parts.1 in
        let here = ap (λ (o : Option ℕ). holder (option_map_or (λ slot. held_state (get_or roles role Missing) (give_of gives slot) slot) o Missing)) e
        ∙ given-holder (get_or roles role Missing) (give_of gives t) roles role t s refl has in
        let same : t ≡ s = (let both : ◌≡◌ {A = Option ℕ} (Some t) (Some s) = sym here ∙ is in cc) in
        subst (λ (n : ℕ). (n < 32) × (has_slot lost n ≡ false) × (planned_role roles (give_of gives n) n ≡ Some role)) same (found.0, parts.0, has)

-- and one that gets it holds it, if no other does
pub planned-held : (old : Members) (change : Change) (lost : ℕ) → HasOneHolder old change lost → (s role : ℕ) → s < 32 → has_slot lost s ≡ false → planned_role old.roles (give_of change.gives s) s ≡ Some role
    → holder (planned_state old.roles change.gives lost role) ≡ Some s
planned-held old change lost one s role lt kept has =
    ap (λ (o : Option ℕ). holder (option_map_or (λ slot. held_state (get_or old.roles role Missing) (give_of change.gives slot) slot) o Missing))
    (least_below-only 32 (is_planned_holder old.roles change.gives lost role) s lt (passes s kept has) (λ j below other.
    let parts = kept-and (has_slot lost j) (is_same role (planned_role old.roles (give_of change.gives j) j)) other in
    one j s role parts.0 kept (same-role role (planned_role old.roles (give_of change.gives j) j) parts.1) has))
    ∙ given-holder (get_or old.roles role Missing) (give_of change.gives s) old.roles role s s refl has
  where
    passes : (s : ℕ) → has_slot lost s ≡ false → planned_role old.roles (give_of change.gives s) s ≡ Some role → is_planned_holder old.roles change.gives lost role s ≡ true
    passes s kept has = (λ i. not (kept i) && same-self role (planned_role old.roles (give_of change.gives s) s) has i)

-- ---- it was live

pub gets-live : (m : Members) (change : Change) → AreGivesOfLive m change → (s role : ℕ) → planned_role m.roles (give_of change.gives s) s ≡ Some role → is_in_update m change s ≡ true
gets-live m change gives s role has = of (is_in_update m change s) refl
  where
    of : (b : Bool) → is_in_update m change s ≡ b → b ≡ true
    of true is = refl
    of false is =
        let same = gives s is in
        let from : role_from s 0 m.roles ≡ Some role = sym (ap (λ (g : Give). planned_role m.roles g s) same) ∙ has in
        let holds : list_any (is_held_by s) m.roles ≡ true = sym (some_role s 0 m.roles) ∙ ap is_some from in
        let live : is_in_update m change s ≡ true = or-first (is_live m.roles m.spares s) (is_added change.added s) (or-first (list_any (is_held_by s) m.roles) (has_spare m.spares s) holds) in
        sym is ∙ live

pub spare-live : (m : Members) (change : Change) → AreGivesOfLive m change → (s : ℕ) → is_planned_spare m.spares change.added (give_of change.gives s) s ≡ true → is_in_update m change s ≡ true
spare-live m change gives s so = of (is_in_update m change s) refl
  where
    joined : (a b c : Bool) → (b || c) ≡ true → ((a || b) || c) ≡ true
    joined true b c e = refl
    joined false b c e = e

    of : (b : Bool) → is_in_update m change s ≡ b → b ≡ true
    of true is = refl
    of false is =
        let same = gives s is in
        let was : (has_spare m.spares s || is_added change.added s) ≡ true = sym (ap (λ (g : Give). is_planned_spare m.spares change.added g s) same) ∙ so in
        let live : is_in_update m change s ≡ true = joined (list_any (is_held_by s) m.roles) (has_spare m.spares s) (is_added change.added s) was in
        sym is ∙ live

module _ (old new : Members) (change : Change) (gives : AreGivesOfLive old change) (roles : new.roles ≡ planned_roles old change new.lost) (spares : new.spares ≡ planned_spares old change new.lost) where
  -- what a slot holds at the end was planned for it
  pub held-planned : (role s : ℕ) → holder (get_or new.roles role Missing) ≡ Some s → (s < 32) × (has_slot new.lost s ≡ false) × (planned_role old.roles (give_of change.gives s) s ≡ Some role)
  held-planned role s is =
      let there : holder (get_or (planned_roles old change new.lost) role Missing) ≡ Some s = sym (ap (λ (l : List Role). holder (get_or l role Missing)) roles) ∙ is in
      let below : role < role_count change.shared = (let n = below-length (planned_roles old change new.lost) role s there in let long = length-tabulate (role_count change.shared) (planned_state old.roles change.gives new.lost) in omega (arith, n, long)) in
      planned-holds old.roles change.gives new.lost role s (sym (ap holder (get_or-tabulate (role_count change.shared) (planned_state old.roles change.gives new.lost) role Missing below)) ∙ there)

  spares-new : (s : ℕ) → has_spare new.spares s ≡ (nat_lt s 32 && (not (has_slot new.lost s) && is_planned_spare old.spares change.added (give_of change.gives s) s))
  spares-new s =
      ap (λ (l : List ℕ). has_spare l s) spares
      ∙ has-slots_below (λ slot. not (has_slot new.lost slot) && is_planned_spare old.spares change.added (give_of change.gives slot) slot) s 32

  -- a slot that holds a role or is a spare at the end was live in the update, and isn't lost
  pub live-was : (s : ℕ) → is_live new.roles new.spares s ≡ true → (s < 32) × (is_in_update old change s ≡ true) × (has_slot new.lost s ≡ false)
  live-was s is = ⊎_elim
      (λ holds.
      let found = any-holds s new.roles holds in
      let planned = held-planned found.0 s found.1 in
      (planned.0, gets-live old change gives s found.0 planned.2, planned.1))
      (λ none.
      let so = or-rest (list_any (is_held_by s) new.roles) (has_spare new.spares s) is none in
      let rest = both-of (nat_lt s 32) (not (has_slot new.lost s) && is_planned_spare old.spares change.added (give_of change.gives s) s) (sym (spares-new s) ∙ so) in
      let planned = kept-and (has_slot new.lost s) (is_planned_spare old.spares change.added (give_of change.gives s) s) rest.1 in
      (less-of s 32 rest.0, spare-live old change gives s planned.1, planned.0))
      (by_bool (list_any (is_held_by s) new.roles))

  pub live-before : (s : ℕ) → has_slot (live_set new (marking new false)) s ≡ true → (has_slot (live_set old change) s ≡ true) × (has_slot new.lost s ≡ false)
  live-before s is =
      let was = live-was s (both-of (nat_lt s 32) (is_live new.roles new.spares s) (sym (live-of new (marking new false) refl s) ∙ is)).1 in
      (in-live old change s was.0 was.1, was.2)

  module _ (none : change.added ≡ None) (one : HasOneHolder old change new.lost)
      (below : (s role : ℕ) → has_slot new.lost s ≡ false → planned_role old.roles (give_of change.gives s) s ≡ Some role → role < role_count (planned_newest change.shared old.newest)) where
    holds-then : (s role : ℕ) → s < 32 → has_slot new.lost s ≡ false → planned_role old.roles (give_of change.gives s) s ≡ Some role → list_any (is_held_by s) new.roles ≡ true
    holds-then s role lt kept has =
        let under : role < role_count change.shared = (let b = below s role kept has in let count = count-planned old change in omega (arith, b, count)) in
        any-held s new.roles role (
        ap (λ (l : List Role). holder (get_or l role Missing)) roles
        ∙ ap holder (get_or-tabulate (role_count change.shared) (planned_state old.roles change.gives new.lost) role Missing under)
        ∙ planned-held old change new.lost one s role lt kept has
        )

    spare-then : (s : ℕ) → s < 32 → has_slot new.lost s ≡ false → is_planned_spare old.spares change.added (give_of change.gives s) s ≡ true → has_spare new.spares s ≡ true
    spare-then s lt kept so = spares-new s ∙ (λ i. is-less s 32 lt i && (not (kept i) && so i))

    -- a live slot that isn't lost stays live
    live-then : (s : ℕ) → s < 32 → has_slot new.lost s ≡ false → is_live old.roles old.spares s ≡ true → is_live new.roles new.spares s ≡ true
    live-then s lt kept live = by (give_of change.gives s) refl
      where
        by-role : (role : ℕ) → planned_role old.roles (give_of change.gives s) s ≡ Some role → is_live new.roles new.spares s ≡ true
        by-role role has = or-first (list_any (is_held_by s) new.roles) (has_spare new.spares s) (holds-then s role lt kept has)

        by-spare : is_planned_spare old.spares change.added (give_of change.gives s) s ≡ true → is_live new.roles new.spares s ≡ true
        by-spare so = or-second (list_any (is_held_by s) new.roles) (has_spare new.spares s) (spare-then s lt kept so)

        by-former : (found : Option ℕ) → role_from s 0 old.roles ≡ found → give_of change.gives s ≡ Same → is_live new.roles new.spares s ≡ true
        by-former (Some role) from same = by-role role (ap (λ (g : Give). planned_role old.roles g s) same ∙ from)
        by-former None from same =
            let isnt : list_any (is_held_by s) old.roles ≡ false = sym (some_role s 0 old.roles) ∙ ap is_some from in
            by-spare (ap (λ (g : Give). is_planned_spare old.spares change.added g s) same
            ∙ or-first (has_spare old.spares s) (is_added change.added s) (or-rest (list_any (is_held_by s) old.roles) (has_spare old.spares s) live isnt))

        by : (g : Give) → give_of change.gives s ≡ g → is_live new.roles new.spares s ≡ true
        by Same is = by-former (role_from s 0 old.roles) refl is
        by (give.Role role recovery) is = by-role role (ap (λ (g : Give). planned_role old.roles g s) is)
        by Spare is = by-spare (ap (λ (g : Give). is_planned_spare old.spares change.added g s) is)

    -- so the slots that are left are live at the end
    pub live-same : (s : ℕ) → has_slot new.lost s ≡ false → has_slot (live_set new (marking new false)) s ≡ has_slot (live_set old change) s
    live-same s kept = ⊎_elim
        (λ is.
        let parts = both-of (nat_lt s 32) (is_live old.roles old.spares s) (sym (live-of old change none s) ∙ is) in
        live-of new (marking new false) refl s ∙ (λ i. parts.0 i && live-then s (less-of s 32 parts.0) kept parts.1 i) ∙ sym is)
        (λ isnt. ⊎_elim (λ is. absurd (let was = (live-before s is).0 in let both = sym was ∙ isnt in cc)) (λ no. no ∙ sym isnt) (by_bool (has_slot (live_set new (marking new false)) s)))
        (by_bool (has_slot (live_set old change) s))

-- ---- where slots were lost before it

module _ (former : Members) (gone : ℕ) where
  pub role-same : (g : Give) (s : ℕ) → has_slot gone s ≡ false → planned_role former.roles g s ≡ planned_role (map (role_without gone) former.roles) g s
  role-same Same s none = sym (from-without gone s 0 former.roles none)
  role-same (give.Role role recovery) s none = refl
  role-same Spare s none = refl

  module _ (gives : List Give) (lost : ℕ) (more : (s : ℕ) → has_slot gone s ≡ true → has_slot lost s ≡ true) where
    not-gone : (s : ℕ) → has_slot lost s ≡ false → has_slot gone s ≡ false
    not-gone s none = ⊎_elim (λ is. absurd (let e = more s is in let both = sym e ∙ none in cc)) (λ isnt. isnt) (by_bool (has_slot gone s))

    holder-same : (role s : ℕ) → is_planned_holder former.roles gives lost role s ≡ is_planned_holder (map (role_without gone) former.roles) gives lost role s
    holder-same role s = ⊎_elim
        (λ is. (λ i. not (is i) && is_same role (planned_role former.roles (give_of gives s) s)) ∙ sym (λ i. not (is i) && is_same role (planned_role (map (role_without gone) former.roles) (give_of gives s) s)))
        (λ none. ap (λ (o : Option ℕ). not (has_slot lost s) && is_same role o) (role-same (give_of gives s) s (not-gone s none)))
        (by_bool (has_slot lost s))

    held-same : (g : Give) (role s : ℕ) → planned_role (map (role_without gone) former.roles) g s ≡ Some role
        → held_state (get_or former.roles role Missing) g s ≡ held_state (get_or (map (role_without gone) former.roles) role Missing) g s
    held-same Same role s has =
        let here = role-holder s (map (role_without gone) former.roles) role has in
        let is = state-without gone former.roles role in
        sym (is ∙ without-holder gone (get_or former.roles role Missing) s (ap holder (sym is) ∙ here))
    held-same (give.Role r None) role s has = refl
    held-same (give.Role r (Some offset)) role s has = refl
    held-same Spare role s has = refl

    pub state-same : (role : ℕ) → planned_state former.roles gives lost role ≡ planned_state (map (role_without gone) former.roles) gives lost role
    state-same role =
        ap (λ (o : Option ℕ). option_map_or (λ slot. held_state (get_or former.roles role Missing) (give_of gives slot) slot) o Missing)
        (λ i. least_below 32 (λ s. holder-same role s i))
        ∙ of (least_below 32 (is_planned_holder (map (role_without gone) former.roles) gives lost role)) refl
      where
        of : (o : Option ℕ) → least_below 32 (is_planned_holder (map (role_without gone) former.roles) gives lost role) ≡ o
            → option_map_or (λ slot. held_state (get_or former.roles role Missing) (give_of gives slot) slot) o Missing
            ≡ option_map_or (λ slot. held_state (get_or (map (role_without gone) former.roles) role Missing) (give_of gives slot) slot) o Missing
        of None e = refl
        of (Some s) e =
            let found = found-passes 32 (is_planned_holder (map (role_without gone) former.roles) gives lost role) s e in
            let parts = kept-and (has_slot lost s) (is_same role (planned_role (map (role_without gone) former.roles) (give_of gives s) s)) found.1 in
            held-same (give_of gives s) role s (same-role role (planned_role (map (role_without gone) former.roles) (give_of gives s) s) parts.1)
