-- A reshape begins: the view that is planned places the list as before.
use Rattle.std.proofs.Common.{◌≡◌, ◌⊎◌, inl, inr, ⊎_elim, ℕ, zero, suc, ◌+◌, ◌*◌, ◌<◌, ◌≤◌, Bool, true, false, not, cond, nat_lt, min, List, get_or, Option, Some, None, unwrap_or, option_map, refl, sym, ◌∙◌, ap, ap₂, subst, arith}
use Rattle.std.specs.Prelude.{⊤}
use Rattle.std.specs.Option.{option_map_or}
use Rattle.std.proofs.lemmas.Bool.{cases_lt}
use Rattle.std.proofs.lemmas.Bool.Decides.{nat_tests}
use Rattle.std.proofs.lemmas.List.{get_or_past}
use Rattle.std.proofs.Math.Nat.{mul-le-mul_right}
use Rattle.crash_safety_laws.specs.raid_types_Search.{tabulate, least_below, count_below}
use Rattle.crash_safety_laws.specs.raid_types_Shapes.{has_slot, data_disks}
use Rattle.crash_safety_laws.specs.raid_types_Sectors.{Sector}
use Rattle.crash_safety_laws.specs.raid_types_the_Shape.{Shape}
use Rattle.crash_safety_laws.specs.raid_types_the_Span.{Span}
use Rattle.crash_safety_laws.specs.raid_types_the_Role.{Role}
use Rattle.crash_safety_laws.specs.raid_types_the_Role_TheVariants.{Whole, Recovering, Missing}
use Rattle.crash_safety_laws.proofs.raid_types_Tabulated.{length-tabulate, get_or-tabulate}
use Rattle.crash_safety_laws.specs.sb_codec_the_Sb.{Sb}
use Rattle.crash_safety_laws.specs.reshape_geometry_Geometry.{side, window}
use Rattle.crash_safety_laws.specs.bank_the_Operation.{Operation}
use Rattle.crash_safety_laws.specs.bank_Given.{Given}
use Rattle.crash_safety_laws.specs.bank_Tape.{Contents, disk}
use Rattle.crash_safety_laws.specs.sb_specs_the_Give.{Give}
use Rattle.crash_safety_laws.specs.sb_specs_the_Give_TheVariants.{Same, Spare}
use Rattle.crash_safety_laws.specs.sb_specs_the_Give_TheVariants as give
use Rattle.crash_safety_laws.specs.sb_specs_the_Change.{Change}
use Rattle.crash_safety_laws.specs.sb_specs_the_Members.{Members}
use Rattle.crash_safety_laws.specs.sb_specs_Reading.{Scope, is_clean, is_reshaping, is_backward, shape_of, final_shape, list_length, next_window, role_count, role_state, rows_held, holder, is_whole, data_offset_of}
use Rattle.crash_safety_laws.specs.sb_specs_Reads.{SaysSame}
use Rattle.crash_safety_laws.specs.sb_specs_Updating.{planned_newest}
use Rattle.crash_safety_laws.specs.sb_specs_Update.{with_give, give_of, own_in, planned_role}
use Rattle.crash_safety_laws.specs.sb_specs_Outcome.{is_same, is_planned_holder, held_state, planned_state}
use Rattle.crash_safety_laws.proofs.sb_read_laws_SaidLists.{role-holder}
use Rattle.crash_safety_laws.specs.stripe_row_Rows.{reading_of, is_missing, held_slot, IsTolerated}
use Rattle.crash_safety_laws.proofs.stripe_row_Losses.{holder-of}
use Rattle.crash_safety_laws.specs.history_ActiveSection.{section_for}
use Rattle.crash_safety_laws.specs.history_Stands.{shape_at, shape_for}
use Rattle.crash_safety_laws.specs.crash_views_Regions.{AreShapesFit}
use Rattle.crash_safety_laws.specs.crash_views_Views.{Disk, Ledger}
use Rattle.crash_safety_laws.specs.crash_views_Windows.{IsFlushedRight}
use Rattle.crash_safety_laws.specs.Updates.{planned_view}
use Rattle.crash_safety_laws.specs.Steady.{AreGoneTold, IsSteady}
use Rattle.crash_safety_laws.specs.Changing.{IsChanged, IsFitUpdate, IsPlannedSafe}
use Rattle.crash_safety_laws.specs.Giving.{IsPlacedLess}
use Rattle.crash_reshape_laws.specs.Ends.{IsCleared}
use Rattle.crash_reshape_laws.specs.Flushed.{IsBeginning, BeginStaysSafe, FlushedChangeStaysSafe}
use Rattle.crash_reshape_laws.proofs.EndLaws.{cleared-plain, starts-untailed}
use Rattle.crash_safety_laws.proofs.crash_views_Alike.{shape-alike, length-alike, placing-alike}
use Rattle.crash_safety_laws.proofs.LessViews.{ends-place}
use Rattle.crash_safety_laws.proofs.PlansLose.{found-passes, same-role}
use Rattle.crash_safety_laws.proofs.PlannedRoles.{kept-and, says-shared, planned-holds}
use Rattle.crash_safety_laws.proofs.ChangeViews.{plan-told}
use Rattle.crash_safety_laws.proofs.ChangeSafe.{safe-change}
use Rattle.crash_safety_laws.proofs.KeptSafe.{told-plan, steady-right}
use Rattle.crash_safety_laws.proofs.FitKinds.{taking-is-fit, taking-live, dropping-is-fit, dropping-live}
use Rattle.crash_safety_laws.proofs.crash_views_Stands.{flushed-right}
use Rattle.crash_safety_laws.proofs.PlacedLess.{placed-less-right}

-- more are missing where more tests pass, below a bound
more-below : (n : ℕ) (f g : ℕ → Bool) → ((j : ℕ) → j < n → f j ≡ true → g j ≡ true) → count_below n f ≤ count_below n g
unfolding count_below
more-below zero f g implied = omega arith
more-below (suc n) f g implied = of (f n) (g n) refl refl (more-below n f g (λ j lt. implied j (omega (arith, lt))))
  where
    of : (a b : Bool) → f n ≡ a → g n ≡ b → count_below n f ≤ count_below n g → count_below n f + cond a 1 0 ≤ count_below n g + cond b 1 0
    of true true one two r = omega (arith, r)
    of true false one two r = absurd (let here = implied n (omega arith) one in let both = sym here ∙ two in cc)
    of false true one two r = omega (arith, r)
    of false false one two r = omega (arith, r)

module _ (scope : Scope) (old : Members) (change : Change) (lost : ℕ) (begins : IsBeginning old change) where
  abbrev Plan : Members
  Plan = planned_view old change lost

  abbrev disks : ℕ
  disks = (shape_of old.newest).disks

  says : SaysSame change.shared (planned_newest change.shared old.newest)
  says = says-shared old change

  -- ---- the roles of the old shape

  -- a slot that holds one held it
  kept-role : (g : Give) (t r : ℕ) → give_of change.gives t ≡ g → r < disks → planned_role old.roles g t ≡ Some r → (g ≡ Same) × (holder (get_or old.roles r Missing) ≡ Some t)
  kept-role Same t r is lt has = (refl, role-holder t old.roles r has)
  kept-role (give.Role other recovery) t r is lt has = absurd (
      let same : other ≡ r = (let both : ◌≡◌ {A = Option ℕ} (Some other) (Some r) = has in cc) in
      let past = begins.fresh t other recovery is in
      omega (arith, same, past, lt)
      )
  kept-role Spare t r is lt has = absurd (cc)

  state-or : (r : ℕ) → r < disks → (role_state (reading_of Plan) r ≡ role_state (reading_of old) r) ⊎ (role_state (reading_of Plan) r ≡ Missing)
  state-or r lt = elim (cases_lt r (role_count change.shared)) [
    | inl below ↦ (
        let here = get_or-tabulate (role_count change.shared) (planned_state old.roles change.gives lost) r Missing below in
        elim (of (least_below 32 (is_planned_holder old.roles change.gives lost r)) refl) [ inl is ↦ inl (here ∙ is) | inr gone ↦ inr (here ∙ gone) ])
    | inr past ↦ inr (get_or_past (tabulate (role_count change.shared) (planned_state old.roles change.gives lost)) r Missing
        (let long = length-tabulate (role_count change.shared) (planned_state old.roles change.gives lost) in omega (arith, past, long)))
  ]
    where
      at : (o : Option ℕ) → Role
      at o = option_map_or (λ slot. held_state (get_or old.roles r Missing) (give_of change.gives slot) slot) o Missing

      of : (o : Option ℕ) → least_below 32 (is_planned_holder old.roles change.gives lost r) ≡ o
          → (planned_state old.roles change.gives lost r ≡ get_or old.roles r Missing) ⊎ (planned_state old.roles change.gives lost r ≡ Missing)
      of None e = inr (ap at e)
      of (Some t) e =
          let found = found-passes 32 (is_planned_holder old.roles change.gives lost r) t e in
          let parts = kept-and (has_slot lost t) (is_same r (planned_role old.roles (give_of change.gives t) t)) found.1 in
          let has = same-role r (planned_role old.roles (give_of change.gives t) t) parts.1 in
          inl (ap at e ∙ ap (λ (g : Give). held_state (get_or old.roles r Missing) g t) (kept-role (give_of change.gives t) t r refl lt has).0)

  small : (r t : ℕ) → holder (role_state (reading_of Plan) r) ≡ Some t → t < 32
  small r t held = elim (cases_lt r (role_count change.shared)) [
    | inl below ↦ (planned-holds old.roles change.gives lost r t (ap holder (sym (get_or-tabulate (role_count change.shared) (planned_state old.roles change.gives lost) r Missing below)) ∙ held)).0
    | inr past ↦ absurd (
        let none = get_or_past (tabulate (role_count change.shared) (planned_state old.roles change.gives lost)) r Missing
        (let long = length-tabulate (role_count change.shared) (planned_state old.roles change.gives lost) in omega (arith, past, long)) in
        let clash = sym held ∙ ap holder none in cc
        )
  ]

  offset-plan : (t : ℕ) → t < 32 → data_offset_of (reading_of Plan) t ≡ data_offset_of (reading_of old) t
  offset-plan t lt = ap (λ (o : Option Sb). option_map_or (λ sb. sb.data_offset) o 0) (get_or-tabulate 32 (λ slot. option_map (with_give (give_of change.gives slot)) (own_in old.own slot)) t None lt)
      ∙ of (give_of change.gives t) (own_in old.own t)
    where
      of : (g : Give) (o : Option Sb) → option_map_or (λ (sb : Sb). sb.data_offset) (option_map (with_give g) o) 0 ≡ option_map_or (λ (sb : Sb). sb.data_offset) o 0
      of g None = refl
      of Same (Some sb) = refl
      of (give.Role r None) (Some sb) = refl
      of (give.Role r (Some offset)) (Some sb) = refl
      of Spare (Some sb) = refl

  -- while a reshape is active, a recovering slot has no rows
  held-plan : (r row t : ℕ) → r < disks → held_slot (reading_of Plan) r row ≡ Some t → held_slot (reading_of old) r row ≡ Some t
  held-plan r row t lt is = elim (state-or r lt) [
    | inl same ↦ (
        let there : held_by Plan (role_state (reading_of old) r) ≡ Some t = sym (ap (held_by Plan) same) ∙ is in
        by (role_state (reading_of old) r) there)
    | inr gone ↦ absurd (let clash = sym (holder-of (reading_of Plan) r row t is) ∙ ap holder gone in cc)
  ]
    where
      held_by : Members → Role → Option ℕ
      held_by m state = cond (nat_lt row (rows_held (reading_of m) state)) (holder state) None

      by : (state : Role) → held_by Plan state ≡ Some t → held_by old state ≡ Some t
      by (Whole u) e = ap (λ (n : ℕ). cond (nat_lt row n) (Some u) None) (sym begins.taking.size) ∙ e
      by Missing e = absurd (let none = ap (λ (b : Bool). cond {A = Option ℕ} b None None) (no row) in let clash = sym e ∙ none in cc)
        where
          no : (row : ℕ) → nat_lt row 0 ≡ false
          no row = grind (arith, nat_tests)
      by (Recovering u) e = absurd (
          let active : is_reshaping Plan.newest ≡ true = sym says.reshaping ∙ begins.active in
          let none : rows_held (reading_of Plan) (Recovering u) ≡ 0 = ap (λ (b : Bool). cond b 0 (rest u)) active in
          let clash = sym e ∙ ap (λ (n : ℕ). cond (nat_lt row n) (Some u) None) none ∙ ap (λ (b : Bool). cond b (Some u) None) (no row) in cc
          )
        where
          rest : ℕ → ℕ
          rest u = option_map_or (λ (sb : Sb). sb.recovery_offset) (get_or Plan.own u None) 0

          no : (row : ℕ) → nat_lt row 0 ≡ false
          no row = grind (arith, nat_tests)

  still-missing : (r : ℕ) → r < disks → is_missing (reading_of old) r ≡ true → is_missing (reading_of Plan) r ≡ true
  still-missing r lt gone = elim (state-or r lt) [
    | inl same ↦ ap (λ (s : Role). not (is_whole s)) same ∙ gone
    | inr none ↦ ap (λ (s : Role). not (is_whole s)) none
  ]

  -- ---- the list

  plan-shape : shape_of Plan.newest ≡ shape_of old.newest
  plan-shape = sym (shape-alike change.shared Plan.newest says) ∙ begins.shape

  one-shape : final_shape old.newest ≡ shape_of old.newest
  one-shape = ap (λ (b : Bool). unwrap_or (cond b (Some (record { level = old.newest.new_level; layout = old.newest.new_layout; chunk = old.newest.new_chunk; disks = old.newest.raid_disks })) None) (shape_of old.newest)) begins.still

  shapes-same : (x : ℕ) → x < list_length Plan.newest → shape_for Plan.newest x ≡ shape_for old.newest x
  shapes-same x lt =
      sym (placing-alike change.shared Plan.newest says x)
      ∙ (ends-place change.shared x begins.active (let same = length-alike change.shared Plan.newest says in omega (arith, lt, same))).0 begins.start
      ∙ begins.shape ∙ sym (still-for (is_reshaping old.newest) refl begins.still)
    where
      still-for : (b : Bool) → is_reshaping old.newest ≡ b → b ≡ false → shape_for old.newest x ≡ shape_of old.newest
      still-for true e none = absurd (cc)
      still-for false e none = ap (λ (b : Bool). cond b (shape_if x) (shape_of old.newest)) e
        where
          shape_if : ℕ → Shape
          shape_if x = shape_at old.newest (side (is_backward old.newest) old.newest.reshape_position x)

  shorter : list_length Plan.newest ≤ list_length old.newest
  shorter =
      let same = length-alike change.shared Plan.newest says in
      let less : min (data_disks (shape_of change.shared)) (data_disks (final_shape change.shared)) * change.shared.size ≤ data_disks (shape_of change.shared) * change.shared.size = mul-le-mul_right change.shared.size (omega arith) in
      let first : data_disks (shape_of change.shared) * change.shared.size ≡ data_disks (shape_of old.newest) * old.newest.size = ap₂ (λ (s : Shape) (n : ℕ). data_disks s * n) begins.shape begins.taking.size in
      let whole : list_length old.newest ≡ data_disks (shape_of old.newest) * old.newest.size = ap (λ (s : Shape). min (data_disks (shape_of old.newest)) (data_disks s) * old.newest.size) one-shape
      ∙ ap (λ (n : ℕ). n * old.newest.size) (min-same (data_disks (shape_of old.newest))) in
      omega (arith, same, less, first, whole)
    where
      min-same : (n : ℕ) → min n n ≡ n
      min-same n = grind (arith, nat_tests)

  pub begun-less : (d : Disk) → AreShapesFit (planned_view old change lost).newest → IsCleared scope d → IsPlacedLess scope old (planned_view old change lost) d
  begun-less d fit cleared = record {
    within = shorter;
    shapes = shapes-same;
    held = λ x r row t lt below is. held-plan r row t (under x r lt below) is;
    offsets = λ x r row t lt below is. offset-plan t (small r t (holder-of (reading_of Plan) r row t is));
    opened = λ header may. (cleared-plain scope Plan d cleared).0 header may ∙ sym (ap (λ (w : Option Span). section_for scope (λ s k. header) scope.backup w) no-window ∙ no-section header);
    clean = sym (ap (λ (n : ℕ). is_clean (record old.newest { resync_offset = n })) (sym begins.clean));
    does = λ few. record {
      old = tolerated few.old;
      final = subst (IsTolerated (reading_of old)) (sym one-shape) (tolerated few.old);
    };
    headers = λ active fits. (cleared-plain scope Plan d cleared).1;
    tails = λ x tail. absurd (starts-untailed Plan.newest fit
        (sym says.reshape_position ∙ begins.start ∙ (λ i. cond (says.backward i) (length-alike change.shared Plan.newest says i) 0)) x tail);
  }
    where
      under : (x r : ℕ) → x < list_length Plan.newest → r < (shape_for Plan.newest x).disks → r < disks
      under x r lt below =
          let same : (shape_for Plan.newest x).disks ≡ disks = ap (λ (s : Shape). s.disks) (shapes-same x lt ∙ still-for) in
          omega (arith, below, same)
        where
          still-for : shape_for old.newest x ≡ shape_of old.newest
          still-for = ap (λ (b : Bool). cond b (shape_at old.newest (side (is_backward old.newest) old.newest.reshape_position x)) (shape_of old.newest)) begins.still

      no-window : next_window old.newest ≡ None
      no-window = ap (λ (b : Bool). cond b (window (shape_of old.newest) (final_shape old.newest) old.newest.size (is_backward old.newest) old.newest.reshape_position) None) begins.still

      no-section : (header : Sector) → section_for scope (λ s k. header) scope.backup None ≡ None
      no-section header = of scope.backup
        where
          of : (b : Option ℕ) → section_for scope (λ s k. header) b None ≡ None
          of None = refl
          of (Some backup) = refl

      tolerated : IsTolerated (reading_of Plan) (shape_of Plan.newest) → IsTolerated (reading_of old) (shape_of old.newest)
      tolerated few =
          let few' : IsTolerated (reading_of Plan) (shape_of old.newest) = subst (IsTolerated (reading_of Plan)) plan-shape few in
          let le = more-below disks (is_missing (reading_of old)) (is_missing (reading_of Plan)) still-missing in
          omega (arith, few', le)

-- ---- it keeps the array safe

pub begin-safe : (sound : Type 0) → BeginStaysSafe sound
begin-safe sound scope given told more change old new before after m begins room placed cleared tells gone-old gone carried now =
    safe-change sound scope given told more change old new before after m begins.taking.none (taking-live old change begins.taking) room (λ steady. (
    let fit = taking-is-fit scope steady.former old change (disk given.start before) steady.since begins.taking in
    let old-right = steady-right sound scope given told old (disk given.start before) steady gone-old in
    let told-end = told-plan more given change old new before after m gone in
    record {
      fit = fit;
      right = placed-less-right sound scope given told more old (planned_view old change old.lost) (disk given.start before) (begun-less scope old change old.lost begins (disk given.start before) placed.fit cleared) placed
          (plan-told scope given old change placed fit.one_holder more old.lost new.lost (λ s is. is) m.stay told-end) tells old-right;
      gone = told-end;
      carried = carried;
    })) now

-- ---- behind a flush

module _ (sound : Type 0) (scope : Scope) (given : Given) (told more : Ledger) (change : Change) (old new : Members) (before after : List Operation) (c : Contents) (list : ℕ → Sector)
    (m : IsChanged ⊤ given change old new before after) (gone : AreGoneTold more new) (carried : (slot number : ℕ) → told.carried slot number ≡ true → more.carried slot number ≡ true)
    (flushed : IsSteady sound scope given told old (disk given.start before) → IsFlushedRight sound scope given more (planned_view old change old.lost) c list (disk given.start before)) where
  flushed-safe : (IsSteady sound scope given told old (disk given.start before) → IsFitUpdate old change) → IsSteady sound scope given told old (disk given.start before)
      → IsPlannedSafe sound scope given told more change old new (disk given.start before)
  flushed-safe fits steady = record {
    fit = fits steady;
    right = flushed-right sound scope given more (planned_view old change old.lost) c list (disk given.start before) (flushed steady);
    gone = told-plan more given change old new before after m gone;
    carried = carried;
  }

pub flushed-change-safe : (sound : Type 0) → FlushedChangeStaysSafe sound
flushed-change-safe sound scope given told more change old new before after c list m kind room gone carried flushed now = ⊎_elim
    (λ taking. safe-change sound scope given told more change old new before after m taking.none (taking-live old change taking) room
    (flushed-safe sound scope given told more change old new before after c list m gone carried flushed (λ steady. taking-is-fit scope steady.former old change (disk given.start before) steady.since taking)) now)
    (λ dropping. safe-change sound scope given told more change old new before after m dropping.none (dropping-live old change dropping) room
    (flushed-safe sound scope given told more change old new before after c list m gone carried flushed (λ steady. dropping-is-fit scope steady.former old change (disk given.start before) steady.since dropping)) now)
    kind
