-- The update that gives a vacant role to a spare, from the first row on, keeps an array safe.
use Rattle.std.proofs.Common.{◌≡◌, ◌≢◌, ◌⊎◌, inl, inr, ℕ, ◌<◌, ◌≤◌, ◌||◌, Bool, true, false, not, cond, nat_lt, List, length, get_or, replicate, le_refl, Option, Some, None, option_map, refl, sym, ◌∙◌, ap, ap₂, subst, arith}
use Rattle.std.specs.Prelude.{⊤}
use Rattle.std.specs.List.{list_any}
use Rattle.std.specs.Option.{option_map_or}
use Rattle.std.proofs.lemmas.Bool.{cases_eq, cases_lt}
use Rattle.std.proofs.lemmas.Bool.Decides.{nat_tests}
use Rattle.std.proofs.lemmas.List.{length-replicate, get_or-set_same, get_or-set_other, get_or_past}
use Rattle.crash_safety_laws.specs.raid_types_Search.{tabulate, least_below}
use Rattle.crash_safety_laws.specs.raid_types_the_Shape.{Shape}
use Rattle.crash_safety_laws.specs.raid_types_the_Span.{Span}
use Rattle.crash_safety_laws.specs.raid_types_the_Role.{Role}
use Rattle.crash_safety_laws.specs.raid_types_the_Role_TheVariants.{Whole, Recovering, Missing}
use Rattle.crash_safety_laws.proofs.raid_types_Tabulated.{length-tabulate, get_or-tabulate}
use Rattle.crash_safety_laws.specs.sb_codec_the_Sb.{Sb}
use Rattle.crash_safety_laws.specs.bank_the_Operation.{Operation}
use Rattle.crash_safety_laws.specs.bank_Given.{Given}
use Rattle.crash_safety_laws.specs.bank_Tape.{disk}
use Rattle.crash_safety_laws.specs.sb_specs_the_Give.{Give}
use Rattle.crash_safety_laws.specs.sb_specs_the_Give_TheVariants.{Same, Spare}
use Rattle.crash_safety_laws.specs.sb_specs_the_Give_TheVariants as give
use Rattle.crash_safety_laws.specs.sb_specs_the_Change.{Change}
use Rattle.crash_safety_laws.specs.sb_specs_the_Members.{Members}
use Rattle.crash_safety_laws.specs.sb_specs_Reading.{Scope, is_clean, is_reshaping, shape_of, final_shape, role_count, role_state, rows_held, holder, is_whole, data_offset_of}
use Rattle.crash_safety_laws.specs.sb_specs_Reads.{has_spare}
use Rattle.crash_safety_laws.specs.sb_specs_Update.{with_give, give_of, own_in, is_recovery, planned_role, is_held_by}
use Rattle.crash_safety_laws.specs.sb_specs_Outcome.{is_in_update, is_planned_holder, held_state, planned_state, AreGivesOfLive}
use Rattle.crash_safety_laws.proofs.sb_read_laws_SaidLists.{role-holder}
use Rattle.crash_safety_laws.proofs.sb_read_laws_SaidSlots.{spare-known}
use Rattle.crash_safety_laws.specs.stripe_row_Rows.{reading_of, is_missing, held_slot, IsTolerated, IsHolder}
use Rattle.crash_safety_laws.proofs.stripe_row_Losses.{holder-of}
use Rattle.crash_safety_laws.specs.history_ActiveSection.{section_for}
use Rattle.crash_safety_laws.specs.crash_views_Regions.{ArePlaced}
use Rattle.crash_safety_laws.specs.crash_views_Views.{Disk, Ledger, IsViewRight}
use Rattle.crash_safety_laws.specs.Updates.{planned_view}
use Rattle.crash_safety_laws.specs.Steady.{AreGoneTold, IsSteady}
use Rattle.crash_safety_laws.specs.Changing.{IsChanged, IsFitUpdate, IsPlannedSafe}
use Rattle.crash_safety_laws.specs.Kinds.{IsTaking}
use Rattle.crash_safety_laws.specs.Giving.{IsPlacedLess, IsReceiver, GivingStaysSafe}
use Rattle.crash_safety_laws.specs.Marking.{giving}
use Rattle.crash_safety_laws.proofs.crash_views_Alike.{shape-alike, final-alike, length-alike, window-alike, placing-alike}
use Rattle.crash_safety_laws.proofs.LessViews.{more-pass, header-alike, tail-alike}
use Rattle.crash_safety_laws.proofs.PlannedRoles.{says-shared, count-planned, planned-holds}
use Rattle.crash_safety_laws.proofs.ChangeViews.{plan-told}
use Rattle.crash_safety_laws.proofs.ChangeSafe.{safe-change, one-stretch}
use Rattle.crash_safety_laws.proofs.Stretch.{seen-own}
use Rattle.crash_safety_laws.proofs.Kept.{give_of-same}
use Rattle.crash_safety_laws.proofs.KeptSafe.{planned-fits, planned-backup, told-plan, steady-right, steady-count}
use Rattle.crash_safety_laws.proofs.FitKinds.{taking-is-fit}
use Rattle.crash_safety_laws.proofs.PlacedLess.{placed-less-right}

module _ (scope : Scope) (given : Given) (old : Members) (role slot : ℕ) (to : IsReceiver given old role slot) where
  abbrev change : Change
  change = giving old slot role (Some 0)

  give-here : give_of change.gives slot ≡ give.Role role (Some 0)
  give-here = get_or-set_same (replicate 32 Same) slot (give.Role role (Some 0)) Same (let long = length-replicate 32 Same in let small = to.room.small in omega (arith, small, long))

  give-other : (s : ℕ) → s ≢ slot → give_of change.gives s ≡ Same
  give-other s apart = get_or-set_other (replicate 32 Same) slot s (give.Role role (Some 0)) Same apart ∙ give_of-same 32 s

  -- ---- the change is fit

  is-given : (s r : ℕ) (recovery : Option ℕ) → give_of change.gives s ≡ give.Role r recovery → s ≡ slot
  is-given s r recovery is = elim (cases_eq s slot) [ inl same ↦ same | inr apart ↦ absurd (let clash : ◌≡◌ {A = Give} Same (give.Role r recovery) = sym (give-other s apart) ∙ is in cc) ]

  recovers : (s : ℕ) → is_recovery (give_of change.gives s) ≡ true → s ≡ slot
  recovers s is = elim (cases_eq s slot) [ inl same ↦ same | inr apart ↦ absurd (let none = ap is_recovery (give-other s apart) in let clash = sym none ∙ is in cc) ]

  taking : IsTaking old change
  taking = record {
    none = refl;
    size = refl;
    count = le_refl (role_count old.newest);
    each = λ s. elim (cases_eq s slot) [
      | inl same ↦ inr (inl (role, Some 0, ap (give_of change.gives) same ∙ give-here, ap (has_spare old.spares) same ∙ to.spare, to.below, λ t kept. to.vacant t))
      | inr apart ↦ inl (give-other s apart)
    ];
    apart = λ s t r a b is is'. is-given s r a is ∙ sym (is-given t r b is');
    one = λ s t is is'. recovers s is ∙ sym (recovers t is');
  }

  -- ---- the view that is planned

  module _ (lost : ℕ) (count : length old.roles ≡ role_count old.newest) where
    abbrev Plan : Members
    Plan = planned_view old change lost

    -- who holds a role: its former holder, or the slot the given one
    holds : (r t : ℕ) → holder (role_state (reading_of Plan) r) ≡ Some t → (t < 32) × (((t ≡ slot) × (r ≡ role)) ⊎ ((t ≢ slot) × (r ≢ role) × (holder (role_state (reading_of old) r) ≡ Some t)))
    holds r t held = elim (cases_lt r (role_count old.newest)) [
      | inl below ↦
          let p = planned-holds old.roles change.gives lost r t (ap holder (sym (get_or-tabulate (role_count old.newest) (planned_state old.roles change.gives lost) r Missing below)) ∙ held) in (
            p.0,
            elim (cases_eq t slot) [
              | inl same ↦ inl (same, (let both : ◌≡◌ {A = Option ℕ} (Some role) (Some r) = sym (ap (λ (g : Give). planned_role old.roles g t) (ap (give_of change.gives) same ∙ give-here)) ∙ p.2 in (let e : role ≡ r = cc in sym e)))
              | inr apart ↦ (
                  let was = role-holder t old.roles r (sym (ap (λ (g : Give). planned_role old.roles g t) (give-other t apart)) ∙ p.2) in
                  inr (apart, (λ same. to.vacant t (subst (λ (k : ℕ). holder (get_or old.roles k Missing) ≡ Some t) same was)), was))
            ],
          )
      | inr past ↦ absurd (
          let none = get_or_past (tabulate (role_count old.newest) (planned_state old.roles change.gives lost)) r Missing
          (let long = length-tabulate (role_count old.newest) (planned_state old.roles change.gives lost) in omega (arith, past, long)) in
          let clash = sym held ∙ ap holder none in cc
          )
    ]

    -- a role is what it was, or missing, or the one that is given
    state-or : (r : ℕ) → (role_state (reading_of Plan) r ≡ role_state (reading_of old) r) ⊎ ((role_state (reading_of Plan) r ≡ Missing) ⊎ (role_state (reading_of Plan) r ≡ Recovering slot))
    state-or r = elim (cases_lt r (role_count old.newest)) [
      | inl below ↦ (
          let here = get_or-tabulate (role_count old.newest) (planned_state old.roles change.gives lost) r Missing below in
          elim (planned-or r) [ inl is ↦ inl (here ∙ is) | inr (inl is) ↦ inr (inl (here ∙ is)) | inr (inr is) ↦ inr (inr (here ∙ is)) ])
      | inr past ↦ inr (inl (get_or_past (tabulate (role_count old.newest) (planned_state old.roles change.gives lost)) r Missing
          (let long = length-tabulate (role_count old.newest) (planned_state old.roles change.gives lost) in omega (arith, past, long))))
    ]
      where
        planned-or : (r : ℕ) → (planned_state old.roles change.gives lost r ≡ get_or old.roles r Missing) ⊎ ((planned_state old.roles change.gives lost r ≡ Missing) ⊎ (planned_state old.roles change.gives lost r ≡ Recovering slot))
        planned-or r = of (least_below 32 (is_planned_holder old.roles change.gives lost r)) refl
          where
            at : (o : Option ℕ) → Role
            at o = option_map_or (λ slot. held_state (get_or old.roles r Missing) (give_of change.gives slot) slot) o Missing

            of : (o : Option ℕ) → least_below 32 (is_planned_holder old.roles change.gives lost r) ≡ o
                → (planned_state old.roles change.gives lost r ≡ get_or old.roles r Missing) ⊎ ((planned_state old.roles change.gives lost r ≡ Missing) ⊎ (planned_state old.roles change.gives lost r ≡ Recovering slot))
            of None e = inr (inl (ap at e))
            of (Some t) e = elim (cases_eq t slot) [
              | inl same ↦ inr (inr (ap at e ∙ ap (λ (g : Give). held_state (get_or old.roles r Missing) g t) (ap (give_of change.gives) same ∙ give-here) ∙ ap (λ (n : ℕ). Recovering n) same))
              | inr apart ↦ inl (ap at e ∙ ap (λ (g : Give). held_state (get_or old.roles r Missing) g t) (give-other t apart))
            ]

    -- ---- what slots have

    own-plan : (t : ℕ) → t < 32 → get_or (tabulate 32 (λ slot. option_map (with_give (give_of change.gives slot)) (own_in old.own slot))) t None ≡ option_map (with_give (give_of change.gives t)) (own_in old.own t)
    own-plan t lt = get_or-tabulate 32 (λ slot. option_map (with_give (give_of change.gives slot)) (own_in old.own slot)) t None lt

    offset-plan : (t : ℕ) → t < 32 → data_offset_of (reading_of Plan) t ≡ data_offset_of (reading_of old) t
    offset-plan t lt = ap (λ (o : Option Sb). option_map_or (λ sb. sb.data_offset) o 0) (own-plan t lt) ∙ of (give_of change.gives t) (own_in old.own t)
      where
        of : (g : Give) (o : Option Sb) → option_map_or (λ (sb : Sb). sb.data_offset) (option_map (with_give g) o) 0 ≡ option_map_or (λ (sb : Sb). sb.data_offset) o 0
        of g None = refl
        of Same (Some sb) = refl
        of (give.Role r None) (Some sb) = refl
        of (give.Role r (Some offset)) (Some sb) = refl
        of Spare (Some sb) = refl

    -- the given role has no rows
    no-rows : rows_held (reading_of Plan) (Recovering slot) ≡ 0
    no-rows = ap (λ (n : ℕ). cond (is_reshaping Plan.newest) 0 n) (
        ap (λ (o : Option Sb). option_map_or (λ sb. sb.recovery_offset) o 0) (own-plan slot to.room.small ∙ ap (λ (g : Give). option_map (with_give g) (own_in old.own slot)) give-here) ∙ none (own_in old.own slot)
        ) ∙ both (is_reshaping Plan.newest)
      where
        none : (o : Option Sb) → option_map_or (λ (sb : Sb). sb.recovery_offset) (option_map (with_give (give.Role role (Some 0))) o) 0 ≡ 0
        none None = refl
        none (Some sb) = refl

        both : (b : Bool) → ◌≡◌ {A = ℕ} (cond b 0 0) 0
        both true = refl
        both false = refl

    -- and the others as many as before
    rows-plan : (state : Role) → ((t : ℕ) → holder state ≡ Some t → (t < 32) × (t ≢ slot)) → rows_held (reading_of Plan) state ≡ rows_held (reading_of old) state
    rows-plan (Whole t) other = refl
    rows-plan Missing other = refl
    rows-plan (Recovering t) other = ap₂ (λ (active : Bool) (n : ℕ). cond active 0 n) (sym (says-shared old change).reshaping)
        (ap (λ (o : Option Sb). option_map_or (λ sb. sb.recovery_offset) o 0) (own-plan t (other t refl).0 ∙ ap (λ (g : Give). option_map (with_give g) (own_in old.own t)) (give-other t (other t refl).1) ∙ no-change (own_in old.own t)))
      where
        no-change : (o : Option Sb) → option_map (with_give Same) o ≡ o
        no-change None = refl
        no-change (Some sb) = refl

    -- ---- it places the list as before

    held-plan : (r row t : ℕ) → held_slot (reading_of Plan) r row ≡ Some t → held_slot (reading_of old) r row ≡ Some t
    held-plan r row t is =
        let held = holder-of (reading_of Plan) r row t is in
        elim (state-or r) [
          | inl same ↦ (
              let rows : rows_held (reading_of Plan) (role_state (reading_of Plan) r) ≡ rows_held (reading_of old) (role_state (reading_of old) r) =
              rows-plan (role_state (reading_of Plan) r) (λ u h. elim (holds r u h).1 [
                | inl (here, role-is) ↦ absurd (to.vacant u (subst (λ (k : ℕ). holder (get_or old.roles k Missing) ≡ Some u) role-is (ap holder (sym same) ∙ h)))
                | inr (apart, other, was) ↦ ((holds r u h).0, apart)
              ]) ∙ ap (rows_held (reading_of old)) same in
              ap₂ (λ (n : ℕ) (s : Role). cond (nat_lt row n) (holder s) None) (sym rows) (sym same) ∙ is)
          | inr (inl gone) ↦ absurd (let clash = sym held ∙ ap holder gone in cc)
          | inr (inr given_is) ↦ absurd (
              let none : held_slot (reading_of Plan) r row ≡ None = ap (λ (s : Role). cond (nat_lt row (rows_held (reading_of Plan) s)) (holder s) None) given_is ∙ ap (λ (n : ℕ). cond (nat_lt row n) (Some slot) None) no-rows ∙ never row in
              let clash = sym is ∙ none in cc
              )
        ]
      where
        never : (row : ℕ) → cond (nat_lt row 0) (Some slot) None ≡ None
        never row = ap (λ (b : Bool). cond b (Some slot) None) (no row)
          where
            no : (row : ℕ) → nat_lt row 0 ≡ false
            no row = grind (arith, nat_tests)

    still-missing : (r : ℕ) → is_missing (reading_of old) r ≡ true → is_missing (reading_of Plan) r ≡ true
    still-missing r gone = elim (state-or r) [
      | inl same ↦ ap (λ (s : Role). not (is_whole s)) same ∙ gone
      | inr (inl none) ↦ ap (λ (s : Role). not (is_whole s)) none
      | inr (inr is) ↦ ap (λ (s : Role). not (is_whole s)) is
    ]

    tolerated : (shape shape' : Shape) → shape ≡ shape' → IsTolerated (reading_of Plan) shape' → IsTolerated (reading_of old) shape
    tolerated shape shape' same few =
        let few' : IsTolerated (reading_of Plan) shape = subst (IsTolerated (reading_of Plan)) (sym same) few in
        let le = more-pass shape.disks (is_missing (reading_of old)) (is_missing (reading_of Plan)) still-missing in
        omega (arith, few', le)

    pub places-less : (d : Disk) → IsPlacedLess scope old (planned_view old (giving old slot role (Some 0)) lost) d
    places-less d =
        let says = says-shared old change in
        record {
          within = (let same = length-alike old.newest Plan.newest says in omega (arith, same));
          shapes = λ x lt. sym (placing-alike old.newest Plan.newest says x);
          held = λ x r row t lt below is. held-plan r row t is;
          offsets = λ x r row t lt below is. offset-plan t (holds r t (holder-of (reading_of Plan) r row t is)).0;
          opened = λ header may. ap (λ (w : Option Span). section_for scope (λ s k. header) scope.backup w) (sym (window-alike old.newest Plan.newest says));
          clean = sym (ap (λ (n : ℕ). is_clean (record old.newest { resync_offset = n })) says.resync_offset);
          does = λ few. record {
            old = tolerated (shape_of old.newest) (shape_of Plan.newest) (shape-alike old.newest Plan.newest says) few.old;
            final = tolerated (final_shape old.newest) (final_shape Plan.newest) (final-alike old.newest Plan.newest says) few.final;
          };
          headers = λ active fits backup header here may. header-alike scope old.newest Plan.newest says header (fits (says.reshaping ∙ active) backup header here may);
          tails = λ x tail. (tail-alike old.newest Plan.newest says x tail, sym (final-alike old.newest Plan.newest says));
        }

    pub given-placed : (scope.backup ≡ Some slot → ⊥) → ArePlaced scope given old → ArePlaced scope given (planned_view old (giving old slot role (Some 0)) lost)
    given-placed own placed = record {
      fit = planned-fits old change placed.fit;
      roles = length-tabulate (role_count old.newest) (planned_state old.roles change.gives lost) ∙ count-planned old change;
      holders = λ r t held. (
          let h = holds r t held in
          let off = offset-plan t h.0 in
          let size = (says-shared old change).size in
          elim h.1 [
            | inl (same, role-is) ↦ (
                let k = subst (IsHolder given (reading_of old)) (sym same) to.room in
                let within = k.within in
                record { small = k.small; known = k.known; short = k.short; within = omega (arith, off, size, within) })
            | inr (apart, other, was) ↦ (
                let k = placed.holders r t was in
                let within = k.within in
                record { small = k.small; known = k.known; short = k.short; within = omega (arith, off, size, within) })
          ]);
      behind = λ r t held. (
          let h = holds r t held in
          let off = offset-plan t h.0 in
          elim h.1 [
            | inl (same, role-is) ↦ (let b = subst (λ (k : ℕ). 10 ≤ data_offset_of (reading_of old) k) (sym same) to.behind in omega (arith, b, off))
            | inr (apart, other, was) ↦ (let b = placed.behind r t was in omega (arith, b, off))
          ]);
      members_own = λ r t held is. elim (holds r t held).1 [
        | inl (same, role-is) ↦ own (is ∙ ap (λ (n : ℕ). Some n) same)
        | inr (apart, other, was) ↦ placed.members_own r t was is
      ];
      apart = λ a b t one two. elim (holds a t one).1 [
        | inl (same, role-is) ↦ elim (holds b t two).1 [ inl (same', role-is') ↦ role-is ∙ sym role-is' | inr (apart', other', was') ↦ absurd (apart' same) ]
        | inr (apart, other, was) ↦ elim (holds b t two).1 [ inl (same', role-is') ↦ absurd (apart same') | inr (apart', other', was') ↦ placed.apart a b t was was' ]
      ];
      backup = planned-backup scope old change placed.backup;
    }

-- ---- it keeps the array safe

module _ (sound : Type 0) (scope : Scope) (given : Given) (told : Ledger) (role slot : ℕ) (old new : Members) (before after : List Operation)
    (m : IsChanged ⊤ given (giving old slot role (Some 0)) old new before after) (to : IsReceiver given old role slot) (gone : AreGoneTold told new)
    (steady : IsSteady sound scope given told old (disk given.start before)) where
  abbrev Change' : Change
  Change' = giving old slot role (Some 0)

  fit : IsFitUpdate old (giving old slot role (Some 0))
  fit = taking-is-fit scope steady.former old Change' (disk given.start before) steady.since (taking scope given old role slot to)

  count : length old.roles ≡ role_count old.newest
  count = steady-count sound scope given told old (disk given.start before) steady

  told-end : AreGoneTold told (planned_view old (giving old slot role (Some 0)) new.lost)
  told-end = told-plan told given Change' old new before after m gone

  told-old : AreGoneTold told old
  told-old r lt missing = told-end r (let plan = count-planned old Change' in omega (arith, lt, plan)) (still-missing scope given old role slot to new.lost count r missing)

  old-right : IsViewRight sound scope given told old (disk given.start before)
  old-right = steady-right sound scope given told old (disk given.start before) steady told-old

  -- a spare is looked at, so it isn't the backup
  own : scope.backup ≡ Some slot → ⊥
  own is =
      let held = steady.since.held in
      let spare : has_spare steady.former.spares slot ≡ true = ap (λ (o : Members). has_spare o.spares slot) (sym steady.since.since) ∙ to.spare in
      let seen = (held.updated.held.each slot (spare-known scope held.known steady.former held.said slot spare)).seen in
      seen-own scope slot seen is

  placed : ArePlaced scope given (planned_view old (giving old slot role (Some 0)) old.lost)
  placed = given-placed scope given old role slot to old.lost count own old-right.placed

  safe : IsPlannedSafe sound scope given told told (giving old slot role (Some 0)) old new (disk given.start before)
  safe = record {
    fit = fit;
    right = placed-less-right sound scope given told told old (planned_view old Change' old.lost) (disk given.start before) (places-less scope given old role slot to old.lost count (disk given.start before)) placed
        (plan-told scope given old Change' placed fit.one_holder told old.lost new.lost (λ s is. is) m.stay told-end)
        (record {
          sized = sym (length-alike old.newest (planned_view old Change' old.lost).newest (says-shared old Change')) ∙ old-right.sized;
          values = λ x lt v is. is;
          sections = λ header may span active x low high v is. is;
          unclean = λ is. is;
          reshaping = λ active. old-right.reshaping ((says-shared old Change').reshaping ∙ active);
        }) old-right;
    gone = told-end;
    carried = λ slot number is. is;
  }

gives-live : (scope : Scope) (given : Given) (old : Members) (role slot : ℕ) → IsReceiver given old role slot → AreGivesOfLive old (giving old slot role (Some 0))
gives-live scope given old role slot to s isnt = elim (cases_eq s slot) [
  | inl same ↦ absurd (
      let live : is_in_update old (giving old slot role (Some 0)) s ≡ true = joined (list_any (is_held_by s) old.roles) (has_spare old.spares s) (ap (has_spare old.spares) same ∙ to.spare) in
      let both = sym isnt ∙ live in cc
      )
  | inr apart ↦ give-other scope given old role slot to s apart
]
  where
    joined : (a b : Bool) → b ≡ true → ((a || b) || false) ≡ true
    joined true b e = refl
    joined false true e = refl
    joined false false e = absurd (cc)

pub giving-stays-safe : (sound : Type 0) → GivingStaysSafe sound
giving-stays-safe sound scope given told role slot old new before after m to room gone now =
    one-stretch sound scope given told new before after
    (safe-change sound scope given told told (giving old slot role (Some 0)) old new before after m refl (gives-live scope given old role slot to) room
    (λ steady. safe sound scope given told role slot old new before after m to gone steady) now)
