-- The change that takes a level over is what the laws of a takeover ask for.
use Rattle.std.proofs.Common.{◌≡◌, ◌≢◌, ◌⊎◌, inl, inr, ℕ, ◌+◌, ◌-◌, ◌==◌, ◌<◌, ◌≤◌, ◌||◌, Bool, true, false, not, cond, max, replicate, length, Option, Some, None, unwrap_or, is_some, List, get_or, refl, sym, ◌∙◌, ap, subst, arith}
use Rattle.std.specs.Prelude.{pos, ◌-ℤ◌, IsTrue}
use Rattle.std.proofs.lemmas.Bool.{cases_eq, cases_lt}
use Rattle.std.proofs.lemmas.List.{length-replicate, get_or-set_same, get_or-set_other, get_or_past}
use Rattle.reshape_begin_end.specs.raid_types_Shapes.{has_slot, is_valid_shape, is_multiple}
use Rattle.reshape_begin_end.specs.raid_types_the_Shape.{Shape}
use Rattle.reshape_begin_end.specs.raid_types_the_Refusal_TheVariants.{PositionNotOnUnit}
use Rattle.reshape_begin_end.specs.raid_types_the_Role_TheVariants.{Whole, Missing}
use Rattle.reshape_begin_end.specs.bank_the_Operation.{Operation}
use Rattle.reshape_begin_end.specs.bank_Given.{Given}
use Rattle.reshape_begin_end.specs.sb_codec_the_Sb.{Sb}
use Rattle.reshape_begin_end.specs.reshape_geometry_Geometry.{is_size}
use Rattle.reshape_begin_end.proofs.raid_layout_Limits.{limited}
use Rattle.reshape_begin_end.specs.reshape_plan_Plans.{taken_up}
use Rattle.reshape_begin_end.specs.sb_specs_the_Give.{Give}
use Rattle.reshape_begin_end.specs.sb_specs_the_Give_TheVariants.{Same, Spare}
use Rattle.reshape_begin_end.specs.sb_specs_the_Give_TheVariants as give
use Rattle.reshape_begin_end.specs.sb_specs_the_Change.{Change}
use Rattle.reshape_begin_end.specs.sb_specs_the_Members.{Members}
use Rattle.reshape_begin_end.specs.sb_specs_Reading.{Scope, is_reshaping, shape_of, final_shape, role_count, list_length, role_state, holder, count_of}
use Rattle.reshape_begin_end.specs.sb_specs_Reads.{SaysSame, has_spare}
use Rattle.reshape_begin_end.specs.sb_specs_Verdict.{unit_of}
use Rattle.reshape_begin_end.specs.sb_specs_Update.{IsRoleGive, give_of, is_recovery, role_from, planned_role, is_planned_spare}
use Rattle.reshape_begin_end.specs.sb_specs_Updating.{planned_newest}
use Rattle.reshape_begin_end.specs.sb_specs_Outcome.{AreGivesOfLive}
use Rattle.reshape_begin_end.proofs.sb_specs_SlotSets.{some_role}
use Rattle.reshape_begin_end.proofs.sb_read_laws_SaidLists.{role-holder}
use Rattle.reshape_begin_end.proofs.sb_read_laws_SaidSlots.{below-length}
use Rattle.reshape_begin_end.specs.stripe_row_Rows.{reading_of}
use Rattle.reshape_begin_end.specs.crash_views_Regions.{AreShapesFit, ArePlaced}
use Rattle.reshape_begin_end.specs.crash_views_Views.{Disk}
use Rattle.reshape_begin_end.proofs.crash_views_Alike.{shape-alike}
use Rattle.reshape_begin_end.specs.crash_safety_laws_Changing.{IsChanged, IsFitUpdate}
use Rattle.reshape_begin_end.specs.crash_safety_laws_Kinds.{IsTaking, IsDropping}
use Rattle.reshape_begin_end.specs.crash_safety_laws_Rounds.{IsHeldSince}
use Rattle.reshape_begin_end.specs.crash_safety_laws_Updates.{planned_view, IsLessView, HasOneHolder}
use Rattle.reshape_begin_end.proofs.crash_safety_laws_FitKinds.{taking-is-fit, dropping-is-fit, taking-live, dropping-live}
use Rattle.reshape_begin_end.proofs.crash_safety_laws_Kept.{give_of-same}
use Rattle.reshape_begin_end.proofs.crash_safety_laws_KeptSafe.{fits-alike}
use Rattle.reshape_begin_end.proofs.crash_safety_laws_PlannedRoles.{says-shared, count-planned}
use Rattle.reshape_begin_end.proofs.crash_safety_laws_Without.{any-held}
use Rattle.reshape_begin_end.specs.crash_reshape_laws_Takeovers.{IsTakenUp, IsTakenDown}
use Rattle.reshape_begin_end.proofs.crash_reshape_laws_PlanPlaced.{planned-placed}
use Rattle.reshape_begin_end.proofs.crash_reshape_laws_PlanRoles.{planned-up, planned-down}
use Rattle.reshape_begin_end.proofs.reshape_sb_updates_Taken.{taking-more}
use Rattle.reshape_begin_end.specs.array_members_Placed.{IsPlaced}
use Rattle.reshape_begin_end.specs.array_members_Rebuilding.{AreSparesFree}
use Rattle.reshape_begin_end.proofs.array_members_Fit.{roles-still}
use Rattle.reshape_begin_end.proofs.array_members_Still.{count-still, backup-still}
use Rattle.reshape_begin_end.proofs.Made.{IsRoomy, HasNoRole, IsMade, plan-offset}
use Rattle.reshape_sb_takeover.specs.TakingOver.{with_level, IsTakenTo, CanTakeUp, CanTakeDown, CanTakeOver, level_give, taking_over}

none-some : (a : ℕ) → ◌≡◌ {A = Option ℕ} None (Some a) → ⊥
none-some a e = absurd (cc)

or-none : (b : Bool) → (b || false) ≡ true → b ≡ true
or-none true e = refl
or-none false e = absurd (cc)

-- what says the same says the shape too
pub taken-alike : (former M N : Sb) (to : Shape) → SaysSame M N → IsTakenTo former to M → IsTakenTo former to N
taken-alike former M N to a b = record {
  still = sym a.reshaping ∙ b.still;
  shape = sym (shape-alike M N a) ∙ b.shape;
  size = sym a.size ∙ b.size;
  clean = sym a.resync_offset ∙ b.clean;
}

-- ---- its fields

module _ (sb : Sb) (to : Shape) (still : is_reshaping sb ≡ false) (valid : IsTrue (is_valid_shape to)) (fit : AreShapesFit sb) (chunk : sb.chunksize ≡ to.chunk) where
  abbrev Then : Sb
  Then = with_level to sb

  abbrev New : Shape
  New = record { level = to.level; layout = to.layout; chunk = sb.chunksize; disks = to.disks }

  new-shape : shape_of Then ≡ New
  new-shape = ap (λ (b : Bool). record { level = to.level; layout = to.layout; chunk = sb.chunksize; disks = cond b (count_of (pos to.disks -ℤ sb.delta_disks)) to.disks }) still

  new-to : New ≡ to
  new-to = ap (λ (c : ℕ). record { level = to.level; layout = to.layout; chunk = c; disks = to.disks }) chunk

  pub shape-is : shape_of Then ≡ to
  shape-is = new-shape ∙ new-to

  one-shape : final_shape Then ≡ shape_of Then
  one-shape = ap (λ (b : Bool). unwrap_or (cond b (Some (record { level = sb.new_level; layout = sb.new_layout; chunk = sb.new_chunk; disks = to.disks })) None) (shape_of Then)) still

  final-is : final_shape Then ≡ to
  final-is = one-shape ∙ shape-is

  pub count-is : role_count Then ≡ to.disks
  count-is = ap (λ (s : Shape). max (shape_of Then).disks s.disks) one-shape ∙ ap (λ (s : Shape). max s.disks s.disks) shape-is ∙ both to.disks
    where
      both : (n : ℕ) → max n n ≡ n
      both n = omega arith

  pub taken-to : IsTakenTo sb to Then
  taken-to = record { still = still; shape = shape-is; size = refl; clean = refl }

  pub fits : AreShapesFit Then
  fits = record {
    valid = record { old = ap is_valid_shape shape-is ∙ valid; final = ap is_valid_shape final-is ∙ valid };
    size = ap (λ (s : Shape). is_size sb.size s.chunk) shape-is ∙ ap (λ (c : ℕ). is_size sb.size c) (sym chunk) ∙ fit.size;
    final_size = ap (λ (s : Shape). is_size sb.size s.chunk) final-is ∙ ap (λ (c : ℕ). is_size sb.size c) (sym chunk) ∙ fit.size;
    level = ap (λ (s : Shape). s.level) one-shape;
    unit = ap (λ (b : Bool). cond (not b || is_multiple sb.reshape_position (unit_of Then) || (sb.reshape_position == list_length Then)) None (Some (PositionNotOnUnit sb.reshape_position (unit_of Then)))) still;
    position = λ a. absurd (let clash = sym still ∙ a in cc);
    delta = λ a forth. absurd (let clash = sym still ∙ a in cc);
    delta_back = λ a back. absurd (let clash = sym still ∙ a in cc);
  }

-- ---- the change

module _ (given : Given) (old : Members) (to : Shape) (slot : ℕ) (placed : IsPlaced given old) (free : AreSparesFree given old) (still : is_reshaping old.newest ≡ false) (valid : IsTrue (is_valid_shape to))
    (can : CanTakeOver old to slot) where
  abbrev ch : Change
  ch = taking_over old to slot

  abbrev disks : ℕ
  disks = (shape_of old.newest).disks

  pub small : slot < 32
  small = elim can [ inl up ↦ (free slot up.spare).room.small | inr down ↦ (placed.holders to.disks slot (ap holder down.last)).small ]

  chunk : old.newest.chunksize ≡ to.chunk
  chunk = elim can [ inl up ↦ sym (ap (λ (s : Shape). s.chunk) up.shape) | inr down ↦ ap (λ (s : Shape). s.chunk) down.shape ]

  roles : length old.roles ≡ disks
  roles = roles-still given old placed still

  pub count : role_count (taking_over old to slot).shared ≡ to.disks
  count = count-is old.newest to still valid placed.fit chunk

  pub few : role_count (taking_over old to slot).shared ≤ 16
  few = let n = count in let most = (limited to valid).most in omega (arith, n, most)

  -- ---- what is given

  give-up : CanTakeUp old to slot → level_give to ≡ give.Role disks (Some 0)
  give-up up = ap level_give up.shape ∙ ap (λ (n : ℕ). give.Role n (Some 0)) (let e : disks + 1 - 1 ≡ disks = omega arith in e)

  give-down : CanTakeDown old to slot → level_give to ≡ Spare
  give-down down = ap (λ (n : ℕ). cond (n == 6) (give.Role (to.disks - 1) (Some 0)) Spare) down.five

  given-here : give_of ch.gives slot ≡ level_give to
  given-here = get_or-set_same (replicate 32 Same) slot (level_give to) Same (let long = length-replicate 32 Same in let lt = small in omega (arith, lt, long))

  given-other : (s : ℕ) → s ≢ slot → give_of ch.gives s ≡ Same
  given-other s apart = get_or-set_other (replicate 32 Same) slot s (level_give to) Same apart ∙ give_of-same 32 s

  -- the slot gets the last role, or becomes a spare; and each other one stays what it is
  pub gives-or : (s : ℕ) → ((s ≡ slot) × CanTakeUp old to slot × (give_of (taking_over old to slot).gives s ≡ give.Role (shape_of old.newest).disks (Some 0)))
      ⊎ (((s ≡ slot) × CanTakeDown old to slot × (give_of (taking_over old to slot).gives s ≡ Spare)) ⊎ ((s ≢ slot) × (give_of (taking_over old to slot).gives s ≡ Same)))
  gives-or s = elim (cases_eq s slot) [
    | inl same ↦ elim can [
      | inl up ↦ inl (same, up, ap (give_of ch.gives) same ∙ given-here ∙ give-up up)
      | inr down ↦ inr (inl (same, down, ap (give_of ch.gives) same ∙ given-here ∙ give-down down))
    ]
    | inr apart ↦ inr (inr (apart, given-other s apart))
  ]

  more-up : CanTakeUp old to slot → to.disks ≡ disks + 1
  more-up up = ap (λ (s : Shape). s.disks) up.shape

  more-down : CanTakeDown old to slot → disks ≡ to.disks + 1
  more-down down = ap (λ (s : Shape). s.disks) down.shape

  pub role-gives : (s : ℕ) → IsRoleGive (give_of (taking_over old to slot).gives s)
  role-gives s = elim (gives-or s) [
    | inl (same, up, gets) ↦ subst IsRoleGive (sym gets) (let most = (limited to valid).most in let more = more-up up in omega (arith, most, more))
    | inr (inl (same, down, gets)) ↦ subst IsRoleGive (sym gets) tt
    | inr (inr (apart, gets)) ↦ subst IsRoleGive (sym gets) tt
  ]

  is-slot : (s role : ℕ) (recovery : Option ℕ) → give_of ch.gives s ≡ give.Role role recovery → s ≡ slot
  is-slot s role recovery gets = elim (cases_eq s slot) [
    | inl same ↦ same
    | inr apart ↦ absurd (let clash : ◌≡◌ {A = Give} Same (give.Role role recovery) = sym (given-other s apart) ∙ gets in cc)
  ]

  recovers : (s : ℕ) → is_recovery (give_of ch.gives s) ≡ true → s ≡ slot
  recovers s is = elim (cases_eq s slot) [ inl same ↦ same | inr apart ↦ absurd (let none = ap is_recovery (given-other s apart) in let clash = sym none ∙ is in cc) ]

  -- no slot holds the new role
  vacant : (t : ℕ) → holder (get_or old.roles disks Missing) ≡ Some t → ⊥
  vacant t held = absurd (none-some t (sym (ap holder (get_or_past old.roles disks Missing (let n = roles in omega (arith, n)))) ∙ held))

  pub taking : CanTakeUp old to slot → IsTaking old (taking_over old to slot)
  taking up = record {
    none = refl;
    size = refl;
    count = (let was = count-still old.newest still in let then = count in let more = more-up up in omega (arith, was, then, more));
    each = λ s. elim (cases_eq s slot) [
      | inl same ↦ inr (inl (
        disks,
        Some 0,
        ap (give_of ch.gives) same ∙ given-here ∙ give-up up,
        ap (has_spare old.spares) same ∙ up.spare,
        (let then = count in let more = more-up up in omega (arith, then, more)),
        λ t kept. vacant t,
      ))
      | inr apart ↦ inl (given-other s apart)
    ];
    apart = λ s t role a b is is'. is-slot s role a is ∙ sym (is-slot t role b is');
    one = λ s t is is'. recovers s is ∙ sym (recovers t is');
  }

  pub dropping : CanTakeDown old to slot → IsDropping old (taking_over old to slot)
  dropping down = record {
    none = refl;
    size = refl;
    each = λ s. elim (cases_eq s slot) [
      | inl same ↦ inr (ap (give_of ch.gives) same ∙ given-here ∙ give-down down, to.disks, down.last ∙ ap Whole (sym same))
      | inr apart ↦ inl (given-other s apart)
    ];
    below = λ s role kept same held. elim (cases_lt role to.disks) [
      | inl lt ↦ (let then = count in omega (arith, then, lt))
      | inr from ↦ absurd (
          let within = below-length old.roles role s held in
          let n = roles in
          let more = more-down down in
          let last : role ≡ to.disks = omega (arith, from, within, n, more) in
          let there : holder (get_or old.roles role Missing) ≡ Some slot = ap (λ (r : ℕ). holder (get_or old.roles r Missing)) last ∙ ap holder down.last in
          let both : ◌≡◌ {A = Option ℕ} (Some s) (Some slot) = sym held ∙ there in
          let one : s ≡ slot = cc in
          let gets : give_of ch.gives s ≡ Spare = ap (give_of ch.gives) one ∙ given-here ∙ give-down down in
          let clash : ◌≡◌ {A = Give} Same Spare = sym same ∙ gets in
          cc)
    ];
  }

  pub live : AreGivesOfLive old (taking_over old to slot)
  live = elim can [ inl up ↦ taking-live old ch (taking up) | inr down ↦ dropping-live old ch (dropping down) ]

  pub fit-update : (scope : Scope) (former : Members) (d : Disk) → IsHeldSince scope former old d → IsFitUpdate old (taking_over old to slot)
  fit-update scope former d since = elim can [ inl up ↦ taking-is-fit scope former old ch d since (taking up) | inr down ↦ dropping-is-fit scope former old ch d since (dropping down) ]

  -- no role has two holders by the plan
  pub one-holder : (lost : ℕ) → ((s : ℕ) → has_slot old.lost s ≡ true → has_slot lost s ≡ true) → HasOneHolder old (taking_over old to slot) lost
  one-holder lost more = elim can [ inl up ↦ taking-more old ch (taking up) lost more | inr down ↦ one-down down ]
    where
      one-down : CanTakeDown old to slot → HasOneHolder old (taking_over old to slot) lost
      one-down down s t role kept kept' is is' = (let both : ◌≡◌ {A = Option ℕ} (Some s) (Some t) = sym (held s is) ∙ held t is' in cc)
        where
          held : (s : ℕ) → planned_role old.roles (give_of ch.gives s) s ≡ Some role → holder (get_or old.roles role Missing) ≡ Some s
          held s is = elim (cases_eq s slot) [
            | inl same ↦ absurd (none-some role (sym (ap (λ (g : Give). planned_role old.roles g s) (ap (give_of ch.gives) same ∙ given-here ∙ give-down down)) ∙ is))
            | inr apart ↦ role-holder s old.roles role (sym (ap (λ (g : Give). planned_role old.roles g s) (given-other s apart)) ∙ is)
          ]

  -- ---- the plan

  says : SaysSame ch.shared (planned_newest ch.shared old.newest)
  says = says-shared old ch

  pub planned-to : IsTakenTo old.newest to (planned_newest (taking_over old to slot).shared old.newest)
  planned-to = taken-alike old.newest ch.shared (planned_newest ch.shared old.newest) to says (taken-to old.newest to still valid placed.fit chunk)

  pub planned-fits : AreShapesFit (planned_newest (taking_over old to slot).shared old.newest)
  planned-fits = fits-alike ch.shared (planned_newest ch.shared old.newest) says (fits old.newest to still valid placed.fit chunk)

  pub plan-is : (named : ℕ) → IsTakenUp old (planned_view old (taking_over old to slot) named) ⊎ IsTakenDown old (planned_view old (taking_over old to slot) named)
  plan-is named = elim can [
    | inl up ↦ inl (planned-up old ch named (record { size = refl; clean = refl }) still planned-to.still up.five (planned-to.shape ∙ up.shape) roles (λ s role recovery gets. only up s role recovery gets))
    | inr down ↦ inr (planned-down old ch named (record { size = refl; clean = refl }) still planned-to.still (ap (λ (s : Shape). s.level) planned-to.shape ∙ down.five)
        (down.shape ∙ ap taken_up (sym planned-to.shape)) (λ s role recovery gets. absurd (none down s role recovery gets)))
  ]
    where
      only : CanTakeUp old to slot → (s role : ℕ) (recovery : Option ℕ) → give_of ch.gives s ≡ give.Role role recovery → (role ≡ disks) × (recovery ≡ Some 0)
      only up s role recovery gets =
          let both : give.Role disks (Some 0) ≡ give.Role role recovery = sym (ap (give_of ch.gives) (is-slot s role recovery gets) ∙ given-here ∙ give-up up) ∙ gets in
          ((let e : disks ≡ role = cc in sym e), (let e : ◌≡◌ {A = Option ℕ} (Some 0) recovery = cc in sym e))

      none : CanTakeDown old to slot → (s role : ℕ) (recovery : Option ℕ) → give_of ch.gives s ≡ give.Role role recovery → ⊥
      none down s role recovery gets = absurd (let clash : ◌≡◌ {A = Give} Spare (give.Role role recovery) = sym (ap (give_of ch.gives) (is-slot s role recovery gets) ∙ given-here ∙ give-down down) ∙ gets in cc)

  -- it is placed, where the slot isn't the backup
  pub plan-placed : (scope : Scope) → length old.own ≡ 32 → (scope.backup ≡ Some slot → ⊥) → ArePlaced scope given old → ArePlaced scope given (planned_view old (taking_over old to slot) old.lost)
  plan-placed scope long aside former = planned-placed scope given old ch old.lost former refl (count-planned old ch) planned-fits (backup-still scope (planned_newest ch.shared old.newest) planned-to.still) (λ s role recovery gets.
      let here = is-slot s role recovery gets in
      let offset = plan-offset old ch long s in
      let within = (room s role recovery gets).room.within in
      let behind = (room s role recovery gets).behind in (
        record { small = (room s role recovery gets).room.small; known = (room s role recovery gets).room.known; short = (room s role recovery gets).room.short; within = omega (arith, within, offset) },
        omega (arith, behind, offset),
        λ is. aside (is ∙ ap (λ (n : ℕ). Some n) here),
      ))
    where
      room : (s role : ℕ) (recovery : Option ℕ) → give_of ch.gives s ≡ give.Role role recovery → IsRoomy given old s
      room s role recovery gets = elim (gives-or s) [
        | inl (same, up, is) ↦ (let f = free s (ap (has_spare old.spares) same ∙ up.spare) in record { room = f.room; behind = f.behind })
        | inr (inl (same, down, is)) ↦ absurd (let clash : ◌≡◌ {A = Give} Spare (give.Role role recovery) = sym is ∙ gets in cc)
        | inr (inr (apart, is)) ↦ absurd (let clash : ◌≡◌ {A = Give} Same (give.Role role recovery) = sym is ∙ gets in cc)
      ]

  -- ---- who holds a role by it, and who is a spare

  holder-roomy : (s role : ℕ) → planned_role old.roles (give_of ch.gives s) s ≡ Some role → IsRoomy given old s
  holder-roomy s role is = elim (gives-or s) [
    | inl (same, up, gets) ↦ (let f = free s (ap (has_spare old.spares) same ∙ up.spare) in record { room = f.room; behind = f.behind })
    | inr (inl (same, down, gets)) ↦ absurd (none-some role (sym (ap (λ (g : Give). planned_role old.roles g s) gets) ∙ is))
    | inr (inr (apart, gets)) ↦ (
        let was = role-holder s old.roles role (sym (ap (λ (g : Give). planned_role old.roles g s) gets) ∙ is) in
        record { room = placed.holders role s was; behind = placed.behind role s was })
  ]

  pub spare-roomy : (s : ℕ) → is_planned_spare old.spares (taking_over old to slot).added (give_of (taking_over old to slot).gives s) s ≡ true → IsRoomy given old s × HasNoRole old (taking_over old to slot) s
  spare-roomy s so = elim (gives-or s) [
    | inl (same, up, gets) ↦ absurd (let clash = sym (ap (λ (g : Give). is_planned_spare old.spares None g s) gets) ∙ so in cc)
    | inr (inl (same, down, gets)) ↦ (
        let held : holder (role_state (reading_of old) to.disks) ≡ Some s = ap holder down.last ∙ ap (λ (n : ℕ). Some n) (sym same) in (
          record { room = placed.holders to.disks s held; behind = placed.behind to.disks s held },
          λ role is. none-some role (sym (ap (λ (g : Give). planned_role old.roles g s) gets) ∙ is),
        ))
    | inr (inr (apart, gets)) ↦ (
        let spare = or-none (has_spare old.spares s) (sym (ap (λ (g : Give). is_planned_spare old.spares None g s) gets) ∙ so) in
        let f = free s spare in (
          record { room = f.room; behind = f.behind },
          λ role is. f.none role (role-holder s old.roles role (sym (ap (λ (g : Give). planned_role old.roles g s) gets) ∙ is)),
        ))
  ]

  pub made : (new : Members) {tells : Type 0} {before after : List Operation} → IsChanged tells given (taking_over old to slot) old new before after → IsLessView (planned_view old (taking_over old to slot) old.lost) new
      → AreShapesFit new.newest → length old.own ≡ 32 → IsMade given old (taking_over old to slot) new
  made new done less fit long = record {
    gives = live;
    newest = done.newest;
    own = done.own;
    roles = done.roles;
    spares = done.spares;
    stay = done.stay;
    alive = done.alive;
    less = less;
    fit = fit;
    size = refl;
    long = long;
    holders = λ s role lt is. holder-roomy s role is;
    idle = λ s lt so. spare-roomy s so;
  }

-- ---- the slots that hold a role then

module _ (m : Members) (to : Shape) (slot : ℕ) (small : slot < 32) where
  abbrev gives : List Give
  gives = (taking_over m to slot).gives

  at-slot : give_of gives slot ≡ level_give to
  at-slot = get_or-set_same (replicate 32 Same) slot (level_give to) Same (let long = length-replicate 32 Same in omega (arith, small, long))

  at-other : (s : ℕ) → s ≢ slot → give_of gives s ≡ Same
  at-other s apart = get_or-set_other (replicate 32 Same) slot s (level_give to) Same apart ∙ give_of-same 32 s

  from-some : (s : ℕ) (o : Option ℕ) → role_from s 0 m.roles ≡ o → is_some o ≡ true → (role : ℕ) × (role_from s 0 m.roles ≡ Some role)
  from-some s None is some = absurd (cc)
  from-some s (Some role) is some = (role, is)

  -- another slot that held one holds it
  pub other-holds : (s role : ℕ) → s ≢ slot → holder (role_state (reading_of m) role) ≡ Some s → (role : ℕ) × (planned_role m.roles (give_of (taking_over m to slot).gives s) s ≡ Some role)
  other-holds s role apart held =
      let some : is_some (role_from s 0 m.roles) ≡ true = some_role s 0 m.roles ∙ any-held s m.roles role held in
      let found = from-some s (role_from s 0 m.roles) refl some in
      (found.0, ap (λ (g : Give). planned_role m.roles g s) (at-other s apart) ∙ found.1)

  -- at level 6 the slot holds the last one
  pub slot-holds : (to.level == 6) ≡ true → (s : ℕ) → s ≡ slot → (role : ℕ) × (planned_role m.roles (give_of (taking_over m to slot).gives s) s ≡ Some role)
  slot-holds six s same = (
    to.disks - 1,
    ap (λ (g : Give). planned_role m.roles g s) (ap (give_of gives) same ∙ at-slot ∙ ap (λ (b : Bool). cond b (give.Role (to.disks - 1) (Some 0)) Spare) six),
  )

  -- another slot that holds one then held it
  pub other-held : (s role : ℕ) → s ≢ slot → planned_role m.roles (give_of (taking_over m to slot).gives s) s ≡ Some role → holder (role_state (reading_of m) role) ≡ Some s
  other-held s role apart is = role-holder s m.roles role (sym (ap (λ (g : Give). planned_role m.roles g s) (at-other s apart)) ∙ is)

  -- at level 5 the slot holds none
  pub slot-idle : (to.level == 6) ≡ false → (s role : ℕ) → s ≡ slot → planned_role m.roles (give_of (taking_over m to slot).gives s) s ≡ Some role → ⊥
  slot-idle five s role same is =
      none-some role (sym (ap (λ (g : Give). planned_role m.roles g s) (ap (give_of gives) same ∙ at-slot ∙ ap (λ (b : Bool). cond b (give.Role (to.disks - 1) (Some 0)) Spare) five)) ∙ is)
