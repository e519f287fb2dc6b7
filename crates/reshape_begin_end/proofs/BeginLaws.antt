-- What the update that begins a reshape leaves, and what it takes for it to be safe.
use Rattle.std.proofs.Common.{◌≡◌, ◌⊎◌, inl, inr, ℕ, ◌<◌, ◌&&◌, ◌||◌, Bool, true, false, not, nat_lt, List, length, get_or, Option, Some, None, refl, sym, ◌∙◌, ap, arith}
use Rattle.std.proofs.lemmas.Bool.Decides.{nat_tests}
use Rattle.sb_safe_updates.specs.raid_types_Shapes.{has_slot}
use Rattle.sb_safe_updates.specs.raid_types_the_Shape.{Shape}
use Rattle.sb_safe_updates.specs.raid_types_the_Span.{Span}
use Rattle.sb_safe_updates.specs.raid_types_the_Role.{Role}
use Rattle.sb_safe_updates.specs.raid_types_the_Role_TheVariants.{Missing}
use Rattle.sb_safe_updates.proofs.raid_types_Tabulated.{length-tabulate, get_or-tabulate}
use Rattle.sb_safe_updates.specs.bank_the_Operation.{Operation}
use Rattle.sb_safe_updates.specs.bank_Given.{Given, IsFaulted, NeverFalls}
use Rattle.sb_safe_updates.proofs.bank_Causes.{faulted_longer}
use Rattle.sb_safe_updates.specs.reshape_geometry_Geometry.{AreInForce}
use Rattle.sb_safe_updates.specs.sb_specs_the_Give.{Give}
use Rattle.sb_safe_updates.specs.sb_specs_the_Give_TheVariants.{Same}
use Rattle.sb_safe_updates.specs.sb_specs_the_Change.{Change}
use Rattle.sb_safe_updates.specs.sb_specs_the_Members.{Members}
use Rattle.sb_safe_updates.specs.sb_specs_Reading.{Scope, is_reshaping, shape_of, list_length, role_count, role_state, holder}
use Rattle.sb_safe_updates.specs.sb_specs_Reads.{has_spare}
use Rattle.sb_safe_updates.specs.sb_specs_Update.{give_of, planned_role, is_planned_spare}
use Rattle.sb_safe_updates.specs.sb_specs_Updating.{AreLosses, planned_newest}
use Rattle.sb_safe_updates.specs.sb_specs_Outcome.{live_set, AreGivesOfLive, planned_state, planned_roles}
use Rattle.sb_safe_updates.proofs.sb_read_laws_SaidLists.{role-holder}
use Rattle.sb_safe_updates.proofs.sb_read_laws_SaidSlots.{below-length}
use Rattle.sb_safe_updates.specs.stripe_row_Rows.{reading_of}
use Rattle.sb_safe_updates.specs.crash_views_Regions.{AreShapesFit, ArePlaced}
use Rattle.sb_safe_updates.specs.crash_views_Views.{Disk, Ledger}
use Rattle.sb_safe_updates.proofs.crash_views_Alike.{backup-alike}
use Rattle.sb_safe_updates.specs.crash_safety_laws_Changing.{IsChanged}
use Rattle.sb_safe_updates.specs.crash_safety_laws_Giving.{IsToldOf}
use Rattle.sb_safe_updates.specs.crash_safety_laws_Steady.{IsSteady}
use Rattle.sb_safe_updates.specs.crash_safety_laws_Updates.{planned_view, IsLessView, HasOneHolder}
use Rattle.sb_safe_updates.proofs.crash_safety_laws_FitKinds.{taking-live}
use Rattle.sb_safe_updates.proofs.crash_safety_laws_PlannedRoles.{says-shared, count-planned, held-planned, planned-held}
use Rattle.reshape_sb_updates.specs.crash_reshape_laws_Ends.{IsToldWith, IsCleared}
use Rattle.reshape_sb_updates.proofs.crash_reshape_laws_EndLaws.{begun-alike, cleared-plain}
use Rattle.reshape_sb_updates.proofs.crash_reshape_laws_PlanPlaced.{planned-placed}
use Rattle.reshape_sb_updates.specs.Beginning.{new_role, give_where, new_give, beginning}
use Rattle.reshape_sb_updates.proofs.BegunPlan.{taking, is-begun, planned-fits-is}
use Rattle.reshape_sb_updates.proofs.NewRoles.{new-or, new-given}
use Rattle.reshape_sb_updates.proofs.Taken.{taking-more}
use Rattle.sb_safe_updates.specs.array_members_Placed.{IsPlaced}
use Rattle.sb_safe_updates.specs.array_members_Rebuilding.{AreSparesFree}
use Rattle.sb_safe_updates.specs.array_members_Lacking.{HaveFailedSince}
use Rattle.reshape_begin_end.specs.Begun.{is_idle_spare, IsBackupOf}
use Rattle.reshape_begin_end.proofs.Made.{IsRoomy, HasNoRole, IsMade, plan-offset, spare-planned, planned-spare}

or-none : (b : Bool) → (b || false) ≡ true → b ≡ true
or-none true e = refl
or-none false e = absurd (cc)

module _ (given : Given) (old : Members) (to : Shape) (still : is_reshaping old.newest ≡ false) (roles : length old.roles ≡ (shape_of old.newest).disks)
    (forced : AreInForce (shape_of old.newest) to old.newest.size) (level : to.level ≡ old.newest.level) (placed : IsPlaced given old) (free : AreSparesFree given old) where
  abbrev first : ℕ
  first = (shape_of old.newest).disks

  abbrev ch : Change
  ch = beginning old to

  -- ---- who holds a role by it, and who is a spare

  holder-roomy : (slot role : ℕ) → planned_role old.roles (give_of ch.gives slot) slot ≡ Some role → IsRoomy given old slot
  holder-roomy slot role is = elim (new-or old.spares first to.disks slot) [
    | inl same ↦ (
        let was = role-holder slot old.roles role (sym (ap (λ (g : Give). planned_role old.roles g slot) same) ∙ is) in
        record { room = placed.holders role slot was; behind = placed.behind role slot was })
    | inr (other, new) ↦ let f = free slot new.spare in record { room = f.room; behind = f.behind }
  ]

  spare-roomy : (slot : ℕ) → is_planned_spare old.spares ch.added (give_of ch.gives slot) slot ≡ true → IsRoomy given old slot × HasNoRole old ch slot
  spare-roomy slot so = elim (new-or old.spares first to.disks slot) [
    | inl same ↦ (
        let spare = or-none (has_spare old.spares slot) (sym (ap (λ (g : Give). is_planned_spare old.spares None g slot) same) ∙ so) in
        let f = free slot spare in (
          record { room = f.room; behind = f.behind },
          λ role is. f.none role (role-holder slot old.roles role (sym (ap (λ (g : Give). planned_role old.roles g slot) same) ∙ is)),
        ))
    | inr (other, new) ↦ absurd (let clash = sym (ap (λ (g : Give). is_planned_spare old.spares None g slot) new.gets) ∙ so in cc)
  ]

  pub gives-live : AreGivesOfLive old ch
  gives-live = taking-live old ch (taking old to still roles forced level)

  module _ (new : Members) {tells : Type 0} {before after : List Operation} (done : IsChanged tells given (beginning old to) old new before after) (less : IsLessView (planned_view old (beginning old to) old.lost) new)
      (fit : AreShapesFit new.newest) (long : length old.own ≡ 32) where
    pub begun-made : IsMade given old (beginning old to) new
    begun-made = record {
      gives = gives-live;
      newest = done.newest;
      own = done.own;
      roles = done.roles;
      spares = done.spares;
      stay = done.stay;
      alive = done.alive;
      less = less;
      fit = fit;
      size = refl;
      long = long;
      holders = λ slot role lt is. holder-roomy slot role is;
      idle = λ slot lt so. spare-roomy slot so;
    }

    pub begun-one : HasOneHolder old (beginning old to) new.lost
    begun-one = taking-more old ch (taking old to still roles forced level) new.lost done.stay

    -- ---- what was lost in it

    module _ (lost idle told : ℕ) (f0 f1 f2 : ℕ → ℕ) (rising : NeverFalls f0 f1) (more : NeverFalls f1 f2) (losses : AreLosses (live_set old (beginning old to)) old.lost new.lost f1 f2)
        (lost-is : (s : ℕ) → has_slot lost s ≡ (has_slot new.lost s && not (has_slot old.lost s))) (idle-is : (s : ℕ) → has_slot idle s ≡ is_idle_spare old.spares (shape_of old.newest).disks to.disks s)
        (told-is : (s : ℕ) → has_slot told s ≡ (has_slot lost s && has_slot idle s)) where
      failed-then : (s : ℕ) → has_slot new.lost s ≡ true → has_slot old.lost s ≡ false → IsFaulted s f0 f2
      failed-then s gone kept = faulted_longer s f0 f1 f2 f2 (rising s) (omega arith) (more s) (losses.failed s gone kept)

      roles-failed : (role slot : ℕ) → holder (role_state (reading_of (planned_view old (beginning old to) old.lost)) role) ≡ Some slot
          → (holder (role_state (reading_of new) role) ≡ Some slot) ⊎ IsFaulted slot f0 f2
      roles-failed role slot held = of (has_slot new.lost slot) refl
        where
          was : (slot < 32) × (has_slot old.lost slot ≡ false) × (planned_role old.roles (give_of ch.gives slot) slot ≡ Some role)
          was = held-planned old (planned_view old (beginning old to) old.lost) ch gives-live refl refl role slot held

          below : role < role_count ch.shared
          below = (let n = below-length (planned_roles old ch old.lost) role slot held in let all = length-tabulate (role_count ch.shared) (planned_state old.roles ch.gives old.lost) in omega (arith, n, all))

          of : (b : Bool) → has_slot new.lost slot ≡ b → (holder (role_state (reading_of new) role) ≡ Some slot) ⊎ IsFaulted slot f0 f2
          of true gone = inr (failed-then slot gone was.1)
          of false kept = inl (ap (λ (l : List Role). holder (get_or l role Missing)) done.roles
              ∙ ap holder (get_or-tabulate (role_count ch.shared) (planned_state old.roles ch.gives new.lost) role Missing below)
              ∙ planned-held old ch new.lost begun-one slot role was.0 kept was.2)

      both : (a b : Bool) → (a && b) ≡ true → (a ≡ true) × (b ≡ true)
      both true b e = (refl, e)
      both false b e = absurd (cc)

      flip : (b : Bool) → not b ≡ true → b ≡ false
      flip true e = absurd (cc)
      flip false e = refl

      spares-failed : (s : ℕ) → has_slot told s ≡ true → IsFaulted s f0 f2
      spares-failed s has =
          let parts = both (has_slot lost s) (has_slot idle s) (sym (told-is s) ∙ has) in
          let gone = both (has_slot new.lost s) (not (has_slot old.lost s)) (sym (lost-is s) ∙ parts.0) in
          failed-then s gone.0 (flip (has_slot old.lost s) gone.1)

      -- a spare by the plan gets no role
      idle-here : (s : ℕ) → s < 32 → is_planned_spare old.spares ch.added (give_of ch.gives s) s ≡ true → has_slot idle s ≡ true
      idle-here s lt so = idle-is s ∙ of (has_spare old.spares s) (nat_lt (new_role old.spares first s) to.disks) refl refl
        where
          given-is : give_of ch.gives s ≡ give_where (has_spare old.spares s && nat_lt (new_role old.spares first s) to.disks) (new_role old.spares first s)
          given-is = get_or-tabulate 32 (new_give old.spares first to.disks) s Same lt

          is-less : (a b : ℕ) → a < b → nat_lt a b ≡ true
          is-less a b h = grind (arith, nat_tests, h)

          of : (a b : Bool) → has_spare old.spares s ≡ a → nat_lt (new_role old.spares first s) to.disks ≡ b → is_idle_spare old.spares first to.disks s ≡ true
          of true false one two = (λ i. is-less s 32 lt i && (one i && not (two i)))
          of true true one two = absurd (
              let gets : give_of ch.gives s ≡ give_where true (new_role old.spares first s) = given-is ∙ (λ i. give_where (one i && two i) (new_role old.spares first s)) in
              let clash = sym (ap (λ (g : Give). is_planned_spare old.spares None g s) gets) ∙ so in cc)
          of false b one two = absurd (
              let gets : give_of ch.gives s ≡ give_where false (new_role old.spares first s) = given-is ∙ ap (λ (t : Bool). give_where (t && nat_lt (new_role old.spares first s) to.disks) (new_role old.spares first s)) one in
              let spare = or-none (has_spare old.spares s) (sym (ap (λ (g : Give). is_planned_spare old.spares None g s) gets) ∙ so) in
              let clash = sym one ∙ spare in cc)

      spares-told : (s : ℕ) → has_spare (planned_view old (beginning old to) old.lost).spares s ≡ true → (has_spare new.spares s ≡ true) ⊎ (has_slot told s ≡ true)
      spares-told s has = of (has_slot new.lost s) refl
        where
          was : (s < 32) × (has_slot old.lost s ≡ false) × (is_planned_spare old.spares ch.added (give_of ch.gives s) s ≡ true)
          was = spare-planned old ch old.lost s has

          of : (b : Bool) → has_slot new.lost s ≡ b → (has_spare new.spares s ≡ true) ⊎ (has_slot told s ≡ true)
          of false kept = inl (ap (λ (l : List ℕ). has_spare l s) done.spares ∙ planned-spare old ch new.lost s was.0 kept was.2)
          of true gone = inr (told-is s ∙ (λ i. lost-there i && idle-here s was.0 was.2 i))
            where
              lost-there : has_slot lost s ≡ true
              lost-there = lost-is s ∙ (λ i. gone i && not (was.1 i))

      -- who is told as a spare was one by the plan
      pub begun-spares : (s : ℕ) → has_slot told s ≡ true → has_spare (planned_view old (beginning old to) old.lost).spares s ≡ true
      begun-spares s has = planned-spare old ch old.lost s (less-of s 32 idle-parts.0) kept so
        where
          less-of : (a b : ℕ) → nat_lt a b ≡ true → a < b
          less-of a b h = grind (arith, nat_tests, h)

          or-so : (b : Bool) → b ≡ true → (b || false) ≡ true
          or-so true is = refl
          or-so false is = is

          parts : (has_slot lost s ≡ true) × (has_slot idle s ≡ true)
          parts = both (has_slot lost s) (has_slot idle s) (sym (told-is s) ∙ has)

          kept : has_slot old.lost s ≡ false
          kept = flip (has_slot old.lost s) (both (has_slot new.lost s) (not (has_slot old.lost s)) (sym (lost-is s) ∙ parts.0)).1

          idle-parts : (nat_lt s 32 ≡ true) × ((has_spare old.spares s && not (nat_lt (new_role old.spares first s) to.disks)) ≡ true)
          idle-parts = both (nat_lt s 32) (has_spare old.spares s && not (nat_lt (new_role old.spares first s) to.disks)) (sym (idle-is s) ∙ parts.1)

          spare-parts : (has_spare old.spares s ≡ true) × (not (nat_lt (new_role old.spares first s) to.disks) ≡ true)
          spare-parts = both (has_spare old.spares s) (not (nat_lt (new_role old.spares first s) to.disks)) idle-parts.1

          past : nat_lt (new_role old.spares first s) to.disks ≡ false
          past = flip (nat_lt (new_role old.spares first s) to.disks) spare-parts.1

          gets : give_of ch.gives s ≡ give_where false (new_role old.spares first s)
          gets = get_or-tabulate 32 (new_give old.spares first to.disks) s Same (less-of s 32 idle-parts.0) ∙ (λ i. give_where (spare-parts.0 i && past i) (new_role old.spares first s))

          so : is_planned_spare old.spares ch.added (give_of ch.gives s) s ≡ true
          so = ap (λ (g : Give). is_planned_spare old.spares None g s) gets ∙ or-so (has_spare old.spares s) spare-parts.0

      -- a spare then is one by the plan
      spares-fewer : (s : ℕ) → has_spare new.spares s ≡ true → has_spare (planned_view old (beginning old to) old.lost).spares s ≡ true
      spares-fewer s has =
          let was = spare-planned old ch new.lost s (ap (λ (l : List ℕ). has_spare l s) (sym done.spares) ∙ has) in
          planned-spare old ch old.lost s was.0 (kept (has_slot old.lost s) refl was.1) was.2
        where
          kept : (b : Bool) → has_slot old.lost s ≡ b → has_slot new.lost s ≡ false → has_slot old.lost s ≡ false
          kept true gone left = absurd (let stays = done.stay s gone in let clash = sym stays ∙ left in cc)
          kept false is left = is

      pub begun-failed : HaveFailedSince (planned_view old (beginning old to) old.lost) new told f0 f2
      begun-failed = record { roles = roles-failed; spares_are = spares-failed; were = begun-spares; fewer = spares-fewer; told = spares-told }

  -- ---- what it takes to be safe

  module _ (scope : Scope) (slot : ℕ) (uuid : List ℕ) (is : IsBackupOf scope old to slot uuid) (former : ArePlaced scope given old) (long : length old.own ≡ 32) where
    pub begun-placed : ArePlaced scope given (planned_view old (beginning old to) old.lost)
    begun-placed = planned-placed scope given old ch old.lost former refl (count-planned old ch) (planned-fits-is old to still roles forced level)
        (sym (backup-alike ch.shared (planned_newest ch.shared old.newest) (says-shared old ch) scope) ∙ is.room)
        (λ s role recovery gets.
        let new = (new-given old.spares first to.disks s role recovery gets).0 in
        let f = free s new.spare in
        let offset = plan-offset old ch long s in
        let within = f.room.within in
        let behind = f.behind in (
          record { small = f.room.small; known = f.room.known; short = f.room.short; within = omega (arith, within, offset) },
          omega (arith, behind, offset),
          λ here. (let same : ◌≡◌ {A = Option ℕ} (Some s) (Some slot) = sym here ∙ is.backup in let one : s ≡ slot = cc in
              let clash = sym (ap (has_spare old.spares) one) ∙ new.spare in let apart = is.apart in absurd (cc)),
        ))

  -- what is told with the plan is told of the list that it keeps
  pub begun-told : (sound : Type 0) (scope : Scope) (told more : Ledger) (d e : Disk) → IsSteady sound scope given told old d → IsCleared scope e
      → IsToldWith told more (planned_view old (beginning old to) old.lost) → IsToldOf scope (planned_view old (beginning old to) old.lost) e told more
  begun-told sound scope told more d e steady cleared with-plan = record {
    sized = with-plan.sized;
    values = λ x lt v may. with-plan.values x v
        (let within = (begun-alike old (planned_view old ch old.lost) (is-begun old to still roles forced level old.lost)).within in
        let size : list_length old.newest ≡ told.size = ap (λ (m : Members). list_length m.newest) steady.since.since ∙ steady.right.sized in
        omega (arith, lt, within, size))
        (let size = with-plan.sized in omega (arith, lt, size)) may;
    sections = λ header may span active x low high v is. absurd (
        let none = (cleared-plain scope (planned_view old ch old.lost) e cleared).0 header may in
        let clash : ◌≡◌ {A = Option Span} None (Some span) = sym none ∙ active in cc);
    unclean = with-plan.unclean;
    reshaping = with-plan.reshaping;
  }
