-- What the flush before a reshape ends leaves, and the update that ends it, and what it takes for that to be safe.
use Rattle.std.proofs.Common.{◌≡◌, ◌⊎◌, inl, inr, ℕ, ◌+◌, ◌-◌, ◌*◌, ◌==◌, ◌<◌, ◌≤◌, ◌&&◌, ◌||◌, Bool, true, false, not, nat_lt, cond, min, List, length, drop, get_or, Option, Some, None, is_some, refl, sym, ◌∙◌, ap, subst, arith}
use Rattle.std.specs.Prelude.{◌^◌}
use Rattle.std.specs.List.{list_any}
use Rattle.std.proofs.lemmas.Bool.Decides.{nat_tests}
use Rattle.std.proofs.lemmas.List.{get_or-drop}
use Rattle.sb_safe_updates.specs.raid_types_Shapes.{has_slot, data_disks}
use Rattle.sb_safe_updates.specs.raid_types_Sectors.{Sector, zero_sector}
use Rattle.sb_safe_updates.specs.raid_types_the_Shape.{Shape}
use Rattle.sb_safe_updates.specs.raid_types_the_Refusal_TheVariants.{BackupAbsent}
use Rattle.sb_safe_updates.specs.raid_types_the_Role.{Role}
use Rattle.sb_safe_updates.specs.raid_types_the_Role_TheVariants.{Whole, Recovering, Missing}
use Rattle.sb_safe_updates.proofs.raid_types_Tabulated.{get_or-tabulate}
use Rattle.sb_safe_updates.specs.bank_the_Operation.{Operation}
use Rattle.sb_safe_updates.specs.bank_Given.{Given, IsFaulted, NeverFalls}
use Rattle.sb_safe_updates.specs.bank_Tape.{Contents}
use Rattle.sb_safe_updates.proofs.bank_Causes.{faulted_longer}
use Rattle.sb_safe_updates.specs.raid_layout_Layout.{place, stripe_of}
use Rattle.sb_safe_updates.specs.reshape_geometry_Geometry.{rows, unit}
use Rattle.sb_safe_updates.specs.sb_specs_the_Give.{Give}
use Rattle.sb_safe_updates.specs.sb_specs_the_Give_TheVariants.{Same, Spare}
use Rattle.sb_safe_updates.specs.sb_specs_the_Change.{Change}
use Rattle.sb_safe_updates.specs.sb_specs_the_Members.{Members}
use Rattle.sb_safe_updates.specs.sb_specs_Reading.{Scope, is_clean, is_reshaping, is_backward, shape_of, final_shape, list_length, role_count, role_state, holder, is_whole, data_offset_of}
use Rattle.sb_safe_updates.specs.sb_specs_Reads.{has_spare}
use Rattle.sb_safe_updates.specs.sb_specs_Update.{give_of, is_held_by, is_live, role_from, planned_role, is_planned_spare}
use Rattle.sb_safe_updates.proofs.sb_specs_SlotSets.{some_role, none_there}
use Rattle.sb_safe_updates.specs.sb_specs_Updating.{AreLosses}
use Rattle.sb_safe_updates.specs.sb_specs_Outcome.{live_set, AreGivesOfLive, held_state, planned_state}
use Rattle.sb_safe_updates.proofs.sb_read_laws_SaidLists.{role-holder}
use Rattle.sb_safe_updates.proofs.sb_read_laws_SaidSlots.{below-length}
use Rattle.sb_safe_updates.specs.stripe_row_Rows.{reading_of, held_slot}
use Rattle.sb_safe_updates.proofs.stripe_row_Losses.{holder-of}
use Rattle.sb_safe_updates.specs.stripe_list_Full.{RowStands}
use Rattle.sb_safe_updates.specs.history_Stands.{has_room, shape_for}
use Rattle.reshape_sb_updates.specs.stripe_region_laws_Regions.{IsDirected}
use Rattle.sb_safe_updates.specs.crash_views_Regions.{AreShapesFit, ArePlaced, DoWithout}
use Rattle.sb_safe_updates.specs.crash_views_Views.{Disk, Ledger, IsTail}
use Rattle.sb_safe_updates.specs.crash_views_Windows.{IsFlushedRight, ListStands, RowsStand, AreTailsStanding}
use Rattle.sb_safe_updates.specs.crash_views_Windows.{AreHoldersFlushed as AreAllFlushed}
use Rattle.sb_safe_updates.proofs.crash_views_Stands.{for-still, list-still}
use Rattle.sb_safe_updates.proofs.crash_views_UnderWay.{under-way}
use Rattle.sb_safe_updates.specs.crash_safety_laws_Changing.{IsChanged}
use Rattle.sb_safe_updates.specs.crash_safety_laws_Marking.{AreOthersPresent}
use Rattle.sb_safe_updates.specs.crash_safety_laws_Safety.{HasRoomLeft}
use Rattle.sb_safe_updates.specs.crash_safety_laws_Steady.{AreUnlost, AreGoneTold, IsUncleanTold}
use Rattle.sb_safe_updates.specs.crash_safety_laws_Updates.{planned_view, IsLessView, HasOneHolder, IsAtEnd}
use Rattle.sb_safe_updates.proofs.crash_safety_laws_FitKinds.{dropping-live}
use Rattle.sb_safe_updates.proofs.crash_safety_laws_LessViews.{ends-place}
use Rattle.sb_safe_updates.proofs.crash_safety_laws_PlannedRoles.{planned-held}
use Rattle.sb_safe_updates.proofs.crash_safety_laws_Without.{any-holds, any-held, live-of}
use Rattle.reshape_sb_updates.specs.crash_reshape_laws_Ends.{AreRolesKept, ArePlacesAlike, IsEnded}
use Rattle.reshape_sb_updates.specs.crash_reshape_laws_Grown.{IsPastRow}
use Rattle.reshape_sb_updates.specs.crash_reshape_laws_Plans.{HasNoneRecovering}
use Rattle.reshape_sb_updates.proofs.crash_reshape_laws_EndLaws.{same-placed, places-alike-stand, still-plain}
use Rattle.reshape_sb_updates.proofs.crash_reshape_laws_GrownStanding.{grown-stands}
use Rattle.reshape_sb_updates.proofs.crash_reshape_laws_PlanRoles.{planned-or}
use Rattle.reshape_sb_updates.specs.Ending.{holds_from, dropped_give, ending}
use Rattle.reshape_sb_updates.proofs.EndedPlan.{dropped-or, dropping, dropping-one, disks-are, is-ended, plan-placed-is}
use Rattle.sb_safe_updates.specs.array_members_Placed.{is_unassigned, IsPlaced}
use Rattle.sb_safe_updates.specs.array_members_Moving.{IsMoved}
use Rattle.sb_safe_updates.specs.array_members_Lacking.{HaveFailedSince}
use Rattle.sb_safe_updates.specs.array_members_Rebuilding.{IsFree, AreSparesFree}
use Rattle.sb_safe_updates.proofs.array_members_Fit.{list-alike, count-alike}
use Rattle.sb_safe_updates.proofs.array_members_HeldRows.{held-moved, without-before}
use Rattle.sb_safe_updates.proofs.array_members_LackingLists.{row-moved}
use Rattle.sb_safe_updates.proofs.array_members_Still.{tail-still, untailed}
use Rattle.sb_safe_updates.proofs.Under.{shown-moved, shown-rows-moved}
use Rattle.reshape_begin_end.specs.Finished.{AreLostInEnd, IsFinishable, IsZeroBehind}
use Rattle.reshape_begin_end.proofs.Made.{IsRoomy, HasNoRole, IsMade, planned-spare}

or-none : (b : Bool) → (b || false) ≡ true → b ≡ true
or-none true e = refl
or-none false e = absurd (cc)

none-some : (a : ℕ) → ◌≡◌ {A = Option ℕ} None (Some a) → ⊥
none-some a e = absurd (cc)

-- ---- behind the flush

module _ (given : Given) (old m : Members) (moved : IsMoved given old m) (active : is_reshaping old.newest ≡ true) (last : IsAtEnd old.newest) (whole : HasNoneRecovering old) where
  pub active-then : is_reshaping m.newest ≡ true
  active-then = moved.reshape.reshaping ∙ active

  long-same : list_length m.newest ≡ list_length old.newest
  long-same = list-alike old.newest m.newest moved.reshape moved.shape moved.size

  pub last-then : IsAtEnd m.newest
  last-then = moved.reshape.position ∙ last ∙ sym (λ i. cond (moved.reshape.backward i) 0 (long-same i))

  pub small-then : (role slot : ℕ) → holder (role_state (reading_of m) role) ≡ Some slot → slot < 32
  small-then role slot held = (moved.placed.holders role slot held).small

  pub whole-then : HasNoneRecovering m
  whole-then role slot is = whole role slot (sym (moved.states role slot (ap holder is)) ∙ is)

  abbrev ch : Change
  ch = ending m

  pub gives-live : AreGivesOfLive m (ending m)
  gives-live = dropping-live m ch (dropping m active-then moved.placed.fit moved.placed.roles small-then whole-then)

  -- ---- who holds a role by the end, and who is a spare

  holder-roomy : (slot role : ℕ) → planned_role m.roles (give_of ch.gives slot) slot ≡ Some role → IsRoomy given m slot
  holder-roomy slot role is = elim (dropped-or m active-then moved.placed.fit moved.placed.roles small-then whole-then slot) [
    | inl (same, rest) ↦ (
        let was = role-holder slot m.roles role (sym (ap (λ (g : Give). planned_role m.roles g slot) same) ∙ is) in
        record { room = moved.placed.holders role slot was; behind = moved.placed.behind role slot was })
    | inr (spare, other, rest) ↦ absurd (none-some role (sym (ap (λ (g : Give). planned_role m.roles g slot) spare) ∙ is))
  ]

  spare-roomy : AreSparesFree given m → (slot : ℕ) → is_planned_spare m.spares ch.added (give_of ch.gives slot) slot ≡ true → IsRoomy given m slot × HasNoRole m ch slot
  spare-roomy free slot so = elim (dropped-or m active-then moved.placed.fit moved.placed.roles small-then whole-then slot) [
    | inl (same, rest) ↦ (
        let spare = or-none (has_spare m.spares slot) (sym (ap (λ (g : Give). is_planned_spare m.spares None g slot) same) ∙ so) in
        let f = free slot spare in (
          record { room = f.room; behind = f.behind },
          λ role is. f.none role (role-holder slot m.roles role (sym (ap (λ (g : Give). planned_role m.roles g slot) same) ∙ is)),
        ))
    | inr (spare, other, is) ↦ (
      record { room = moved.placed.holders other slot (ap holder is); behind = moved.placed.behind other slot (ap holder is) },
      λ role held. none-some role (sym (ap (λ (g : Give). planned_role m.roles g slot) spare) ∙ held),
    )
  ]

  -- a role of the plan is what it was
  pub kept-role : (role slot : ℕ) → holder (role_state (reading_of (planned_view m (ending m) m.lost)) role) ≡ Some slot
      → role_state (reading_of (planned_view m (ending m) m.lost)) role ≡ role_state (reading_of m) role
  kept-role role slot held = elim (planned-or m ch m.lost role) [
    | inl none ↦ absurd (none-some slot (sym (ap holder none) ∙ held))
    | inr p ↦ elim (dropped-or m active-then moved.placed.fit moved.placed.roles small-then whole-then p.slot) [
      | inl (same, rest) ↦ p.state ∙ ap (λ (g : Give). held_state (get_or m.roles role Missing) g p.slot) same
      | inr (spare, other, rest) ↦ absurd (none-some role (sym (ap (λ (g : Give). planned_role m.roles g p.slot) spare) ∙ p.planned))
    ]
  ]

  module _ (free : AreSparesFree given m) (new : Members) {tells : Type 0} {before after : List Operation} (done : IsChanged tells given (ending m) m new before after)
      (less : IsLessView (planned_view m (ending m) m.lost) new) (fit : AreShapesFit new.newest) (long : length m.own ≡ 32) where
    pub ended-made : IsMade given m (ending m) new
    ended-made = record {
      gives = gives-live;
      newest = done.newest;
      own = done.own;
      roles = done.roles;
      spares = done.spares;
      stay = done.stay;
      alive = done.alive;
      less = less;
      fit = fit;
      size = refl;
      long = long;
      holders = λ slot role lt is. holder-roomy slot role is;
      idle = λ slot lt so. spare-roomy free slot so;
    }

    unlost-before : (s : ℕ) → has_slot new.lost s ≡ false → has_slot m.lost s ≡ false
    unlost-before s kept = of (has_slot m.lost s) refl
      where
        of : (b : Bool) → has_slot m.lost s ≡ b → b ≡ false
        of true is = absurd (let e = done.stay s is in let clash = sym e ∙ kept in cc)
        of false is = refl

    pub ended-one : HasOneHolder m (ending m) new.lost
    ended-one s t role kept kept' is is' = dropping-one m active-then moved.placed.fit moved.placed.roles small-then whole-then s t role (unlost-before s kept) (unlost-before t kept') is is'

    -- each role that a slot holds at the end is what it was
    pub states-then : (role slot : ℕ) → holder (role_state (reading_of new) role) ≡ Some slot → role_state (reading_of new) role ≡ role_state (reading_of old) role
    states-then role slot held =
        let one = less.states role slot held in
        let two = kept-role role slot (sym (ap holder one) ∙ held) in
        one ∙ two ∙ moved.states role slot (sym (ap holder (one ∙ two)) ∙ held)

    pub still-then : (role slot : ℕ) → holder (role_state (reading_of new) role) ≡ Some slot → holder (role_state (reading_of m) role) ≡ Some slot
    still-then role slot held =
        let one = less.states role slot held in
        let two = kept-role role slot (sym (ap holder one) ∙ held) in
        sym (ap holder (one ∙ two)) ∙ held

  -- what a slot that holds a row has of it is as it was
  there-still : (c c' : Contents) → IsPlaced given old → AreOthersPresent c c' → (slot role row : ℕ) → held_slot (reading_of m) role row ≡ Some slot
      → c' slot (data_offset_of (reading_of m) slot + row) ≡ c slot (data_offset_of (reading_of old) slot + row)
  there-still c c' was others slot role row held =
      ap (λ (n : ℕ). c' slot (n + row)) (moved.offsets slot)
      ∙ others slot (data_offset_of (reading_of old) slot + row)
      (λ e. absurd (let far = was.behind role slot (moved.held role slot (holder-of (reading_of m) role row slot held)) in omega (arith, e, far)))

  -- ---- the plan stands, flushed

  module _ (scope : Scope) (former : ArePlaced scope given old) where
    pub placed-then : ArePlaced scope given m
    placed-then = record {
      fit = moved.placed.fit;
      roles = moved.placed.roles;
      holders = moved.placed.holders;
      behind = moved.placed.behind;
      members_own = λ role slot held. former.members_own role slot (moved.held role slot held);
      apart = moved.placed.apart;
      backup = (λ i. cond (not (moved.reshape.reshaping i) || has_room scope (min (unit (moved.shape i) (moved.reshape.final i)) (long-same i))) None (Some BackupAbsent)) ∙ former.backup;
    }

    module _ (sound : Type 0) (more : Ledger) (c c' : Contents) (list : ℕ → Sector) (d : Disk) (was : IsPlaced given old) (others : AreOthersPresent c c') (same_clean : is_clean m.newest ≡ is_clean old.newest)
        (few : DoWithout m) (flushed : AreAllFlushed m c' d) (able : IsFinishable sound more old c list) (unclean : IsUncleanTold more old)
        (gone : AreGoneTold more (planned_view m (ending m) m.lost)) where
      abbrev Plan : Members
      Plan = planned_view m (ending m) m.lost

      plan-ended : IsEnded m (planned_view m (ending m) m.lost)
      plan-ended = is-ended m active-then moved.placed.fit moved.placed.roles small-then whole-then last-then m.lost (λ does. few)

      plan-placed : ArePlaced scope given (planned_view m (ending m) m.lost)
      plan-placed = plan-placed-is m active-then moved.placed.fit moved.placed.roles small-then whole-then scope given m.lost placed-then

      final-same : final_shape m.newest ≡ final_shape old.newest
      final-same = moved.reshape.final

      plan-long : list_length (planned_view m (ending m) m.lost).newest ≡ more.size
      plan-long = list-still Plan.newest plan-ended.still ∙ (λ i. data_disks ((plan-ended.shape ∙ final-same) i) * (plan-ended.size ∙ moved.size) i) ∙ sym able.sized

      after-is : (x : ℕ) → shape_for (planned_view m (ending m) m.lost).newest x ≡ final_shape m.newest
      after-is x = for-still Plan.newest plan-ended.still x ∙ plan-ended.shape

      before-is : (x : ℕ) → x < list_length m.newest → shape_for m.newest x ≡ final_shape m.newest
      before-is x lt = (ends-place m.newest x active-then lt).1 last-then

      -- backward the list is no longer than before
      short : is_backward m.newest ≡ true → list_length (planned_view m (ending m) m.lost).newest ≤ list_length m.newest
      short back =
          let le : data_disks (final_shape m.newest) ≤ data_disks (shape_of m.newest) = subst (IsDirected (shape_of m.newest) (final_shape m.newest)) back (under-way m.newest moved.placed.fit active-then).directed in
          let least : data_disks (final_shape m.newest) ≡ min (data_disks (shape_of m.newest)) (data_disks (final_shape m.newest)) = omega (arith, le) in
          let both : data_disks (final_shape m.newest) * m.newest.size ≡ list_length m.newest = ap (λ (k : ℕ). k * m.newest.size) least in
          let long : list_length Plan.newest ≡ data_disks (final_shape m.newest) * m.newest.size = list-still Plan.newest plan-ended.still ∙ (λ i. data_disks (plan-ended.shape i) * plan-ended.size i) in
          omega (arith, long, both)

      alike : list_length (planned_view m (ending m) m.lost).newest ≤ list_length m.newest → ArePlacesAlike m (planned_view m (ending m) m.lost)
      alike within = record {
        within = within;
        shapes = λ x lt. same-placed (shape_for m.newest x) (shape_for Plan.newest x) (after-is x ∙ sym (before-is x (omega (arith, lt, within))));
        kept = λ x lt. subst (λ (s : Shape). AreRolesKept m Plan s.disks (shape_for Plan.newest x).disks) (sym (before-is x (omega (arith, lt, within))))
            (subst (λ (s : Shape). AreRolesKept m Plan (final_shape m.newest).disks s.disks) (sym (after-is x)) plan-ended.kept);
      }

      -- the list and its rows, on the members behind the flush
      list-then : ListStands None m c' list
      list-then = shown-moved given old m c c' list moved was others None able.stands

      rows-then : is_clean m.newest ≡ true → sound → RowsStand None m c' list
      rows-then clean premise = shown-rows-moved given old m c c' list moved was others None (able.rows (sym same_clean ∙ clean) (without-before given old m moved few) premise)

      -- and the zeros behind them
      module _ (forth : is_backward m.newest ≡ false) where
        behind : IsZeroBehind old c list
        behind = able.behind (sym moved.reshape.backward ∙ forth)

        past-then : (row : ℕ) → IsPastRow m row → RowStands (reading_of m) c' (final_shape m.newest) (λ x. zero_sector) row
        past-then row past = subst (λ (s : Shape). RowStands (reading_of m) c' s (λ x. zero_sector) row) (sym final-same)
            (row-moved given old m c c' (λ x. zero_sector) moved was others row (final_shape old.newest)
            (behind.past row (subst (λ (s : Shape). (rows s 0 (list_length old.newest)).hi ≤ row) final-same
            (subst (λ (n : ℕ). (rows (final_shape m.newest) 0 n).hi ≤ row) long-same past))))

        -- a sector of the tail is one of the members before
        tail-before : (x : ℕ) → IsTail m.newest x → IsTail old.newest x
        tail-before x tail = record {
          active = sym moved.reshape.reshaping ∙ tail.active;
          forth = sym moved.reshape.backward ∙ tail.forth;
          through = sym moved.reshape.position ∙ tail.through ∙ long-same;
          past = (let le = tail.past in let long = long-same in omega (arith, le, long));
          stripe = sym (ap (λ (s : Shape). stripe_of s x) final-same) ∙ tail.stripe ∙ (λ i. stripe_of (final-same i) (long-same i - 1));
        }

        tail-then : AreTailsStanding m c' list
        tail-then x slot tail held =
            there-still c c' was others slot (place (final_shape m.newest) x).role (place (final_shape m.newest) x).row held
            ∙ at-final x slot (tail-before x tail) (held-moved moved (place (final_shape m.newest) x).role (place (final_shape m.newest) x).row slot held)
          where
            at-final : (x slot : ℕ) → IsTail old.newest x → held_slot (reading_of old) (place (final_shape m.newest) x).role (place (final_shape m.newest) x).row ≡ Some slot
                → c slot (data_offset_of (reading_of old) slot + (place (final_shape m.newest) x).row) ≡ list x
            at-final x slot tail = subst
                (λ (s : Shape). held_slot (reading_of old) (place s x).role (place s x).row ≡ Some slot → c slot (data_offset_of (reading_of old) slot + (place s x).row) ≡ list x) (sym final-same)
                (behind.tail x slot tail)

        grown : ListStands None (planned_view m (ending m) m.lost) c' list × (RowsStand None m c' list → RowsStand None (planned_view m (ending m) m.lost) c' list)
        grown =
            let stand = grown-stands scope given m Plan c' list plan-ended placed-then plan-placed forth (λ x le. behind.zeros x (let long = long-same in omega (arith, le, long))) in (
              stand.0 list-then tail-then (λ row past. (past-then row past).sectors),
              λ rows. stand.1 rows past-then,
            )

      stands-or : ListStands None (planned_view m (ending m) m.lost) c' list × (RowsStand None m c' list → RowsStand None (planned_view m (ending m) m.lost) c' list)
      stands-or = of (is_backward m.newest) refl
        where
          of : (b : Bool) → is_backward m.newest ≡ b → ListStands None (planned_view m (ending m) m.lost) c' list × (RowsStand None m c' list → RowsStand None (planned_view m (ending m) m.lost) c' list)
          of true back =
              let stand = places-alike-stand scope given m Plan c' list plan-placed (alike (short back)) in
              (stand.0 list-then, stand.1)
          of false forth = grown forth

      clean-then : is_clean (planned_view m (ending m) m.lost).newest ≡ is_clean old.newest
      clean-then = ap (λ (n : ℕ). n == 2 ^ 64 - 1) plan-ended.clean ∙ same_clean

      pub plan-flushed : IsFlushedRight sound scope given more (planned_view m (ending m) m.lost) c' list d
      plan-flushed = record {
        placed = plan-placed;
        sized = plan-long;
        flushed = λ role slot k held other. flushed role slot k (sym (ap holder (kept-role role slot held)) ∙ held) other;
        allowed = λ x lt. able.allowed x (let long = plan-long in omega (arith, lt, long));
        stands = stands-or.0;
        rows = λ clean does premise. stands-or.1 (rows-then (same_clean ∙ sym clean-then ∙ clean) premise);
        plain = still-plain scope Plan d plan-ended.still;
        missing = gone;
        unclean = λ dirty. unclean (sym clean-then ∙ dirty);
        reshaping = λ on. absurd (let still = plan-ended.still in let clash = sym still ∙ on in cc);
        headers = λ on premise. absurd (let still = plan-ended.still in let clash = sym still ∙ on in cc);
        zeros = λ premise. tail-still (planned_view m (ending m) m.lost).newest plan-ended.still list;
        tails = λ premise x slot tail. absurd (untailed (planned_view m (ending m) m.lost).newest plan-ended.still x tail);
      }

-- ---- what was lost

module _ (given : Given) (old m new : Members) (moved : IsMoved given old m) (active : is_reshaping old.newest ≡ true) (last : IsAtEnd old.newest) (whole : HasNoneRecovering old)
    {tells : Type 0} {before after : List Operation} (done : IsChanged tells given (ending m) m new before after) (f0 f1 f2 : ℕ → ℕ) (rising : NeverFalls f0 f1) (more : NeverFalls f1 f2)
    (losses : AreLosses (live_set m (ending m)) m.lost new.lost f1 f2) (roles spares lost : ℕ) (lost-is : (s : ℕ) → has_slot lost s ≡ (has_slot new.lost s && not (has_slot m.lost s)))
    (one : HasOneHolder m (ending m) new.lost) (since : HaveFailedSince old m spares f0 f1) (unlost : AreUnlost m) (free : AreSparesFree given m)
    (roles-are : (role slot : ℕ) → holder (role_state (reading_of old) role) ≡ Some slot → (holder (role_state (reading_of m) role) ≡ Some slot) ⊎ ((has_slot roles role ≡ true) × IsFaulted slot f0 f1))
    (roles-gone : (role : ℕ) → has_slot roles role ≡ true → (slot : ℕ) × (holder (role_state (reading_of old) role) ≡ Some slot) × IsFaulted slot f0 f1) where
  later : (s : ℕ) → IsFaulted s f0 f1 → IsFaulted s f0 f2
  later s failed = faulted_longer s f0 f0 f1 f2 (omega arith) (more s) (rising s) failed

  in-lost : (s : ℕ) → has_slot new.lost s ≡ true → has_slot m.lost s ≡ false → has_slot lost s ≡ true
  in-lost s gone kept = lost-is s ∙ (λ i. gone i && not (kept i))

  -- a holder at the flush
  held-at : (role slot : ℕ) → holder (role_state (reading_of m) role) ≡ Some slot
      → (holder (role_state (reading_of new) role) ≡ Some slot) ⊎ ((has_slot lost slot ≡ true) ⊎ (((final_shape old.newest).disks ≤ role) × (has_spare new.spares slot ≡ true)))
  held-at role slot held = of (has_slot new.lost slot) refl
    where
      small : slot < 32
      small = (moved.placed.holders role slot held).small

      final-disks : m.newest.raid_disks ≡ (final_shape old.newest).disks
      final-disks = disks-are m (active-then given old m moved active last whole) moved.placed.fit moved.placed.roles (small-then given old m moved active last whole) (whole-then given old m moved active last whole)
          ∙ ap (λ (s : Shape). s.disks) moved.reshape.final

      of : (b : Bool) → has_slot new.lost slot ≡ b
          → (holder (role_state (reading_of new) role) ≡ Some slot) ⊎ ((has_slot lost slot ≡ true) ⊎ (((final_shape old.newest).disks ≤ role) × (has_spare new.spares slot ≡ true)))
      of true gone = inr (inl (in-lost slot gone (unlost role slot held)))
      of false kept = elim (dropped-or m (active-then given old m moved active last whole) moved.placed.fit moved.placed.roles (small-then given old m moved active last whole) (whole-then given old m moved active last whole) slot) [
        | inl (same, rest) ↦ (
            let planned : planned_role m.roles (give_of (ending m).gives slot) slot ≡ Some role = ap (λ (g : Give). planned_role m.roles g slot) same ∙ role-of slot role held in
            let below : role < role_count (ending m).shared = (dropping m (active-then given old m moved active last whole) moved.placed.fit moved.placed.roles (small-then given old m moved active last whole)
            (whole-then given old m moved active last whole)).below slot role (unlost role slot held) same held in
            inl (ap (λ (l : List Role). holder (get_or l role Missing)) done.roles
            ∙ ap holder (get_or-tabulate (role_count (ending m).shared) (planned_state m.roles (ending m).gives new.lost) role Missing below)
            ∙ planned-held m (ending m) new.lost one slot role small kept planned))
        | inr (spare, other, is) ↦ inr (inr (
          late spare,
          ap (λ (l : List ℕ). has_spare l slot) done.spares ∙ planned-spare m (ending m) new.lost slot small kept (ap (λ (g : Give). is_planned_spare m.spares None g slot) spare),
        ))
      ]
        where
          role-of : (slot role : ℕ) → holder (role_state (reading_of m) role) ≡ Some slot → role_from slot 0 m.roles ≡ Some role
          role-of slot role held = found (role_from slot 0 m.roles) refl (some_role slot 0 m.roles ∙ any-held slot m.roles role held)
            where
              found : (o : Option ℕ) → role_from slot 0 m.roles ≡ o → is_some (role_from slot 0 m.roles) ≡ true → role_from slot 0 m.roles ≡ Some role
              found None e is = absurd (let clash = sym (ap (λ (o : Option ℕ). is_some o) e) ∙ is in cc)
              found (Some r) e is = e ∙ ap (λ (n : ℕ). Some n) (moved.placed.apart r role slot (role-holder slot m.roles r e) held)

          -- who becomes a spare holds a role that is dropped
          late : give_of (ending m).gives slot ≡ Spare → (final_shape old.newest).disks ≤ role
          late spare = from (holds_from m.roles m.newest.raid_disks slot) refl
            where
              given-is : give_of (ending m).gives slot ≡ dropped_give m.roles m.newest.raid_disks slot
              given-is = get_or-tabulate 32 (dropped_give m.roles m.newest.raid_disks) slot Same small

              from : (b : Bool) → holds_from m.roles m.newest.raid_disks slot ≡ b → (final_shape old.newest).disks ≤ role
              from true is =
                  let found = any-holds slot (drop m.newest.raid_disks m.roles) is in
                  let same : m.newest.raid_disks + found.0 ≡ role = moved.placed.apart (m.newest.raid_disks + found.0) role slot
                  (ap holder (sym (get_or-drop m.newest.raid_disks m.roles found.0 Missing)) ∙ found.1) held in
                  let disks = final-disks in
                  omega (arith, same, disks)
              from false is = absurd (let clash = sym spare ∙ given-is ∙ ap (λ (b : Bool). cond b Spare Same) is in cc)

  pub lost-in-end : AreLostInEnd old new roles spares lost f0 f2
  lost-in-end = record {
    held = λ role slot held. elim (roles-are role slot held) [
      | inl still ↦ elim (held-at role slot still) [ inl there ↦ inl there | inr rest ↦ inr (inr rest) ]
      | inr (gone, failed) ↦ inr (inl (gone, later slot failed))
    ];
    gone = λ role has. let it = roles-gone role has in (it.0, it.1, later it.0 it.2);
    spares_are = λ slot has. later slot (since.spares_are slot has);
    lost_are = λ slot has. (
        let parts = both (has_slot new.lost slot) (not (has_slot m.lost slot)) (sym (lost-is slot) ∙ has) in
        faulted_longer slot f0 f1 f2 f2 (rising slot) (omega arith) (more slot) (losses.failed slot parts.0 (flip (has_slot m.lost slot) parts.1)));
    were = since.were;
    lost_were = λ slot has. (
        let parts = both (has_slot new.lost slot) (not (has_slot m.lost slot)) (sym (lost-is slot) ∙ has) in
        was-live slot (losses.live slot parts.0 (flip (has_slot m.lost slot) parts.1)));
    told = λ slot has. elim (since.told slot has) [
      | inr gone ↦ inr (inl gone)
      | inl still ↦ spare-at slot still
    ];
  }
    where
      both : (a b : Bool) → (a && b) ≡ true → (a ≡ true) × (b ≡ true)
      both true b e = (refl, e)
      both false b e = absurd (cc)

      flip : (b : Bool) → not b ≡ true → b ≡ false
      flip true e = absurd (cc)
      flip false e = refl

      -- a slot that is live in the update is a spare then, or holds a role; so it was before the flush
      was-live : (slot : ℕ) → has_slot (live_set m (ending m)) slot ≡ true → (has_spare old.spares slot ≡ true) ⊎ ((role : ℕ) × (holder (role_state (reading_of old) role) ≡ Some slot))
      was-live slot live = of (list_any (is_held_by slot) m.roles) refl
          (both (nat_lt slot 32) (is_live m.roles m.spares slot) (sym (live-of m (ending m) refl slot) ∙ live)).1
        where
          of : (b : Bool) → list_any (is_held_by slot) m.roles ≡ b → (b || has_spare m.spares slot) ≡ true → (has_spare old.spares slot ≡ true) ⊎ ((role : ℕ) × (holder (role_state (reading_of old) role) ≡ Some slot))
          of true holds e = let found = any-holds slot m.roles holds in inr (found.0, moved.held found.0 slot found.1)
          of false holds e = inl (moved.fewer slot e)

      spare-at : (slot : ℕ) → has_spare m.spares slot ≡ true → (has_spare new.spares slot ≡ true) ⊎ ((has_slot spares slot ≡ true) ⊎ (has_slot lost slot ≡ true))
      spare-at slot is = of (has_slot new.lost slot) refl
        where
          f : IsFree given m slot
          f = free slot is

          of : (b : Bool) → has_slot new.lost slot ≡ b → (has_spare new.spares slot ≡ true) ⊎ ((has_slot spares slot ≡ true) ⊎ (has_slot lost slot ≡ true))
          of true gone = inr (inr (in-lost slot gone f.unlost))
          of false kept = inl (ap (λ (l : List ℕ). has_spare l slot) done.spares ∙ planned-spare m (ending m) new.lost slot f.room.small kept
              (elim (dropped-or m (active-then given old m moved active last whole) moved.placed.fit moved.placed.roles (small-then given old m moved active last whole) (whole-then given old m moved active last whole) slot) [
                | inl (same, rest) ↦ ap (λ (g : Give). is_planned_spare m.spares None g slot) same ∙ ap (λ (b : Bool). b || false) is
                | inr (spare, other, here) ↦ ap (λ (g : Give). is_planned_spare m.spares None g slot) spare
              ]))

-- the roles that lost their slots in the flush
module _ (given : Given) (old m : Members) (moved : IsMoved given old m) (was : IsPlaced given old) (whole : HasNoneRecovering old) (count first roles : ℕ) (count-is : count ≡ length old.roles)
    (first-is : (role : ℕ) → has_slot first role ≡ (nat_lt role count && is_unassigned (reading_of old) role))
    (roles-is : (role : ℕ) → has_slot roles role ≡ ((nat_lt role count && is_unassigned (reading_of m) role) && not (has_slot first role))) where
  is-less : (a b : ℕ) → a < b → nat_lt a b ≡ true
  is-less a b lt = grind (arith, nat_tests, lt)

  never : (b : Bool) → (b && false) ≡ false
  never true = refl
  never false = refl

  in-roles : (role : ℕ) → role < count → is_unassigned (reading_of m) role ≡ true → is_unassigned (reading_of old) role ≡ false → has_slot roles role ≡ true
  in-roles role lt vacant held = roles-is role ∙ (λ i. (is-less role count lt i && vacant i) && not ((first-is role ∙ ap (λ (b : Bool). nat_lt role count && b) held ∙ never (nat_lt role count)) i))

  pub roles-lost : (spares : ℕ) (f0 f1 : ℕ → ℕ) → HaveFailedSince old m spares f0 f1 → (role slot : ℕ) → holder (role_state (reading_of old) role) ≡ Some slot
      → (holder (role_state (reading_of m) role) ≡ Some slot) ⊎ ((has_slot roles role ≡ true) × IsFaulted slot f0 f1)
  roles-lost spares f0 f1 since role slot held = elim (since.roles role slot held) [
    | inl there ↦ inl there
    | inr failed ↦ of (holder (role_state (reading_of m) role)) refl failed
  ]
    where
      of : (o : Option ℕ) → holder (role_state (reading_of m) role) ≡ o → IsFaulted slot f0 f1 → (holder (role_state (reading_of m) role) ≡ Some slot) ⊎ ((has_slot roles role ≡ true) × IsFaulted slot f0 f1)
      of (Some s) is failed = inl (is ∙ sym (moved.held role s is) ∙ held)
      of None is failed = inr (
        in-roles role (let lt = below-length old.roles role slot held in omega (arith, lt, count-is)) (ap (λ (o : Option ℕ). not (is_some o)) is) (ap (λ (o : Option ℕ). not (is_some o)) held),
        failed,
      )

  both-parts : (a b c : Bool) → ((a && b) && not c) ≡ true → (a ≡ true) × (b ≡ true) × (c ≡ false)
  both-parts true true false e = (refl, refl, refl)
  both-parts true true true e = absurd (cc)
  both-parts true false c e = absurd (cc)
  both-parts false b c e = absurd (cc)

  pub roles-gone : (spares : ℕ) (f0 f1 : ℕ → ℕ) → HaveFailedSince old m spares f0 f1 → (role : ℕ) → has_slot roles role ≡ true
      → (slot : ℕ) × (holder (role_state (reading_of old) role) ≡ Some slot) × IsFaulted slot f0 f1
  roles-gone spares f0 f1 since role has = of (holder (role_state (reading_of old) role)) refl
    where
      parts : (nat_lt role count ≡ true) × (is_unassigned (reading_of m) role ≡ true) × (has_slot first role ≡ false)
      parts = both-parts (nat_lt role count) (is_unassigned (reading_of m) role) (has_slot first role) (sym (roles-is role) ∙ has)

      of : (o : Option ℕ) → holder (role_state (reading_of old) role) ≡ o → (slot : ℕ) × (holder (role_state (reading_of old) role) ≡ Some slot) × IsFaulted slot f0 f1
      of (Some slot) is = (
        slot,
        is,
        elim (since.roles role slot is) [
          | inl there ↦ absurd (let clash = sym (ap (λ (o : Option ℕ). not (is_some o)) there) ∙ parts.1 in cc)
          | inr failed ↦ failed
        ],
      )
      of None is = absurd (
          let was : has_slot first role ≡ true = first-is role ∙ (λ i. parts.0 i && not (is_some (is i))) in
          let clash = sym was ∙ parts.2 in cc)

  -- what is missing behind it is told, where it was and they are
  pub gone-then : (told : Ledger) → AreGoneTold told old → ((role : ℕ) → has_slot roles role ≡ true → told.gone role ≡ true) → AreGoneTold told m
  gone-then told gone tells role lt missing = of (role_state (reading_of m) role) refl
    where
      below : role < role_count old.newest
      below = (let count = count-alike old.newest m.newest moved.reshape moved.shape moved.size in omega (arith, lt, count))

      first-or : is_unassigned (reading_of m) role ≡ true → (b : Bool) → is_unassigned (reading_of old) role ≡ b → told.gone role ≡ true
      first-or vacant true before = gone role below (missing-vacant (role_state (reading_of old) role) before)
        where
          missing-vacant : (state : Role) → not (is_some (holder state)) ≡ true → not (is_whole state) ≡ true
          missing-vacant (Whole s) e = absurd (cc)
          missing-vacant (Recovering s) e = absurd (cc)
          missing-vacant Missing e = refl
      first-or vacant false before = tells role (in-roles role (let long = was.roles in omega (arith, below, long, count-is)) vacant before)

      of : (state : Role) → role_state (reading_of m) role ≡ state → told.gone role ≡ true
      of (Whole s) is = absurd (let clash = sym (ap (λ (state : Role). not (is_whole state)) is) ∙ missing in cc)
      of (Recovering s) is = absurd (whole role s (sym (moved.states role s (ap holder is)) ∙ is))
      of Missing is = first-or (ap (λ (state : Role). not (is_some (holder state))) is) (is_unassigned (reading_of old) role) refl

  pub lost-in-flush : (spares : ℕ) (f0 f1 : ℕ → ℕ) → HaveFailedSince old m spares f0 f1 → AreLostInEnd old m roles spares 0 f0 f1
  lost-in-flush spares f0 f1 since = record {
    held = λ role slot held. elim (roles-lost spares f0 f1 since role slot held) [ inl there ↦ inl there | inr gone ↦ inr (inl gone) ];
    gone = roles-gone spares f0 f1 since;
    spares_are = since.spares_are;
    lost_are = λ slot has. absurd (let clash = sym (none_there slot) ∙ has in cc);
    were = since.were;
    lost_were = λ slot has. absurd (let clash = sym (none_there slot) ∙ has in cc);
    told = λ slot has. elim (since.told slot has) [ inl there ↦ inl there | inr gone ↦ inr (inl gone) ];
  }

-- there is room before the end
pub room-first : (m : Members) (before mid after : List Operation) → length mid ≤ length after → HasRoomLeft m before after → HasRoomLeft m before mid
room-first m before mid after longer room live = let enough = room live in omega (arith, longer, enough)
