-- The steps that are left once a reshape ended: one fewer where no role was missing and its call lost nothing.
use Rattle.std.proofs.Common.{◌≡◌, ◌⊎◌, inl, inr, ℕ, zero, suc, ◌+◌, ◌<◌, ◌≤◌, ◌||◌, min, max, Bool, true, false, not, cond, is_some, List, [], ◌∷◌, ◌++◌, Option, None, refl, sym, ◌∙◌, ap, arith, ◌*◌}
use Rattle.std.specs.List.{list_any}
use Rattle.std.proofs.lemmas.Bool.{cases_eq}
use Rattle.std.proofs.lemmas.List.Folds.{list_any-append}
use Rattle.array_reshaping_steps.specs.raid_types_Search.{count_below}
use Rattle.array_reshaping_steps.specs.raid_types_the_Who.{Who}
use Rattle.array_reshaping_steps.specs.raid_types_the_Shape.{Shape}
use Rattle.array_reshaping_steps.specs.raid_types_the_Role.{Role}
use Rattle.array_reshaping_steps.specs.raid_types_the_Role_TheVariants.{Whole, Recovering, Missing}
use Rattle.array_reshaping_steps.specs.reshape_plan_Plans.{phases_steps}
use Rattle.array_reshaping_steps.specs.sb_specs_the_Members.{Members}
use Rattle.array_reshaping_steps.specs.sb_specs_Reading.{is_reshaping, is_whole, shape_of, final_shape, role_count, role_state, holder, next_window}
use Rattle.array_reshaping_steps.specs.stripe_row_Rows.{reading_of, is_missing}
use Rattle.array_reshaping_steps.specs.history_the_Event.{Event}
use Rattle.array_reshaping_steps.specs.history_the_Event_TheVariants.{Lost}
use Rattle.array_reshaping_steps.specs.history_Legal.{disturbs}
use Rattle.array_reshaping_steps.specs.history_Plain.{entries_of, loses_role}
use Rattle.array_reshaping_steps.proofs.crash_views_Stands.{final-still}
use Rattle.array_reshaping_steps.specs.crash_reshape_laws_Plans.{HasNoneRecovering}
use Rattle.array_reshaping_steps.specs.reshape_begin_end_Finished.{IsOver}
use Rattle.array_reshaping_steps.specs.array_members_the_Work.{Work}
use Rattle.array_reshaping_steps.specs.array_members_Placed.{is_unassigned, AreWhole}
use Rattle.array_reshaping_steps.specs.array_members_Status.{left_of, resync_left, recovery_left, role_left, rebuilt_of, stripes_of, spare_count, vacant_count}
use Rattle.array_reshaping_steps.proofs.array_members_Still.{count-still}
use Rattle.array_reshaping_steps.specs.history_append_Losing.{losses_of}
use Rattle.array_reshaping_steps.specs.reshape_request_the_PhasesLeft.{PhasesLeft}
use Rattle.array_reshaping_steps.specs.reshape_request_the_Window_TheVariants.{Closed}
use Rattle.array_reshaping_steps.specs.reshape_request_Left.{IsReshapeUnderWay, phases_of, grow_left, reshape_left, zeroed_by}
use Rattle.array_reshaping_steps.proofs.reshape_request_LeftLaws.{ending as ending-left}
use Rattle.array_reshaping_end_laws.proofs.history_invariant_laws_Behind.{IsAmong}
use Rattle.array_reshaping_steps.specs.reshape_progress_Laws.{closed}
use Rattle.array_reshaping_end_laws.proofs.Ended.{IsStepped}
use Rattle.array_reshaping_end_laws.proofs.Ending.{only-lost}
use Rattle.array_reshaping_steps.specs.array_specs_Parts.{still_left}
use Rattle.array_reshaping_steps.proofs.array_reshaping_laws_Kept.{left_by}

-- no times a number is none
none-times : (m n : ℕ) → m ≡ 0 → m * n ≡ 0
none-times m n is = let none : 0 * n ≡ 0 = omega arith in ap (λ (k : ℕ). k * n) is ∙ none

-- ---- nothing is to be rebuilt

recovery-zero : (work : Work) (m : Members) (n : ℕ) → HasNoneRecovering m → recovery_left work m n ≡ 0
unfolding recovery_left
recovery-zero work m zero none = refl
recovery-zero work m (suc n) none =
    let before = recovery-zero work m n none in
    let here = of (role_state (reading_of m) n) refl in
    omega (arith, before, here)
  where
    of : (state : Role) → role_state (reading_of m) n ≡ state → role_left (stripes_of m) (rebuilt_of work n) state ≡ 0
    of (Whole slot) is = refl
    of (Recovering slot) is = absurd (none n slot is)
    of Missing is = refl

pub count-zero : (n : ℕ) (test : ℕ → Bool) → ((k : ℕ) → k < n → test k ≡ false) → count_below n test ≡ 0
unfolding count_below
count-zero zero test none = refl
count-zero (suc n) test none = let before = count-zero n test (λ k lt. none k (omega (arith, lt))) in let here : cond (test n) 1 0 ≡ 0 = ap {B = ℕ} (λ (b : Bool). cond b 1 0) (none n (omega arith)) in omega (arith, before, here)

held-there : (state : Role) → not (is_whole state) ≡ false → (slot : ℕ) × (state ≡ Whole slot)
held-there (Whole slot) e = (slot, refl)
held-there (Recovering slot) e = absurd (cc)
held-there Missing e = absurd (cc)

whole-filled : (m : Members) (role : ℕ) → is_missing (reading_of m) role ≡ false → is_unassigned (reading_of m) role ≡ false
whole-filled m role is = let there = held-there (role_state (reading_of m) role) is in ap (λ (s : Role). not (is_some (holder s))) there.1

none-least : (m n : ℕ) → m ≡ 0 → min m n ≡ 0
none-least m n is = omega (arith, is)

pub whole-idle : (work : Work) (m : Members) → work.resync ≡ None → is_reshaping m.newest ≡ false → HasNoneRecovering m → AreWhole m → left_of work m ≡ 0
whole-idle work m synced still none whole =
    let resyncs : resync_left work.resync m ≡ 0 = ap (λ (o : Option ℕ). resync_left o m) synced in
    let roles = recovery-zero work m (shape_of m.newest).disks none in
    let vacant : vacant_count m ≡ 0 = count-zero (shape_of m.newest).disks (is_unassigned (reading_of m)) (λ k lt. whole-filled m k (whole k (let count = count-still m.newest still in omega (arith, lt, count)))) in
    let pairs = none-times (min (vacant_count m) (spare_count m)) (stripes_of m + 2) (none-least (vacant_count m) (spare_count m) vacant) in
    omega (arith, resyncs, roles, pairs)

-- ---- one fewer is left

pub whole-left : (old new : Members) (work : Work) (ahead : PhasesLeft) → IsReshapeUnderWay old.newest → next_window old.newest ≡ None → IsOver old.newest new.newest → left_of work new ≡ 0
    → still_left work new ahead + 1 ≡ left_by None old (closed (zeroed_by old.newest)) ahead
whole-left old new work ahead going none over idle =
    ap (λ (n : ℕ). n + 1) (sym (
    ap (λ (b : Bool). cond b (reshape_left new.newest Closed 0) 0 + phases_steps (final_shape new.newest) new.newest.size (phases_of ahead)) over.still
    ∙ (λ i. 0 + phases_steps (final-still new.newest over.still i) new.newest.size (phases_of ahead))
    ∙ ap (λ (n : ℕ). n + phases_steps (shape_of new.newest) new.newest.size (phases_of ahead)) (sym idle)))
    ∙ ending-left old.newest new.newest (phases_of ahead) going none (record { still = over.still; shape = over.shape; size = over.size })
    ∙ (let n = grow_left old.newest Closed (zeroed_by old.newest) (phases_of ahead) in let e : n ≡ n + 0 = omega arith in e)

-- ---- losses

lost-disturbs : (who : Who) (end role : ℕ) (xs : List Event) → list_any (λ e. loses_role role e.event) (entries_of who end xs) ≡ true → list_any disturbs xs ≡ true
lost-disturbs who end role [] is = absurd (cc)
lost-disturbs who end role (Lost r cause ∷ xs) is = refl
lost-disturbs who end role (x ∷ xs) is = later (disturbs x) (loses_role role x) (quiet x) (lost-disturbs who end role xs) is
  where
    quiet : (x : Event) → loses_role role x ≡ true → disturbs x ≡ true
    quiet (Lost r cause) is = refl
    quiet event is = absurd (cc)

    later : (a b : Bool) → (b ≡ true → a ≡ true) → (list_any (λ e. loses_role role e.event) (entries_of who end xs) ≡ true → list_any disturbs xs ≡ true)
        → (b || list_any (λ e. loses_role role e.event) (entries_of who end xs)) ≡ true → (a || list_any disturbs xs) ≡ true
    later true b first rest is = refl
    later false true first rest is = absurd (let both = first refl in cc)
    later false false first rest is = rest is

some-or-none : (n : ℕ) (test : ℕ → Bool) → ((k : ℕ) × (k < n) × (test k ≡ true)) ⊎ ((k : ℕ) → k < n → test k ≡ false)
some-or-none zero test = inr (λ k lt. absurd (omega (arith, lt)))
some-or-none (suc n) test = of (test n) refl (some-or-none n test)
  where
    of : (b : Bool) → test n ≡ b → ((k : ℕ) × (k < n) × (test k ≡ true)) ⊎ ((k : ℕ) → k < n → test k ≡ false) → ((k : ℕ) × (k < suc n) × (test k ≡ true)) ⊎ ((k : ℕ) → k < suc n → test k ≡ false)
    of true is rest = inl (n, omega arith, is)
    of false is (inl found) = inl (found.0, (let lt = found.1 in omega (arith, lt)), found.2)
    of false is (inr none) = inr (λ k lt. elim (cases_eq k n) [ inl same ↦ ap test same ∙ is | inr other ↦ none k (omega (arith, lt, other)) ])

-- ---- what the law of the end asks of the steps

module _ (old new : Members) (work : Work) (ahead : PhasesLeft) (who : Who) (end roles spares late late_spares : ℕ) (going : IsReshapeUnderWay old.newest) (none : next_window old.newest ≡ None) (over : IsOver old.newest new.newest)
    (synced : work.resync ≡ None) (whole : HasNoneRecovering new) (small : role_count new.newest ≤ 16)
    (since : (role : ℕ) → role < role_count new.newest → is_missing (reading_of new) role ≡ true → (is_missing (reading_of old) role ≡ true) ⊎ (IsAmong roles role ⊎ IsAmong late role)) where
  abbrev lost : List Event
  lost = losses_of roles spares ++ losses_of late late_spares

  within : (role : ℕ) → role < role_count new.newest → role < role_count old.newest
  within role lt =
      let count = count-still new.newest over.still in
      let disks = ap (λ (s : Shape). s.disks) over.shape in
      let most = larger (shape_of old.newest).disks (final_shape old.newest).disks in
      omega (arith, lt, count, disks, most)
    where
      larger : (a b : ℕ) → b ≤ max a b
      larger a b = omega arith

  neither-lost : (a b : Bool) → (a || b) ≡ false → (a ≡ false) × (b ≡ false)
  neither-lost false false is = (refl, refl)
  neither-lost true b is = absurd (cc)
  neither-lost false true is = absurd (cc)

  -- where none was missing, and nothing was lost, none is
  pub whole-new : list_any disturbs (losses_of roles spares ++ losses_of late late_spares) ≡ false → AreWhole old → AreWhole new
  whole-new quiet all role lt = by (is_missing (reading_of new) role) refl
    where
      none-lost : (list_any disturbs (losses_of roles spares) ≡ false) × (list_any disturbs (losses_of late late_spares) ≡ false)
      none-lost = neither-lost (list_any disturbs (losses_of roles spares)) (list_any disturbs (losses_of late late_spares)) (sym (list_any-append disturbs (losses_of roles spares) (losses_of late late_spares)) ∙ quiet)

      by : (b : Bool) → is_missing (reading_of new) role ≡ b → b ≡ false
      by false is = refl
      by true is = elim (since role lt is) [
        | inl was ↦ absurd (let both : true ≡ false = sym was ∙ all role (within role lt) in cc)
        | inr (inl has) ↦ absurd (let both : true ≡ false = sym (lost-disturbs who end role (losses_of roles spares) (only-lost who end roles spares role (omega (arith, lt, small)) has)) ∙ none-lost.0 in cc)
        | inr (inr has) ↦ absurd (let both : true ≡ false = sym (lost-disturbs who end role (losses_of late late_spares) (only-lost who end late late_spares role (omega (arith, lt, small)) has)) ∙ none-lost.1 in cc)
      ]

  pub ended-stepped : IsStepped old (left_by None old (closed (zeroed_by old.newest)) ahead) (still_left work new ahead) (losses_of roles spares ++ losses_of late late_spares)
  ended-stepped = of (list_any disturbs lost) refl (some-or-none (role_count old.newest) (is_missing (reading_of old)))
    where
      of : (b : Bool) → list_any disturbs lost ≡ b → ((k : ℕ) × (k < role_count old.newest) × (is_missing (reading_of old) k ≡ true)) ⊎ ((k : ℕ) → k < role_count old.newest → is_missing (reading_of old) k ≡ false)
          → IsStepped old (left_by None old (closed (zeroed_by old.newest)) ahead) (still_left work new ahead) (losses_of roles spares ++ losses_of late late_spares)
      of true is found = inr (inr is)
      of false is (inl found) = inr (inl found)
      of false is (inr all) = inl (sym (whole-left old new work ahead going none over (whole-idle work new synced over.still whole (whole-new is all))))
