-- The steps that are left behind a takeover: those of Q at level 6, and none at level 5, unless a loss is told.
use Rattle.std.proofs.Common.{◌≡◌, inl, inr, ℕ, zero, suc, ◌+◌, ◌-◌, ◌*◌, ◌<◌, ◌||◌, min, cond, Bool, true, false, not, Option, None, List, [], ◌∷◌, ◌++◌, refl, sym, ◌∙◌, ap, ap₂, arith}
use Rattle.std.specs.Prelude.{is_some, drop, length}
use Rattle.std.specs.List.{list_any}
use Rattle.std.proofs.Math.Seq.{drop-append_seam}
use Rattle.std.proofs.lemmas.Bool.{cases_lt}
use Rattle.std.proofs.lemmas.List.Folds.{list_any-append}
use Rattle.array_takeover_laws.specs.raid_types_Search.{count_below}
use Rattle.array_takeover_laws.specs.raid_types_Shapes.{has_slot}
use Rattle.array_takeover_laws.specs.raid_types_the_Who.{Who}
use Rattle.array_takeover_laws.specs.raid_types_the_Shape.{Shape}
use Rattle.array_takeover_laws.specs.raid_types_the_Role.{Role}
use Rattle.array_takeover_laws.specs.raid_types_the_Role_TheVariants.{Whole, Recovering, Missing}
use Rattle.array_takeover_laws.proofs.raid_types_Least.{least_below-none}
use Rattle.array_fixed_sync.specs.sb_specs_the_Members.{Members}
use Rattle.array_fixed_sync.specs.sb_specs_Reading.{is_reshaping, is_whole, shape_of, final_shape, role_state, holder}
use Rattle.array_fixed_sync.specs.stripe_row_Rows.{reading_of, is_missing, IsTolerated}
use Rattle.array_fixed_sync.specs.history_the_Entry.{Entry}
use Rattle.array_fixed_sync.specs.history_the_Event.{Event}
use Rattle.array_fixed_sync.specs.history_the_Event_TheVariants.{Lost}
use Rattle.array_fixed_sync.specs.history_the_LostCause_TheVariants.{Fault}
use Rattle.array_fixed_sync.specs.history_Plain.{entries_of}
use Rattle.array_fixed_sync.specs.crash_views_Regions.{DoWithout}
use Rattle.array_fixed_sync.proofs.crash_views_Stands.{final-still}
use Rattle.array_fixed_sync.specs.array_members_the_Work.{Work}
use Rattle.array_fixed_sync.specs.array_members_Placed.{is_unassigned}
use Rattle.array_fixed_sync.specs.array_members_Status.{stripes_of, rebuilt_of, vacant_count, spare_count, resync_left, role_left, recovery_left, left_of}
use Rattle.array_fixed_sync.proofs.array_members_Still.{count-still}
use Rattle.array_takeover_laws.specs.history_append_Losing.{role_loss, role_losses, spare_losses, losses_of}
use Rattle.array_fixed_sync.proofs.array_call_specs_StepsLeft.{recovery-more}
use Rattle.array_fixed_sync.specs.array_fixed_invariant_Still.{AreNoneMissing}
use Rattle.array_fixed_sync.proofs.Lowest.{none-counted}

-- no role is missing, so none too many are
pub whole-does : (m : Members) → is_reshaping m.newest ≡ false → AreNoneMissing m → DoWithout m
whole-does m still whole = record { old = few (shape_of m.newest) refl; final = few (final_shape m.newest) (final-still m.newest still) }
  where
    few : (shape : Shape) → shape ≡ shape_of m.newest → IsTolerated (reading_of m) shape
    few shape is =
        let none : count_below shape.disks (is_missing (reading_of m)) ≡ 0 = none-counted shape.disks (is_missing (reading_of m)) (least_below-none shape.disks (is_missing (reading_of m)) (λ role lt.
        whole role (let n = count-still m.newest still in let same = ap (λ (s : Shape). s.disks) is in omega (arith, lt, n, same)))) in
        omega (arith, none)

-- ---- the losses

no-both : (p : Event → Bool) (xs ys : List Event) → list_any p (xs ++ ys) ≡ false → (list_any p xs ≡ false) × (list_any p ys ≡ false)
no-both p xs ys none = by (list_any p xs) (list_any p ys) (sym (list_any-append p xs ys) ∙ none)
  where
    by : (a b : Bool) → (a || b) ≡ false → (a ≡ false) × (b ≡ false)
    by true b is = absurd (cc)
    by false b is = (refl, is)

no-role : (p : Event → Bool) (roles n role : ℕ) → ((r : ℕ) → p (Lost r Fault) ≡ true) → list_any p (role_losses roles n) ≡ false → role < n → has_slot roles role ≡ true → ⊥
unfolding role_losses
no-role p roles zero role tells none lt there = omega (arith, lt)
no-role p roles (suc n) role tells none lt there =
    let both = no-both p (role_losses roles n) (role_loss roles n) none in
    elim (cases_lt role n) [
      | inl below ↦ no-role p roles n role tells both.0 below there
      | inr above ↦
          let is : role ≡ n = omega (arith, lt, above) in
          let here : list_any p (role_loss roles n) ≡ (p (Lost n Fault) || false) = ap (λ (b : Bool). list_any p (cond b (Lost n Fault ∷ []) [])) (ap (has_slot roles) (sym is) ∙ there) in
          let nothing : true ≡ false = sym (here ∙ ap (λ (b : Bool). b || false) (tells n)) ∙ both.1 in cc
    ]

-- where no role's loss is told, each role that is told where no slot holds it has one
pub quiet-held : (p : Event → Bool) (m : Members) (roles spares role : ℕ) → ((r : ℕ) → p (Lost r Fault) ≡ true) → list_any p (losses_of roles spares) ≡ false → role < 16 → (is_unassigned (reading_of m) role ≡ true → has_slot roles role ≡ true)
    → is_unassigned (reading_of m) role ≡ false
quiet-held p m roles spares role tells quiet lt told = of (is_unassigned (reading_of m) role) refl
  where
    of : (b : Bool) → is_unassigned (reading_of m) role ≡ b → is_unassigned (reading_of m) role ≡ false
    of false is = is
    of true is = absurd (no-role p roles 16 role tells (no-both p (role_losses roles 16) (spare_losses spares 32) quiet).0 lt (told is))

any-entries : (p : Event → Bool) (who : Who) (end : ℕ) (events : List Event) → list_any (λ e. p e.event) (entries_of who end events) ≡ list_any p events
any-entries p who end [] = refl
any-entries p who end (event ∷ events) = ap (λ (b : Bool). p event || b) (any-entries p who end events)

-- where none of a call's entries is such, none of its events behind the first is
pub none-told : (p : Event → Bool) (entries new : List Entry) (who : Who) (end : ℕ) (event : Event) (events : List Event) → new ≡ entries ++ entries_of who end (event ∷ events)
    → not (list_any (λ e. p e.event) (drop (length entries) new)) ≡ true → list_any p events ≡ false
none-told p entries new who end event events is none =
    let last : drop (length entries) new ≡ entries_of who end (event ∷ events) = ap (drop (length entries)) is ∙ drop-append_seam entries (entries_of who end (event ∷ events)) in
    rest (p event) (list_any p events) (fails (list_any p (event ∷ events)) (sym (ap not (ap (list_any (λ e. p e.event)) last ∙ any-entries p who end (event ∷ events))) ∙ none))
  where
    fails : (b : Bool) → not b ≡ true → b ≡ false
    fails true is = absurd (cc)
    fails false is = refl

    rest : (a b : Bool) → (a || b) ≡ false → b ≡ false
    rest true b is = absurd (cc)
    rest false b is = is

-- a role that has a slot and isn't whole is recovered
pub held-recovers : (state : Role) → not (is_some (holder state)) ≡ false → not (is_whole state) ≡ true → (s : ℕ) × (state ≡ Recovering s)
held-recovers (Whole s) held miss = absurd (cc)
held-recovers Missing held miss = absurd (cc)
held-recovers (Recovering s) held miss = (s, refl)

-- ---- the steps

-- of roles that no slot recovers there are none
recovery-zero : (work : Work) (m : Members) (n : ℕ) → ((role slot : ℕ) → role < n → role_state (reading_of m) role ≡ Recovering slot → ⊥) → recovery_left work m n ≡ 0
unfolding recovery_left
recovery-zero work m zero none = refl
recovery-zero work m (suc n) none =
    ap₂ (λ (a b : ℕ). a + b) (recovery-zero work m n (λ role slot lt is. none role slot (omega (arith, lt)) is)) (of (role_state (reading_of m) n) refl)
  where
    of : (state : Role) → role_state (reading_of m) n ≡ state → role_left (stripes_of m) (rebuilt_of work n) state ≡ 0
    of (Whole slot) is = refl
    of Missing is = refl
    of (Recovering slot) is = absurd (none n slot (omega arith) is)

-- no steps wait for a spare where each role has a slot
waiting-zero : (m : Members) → ((role : ℕ) → role < (shape_of m.newest).disks → is_unassigned (reading_of m) role ≡ false) → min (vacant_count m) (spare_count m) * (stripes_of m + 2) ≡ 0
waiting-zero m full =
    let none : vacant_count m ≡ 0 = none-counted (shape_of m.newest).disks (is_unassigned (reading_of m)) (least_below-none (shape_of m.newest).disks (is_unassigned (reading_of m)) full) in
    ap (λ (n : ℕ). min n (spare_count m) * (stripes_of m + 2)) none ∙ of (spare_count m) (stripes_of m + 2)
  where
    of : (a b : ℕ) → min 0 a * b ≡ 0
    of a b = (let low : min 0 a ≡ 0 = omega arith in ap (λ (n : ℕ). n * b) low ∙ (omega arith))

module _ (new : Members) (to : Shape) (work : Work) (shape : shape_of new.newest ≡ to) (synced : work.resync ≡ None)
    (full : (role : ℕ) → role < to.disks → is_unassigned (reading_of new) role ≡ false) where
  waits : min (vacant_count new) (spare_count new) * (stripes_of new + 2) ≡ 0
  waits = waiting-zero new (λ role lt. full role (let n = ap (λ (s : Shape). s.disks) shape in omega (arith, lt, n)))

  none-synced : resync_left work.resync new ≡ 0
  none-synced = ap (λ (o : Option ℕ). resync_left o new) synced

  -- of level 5 none is left
  pub left-five : ((role slot : ℕ) → role_state (reading_of new) role ≡ Recovering slot → ⊥) → left_of work new ≡ 0
  left-five none = λ i. none-synced i + recovery-zero work new (shape_of new.newest).disks (λ role slot lt is. none role slot is) i + waits i

  -- of level 6 those of Q
  pub left-six : (disks slot : ℕ) → to.disks ≡ disks + 1 → role_state (reading_of new) disks ≡ Recovering slot → ((role slot : ℕ) → role_state (reading_of new) role ≡ Recovering slot → role ≡ disks)
      → rebuilt_of work disks ≡ 0 → left_of work new ≡ stripes_of new + 1
  left-six disks slot more is only nothing =
      (λ i. none-synced i + rec i + waits i) ∙ (omega arith)
    where
      stripes-all : (stripes : ℕ) → 0 + (stripes - 0 + 1) ≡ stripes + 1
      stripes-all stripes = omega arith

      rec : recovery_left work new (shape_of new.newest).disks ≡ stripes_of new + 1
      rec =
          ap (λ (n : ℕ). recovery_left work new n) (ap (λ (s : Shape). s.disks) shape ∙ more)
          ∙ recovery-more work new disks
          ∙ ap (λ (n : ℕ). n + role_left (stripes_of new) (rebuilt_of work disks) (role_state (reading_of new) disks))
          (recovery-zero work new disks (λ role s lt here. absurd (let same = only role s here in omega (arith, lt, same))))
          ∙ ap₂ (λ (n : ℕ) (state : Role). 0 + role_left (stripes_of new) n state) nothing is
          ∙ stripes-all (stripes_of new)
