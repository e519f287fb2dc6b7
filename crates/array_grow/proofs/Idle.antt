-- Where nothing speaks against a plan, no role is missing, and nothing is left to do before it.
use Rattle.std.proofs.Common.{◌≡◌, ℕ, zero, suc, ◌+◌, ◌*◌, ◌<◌, true, false, not, min, Option, Some, None, List, [], ◌∷◌, length, refl, sym, ◌∙◌, ap, subst, arith}
use Rattle.std.specs.Prelude.{is_some}
use Rattle.std.proofs.Math.Nat.{min-le_left}
use Rattle.array_reply_specs.specs.raid_types_the_Refusal.{Refusal}
use Rattle.array_reply_specs.specs.raid_types_the_Refusal_TheVariants.{Busy, Degraded, PastEnd, TooManyMissing, NotResynced, NoSuchRole, NoSuchSlot, SlotTaken, SlotTooSmall, BackupFault, Nothing}
use Rattle.array_reply_specs.specs.raid_types_the_BusyKind_TheVariants.{Resync, Plan}
use Rattle.array_reply_specs.specs.raid_types_the_Shape.{Shape}
use Rattle.array_reply_specs.specs.raid_types_the_Role.{Role}
use Rattle.array_reply_specs.specs.raid_types_the_Role_TheVariants.{Whole, Recovering, Missing}
use Rattle.array_reply_specs.specs.raid_types_the_Phase.{Phase}
use Rattle.array_reply_specs.specs.raid_types_the_Phase_TheVariants.{Reshape, UpTo6, DownTo5}
use Rattle.array_reply_specs.specs.raid_types_the_Wish.{Wish}
use Rattle.array_transition.specs.reshape_plan_Plans.{phases_steps, phase_steps}
use Rattle.array_transition.specs.sb_specs_the_Members.{Members}
use Rattle.array_transition.specs.sb_specs_Reading.{is_whole, shape_of, role_count, role_state, holder}
use Rattle.array_transition.specs.stripe_row_Rows.{reading_of, is_missing}
use Rattle.array_reply_specs.specs.history_the_Entry.{Entry}
use Rattle.array_reply_specs.specs.history_the_Event_TheVariants.{Refused}
use Rattle.array_reply_specs.specs.history_OneShape.{ShapeOpening, IsOneShapeRefusal}
use Rattle.array_transition.specs.array_members_the_Work.{Work}
use Rattle.array_transition.specs.array_members_Placed.{is_unassigned}
use Rattle.array_transition.specs.array_members_Status.{stripes_of, rebuilt_of, vacant_count, spare_count, resync_left, role_left, recovery_left, left_of}
use Rattle.array_transition.specs.reshape_request_Asked.{Asked, lowest_missing, IsUngrowable, grow_refusal}
use Rattle.array_transition.proofs.reshape_request_FirstLaws.{judged, none-exactly}
use Rattle.array_transition.specs.array_fixed_invariant_Still.{AreNoneMissing}
use Rattle.array_transition.specs.array_fixed_laws_Plain.{MayTellPlainly}
use Rattle.array_transition.proofs.array_fixed_invariant_Refusals.{IsRefusedStill}
use Rattle.array_transition.proofs.array_fixed_sync_Lowest.{lowest-fails}
use Rattle.array_transition.proofs.EndedLeft.{count-zero}

-- ---- what speaks against it

pub nothing-against : (a : Asked) (wish : Wish) → grow_refusal a wish ≡ None → (refusal : Refusal) → IsUngrowable a wish refusal → ⊥
nothing-against a wish none = (none-exactly a wish (grow_refusal a wish) (judged a wish)).0 none

-- a refusal of a grow says nothing of what was entered before it
pub grow-plain : (a : Asked) (wish : Wish) (resync : Option ℕ) (m : Members) (refusal : Refusal) → IsUngrowable a wish refusal → IsRefusedStill resync m refusal
grow-plain a wish resync m (PastEnd visible) is = absurd is
grow-plain a wish resync m (TooManyMissing count most) is = absurd is
grow-plain a wish resync m (NotResynced role) is = absurd is
grow-plain a wish resync m refusal is = tt

-- it is right by any history of one shape, and is none of a reshape
pub grow-shaped : (opening : ShapeOpening) (before : List Entry) (a : Asked) (wish : Wish) (refusal : Refusal) → IsUngrowable a wish refusal → IsOneShapeRefusal opening before refusal
grow-shaped opening before a wish (PastEnd visible) is = absurd is
grow-shaped opening before a wish (TooManyMissing count most) is = absurd is
grow-shaped opening before a wish (NotResynced role) is = absurd is
grow-shaped opening before a wish (NoSuchRole role) is = absurd is
grow-shaped opening before a wish (NoSuchSlot slot) is = absurd is
grow-shaped opening before a wish (SlotTaken slot) is = absurd is
grow-shaped opening before a wish (SlotTooSmall have want) is = absurd is
grow-shaped opening before a wish Nothing is = absurd is
grow-shaped opening before a wish refusal is = tt

pub grow-plainly : (a : Asked) (wish : Wish) (refusal : Refusal) → IsUngrowable a wish refusal → MayTellPlainly (Refused refusal)
grow-plainly a wish BackupFault is = absurd is
grow-plainly a wish refusal is = tt

-- ---- no role is missing

-- none is where each role is whole
none-lowest : (m : Members) → ((role : ℕ) → lowest_missing m ≡ Some role → ⊥) → AreNoneMissing m
none-lowest m none = by (lowest_missing m) refl
  where
    by : (o : Option ℕ) → lowest_missing m ≡ o → AreNoneMissing m
    by (Some role) is = absurd (none role is)
    by None is = λ role below. lowest-fails (role_count m.newest) (is_missing (reading_of m)) is role below

pub planned-whole : (a : Asked) (wish : Wish) → grow_refusal a wish ≡ None → AreNoneMissing a.members
planned-whole a wish none = none-lowest a.members (λ role is. nothing-against a wish none (Degraded role) is)

-- ---- nothing is left to do

none-pending : (o : Option ℕ) → (is_some o ≡ true → ⊥) → o ≡ None
none-pending None none = refl
none-pending (Some mended) none = absurd (none refl)

whole-left : (stripes rebuilt : ℕ) (state : Role) → not (is_whole state) ≡ false → role_left stripes rebuilt state ≡ 0
whole-left stripes rebuilt (Whole slot) is = refl
whole-left stripes rebuilt (Recovering slot) is = absurd (cc)
whole-left stripes rebuilt Missing is = absurd (cc)

whole-held : (state : Role) → not (is_whole state) ≡ false → not (is_some (holder state)) ≡ false
whole-held (Whole slot) is = refl
whole-held (Recovering slot) is = absurd (cc)
whole-held Missing is = absurd (cc)

module _ (work : Work) (m : Members) (whole : (role : ℕ) → role < (shape_of m.newest).disks → is_missing (reading_of m) role ≡ false) where
  none-recovers : (n : ℕ) → ((role : ℕ) → role < n → role < (shape_of m.newest).disks) → recovery_left work m n ≡ 0
  unfolding recovery_left
  none-recovers zero below = refl
  none-recovers (suc n) below =
      let before : recovery_left work m n ≡ 0 = none-recovers n (λ role lt. below role (omega (arith, lt))) in
      let last : role_left (stripes_of m) (rebuilt_of work n) (role_state (reading_of m) n) ≡ 0 = whole-left (stripes_of m) (rebuilt_of work n) (role_state (reading_of m) n) (whole n (below n (omega arith))) in
      omega (arith, before, last)

  none-vacant : vacant_count m ≡ 0
  none-vacant = count-zero (shape_of m.newest).disks (is_unassigned (reading_of m)) (λ role lt. whole-held (role_state (reading_of m) role) (whole role lt))

  pub none-left : work.resync ≡ None → left_of work m ≡ 0
  none-left synced =
      let resync : resync_left work.resync m ≡ 0 = ap (λ (o : Option ℕ). resync_left o m) synced in
      let recovers = none-recovers (shape_of m.newest).disks (λ role lt. lt) in
      let vacant = none-vacant in
      let least = min-le_left (vacant_count m) (spare_count m) in
      let none : min (vacant_count m) (spare_count m) ≡ 0 = omega (arith, vacant, least) in
      let given = ap (λ (n : ℕ). n * (stripes_of m + 2)) none in
      omega (arith, resync, recovers, given)

pub planned-idle : (a : Asked) (wish : Wish) (work : Work) → a.resync ≡ work.resync → ((role : ℕ) → role < (shape_of a.members.newest).disks → role < role_count a.members.newest) → grow_refusal a wish ≡ None
    → left_of work a.members ≡ 0
planned-idle a wish work same within none =
    none-left work a.members (λ role lt. planned-whole a wish none role (within role lt))
    (sym same ∙ none-pending a.resync (λ is. nothing-against a wish none (Busy Resync) is))

-- no resync is pending, and no phase is ahead
none-ahead : (l : List Phase) → (0 < length l → ⊥) → l ≡ []
none-ahead [] none = refl
none-ahead (phase ∷ rest) none = absurd (none (omega arith))

pub planned-alone : (a : Asked) (wish : Wish) (ahead : List Phase) → a.phases ≡ length ahead → grow_refusal a wish ≡ None → (a.resync ≡ None) × (ahead ≡ [])
planned-alone a wish ahead same none = (
  none-pending a.resync (λ is. nothing-against a wish none (Busy Resync) is),
  none-ahead ahead (λ some. nothing-against a wish none (Busy Plan) (omega (arith, some, same))),
)

-- ---- the steps of its plan

one-step : (now : Shape) (size : ℕ) (phase : Phase) → 0 < phase_steps now size phase
one-step now size (Reshape to) = omega arith
one-step now size (UpTo6 to) = omega arith
one-step now size (DownTo5 to) = omega arith

pub some-steps : (now : Shape) (size : ℕ) (all rest : List Phase) (phase : Phase) → phase ∷ rest ≡ all → 0 < phases_steps now size all
some-steps now size all rest phase is =
    subst (λ (l : List Phase). 0 < phases_steps now size l) is
    (let one = one-step now size phase in omega (arith, one))
