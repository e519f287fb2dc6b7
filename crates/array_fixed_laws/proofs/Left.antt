-- The steps that are left of an array without an active reshape: how many they can be, and that members that lost nothing leave as many.
use Rattle.std.proofs.Common.{◌≡◌, ℕ, zero, suc, ◌+◌, ◌*◌, ◌^◌, ◌≤◌, min, Option, Some, None, [], ap₂, arith}
use Rattle.std.specs.Prelude.{IsTrue}
use Rattle.std.proofs.Math.Nat.{div-le_self, mul-le-mul_right, min-le_left, le_trans, suc-mul}
use Rattle.array_fixed_invariant.specs.raid_types_Shapes.{is_valid_shape}
use Rattle.array_fixed_invariant.specs.raid_types_the_Role.{Role}
use Rattle.array_fixed_invariant.specs.raid_types_the_Role_TheVariants.{Whole, Recovering, Missing}
use Rattle.array_fixed_invariant.proofs.raid_layout_Limits.{limited}
use Rattle.array_fixed_invariant.specs.bank_Given.{Given}
use Rattle.array_fixed_invariant.specs.reshape_plan_Plans.{phases_steps}
use Rattle.array_fixed_invariant.specs.sb_specs_the_Members.{Members}
use Rattle.array_fixed_invariant.specs.sb_specs_Reading.{shape_of, role_state}
use Rattle.array_fixed_invariant.specs.stripe_row_Rows.{reading_of}
use Rattle.array_fixed_invariant.proofs.stripe_row_Tables.{count_below-le}
use Rattle.array_fixed_invariant.specs.array_members_the_Work.{Work}
use Rattle.array_fixed_invariant.specs.array_members_Lacking.{AreLostSince}
use Rattle.array_fixed_invariant.specs.array_members_Moving.{IsMoved}
use Rattle.array_fixed_invariant.specs.array_members_Placed.{is_unassigned}
use Rattle.array_fixed_invariant.specs.array_members_Status.{stripes_of, rebuilt_of, vacant_count, spare_count, resync_left, role_left, recovery_left, left_of}
use Rattle.array_fixed_invariant.specs.history_append_Losing.{losses_of}
use Rattle.array_fixed_invariant.proofs.array_call_specs_StepsLeft.{left-moved}
use Rattle.array_fixed_invariant.specs.reshape_request_the_PhasesLeft.{PhasesLeft}
use Rattle.array_fixed_invariant.specs.reshape_request_Left.{phases_of}
use Rattle.array_specs.specs.Parts.{still_left}

-- ---- how many they are

role-most : (stripes rebuilt : ℕ) (state : Role) → role_left stripes rebuilt state ≤ stripes + 1
role-most stripes rebuilt (Recovering slot) = omega arith
role-most stripes rebuilt (Whole slot) = omega arith
role-most stripes rebuilt Missing = omega arith

recovery-most : (work : Work) (members : Members) (n : ℕ) → recovery_left work members n ≤ n * (stripes_of members + 1)
unfolding recovery_left
recovery-most work members zero = omega arith
recovery-most work members (suc n) =
    let before = recovery-most work members n in
    let one = role-most (stripes_of members) (rebuilt_of work n) (role_state (reading_of members) n) in
    omega (arith, before, one, suc-mul n (stripes_of members + 1))

-- those of an array whose rows and roles are few are far from 2 ^ 63
pub left-few : (work : Work) (members : Members) → IsTrue (is_valid_shape (shape_of members.newest)) → members.newest.size ≤ 2 ^ 48 → left_of work members ≤ 2 ^ 54
left-few work members valid short =
    let few : stripes_of members ≤ members.newest.size = div-le_self members.newest.size (shape_of members.newest).chunk in
    let disks = (limited (shape_of members.newest) valid).most in
    let resync : resync_left work.resync members ≤ stripes_of members + 1 = by work.resync in
    let recovery = recovery-most work members (shape_of members.newest).disks in
    let roles : (shape_of members.newest).disks * (stripes_of members + 1) ≤ 16 * (stripes_of members + 1) = mul-le-mul_right (stripes_of members + 1) disks in
    let waiting : min (vacant_count members) (spare_count members) ≤ 16 =
    le_trans (min-le_left (vacant_count members) (spare_count members)) (le_trans (count_below-le (shape_of members.newest).disks (is_unassigned (reading_of members))) disks) in
    let given : min (vacant_count members) (spare_count members) * (stripes_of members + 2) ≤ 16 * (stripes_of members + 2) = mul-le-mul_right (stripes_of members + 2) waiting in
    omega (arith, few, short, resync, recovery, roles, given)
  where
    by : (resync : Option ℕ) → resync_left resync members ≤ stripes_of members + 1
    by None = omega arith
    by (Some mended) = omega arith

-- ---- as many are left

pub left-alike : {given : Given} {old new : Members} (work : Work) (ahead : PhasesLeft) (roles spares : ℕ) (before after : ℕ → ℕ) → IsMoved given old new → AreLostSince old new roles spares before after
    → losses_of roles spares ≡ [] → still_left work new ahead ≡ still_left work old ahead
left-alike work ahead roles spares before after moved since none =
    ap₂ (λ (a b : ℕ). a + b) (left-moved moved work roles spares before after since none) (λ i. phases_steps (moved.shape i) (moved.size i) (phases_of ahead))
