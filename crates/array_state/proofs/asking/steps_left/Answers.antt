use Rattle.std.proofs.Common.{◌≡◌, ◌+◌, ◌*◌, ◌≤◌, ap, arith}
use Rattle.std.proofs.Math.Nat.{div-le_self, mul-le-mul_right}
use Rattle.stripe_io.specs.raid_types_the_Shape.{Shape}
use Rattle.stripe_io.proofs.raid_layout_Limits.{limited}
use Rattle.stripe_io.specs.sb_specs_Reading.{shape_of}
use Rattle.sb_add_spare.specs.array_members_Status.{stripes_of}
use Rattle.array_state.proofs.asking.steps_left.Goals.{in-Some, in-None}
use Rattle.array_state.proofs.asking.steps_left.Goals as goal

pub overflow_mul-result : goal.overflow_mul-result
overflow_mul-result c =
    let members = c.args.members.now in
    let few : stripes_of members ≤ members.newest.size = div-le_self members.newest.size (shape_of members.newest).chunk in
    let most : c.min-waiting.result ≤ 16 = omega (arith, c.min-waiting.ensures, c.vacant_count.ensures.few) in
    let times : c.min-waiting.result * (c.stripes-stripes.result + 2) ≤ 16 * (c.stripes-stripes.result + 2) = mul-le-mul_right (c.stripes-stripes.result + 2) most in
    omega (arith, times, few, c.stripes-stripes.ensures, c.requires.size)

pub overflow_add-result-3 : goal.overflow_add-result-3
overflow_add-result-3 c =
    let members = c.args.members.now in
    let few : stripes_of members ≤ members.newest.size = div-le_self members.newest.size (shape_of members.newest).chunk in
    let most : c.min-waiting.result ≤ 16 = omega (arith, c.min-waiting.ensures, c.vacant_count.ensures.few) in
    let times : c.min-waiting.result * (c.stripes-stripes.result + 2) ≤ 16 * (c.stripes-stripes.result + 2) = mul-le-mul_right (c.stripes-stripes.result + 2) most in
    let disks = (limited (shape_of members.newest) c.requires.shape).most in
    let disks_are : c.shape_in-disks.result.disks ≡ (shape_of members.newest).disks = ap (λ (s : Shape). s.disks) c.shape_in-disks.ensures in
    let resync : c.match-work.resync ≤ c.stripes-stripes.result + 1 = elim c.match-work.branch [
      | in-Some w ↦ omega (arith, w.resync-is)
      | in-None w ↦ omega (arith, w.resync-is)
    ] in
    omega (arith, times, few, resync, c.stripes-stripes.ensures, c.requires.size, c.recovery_left.ensures.few, disks_are, disks)
