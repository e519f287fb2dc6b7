use Rattle.std.proofs.Common.{◌≡◌, ℕ, ◌&&◌, nat_lt, subst, arith}
use Rattle.raid_layout.specs.raid_types_Shapes.{has_slot}
use Rattle.array_members.specs.stripe_row_Rows.{reading_of}
use Rattle.array_members.specs.Placed.{is_unassigned}
use Rattle.sb_safe_updates.proofs.roles.unassigned_roles.Goals as goal

pub returns : goal.returns
returns c =
    let all : c.loop-role.role ≡ c.args.disks = omega arith in
    subst (λ (n : ℕ). (role : ℕ) → has_slot c.loop-role.roles role ≡ (nat_lt role n && is_unassigned (reading_of c.args.members.now) role)) all c.loop-role.invariant
