use Rattle.std.proofs.Common.{◌≡◌, ℕ, ◌&&◌, nat_lt}
use Rattle.raid_layout.specs.raid_types_Shapes.{has_slot}
use Rattle.array_members.specs.stripe_row_Rows.{reading_of}
use Rattle.array_members.specs.Placed.{is_unassigned}
use Rattle.sb_safe_updates.proofs.roles.unassigned_roles.Given as goal

-- those of the roles before this one that are vacant are in the set
abbrev pub invariant-loop-role : goal.invariant-loop-role
invariant-loop-role l = (role : ℕ) → has_slot l.roles role ≡ (nat_lt role l.role && is_unassigned (reading_of l.members) role)
