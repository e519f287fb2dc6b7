use Rattle.std.proofs.Common.{◌<◌, ℕ}
use Rattle.sb_add_spare.specs.array_members_Rebuilding.{Held}
use Rattle.array_state.proofs.holders.holds_role.Given as goal

-- no role before this one is held by the slot
abbrev pub invariant-loop-role : goal.invariant-loop-role
invariant-loop-role l = (role : ℕ) → role < l.role → Held l.members role l.slot → ⊥
