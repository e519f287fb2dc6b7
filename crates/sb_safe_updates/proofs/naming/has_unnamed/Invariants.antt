use Rattle.std.proofs.Common.{◌≡◌, ◌<◌, ℕ, true}
use Rattle.array_members.specs.stripe_row_Rows.{reading_of}
use Rattle.array_members.specs.Placed.{is_unassigned}
use Rattle.array_members.specs.Lacking.{IsNamed}
use Rattle.sb_safe_updates.proofs.naming.has_unnamed.Given as goal

-- no role before this one is vacant and named
abbrev pub invariant-loop-role : goal.invariant-loop-role
invariant-loop-role l = (role : ℕ) → role < l.role → is_unassigned (reading_of l.members) role ≡ true → IsNamed l.members.newest role → ⊥
