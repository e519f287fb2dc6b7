use Rattle.std.proofs.Common.{◌≡◌, ◌<◌, ℕ, false}
use Rattle.array_fixed_sync.specs.stripe_row_Rows.{reading_of, is_missing}
use Rattle.array_takeover.proofs.choosing.lowest_missing.Given as goal

-- each role before this one is whole
abbrev pub invariant-loop-role : goal.invariant-loop-role
invariant-loop-role l = (role : ℕ) → role < l.role → is_missing (reading_of l.members) role ≡ false
