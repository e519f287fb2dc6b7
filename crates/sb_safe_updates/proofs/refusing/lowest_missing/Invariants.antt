use Rattle.std.proofs.Common.{◌≡◌, ◌<◌, ◌&&◌, ℕ, false, not}
use Rattle.raid_layout.specs.Layout.{is_parity_only}
use Rattle.array_members.specs.stripe_row_Rows.{reading_of, is_missing}
use Rattle.sb_safe_updates.proofs.refusing.lowest_missing.Given as goal

-- no role before this one is missing and has data
abbrev pub invariant-loop-role : goal.invariant-loop-role
invariant-loop-role l = (role : ℕ) → role < l.role → (is_missing (reading_of l.members) role && not (is_parity_only l.shape role)) ≡ false
