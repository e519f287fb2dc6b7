use Rattle.std.proofs.Common.{◌≡◌, ◌+◌, ◌<◌, ℕ, false}
use Rattle.sb_safe_updates.specs.First.{is_lacking}
use Rattle.sb_safe_updates.proofs.refusing.first_lacking.Given as goal

-- no sector before this one lies on a missing role behind the mended rows
abbrev pub invariant-loop-i : goal.invariant-loop-i
invariant-loop-i l = (i : ℕ) → i < l.i → is_lacking l.shape l.members l.mended (l.first + i) ≡ false
