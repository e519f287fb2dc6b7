use Rattle.std.proofs.Common.{◌≡◌, ◌<◌, ℕ, ◌&&◌, false}
use Rattle.sb_specs.specs.Verdict.{is_missing, holds_data}
use Rattle.sb_election.proofs.missing.dirty_degraded.Given as goal

-- no role below this one
abbrev pub invariant-loop-role : goal.invariant-loop-role
invariant-loop-role l = (k : ℕ) → k < l.role → (is_missing l.roles k && holds_data l.newest k) ≡ false
