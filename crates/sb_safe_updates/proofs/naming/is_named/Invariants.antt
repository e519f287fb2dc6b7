use Rattle.std.proofs.Common.{◌≢◌, ◌<◌, ℕ}
use Rattle.sb_update.specs.sb_specs_Reading.{entry_of}
use Rattle.sb_safe_updates.proofs.naming.is_named.Given as goal

-- no device before this one has the role
abbrev pub invariant-loop-device : goal.invariant-loop-device
invariant-loop-device l = (device : ℕ) → device < l.device → entry_of l.newest device ≢ l.role
