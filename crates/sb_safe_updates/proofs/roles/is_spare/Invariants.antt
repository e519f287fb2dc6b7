use Rattle.std.proofs.Common.{◌≡◌, false, take}
use Rattle.sb_update.specs.sb_specs_Reads.{has_spare}
use Rattle.sb_safe_updates.proofs.roles.is_spare.Given as goal

-- it is none of those before this one
abbrev pub invariant-loop-place : goal.invariant-loop-place
invariant-loop-place l = has_spare (take l.place l.members.spares) l.slot ≡ false
