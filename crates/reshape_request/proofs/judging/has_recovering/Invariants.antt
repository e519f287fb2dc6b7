use Rattle.std.proofs.Common.{◌≡◌, false, take}
use Rattle.std.specs.List.{list_any}
use Rattle.history.specs.Fits.{is_recovering_role}
use Rattle.reshape_request.proofs.judging.has_recovering.Given as goal

-- no role before this one is so
abbrev pub invariant-loop-role : goal.invariant-loop-role
invariant-loop-role l = list_any is_recovering_role (take l.role l.members.roles) ≡ false
