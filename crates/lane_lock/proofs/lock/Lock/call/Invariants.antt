use Rattle.std.proofs.Common.{[], ◌∷◌}
use Rattle.lane_lock.proofs.lock.Lock.call.Given as goal

-- the request of this call
abbrev pub ghosts-call_as : goal.ghosts-call_as
ghosts-call_as g a = record { requests = a.request ∷ [] }
