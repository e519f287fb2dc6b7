use Rattle.std.proofs.Common.{◌≡◌, ◌+◌, ◌*◌, ◌≤◌, ◌^◌, IfSome, ◌-◌}
use Rattle.lane_shared.specs.Pace.{Paces, asked_by}
use Rattle.lane_shared.specs.Carried.{GoesOn, IsOwn}
use Rattle.lane_shared.specs.Worker.{left_after, HasWorked}
use Rattle.lane_shared.proofs.worker.run_worker.Given as goal

abbrev pub invariant-loop-turns : goal.invariant-loop-turns
invariant-loop-turns g l =
    (g.S.Service.lock_of l.pass ≡ g.S.Service.lock_of l.fn.pass)
    × GoesOn g.S.Service.tells (g.S.Service.carried l.fn.pass) (g.S.Service.carried l.pass)
    × IsOwn (g.S.Service.carried l.pass)
    × HasWorked g.S.Service.answered g.S.Service.carried (Paces (goal.F-post g (asked_by l.pace))) l.fn.left l.fn.pass l.pass (record { turns = l.turns; done = l.done; last = l.last })
    × (1 ≤ l.turns)
    × (l.turns ≤ 2 ^ 40)
    × (l.done ≤ 64 * l.turns)
    × (l.turns ≤ l.done + 1)
    × IfSome (left_after l.last) (λ more. l.turns ≤ l.done)

abbrev pub decreases-loop-turns : goal.decreases-loop-turns
decreases-loop-turns g l = 2 ^ 40 - l.turns
