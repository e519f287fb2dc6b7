use Rattle.std.proofs.Common.{◌≡◌, ◌+◌, ◌≤◌, ◌++◌, List, length, vec_len, vec_capacity}
use Rattle.std.specs.List.{All}
use Rattle.std.specs.Vec.Iter.{into_iter_items, into_iter_len}
use Rattle.array_requests.specs.declared.reply.Reply.{Reply}
use Rattle.array_requests.specs.Replies.{IsAskable}
use Rattle.lane_shared.specs.Carried.{GoesOn, IsOwn}
use Rattle.lane_shared.specs.Lane.{AreCalls, AreDone}
use Rattle.lane_shared.proofs.Done.{AllEntered}
use Rattle.lane_shared.proofs.lane.run_lane.Given as goal

abbrev pub invariant-loop-request : goal.invariant-loop-request
invariant-loop-request g l =
    (l.yielded ++ into_iter_items l.request-iterator ≡ l.fn.requests.items)
    × (into_iter_len l.request-iterator ≡ length (into_iter_items l.request-iterator))
    × (g.S.Service.lock_of l.pass ≡ g.S.Service.lock_of l.fn.pass)
    × GoesOn g.S.Service.tells (g.S.Service.carried l.fn.pass) (g.S.Service.carried l.pass)
    × (IsOwn (g.S.Service.carried l.fn.pass) → IsOwn (g.S.Service.carried l.pass))
    × (vec_len l.replies + into_iter_len l.request-iterator ≤ vec_capacity l.replies)
    × All IsAskable (into_iter_items l.request-iterator)
    × ((made : List Reply) × (l.replies.items ≡ l.fn.replies.items ++ made)
    × AreCalls g.S.Service.answered l.fn.pass l.yielded made l.pass
    × AreDone (g.S.Service.carried l.fn.pass) (g.S.Service.carried l.pass) l.yielded made × AllEntered made)
