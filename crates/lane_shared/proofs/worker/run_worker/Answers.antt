use Rattle.std.proofs.Common.{◌≡◌, ℕ, ◌≤◌, sym, ◌∙◌, subst, Option, Some, IfSome, arith}
use Rattle.lane_shared.specs.Worker.{done_in, left_after}
use Rattle.lane_shared.specs.Pace.{Paces, asked_by}
use Rattle.lane_shared.proofs.Done.{on}
use Rattle.lane_shared.proofs.Turns.{first-turn, turn-more, if-more}
use Rattle.lane_shared.proofs.worker.run_worker.Goals as goal

pub loop-turns-init : goal.loop-turns-init
loop-turns-init g c =
    let turn = c.take_turn-pass.ensures in
    let is = c.steps_done-done.ensures in
    let most = turn.most in (
      turn.lock,
      turn.later,
      turn.own,
      first-turn g.S.Service.answered g.S.Service.carried (Paces (goal.F-post g (asked_by c.args.pace.now))) c.args.left turn.asked.0 c.args.pass c.take_turn-pass.result.0
          c.take_turn-pass.result.1 c.steps_done-done.result turn.asked.1 turn.asked.2 turn.later turn.asked.3 is,
      omega arith,
      omega arith,
      omega (arith, is, most),
      omega arith,
      if-more (left_after c.take_turn-pass.result.1) (λ (some : 1 ≤ done_in c.take_turn-pass.result.1). omega (arith, is, some)) turn.some,
    )

pub loop-turns-preserved : goal.loop-turns-preserved
loop-turns-preserved g c =
    let was = c.loop-turns.invariant in
    let turn = c.take_turn-next.ensures in
    let is = c.steps_done-done-in-loop-turns.ensures in
    let most = turn.most in
    let more : left_after c.loop-turns.last ≡ Some c.in-Some.left = sym c.steps_left.ensures ∙ c.in-Some.is in
    let few : c.loop-turns.turns ≤ c.loop-turns.done = subst (λ (found : Option ℕ). IfSome found (λ m. c.loop-turns.turns ≤ c.loop-turns.done)) more was.8 in
    let bound = was.6 in
    let test = c.loop-turns-test.true in (
      turn.lock ∙ was.0,
      on (g.S.Service.carried c.args.pass) (g.S.Service.carried c.loop-turns.pass) (g.S.Service.carried c.take_turn-next.result.0) was.1 turn.later,
      turn.own,
      turn-more g.S.Service.answered g.S.Service.carried (Paces (goal.F-post g (asked_by c.args.pace.now))) c.args.left c.in-Some.left turn.asked.0 c.args.pass c.loop-turns.pass
          c.take_turn-next.result.0 (record { turns = c.loop-turns.turns; done = c.loop-turns.done; last = c.loop-turns.last })
          c.take_turn-next.result.1 c.steps_done-done-in-loop-turns.result more was.3 turn.asked.1 turn.asked.2 turn.later turn.asked.3 is,
      omega arith,
      omega (arith, test),
      omega (arith, is, most, bound),
      omega (arith, few),
      if-more (left_after c.take_turn-next.result.1) (λ (some : 1 ≤ done_in c.take_turn-next.result.1). omega (arith, is, some, few)) turn.some,
    )
