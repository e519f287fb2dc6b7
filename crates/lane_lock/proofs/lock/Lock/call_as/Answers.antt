use Rattle.std.proofs.Common.{◌≡◌, sym, ap, ◌∙◌, subst, ◌∷◌, [], List, Some}
use Rattle.std.specs.Prelude.{MatchBool}
use mathlib.Core.Option.{none}
use Rattle.atomic_table.specs.Table.{step}
use Rattle.lane_lock.specs.declared.view.View.{View}
use Rattle.lane_lock.specs.declared.view.Hand.{Hand}
use Rattle.lane_lock.specs.Turns.{Sat, holding, Turned, Releases}
use Rattle.lane_lock.proofs.Steps.{slot_is, turned_by, tells}
use Rattle.lane_lock.proofs.lock.Lock.call_as.Goals as goal

pub give-requires-clause-turned : goal.give-requires-clause-turned
give-requires-clause-turned g c =
    let ways = g.T.Served.ways in
    let lawful = g.met.T.Served.lawful in
    let m = c.args.pass.seat.me in
    let t = c.take-seat.ensures.took in
    let y = c.serve-reply.new.self in
    let caller = c.args.pass.caller in
    let reply = c.serve-reply.result in
    let free : c.take-seat.result.me.1 ≡ (0, Some t.value) ∷ [] = t.slot ∙ ap (λ r. (0, Some t.value) ∷ r) c.args.pass.idle.0 in
    let value : c.lift-value.result ≡ t.value = slot_is ways c.lift-value.result t.value c.take-seat.result.me.1 c.lift-value.ensures.value free in
    let served = subst (λ (x : g.row.T.Denot). MatchBool (ways.is_done reply) (ways.Adds x y caller c.args.request reply) (y ≡ x)) value c.serve-reply.ensures.served in
    let same : c.lift-value.new.seat.me.0 ≡ c.take-seat.result.me.0 = ap (λ (z : Sat g.row.T.Denot g.row.Q.Denot). z.0) c.lift-value.ensures.left in
    let hands : c.lift-value.new.seat.me.0.hands ≡ m.0.hands = ap (λ (z : View g.row.T.Denot g.row.Q.Denot). z.hands) (same ∙ t.view) in
    let turned = turned_by ways lawful t.value y caller m.0.hands c.args.request reply t.sound c.args.pass.whose served in (
      t.start,
      t.value,
      same ∙ t.view ∙ (λ i. holding t.start t.value (sym hands i)),
      subst (λ (p : List (Hand g.row.Q.Denot) × List g.row.Q.Denot). Turned ways t.value y p.0 p.1) (λ i. (sym hands i, sym c.requires.told i)) turned,
    )

pub invariant_of-result : goal.invariant_of-result
invariant_of-result g c =
    let ways = g.T.Served.ways in
    let lawful = g.met.T.Served.lawful in
    let m = c.args.pass.seat.me in
    let t = c.take-seat.ensures.took in
    let y = c.serve-reply.new.self in
    let caller = c.args.pass.caller in
    let reply = c.serve-reply.result in
    let free : c.take-seat.result.me.1 ≡ (0, Some t.value) ∷ [] = t.slot ∙ ap (λ r. (0, Some t.value) ∷ r) c.args.pass.idle.0 in
    let value : c.lift-value.result ≡ t.value = slot_is ways c.lift-value.result t.value c.take-seat.result.me.1 c.lift-value.ensures.value free in
    let served = subst (λ (x : g.row.T.Denot). MatchBool (ways.is_done reply) (ways.Adds x y caller c.args.request reply) (y ≡ x)) value c.serve-reply.ensures.served in
    let same : c.lift-value.new.seat.me.0 ≡ c.take-seat.result.me.0 = ap (λ (z : Sat g.row.T.Denot g.row.Q.Denot). z.0) c.lift-value.ensures.left in
    let gave = subst (λ (p : List g.row.Q.Denot × View g.row.T.Denot g.row.Q.Denot). Releases ways p.0 (step 0 0 0 0 none) (p.1, (0, Some y) ∷ []) 0 c.give.new.seat.me) (λ i. (c.requires.told i, same i)) c.give.ensures.gave in
    let told = tells ways lawful m c.take-seat.result.me c.give.new.seat.me t y caller c.args.request reply (step 0 0 0 0 none) 0 c.args.pass.whose served gave in
    record { idle = told.idle; live = told.live; whose = told.whose }

pub returns-clause-called : goal.returns-clause-called
returns-clause-called g c =
    let ways = g.T.Served.ways in
    let lawful = g.met.T.Served.lawful in
    let m = c.args.pass.seat.me in
    let t = c.take-seat.ensures.took in
    let y = c.serve-reply.new.self in
    let caller = c.args.pass.caller in
    let reply = c.serve-reply.result in
    let free : c.take-seat.result.me.1 ≡ (0, Some t.value) ∷ [] = t.slot ∙ ap (λ r. (0, Some t.value) ∷ r) c.args.pass.idle.0 in
    let value : c.lift-value.result ≡ t.value = slot_is ways c.lift-value.result t.value c.take-seat.result.me.1 c.lift-value.ensures.value free in
    let served = subst (λ (x : g.row.T.Denot). MatchBool (ways.is_done reply) (ways.Adds x y caller c.args.request reply) (y ≡ x)) value c.serve-reply.ensures.served in
    let same : c.lift-value.new.seat.me.0 ≡ c.take-seat.result.me.0 = ap (λ (z : Sat g.row.T.Denot g.row.Q.Denot). z.0) c.lift-value.ensures.left in
    let gave = subst (λ (p : List g.row.Q.Denot × View g.row.T.Denot g.row.Q.Denot). Releases ways p.0 (step 0 0 0 0 none) (p.1, (0, Some y) ∷ []) 0 c.give.new.seat.me) (λ i. (c.requires.told i, same i)) c.give.ensures.gave in
    let told = tells ways lawful m c.take-seat.result.me c.give.new.seat.me t y caller c.args.request reply (step 0 0 0 0 none) 0 c.args.pass.whose served gave in
    told.called
