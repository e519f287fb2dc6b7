use Rattle.std.proofs.Common.{rules, ◌≡◌, ℕ, ◌*◌, ◌<◌, subst, arith, Some, ◌∷◌, []}
use mathlib.Core.Option.{none}
use Rattle.atomic_table.specs.Table.{Allows, step}
use Rattle.lane_lock.specs.Turns.{Kept, Releases, Turned, Sat, holding}
use Rattle.lane_lock.proofs.Steps.{releases_turn}
use Rattle.lane_lock.proofs.lock.Lock.give.Goals as goal

pub store-requires : goal.store-requires
store-requires g c =
    let ways = g.T.Served.ways in
    let key = c.args.self.now.table.shared.key in
    let requests = g.J.Telling.requests in
    let seat = c.exchange.new.seat in
    let slots = c.args.self.now.table.shared.table_id.slots in
    let one : 0 < c.args.self.now.table.shared.table_id.words = omega arith in
    let size : ways.size c.args.value ≡ c.size-size.result = search rules in
    let held : seat.me.1 ≡ (0, Some c.args.value) ∷ [] = search rules in
    let t = c.requires.turned in
    let view : seat.me.0 ≡ c.args.seat.now.me.0 = search rules in
    let is : seat.me.0 ≡ holding t.0 t.1 seat.me.0.hands = rw view t.2 in
    let turned : Turned ways t.1 c.args.value seat.me.0.hands requests = rw view t.3 in (
      search rules,
      one,
      subst (λ (n : ℕ). Allows (Kept ways key) slots seat.id seat.me 0 (λ _. 2 * n) (λ _. Releases ways requests (step slots 0 (2 * n) 0 none) seat.me (2 * n)))
          size (releases_turn ways key slots seat.id seat.me requests t.0 t.1 c.args.value g.met.T.Served.lawful is held turned),
    )

pub returns-clause-gave : goal.returns-clause-gave
returns-clause-gave g c =
    let ways = g.T.Served.ways in
    let requests = g.J.Telling.requests in
    let seat = c.exchange.new.seat in
    let same : seat.me ≡ (c.args.seat.now.me.0, (0, Some c.args.value) ∷ []) = search rules in
    subst (λ (m : Sat g.row.T.Denot g.row.Q.Denot). Releases ways requests (step 0 0 0 0 none) m 0 c.store.new.seat.me) same (search rules)
