use Rattle.std.proofs.Common.{rules, ◌≡◌, ℕ, Bool, ◌+◌, ◌*◌, ◌/◌, ◌<◌, eqb, subst, eq-eqb, arith, length, true}
use Rattle.std.specs.Prelude.{MatchBool, IsSome}
use mathlib.Core.Option.{none}
use prog.Atomic.{either}
use Rattle.atomic_table.specs.Table.{Allows, step}
use Rattle.lane_lock.specs.Turns.{Kept, Takes, Took, Sat}
use Rattle.lane_lock.proofs.Steps.{takes_turn, live_of}
use Rattle.lane_lock.proofs.lock.Lock.take.Goals as goal
use Rattle.lane_lock.proofs.lock.Lock.take.Goals.{in-None, in-Some+then-word-eq0+then-found-word}

pub compare_exchange-found-requires : goal.compare_exchange-found-requires
compare_exchange-found-requires g c =
    let ways = g.T.Served.ways in
    let key = c.args.self.now.table.shared.key in
    let word = c.peek-word.result in
    let slots = c.args.self.now.table.shared.table_id.slots in
    let even : 2 * (word / 2) ≡ word = omega arith in
    let one : 0 < c.args.self.now.table.shared.table_id.words = omega arith in
    let hands : 0 < length c.loop.seat.me.0.hands = rw c.loop.invariant.me c.requires.hands in
    let live : IsSome c.loop.seat.me.0.known = rw c.loop.invariant.me c.requires.live in (
      search rules,
      one,
      subst (λ (n : ℕ). Allows (Kept ways key) slots c.loop.seat.id c.loop.seat.me 0 (λ x. either (eqb x n) (n + 1) x) (Takes ways (step slots 0 n (n + 1) none) c.loop.seat.me))
          even (takes_turn ways key slots c.loop.seat.id c.loop.seat.me (word / 2) g.met.T.Served.lawful hands (live_of ways c.loop.seat.me.0 live)),
    )

pub returns-clause-took : goal.returns-clause-took
returns-clause-took g c =
    elim c.match-next.branch [
      | in-None w ↦ absurd (search rules)
      | in-Some+then-word-eq0+then-found-word w ↦
          let ways = g.T.Served.ways in
          let told = w.compare_exchange-found.ensures.2 in
          let hit : eqb w.compare_exchange-found.result w.peek-word.result ≡ true = eq-eqb w.compare_exchange-found.result w.peek-word.result w.if-found-word.true in
          let before = c.loop.seat.me in
          let after = w.compare_exchange-found.new.seat.me in
          let took : Took ways before after = subst (λ (b : Bool). MatchBool b (Took ways before after) (after ≡ before)) hit told in
          rw w.seat-is (subst (λ (m : Sat g.row.T.Denot g.row.Q.Denot). Took ways m after) c.loop.invariant.me took)
    ]
