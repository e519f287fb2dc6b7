use Rattle.std.proofs.Common.{rules, ◌≡◌, ℕ, ◌+◌, ◌*◌, ◌<◌, subst, sym, arith, [], ◌∷◌, length}
use Rattle.std.specs.Prelude.{None}
use mathlib.Core.Option.{none}
use Rattle.atomic_table.specs.Table.{opening, step}
use Rattle.lane_lock.specs.declared.view.Origin.{Origin}
use Rattle.lane_lock.specs.Turns.{Kept, newcomer, fresh}
use Rattle.lane_lock.proofs.Steps.{begins_so, starts_so, first_turn, turned_same, held_again, first_rest}
use Rattle.lane_lock.proofs.lock.Lock.opened.Goals as goal

pub vacant-made-requires : goal.vacant-made-requires
vacant-made-requires g c =
    let ways = g.T.Served.ways in
    let o : Origin g.row.T.Denot = record { value = c.args.value; callers = c.args.callers } in
    let size : ways.size c.args.value ≡ c.size-size.result = sym c.size-size.ensures.size in
    subst (λ (n : ℕ). Kept ways o (opening ((2 * n + 1) ∷ []) (None ∷ []) (newcomer {Q = g.row.Q.Denot} o))) size
    (begins_so ways o g.met.T.Served.lawful c.requires.sound c.requires.distinct)

pub load-requires : goal.load-requires
load-requires g c =
    let key = c.in-Ok.table.shared.key in
    let one : c.in-Ok.table.shared.table_id.words ≡ 1 = search rules in
    let some_word : 0 < c.in-Ok.table.shared.table_id.words = omega arith in
    let free : c.in-Ok.seat.me.1 ≡ [] = search rules in
    let new : c.in-Ok.seat.me.0 ≡ newcomer key = search rules in
    let some_caller : 0 < length key.callers.items = search rules in
    (search rules, some_word, starts_so g.T.Served.ways key c.in-Ok.table.shared.table_id.slots c.in-Ok.seat.id c.in-Ok.seat.me g.met.T.Served.lawful free new some_caller)

pub give-requires-clause-turned : goal.give-requires-clause-turned
give-requires-clause-turned g c =
    let o : Origin g.row.T.Denot = record { value = c.args.value; callers = c.args.callers } in
    let new : c.in-Ok.seat.me.0 ≡ newcomer o = search rules in
    let slots = c.in-Ok.table.shared.table_id.slots in
    let turn = first_turn g.T.Served.ways o (step slots 0 0 0 none) c.load.result c.in-Ok.seat.me c.load.new.seat.me new c.load.ensures.2 in (
      c.args.value,
      c.args.value,
      held_again g.T.Served.ways c.args.value (fresh c.args.callers.items) c.load.new.seat.me.0 turn,
      turned_same g.T.Served.ways c.args.value c.load.new.seat.me.0.hands [],
    )

pub returns-clause-seat : goal.returns-clause-seat
returns-clause-seat g c =
    let o : Origin g.row.T.Denot = record { value = c.args.value; callers = c.args.callers } in
    let new : c.in-Ok.seat.me.0 ≡ newcomer o = search rules in
    let slots = c.in-Ok.table.shared.table_id.slots in
    let turn = first_turn g.T.Served.ways o (step slots 0 0 0 none) c.load.result c.in-Ok.seat.me c.load.new.seat.me new c.load.ensures.2 in
    first_rest g.T.Served.ways c.args.value (fresh c.args.callers.items) c.load.new.seat.me c.give.new.seat.me (step 0 0 0 0 none) 0 turn c.give.ensures.gave
