use Rattle.std.proofs.Common.{◌≡◌, Some, None, sym, ◌∙◌, subst}
use mathlib.Core.Option.{some-injective}
use Rattle.lane_lock.specs.Turns.{Closed}
use Rattle.lane_lock.proofs.Steps.{closes_so}
use Rattle.lane_lock.proofs.lock.Lock.close_group.Goals as goal

pub unreachable-requires : goal.unreachable-requires
unreachable-requires g c =
    let v = c.args.group in
    let key = c.args.self.table.shared.key in
    let found = closes_so g.T.Served.ways key v.seat.id v.seat.me.0 _ _ v.idle.1 v.idle.2 v.live c.requires.all c.close_with-closed.ensures.values.2 in
    let two : None ≡ Some found.0 = some-injective None (Some found.0) (sym c.in-None.ensures.value ∙ found.1) in
    absurd (cc)

pub returns : goal.returns
returns g c =
    let v = c.args.group in
    let key = c.args.self.table.shared.key in
    let found = closes_so g.T.Served.ways key v.seat.id v.seat.me.0 _ _ v.idle.1 v.idle.2 v.live c.requires.all c.close_with-closed.ensures.values.2 in
    let one : Some found.0 ≡ Some c.in-Some.value = some-injective (Some found.0) (Some c.in-Some.value) (sym found.1 ∙ c.in-Some.ensures.value) in
    let same : found.0 ≡ c.in-Some.value = cc in
    record { closed = subst (λ (x : g.row.T.Denot). Closed g.T.Served.ways key.value v.seat.me.0 x) same found.2 }
