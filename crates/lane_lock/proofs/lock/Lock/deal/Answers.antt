use Rattle.std.proofs.Common.{◌<◌, arith}
use Rattle.lane_lock.proofs.Steps.{cuts}
use Rattle.lane_lock.proofs.lock.Lock.deal.Goals as goal

pub split_seat-own-requires : goal.split_seat-own-requires
split_seat-own-requires g c =
    let one : 0 < c.args.self.now.table.shared.table_id.words = omega arith in
    let t = c.requires.caller in
    (c.requires.lock, one, cuts g.T.Served.ways c.args.self.now.table.shared.key c.args.group.seat.id c.args.group.seat.me.0 _ t.0 t.2 c.args.group.idle.1 c.args.group.idle.2)
