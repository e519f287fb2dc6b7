use Rattle.std.proofs.Common.{rules, ◌<◌, arith}
use Rattle.lane_lock.proofs.Steps.{unites, learns}
use Rattle.lane_lock.proofs.lock.Lock.gather.Goals as goal

pub join_seat-requires : goal.join_seat-requires
join_seat-requires g c =
    let one : 0 < c.args.self.now.table.shared.table_id.words = omega arith in
    let v = c.args.group.seat in
    let u = c.args.pass.seat in
    (c.requires.locks.0, c.requires.locks.1, c.args.pass.idle.0, one, unites g.T.Served.ways c.args.self.now.table.shared.key v.id v.me.0 u.id u.me.0 g.met.T.Served.lawful c.args.group.idle.1 c.args.group.idle.2 c.args.pass.idle.1)

pub load-requires : goal.load-requires
load-requires g c =
    let one : 0 < c.args.self.now.table.shared.table_id.words = omega arith in
    (search rules, one, learns g.T.Served.ways c.args.self.now.table.shared.key _ _ _)
