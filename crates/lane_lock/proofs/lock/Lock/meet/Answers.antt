use Rattle.std.proofs.Common.{rules, ◌≡◌, ◌<◌, arith, false, []}
use Rattle.lane_lock.proofs.Steps.{copies, unites, learns}
use Rattle.lane_lock.proofs.lock.Lock.meet.Goals as goal

pub split_seat-copy-requires : goal.split_seat-copy-requires
split_seat-copy-requires g c =
    let one : 0 < c.args.self.now.table.shared.table_id.words = omega arith in
    (c.requires.locks.1, one, copies g.T.Served.ways c.args.self.now.table.shared.key c.args.second.seat.id c.args.second.seat.me.0 c.args.second.idle.1 c.args.second.idle.2)

pub join_seat-requires : goal.join_seat-requires
join_seat-requires g c =
    let one : 0 < c.args.self.now.table.shared.table_id.words = omega arith in
    let v = c.args.first.seat.me.0 in
    let u = c.split_seat-copy.result.me.0 in
    let idle : u.turn ≡ false = search rules in
    let free : c.split_seat-copy.result.me.1 ≡ [] = search rules in
    (search rules, search rules, free, one, unites g.T.Served.ways c.args.self.now.table.shared.key c.args.first.seat.id v c.split_seat-copy.result.id u g.met.T.Served.lawful c.args.first.idle.1 c.args.first.idle.2 idle)

pub load-requires : goal.load-requires
load-requires g c =
    let one : 0 < c.args.self.now.table.shared.table_id.words = omega arith in
    (search rules, one, learns g.T.Served.ways c.args.self.now.table.shared.key _ _ _)

pub split_seat-both-requires : goal.split_seat-both-requires
split_seat-both-requires g c =
    let one : 0 < c.args.self.now.table.shared.table_id.words = omega arith in
    let seat = c.load.new.seat in
    let idle : seat.me.0.turn ≡ false = search rules in
    let old : seat.me.0.first ≡ false = search rules in
    (search rules, one, copies g.T.Served.ways c.args.self.now.table.shared.key seat.id seat.me.0 idle old)

pub join_seat-requires-2 : goal.join_seat-requires-2
join_seat-requires-2 g c =
    let one : 0 < c.args.self.now.table.shared.table_id.words = omega arith in
    let both = c.split_seat-both.result in
    let other = c.split_seat-copy.new.seat in
    let idle : both.me.0.turn ≡ false = search rules in
    let old : both.me.0.first ≡ false = search rules in
    let other_idle : other.me.0.turn ≡ false = search rules in
    let free : other.me.1 ≡ [] = search rules in
    (search rules, search rules, free, one, unites g.T.Served.ways c.args.self.now.table.shared.key both.id both.me.0 other.id other.me.0 g.met.T.Served.lawful idle old other_idle)
