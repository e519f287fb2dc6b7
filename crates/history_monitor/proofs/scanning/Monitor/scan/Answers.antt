use Rattle.std.proofs.Common.{sym, ◌<◌, length, arith}
use Rattle.history_monitor.proofs.AlertLaws.{past-turn, scanned-of}
use Rattle.history_monitor.proofs.ToldLaws.{told-turn}
use Rattle.history_monitor.proofs.scanning.Monitor.scan.Goals as goal

pub known_after-past-requires : goal.known_after-past-requires
known_after-past-requires g c =
    let lt = c.loop-at-test.true in
    let len = c.len-at-end.ensures in
    let at = scanned-of c.loop-at.at c.args.entries.now.items c.loop-at.past (rw (sym len) lt) c.loop-at.invariant.1 in
    omega (arith, lt, len, at, c.len-at-end.type_inv)

pub loop-at-preserved : goal.loop-at-preserved
loop-at-preserved g c =
    let lt : c.loop-at.at < length c.args.entries.now.items = rw (sym c.len-at-end.ensures) c.loop-at-test.true in (
      omega (arith, c.loop-at.invariant.0),
      past-turn c.loop-at.at c.args.entries.now.items c.get.result.now c.loop-at.past c.known_after-past.result c.get.ensures c.loop-at.invariant.1 c.known_after-past.ensures,
      told-turn _ c.args.self.now.scanned c.loop-at.at c.args.entries.now.items c.get.result.now c.loop-at.past c.alert_of.result c.loop-at.list c.tell.new.list
          c.loop-at.invariant.0 lt c.get.ensures c.loop-at.invariant.1 c.alert_of.ensures c.loop-at.invariant.2 c.in_ok-tell.ensures,
    )
