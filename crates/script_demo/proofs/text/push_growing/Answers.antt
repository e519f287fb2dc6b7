use Rattle.std.proofs.Common.{codes, ◌++◌, arith}
use Rattle.script_demo.specs.Demo.{lane_a, lane_b, growing}
use Rattle.script_demo.proofs.Chained.{joined, chained}
use Rattle.script_demo.proofs.text.push_growing.Goals as goal

pub returns-clause-appended : goal.returns-clause-appended
unfolding growing
returns-clause-appended c =
    let grow = codes "flush\ngrow disks=5\ntogether\n" in
    let old = c.args.text.now in
    let first =
    joined old.items c.push_words.new.text.items c.push_lane_a.new.text.items grow lane_a c.in_ok-push_words.ensures.appended.whole
    c.in_ok-push_lane_a.ensures.appended.whole in
    let both =
    joined old.items c.push_lane_a.new.text.items c.push_lane_b.new.text.items (grow ++ lane_a) (lane_b c.args.at) first
    c.in_ok-push_lane_b.ensures.appended.whole in
    chained old c.push_lane_b.new.text c.push_words-2.new.text c.push_words-2.result ((grow ++ lane_a) ++ lane_b c.args.at) (codes "end\nwait\nstop\nassemble\n") both
    (omega (arith, c.push_words.ensures.appended.room, c.push_lane_a.ensures.appended.room, c.push_lane_b.ensures.appended.room)) c.push_words-2.ensures.appended
