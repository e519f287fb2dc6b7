use Rattle.std.proofs.Common.{codes, decimal, ◌++◌, arith}
use Rattle.script_demo.proofs.Chained.{joined, chained}
use Rattle.script_demo.proofs.text.push_making.Goals as goal

pub returns-clause-appended : goal.returns-clause-appended
returns-clause-appended c =
    let name = codes "create 6ba7b810-9dad-11d1-80b4-00c04fd430c8" in
    let shape = codes " level=5 disks=4 chunk=8 size=" ++ decimal c.args.size in
    chained c.args.text.now c.push_counted.new.text c.push_words-2.new.text c.push_words-2.result (name ++ shape) (codes " offset=16\nadd 4\n")
    (joined c.args.text.now.items c.push_words.new.text.items c.push_counted.new.text.items name shape c.in_ok-push_words.ensures.appended.whole
    c.in_ok-push_counted.ensures.appended.whole)
    (omega (arith, c.push_words.ensures.appended.room, c.push_counted.ensures.appended.room)) c.push_words-2.ensures.appended
