use Rattle.std.proofs.Common.{arith, map, string_bytes}
use Rattle.script_argv.proofs.Named.{copies_more}
use Rattle.script_argv.proofs.paths.push_copies.Goals as goal

pub loop-i-preserved : goal.loop-i-preserved
loop-i-preserved c =
    copies_more (map string_bytes c.loop-i.into.items) (map string_bytes c.args.into.now.items) (map string_bytes c.push_copy.new.into.items)
    c.args.texts.now c.loop-i.i _ (omega arith) c.loop-i.invariant c.in-Ok.ensures
