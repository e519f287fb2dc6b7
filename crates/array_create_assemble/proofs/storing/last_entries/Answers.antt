use Rattle.std.proofs.Common.{drop, arith, take_all}
use Rattle.std.proofs.lemmas.List.{length-drop}
use Rattle.array_create_assemble.proofs.storing.last_entries.Goals as goal

pub returns : goal.returns
returns c = take_all _ (drop 128 c.args.entries.now) (omega (arith, c.requires, length-drop 128 c.args.entries.now))
