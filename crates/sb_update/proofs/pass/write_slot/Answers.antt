use Rattle.std.proofs.Common.{sym}
use Rattle.sb_update.proofs.Turns.{turned-ok, turned-err}
use Rattle.sb_update.proofs.pass.write_slot.Goals as goal

pub returns-in-Ok-clause-tape : goal.returns-in-Ok-clause-tape
returns-in-Ok-clause-tape g c = turned-ok c.args.members.now.newest c.in-Some.own.now c.args.give c.args.part c.args.slot _ (sym c.in-Some.ensures.own) (sym c.if-is_part.ensures) _ _ _ c.in-Ok.ensures.did

pub returns-in-Err-clause-tape : goal.returns-in-Err-clause-tape
returns-in-Err-clause-tape g c = turned-err c.args.members.now.newest c.in-Some.own.now c.args.give c.args.part c.args.slot _ (sym c.in-Some.ensures.own) (sym c.if-is_part.ensures) _ _ _ c.in-Err.ensures.did
