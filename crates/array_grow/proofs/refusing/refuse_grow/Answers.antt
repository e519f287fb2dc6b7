use Rattle.array_reply_specs.specs.history_the_Request_TheVariants.{Grow as AsksGrow}
use Rattle.array_grow.proofs.refusing.refuse_grow.Goals as goal

pub returns-in-Ok-clause-answered : goal.returns-in-Ok-clause-answered
returns-in-Ok-clause-answered g c = let reply = rw c.in-Ok.is at c.enter_busy-moving.ensures.reply in reply (AsksGrow c.args.wish.now) tt

pub returns-in-Ok-clause-active : goal.returns-in-Ok-clause-active
returns-in-Ok-clause-active g c = c.enter_busy-moving.ensures.active

pub returns-in-Err-clause-active : goal.returns-in-Err-clause-active
returns-in-Err-clause-active g c = c.enter_busy-moving.ensures.active
