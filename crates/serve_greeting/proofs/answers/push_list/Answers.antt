use Rattle.std.proofs.Common.{[], refl, replicate}
use Rattle.serve_greeting.specs.Answers.{reply, listed}
use Rattle.serve_greeting.proofs.Pieces.{pushed_then, pushed_part}
use Rattle.serve_greeting.proofs.answers.push_list.Goals as goal

pub returns-in_err-push_reply-clause-pushed : goal.returns-in_err-push_reply-clause-pushed
returns-in_err-push_reply-clause-pushed g c =
    pushed_part g.K.Sink.tells (g.K.Sink.taken c.args.sink.now) (g.K.Sink.taken c.push_reply.new.sink) listed (reply 3 2 (replicate 4 0)) (reply 3 1 []) _
    c.from_residual.result c.from_residual.ensures.0 refl c.in_err-push_reply.ensures.pushed

pub returns-clause-pushed : goal.returns-clause-pushed
returns-clause-pushed g c =
    pushed_then g.K.Sink.tells (g.K.Sink.taken c.args.sink.now) (g.K.Sink.taken c.push_reply.new.sink) (g.K.Sink.taken c.push_reply-2.new.sink) listed
    (reply 3 2 (replicate 4 0)) (reply 3 1 []) _ c.push_reply-2.result refl c.in_ok-push_reply.ensures.pushed c.push_reply-2.ensures.pushed
