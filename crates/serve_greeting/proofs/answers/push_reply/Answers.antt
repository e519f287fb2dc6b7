use Rattle.std.proofs.Common.{◌++◌, sym, ap}
use Rattle.serve_greeting.specs.Answers.{reply}
use Rattle.serve_greeting.proofs.Pieces.{pushed_then, pushed_part}
use Rattle.serve_greeting.proofs.answers.push_reply.Goals as goal

pub returns-in_err-push-clause-pushed : goal.returns-in_err-push-clause-pushed
returns-in_err-push-clause-pushed g c =
    pushed_part g.K.Sink.tells (g.K.Sink.taken c.args.sink.now) (g.K.Sink.taken c.push.new.self) (reply c.args.option c.args.kind c.args.content.now)
    c.head.result c.args.content.now _ c.from_residual.result c.from_residual.ensures.0
    (ap (λ l. l ++ c.args.content.now) (sym c.head.ensures)) c.in_err-push.ensures.pushed

pub returns-clause-pushed : goal.returns-clause-pushed
returns-clause-pushed g c =
    pushed_then g.K.Sink.tells (g.K.Sink.taken c.args.sink.now) (g.K.Sink.taken c.push.new.self) (g.K.Sink.taken c.push-2.new.self)
    (reply c.args.option c.args.kind c.args.content.now) c.head.result c.args.content.now _ c.push-2.result (ap (λ l. l ++ c.args.content.now) (sym c.head.ensures))
    c.in_ok-push.ensures.pushed c.push-2.ensures.pushed
