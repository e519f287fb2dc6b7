use Rattle.std.proofs.Common.{◌++◌, replicate, sym, ap, ap₂}
use Rattle.serve_greeting.specs.Answers.{export, zeroes_where}
use Rattle.serve_greeting.proofs.Pieces.{pushed_then, pushed_part}
use Rattle.serve_greeting.proofs.answers.push_export.Goals as goal

pub returns-in_err-push-clause-pushed : goal.returns-in_err-push-clause-pushed
returns-in_err-push-clause-pushed g c =
    pushed_part g.K.Sink.tells (g.K.Sink.taken c.args.sink.now) (g.K.Sink.taken c.push.new.self) (export c.args.size ++ zeroes_where c.args.zeroes)
    c.size_and_flags.result (zeroes_where c.args.zeroes) _ c.from_residual.result c.from_residual.ensures.0 (ap (λ l. l ++ zeroes_where c.args.zeroes) (sym c.size_and_flags.ensures))
    c.in_err-push.ensures.pushed

pub returns-then-zeroes-clause-pushed : goal.returns-then-zeroes-clause-pushed
returns-then-zeroes-clause-pushed g c =
    pushed_then g.K.Sink.tells (g.K.Sink.taken c.args.sink.now) (g.K.Sink.taken c.push.new.self) (g.K.Sink.taken c.push-then-zeroes.new.self)
    (export c.args.size ++ zeroes_where c.args.zeroes) c.size_and_flags.result (replicate 124 0) _ c.push-then-zeroes.result
    (ap₂ (λ l z. l ++ zeroes_where z) (sym c.size_and_flags.ensures) c.if-zeroes.true) c.in_ok-push.ensures.pushed c.push-then-zeroes.ensures.pushed
