use Rattle.std.proofs.Common.{sym}
use Rattle.serve_greeting.proofs.Talks.{spoken, answered_whole, answered_half}
use Rattle.serve_greeting.proofs.turn.turn.Goals as goal

pub returns-in-Err-push_answer-clause-turned : goal.returns-in-Err-push_answer-clause-turned
returns-in-Err-push_answer-clause-turned g c = (
  spoken c.in-Ok.said c.take_option.new.content c.asked_by-asked.result,
  answered_half g.S.Source.tells g.K.Sink.tells c.args.size c.args.zeroes c.in-Ok.said c.asked_by-asked.result (g.S.Source.left c.args.source.now) (g.S.Source.left c.take_option.new.source)
      c.take_option.new.content (g.K.Sink.taken c.args.sink.now) (g.K.Sink.taken c.push_answer.new.sink) _ c.in-Ok.ensures.taken c.asked_by-asked.ensures c.in-Err-push_answer.ensures.pushed,
)

pub returns-in-Option-clause-turned : goal.returns-in-Option-clause-turned
returns-in-Option-clause-turned g c = (
  spoken c.in-Ok.said c.take_option.new.content c.asked_by-asked.result,
  answered_whole g.S.Source.tells g.K.Sink.tells c.args.size c.args.zeroes c.in-Ok.said c.asked_by-asked.result (g.S.Source.left c.args.source.now) (g.S.Source.left c.take_option.new.source)
      c.take_option.new.content (g.K.Sink.taken c.args.sink.now) (g.K.Sink.taken c.push_answer.new.sink) _ c.in-Ok.ensures.taken c.asked_by-asked.ensures c.in-Ok-push_answer.ensures.pushed,
  sym c.in-Option.ensures,
)

pub returns-in-Requests-clause-turned : goal.returns-in-Requests-clause-turned
returns-in-Requests-clause-turned g c = (
  spoken c.in-Ok.said c.take_option.new.content c.asked_by-asked.result,
  answered_whole g.S.Source.tells g.K.Sink.tells c.args.size c.args.zeroes c.in-Ok.said c.asked_by-asked.result (g.S.Source.left c.args.source.now) (g.S.Source.left c.take_option.new.source)
      c.take_option.new.content (g.K.Sink.taken c.args.sink.now) (g.K.Sink.taken c.push_answer.new.sink) _ c.in-Ok.ensures.taken c.asked_by-asked.ensures c.in-Ok-push_answer.ensures.pushed,
  sym c.in-Requests.ensures,
)

pub returns-in-End-clause-turned : goal.returns-in-End-clause-turned
returns-in-End-clause-turned g c = (
  spoken c.in-Ok.said c.take_option.new.content c.asked_by-asked.result,
  answered_whole g.S.Source.tells g.K.Sink.tells c.args.size c.args.zeroes c.in-Ok.said c.asked_by-asked.result (g.S.Source.left c.args.source.now) (g.S.Source.left c.take_option.new.source)
      c.take_option.new.content (g.K.Sink.taken c.args.sink.now) (g.K.Sink.taken c.push_answer.new.sink) _ c.in-Ok.ensures.taken c.asked_by-asked.ensures c.in-Ok-push_answer.ensures.pushed,
  sym c.in-End.ensures,
)
