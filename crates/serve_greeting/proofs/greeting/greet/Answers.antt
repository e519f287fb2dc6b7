use Rattle.std.proofs.Common.{◌++◌, ◌∷◌, [], ap, ◌∙◌, arith}
use Rattle.std.proofs.lemmas.List.{length-append}
use Rattle.serve_greeting.specs.Talk.{next_where}
use Rattle.serve_greeting.proofs.Talks.{talked_more}
use Rattle.serve_greeting.proofs.greeting.greet.Goals as goal

pub loop-preserved : goal.loop-preserved
loop-preserved g c =
    let talk = c.loop.invariant.talk in
    let turned = c.in-Ok-false.ensures.turned in
    record {
      talk = (
        talk.0 ++ turned.0 ∷ [],
        omega (arith, length-append talk.0 (turned.0 ∷ []), talk.1),
        talked_more g.S.Source.tells g.K.Sink.tells c.args.size c.in-Ok.zeroes talk.0 turned.0 (g.S.Source.left c.args.source.now) (g.S.Source.left c.loop.source)
            (g.S.Source.left c.turn.new.source) (g.K.Sink.taken c.args.sink.now) (g.K.Sink.taken c.loop.sink) (g.K.Sink.taken c.turn.new.sink) talk.2 turned.1
            (turned.2 ∙ ap next_where c.in-Ok-false.field-0-test),
      );
      source = omega (arith, c.loop.invariant.source, c.turn.ensures.source.never_falls);
      sink = omega (arith, c.loop.invariant.sink, c.turn.ensures.sink.never_falls);
    }
