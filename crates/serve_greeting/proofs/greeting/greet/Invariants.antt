use Rattle.std.proofs.Common.{◌≡◌, ◌≤◌, List, length}
use Rattle.serve_greeting.specs.Talk.{Spoken, Talked}
use Rattle.serve_greeting.proofs.greeting.greet.Given as goal

abbrev pub invariant-loop : goal.invariant-loop
invariant-loop g l = record {
  talk : (talk : List Spoken) × (length talk ≡ l.counter)
      × Talked g.S.Source.tells g.K.Sink.tells l.size l.zeroes talk (g.S.Source.left l.fn.source) (g.S.Source.left l.source) (g.K.Sink.taken l.fn.sink) (g.K.Sink.taken l.sink);
  source : g.S.Source.faults_of l.fn.source ≤ g.S.Source.faults_of l.source;
  sink : g.K.Sink.faults_of l.fn.sink ≤ g.K.Sink.faults_of l.sink;
}
