-- The answers so far were shown.
use Rattle.std.proofs.Common.{◌≡◌, ◌+◌, ◌≤◌, ◌++◌, None, length, vec_capacity}
use Rattle.std.specs.List.{All}
use Rattle.std.specs.Vec.Iter.{into_iter_items, into_iter_len}
use Rattle.run_blocks.specs.run_specs_States.{histories_in, bank_in, IsNamed}
use Rattle.run_blocks.specs.Shown.{longest_reply, IsAnswerShort}
use Rattle.run_session.specs.Sessions.{AreShownOf}
use Rattle.run_session.proofs.blocks.show_answers.Given as goal

abbrev pub invariant-loop-what : goal.invariant-loop-what
invariant-loop-what g l = record {
  whole : l.yielded ++ into_iter_items l.what-iterator ≡ l.fn.whats.items;
  len : into_iter_len l.what-iterator ≡ length (into_iter_items l.what-iterator);
  index : l.i ≡ length l.yielded;
  state : l.session.state ≡ l.fn.session.state;
  room : longest_reply ≤ vec_capacity l.session.buffer;
  spare : length l.session.replies.items + length l.lines ≤ vec_capacity l.session.replies + l.i;
  shown : (shown : AreShownOf g.K.Sink.tells g.B.Bank.tells (length (g.B.Bank.tape (bank_in l.fn.session.state))) (histories_in l.fn.session.state) l.fn.session l.session l.lines l.fn.whats.items None (g.K.Sink.taken l.fn.out) (g.K.Sink.taken l.out)) × (length shown.made ≡ l.i);
  named : All (λ what. IsNamed (histories_in l.fn.session.state) what) (into_iter_items l.what-iterator);
  short : All (λ what. IsAnswerShort 0 (histories_in l.fn.session.state) what) (into_iter_items l.what-iterator);
  falls : g.K.Sink.faults_of l.fn.out ≤ g.K.Sink.faults_of l.out;
}
