-- The lines so far were performed, and each reply was shown; the others are in turn. What the monitor has scanned is told.
use Rattle.std.proofs.Common.{◌≡◌, ◌-◌, ◌≤◌, [], length, drop, vec_capacity, None}
use Rattle.std.specs.Prelude.{IsTrue}
use Rattle.run_blocks.specs.bank_Given.{NeverFalls}
use Rattle.run_blocks.specs.script_Script.{are_in_turn}
use Rattle.run_blocks.specs.script_the_Lane_TheVariants.{Script as InScript}
use Rattle.run_blocks.specs.array_members_Moving.{Grows}
use Rattle.run_blocks.specs.run_specs_Ended.{IsRunKept}
use Rattle.run_blocks.specs.run_specs_Making.{setting_of}
use Rattle.run_blocks.specs.Shown.{longest_reply}
use Rattle.run_blocks.specs.history_monitor_Hooks.{wanted_by}
use Rattle.run_blocks.specs.run_specs_Replies.{at_rest}
use Rattle.run_blocks.specs.run_specs_States.{histories_in, bank_in}
use Rattle.run_session.specs.Alerting.{entries_in, AreAlertsTold, IsWatching}
use Rattle.run_session.proofs.Alerted.{told_of}
use Rattle.run_session.specs.Sessions.{IsPerformed, IsShownTo}
use Rattle.run_session.proofs.sessions.perform.Given as goal

abbrev pub invariant-loop-next : goal.invariant-loop-next
invariant-loop-next g l = record {
  going : l.session.stopped ≡ None;
  within : l.next ≤ length l.lines;
  turns : IsTrue (are_in_turn InScript (drop l.next l.lines));
  room : longest_reply ≤ vec_capacity l.session.buffer;
  count : length l.session.replies.items ≡ l.next;
  performed : IsPerformed (setting_of g.B.Bank.tells (g.B.Bank.given l.fn.bank) (g.B.Bank.tape l.fn.bank) (g.B.Bank.tape (bank_in l.session.state)) l.backup (g.B.Bank.faults_of l.fn.bank) (g.B.Bank.faults_of (bank_in l.session.state))) l.lines l.session;
  shown : IsShownTo g.K.Sink.tells l.lines l.session (g.K.Sink.taken l.fn.out) (g.K.Sink.taken l.out) (g.K.Sink.faults_of l.fn.out) (g.K.Sink.faults_of l.out);
  former : IsRunKept g.B.Bank.tells (g.B.Bank.given l.fn.bank) (g.B.Bank.tape (bank_in l.session.state)) l.backup l.session.state;
  never_falls : NeverFalls (g.B.Bank.faults_of l.fn.bank) (g.B.Bank.faults_of (bank_in l.session.state));
  grows : Grows g.B.Bank.tells (g.B.Bank.tape l.fn.bank) (g.B.Bank.tape (bank_in l.session.state));
  alerts : AreAlertsTold (goal.G-post g (wanted_by l.hook)) (histories_in l.session.state) (at_rest 0) [] l.lines l.session.replies.items;
  watching : IsWatching (goal.G-post g (wanted_by l.hook)) l.monitor (entries_in l.session.state) (told_of (histories_in l.session.state) (at_rest 0) [] l.lines l.session.replies.items);
  given : g.B.Bank.given (bank_in l.session.state) ≡ g.B.Bank.given l.fn.bank;
}

abbrev pub decreases-loop-next : goal.decreases-loop-next
decreases-loop-next g l = length l.lines - l.next
