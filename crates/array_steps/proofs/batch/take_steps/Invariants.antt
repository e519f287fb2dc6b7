use Rattle.std.proofs.Common.{◌≡◌, ◌≢◌, ◌+◌, ◌<◌, ◌≤◌, false}
use Rattle.array.specs.sb_specs_Reading.{is_reshaping}
use Rattle.array.specs.array_call_specs_Calls.{IsEndOf, TellNoLoss, TellNoRoleLoss}
use Rattle.array.specs.history_invariant_Recorded.{IsCallGoing}
use Rattle.array.specs.array_fixed_laws_Steps.{IsClosable}
use Rattle.array.specs.array_reply_specs_Going.{HasRunOn}
use Rattle.array.specs.Calls.{running_left}
use Rattle.array_steps.specs.Steps.{IsOpenFor, KeepsItsWay, AreStepsOf}
use Rattle.array_steps.proofs.batch.take_steps.Given as goal

abbrev pub invariant-loop-done : goal.invariant-loop-done
invariant-loop-done g l = record {
  entered : AreStepsOf l.who l.fn.array.parts.entries l.array.parts.entries l.done;
  next_open : 0 < running_left l.array → IsOpenFor l.array l.who;
  going : IsCallGoing l.array.parts.entries l.who;
  closable : l.done ≢ 0 → is_reshaping l.array.parts.members.newest ≡ false → IsClosable l.array;
  begun : l.done ≡ 0 → running_left l.array ≡ running_left l.fn.array;
  left : TellNoLoss l.fn.array.parts.entries l.array.parts.entries → running_left l.array + l.done ≡ running_left l.fn.array;
  fewer : TellNoRoleLoss l.fn.array.parts.entries l.array.parts.entries → running_left l.array + l.done ≤ running_left l.fn.array;
  room : l.array.parts.steps + l.done ≡ l.fn.array.parts.steps;
  went : HasRunOn g.B.Bank.tells g.B.Bank.given g.B.Bank.tape g.B.Bank.faults_of l.fn.array l.array;
  kept : KeepsItsWay (g.B.Bank.faults_of l.fn.array.parts.bank) (g.B.Bank.faults_of l.array.parts.bank) l.fn.array l.array;
  ended : l.done ≢ 0 → IsEndOf g.B.Bank.tells l.array.parts.first l.array.parts.entries (g.B.Bank.tape l.array.parts.bank);
}
