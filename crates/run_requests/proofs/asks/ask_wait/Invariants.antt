-- Each call so far left more to do.
use Rattle.std.proofs.Common.{ℕ, ◌-◌, ◌^◌, List, length}
use Rattle.run_specs.specs.sb_specs_Reading.{is_reshaping, list_length}
use Rattle.run_specs.specs.array_call_specs_Calls.{IsEndOf}
use Rattle.run_specs.specs.reshape_request_Left.{phases_of}
use Rattle.run_specs.specs.array_reply_specs_Going.{HasRunOn}
use Rattle.run_specs.specs.Asked.{IsStillWaiting}
use Rattle.run_specs.specs.Caused.{Record, record_of}
use Rattle.run_requests.proofs.RecordLaws.{AreAnsweredSo}
use Rattle.run_specs.specs.Turning.{IsTurningTold}
use Rattle.run_requests.proofs.asks.ask_wait.Given as goal

abbrev pub invariant-loop-at : goal.invariant-loop-at
invariant-loop-at g l = record {
  waiting : (earlier : List ℕ) × IsStillWaiting (list_length l.fn.array.parts.members.newest) l.fn.array.parts.entries earlier l.array.parts.entries;
  ended : IsEndOf g.B.Bank.tells l.array.parts.first l.array.parts.entries (g.B.Bank.tape l.array.parts.bank);
  turning : IsTurningTold (is_reshaping l.array.parts.members.newest) (phases_of l.array.ahead) l.array.parts.entries;
  stepped : (others : List Record) × AreAnsweredSo (g.B.Bank.faults_of l.fn.array.parts.bank) (g.B.Bank.faults_of l.array.parts.bank) (record_of l.fn.array) others (record_of l.array);
  went : HasRunOn g.B.Bank.tells g.B.Bank.given g.B.Bank.tape g.B.Bank.faults_of l.fn.array l.array;
}

-- the places that are left for entries
abbrev pub decreases-loop-at : goal.decreases-loop-at
decreases-loop-at g l = 2 ^ 64 - length l.array.parts.entries
