use Rattle.std.proofs.Common.{sym, subst}
use Rattle.std.specs.Prelude.{IfSome}
use Rattle.run_blocks.specs.run_specs_the_State.{State}
use Rattle.run_blocks.specs.run_specs_Records.{IsRecordStored}
use Rattle.run_blocks.specs.run_specs_States.{bank_in, record_in}
use Rattle.run_blocks.proofs.run_requests_RecordLaws.{stored-record}
use Rattle.run_session.proofs.sessions.check_stored.Goals as goal

pub returns-in-Running : goal.returns-in-Running
returns-in-Running g c = record {
  stored = subst (λ (s : State g.row.B.Denot). IfSome (record_in s) (IsRecordStored g.B.Bank.tells (g.B.Bank.given (bank_in s)) (g.B.Bank.tape (bank_in s)))) (sym c.in-Running.is) (stored-record _ _ _ c.check_stored.ensures.stored);
}
