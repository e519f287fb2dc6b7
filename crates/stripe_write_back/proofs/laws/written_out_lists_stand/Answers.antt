use Rattle.stripe_write_back.proofs.WrittenOutLaws.{nearer-allowed, list-out, stand-on}
use Rattle.stripe_write_back.proofs.laws.written_out_lists_stand.Goals as goal

pub returns-clause-allowed : goal.returns-clause-allowed
returns-clause-allowed c = nearer-allowed

pub returns-clause-list : goal.returns-clause-list
returns-clause-list c = list-out

pub returns-clause-standing : goal.returns-clause-standing
returns-clause-standing c = stand-on
