use Rattle.bank_backup.proofs.WrittenLaws.{cleared-none}
use Rattle.bank_backup.proofs.laws.cleared_headers_name_none.Goals as goal

pub returns : goal.returns
returns c = cleared-none
