use Rattle.bank_backup.proofs.WrittenLaws.{headers-named}
use Rattle.bank_backup.proofs.laws.headers_name_their_span.Goals as goal

pub returns : goal.returns
returns c = headers-named
