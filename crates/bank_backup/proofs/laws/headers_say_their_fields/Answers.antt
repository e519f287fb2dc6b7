use Rattle.bank_backup.proofs.WrittenLaws.{headers-say}
use Rattle.bank_backup.proofs.laws.headers_say_their_fields.Goals as goal

pub returns : goal.returns
returns c = headers-say
