use Rattle.bank_backup.proofs.WrittenLaws.{named-found}
use Rattle.bank_backup.proofs.laws.named_sections_are_found.Goals as goal

pub returns : goal.returns
returns c = named-found
