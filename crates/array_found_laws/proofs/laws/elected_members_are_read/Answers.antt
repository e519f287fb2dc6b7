use Rattle.array_found_laws.proofs.Read.{found-read}
use Rattle.array_found_laws.proofs.laws.elected_members_are_read.Goals as goal

pub returns : goal.returns
returns c = λ bank given scope members are placed sizes_are. found-read bank given members are placed scope sizes_are
