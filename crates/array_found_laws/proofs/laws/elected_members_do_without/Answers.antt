use Rattle.std.proofs.Common.{take}
use Rattle.array_call_specs.specs.bank_Given.{sizes}
use Rattle.array_found_laws.proofs.Elected.{elected-does}
use Rattle.array_found_laws.proofs.laws.elected_members_do_without.Goals as goal

pub returns : goal.returns
returns c = λ bank given members are. elected-does (sizes bank).sectors (take bank.slots members.own) members.lost members are.elected
