use Rattle.array_found_laws.proofs.Held.{found-numbers, found-is-held}
use Rattle.array_found_laws.proofs.laws.stored_superblocks_are_held.Goals as goal

pub returns-clause-held : goal.returns-clause-held
returns-clause-held c = λ bank uuid given backup members contents d are stored. found-is-held bank uuid given backup members contents d are.few are.lost stored

pub returns-clause-numbers : goal.returns-clause-numbers
returns-clause-numbers c = λ bank uuid given backup members contents d are stored. found-numbers bank uuid given backup members contents d are.few are.lost stored
