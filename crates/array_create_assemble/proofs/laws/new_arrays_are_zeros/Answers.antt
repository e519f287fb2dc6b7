use Rattle.array_create_assemble.proofs.NewZeros.{new-arrays-are-zeros}
use Rattle.array_create_assemble.proofs.laws.new_arrays_are_zeros.Goals as goal

pub returns : goal.returns
returns c = new-arrays-are-zeros
