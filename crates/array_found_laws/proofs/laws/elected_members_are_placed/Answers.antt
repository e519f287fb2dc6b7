use Rattle.array_found_laws.proofs.Placed.{placed-found, unlost-found, free-found}
use Rattle.array_found_laws.proofs.laws.elected_members_are_placed.Goals as goal

pub returns : goal.returns
returns c = λ bank given members are fit. record {
  placed = placed-found bank given members are fit;
  unlost = unlost-found bank given members are fit;
  free = free-found bank given members are fit;
}
