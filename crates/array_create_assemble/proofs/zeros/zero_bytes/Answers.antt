use Rattle.std.proofs.Common.{refl}
use Rattle.array_found_laws.specs.raid_types_Sectors.{zero_sector}
use Rattle.array_create_assemble.proofs.zeros.zero_bytes.Goals as goal

pub returns : goal.returns
unfolding zero_sector
returns c = refl
