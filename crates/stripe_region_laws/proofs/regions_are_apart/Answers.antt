use Rattle.stripe_region_laws.proofs.RegionLaws.{regions-apart}
use Rattle.stripe_region_laws.proofs.regions_are_apart.Goals as goal

pub returns : goal.returns
returns c = regions-apart
