use Rattle.stripe_region_laws.proofs.RegionLaws.{windows-write}
use Rattle.stripe_region_laws.proofs.windows_write_their_rows.Goals as goal

pub returns : goal.returns
returns c = windows-write
