use Rattle.raid_gf256.proofs.Fields.{is_field}
use Rattle.raid_gf256.proofs.field_laws.Goals as goal

pub returns : goal.returns
returns c = is_field
