use Rattle.std.proofs.Common.{true, false, refl}
use Rattle.reshape_geometry.proofs.Tilings.{forward_tiles, backward_tiles}
use Rattle.reshape_geometry.proofs.Valid.{bounded_pair}
use Rattle.reshape_geometry.proofs.laws.windows_tile.Goals as goal

pub returns : goal.returns
returns c old new size true position f le = backward_tiles old new size _ position (bounded_pair old new size f).some_unit refl
returns c old new size false position f le = forward_tiles old new size _ position (bounded_pair old new size f).some_unit le refl
