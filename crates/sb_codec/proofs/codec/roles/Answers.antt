use Rattle.std.proofs.Common.{arith}
use Rattle.sb_codec.proofs.RoleTable.{entries-read}
use Rattle.sb_codec.proofs.codec.roles.Goals as goal

pub returns : goal.returns
returns c = entries-read 384 c.args.bytes.now c.read_u16_into.new.dst (omega arith) (omega arith) c.read_u16_into.ensures
