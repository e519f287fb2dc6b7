use Rattle.std.proofs.Common.{◌∙◌, ap, arith}
use Rattle.sb_codec.specs.Superblock.{two_by_two}
use Rattle.sb_codec.proofs.RoleTable.{entries-written}
use Rattle.sb_codec.proofs.codec.put_roles.Goals as goal

pub returns : goal.returns
returns c = ap two_by_two c.write_u16_into.ensures ∙ entries-written c.args.roles.now (λ k. omega (arith, c.type_inv.roles k))
