use Rattle.std.proofs.Common.{◌+◌, ◌-◌, sym, arith}
use Rattle.std.proofs.lemmas.Slice.{drop-put_mid}
use Rattle.sb_codec.proofs.fields.put_u16.Goals as goal

pub returns-clause-after : goal.returns-clause-after
returns-clause-after c =
    let at = c.args.offset in
    record { same = sym (drop-put_mid at (at + 2 - at) c.args.sectors.now c.write_u16.new.buf (at + 2) (omega arith) (omega arith) (omega arith)) }
