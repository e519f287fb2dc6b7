use Rattle.std.proofs.Common.{◌+◌, ◌-◌, sym, arith}
use Rattle.std.proofs.lemmas.Slice.{drop-put_mid}
use Rattle.sb_codec.proofs.fields.put_bytes.Goals as goal

pub returns-clause-after : goal.returns-clause-after
returns-clause-after g c =
    let at = c.args.offset in
    let n = g.row.N in
    record { same = sym (drop-put_mid at (at + n - at) c.args.sectors.now c.copy_from_slice.new.self (at + n) (omega arith) (omega arith) (omega arith)) }
