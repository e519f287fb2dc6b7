use Rattle.bank_backup.proofs.HeaderLaws.{encoded}
use Rattle.bank_backup.proofs.header.encode.Goals as goal

pub returns : goal.returns
returns c = encoded c.args.uuid.now c.told-uuid c.args.arraystart c.args.length c.put.new.sector c.put-2.new.sector c.put-3.new.sector c.put-4.new.sector c.put-5.new.sector
    c.to_le_bytes.result c.to_le_bytes-2.result c.to_le_bytes-3.result c.to_le_bytes.ensures c.to_le_bytes-2.ensures c.to_le_bytes-3.ensures
    c.put.ensures c.put-2.ensures c.put-3.ensures c.put-4.ensures c.put-5.ensures
