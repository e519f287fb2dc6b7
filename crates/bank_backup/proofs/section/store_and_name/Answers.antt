use Rattle.std.proofs.Common.{ap, is_ok}
use Rattle.bank.proofs.Calls.{did_then, did_stop, did_err}
use Rattle.bank_backup.specs.Storing.{section_operations, header_operations}
use Rattle.bank_backup.proofs.section.store_and_name.Goals as goal

pub returns-in-Err-clause-did : goal.returns-in-Err-clause-did
returns-in-Err-clause-did g c =
    did_stop _ _ _ _ (section_operations c.args.slot c.args.from.now) (header_operations c.args.slot c.args.header.now) c.in-Err.ensures.did

pub returns-in-Err-store_header-clause-did : goal.returns-in-Err-store_header-clause-did
returns-in-Err-store_header-clause-did g c =
    did_err (did_then _ c.store_header.result _ _ _ (section_operations c.args.slot c.args.from.now) (header_operations c.args.slot c.args.header.now) c.in-Ok.ensures.did c.store_header.ensures.did)

pub returns-in-Ok-store_header-clause-did : goal.returns-in-Ok-store_header-clause-did
returns-in-Ok-store_header-clause-did g c =
    let both = did_then _ c.store_header.result _ _ _ (section_operations c.args.slot c.args.from.now) (header_operations c.args.slot c.args.header.now) c.in-Ok.ensures.did c.store_header.ensures.did in
    record { some = both.some; all = λ told ok. both.all told (ap is_ok c.in-Ok-store_header.is) }
