use Rattle.std.proofs.Common.{[], ◌∷◌}
use Rattle.bank.specs.declared.bank.Operation.TheVariants.{Flush}
use Rattle.bank.proofs.Calls.{did_then, did_stop}
use Rattle.bank_backup.specs.Storing.{section_writes}
use Rattle.bank_backup.proofs.section.store_sectors.Goals as goal

pub returns-in-Err-clause-did : goal.returns-in-Err-clause-did
returns-in-Err-clause-did g c = did_stop _ _ _ _ (section_writes c.args.slot c.args.from.now) (Flush c.args.slot ∷ []) c.write.ensures.did

pub returns-clause-did : goal.returns-clause-did
returns-clause-did g c = did_then _ _ _ _ _ (section_writes c.args.slot c.args.from.now) (Flush c.args.slot ∷ []) c.in-Ok.ensures.did c.flush.ensures.did
