use Rattle.bank_file.proofs.Opened.{fresh_kept}
use Rattle.bank_file.proofs.file_bank.FileBank.of.Goals as goal

pub invariant_of-result : goal.invariant_of-result
invariant_of-result g c = fresh_kept g.D.Device.start g.D.Device.bytes g.D.Device.log c.args.images.items c.requires.few c.requires.fresh
