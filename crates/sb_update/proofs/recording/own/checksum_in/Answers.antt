use Rattle.std.proofs.Common.{◌∙◌, arith}
use Rattle.sb_update.proofs.Checksums.{field-four}
use Rattle.sb_update.proofs.recording.own.checksum_in.Goals as goal

pub returns-clause-checksum : goal.returns-clause-checksum
returns-clause-checksum c = c.from_le_bytes.ensures ∙ field-four c.args.sectors.now 216 (omega arith)

pub returns-clause-bytes : goal.returns-clause-bytes
returns-clause-bytes c = c.fits-sectors
