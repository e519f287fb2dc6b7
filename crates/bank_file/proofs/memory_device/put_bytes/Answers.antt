use Rattle.std.proofs.Common.{arith}
use Rattle.bank_file.proofs.Notes.{put-one}
use Rattle.bank_file.proofs.memory_device.put_bytes.Goals as goal

pub returns : goal.returns
returns c = put-one c.args.bytes.now c.copy_from_slice.new.self c.args.at c.args.from.now c.copy_from_slice.ensures.after (omega (arith, c.copy_from_slice.ensures.len)) c.requires.within
