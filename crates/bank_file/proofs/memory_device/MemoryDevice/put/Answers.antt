use Rattle.bank_file.proofs.Notes.{logged-one}
use Rattle.bank_file.proofs.memory_device.MemoryDevice.put.Goals as goal

pub returns-clause-logged : goal.returns-clause-logged
returns-clause-logged c = logged-one c.args.self.now.log.items c.note.new.self.log.items c.args.number _ c.args.from.now _ c.in_ok-note.ensures.noted c.copy_from_slice.ensures.after c.requires.size
