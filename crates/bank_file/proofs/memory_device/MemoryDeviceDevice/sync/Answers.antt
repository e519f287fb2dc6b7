use Rattle.bank_file.proofs.Notes.{synced-one}
use Rattle.bank_file.proofs.memory_device.MemoryDeviceDevice.sync.Goals as goal

pub returns-in-Ok-clause-synced : goal.returns-in-Ok-clause-synced
returns-in-Ok-clause-synced c told = synced-one c.args.self.now.log.items c.note.new.self.log.items c.args.number c.in-Ok.ensures.noted
