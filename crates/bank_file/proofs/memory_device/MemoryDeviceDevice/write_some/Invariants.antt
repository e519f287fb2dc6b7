use Rattle.std.proofs.Common.{◌≡◌, ◌*◌, ◌/◌, length}
use Rattle.std.specs.Prelude.{slice_index}
use Rattle.bank_file.specs.Bytes.{IsPut}
use Rattle.bank_file.specs.Logs.{IsLogged}
use Rattle.bank_file.specs.Entries.{noted}
use Rattle.bank_file.proofs.memory_device.MemoryDeviceDevice.write_some.Given as goal

-- the first sectors are put
abbrev pub invariant-loop-i : goal.invariant-loop-i
invariant-loop-i l = (l.done ≡ l.i)
    × IsPut (slice_index l.fn.self.held.items) (slice_index l.self.held.items) l.offset (512 * l.i) l.from
    × IsLogged (noted l.fn.self.log.items) (noted l.self.log.items) l.number (l.offset / 512) l.i l.from
    × (length l.self.held.items ≡ length l.fn.self.held.items)
    × (l.self.start ≡ l.fn.self.start)
    × (l.self.stumbles ≡ l.fn.self.stumbles)
