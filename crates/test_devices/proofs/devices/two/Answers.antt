use Rattle.std.proofs.Common.{List, sym, subst, All}
use Rattle.std.specs.Prelude.{slice_index}
use Rattle.std.proofs.lemmas.List.Elements.{All-nil, All-push, All-same}
use Rattle.bank_file.specs.Images.{IsFreshDevice}
use Rattle.bank_file.specs.Entries.{noted}
use Rattle.bank_file.specs.declared.memory_device.MemoryDevice.{MemoryDevice}
use Rattle.test_devices.proofs.devices.two.Goals as goal

abbrev P : MemoryDevice → Type 0
P device = IsFreshDevice (λ (d : MemoryDevice). slice_index d.start.items) (λ (d : MemoryDevice). slice_index d.held.items) (λ (d : MemoryDevice). noted d.log.items) device

pub with_devices-requires-clause-fresh : goal.with_devices-requires-clause-fresh
with_devices-requires-clause-fresh c told =
    All-same P _ _ c.in_ok-push-2.ensures.items (All-push P c.push.new.self.items _
    (All-same P _ _ c.in_ok-push.ensures.items (All-push P c.new-devices.result.items _ (All-same P _ _ c.new-devices.ensures.items (All-nil P)) c.in_ok-device.ensures)) c.in_ok-device-2.ensures)
