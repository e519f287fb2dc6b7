use Rattle.std.proofs.Common.{◌≡◌, ◌/◌, ◌++◌, length, map, All}
use Rattle.std.specs.Vec.Iter.{into_iter_items, into_iter_len}
use Rattle.bank_file.proofs.file_bank.FileBank.with_devices.Given as goal

-- one image for each device so far
abbrev pub invariant-loop-device : goal.invariant-loop-device
invariant-loop-device g l = (l.yielded ++ into_iter_items l.device-iterator ≡ l.fn.devices.items)
    × (into_iter_len l.device-iterator ≡ length (into_iter_items l.device-iterator))
    × (map (λ image. image.device) l.images.items ≡ l.yielded)
    × (map (λ image. image.sectors) l.images.items ≡ map (λ device. g.D.Device.size device / 512) l.yielded)
    × All (λ image. image.faults ≡ 0) l.images.items
