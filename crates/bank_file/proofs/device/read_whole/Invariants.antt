use Rattle.std.proofs.Common.{◌≡◌, ◌+◌, ◌-◌, ◌^◌, ◌≤◌, length, min}
use Rattle.bank_file.specs.Bytes.{AreBytes, AreSame}
use Rattle.bank_file.specs.Logs.{AreKept}
use Rattle.bank_file.proofs.device.read_whole.Given as goal

abbrev pub invariant-loop-turn : goal.invariant-loop-turn
invariant-loop-turn g l = (l.done ≤ length l.into) × (length l.into ≡ length l.fn.into) × (g.D.Device.tells → AreBytes (g.D.Device.bytes l.fn.device) l.offset l.done l.into)
    × (g.D.Device.tells → AreSame (g.D.Device.bytes l.fn.device) (g.D.Device.bytes l.device))
    × (g.D.Device.tells → AreKept (g.D.Device.log l.fn.device) (g.D.Device.log l.device))
    × (g.D.Device.start l.device ≡ g.D.Device.start l.fn.device)
    × (g.D.Device.tells → min (l._turn + g.D.Device.stumbles l.fn.device) (2 ^ 64 - 1 + l.done) ≤ g.D.Device.stumbles l.device + l.done) × (g.D.Device.tells → g.D.Device.stumbles l.fn.device ≤ g.D.Device.stumbles l.device)
