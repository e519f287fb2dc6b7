use Rattle.std.proofs.Common.{◌≡◌, ◌+◌, ◌-◌, ◌*◌, ◌/◌, ◌^◌, ◌≤◌, length, min}
use Rattle.bank_file.specs.Bytes.{IsPut}
use Rattle.bank_file.specs.Logs.{IsLogged}
use Rattle.bank_file.proofs.device.write_whole.Given as goal

abbrev pub invariant-loop-turn : goal.invariant-loop-turn
invariant-loop-turn g l = (l.done ≤ length l.from / 512) × (l.number ≡ l.fn.number + l.done)
    × (g.D.Device.tells → IsPut (g.D.Device.bytes l.fn.device) (g.D.Device.bytes l.device) (512 * l.at) (512 * l.done) l.from)
    × (g.D.Device.tells → IsLogged (g.D.Device.log l.fn.device) (g.D.Device.log l.device) l.fn.number l.at l.done l.from)
    × (g.D.Device.start l.device ≡ g.D.Device.start l.fn.device)
    × (g.D.Device.tells → min (l._turn + g.D.Device.stumbles l.fn.device) (2 ^ 64 - 1 + l.done) ≤ g.D.Device.stumbles l.device + l.done) × (g.D.Device.tells → g.D.Device.stumbles l.fn.device ≤ g.D.Device.stumbles l.device)
