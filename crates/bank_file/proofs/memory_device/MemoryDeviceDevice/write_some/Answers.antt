use Rattle.std.proofs.Common.{◌+◌, ◌-◌, ◌*◌, refl, ◌∙◌, arith}
use Rattle.bank_file.proofs.Moves.{put_more, put_at, logged_more, logged_at}
use Rattle.bank_file.proofs.memory_device.MemoryDeviceDevice.write_some.Goals as goal

pub loop-i-preserved : goal.loop-i-preserved
loop-i-preserved c =
    let was = c.loop-i.invariant in
    let i = c.loop-i.i in (
      refl,
      put_at refl (omega arith) (put_more (512 * i + 512 - 512 * i) (omega arith) was.1 c.in-Ok.ensures.put),
      logged_more (512 * i + 512 - 512 * i) (omega arith) was.2 (logged_at (let place = c.requires.place in omega (arith, place)) refl c.in-Ok.ensures.logged),
      c.put.ensures.long ∙ was.3,
      c.put.ensures.start ∙ was.4,
      c.put.ensures.stumbles ∙ was.5,
    )
