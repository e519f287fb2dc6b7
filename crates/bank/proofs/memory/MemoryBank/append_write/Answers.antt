use Rattle.std.proofs.Common.{◌<◌, subst, sym, arith}
use Rattle.bank.specs.Memory.{Memory, sectors_of}
use Rattle.bank.proofs.Present.{write_step}
use Rattle.bank.proofs.memory.MemoryBank.append_write.Goals as goal

pub invariant_of-self : goal.invariant_of-self
invariant_of-self c =
    write_step _ _ c.self.inside.tape.items _ c.self.inside.room _ _ _ c.self.invariant _ c.args.slot c.args.at c.one_sector-sector.result
    (subst (λ (m : Memory). c.args.at < sectors_of m.start c.args.slot) (sym c.self.view_is) c.requires.sector)
    c.one_sector-sector.ensures.whole c.put.ensures c.push_reserved.ensures.items (omega (arith, c.push_reserved.ensures.capacity))
