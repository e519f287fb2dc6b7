use Rattle.std.proofs.Common.{◌∙◌, List, length, sym, ap, arith}
use Rattle.raid_types.specs.Sectors.{Sector}
use Rattle.bank.proofs.Slots.{length-filled_up}
use Rattle.bank.proofs.slot_sectors.SlotSectors.count.Goals as goal

pub returns-clause-exact : goal.returns-clause-exact
returns-clause-exact c = sym (length-filled_up c.self.inside.count c.self.inside.filled.items c.self.invariant.within) ∙ ap (λ (l : List Sector). length l) c.self.view_is

pub returns-clause-short : goal.returns-clause-short
returns-clause-short c = omega (arith, sym (returns-clause-exact c), c.self.invariant.reserved, c.self.inside.filled.small)
