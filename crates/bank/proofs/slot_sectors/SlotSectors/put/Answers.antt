use Rattle.std.proofs.Common.{◌∙◌, List, length, set, ap, arith}
use Rattle.raid_types.specs.Sectors.{Sector}
use Rattle.bank.proofs.Slots.{length-filled_up, put_further, room_further}
use Rattle.bank.proofs.slot_sectors.SlotSectors.put.Goals as goal

pub invariant_of-self : goal.invariant_of-self
invariant_of-self c = room_further c.self.inside.count c.args.sector _ _ c.self.inside.filled.items c.fill_up.new.filled.items c.args.bytes c.self.invariant (omega (arith, c.requires, ap (λ (l : List Sector). length l) c.self.view_is, length-filled_up c.self.inside.count c.self.inside.filled.items c.self.invariant.within)) c.fill_up.ensures.items c.fill_up.ensures.capacity

pub returns : goal.returns
returns c =
    put_further c.self.inside.count c.args.sector c.self.inside.filled.items c.fill_up.new.filled.items c.args.bytes c.self.invariant.within (omega (arith, c.requires, ap (λ (l : List Sector). length l) c.self.view_is, length-filled_up c.self.inside.count c.self.inside.filled.items c.self.invariant.within)) c.fill_up.ensures.items
    ∙ ap (λ (l : List Sector). set l c.args.sector c.args.bytes) c.self.view_is
