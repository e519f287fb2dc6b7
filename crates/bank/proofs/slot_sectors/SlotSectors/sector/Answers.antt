use Rattle.std.proofs.Common.{◌∙◌, [], List, length, get_or, ap, arith}
use Rattle.raid_types.specs.Sectors.{Sector}
use Rattle.bank.proofs.Slots.{length-filled_up, sector_filled, sector_zero}
use Rattle.bank.proofs.slot_sectors.SlotSectors.sector.Goals as goal

pub returns-then-at-len : goal.returns-then-at-len
returns-then-at-len c =
    sector_filled c.self.inside.count c.args.at c.self.inside.filled.items c.index.result.now (omega (arith, c.if-at-len.true, c.len.ensures, c.self.inside.filled.ok.0)) c.index.ensures
    ∙ ap (λ (l : List Sector). get_or l c.args.at []) c.self.view_is

pub returns-else-at-len : goal.returns-else-at-len
returns-else-at-len c =
    sector_zero c.self.inside.count c.args.at c.self.inside.filled.items (omega (arith, c.if-at-len.false, c.len.ensures, c.self.inside.filled.ok.0))
    (omega (arith, c.requires, ap (λ (l : List Sector). length l) c.self.view_is, length-filled_up c.self.inside.count c.self.inside.filled.items c.self.invariant.within))
    ∙ ap (λ (l : List Sector). get_or l c.args.at []) c.self.view_is
