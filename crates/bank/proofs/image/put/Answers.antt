use Rattle.std.proofs.Common.{◌<◌, ◌∙◌, [], List, length, set, subst, sym, ap}
use Rattle.std.proofs.lemmas.List.{get_or_default}
use Rattle.raid_types.specs.Sectors.{Sector}
use Rattle.bank.proofs.image.put.Goals as goal

pub put-requires : goal.put-requires
put-requires c =
    subst (λ (l : List Sector). c.args.sector < length l) (sym (c.index_mut-sectors.ensures.value ∙ get_or_default c.args.slots.now.items c.args.slot c.index_mut-sectors.result.now [] c.requires.slot)) c.requires.sector

pub returns : goal.returns
returns c =
    ap (λ (l : List Sector). set c.args.slots.now.items c.args.slot l)
    (c.put.ensures ∙ ap (λ (l : List Sector). set l c.args.sector c.args.bytes) (c.index_mut-sectors.ensures.value ∙ get_or_default c.args.slots.now.items c.args.slot c.index_mut-sectors.result.now [] c.requires.slot))
