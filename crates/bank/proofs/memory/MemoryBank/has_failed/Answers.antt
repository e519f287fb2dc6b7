use Rattle.std.proofs.Common.{◌<◌, ◌^◌, ◌∙◌, [], List, length, subst, sym}
use Rattle.std.proofs.lemmas.List.{get_or_default}
use Rattle.raid_types.specs.Sectors.{Sector}
use Rattle.bank.specs.Memory.{Memory, sectors_of}
use Rattle.bank.proofs.memory.MemoryBank.has_failed.Goals as goal

pub returns-clause-short : goal.returns-clause-short
returns-clause-short c =
    let start = c.self.inside.start.items in
    let known : c.args.slot < length start = subst (λ (m : Memory). c.args.slot < length m.start) (sym c.self.view_is) c.requires in
    let here = c.index.ensures ∙ get_or_default start c.args.slot c.index.result.now [] known in
    subst (λ (m : Memory). sectors_of m.start c.args.slot < 2 ^ 63) c.self.view_is (subst (λ (l : List Sector). length l < 2 ^ 63) here c.count.ensures.short)
