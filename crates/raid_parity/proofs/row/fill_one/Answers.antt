use Rattle.std.proofs.Common.{◌≡◌, ℕ, ◌<◌, get_or, Some, ◌∙◌, arith}
use Rattle.std.proofs.lemmas.List.{get_or-replicate}
use Rattle.raid_parity.specs.Rows.{IsRowOf}
use Rattle.raid_parity.proofs.Filling.{q_at_q}
use Rattle.raid_parity.proofs.Contents.{q_from}
use Rattle.raid_parity.proofs.RowBytes.{sector_of-same, one_filled}
use Rattle.raid_parity.proofs.row.fill_one.Goals as goal

pub returns-clause-filled : goal.returns-clause-filled
returns-clause-filled c =
    let roles = c.args.roles.now in
    let is = c.requires.roles in
    let m = c.args.missing in
    let new = c.put_sector-2.new.row in
    let whole : IsRowOf roles.disks new = c.put_sector-2.auto.row ∙ c.put_sector.auto.row ∙ c.requires.whole in
    let small : (place : ℕ) → get_or new place 0 < 256 = λ place. let h = c.type_inv.row place in omega (arith, h) in
    one_filled roles is c.args.row.now c.put_sector.new.row new m c.requires.missing
    (λ at lt. c.put_sector.ensures.there at lt ∙ get_or-replicate 512 at 0 0 lt)
    (λ r at lt ne. c.put_sector.ensures.others r at lt ne)
    (λ r at lt ne. c.put_sector-2.ensures.others r at lt ne)
    whole small
    (λ at_q at lt. c.put_sector-2.ensures.there at lt ∙ c.missing_sector-sector.ensures.q at_q at lt)
    (λ not_q at lt. c.put_sector-2.ensures.there at lt ∙ c.missing_sector-sector.ensures.other not_q at lt)
    (λ at_q. let has_q : roles.q ≡ Some m = q_from roles m at_q in (has_q, q_at_q roles is m has_q))

pub returns-clause-others : goal.returns-clause-others
returns-clause-others c role ne =
    sector_of-same c.args.row.now c.put_sector-2.new.row role (c.put_sector-2.auto.row ∙ c.put_sector.auto.row) (λ at lt.
    c.put_sector-2.ensures.others role at lt ne ∙ c.put_sector.ensures.others role at lt ne)
