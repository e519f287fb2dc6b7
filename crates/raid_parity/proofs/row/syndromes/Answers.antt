use Rattle.std.proofs.Common.{◌≡◌, ◌≢◌, ℕ, ◌<◌, true, false, Some, sym, ap, ◌∙◌}
use Rattle.raid_parity.specs.Exponents.{is_q, is_data}
use Rattle.raid_parity.specs.Rows.{sector_of, byte_of}
use Rattle.raid_parity.proofs.Columns.{data_at_p, data_at_q, q_at, q_of}
use Rattle.raid_parity.proofs.Contents.{whole-good}
use Rattle.raid_parity.proofs.RowBytes.{sector_of-same, p_met, q_met, no_q_met}
use Rattle.raid_parity.proofs.row.syndromes.Goals as goal

pub returns-in-None-clause-good : goal.returns-in-None-clause-good
returns-in-None-clause-good c =
    let roles = c.args.roles.now in
    let old = c.args.row.now in
    let new = c.put_sector.new.row in
    let same : (r at : ℕ) → at < 512 → is_data roles r ≡ true → byte_of new r at ≡ byte_of old r at = λ r at lt data_role.
    c.put_sector.ensures.others r at lt (λ e. let other : is_data roles r ≡ false = ap (is_data roles) e ∙ data_at_p roles in absurd (cc)) in
    whole-good roles roles.disks (sector_of new)
    (p_met roles c.requires.roles old new same (λ at lt. c.put_sector.ensures.there at lt ∙ c.plain_sum-sum.ensures at lt))
    (no_q_met roles c.requires.roles old new same c.in-None.is)

pub returns-in-None-clause-data : goal.returns-in-None-clause-data
returns-in-None-clause-data c role data_role =
    let roles = c.args.roles.now in
    sector_of-same c.args.row.now c.put_sector.new.row role c.put_sector.auto.row (λ at lt.
    c.put_sector.ensures.others role at lt (λ e. let other : is_data roles role ≡ false = ap (is_data roles) e ∙ data_at_p roles in absurd (cc)))

pub returns-in-Some-clause-good : goal.returns-in-Some-clause-good
returns-in-Some-clause-good c =
    let roles = c.args.roles.now in
    let q = c.in-Some.q in
    let has_q : roles.q ≡ Some q = c.in-Some.is in
    let apart : q ≢ roles.p = (q_of roles c.requires.roles q has_q).1 in
    let old = c.args.row.now in
    let new = c.put_sector-in-Some-2.new.row in
    let same : (r at : ℕ) → at < 512 → is_data roles r ≡ true → byte_of new r at ≡ byte_of old r at = λ r at lt data_role.
    c.put_sector-in-Some-2.ensures.others r at lt (λ e. let other : is_data roles r ≡ false = data_at_q roles r (ap (is_q roles) e ∙ q_at roles q has_q) in absurd (cc))
    ∙ c.put_sector-in-Some.ensures.others r at lt (λ e. let other : is_data roles r ≡ false = ap (is_data roles) e ∙ data_at_p roles in absurd (cc)) in
    whole-good roles roles.disks (sector_of new)
    (p_met roles c.requires.roles old new same (λ at lt.
    c.put_sector-in-Some-2.ensures.others roles.p at lt (λ e. apart (sym e)) ∙ c.put_sector-in-Some.ensures.there at lt ∙ c.both_sums.ensures.plain at lt))
    (q_met roles c.requires.roles old new same q has_q (λ at lt. c.put_sector-in-Some-2.ensures.there at lt ∙ c.both_sums.ensures.weighed at lt))

pub returns-in-Some-clause-data : goal.returns-in-Some-clause-data
returns-in-Some-clause-data c role data_role =
    let roles = c.args.roles.now in
    let q = c.in-Some.q in
    let has_q : roles.q ≡ Some q = c.in-Some.is in
    sector_of-same c.args.row.now c.put_sector-in-Some-2.new.row role (c.put_sector-in-Some-2.auto.row ∙ c.put_sector-in-Some.auto.row) (λ at lt.
    c.put_sector-in-Some-2.ensures.others role at lt (λ e. let other : is_data roles role ≡ false = data_at_q roles role (ap (is_q roles) e ∙ q_at roles q has_q) in absurd (cc))
    ∙ c.put_sector-in-Some.ensures.others role at lt (λ e. let other : is_data roles role ≡ false = ap (is_data roles) e ∙ data_at_p roles in absurd (cc)))
