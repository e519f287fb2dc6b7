use Rattle.std.proofs.Common.{◌≡◌, ℕ, ◌<◌, get_or, Some, sym, ap₂, ◌∙◌}
use Rattle.std.specs.Int.Bits.{bit_xor}
use Rattle.raid_parity.specs.Rows.{sector_of}
use Rattle.raid_parity.proofs.Bytes.{sector_byte}
use Rattle.stripe_suspects.specs.Rule.{p_difference, q_difference}
use Rattle.stripe_suspects.proofs.RowsJudged.{row-whole, p-set, q-set, judged-from, good-alone, unknown-alone}
use Rattle.stripe_suspects.proofs.judging.judge_row.Goals as goal

pub returns-then-are_zero-clause-judged : goal.returns-then-are_zero-clause-judged
returns-then-are_zero-clause-judged c =
    let roles = c.args.roles.now in
    let is = c.requires.roles in
    let old = c.args.row.now in
    let new = c.syndromes.new.row in
    let e_is : (at : ℕ) → at < 512 → get_or c.difference-p_difference.result at 0 ≡ p_difference roles (sector_of old) at = λ at lt.
    c.difference-p_difference.ensures at lt ∙ ap₂ bit_xor (p-set roles is old new c.syndromes.ensures.good c.syndromes.ensures.data at lt)
    (c.copy_of-p_sector.ensures.copy at lt ∙ sym (sector_byte old roles.p at lt)) in
    good-alone roles is c.in-None.is (sector_of old) (λ at. get_or c.difference-p_difference.result at 0) e_is (c.are_zero.ensures.yes c.if-are_zero.true)

pub returns-else-are_zero-clause-judged : goal.returns-else-are_zero-clause-judged
returns-else-are_zero-clause-judged c =
    let roles = c.args.roles.now in
    let is = c.requires.roles in
    let old = c.args.row.now in
    let new = c.syndromes.new.row in
    let e_is : (at : ℕ) → at < 512 → get_or c.difference-p_difference.result at 0 ≡ p_difference roles (sector_of old) at = λ at lt.
    c.difference-p_difference.ensures at lt ∙ ap₂ bit_xor (p-set roles is old new c.syndromes.ensures.good c.syndromes.ensures.data at lt)
    (c.copy_of-p_sector.ensures.copy at lt ∙ sym (sector_byte old roles.p at lt)) in
    unknown-alone roles is c.in-None.is (sector_of old) (λ at. get_or c.difference-p_difference.result at 0) e_is (c.are_zero.ensures.other c.if-are_zero.false)

pub returns-in-Some-clause-judged : goal.returns-in-Some-clause-judged
returns-in-Some-clause-judged c =
    let roles = c.args.roles.now in
    let is = c.requires.roles in
    let q = c.in-Some.q in
    let has_q : roles.q ≡ Some q = c.in-Some.is in
    let old = c.args.row.now in
    let new = c.syndromes-in-Some.new.row in
    let e_is : (at : ℕ) → at < 512 → get_or c.difference-p_difference-in-Some.result at 0 ≡ p_difference roles (sector_of old) at = λ at lt.
    c.difference-p_difference-in-Some.ensures at lt ∙ ap₂ bit_xor (p-set roles is old new c.syndromes-in-Some.ensures.good c.syndromes-in-Some.ensures.data at lt)
    (c.copy_of-p_sector.ensures.copy at lt ∙ sym (sector_byte old roles.p at lt)) in
    let f_is : (at : ℕ) → at < 512 → get_or c.difference-q_difference.result at 0 ≡ q_difference roles q (sector_of old) at = λ at lt.
    c.difference-q_difference.ensures at lt ∙ ap₂ bit_xor (q-set roles is old new c.syndromes-in-Some.ensures.good c.syndromes-in-Some.ensures.data at lt q has_q)
    (c.copy_of-q_sector.ensures.copy at lt ∙ sym (sector_byte old q at lt)) in
    judged-from roles is q has_q (sector_of old) (row-whole roles.disks old c.requires.whole c.copy_of-p_sector.ensures.bytes)
    (λ at. get_or c.difference-p_difference-in-Some.result at 0) (λ at. get_or c.difference-q_difference.result at 0) e_is f_is c.found.result c.found.ensures
