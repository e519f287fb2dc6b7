use Rattle.std.proofs.Common.{sym, ◌∙◌, arith}
use Rattle.array_reshaping_state.proofs.FirstLaws.{before-around, both-around}
use Rattle.array_reshaping_state.proofs.refusing.unread_beside.Goals as goal

pub first_list_refusal-refusal-requires-clause-within : goal.first_list_refusal-refusal-requires-clause-within
first_list_refusal-refusal-requires-clause-within c =
    let part = c.part_in-part.ensures in
    let order = part.order in
    let ends = part.ends c.requires.order in
    let within = c.requires.within in
    omega (arith, order, ends, within)

pub returns-then-is_some : goal.returns-then-is_some
returns-then-is_some c =
    let part = c.part_in-part.ensures in
    let order = part.order in
    let ends = part.ends c.requires.order in
    before-around c.args.members.now c.args.hidden c.args.relied c.args.from c.args.to c.part_in-part.result part.sectors part.begins ends _ _ c.first_list_refusal-refusal.result (omega (arith, order, ends))
    (sym c.is_some.ensures ∙ c.if-is_some.true) c.first_list_refusal-refusal.ensures

pub returns : goal.returns
returns c =
    let part = c.part_in-part.ensures in
    let begins = part.begins in
    let order = part.order in
    both-around c.args.members.now c.args.hidden c.args.relied c.args.from c.args.to c.part_in-part.result part.sectors begins (part.ends c.requires.order) c.first_list_refusal-refusal.result c.first_list_refusal.result
    (omega (arith, begins, order)) (sym c.is_some.ensures ∙ c.if-is_some.false) c.first_list_refusal-refusal.ensures c.first_list_refusal.ensures
