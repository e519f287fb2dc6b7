use Rattle.std.proofs.Common.{sym, ◌∙◌, ap, refl, is_some}
use Rattle.array_reshaping_state.proofs.DueLaws.{then-is, else-is, less-is, most-is}
use Rattle.array_reshaping_state.proofs.stepping.due_between.Goals as goal

pub returns-then-is_some : goal.returns-then-is_some
returns-then-is_some c = then-is _ _ _ (ap is_some (sym c.next_window_of.ensures.value) ∙ sym c.is_some.ensures ∙ c.if-is_some.true)

pub returns-then-zeroed-stripes_to_zero : goal.returns-then-zeroed-stripes_to_zero
returns-then-zeroed-stripes_to_zero c =
    else-is _ _ _ _ (ap is_some (sym c.next_window_of.ensures.value) ∙ sym c.is_some.ensures ∙ c.if-is_some.false)
    (then-is _ _ _ (less-is c.args.zeroed c.stripes_to_zero.result c.args.zeroed _ c.stripes_to_zero.ensures refl c.if-zeroed-stripes_to_zero.true))

pub returns : goal.returns
returns c =
    else-is _ _ _ _ (ap is_some (sym c.next_window_of.ensures.value) ∙ sym c.is_some.ensures ∙ c.if-is_some.false)
    (else-is _ _ _ _ (most-is c.args.zeroed c.stripes_to_zero.result c.args.zeroed _ c.stripes_to_zero.ensures refl c.if-zeroed-stripes_to_zero.false) refl)
