use Rattle.reshape_geometry.proofs.Tilings.{forward_window_at}
use Rattle.reshape_geometry.proofs.windows.window.Goals as goal

pub returns-clause-next : goal.returns-clause-next
returns-clause-next c =
    forward_window_at c.args.old.now c.args.new.now c.args.size c.args.back c.args.position c.min-hi.result c.list_end-end.result c.unit-unit.result
    c.if-back.false c.if-end-position.false c.list_end-end.ensures.value c.unit-unit.ensures.value c.unit-unit.ensures.least.positive c.min-hi.ensures
