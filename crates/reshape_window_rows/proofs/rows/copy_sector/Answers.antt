use Rattle.std.proofs.Common.{arith, ◌∙◌}
use Rattle.reshape_begin_end.proofs.stripe_row_RowBytes.{sector-put_other}
use Rattle.reshape_begin_end.proofs.stripe_row_RowBytes.{sector-put_here}
use Rattle.reshape_window_rows.proofs.rows.copy_sector.Goals as goal

pub returns-clause-others : goal.returns-clause-others
returns-clause-others c = λ i ne. sector-put_other c.args.into.now c.copy_from_slice.new.self c.args.index i c.requires.index (omega (arith, c.copy_from_slice.auto.self, c.requires.index)) ne

pub returns-clause-here : goal.returns-clause-here
returns-clause-here c = sector-put_here c.args.into.now c.copy_from_slice.new.self c.args.index c.requires.index (omega (arith, c.copy_from_slice.auto.self, c.requires.index)) ∙ c.copy_from_slice.ensures.after
