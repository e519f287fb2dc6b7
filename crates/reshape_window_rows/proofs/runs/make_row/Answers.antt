use Rattle.std.proofs.Common.{◌∙◌}
use Rattle.reshape_window_rows.proofs.RowLaws.{new_full}
use Rattle.reshape_window_rows.proofs.runs.make_row.Goals as goal

pub returns : goal.returns
returns c = record {
  full = λ tail list own copied role lt. c.set_parity.ensures.sectors role lt
      ∙ new_full c.args.shape.now c.requires.shape list c.args.row c.window_row.new.into (c.window_row.ensures.full tail list own copied) role lt;
}
