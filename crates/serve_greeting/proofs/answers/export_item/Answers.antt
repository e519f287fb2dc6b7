use Rattle.std.proofs.Common.{◌∙◌}
use Rattle.serve_greeting.proofs.Written.{item_written}
use Rattle.serve_greeting.proofs.answers.export_item.Goals as goal

pub returns : goal.returns
returns c = item_written c.args.size c.copy_from_slice.new.self (c.copy_from_slice.ensures.after ∙ c.size_and_flags.ensures)
