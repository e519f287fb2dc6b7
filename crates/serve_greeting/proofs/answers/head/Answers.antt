use Rattle.std.proofs.Common.{◌∙◌}
use Rattle.serve_greeting.proofs.Written.{head_written}
use Rattle.serve_greeting.proofs.answers.head.Goals as goal

pub returns : goal.returns
returns c =
    head_written c.args.option c.args.kind c.args.length c.copy_from_slice.new.self c.copy_from_slice-2.new.self c.copy_from_slice-3.new.self c.copy_from_slice-4.new.self
    (c.copy_from_slice.ensures.after ∙ c.to_be_bytes.ensures)
    (c.copy_from_slice-2.ensures.after ∙ c.to_be_bytes-2.ensures)
    (c.copy_from_slice-3.ensures.after ∙ c.to_be_bytes-3.ensures)
    (c.copy_from_slice-4.ensures.after ∙ c.to_be_bytes-4.ensures)
