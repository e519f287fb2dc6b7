use Rattle.std.proofs.Common.{◌∙◌}
use Rattle.serve_greeting.proofs.Written.{export_written}
use Rattle.serve_greeting.proofs.answers.size_and_flags.Goals as goal

pub returns : goal.returns
returns c =
    export_written c.args.size c.copy_from_slice.new.self c.copy_from_slice-2.new.self (c.copy_from_slice.ensures.after ∙ c.to_be_bytes.ensures)
    (c.copy_from_slice-2.ensures.after ∙ c.to_be_bytes-2.ensures)
