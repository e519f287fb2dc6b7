use Rattle.std.proofs.Common.{ap, ◌∙◌}
use Rattle.std.specs.Int.{w32, to_be_bytes}
use Rattle.serve_frames.proofs.Spelled.{reply_written}
use Rattle.serve_frames.proofs.reply.Reply.encode.Goals as goal

pub returns : goal.returns
returns c =
    reply_written c.args.self.now c.copy_from_slice.new.self c.copy_from_slice-2.new.self c.copy_from_slice-3.new.self
    (c.copy_from_slice.ensures.after ∙ c.to_be_bytes.ensures)
    (c.copy_from_slice-2.ensures.after ∙ c.to_be_bytes-2.ensures ∙ ap (λ n. to_be_bytes w32 n) c.outcome.ensures)
    (c.copy_from_slice-3.ensures.after ∙ c.to_be_bytes-3.ensures)
