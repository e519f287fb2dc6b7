use Rattle.std.proofs.Common.{ap, ◌∙◌}
use Rattle.std.specs.Int.{w16, to_be_bytes}
use Rattle.serve_frames.proofs.Spelled.{request_written}
use Rattle.serve_frames.proofs.request.Request.encode.Goals as goal

pub returns : goal.returns
returns c =
    request_written c.args.self.now c.copy_from_slice.new.self c.copy_from_slice-2.new.self c.copy_from_slice-3.new.self c.copy_from_slice-4.new.self c.copy_from_slice-5.new.self
    c.copy_from_slice-6.new.self
    (c.copy_from_slice.ensures.after ∙ c.to_be_bytes.ensures)
    (c.copy_from_slice-2.ensures.after ∙ c.to_be_bytes-2.ensures)
    (c.copy_from_slice-3.ensures.after ∙ c.to_be_bytes-3.ensures ∙ ap (λ n. to_be_bytes w16 n) c.number.ensures)
    (c.copy_from_slice-4.ensures.after ∙ c.to_be_bytes-4.ensures)
    (c.copy_from_slice-5.ensures.after ∙ c.to_be_bytes-5.ensures)
    (c.copy_from_slice-6.ensures.after ∙ c.to_be_bytes-6.ensures)
