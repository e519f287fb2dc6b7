use Rattle.std.proofs.Common.{sym, ◌∙◌, arith}
use Rattle.serve_frames.proofs.Frames.{payload_skipped}
use Rattle.serve_frames.proofs.taking.take_payload.Goals as goal

pub returns-else-length-payload-clause-taken : goal.returns-else-length-payload-clause-taken
returns-else-length-payload-clause-taken g c =
    payload_skipped g.S.Source.tells c.skip.result c.args.request.now (g.S.Source.left c.args.source.now) (g.S.Source.left c.skip.new.source) c.args.payload.now c.from.result
    (sym c.payload_length-length.ensures ∙ sym c.from.ensures) (omega arith) c.skip.ensures.skipped
