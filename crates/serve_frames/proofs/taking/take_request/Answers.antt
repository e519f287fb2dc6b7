use Rattle.serve_frames.proofs.Frames.{frame_failed}
use Rattle.serve_frames.proofs.taking.take_request.Goals as goal

pub returns-in-Err-Failed-clause-taken : goal.returns-in-Err-Failed-clause-taken
returns-in-Err-Failed-clause-taken g c =
    frame_failed g.S.Source.tells c.in-Ok.request (g.S.Source.left c.args.source.now) (g.S.Source.left c.take_head.new.source) (g.S.Source.left c.take_payload.new.source) c.take_payload.new.payload _
    c.in-Ok.ensures.taken (rw c.in-Err-Failed.field-0-is at c.in-Err-Failed.ensures.taken)
