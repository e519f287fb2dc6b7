use Rattle.std.proofs.Common.{arith}
use Rattle.serve_frames.proofs.Spelled.{request_read, no_request}
use Rattle.serve_frames.proofs.request.Request.decode.Goals as goal

pub returns-then-magic-ne-REQUEST_MAGIC-clause-none : goal.returns-then-magic-ne-REQUEST_MAGIC-clause-none
returns-then-magic-ne-REQUEST_MAGIC-clause-none c = λ r.
    no_request c.args.bytes.now c.take_u32-magic.result.1.now c.take_u32-magic.result.0 r (omega arith) c.take_u32-magic.ensures c.if-magic-ne-REQUEST_MAGIC.true

pub returns-clause-found : goal.returns-clause-found
returns-clause-found c =
    request_read c.args.bytes.now c.take_u32-magic.result.1.now c.take_u16-flags.result.1.now c.take_u16-number.result.1.now c.take_u64-cookie.result.1.now c.take_u64-offset.result.1.now
    c.take_u32-length.result.1.now c.take_u32-magic.result.0 c.take_u16-flags.result.0 c.take_u16-number.result.0 c.take_u64-cookie.result.0 c.take_u64-offset.result.0
    c.take_u32-length.result.0 c.of-command.result (omega arith) c.take_u32-magic.ensures c.take_u16-flags.ensures c.take_u16-number.ensures c.take_u64-cookie.ensures
    c.take_u64-offset.ensures c.take_u32-length.ensures c.if-magic-ne-REQUEST_MAGIC.false c.of-command.ensures.number
