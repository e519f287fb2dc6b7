use Rattle.std.proofs.Common.{arith}
use Rattle.serve_frames.proofs.Spelled.{reply_read, no_reply, no_outcome}
use Rattle.serve_frames.proofs.reply.Reply.decode.Goals as goal

pub returns-then-magic-ne-REPLY_MAGIC-clause-none : goal.returns-then-magic-ne-REPLY_MAGIC-clause-none
returns-then-magic-ne-REPLY_MAGIC-clause-none c = λ r.
    no_reply c.args.bytes.now c.take_u32-magic.result.1.now c.take_u32-magic.result.0 r (omega arith) c.take_u32-magic.ensures c.if-magic-ne-REPLY_MAGIC.true

pub returns-in-Some-clause-found : goal.returns-in-Some-clause-found
returns-in-Some-clause-found c =
    reply_read c.args.bytes.now c.take_u32-magic.result.1.now c.take_u32-number.result.1.now c.take_u64-cookie.result.1.now c.take_u32-magic.result.0 c.take_u32-number.result.0
    c.take_u64-cookie.result.0 c.in-Some.error (omega arith) c.take_u32-magic.ensures c.take_u32-number.ensures c.take_u64-cookie.ensures c.if-magic-ne-REPLY_MAGIC.false
    c.in-Some.ensures.found

pub returns-in-None-clause-none : goal.returns-in-None-clause-none
returns-in-None-clause-none c = λ r.
    no_outcome c.args.bytes.now c.take_u32-magic.result.1.now c.take_u32-number.result.1.now c.take_u32-magic.result.0 c.take_u32-number.result.0 r (omega arith)
    c.take_u32-magic.ensures c.take_u32-number.ensures c.in-None.ensures.none
