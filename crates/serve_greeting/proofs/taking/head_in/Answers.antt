use Rattle.std.proofs.Common.{arith}
use Rattle.serve_greeting.proofs.Heads.{head_read, no_magic, too_long}
use Rattle.serve_greeting.proofs.taking.head_in.Goals as goal

pub returns-then-magic-ne-OPTION_MAGIC-clause-none : goal.returns-then-magic-ne-OPTION_MAGIC-clause-none
returns-then-magic-ne-OPTION_MAGIC-clause-none c =
    no_magic c.args.head.now c.take_u64-magic.result.1.now c.take_u64-magic.result.0 (omega arith) c.take_u64-magic.ensures c.if-magic-ne-OPTION_MAGIC.true

pub returns-then-length-gt-MOST-clause-none : goal.returns-then-length-gt-MOST-clause-none
returns-then-length-gt-MOST-clause-none c =
    too_long c.args.head.now c.take_u64-magic.result.1.now c.take_u32-option.result.1.now c.take_u32-length.result.1.now c.take_u64-magic.result.0 c.take_u32-option.result.0
    c.take_u32-length.result.0 (omega arith) (omega arith) c.take_u64-magic.ensures c.take_u32-option.ensures c.take_u32-length.ensures (omega arith)

pub returns-clause-found : goal.returns-clause-found
returns-clause-found c = (
  head_read c.args.head.now c.take_u64-magic.result.1.now c.take_u32-option.result.1.now c.take_u32-length.result.1.now c.take_u64-magic.result.0 c.take_u32-option.result.0
      c.take_u32-length.result.0 (omega arith) c.take_u64-magic.ensures c.take_u32-option.ensures c.take_u32-length.ensures c.if-magic-ne-OPTION_MAGIC.false,
  omega arith,
)
