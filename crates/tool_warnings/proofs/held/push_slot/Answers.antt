use Rattle.std.proofs.Common.{◌++◌, codes, decimal}
use Rattle.tool_warnings.proofs.Joined.{joined}
use Rattle.tool_warnings.proofs.held.push_slot.Goals as goal

pub returns : goal.returns
returns c =
    joined c.args.into.now.items (codes ": slot " ++ decimal c.args.slot) (codes " (" ++ c.args.path.now ++ codes ") had it") _ _
    c.in_ok-push_numbered.ensures c.in_ok-push_named.ensures
