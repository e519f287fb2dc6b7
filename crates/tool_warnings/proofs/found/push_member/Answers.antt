use Rattle.std.proofs.Common.{codes}
use Rattle.uuid.specs.Text.{hyphenated_text, lower}
use Rattle.tool_warnings.proofs.Joined.{joined}
use Rattle.tool_warnings.proofs.found.push_member.Goals as goal

pub returns : goal.returns
returns c =
    joined c.args.into.now.items (codes "be a member of array ") (hyphenated_text lower c.args.uuid) _ _
    c.in_ok-extend_from_slice.ensures.items c.in_ok-push_uuid.ensures
