use Rattle.std.proofs.Common.{◌++◌, ◌∷◌, [], codes}
use Rattle.uuid.specs.Text.{hyphenated_text, lower}
use Rattle.tool_warnings.proofs.Joined.{joined-three}
use Rattle.tool_warnings.proofs.backups.push_backup_of.Goals as goal

pub returns : goal.returns
returns c =
    joined-three c.args.into.now.items (codes "mdgrow: the backup (" ++ c.args.path.now ++ codes ") is not that of the reshape of array ")
    (hyphenated_text lower c.args.uuid) (10 ∷ []) _ _ _
    c.in_ok-push_named.ensures c.in_ok-push_uuid.ensures c.in_ok-push.ensures.items
