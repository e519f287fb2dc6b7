use Rattle.std.proofs.Common.{◌++◌, ◌∷◌, [], codes}
use Rattle.tool_warnings.specs.Backups.{wrong_line}
use Rattle.tool_warnings.proofs.Joined.{joined}
use Rattle.tool_warnings.proofs.backups.push_wrong.Goals as goal

pub returns : goal.returns
returns c =
    joined c.args.into.now.items (wrong_line c.args.path.now c.args.uuid)
    (codes "mdgrow: where a stop left its next window half copied, " ++ codes "sectors of it are in the right backup alone, "
    ++ codes "and are read wrong here" ++ 10 ∷ []) _ _
    c.in_ok-push_backup_of.ensures c.in_ok-push_line.ensures
