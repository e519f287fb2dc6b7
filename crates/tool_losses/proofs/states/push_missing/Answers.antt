use Rattle.std.proofs.Common.{◌++◌, ◌∷◌, [], codes, decimal}
use Rattle.tool_losses.proofs.Told.{joined}
use Rattle.tool_losses.proofs.states.push_missing.Goals as goal

pub returns : goal.returns
returns c =
    joined c.args.into.now.items (codes "mdgrow: the array is degraded: " ++ decimal c.args.gone)
    (codes " of " ++ decimal c.args.tolerated ++ codes " tolerated members missing" ++ 10 ∷ []) _ _ c.in_ok-push_numbered.ensures c.in_ok-push_line.ensures
