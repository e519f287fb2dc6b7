use Rattle.std.proofs.Common.{◌++◌, ◌∷◌, [], codes, decimal}
use Rattle.tool_warnings.specs.Founds.{found_words}
use Rattle.tool_warnings.proofs.Joined.{joined-four}
use Rattle.tool_warnings.proofs.found.push_found.Goals as goal

pub returns : goal.returns
returns c =
    joined-four c.args.into.now.items (codes "mdgrow: slot " ++ decimal c.args.slot) (codes " (" ++ c.args.path.now ++ codes ") appears to ")
    (found_words c.args.found) (10 ∷ []) _ _ _ _
    c.in_ok-push_numbered.ensures c.in_ok-push_named.ensures c.in_ok-push_words.ensures c.in_ok-push.ensures.items
