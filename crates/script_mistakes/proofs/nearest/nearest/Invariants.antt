-- The nearest of the names so far.
use Rattle.std.proofs.Common.{map}
use Rattle.script_mistakes.proofs.NearestLaws.{Found}
use Rattle.script_mistakes.proofs.nearest.nearest.Given as goal

abbrev pub invariant-loop-index : goal.invariant-loop-index
invariant-loop-index l = Found l.word (map (λ name. name.now) l.names) l.index l.most l.least l.found
