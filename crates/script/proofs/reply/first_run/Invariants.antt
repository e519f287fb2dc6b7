use Rattle.script.specs.Looks.{kind_seen}
use Rattle.script.proofs.RunLaws.{IsRow}
use Rattle.script.proofs.reply.first_run.Given as goal

-- the sectors before this one are of the first one's kind
abbrev pub invariant-loop-i : goal.invariant-loop-i
invariant-loop-i l = IsRow l.x l.i (kind_seen l.look l.first) l.sectors
