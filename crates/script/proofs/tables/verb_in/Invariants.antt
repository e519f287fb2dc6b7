-- The verbs that are left decide.
use Rattle.std.proofs.Common.{◌≡◌, drop}
use Rattle.script.specs.Tables.{verb_in}
use Rattle.script.proofs.tables.verb_in.Given as goal

abbrev pub invariant-loop-verb : goal.invariant-loop-verb
invariant-loop-verb l = verb_in l.verbs l.word ≡ verb_in (drop l.verb-index l.verbs) l.word
