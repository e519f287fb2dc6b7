-- The keys that are left decide.
use Rattle.std.proofs.Common.{◌≡◌, drop}
use Rattle.script.specs.Tables.{key_in}
use Rattle.script.proofs.tables.key_in.Given as goal

abbrev pub invariant-loop-key : goal.invariant-loop-key
invariant-loop-key l = key_in l.keys l.word ≡ key_in (drop l.key-index l.keys) l.word
