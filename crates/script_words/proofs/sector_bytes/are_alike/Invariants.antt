-- The blocks so far are alike.
use Rattle.std.proofs.Common.{◌≡◌, ◌*◌, take}
use Rattle.script_words.proofs.sector_bytes.are_alike.Given as goal

abbrev pub invariant-loop-block : goal.invariant-loop-block
invariant-loop-block l = take (64 * l.block) l.left ≡ take (64 * l.block) l.right
