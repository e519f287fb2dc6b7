use Rattle.std.proofs.Common.{◌<◌, ℕ, slice_index}
use Rattle.sb_specs.specs.Update.{own_in}
use Rattle.sb_specs.specs.Writing.{IsMember}
use Rattle.test_openings.proofs.checks.are_spares.Given as goal

abbrev pub invariant-loop-place : goal.invariant-loop-place
invariant-loop-place g l = (place : ℕ) → place < l.place
    → IsMember (g.B.Bank.given l.bank) (own_in l.members.own (slice_index l.members.spares place)) (slice_index l.members.spares place)
