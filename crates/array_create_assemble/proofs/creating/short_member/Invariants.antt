use Rattle.std.proofs.Common.{◌≡◌, ◌<◌, ℕ, nat_lt, false}
use Rattle.array_create_assemble.specs.Creating.{rows_end}
use Rattle.array_create_assemble.proofs.creating.short_member.Given as goal

abbrev pub invariant-loop-slot : goal.invariant-loop-slot
invariant-loop-slot g l = (slot : ℕ) → slot < l.slot → nat_lt ((g.B.Bank.given l.bank).sectors slot) (rows_end l.spec) ≡ false
