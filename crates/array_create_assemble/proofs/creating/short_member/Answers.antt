use Rattle.std.proofs.Common.{◌≡◌, ◌<◌, ℕ, nat_lt, true, sym, arith}
use Rattle.std.proofs.lemmas.Bool.Decides.{nat_tests}
use Rattle.bank.proofs.raid_types_Least.{least_below-none}
use Rattle.array_create_assemble.specs.Creating.{rows_end}
use Rattle.array_create_assemble.proofs.CreateLaws.{least_below-reached}
use Rattle.array_create_assemble.proofs.creating.short_member.Goals as goal

is_short : (have want : ℕ) → have < want → nat_lt have want ≡ true
is_short have want lt = grind (arith, nat_tests, lt)

pub returns-then-len-end-clause-exact : goal.returns-then-len-end-clause-exact
returns-then-len-end-clause-exact g c =
    let long = (g.B.Bank.given c.args.bank.now).sectors in
    sym (least_below-reached c.args.spec.now.shape.disks (λ slot. nat_lt (long slot) (rows_end c.args.spec.now)) c.loop-slot.slot c.loop-slot-test.true c.loop-slot.invariant
    (is_short (long c.loop-slot.slot) (rows_end c.args.spec.now) (omega (arith, c.len.ensures, c.if-len-end.true))))

pub returns-clause-exact : goal.returns-clause-exact
returns-clause-exact g c =
    let long = (g.B.Bank.given c.args.bank.now).sectors in
    sym (least_below-none c.args.spec.now.shape.disks (λ slot. nat_lt (long slot) (rows_end c.args.spec.now)) (λ slot lt. c.loop-slot.invariant slot (omega (arith, lt, c.loop-slot-test.false))))
