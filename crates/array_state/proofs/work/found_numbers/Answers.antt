use Rattle.std.proofs.Common.{◌≡◌, ℕ, refl, subst, arith}
use Rattle.array_call_laws.proofs.array_call_specs_FoundLaws.{AreNumbersFound, numbers-set, numbers-all}
use Rattle.array_state.proofs.work.found_numbers.Goals as goal

pub loop-number-init : goal.loop-number-init
loop-number-init c = record { long = refl; each = λ number lt. absurd (omega (arith, lt)) }

pub loop-number-preserved : goal.loop-number-preserved
loop-number-preserved c = numbers-set c.args.members.now.own c.loop-number.number c.loop-number.carried c.bearers.result c.loop-number.invariant c.loop-number-test.true c.bearers.ensures

pub returns-clause-numbers : goal.returns-clause-numbers
returns-clause-numbers c =
    let all : c.loop-number.number ≡ 128 = omega arith in
    numbers-all c.args.members.now.own c.loop-number.carried (subst (λ (n : ℕ). AreNumbersFound c.args.members.now.own n c.loop-number.carried) all c.loop-number.invariant)
