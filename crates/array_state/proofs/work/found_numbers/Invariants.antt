use Rattle.array_call_laws.proofs.array_call_specs_FoundLaws.{AreNumbersFound}
use Rattle.array_state.proofs.work.found_numbers.Given as goal

-- the numbers before this one are looked for
abbrev pub invariant-loop-number : goal.invariant-loop-number
invariant-loop-number l = AreNumbersFound l.members.own l.number l.carried
