use Rattle.std.proofs.Common.{◌≡◌, inl, inr, arith}
use Rattle.std.proofs.lemmas.Bool.{cases_lt}
use Rattle.stripe_suspects.proofs.differences.found.Goals as goal

pub loop-role-preserved : goal.loop-role-preserved
loop-role-preserved c r lt explained = elim (cases_lt r c.loop-role.role) [
  | inl below ↦ c.loop-role.invariant r below explained
  | inr past ↦
      let here : c.loop-role.role ≡ r = omega (arith, lt, past) in
      c.explains_all.ensures.other c.if-explains_all.false (rw here explained)
]
