use Rattle.std.proofs.Common.{sym, subst}
use Rattle.array_steps.specs.array_call_specs_Adopting.{IsAdopted}
use Rattle.array_open.proofs.Unplanned.{still-unplanned}
use Rattle.array_open.proofs.Aside.{adopted-aside}
use Rattle.array_open.proofs.finding.run_still.Goals as goal

pub adopt-requires-clause-failed : goal.adopt-requires-clause-failed
adopt-requires-clause-failed g c = c.requires.failed

pub at_rest-requires-clause-unplanned : goal.at_rest-requires-clause-unplanned
at_rest-requires-clause-unplanned g c = still-unplanned c.in-Ok.ensures.adopted

pub at_rest-requires-clause-aside : goal.at_rest-requires-clause-aside
at_rest-requires-clause-aside g c = adopted-aside c.in-Ok.ensures.adopted c.requires.aside

pub returns-in-Ok-clause-run : goal.returns-in-Ok-clause-run
returns-in-Ok-clause-run g c =
    subst (λ r. IsAdopted g.B.Bank.tells c.args.bank (g.B.Bank.tape c.args.bank) c.args.found.given c.args.backup c.args.found.members r.parts) (sym c.at_rest.ensures) c.in-Ok.ensures.adopted

pub at_rest-requires-clause-still : goal.at_rest-requires-clause-still
at_rest-requires-clause-still g c = c.in-Ok.ensures.still
