use Rattle.std.proofs.Common.{sym, ◌∙◌, ap, subst}
use Rattle.array_open.specs.Adopted.{IsMovingAdopted}
use Rattle.array_open.proofs.Unplanned.{moving-unplanned, moving-turned}
use Rattle.array_open.proofs.finding.run_moving.Goals as goal

pub in_reshape-requires-clause-unplanned : goal.in_reshape-requires-clause-unplanned
in_reshape-requires-clause-unplanned g c = moving-unplanned c.in-Ok.ensures.adopted

pub in_reshape-requires-clause-turned : goal.in_reshape-requires-clause-turned
in_reshape-requires-clause-turned g c =
    moving-turned (g.B.Bank.given c.args.bank) (g.B.Bank.given c.in-Ok.array.parts.bank) (g.B.Bank.tape c.args.bank) (g.B.Bank.tape c.in-Ok.array.parts.bank) c.in-Ok.array c.requires.opened c.in-Ok.ensures.adopted
    c.in-Ok.ensures.given c.in-Ok.ensures.tape

pub returns-in-Ok-clause-tape : goal.returns-in-Ok-clause-tape
returns-in-Ok-clause-tape g c = λ t. ap (λ r. g.B.Bank.tape r.parts.bank) c.in_reshape.ensures ∙ c.in-Ok.ensures.tape t

pub returns-in-Ok-clause-run : goal.returns-in-Ok-clause-run
returns-in-Ok-clause-run g c =
    subst (λ r. IsMovingAdopted g.B.Bank.tells (g.B.Bank.given c.args.bank) (g.B.Bank.tape c.args.bank) c.args.found.given c.args.backup c.args.found.members r) (sym c.in_reshape.ensures) c.in-Ok.ensures.adopted

pub in_reshape-requires-clause-active : goal.in_reshape-requires-clause-active
in_reshape-requires-clause-active g c = c.in-Ok.ensures.active
