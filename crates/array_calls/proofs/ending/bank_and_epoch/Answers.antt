use Rattle.array_type.proofs.array_fixed_laws_Asking.{epoch-kept}
use Rattle.array_type.proofs.array_fixed_laws_Plain.{plain-epoch}
use Rattle.array_type.proofs.array_reshaping_laws_Asking.{epoch-kept as r-epoch-kept}
use Rattle.array_type.proofs.Rest.{on-both}
use Rattle.array_type.proofs.Alike.{alike}
use Rattle.array_type.specs.sb_specs_Reading.{is_reshaping}
use Rattle.std.proofs.Common.{ap, ◌∙◌}
use Rattle.array_calls.proofs.ending.bank_and_epoch.Goals as goal

pub returns-clause-right : goal.returns-clause-right
returns-clause-right g c =
    on-both (is_reshaping c.array.inside.members.newest)
    (λ active. let a = c.array.inside in
    rw (← c.array.view_is) (λ t last right. r-epoch-kept (g.B.Bank.given a.bank) (g.B.Bank.tape a.bank) a.backup a.epoch (c.array.invariant.moves active).1.kept t last right))
    (λ still. let a = c.array.inside in
    rw (← c.array.view_is) (λ t last right. epoch-kept (g.B.Bank.given a.bank) (g.B.Bank.tape a.bank) a.backup a.epoch (c.array.invariant.rests still).1.kept t last right))

pub returns-clause-ends : goal.returns-clause-ends
returns-clause-ends g c =
    rw (← c.array.view_is) (λ t. ((alike c.array.invariant).kept.recorded t).ends)

pub returns-clause-plain : goal.returns-clause-plain
returns-clause-plain g c =
    λ when. let was = (c.array.invariant.rests (ap (λ p. is_reshaping p.parts.members.newest) c.array.view_is ∙ when)).1 in
    let a = c.array.inside in
    rw (← c.array.view_is) (λ t keeps. plain-epoch (g.B.Bank.given a.bank) (g.B.Bank.tape a.bank) a.backup a.epoch a.members (was.plain t keeps) (was.plainly keeps.none))

pub returns-clause-plainly : goal.returns-clause-plainly
returns-clause-plainly g c =
    λ when. (c.array.invariant.rests (ap (λ p. is_reshaping p.parts.members.newest) c.array.view_is ∙ when)).1.plainly
