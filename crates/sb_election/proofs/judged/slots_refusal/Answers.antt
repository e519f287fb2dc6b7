use Rattle.std.proofs.Common.{◌≤◌, Option, Some, None, IfNone, sym, ◌∙◌}
use Rattle.sb_specs.specs.raid_types_the_Refusal.{Refusal}
use Rattle.sb_specs.specs.Reading.{role_count}
use Rattle.sb_specs.specs.Verdict.{AreValidShapes}
use Rattle.sb_specs.proofs.ValidFields.{valid-shapes, few-roles}
use Rattle.sb_election.proofs.judged.slots_refusal.Goals as goal

anyway : (P : Type 0) (o : Option Refusal) → P → IfNone o P
anyway P None p = p
anyway P (Some x) p = tt

pub returns-clause-shapes : goal.returns-clause-shapes
returns-clause-shapes c =
    anyway (AreValidShapes c.args.newest.now) c.two_holders.result
    (valid-shapes c.args.newest.now c.args.fresh.now (sym c.bad_field.ensures ∙ c.in_default-bad_field.is))

pub returns-clause-few : goal.returns-clause-few
returns-clause-few c =
    anyway (role_count c.args.newest.now ≤ 16) c.two_holders.result
    (few-roles c.args.newest.now (valid-shapes c.args.newest.now c.args.fresh.now (sym c.bad_field.ensures ∙ c.in_default-bad_field.is)))
