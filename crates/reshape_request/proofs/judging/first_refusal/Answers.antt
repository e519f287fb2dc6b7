use Rattle.std.proofs.Common.{◌≡◌, List, ap, arith}
use Rattle.history.specs.raid_types_the_Phase.{Phase}
use Rattle.history.specs.reshape_plan_Plans.{phases, plan_phases, largest_window}
use Rattle.reshape_request.proofs.PlanLaws.{windows-short, few-roles}
use Rattle.reshape_request.proofs.judging.first_refusal.Goals as goal

pub busy_kind-requires : goal.busy_kind-requires
busy_kind-requires c = let few = few-roles c.args.members.now.newest c.requires.shapes in omega (arith, few, c.requires.roles)

pub lowest_missing-requires-clause-few : goal.lowest_missing-requires-clause-few
lowest_missing-requires-clause-few c = let few = few-roles c.args.members.now.newest c.requires.shapes in omega (arith, few, c.requires.roles)

pub unprovided-requires : goal.unprovided-requires
unprovided-requires c =
    let exact = c.in-Ok.ensures.exact.1 in
    let now = c.shape_in.result in
    let size = c.args.members.now.newest.size in
    let short = windows-short now size (plan_phases c.in-Ok.plan) c.in-Ok.ensures.sound in
    let same : largest_window now size (plan_phases c.in-Ok.plan) ≡ largest_window now size (phases now c.args.wish.now) = ap (λ (way : List Phase). largest_window now size way) exact.phases in
    omega (arith, short, same, exact.span)
