use Rattle.std.proofs.Common.{◌≡◌, ◌*◌, ◌≤◌, None, length, arith, subst, ap, ◌∙◌, sym}
use Rattle.std.specs.Prelude.{option_map}
use Rattle.array_reply_specs.specs.bank_Given.{sizes}
use Rattle.array_transition.specs.reshape_plan_Plans.{phases, largest_window}
use Rattle.array_transition.specs.sb_specs_Reading.{shape_of, is_reshaping}
use Rattle.array_transition.specs.reshape_request_Asked.{asked_of, grow_refusal}
use Rattle.array_transition.specs.reshape_request_Left.{phases_of}
use Rattle.array_transition.proofs.reshape_request_FirstLaws.{unrefused-plan}
use Rattle.array_transition.proofs.reshape_request_PlanLaws.{windows-short}
use Rattle.array_transition.specs.array_specs_Parts.{visible_size}
use Rattle.array_grow.specs.Planned.{asked_in}
use Rattle.array_grow.proofs.Kept.{ok-map}
use Rattle.array_grow.proofs.planning.window_for.Goals as goal

pub plan_of-plan-requires-clause-taken : goal.plan_of-plan-requires-clause-taken
plan_of-plan-requires-clause-taken g c =
    let taken = subst (λ s. grow_refusal (asked_in (g.B.Bank.given s.parts.bank) s) c.args.wish.now ≡ None) c.part_fixed-pieces.ensures.same c.requires.taken in
    let p = c.part_fixed-pieces.result in
    unrefused-plan (asked_of p.members p.work.resync (length (phases_of p.ahead)) (visible_size p.members p.limit) (option_map (sizes (g.B.Bank.given p.bank)).sectors p.backup)) c.args.wish.now taken

pub overflow_mul-plan : goal.overflow_mul-plan
overflow_mul-plan g c =
    let p = c.part_fixed-pieces.result in
    let plan = c.plan_of-plan.ensures in
    let short = windows-short (shape_of p.members.newest) p.members.newest.size (phases (shape_of p.members.newest) c.args.wish.now) plan.sound in
    let window = plan.window in
    omega (arith, short, window)

pub returns-clause-wide : goal.returns-clause-wide
returns-clause-wide g c =
    let p = c.part_fixed-pieces.result in
    let window = c.plan_of-plan.ensures.window in
    rw (c.part_fixed-pieces.ensures.same)
    (ok-map c.zeros-made.result (λ v. length v.items ≡ c.plan_of-plan.result.window * 512) (λ v. 512 * largest_window (shape_of p.members.newest) p.members.newest.size (phases (shape_of p.members.newest) c.args.wish.now) ≤ length v.items)
    (λ v is. omega (arith, is, window)) c.zeros-made.ensures.len)

pub returns-clause-still : goal.returns-clause-still
returns-clause-still g c = ap (λ s. is_reshaping s.parts.members.newest) (c.of_fixed.ensures.same ∙ sym c.part_fixed-pieces.ensures.same) ∙ c.requires.still
