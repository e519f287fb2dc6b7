use Rattle.std.proofs.Common.{◌≡◌, ◌<◌, [], ◌∷◌, refl, ◌∙◌, ap, subst, arith}
use Rattle.array_takeover.specs.sb_specs_Reading.{is_reshaping}
use Rattle.array_grow.specs.array_members_Status.{left_of}
use Rattle.array_takeover.specs.reshape_request_Left.{phases_of}
use Rattle.array_grow.proofs.array_members_Fit.{valid, short, roles-still}
use Rattle.array_grow.proofs.array_type_Alike.{alike}
use Rattle.array.proofs.Answered.{next-none, next-begin, next-up, next-down, some-own, some-ahead}
use Rattle.array.proofs.state.choosing.next_at_rest.Goals as goal

pub returns-then-steps_left-gt0-clause-next : goal.returns-then-steps_left-gt0-clause-next
returns-then-steps_left-gt0-clause-next g c =
    let a = c.array.inside in
    let own : 0 < left_of a.work a.members = omega (arith, c.if-steps_left-gt0.true, c.steps_left.ensures) in
    (c.requires.still, subst (λ s. 0 < left_of s.parts.work s.parts.members) c.array.view_is own)

pub returns-then-steps_left-gt0-clause-some : goal.returns-then-steps_left-gt0-clause-some
returns-then-steps_left-gt0-clause-some g c =
    let a = c.array.inside in
    let own : 0 < left_of a.work a.members = omega (arith, c.if-steps_left-gt0.true, c.steps_left.ensures) in
    λ not. some-own c.args.array.now c.requires.still (subst (λ s. 0 < left_of s.parts.work s.parts.members) c.array.view_is own)

pub returns-in-None-clause-next : goal.returns-in-None-clause-next
returns-in-None-clause-next g c =
    let a = c.array.inside in
    let own : left_of a.work a.members ≡ 0 = omega (arith, c.if-steps_left-gt0.false, c.steps_left.ensures) in
    next-none c.args.array.now c.requires.still (subst (λ s. left_of s.parts.work s.parts.members ≡ 0) c.array.view_is own) (subst (λ s. phases_of s.ahead ≡ []) c.array.view_is c.in-None.ensures.none) _ refl

pub returns-in-None-clause-some : goal.returns-in-None-clause-some
returns-in-None-clause-some g c = λ not. absurd (not refl)

pub returns-in-Some-Reshape-default-clause-next : goal.returns-in-Some-Reshape-default-clause-next
returns-in-Some-Reshape-default-clause-next g c =
    let a = c.array.inside in
    let s = c.in-Some-Reshape-default in
    let own : left_of a.work a.members ≡ 0 = omega (arith, c.if-steps_left-gt0.false, c.steps_left.ensures) in
    next-begin c.args.array.now c.requires.still (subst (λ x. left_of x.parts.work x.parts.members ≡ 0) c.array.view_is own) s.to s.field-0-0 (phases_of s.field-0-1)
    (subst (λ x. phases_of x.ahead ≡ s.field-0-0 ∷ phases_of s.field-0-1) c.array.view_is s.ensures.some) s.field-0-0-is _ refl

pub returns-in-Some-Reshape-default-clause-some : goal.returns-in-Some-Reshape-default-clause-some
returns-in-Some-Reshape-default-clause-some g c =
    let s = c.in-Some-Reshape-default in
    λ not. some-ahead c.args.array.now c.requires.still s.field-0-0 (phases_of s.field-0-1) (subst (λ x. phases_of x.ahead ≡ s.field-0-0 ∷ phases_of s.field-0-1) c.array.view_is s.ensures.some)

pub returns-in-Some-UpTo6-default-clause-next : goal.returns-in-Some-UpTo6-default-clause-next
returns-in-Some-UpTo6-default-clause-next g c =
    let a = c.array.inside in
    let s = c.in-Some-UpTo6-default in
    let own : left_of a.work a.members ≡ 0 = omega (arith, c.if-steps_left-gt0.false, c.steps_left.ensures) in
    next-up c.args.array.now c.requires.still (subst (λ x. left_of x.parts.work x.parts.members ≡ 0) c.array.view_is own) s.to s.field-0-0 (phases_of s.field-0-1)
    (subst (λ x. phases_of x.ahead ≡ s.field-0-0 ∷ phases_of s.field-0-1) c.array.view_is s.ensures.some) s.field-0-0-is _ refl

pub returns-in-Some-UpTo6-default-clause-some : goal.returns-in-Some-UpTo6-default-clause-some
returns-in-Some-UpTo6-default-clause-some g c =
    let s = c.in-Some-UpTo6-default in
    λ not. some-ahead c.args.array.now c.requires.still s.field-0-0 (phases_of s.field-0-1) (subst (λ x. phases_of x.ahead ≡ s.field-0-0 ∷ phases_of s.field-0-1) c.array.view_is s.ensures.some)

pub returns-in-Some-DownTo5-default-clause-next : goal.returns-in-Some-DownTo5-default-clause-next
returns-in-Some-DownTo5-default-clause-next g c =
    let a = c.array.inside in
    let s = c.in-Some-DownTo5-default in
    let own : left_of a.work a.members ≡ 0 = omega (arith, c.if-steps_left-gt0.false, c.steps_left.ensures) in
    next-down c.args.array.now c.requires.still (subst (λ x. left_of x.parts.work x.parts.members ≡ 0) c.array.view_is own) s.to s.field-0-0 (phases_of s.field-0-1)
    (subst (λ x. phases_of x.ahead ≡ s.field-0-0 ∷ phases_of s.field-0-1) c.array.view_is s.ensures.some) s.field-0-0-is _ refl

pub returns-in-Some-DownTo5-default-clause-some : goal.returns-in-Some-DownTo5-default-clause-some
returns-in-Some-DownTo5-default-clause-some g c =
    let s = c.in-Some-DownTo5-default in
    λ not. some-ahead c.args.array.now c.requires.still s.field-0-0 (phases_of s.field-0-1) (subst (λ x. phases_of x.ahead ≡ s.field-0-0 ∷ phases_of s.field-0-1) c.array.view_is s.ensures.some)

pub steps_left-requires-clause-shape : goal.steps_left-requires-clause-shape
steps_left-requires-clause-shape g c = valid (g.B.Bank.given c.array.inside.bank) c.array.inside.members (alike c.array.invariant).kept.members_are.placed

pub steps_left-requires-clause-size : goal.steps_left-requires-clause-size
steps_left-requires-clause-size g c = short (g.B.Bank.given c.array.inside.bank) c.array.inside.members (alike c.array.invariant).kept.members_are.placed

pub steps_left-requires-clause-roles : goal.steps_left-requires-clause-roles
steps_left-requires-clause-roles g c =
    let a = c.array.inside in
    let here = ap (λ p. is_reshaping p.parts.members.newest) c.array.view_is ∙ c.requires.still in
    let roles = roles-still (g.B.Bank.given a.bank) a.members (alike c.array.invariant).kept.members_are.placed here in
    omega (arith, roles)

pub steps_left-requires-clause-progress : goal.steps_left-requires-clause-progress
steps_left-requires-clause-progress g c =
    let here = ap (λ p. is_reshaping p.parts.members.newest) c.array.view_is ∙ c.requires.still in
    (c.array.invariant.rests here).1.kept.progress
