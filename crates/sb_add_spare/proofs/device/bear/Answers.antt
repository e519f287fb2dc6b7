use Rattle.std.proofs.Common.{◌≡◌, ℕ, ◌==◌, List, refl, ap, subst, arith}
use Rattle.std.specs.Prelude.{slice_index}
use Rattle.sb_safe_updates.specs.array_members_Numbers.{bearers}
use Rattle.sb_add_spare.proofs.Bearers.{AreBearersOf, bearers-set, bearers-all}
use Rattle.sb_add_spare.proofs.device.bear.Goals as goal

pub loop-other-init : goal.loop-other-init
loop-other-init c = record { long = refl; each = λ number lt. absurd (omega (arith, lt)) }

pub loop-other-preserved : goal.loop-other-preserved
loop-other-preserved c =
    bearers-set (λ n. bearers c.args.only c.args.slot (n == c.args.number) (slice_index c.args.work.now.carried n)) c.loop-other.other c.bearers.result c.loop-other.carried c.loop-other.invariant c.loop-other-test.true
    c.bearers.ensures

pub returns : goal.returns
returns c =
    let f : ℕ → ℕ = λ n. bearers c.args.only c.args.slot (n == c.args.number) (slice_index c.args.work.now.carried n) in
    let all : c.loop-other.other ≡ 128 = omega arith in
    ap (λ (l : List ℕ). record c.args.work.now { carried = l }) (bearers-all f c.loop-other.carried (subst (λ (n : ℕ). AreBearersOf f n c.loop-other.carried) all c.loop-other.invariant))
