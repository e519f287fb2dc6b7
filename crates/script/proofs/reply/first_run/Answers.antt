use Rattle.std.proofs.Common.{◌≡◌, ◌<◌, length, [], slice_index_or, subst, arith, rules}
use Rattle.script.specs.Looks.{kind_seen}
use Rattle.script.proofs.RunLaws.{row_goes_on, row_stops, row_ends, IsFirstRun}
use Rattle.script.proofs.reply.first_run.Goals as goal

pub loop-i-preserved : goal.loop-i-preserved
loop-i-preserved c =
    let sectors = c.args.sectors.now in
    let less : c.loop-i.i < length sectors = omega arith in
    row_goes_on c.args.x c.loop-i.i (kind_seen c.look_at-look.result (slice_index_or sectors 0 [])) (kind_seen c.look_at.result (slice_index_or sectors c.loop-i.i []))
    sectors [] less c.loop-i.invariant c.look_at.ensures (search rules)

pub returns-then-not-are_same-clause-run : goal.returns-then-not-are_same-clause-run
returns-then-not-are_same-clause-run c =
    let sectors = c.args.sectors.now in
    let less : c.loop-i.i < length sectors = omega arith in
    let some : 0 < c.loop-i.i = omega arith in
    row_stops c.args.x c.loop-i.i (kind_seen c.look_at-look.result (slice_index_or sectors 0 [])) (kind_seen c.look_at.result (slice_index_or sectors c.loop-i.i []))
    sectors [] less some c.loop-i.invariant c.look_at.ensures (search rules)

pub returns-clause-run : goal.returns-clause-run
returns-clause-run c =
    let sectors = c.args.sectors.now in
    let kind = kind_seen c.look_at-look.result (slice_index_or sectors 0 []) in
    let e : c.loop-i.i ≡ length sectors = omega arith in
    let some : 0 < c.loop-i.i = omega arith in
    subst (λ n. IsFirstRun c.args.x n kind sectors) e (row_ends c.args.x c.loop-i.i kind sectors e some c.loop-i.invariant)
