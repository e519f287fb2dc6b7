use Rattle.std.proofs.Common.{List, ℕ, Bor, rules, sym, subst, drop_of_length-le}
use Rattle.script_io.proofs.Pushes.{IsWritten, pushed_ok, pushed_err, written_more, written_kept}
use Rattle.script_io.proofs.adapters.write_whole.Goals as goal
use Rattle.script_io.proofs.adapters.write_whole.Goals.{in-Ok, in-Err+else-ne}

pub returns-then-is_empty : goal.returns-then-is_empty
returns-then-is_empty g c = pushed_ok _ _ _ _ _ c.loop.rest.now (λ known. known c.args.writer.now) c.loop.invariant (drop_of_length-le c.loop.rest.now {i = 0} (search rules))

pub returns-in-Ok-eq0 : goal.returns-in-Ok-eq0
returns-in-Ok-eq0 g c = pushed_err _ _ _ _ _ _ (λ known. known c.args.writer.now) (written_more _ _ _ _ c.loop.rest.now _ c.loop.invariant c.in-Ok-eq0.ensures.bytes)

pub returns-then-ne : goal.returns-then-ne
returns-then-ne g c = pushed_err _ _ _ _ _ _ (λ known. known c.args.writer.now) (written_kept _ _ _ _ _ c.loop.invariant c.in-Err.ensures.bytes)

pub loop-preserved : goal.loop-preserved
loop-preserved g c =
    let written : Bor (List ℕ) → Type 0 = λ rest. IsWritten (g.W.Write.contents c.args.writer.now) (g.W.Write.contents c.write.new.self) c.args.from.now rest.now in
    elim c.match-write.branch [
      | in-Ok w ↦ subst written (sym w.rest-is) (written_more _ _ _ _ c.loop.rest.now w.in-Ok.count c.loop.invariant w.in-Ok.ensures.bytes)
      | in-Err+else-ne w ↦ subst written (sym w.rest-is) (written_kept _ _ _ _ _ c.loop.invariant w.in-Err.ensures.bytes)
    ]

pub returns : goal.returns
returns g c = pushed_err _ _ _ _ _ _ (λ known. known c.args.writer.now) c.loop.invariant
