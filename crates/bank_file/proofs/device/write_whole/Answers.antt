use Rattle.std.proofs.Common.{◌-◌, ◌*◌, length, drop, refl, ◌∙◌, sym, arith}
use Rattle.std.proofs.lemmas.List.{length-take, length-drop}
use Rattle.bank_file.proofs.Moves.{put_more, put_same, put_at, logged_more, logged_same, logged_at}
use Rattle.bank_file.proofs.device.write_whole.Goals as goal
use Rattle.bank_file.proofs.device.write_whole.Goals.{in-Ok+else-count-lt512, in-Err+else-ne}

pub loop-turn-preserved : goal.loop-turn-preserved
loop-turn-preserved g c = elim c.match-write_some.branch [
  | in-Ok+else-count-lt512 w ↦
      let rest = length-take (length c.args.from.now - 512 * c.loop-turn.done) (drop (512 * c.loop-turn.done) c.args.from.now) in
      let left = length-drop (512 * c.loop-turn.done) c.args.from.now in (
        omega (arith, w.done-is, w.in-Ok.ensures.within, rest, left, c.loop-turn.invariant.0),
        omega (arith, w.done-is, w.number-is),
        λ told. let whole = w.in-Ok.ensures.whole told in
            put_at refl (omega (arith, w.done-is, whole)) (put_more (length c.args.from.now - 512 * c.loop-turn.done) (omega (arith, w.in-Ok.ensures.within, rest, left)) (c.loop-turn.invariant.2 told) (put_at (omega arith) refl (w.in-Ok.ensures.moved told))),
        λ told. logged_at refl (sym w.done-is) (logged_more (length c.args.from.now - 512 * c.loop-turn.done) (omega (arith, w.in-Ok.ensures.within, rest, left)) (c.loop-turn.invariant.3 told) (logged_at (omega arith) refl (w.in-Ok.ensures.logged told))),
        w.in-Ok.ensures.start ∙ c.loop-turn.invariant.4,
        λ told. let moved = w.in-Ok.ensures.stumbled told in let so_far = c.loop-turn.invariant.5 told in omega (arith, w.done-is, moved.0, so_far, w.if-count-lt512.false),
        λ told. let moved = w.in-Ok.ensures.stumbled told in let so_far = c.loop-turn.invariant.6 told in omega (arith, moved.0, so_far),
      )
  | in-Err+else-ne w ↦ (
    omega (arith, w.done-is, c.loop-turn.invariant.0),
    omega (arith, w.done-is, w.number-is, c.loop-turn.invariant.1),
    λ told. put_at refl (omega (arith, w.done-is)) (put_same (c.loop-turn.invariant.2 told) (w.in-Err.ensures.same told)),
    λ told. logged_at refl (sym w.done-is) (logged_same (c.loop-turn.invariant.3 told) (w.in-Err.ensures.kept told)),
    w.in-Err.ensures.start ∙ c.loop-turn.invariant.4,
    λ told. let moved = w.in-Err.ensures.stumbled told in let so_far = c.loop-turn.invariant.5 told in omega (arith, w.done-is, moved.0, moved.1, so_far),
    λ told. let moved = w.in-Err.ensures.stumbled told in let so_far = c.loop-turn.invariant.6 told in omega (arith, moved.0, so_far),
  )
]
