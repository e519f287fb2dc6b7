use Rattle.std.proofs.Common.{ℕ, arith}
use Rattle.std.proofs.lemmas.List.{length-take}
use Rattle.serve_greeting.proofs.Heads.{head_cut, content_cut}
use Rattle.serve_greeting.proofs.taking.take_option.Goals as goal

pub returns-in-Err-clause-taken : goal.returns-in-Err-clause-taken
returns-in-Err-clause-taken g c =
    rw c.from.ensures
    (head_cut g.S.Source.tells c.in-Err.error (g.S.Source.left c.args.source.now) (g.S.Source.left c.read_exact.new.source) c.read_exact.new.into c.args.content.now
    c.in-Err.ensures.read (omega (arith, c.read_exact.auto.into)))

pub returns-in-Err-read_exact-clause-taken : goal.returns-in-Err-read_exact-clause-taken
returns-in-Err-read_exact-clause-taken g c =
    rw c.from-in-Err-read_exact.ensures
    (content_cut g.S.Source.tells c.in-Ok.field-0 c.in-Err-read_exact.error c.in-Some.said (g.S.Source.left c.args.source.now) (g.S.Source.left c.read_exact.new.source)
    (g.S.Source.left c.read_exact-2.new.source) c.read_exact.new.into c.read_exact-2.new.into _ c.in-Ok.ensures.read c.in-Some.ensures.found.0 c.in-Some.ensures.found.1
    c.in-Err-read_exact.ensures.read (omega (arith, c.in-Some.ensures.found.1, c.read_exact-2.auto.into, length-take {A = ℕ})))
