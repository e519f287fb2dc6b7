use Rattle.std.proofs.Common.{◌≡◌, ℕ, ◌∙◌, sym, ap, subst, refl, map, get_or, length, [], List, Option, Some, None}
use Rattle.std.proofs.lemmas.List.{get_or-map}
use Rattle.script_mistakes.specs.Nearest.{letters_apart}
use Rattle.script_mistakes.proofs.NearestLaws.{Found, nearer, farther, past_first, found-nearer, found-kept}
use Rattle.script_mistakes.proofs.nearest.nearest.Goals as goal
use Rattle.script_mistakes.proofs.nearest.nearest.Goals.{then-is_nearer, else-is_nearer}

pub loop-index-preserved : goal.loop-index-preserved
loop-index-preserved c =
    let word = c.args.word.now in
    let names = map (λ name. name.now) c.args.names.now in
    let here : c.in_ok-letters.letters ≡ letters_apart c.args.word.now (get_or (map (λ name. name.now) c.args.names.now) c.loop-index.index []) =
    c.in_ok-letters.ensures.value ∙ ap (λ name. letters_apart c.args.word.now name) (sym (get_or-map (λ name. name.now) c.args.names.now c.loop-index.index _ [] c.loop-index-test.true)) in
    elim c.if-is_nearer.branch [
      | then-is_nearer w ↦
          rw (w.found-is, w.least-is)
          (found-nearer word names c.loop-index.index c.args.most c.loop-index.least c.in_ok-letters.letters here c.loop-index.found c.loop-index.invariant
          (nearer c.in_ok-letters.letters c.loop-index.least c.loop-index.found (sym c.is_nearer.ensures ∙ w.if-is_nearer.true)))
      | else-is_nearer w ↦
          rw (w.found-is, w.least-is)
          (found-kept word names c.loop-index.index c.args.most c.loop-index.least c.in_ok-letters.letters here c.loop-index.found c.loop-index.invariant
          (farther c.in_ok-letters.letters c.loop-index.least c.loop-index.found (sym c.is_nearer.ensures ∙ w.if-is_nearer.false))
          (past_first c.in_ok-letters.letters c.loop-index.least c.loop-index.found (sym c.is_nearer.ensures ∙ w.if-is_nearer.false)))
    ]
