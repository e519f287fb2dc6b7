use Rattle.std.proofs.Common.{rules}
use Rattle.run_scripts.proofs.Texts.{piece_moved, text_ended, text_cut}
use Rattle.run_scripts.proofs.text.read_text.Goals as goal

pub returns-in-Ok-eq0-clause-text : goal.returns-in-Ok-eq0-clause-text
returns-in-Ok-eq0-clause-text g c =
    text_ended _ _ _ _ _ _ _ _ c.loop-piece.invariant.moved c.in-Ok-eq0.ensures.pulled (search rules) c.loop-piece.invariant.within

pub loop-piece-preserved : goal.loop-piece-preserved
loop-piece-preserved g c = record {
  moved = piece_moved _ _ _ _ _ _ _ _ c.loop-piece.invariant.moved c.in-Ok-pull_piece.ensures.pulled;
  within = search rules;
  never_falls = search rules;
}

pub returns-clause-text : goal.returns-clause-text
returns-clause-text g c = text_cut _ _ _ _ c.loop-piece.invariant.moved c.loop-piece.invariant.within (search rules)
