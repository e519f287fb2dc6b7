use Rattle.history.proofs.StretchLaws.{flushes-make-none}
use Rattle.history.proofs.laws.flushes_make_no_image.Goals as goal

pub returns : goal.returns
returns c = flushes-make-none
