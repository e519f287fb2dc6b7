use Rattle.history.proofs.StretchLaws.{writes-make-theirs}
use Rattle.history.proofs.laws.writes_make_their_images.Goals as goal

pub returns : goal.returns
returns c = writes-make-theirs
