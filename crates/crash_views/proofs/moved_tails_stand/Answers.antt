use Rattle.crash_views.proofs.Tails.{moved-tails}
use Rattle.crash_views.proofs.moved_tails_stand.Goals as goal

pub returns : goal.returns
returns c = moved-tails
