use Rattle.std.specs.Prelude.{⊤}
use Rattle.crash_views.proofs.SoundViews.{right-views-sound}
use Rattle.crash_views.proofs.right_views_are_sound.Goals as goal

pub returns : goal.returns
returns c = right-views-sound ⊤
