use Rattle.array_members.proofs.SoundViews.{views-are-sound}
use Rattle.array_members.proofs.laws.views_are_sound.Goals as goal

pub returns : goal.returns
returns c = views-are-sound
