use Rattle.crash_reshape_laws.proofs.LeftSound.{views-leave-sound}
use Rattle.crash_reshape_laws.proofs.views_leave_sound.Goals as goal

pub returns : goal.returns
returns c = views-leave-sound
