use Rattle.crash_shift_views.proofs.Alike.{ending-slots}
use Rattle.crash_shift_views.proofs.ending_slots_keep_their_place.Goals as goal

pub returns : goal.returns
returns c = ending-slots
