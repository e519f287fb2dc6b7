use Rattle.crash_shift_views.proofs.Alike.{plain-alike}
use Rattle.crash_shift_views.proofs.plain_images_read_alike.Goals as goal

pub returns : goal.returns
returns c = plain-alike
