use Rattle.crash_shift_views.proofs.Windows.{images-alike}
use Rattle.crash_shift_views.proofs.copied_images_stand_alike.Goals as goal

pub returns : goal.returns
returns c = images-alike
