use Rattle.crash_views.proofs.Judged.{views-safe}
use Rattle.crash_views.proofs.views_are_safe.Goals as goal

pub returns : goal.returns
returns c = views-safe
