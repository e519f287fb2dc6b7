use Rattle.std.proofs.Common.{[]}
use Rattle.crash_views.proofs.Standing.{refused-for}
use Rattle.crash_views.proofs.refused_for_missing.Goals as goal

pub returns : goal.returns
returns c = refused-for (λ s k. [])
