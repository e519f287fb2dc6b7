use Rattle.crash_views.proofs.Headers.{next-headers}
use Rattle.crash_views.proofs.next_headers_fit.Goals as goal

pub returns : goal.returns
returns c = next-headers
