use Rattle.reshape_progress.proofs.Courses.{open-headers}
use Rattle.reshape_progress.proofs.laws.open_headers_fit.Goals as goal

pub returns : goal.returns
returns c = open-headers
