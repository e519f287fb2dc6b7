use Rattle.crash_reshape_laws.proofs.CopyRuns.{fit-headers-plain}
use Rattle.crash_reshape_laws.proofs.fit_headers_are_plain_after.Goals as goal

pub returns : goal.returns
returns c = fit-headers-plain
