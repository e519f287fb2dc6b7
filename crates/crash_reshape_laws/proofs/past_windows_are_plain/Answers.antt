use Rattle.crash_reshape_laws.proofs.PastWindows.{past-windows-plain}
use Rattle.crash_reshape_laws.proofs.past_windows_are_plain.Goals as goal

pub returns : goal.returns
returns c = past-windows-plain
