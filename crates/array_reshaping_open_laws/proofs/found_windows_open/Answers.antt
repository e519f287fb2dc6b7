use Rattle.std.specs.Prelude.{⊤}
use Rattle.array_reshaping_open_laws.proofs.Opens.{found-windows-open}
use Rattle.array_reshaping_open_laws.proofs.found_windows_open.Goals as goal

pub returns : goal.returns
returns c = found-windows-open ⊤
