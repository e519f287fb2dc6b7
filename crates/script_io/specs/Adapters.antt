-- What the adapters over std's readers and writers hold.
use Rattle.std.specs.Prelude.{ℕ}
use Rattle.script_io.specs.declared.adapters.StdSource.{StdSource}
use Rattle.script_io.specs.declared.adapters.StdSink.{StdSink}

-- what a source reads from
abbrev pub reader_of : {R : Type 0} → StdSource R → R
reader_of s = s.reader

abbrev pub faults_of_reader : {R : Type 0} → StdSource R → ℕ
faults_of_reader s = s.faults

-- what a sink writes to
abbrev pub writer_of : {W : Type 0} → StdSink W → W
writer_of s = s.writer

abbrev pub faults_of_writer : {W : Type 0} → StdSink W → ℕ
faults_of_writer s = s.faults
