-- What the forms in memory hold.
use Rattle.std.specs.Prelude.{ℕ, List, drop}
use Rattle.script_io.specs.declared.memory.MemorySource.{MemorySource}
use Rattle.script_io.specs.declared.memory.MemorySink.{MemorySink}

-- the bytes that a source has left
abbrev pub left_in : MemorySource → List ℕ
left_in s = drop s.position s.bytes.items

-- how many pulls were made, up to the last value of a u64
abbrev pub pulls_of : MemorySource → ℕ
pulls_of s = s.calls

-- the numbers of the pulls that are to fail
abbrev pub failing_pulls : MemorySource → List ℕ
failing_pulls s = s.failing.items

abbrev pub faults_of_source : MemorySource → ℕ
faults_of_source s = s.faults

-- the bytes that a sink has taken
abbrev pub taken_by : MemorySink → List ℕ
taken_by s = s.bytes.items

-- the most bytes that it takes
abbrev pub room_of : MemorySink → ℕ
room_of s = s.room

-- how many pushes were made, up to the last value of a u64
abbrev pub pushes_of : MemorySink → ℕ
pushes_of s = s.calls

-- the numbers of the pushes that are to fail
abbrev pub failing_pushes : MemorySink → List ℕ
failing_pushes s = s.failing.items

abbrev pub faults_of_sink : MemorySink → ℕ
faults_of_sink s = s.faults
