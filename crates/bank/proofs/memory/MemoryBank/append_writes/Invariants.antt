use Rattle.std.proofs.Common.{◌≡◌, ◌++◌, ◌/◌, length, take}
use Rattle.bank.specs.Tape.{writes}
use Rattle.bank.proofs.memory.MemoryBank.append_writes.Given as goal

abbrev pub invariant-loop-i : goal.invariant-loop-i
invariant-loop-i l = l.self ≡ record l.initial.self { tape = l.initial.self.tape ++ take l.i (writes l.slot l.at (length l.from / 512) l.from) }
