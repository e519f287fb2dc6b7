-- The numbers of the commands.
use Rattle.std.specs.Prelude.{ℕ, ◌<◌}
use Rattle.serve_frames.specs.declared.command.Command.{Command}
use Rattle.serve_frames.specs.declared.command.Command.TheVariants.{Read, Write, Disconnect, Flush, Other}

abbrev pub number_of : Command → ℕ
number_of Read = 0
number_of Write = 1
number_of Disconnect = 2
number_of Flush = 3
number_of (Other n) = n

-- no named command goes by its number alone
abbrev pub IsCommand : Command → Type 0
IsCommand Read = Unit {0}
IsCommand Write = Unit {0}
IsCommand Disconnect = Unit {0}
IsCommand Flush = Unit {0}
IsCommand (Other n) = 3 < n

-- how many bytes stand behind a header that gives a length: those of a WRITE
abbrev pub payload_length : Command → ℕ → ℕ
payload_length Write n = n
payload_length _ n = 0
