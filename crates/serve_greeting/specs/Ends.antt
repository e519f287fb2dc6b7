-- How a read that is cut off ends the greeting.
use Rattle.serve_bytes.specs.declared.exact.ReadError.{ReadError}
use Rattle.serve_bytes.specs.declared.exact.ReadError.TheVariants as reads
use Rattle.serve_greeting.specs.declared.end.GreetingEnd.{GreetingEnd}
use Rattle.serve_greeting.specs.declared.end.GreetingEnd.TheVariants.{Ended, SourceFailed}

abbrev pub end_of : ReadError → GreetingEnd
end_of (reads.Ended n) = Ended
end_of reads.Failed = SourceFailed
