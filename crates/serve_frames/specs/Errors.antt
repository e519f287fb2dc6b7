-- The numbers of the errors that a reply may tell.
use Rattle.std.specs.Prelude.{ℕ, Option, Some, None}
use Rattle.serve_frames.specs.declared.errors.RequestError.{RequestError}
use Rattle.serve_frames.specs.declared.errors.RequestError.TheVariants.{Io, NoMemory, Invalid, NoSpace}

abbrev pub error_number : RequestError → ℕ
error_number Io = 5
error_number NoMemory = 12
error_number Invalid = 22
error_number NoSpace = 28

-- 0 tells that the request was done
abbrev pub outcome_number : Option RequestError → ℕ
outcome_number None = 0
outcome_number (Some e) = error_number e
