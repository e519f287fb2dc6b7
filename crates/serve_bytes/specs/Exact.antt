-- What an exact read takes of the bytes that a source has left, where it tells them.
use Rattle.std.specs.Prelude.{◌≡◌, ℕ, ◌<◌, ◌≤◌, ◌++◌, List, [], length, take, drop, Result, OnOk, IfErr}
use Rattle.script_io.specs.Causes.{HasRisen}
use Rattle.serve_bytes.specs.declared.exact.ReadError.{ReadError}
use Rattle.serve_bytes.specs.declared.exact.ReadError.TheVariants.{Ended, Failed}

-- what is told of the bytes that there were is below what was wanted
abbrev pub IsFewer : ReadError → ℕ → Type 0
IsFewer (Ended n) wanted = n < wanted
IsFewer Failed wanted = Unit {0}

-- what stands at a buffer's front of a read that is cut off: all that was left, or the first few bytes of it
abbrev pub IsCutOff : ReadError → List ℕ → List ℕ → List ℕ → Type 0
IsCutOff (Ended n) old new buffer = (old ≡ take n buffer) × (new ≡ [])
IsCutOff Failed old new buffer = (n : ℕ) × (n < length buffer) × (old ≡ take n buffer ++ new)

-- At Ok the buffer holds the first bytes that were left, and no further one is taken.
pub record Read {T : Type 0} (tells : Type 0) (result : Result T ReadError) (old new buffer : List ℕ) : Type 0 where
  pub whole : tells → OnOk result (old ≡ buffer ++ new)
  pub fewer : IfErr result (λ e. IsFewer e (length buffer))
  pub cut_off : tells → IfErr result (λ e. IsCutOff e old new buffer)

-- what is left behind bytes that could not all be passed over
abbrev pub IsStuck : ReadError → List ℕ → List ℕ → ℕ → Type 0
IsStuck (Ended n) old new count = (length old ≡ n) × (new ≡ [])
IsStuck Failed old new count = (n : ℕ) × (n < count) × (n ≤ length old) × (new ≡ drop n old)

-- At Ok just so many bytes are passed over.
pub record Skipped {T : Type 0} (tells : Type 0) (result : Result T ReadError) (old new : List ℕ) (count : ℕ) : Type 0 where
  pub whole : tells → OnOk result ((count ≤ length old) × (new ≡ drop count old))
  pub fewer : IfErr result (λ e. IsFewer e count)
  pub stuck : tells → IfErr result (λ e. IsStuck e old new count)

-- a failed read has raised the source's count of faults
abbrev pub HasRisenFor : ReadError → ℕ → ℕ → Type 0
HasRisenFor (Ended n) before now = Unit {0}
HasRisenFor Failed before now = HasRisen before now

-- no read lowers the count, and only a fault of the source is told as one
pub record Blamed {T : Type 0} (before now : ℕ) (result : Result T ReadError) : Type 0 where
  pub never_falls : before ≤ now
  pub failed : IfErr result (λ e. HasRisenFor e before now)
