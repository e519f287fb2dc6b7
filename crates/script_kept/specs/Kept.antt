-- What a source has kept of what was read.
use Rattle.std.specs.Prelude.{◌≡◌, ◌⊎◌, ℕ, ◌++◌, Bool, if◌then◌else◌, List, take, Option, Some, None, option_map, Result, IfOk, OnErr}
use Rattle.script_kept.specs.declared.kept.KeptSource.{KeptSource}

-- what it reads from
abbrev pub source_of : {S : Type 0} → KeptSource S → S
source_of s = s.source

-- all bytes that were read, where there was memory for them
abbrev pub kept_by : {S : Type 0} → KeptSource S → Option (List ℕ)
kept_by s = if s.is_whole then Some s.text.items else None

-- At `Ok(n)` the first n bytes of the buffer were kept behind those before, or memory was short, and nothing is kept any more. An `Err` changes nothing.
pub record IsKept {E : Type 0} (result : Result ℕ E) (old new : Option (List ℕ)) (buffer : List ℕ) : Type 0 where
  pub read : IfOk result (λ n. (new ≡ option_map (λ text. text ++ take n buffer) old) ⊎ (new ≡ None))
  pub failed : OnErr result (new ≡ old)
