-- What bounds the values that a stop may leave, over a whole stretch of operations.
use Rattle.std.specs.Prelude.{ℕ, List, [], ◌∷◌}
use Rattle.raid_types.specs.Sectors.{Sector}
use Rattle.bank.specs.declared.bank.Operation.{Operation}
use Rattle.bank.specs.declared.bank.Operation.TheVariants.{Write, Flush}
use Rattle.bank.specs.Tape.{IsIn}

-- all values that each sector may hold are among these
abbrev pub IsBoundedBy : (ℕ → ℕ → List Sector) → (ℕ → ℕ → List Sector) → Type 0
IsBoundedBy bound d = (s k : ℕ) (v : Sector) → IsIn (d s k) v → IsIn (bound s k) v

-- and so is what each of these operations writes
abbrev pub AreWritesWithin : (ℕ → ℕ → List Sector) → List Operation → Type 0
AreWritesWithin bound [] = Unit {0}
AreWritesWithin bound (Write t j w ∷ ops) = IsIn (bound t j) w × AreWritesWithin bound ops
AreWritesWithin bound (Flush t ∷ ops) = AreWritesWithin bound ops
