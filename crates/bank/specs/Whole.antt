-- Banks hold whole sectors.
use Rattle.std.specs.Prelude.{ℕ, ◌<◌, List, All}
use Rattle.raid_types.specs.Sectors.{IsSector}
use Rattle.bank.specs.declared.bank.Operation.{Operation}
use Rattle.bank.specs.declared.bank.Operation.TheVariants.{Write, Flush}
use Rattle.bank.specs.Given.{Given, sizes}
use Rattle.bank.specs.Tape.{contents}

-- a write of a whole sector, or a flush
abbrev pub WritesSector : Operation → Type 0
WritesSector (Write t j w) = IsSector w
WritesSector (Flush t) = Unit {0}

-- Each sector of the slots was whole before the first operation, and each that was written since is.
pub record HasWholeSectors (given : Given) (tape : List Operation) : Type 0 where
  pub stored : (s k : ℕ) → s < given.slots → k < given.sectors s → IsSector (given.start s k)
  pub written : All WritesSector tape

-- So is each at each mark.
abbrev pub WholeSectorsStay : Type 0
WholeSectorsStay = (given : Given) (tape : List Operation) (mark s k : ℕ) → HasWholeSectors given tape → k < (sizes given).sectors s
    → IsSector (contents given.start tape mark s k)
