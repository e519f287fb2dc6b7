-- An epoch's bank, and what is read from it.
use Rattle.std.specs.Prelude.{ℕ, List, take, Option}
use Rattle.raid_types.specs.Sectors.{Sector}
use Rattle.bank.specs.declared.bank.Operation.{Operation}
use Rattle.bank.specs.Tape.{Contents, contents, disk}
use Rattle.sb_read_laws.specs.sb_specs_Reading.{Scope, Reading, reading}
use Rattle.history.specs.Stands.{stands}

-- What the bank held at first and every operation since, the scope in which the epoch was opened, and the mark at its
-- opening.
pub record World : Type 0 where
  pub start : Contents
  pub tape : List Operation
  pub scope : Scope
  pub first : ℕ

-- the world as it stood at a mark
abbrev pub until : ℕ → World → World
until mark world = record { start = world.start; tape = take mark world.tape; scope = world.scope; first = world.first }

-- the contents at a mark
abbrev pub contents_at : World → ℕ → Contents
contents_at world mark = contents world.start world.tape mark

-- the values that a stop at a mark may leave in each sector, the newest first
abbrev pub may_hold : World → ℕ → ℕ → ℕ → List Sector
may_hold world mark = disk world.start (take mark world.tape)

unfoldable pub reading_at : World → ℕ → Option Reading
reading_at world mark = reading world.scope (contents_at world mark)

-- the flat list at the opening
unfoldable pub opening_list : World → List Sector
opening_list world = stands world.scope (contents_at world world.first)
