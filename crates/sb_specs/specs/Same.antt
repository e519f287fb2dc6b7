-- What of the contents the superblocks' reading sees.
use Rattle.std.specs.Prelude.{◌≡◌, ℕ}
use Rattle.bank.specs.Tape.{Contents}
use Rattle.sb_specs.specs.Reading.{Scope, reading}

-- each slot has the same superblock sectors
pub record HaveSameSuperblocks (c d : Contents) : Type 0 where
  pub eighth : (slot : ℕ) → c slot 8 ≡ d slot 8
  pub ninth : (slot : ℕ) → c slot 9 ≡ d slot 9

-- what is written elsewhere doesn't change the reading
abbrev pub ReadingIsOfSuperblocks : Type 0
ReadingIsOfSuperblocks = (scope : Scope) (c d : Contents) → HaveSameSuperblocks c d → reading scope c ≡ reading scope d
