-- A whole update, by what images read, in which the slot that gets a recovery offset may be lost in its own write.
use Rattle.std.specs.Prelude.{ℕ, ◌^◌, ◌<◌, List}
use Rattle.sb_read_laws.specs.raid_types_Sectors.{Sector}
use Rattle.sb_read_laws.specs.sb_specs_the_Change.{Change}
use Rattle.sb_read_laws.specs.sb_specs_the_Members.{Members}
use Rattle.sb_read_laws.specs.sb_specs_Reading.{Scope}
use Rattle.sb_read_laws.specs.sb_specs_Updating.{IsSomeLeft}
use Rattle.sb_read_laws.specs.sb_specs_Rounds.{Round, IsReady}
use Rattle.sb_read_laws.specs.sb_specs_Crash.{IsWithin, EachReadsInUpdate, AreHeldAsPlanned}
use Rattle.sb_read_laws.specs.sb_specs_Losing.{IsInTurns, ArePastTurns}
use Rattle.sb_read_laws.specs.Following.{IsFollowedBy}

-- the slots that an update doesn't name, since they were lost before, are lost when it starts
abbrev pub AreLostBefore : ℕ → Members → Type 0
AreLostBefore before members = IsWithin before members.lost

-- At each mark of an update an image reads as before it, or as planned by one of its rounds, each of which names the slots that were lost
-- before it, and no others than are lost at its end: while slots are brought to the newest event count, while what is planned is written,
-- first to the slots that get a recovery offset, any of which may be lost, and in a round that names lost slots.
abbrev pub UpdateTurningReads : Type 0
UpdateTurningReads = (scope : Scope) (known left : ℕ) (members : Members) (change : Change) (before live last events : ℕ) (d e : ℕ → ℕ → List Sector)
    → IsReady scope known left members change live d → AreLostBefore before members → events < 2 ^ 62 → IsInTurns members change before live last events d e
    → EachReadsInUpdate scope known members change before live last e

-- At its end the slots are held as planned, where a live one is left.
abbrev pub UpdateTurningEnds : Type 0
UpdateTurningEnds = (scope : Scope) (known left : ℕ) (members : Members) (change : Change) (before live : ℕ) (d : ℕ → ℕ → List Sector) (last : Round)
    → IsReady scope known left members change live d → AreLostBefore before members → ArePastTurns members change before live d last → last.newest.events < 2 ^ 62
    → IsSomeLeft live last.lost → AreHeldAsPlanned scope members change before live last

-- Then the slots that are left hold what the members have for them, and the next update may start.
abbrev pub UpdateTurningMayFollow : Type 0
UpdateTurningMayFollow = (scope : Scope) (known left : ℕ) (members : Members) (change : Change) (before live : ℕ) (d : ℕ → ℕ → List Sector) (last : Round)
    → IsReady scope known left members change live d → AreLostBefore before members → ArePastTurns members change before live d last → last.newest.events < 2 ^ 62
    → IsFollowedBy scope members change before live last
