-- What an update leaves for the next one to start from.
use Rattle.std.specs.Prelude.{ℕ, ◌+◌, ◌^◌, ◌<◌, List, Option}
use Rattle.sb_specs.specs.raid_types_Sectors.{Sector}
use Rattle.sb_specs.specs.sb_codec_the_Sb.{Sb}
use Rattle.sb_specs.specs.declared.change.Change.{Change}
use Rattle.sb_specs.specs.declared.members.Members.{Members}
use Rattle.sb_specs.specs.Updating.{AreNamed, IsSomeLeft}
use Rattle.sb_specs.specs.Outcome.{AreStored, is_left}
use Rattle.sb_specs.specs.Reading.{Scope}
use Rattle.sb_specs.specs.Held.{AreExact}
use Rattle.sb_specs.specs.Held as held
use Rattle.sb_specs.specs.Stages.{AreLeft}
use Rattle.sb_specs.specs.Rounds.{Round, ArePast, IsReady}
use Rattle.sb_specs.specs.Adding.{IsReadyToAdd}

-- These slots are held by the superblocks that are kept of them, each by its own alone.
pub record AreHeldAlone (scope : Scope) (left lost : ℕ) (newest : Sb) (own : List (Option Sb)) (d : ℕ → ℕ → List Sector) : Type 0 where
  pub held : held.AreHeld scope left lost newest own d
  pub exact : AreExact scope left own d

-- The lost slots are named at an update's end, and of those that are left the superblocks are kept as they were stored. Then these are
-- held by them alone, and the next update may start.
abbrev pub IsFollowedBy : Scope → Members → Change → ℕ → ℕ → Round → Type 0
IsFollowedBy scope members change before live last = IsSomeLeft live last.lost → AreNamed members change before last.lost last.newest
    → (own : List (Option Sb)) → AreStored last.newest change.gives (is_left live last.lost) members.own own
    → (left : ℕ) → AreLeft live last.lost left → AreHeldAlone scope left last.lost last.newest own last.disk

abbrev pub UpdateMayFollow : Type 0
UpdateMayFollow = (scope : Scope) (known left : ℕ) (members : Members) (change : Change) (before live : ℕ) (d : ℕ → ℕ → List Sector) (last : Round)
    → IsReady scope known left members change live d → (past : ArePast members change before live d last) → members.newest.events + 1 + past.named.0 < 2 ^ 62
    → IsFollowedBy scope members change before live last

abbrev pub AddingMayFollow : Type 0
AddingMayFollow = (scope : Scope) (known left lost : ℕ) (members : Members) (change : Change) (before live slot : ℕ) (d : ℕ → ℕ → List Sector) (last : Round)
    → IsReadyToAdd scope known left lost members change live slot d → (past : ArePast members change before live d last) → members.newest.events + 1 + past.named.0 < 2 ^ 62
    → IsFollowedBy scope members change before live last
