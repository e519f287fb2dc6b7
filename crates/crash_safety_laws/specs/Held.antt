-- What is kept of an array's superblocks between two updates.
use Rattle.std.specs.Prelude.{ℕ, false, List, [], ◌∷◌, ◌++◌, ⊤}
use Rattle.crash_views.specs.raid_types_Sectors.{Sector}
use Rattle.crash_views.specs.bank_the_Operation.{Operation}
use Rattle.crash_views.specs.bank_the_Operation_TheVariants.{Write, Flush}
use Rattle.crash_views.specs.bank_Tape.{Contents, EachMark, disk}
use Rattle.crash_views.specs.sb_specs_the_Members.{Members}
use Rattle.crash_views.specs.sb_specs_Reading.{Scope}
use Rattle.crash_views.specs.sb_specs_Outcome.{live_set}
use Rattle.crash_views.specs.sb_specs_Stages.{AreLeft}
use Rattle.crash_views.specs.sb_specs_Crash.{IsUpdatedTo}
use Rattle.crash_views.specs.sb_read_laws_Said.{AreSaid}
use Rattle.crash_views.specs.history_Same.{IsElsewhere}
use Rattle.crash_safety_laws.specs.Marking.{marking}

-- The superblocks of the live slots that weren't lost are known, whatever a stop leaves: each image reads as they say, the next
-- update may start, and the members have the roles and the spares that they say.
pub record IsHeldBy (scope : Scope) (members : Members) (d : ℕ → ℕ → List Sector) : Type 0 where
  pub known : ℕ
  pub live : AreLeft (live_set members (marking members false)) members.lost known
  pub updated : IsUpdatedTo scope members.lost known members.newest members.own d
  pub said : AreSaid scope known members

-- none of these operations writes a superblock of a slot that is looked at
abbrev pub AreElsewhere : Scope → List Operation → Type 0
AreElsewhere scope [] = ⊤
AreElsewhere scope (Write slot at bytes ∷ ops) = IsElsewhere scope slot at × AreElsewhere scope ops
AreElsewhere scope (Flush slot ∷ ops) = AreElsewhere scope ops

-- Operations elsewhere leave them held.
abbrev pub HeldStays : Type 0
HeldStays = (scope : Scope) (members : Members) (start : Contents) (tape ops : List Operation) → AreElsewhere scope ops → IsHeldBy scope members (disk start tape)
    → EachMark ⊤ start tape (tape ++ ops) (IsHeldBy scope members)
