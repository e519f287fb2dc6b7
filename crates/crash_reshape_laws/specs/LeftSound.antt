-- What a mark leaves of sound images.
use Rattle.std.specs.Prelude.{◌≤◌, ℕ, length}
use Rattle.crash_safety_laws.specs.raid_types_Sectors.{Sector}
use Rattle.crash_safety_laws.specs.bank_Given.{Given}
use Rattle.crash_safety_laws.specs.bank_Tape.{Contents, IsDrawn, IsIn}
use Rattle.crash_safety_laws.specs.history_World.{World, may_hold}
use Rattle.crash_safety_laws.specs.history_Sound.{OpensFit, LeavesSound}
use Rattle.crash_safety_laws.specs.crash_views_Views.{Disk, Ledger, IsSeenRight}

-- Where the values bound what a stop may leave at a mark, and each image of them is seen right, by whatever ledger, each image there is sound if it assembles.
abbrev pub ViewsLeaveSound : Type 0
ViewsLeaveSound = (world : World) (given : Given) (mark : ℕ) (d : Disk) → mark ≤ length world.tape
    → ((s k : ℕ) (v : Sector) → IsIn (may_hold world mark s k) v → IsIn (d s k) v) → OpensFit world
    → ((c : Contents) → IsDrawn d c → (told : Ledger) × IsSeenRight (OpensFit world) world.scope given told d c) → LeavesSound world mark
