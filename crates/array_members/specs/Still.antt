-- When members are placed, when their rows are settled, and what right views are worth.
use Rattle.std.specs.Prelude.{◌≡◌, ℕ, ◌<◌, ◌≤◌, ◌++◌, List, length, None}
use Rattle.crash_role_laws.specs.raid_types_Sectors.{Sector}
use Rattle.crash_role_laws.specs.bank_the_Operation.{Operation}
use Rattle.crash_role_laws.specs.bank_Given.{Given}
use Rattle.crash_role_laws.specs.bank_Tape.{IsIn, disk}
use Rattle.crash_role_laws.specs.sb_specs_the_Members.{Members}
use Rattle.crash_role_laws.specs.sb_specs_Reading.{Scope, list_length}
use Rattle.crash_role_laws.specs.history_Stands.{backup_absent}
use Rattle.crash_role_laws.specs.stripe_row_Rows.{reading_of, present}
use Rattle.crash_role_laws.specs.history_World.{World, may_hold}
use Rattle.crash_role_laws.specs.history_Growing.{grown}
use Rattle.crash_role_laws.specs.history_Sound.{OpensFit, LeavesSound, LeavesSoundThroughout}
use Rattle.crash_role_laws.specs.crash_views_Regions.{ArePlaced}
use Rattle.crash_role_laws.specs.crash_views_Views.{Disk, Ledger, IsSettled}
use Rattle.crash_role_laws.specs.crash_safety_laws_Held.{IsHeldBy}
use Rattle.crash_role_laws.specs.crash_safety_laws_Steady.{AreViewsRight, KeepsSafe}
use Rattle.crash_role_laws.specs.crash_safety_laws_Changing.{IsSafeChange}
use Rattle.array_members.specs.Placed.{IsPlaced}
use Rattle.array_members.specs.Lacking.{AreHoldersFlushed}
use Rattle.array_members.specs.Under.{RowsStandUnder}

-- Members whose superblocks are held are placed, where the backup that a reshape needs is there.
abbrev pub HeldIsPlaced : Type 0
HeldIsPlaced = (scope : Scope) (given : Given) (members : Members) (d : Disk) → IsPlaced given members → backup_absent scope members.newest ≡ None → IsHeldBy scope members d
    → ArePlaced scope given members

-- Where the holders of roles are flushed and the rows stand as a list of allowed values, whichever header a stop leaves in the backup, they are settled.
abbrev pub FlushedIsSettled : Type 0
FlushedIsSettled = (scope : Scope) (given : Given) (members : Members) (tape : List Operation) (values : ℕ → List Sector) (list : ℕ → Sector) → IsPlaced given members
    → AreHoldersFlushed (reading_of members) given tape → RowsStandUnder scope members (present given tape) (disk given.start tape) list
    → ((x : ℕ) → x < list_length members.newest → IsIn (values x) (list x)) → IsSettled scope members values (disk given.start tape)

-- Where each view of what a stop may leave is right, and the epoch opened fit, each image that assembles is sound, in a reshape too.
abbrev pub ViewsAreSound : Type 0
ViewsAreSound = (world : World) (given : Given) (mark : ℕ) (told : Ledger) (d : Disk) → mark ≤ length world.tape
    → ((s k : ℕ) (v : Sector) → IsIn (may_hold world mark s k) v → IsIn (d s k) v)
    → AreViewsRight (OpensFit world) world.scope given told d → OpensFit world → LeavesSound world mark

-- A call on an array that opened fit leaves sound images at each of its marks, if each mark before it did: where it keeps the array safe, and where it changes
-- what is told, as one that begins or ends a reshape.
abbrev pub LeavesSoundStill : World → List Operation → Type 0
LeavesSoundStill world ops = (OpensFit world → LeavesSoundThroughout world) → OpensFit (grown world ops) → LeavesSoundThroughout (grown world ops)

abbrev pub CallsLeaveSound : Type 0
CallsLeaveSound = (world : World) (given : Given) (told : Ledger) (members : Members) (ops : List Operation) → given.start ≡ world.start → world.first ≤ length world.tape
    → KeepsSafe world given told members world.tape (world.tape ++ ops) → LeavesSoundStill world ops

abbrev pub ChangesLeaveSound : Type 0
ChangesLeaveSound = (world : World) (given : Given) (told more : Ledger) (members : Members) (ops : List Operation) → given.start ≡ world.start → world.first ≤ length world.tape
    → IsSafeChange (OpensFit world) world.scope given told more members world.tape (world.tape ++ ops) → LeavesSoundStill world ops
