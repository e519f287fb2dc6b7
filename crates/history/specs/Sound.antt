-- What a stop leaves of an epoch that was opened sound.
use Rattle.std.specs.Prelude.{◌≡◌, ◌⊎◌, ℕ, ◌≤◌, false, length, List, None, IfSome}
use Rattle.bank.specs.Tape.{Contents, IsImage, OnlyFlushesBetween}
use Rattle.sb_read_laws.specs.sb_specs_Reading.{reading}
use Rattle.history.specs.declared.events.Entry.{Entry}
use Rattle.history.specs.World.{World}
use Rattle.history.specs.Legal.{last_end}
use Rattle.history.specs.Stands.{verdict}
use Rattle.history.specs.Opened.{IsSound, OpensSound}
use Rattle.history.specs.OneShape.{is_lost}

-- no entry tells a role lost
abbrev pub LosesNoRole : List Entry → Type 0
LosesNoRole entries = (role : ℕ) → is_lost entries role ≡ false

-- what the opening found was sound
abbrev pub OpensFit : World → Type 0
OpensFit world = OpensSound world

-- What is filled in for missing roles is right: none was lost, or the epoch opened so.
abbrev pub FillsRight : World → List Entry → Type 0
FillsRight world entries = LosesNoRole entries ⊎ OpensFit world

-- Every image that a stop at this mark leaves is sound, if it assembles: where its superblocks say clean, the parity of its rows fits.
abbrev pub LeavesSound : World → ℕ → Type 0
LeavesSound world mark = (c : Contents) → IsImage world.start world.tape mark c → verdict world.scope c ≡ None → IfSome (reading world.scope c) (IsSound world.scope c)

-- opened sound, each mark leaves only such images, from the opening to the last entry's end and through the flushes behind it
abbrev pub StaysSound : World → ℕ → List Entry → Type 0
StaysSound world last entries = OpensFit world → (mark : ℕ) → world.first ≤ mark → mark ≤ last
    → OnlyFlushesBetween world.tape (last_end world entries) mark → LeavesSound world mark

-- every mark from the opening on does, to the tape's end
abbrev pub LeavesSoundThroughout : World → Type 0
LeavesSoundThroughout world = (mark : ℕ) → world.first ≤ mark → mark ≤ length world.tape → LeavesSound world mark
