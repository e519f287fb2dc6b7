-- An epoch that was handed out, over the bank of its run.
use Rattle.std.specs.Prelude.{ℕ, ◌+◌, ◌-◌, ◌^◌, ◌<◌, ◌≤◌, length, List, Option, IfSome}
use Rattle.history.specs.declared.events.Epoch.{Epoch}
use Rattle.bank.specs.Given.{Given, sizes}
use Rattle.bank.specs.declared.bank.Operation.{Operation}
use Rattle.history.specs.World.{World, reading_at}
use Rattle.history.specs.Legal.{IsLegal}
use Rattle.history.specs.CrashSafe.{IsCrashSafe}
use Rattle.history.specs.Sound.{StaysSound}
use Rattle.history.specs.Reshaped.{IsReshaped}

-- the epoch looks at the slots that it was given, for its uuid, beside the run's backup slot
abbrev pub world_of : Given → List Operation → Option ℕ → Epoch → World
world_of given tape backup epoch = record {
  start = given.start;
  tape = tape;
  scope = record { uuid = epoch.uuid; given = epoch.given; backup = backup; sizes = sizes given };
  first = epoch.first;
}

-- the epoch lies within the tape, is legal, safe at each of its marks, stays sound, and its reshapes end right
pub record IsEpochRight (given : Given) (tape : List Operation) (backup : Option ℕ) (epoch : Epoch) : Type 0 where
  pub begins : epoch.first ≤ epoch.last
  pub ends : epoch.last ≤ length tape
  pub legal : IsLegal (world_of given tape backup epoch) epoch.entries.items
  pub safe : IsCrashSafe (world_of given tape backup epoch) epoch.last epoch.entries.items
  pub sound : StaysSound (world_of given tape backup epoch) epoch.last epoch.entries.items
  pub reshaped : IsReshaped (world_of given tape backup epoch) epoch.entries.items

-- a premise: the event count can't reach its limit, even if every operation since the opening raised it
abbrev pub HasRoomForEvents : World → Type 0
HasRoomForEvents world = IfSome (reading_at world world.first) (λ r. r.newest.events + (length world.tape - world.first) < 2 ^ 62)
