-- What is done of a request to an array that stays whole, and when the history of one can be relied on.
use Rattle.std.specs.Prelude.{◌≡◌, ◌≤◌, List, Some, None, ⊤}
use Rattle.std.specs.List.{All}
use Rattle.history_whole_laws.specs.raid_types_the_Refusal.{Refusal}
use Rattle.history_whole_laws.specs.raid_types_the_Refusal_TheVariants.{Degraded, NeedSpares, Nothing}
use Rattle.history_whole_laws.specs.history_the_Entry.{Entry}
use Rattle.history_whole_laws.specs.history_the_Event.{Event}
use Rattle.history_whole_laws.specs.history_the_Event_TheVariants.{Read, Wrote, Lost, Stepped, Refused}
use Rattle.history_whole_laws.specs.history_the_LostCause_TheVariants.{Command}
use Rattle.history_whole_laws.specs.history_Epochs.{HasRoomForEvents}
use Rattle.history_whole_laws.specs.history_World.{World}
use Rattle.history_invariant.specs.Safe.{OpensOnCourse}
use Rattle.history_whole_laws.specs.Whole.{OpensWhole, takeovers}

-- what was read, and what was written
abbrev pub IsReadDone : Event → Type 0
IsReadDone (Read at body) = ⊤
IsReadDone event = ⊥

abbrev pub IsWriteDone : Event → Type 0
IsWriteDone (Wrote at body) = ⊤
IsWriteDone event = ⊥

-- a phase of the plan can't begin as it is: a role is missing, or there are too few spares
abbrev pub IsForPlan : Refusal → Type 0
IsForPlan (Degraded role) = ⊤
IsForPlan (NeedSpares have want) = ⊤
IsForPlan refusal = ⊥

-- Steps were done, one at least, unless there was nothing to do, or the plan can't go on as it is.
abbrev pub AreStepsDone : Event → Type 0
AreStepsDone (Stepped done left None) = 1 ≤ done
AreStepsDone (Stepped done left (Some refusal)) = IsForPlan refusal
AreStepsDone (Refused Nothing) = ⊤
AreStepsDone event = ⊥

-- the event tells no role lost on request
abbrev pub IsNoCommand : Event → Type 0
IsNoCommand (Lost role Command) = ⊥
IsNoCommand event = ⊤

-- Nothing was taken from an array: each role was whole when it was opened, none was lost on request, and no level was taken over. A reshape that was found is on its course, and the event count has room.
pub record KeepsAll (world : World) (entries : List Entry) : Type 0 where
  pub opened : OpensWhole world
  pub unasked : All (λ e. IsNoCommand e.event) entries
  pub level : takeovers entries ≡ 0
  pub course : OpensOnCourse world
  pub room : HasRoomForEvents world
