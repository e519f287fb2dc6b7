-- What the lanes and the worker of a block have made of an array's history.
use Rattle.std.specs.Prelude.{ℕ, ◌≤◌, List, length}
use Rattle.std.specs.List.{All}
use Rattle.history_caller_laws.specs.history_the_Request.{Request}
use Rattle.lane_shared.specs.array_specs_Parts.{RunningParts}
use Rattle.lane_shared.specs.array_requests_the_Reply.{Reply}
use Rattle.lane_shared.specs.history_caller_laws_Callers.{AreReplied, HasCalled}
use Rattle.lane_shared.specs.Lane.{AreOneEach, StandsIn, done_of}
use Rattle.lane_shared.specs.Serving.{most_entries, sectors_of}
pub use Rattle.lane_shared.specs.Threads.{HasWorkedBy}

-- Behind the start the caller has made these requests, each once and in their order, up to one for which memory was short, and no others. Each
-- reply's event stands at its place, in a call of the caller, and fits its request, by the list as it was at the start and the entries since.
pub record HasRun {B : Type 0} (start now : RunningParts B) (caller : ℕ) (requests : List Request) (replies : List Reply) : Type 0 where
  pub each : AreOneEach requests replies
  pub told : All (StandsIn caller now.parts.entries) replies
  pub fits : AreReplied (sectors_of start) now.parts.entries (done_of requests replies)
  pub made : length now.parts.entries ≤ most_entries → HasCalled (sectors_of start) start.parts.entries now.parts.entries caller (done_of requests replies)
