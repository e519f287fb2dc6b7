-- What one caller's thread has made of what its pass carries.
use Rattle.std.specs.Prelude.{◌≡◌, ◌⊎◌, ℕ, ◌+◌, ◌≤◌, ◌^◌, List, [], ◌∷◌, ◌++◌, length, map, IsNone}
use Rattle.std.specs.List.{sum_by}
use Rattle.history_caller_laws.specs.history_the_Request.{Request}
use Rattle.history_caller_laws.specs.history_the_Request_TheVariants.{Steps as AsksSteps}
use Rattle.lane_shared.specs.array_requests_the_Reply.{Reply}
use Rattle.lane_shared.specs.declared.worker.Worked.{Worked}
use Rattle.lane_shared.specs.Carried.{Carried, GoesOn}
use Rattle.lane_shared.specs.Lane.{AreDone}
use Rattle.lane_shared.specs.Worker.{done_in, left_after, AreTurns}

-- From one pass to the other its caller has made these requests, and they were answered so.
pub record HasPassed (tells : Type 0) (old new : Carried) (requests : List Request) (replies : List Reply) : Type 0 where
  pub later : GoesOn tells old new
  pub done : AreDone old new requests replies

-- A worker asked for steps, turn after turn, and for nothing else: these requests were made, with these replies. It asked for as many at a time as
-- the pace answers. It ended where none was left, one was refused or memory was short, or after 2^40 turns. It tells how many turns it had, how many
-- steps were done in them, and the last reply.
pub record HasWorkedBy (WereMade : List Request → List Reply → Type 0) (answers : ℕ → ℕ → ℕ → Type 0) (left : ℕ) (worked : Worked) : Type 0 where
  pub turns : List (ℕ × Reply)
  pub made : WereMade (map (λ t. AsksSteps t.0) turns) (map (λ t. t.1) turns)
  pub asked : AreTurns answers 0 left turns
  pub count : worked.turns ≡ length turns
  pub done : worked.done ≡ sum_by (λ t. done_in t.1) turns
  pub last : (before : List (ℕ × Reply)) × (most : ℕ) × (turns ≡ before ++ (most, worked.last) ∷ [])
  pub ended : IsNone (left_after worked.last) ⊎ (worked.turns ≡ 2 ^ 40)
  pub at_most : worked.turns ≤ 2 ^ 40
  pub few : worked.turns ≤ worked.done + 1
