-- The turns of a worker.
use Rattle.std.specs.Prelude.{◌≡◌, ℕ, ◌+◌, ◌==◌, if◌then◌else◌, List, [], ◌∷◌, ◌++◌, length, map, Option, Some, None, MatchOption, ⊤}
use Rattle.std.specs.List.{sum_by}
use Rattle.history_caller_laws.specs.history_the_Event_TheVariants.{Stepped}
use Rattle.history_caller_laws.specs.history_the_Request.{Request}
use Rattle.history_caller_laws.specs.history_the_Request_TheVariants.{Steps as AsksSteps}
use Rattle.array_requests.specs.declared.reply.Reply.{Reply}
use Rattle.array_requests.specs.declared.reply.Reply.TheVariants.{Done}
use Rattle.lane_shared.specs.declared.worker.Worked.{Worked}
use Rattle.lane_shared.specs.Carried.{Carried}
use Rattle.lane_shared.specs.Lane.{AreCalls, AreDone}

-- how many steps a reply tells as done
abbrev pub done_in : Reply → ℕ
done_in (Done at (Stepped done left ended)) = done
done_in reply = 0

-- how many steps are left behind a reply, where more can be asked for: some are, and none was refused
abbrev pub left_after : Reply → Option ℕ
left_after (Done at (Stepped done left None)) = if left == 0 then None else Some left
left_after reply = None

-- Turns from this one on, with so many steps left. Each asks for as many steps as the pace answers, and another follows only where more can be
-- asked for.
abbrev pub AreTurns : (ℕ → ℕ → ℕ → Type 0) → ℕ → ℕ → List (ℕ × Reply) → Type 0
AreTurns answers turn left [] = ⊤
AreTurns answers turn left (now ∷ turns) =
    answers turn left now.0 × MatchOption (left_after now.1) (turns ≡ []) (λ more. AreTurns answers (turn + 1) more turns)

-- A worker asked for steps, turn after turn, and for nothing else. It tells how many turns it had, how many steps were done in them, and the last
-- reply.
pub record HasWorked {P : Type 0} (answered : P → Request → Reply → P → Type 0) (carried : P → Carried) (answers : ℕ → ℕ → ℕ → Type 0) (left : ℕ) (old new : P)
    (worked : Worked) : Type 0 where
  pub turns : List (ℕ × Reply)
  pub calls : AreCalls answered old (map (λ t. AsksSteps t.0) turns) (map (λ t. t.1) turns) new
  pub made : AreDone (carried old) (carried new) (map (λ t. AsksSteps t.0) turns) (map (λ t. t.1) turns)
  pub asked : AreTurns answers 0 left turns
  pub count : worked.turns ≡ length turns
  pub done : worked.done ≡ sum_by (λ t. done_in t.1) turns
  pub last : (before : List (ℕ × Reply)) × (most : ℕ) × (turns ≡ before ++ (most, worked.last) ∷ [])
