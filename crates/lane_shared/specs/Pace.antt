-- How many background steps a pace asks for.
use Rattle.std.specs.Prelude.{ℕ, ◌≤◌, ◌<◌, ◌^◌}
use Rattle.lane_shared.specs.declared.pace.Pace.{Pace}

-- the closure that a pace asks
abbrev pub asked_by : {F : Type 0} → Pace F → F
asked_by pace = pace.f

-- each answer to two numbers of 64 bits is from 1 to 64
abbrev pub AnswersSteps : (ℕ → ℕ → ℕ → Type 0) → Type 0
AnswersSteps answers = (turn left steps : ℕ) → turn < 2 ^ 64 → left < 2 ^ 64 → answers turn left steps → (1 ≤ steps) × (steps ≤ 64)

-- it is an answer, of 1 to 64 steps
abbrev pub Paces : (ℕ → ℕ → ℕ → Type 0) → ℕ → ℕ → ℕ → Type 0
Paces answers turn left steps = answers turn left steps × (1 ≤ steps) × (steps ≤ 64)
