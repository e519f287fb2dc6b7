-- The answers to a block, by the replies of its callers.
use Rattle.std.specs.Prelude.{ℕ, nat_lt, if◌then◌else◌, List, [], ◌∷◌, ◌++◌, length, map}
use Rattle.run_line_answers.specs.array_requests_the_Reply.{Reply}
use Rattle.run_line_answers.specs.run_specs_the_Answered.{Answered}
use Rattle.run_line_answers.specs.run_specs_the_Answered_TheVariants.{Inside, Outside}
use Rattle.run_line_answers.specs.run_specs_the_Outside_TheVariants.{Refused}
use Rattle.run_line_answers.specs.run_specs_Blocks.{places_told}
use Rattle.lane_shared.specs.raid_types_the_Refusal_TheVariants.{NotRunning}
use Rattle.script_status.specs.script_the_Numbered.{Numbered}

-- the answers by the entries at these places
abbrev pub insides : ℕ → List ℕ → List Answered
insides epoch places = map (λ at. Inside epoch at) places

-- The places of the answers to a block of so many lines in either lane: those of lane a's replies, those of lane b's, and that of the worker's, up to one for which memory was short.
abbrev pub block_places : ℕ → ℕ → List Reply → List Reply → Reply → List ℕ
block_places one two first second last =
    if nat_lt (length (places_told first)) one then places_told first
    else if nat_lt (length (places_told second)) two then places_told first ++ places_told second
    else places_told first ++ places_told second ++ places_told (last ∷ [])

-- without an array each line is refused
abbrev pub refusals : List Numbered → List Answered
refusals lines = map (λ line. Outside (Refused NotRunning)) lines
