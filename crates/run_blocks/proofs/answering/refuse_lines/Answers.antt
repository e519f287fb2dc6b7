use Rattle.std.proofs.Common.{◌≡◌, ℕ, suc, ◌+◌, ◌<◌, List, [], ◌∷◌, ◌++◌, length, take, sym, ◌∙◌, ap, arith, append_assoc}
use Rattle.std.proofs.Math.ListN.{get_or}
use Rattle.std.proofs.Math.Seq.{take-suc}
use Rattle.std.proofs.lemmas.List.{map-append}
use Rattle.lane_shared.specs.raid_types_the_Refusal_TheVariants.{NotRunning}
use Rattle.script_status.specs.script_the_Numbered.{Numbered}
use Rattle.script_status.specs.script_the_Line_TheVariants.{Flush}
use Rattle.script_status.specs.script_the_Lane_TheVariants.{Script as InScript}
use Rattle.run_line_answers.specs.run_specs_the_Answered.{Answered}
use Rattle.run_line_answers.specs.run_specs_the_Answered_TheVariants.{Outside as IsOutside}
use Rattle.run_line_answers.specs.run_specs_the_Outside_TheVariants.{Refused}
use Rattle.run_blocks.specs.Answers.{refusals}
use Rattle.run_blocks.proofs.answering.refuse_lines.Goals as goal

-- what stands past the end of the lines
abbrev nothing : Numbered
nothing = record { number = 0; lane = InScript; line = Flush }

refusals-more : (lines : List Numbered) (i : ℕ) → i < length lines → refusals (take (i + 1) lines) ≡ refusals (take i lines) ++ IsOutside (Refused NotRunning) ∷ []
refusals-more lines i lt =
    ap (λ (n : ℕ). refusals (take n lines)) {y = suc i} (omega arith) ∙ ap refusals (take-suc lines i nothing lt)
    ∙ map-append (λ (line : Numbered). IsOutside (Refused NotRunning)) (take i lines) (get_or lines i nothing ∷ [])

pub loop-i-preserved : goal.loop-i-preserved
loop-i-preserved c = record {
  answers = c.push_reserved.ensures.items ∙ ap (λ (l : List Answered). l ++ IsOutside (Refused NotRunning) ∷ []) c.loop-i.invariant.answers
      ∙ append_assoc c.args.whats.items (refusals (take c.loop-i.i c.args.lines.now)) (IsOutside (Refused NotRunning) ∷ [])
      ∙ ap (λ (l : List Answered). c.args.whats.items ++ l) (sym (refusals-more c.args.lines.now c.loop-i.i c.loop-i-test.true));
  room = omega (arith, c.loop-i.invariant.room, c.push_reserved.ensures.capacity);
}
