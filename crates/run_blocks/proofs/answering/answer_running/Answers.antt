use Rattle.std.proofs.Common.{◌≡◌, ◌⊎◌, ◌<◌, ◌^◌, ℕ, length, sym, subst, arith, [], ◌∷◌, ◌++◌, ◌+◌, ◌≤◌, List, Option, Result}
use Rattle.std.specs.Prelude.{IfOk, IfErr}
use Rattle.lane_shared.specs.raid_types_the_NoMemory.{NoMemory}
use Rattle.run_line_answers.specs.sb_specs_Reading.{list_length}
use Rattle.lane_shared.specs.Blocks.{HasWorkedBy}
use Rattle.lane_shared.specs.Pace.{Paces, asked_by}
use Rattle.run_line_answers.specs.array_Calls.{running_left}
use Rattle.run_line_answers.specs.array_specs_Parts.{RunningParts}
use Rattle.run_line_answers.specs.run_specs_the_Answered.{Answered}
use Rattle.run_line_answers.specs.run_specs_the_State_TheVariants.{Running}
use Rattle.std.proofs.lemmas.List.{length-map}
use Rattle.script_status.specs.history_the_Entry.{Entry}
use Rattle.script_status.specs.history_the_Request.{Request}
use Rattle.script_status.specs.script_the_Numbered.{Numbered}
use Rattle.run_line_answers.specs.array_requests_the_Reply.{Reply}
use Rattle.run_line_answers.specs.array_requests_the_Reply_TheVariants.{Done, NoMemory as Short}
use Rattle.run_line_answers.specs.run_specs_Asked.{IsSizedBy}
use Rattle.run_line_answers.specs.run_specs_Blocks.{request_of, requests_in, AreCallersReplies, HasRunLane}
use Rattle.run_line_answers.specs.run_specs_Making.{Setting, setting_of}
use Rattle.run_line_answers.specs.run_specs_States.{IsBlockAnswered}
use Rattle.run_line_answers.proofs.run_requests_Sizes.{sized-now}
use Rattle.run_blocks.specs.declared.together.Together.{Together}
use Rattle.run_blocks.specs.Answers.{insides, block_places}
use Rattle.run_blocks.proofs.BlockTurns.{block-going, block-written, block-left, block-turn}
use Rattle.run_blocks.proofs.BlockAnswers.{block-answered, told-at, block-unanswered, block-short, some-lines}
use Rattle.run_blocks.proofs.answering.answer_running.Given.{Over}
use Rattle.run_blocks.proofs.answering.answer_running.Goals as goal

-- the setting of a block, by the bank before it and behind it
abbrev setting : (g : Over) → RunningParts g.row.B.Denot → RunningParts g.row.B.Denot → Option ℕ → Setting
setting g old new backup = setting_of g.B.Bank.tells (g.B.Bank.given old.parts.bank) (g.B.Bank.tape old.parts.bank) (g.B.Bank.tape new.parts.bank) backup (g.B.Bank.faults_of old.parts.bank) (g.B.Bank.faults_of new.parts.bank)

pub returns-in-Ok-clause-answered : goal.returns-in-Ok-clause-answered
returns-in-Ok-clause-answered g c =
    let old = c.args.array in
    let new = c.ask_together-array.result.0 in
    let size = list_length old.parts.members.newest in
    let entries = new.parts.entries in
    let did = c.ask_together-array.ensures in
    let together : Together = c.in-Ok.together in
    let ran_one = subst (λ (r : Result Together NoMemory). IfOk r (λ t. HasRunLane size old.parts.entries entries 1 (requests_in c.args.first.now) t.first.items)) c.in-Ok.is did.first in
    let ran_two = subst (λ (r : Result Together NoMemory). IfOk r (λ t. HasRunLane size old.parts.entries entries 2 (requests_in c.args.second.now) t.second.items)) c.in-Ok.is did.second in
    let worked = subst (λ (r : Result Together NoMemory). IfOk r (λ t. HasWorkedBy (HasRunLane size old.parts.entries entries 255) (Paces (goal.F-post g (asked_by c.args.pace.now))) (running_left old) t.worked)) c.in-Ok.is did.worked in
    let counted : IsSizedBy size (list_length new.parts.members.newest) old.parts.entries entries = record { more = did.went.more; grown = did.went.grown; sized = did.went.sized } in
    let sized = (sized-now c.requires.own.sized counted).0 in
    let places = block_places (length c.args.first.now) (length c.args.second.now) together.first.items together.second.items together.worked.last in
    let told : c.answers_of-whats.result.items ≡ insides (length c.args.epochs.items) places = told-at places c.answers_of-whats.ensures c.number_behind-epoch.ensures in
    subst (λ (l : List Answered). IsBlockAnswered (setting g old new c.args.backup) (Running old c.args.epochs) (Running new c.args.epochs) (c.args.first.now ++ (c.args.second.now ++ c.args.worker ∷ [])) l) (sym told)
    (block-answered old new c.args.epochs (setting g old new c.args.backup)
    (block-turn g.B.Bank.given g.B.Bank.tape g.B.Bank.faults_of c.args.backup old new c.args.epochs c.requires.former did.went c.requires.own did.entered did.turning c.left.ensures.told c.visible.ensures.limited)
    (block-left g.B.Bank.given g.B.Bank.tape g.B.Bank.faults_of c.args.backup old new c.args.epochs c.requires.former did.went c.requires.own did.entered did.turning c.left.ensures.told c.visible.ensures.limited)
    did.entered sized did.later c.args.first.now c.args.second.now c.args.worker c.requires.order.0 c.requires.order.1 c.requires.order.2
    together.first.items together.second.items ran_one ran_two (goal.F-post g (asked_by c.args.pace.now)) (running_left old) together.worked worked)

pub returns-in-Err-clause-answered : goal.returns-in-Err-clause-answered
returns-in-Err-clause-answered g c =
    let old = c.args.array in
    let new = c.ask_together-array.result.0 in
    let did = c.ask_together-array.ensures in
    let lines = c.args.first.now ++ (c.args.second.now ++ c.args.worker ∷ []) in
    subst (λ (l : List Answered). IsBlockAnswered (setting g old new c.args.backup) (Running old c.args.epochs) (Running new c.args.epochs) lines l) (sym c.requires.empty)
    (block-unanswered (setting g old new c.args.backup) (Running old c.args.epochs) (Running new c.args.epochs) lines
    (block-turn g.B.Bank.given g.B.Bank.tape g.B.Bank.faults_of c.args.backup old new c.args.epochs c.requires.former did.went c.requires.own did.entered did.turning c.left.ensures.told c.visible.ensures.limited)
    (some-lines c.args.first.now c.args.second.now c.args.worker)
    (block-short old new c.args.epochs c.args.first.now c.args.second.now c.args.worker c.requires.order.0 c.requires.order.1 c.requires.order.2
    (subst (λ (r : Result Together NoMemory). IfErr r (λ none. (new ≡ old) ⊎ (2 ^ 61 < length new.parts.entries))) c.in-Err.is did.back)))

few-replies : (size : ℕ) (entries : List Entry) (caller number : ℕ) (requests : List Request) (rs : List Reply) → AreCallersReplies size entries caller number requests rs → length rs ≤ length requests
few-replies size entries caller number [] [] are = omega arith
few-replies size entries caller number [] (r ∷ rs) are = absurd are
few-replies size entries caller number (q ∷ qs) [] are = omega arith
few-replies size entries caller number (q ∷ qs) (Done place event ∷ rs) are = let few = few-replies size entries caller (number + 1) qs rs are.1 in omega (arith, few)
few-replies size entries caller number (q ∷ qs) (Short ∷ rs) are = by rs are
  where
    by : (rs : List Reply) → AreCallersReplies size entries caller number (q ∷ qs) (Short ∷ rs) → length (Short ∷ rs) ≤ length (q ∷ qs)
    by [] are = omega arith
    by (r ∷ rs) are = absurd are

pub answers_of-whats-requires-clause-few : goal.answers_of-whats-requires-clause-few
answers_of-whats-requires-clause-few g c =
    let old = c.args.array in
    let size = list_length old.parts.members.newest in
    let entries = c.ask_together-array.result.0.parts.entries in
    let did = c.ask_together-array.ensures in
    let ran_one = subst (λ (r : Result Together NoMemory). IfOk r (λ t. HasRunLane size old.parts.entries entries 1 (requests_in c.args.first.now) t.first.items)) c.in-Ok.is did.first in
    let ran_two = subst (λ (r : Result Together NoMemory). IfOk r (λ t. HasRunLane size old.parts.entries entries 2 (requests_in c.args.second.now) t.second.items)) c.in-Ok.is did.second in
    let one = few-replies size entries 1 _ (requests_in c.args.first.now) c.in-Ok.together.first.items ran_one.replied in
    let two = few-replies size entries 2 _ (requests_in c.args.second.now) c.in-Ok.together.second.items ran_two.replied in
    let long_one = length-map c.args.first.now (λ (line : Numbered). request_of line.line) in
    let long_two = length-map c.args.second.now (λ (line : Numbered). request_of line.line) in
    (omega (arith, one, long_one), omega (arith, two, long_two))

pub returns-in-Ok-clause-written : goal.returns-in-Ok-clause-written
returns-in-Ok-clause-written g c =
    block-written g.B.Bank.given g.B.Bank.tape g.B.Bank.faults_of c.args.backup c.args.array c.ask_together-array.result.0 c.args.epochs c.requires.former c.ask_together-array.ensures.went c.ask_together-array.ensures.ended

pub returns-in-Ok-clause-former : goal.returns-in-Ok-clause-former
returns-in-Ok-clause-former g c =
    block-going g.B.Bank.given g.B.Bank.tape g.B.Bank.faults_of c.args.backup c.args.array c.ask_together-array.result.0 c.args.epochs c.requires.former c.ask_together-array.ensures.went c.ask_together-array.ensures.ended

pub returns-in-Err-clause-written : goal.returns-in-Err-clause-written
returns-in-Err-clause-written g c =
    block-written g.B.Bank.given g.B.Bank.tape g.B.Bank.faults_of c.args.backup c.args.array c.ask_together-array.result.0 c.args.epochs c.requires.former c.ask_together-array.ensures.went c.ask_together-array.ensures.ended

pub returns-in-Err-clause-former : goal.returns-in-Err-clause-former
returns-in-Err-clause-former g c =
    block-going g.B.Bank.given g.B.Bank.tape g.B.Bank.faults_of c.args.backup c.args.array c.ask_together-array.result.0 c.args.epochs c.requires.former c.ask_together-array.ensures.went c.ask_together-array.ensures.ended

pub returns-in-Ok-clause-never_falls : goal.returns-in-Ok-clause-never_falls
returns-in-Ok-clause-never_falls g c = c.ask_together-array.ensures.went.never_falls

pub returns-in-Ok-clause-grows : goal.returns-in-Ok-clause-grows
returns-in-Ok-clause-grows g c = c.ask_together-array.ensures.went.grows

pub returns-in-Ok-clause-given : goal.returns-in-Ok-clause-given
returns-in-Ok-clause-given g c = c.ask_together-array.ensures.went.given_is

pub returns-in-Err-clause-never_falls : goal.returns-in-Err-clause-never_falls
returns-in-Err-clause-never_falls g c = c.ask_together-array.ensures.went.never_falls

pub returns-in-Err-clause-grows : goal.returns-in-Err-clause-grows
returns-in-Err-clause-grows g c = c.ask_together-array.ensures.went.grows

pub returns-in-Err-clause-given : goal.returns-in-Err-clause-given
returns-in-Err-clause-given g c = c.ask_together-array.ensures.went.given_is

pub ask_together-array-requires-clause-turning : goal.ask_together-array-requires-clause-turning
ask_together-array-requires-clause-turning g c κs within = c.requires.own.turning

pub ask_together-array-requires-clause-ended : goal.ask_together-array-requires-clause-ended
ask_together-array-requires-clause-ended g c κs within = c.requires.former.ended
