-- Amid a block: which of its lines were answered, though they have no reply.
use Rattle.std.proofs.Common.{◌≡◌, ◌⊎◌, inl, inr, ◌<◌, ◌≤◌, Bool, true, false, List, [], ◌∷◌, ◌++◌, length, refl, sym, ◌∙◌, ap, subst, arith}
use Rattle.std.proofs.lemmas.List.Elements.{All-head, All-tail}
use Rattle.std.specs.Prelude.{⊤}
use Rattle.std.specs.List.{All}
use Rattle.script_status.specs.script_Script.{is_of_worker}
use Rattle.script_status.specs.script_the_Numbered.{Numbered}
use Rattle.script_status.specs.script_the_Lane.{Lane}
use Rattle.script_status.specs.script_the_Lane_TheVariants.{Script as InScript, A as InA, B as InB, Worker as InWorker}
use Rattle.run_line_answers.specs.run_specs_the_Answered.{Answered}
use Rattle.run_line_answers.specs.run_specs_Histories.{History}
use Rattle.run_line_answers.specs.run_specs_Replies.{Course, course_after}
use Rattle.run_line_answers.specs.run_specs_States.{IsStanding, HasWorkedOn, IsAmidBlock, IsAmidBehind, AreAnswersBeside, course_beside}
use Rattle.run_line_answers.proofs.run_specs_Growth.{IsAmidLine}

-- lane a or lane b
abbrev pub IsLane : Lane → Type 0
IsLane InA = ⊤
IsLane InB = ⊤
IsLane lane = ⊥

no-worker : (lane : Lane) → IsLane lane → is_of_worker lane ≡ false
no-worker InA is = refl
no-worker InB is = refl
no-worker InScript is = absurd is
no-worker InWorker is = absurd is

pub standing-same : (told course : Course) → course ≡ told → IsStanding told course
standing-same told course same = record {
  opened = ap (λ (c : Course). c.opened) same;
  running = ap (λ (c : Course). c.running) same;
  calls = λ lane. ap (λ (c : Course). c.calls lane) same;
}

module _ (hs : List History) (lane : Lane) (is : IsLane lane) where
  -- the line is none of the worker's
  lane-line : (line : Numbered) (lines : List Numbered) (c course : Course) → line.lane ≡ lane → IsAmidLine hs c line lines course false → IsAmidBlock hs c (line ∷ lines) course
  lane-line line lines c course same here = subst (λ (b : Bool). IsAmidLine hs c line lines course b) (sym (ap is_of_worker same ∙ no-worker lane is)) here

  -- lines of a lane that were not reached
  pub amid-skipped : (lines more : List Numbered) → All (λ line. line.lane ≡ lane) lines → (c course : Course) → course.calls lane ≡ c.calls lane → IsAmidBlock hs c more course → IsAmidBlock hs c (lines ++ more) course
  amid-skipped [] more all c course none rest = rest
  amid-skipped (line ∷ lines) more all c course none rest =
      let same = All-head (λ line. line.lane ≡ lane) line lines all in
      lane-line line (lines ++ more) c course same
      (inl (subst (λ (l : Lane). course.calls l ≡ c.calls l) (sym same) none, amid-skipped lines more (All-tail (λ line. line.lane ≡ lane) line lines all) c course none rest))

  -- the first of them were answered
  pub amid-lane : (lines more : List Numbered) → All (λ line. line.lane ≡ lane) lines → (whats : List Answered) (c course : Course) → AreAnswersBeside hs c lines whats
      → course.calls lane ≡ (course_beside hs c lines whats).calls lane → IsAmidBlock hs (course_beside hs c lines whats) more course → IsAmidBlock hs c (lines ++ more) course
  amid-lane lines more all [] c course answers none rest = amid-skipped lines more all c course none rest
  amid-lane [] more all (what ∷ whats) c course answers none rest = absurd answers
  amid-lane (line ∷ lines) more all (what ∷ whats) c course (answer, answers) none rest =
      lane-line line (lines ++ more) c course (All-head (λ line. line.lane ≡ lane) line lines all)
      (inr (what, answer, amid-lane lines more (All-tail (λ line. line.lane ≡ lane) line lines all) whats (course_after hs c line.lane line.line what) course answers none rest))

  -- the first of them have these answers
  pub behind-part : (lines more : List Numbered) → All (λ line. line.lane ≡ lane) lines → (whats : List Answered) (c course : Course) → length whats ≤ length lines → course.calls lane ≡ (course_beside hs c lines whats).calls lane
      → IsAmidBlock hs (course_beside hs c lines whats) more course → IsAmidBehind hs c (lines ++ more) whats course
  behind-part lines more all [] c course few none rest = amid-skipped lines more all c course none rest
  behind-part [] more all (what ∷ whats) c course few none rest = absurd (omega (arith, few))
  behind-part (line ∷ lines) more all (what ∷ whats) c course few none rest =
      behind-part lines more (All-tail (λ line. line.lane ≡ lane) line lines all) whats (course_after hs c line.lane line.line what) course (omega (arith, few)) none rest

-- all of these lines have these answers
pub behind-all : (hs : List History) (lines more : List Numbered) (whats others : List Answered) (c course : Course) → length whats ≡ length lines → IsAmidBehind hs (course_beside hs c lines whats) more others course
    → IsAmidBehind hs c (lines ++ more) (whats ++ others) course
behind-all hs [] more [] others c course same rest = rest
behind-all hs (line ∷ lines) more [] others c course same rest = absurd (omega (arith, same))
behind-all hs [] more (what ∷ whats) others c course same rest = absurd (omega (arith, same))
behind-all hs (line ∷ lines) more (what ∷ whats) others c course same rest =
    behind-all hs lines more whats others (course_after hs c line.lane line.line what) course (omega (arith, same)) rest

-- the worker's line is the last
pub amid-worker : (hs : List History) (worker : Numbered) → worker.lane ≡ InWorker → (c course : Course) → IsStanding c course ⊎ HasWorkedOn hs c course → IsAmidBlock hs c (worker ∷ []) course
amid-worker hs worker is c course here = subst (λ (b : Bool). IsAmidLine hs c worker [] course b) (sym (ap is_of_worker is)) here

-- nothing of a block was reached
pub amid-none : (hs : List History) (first second : List Numbered) (worker : Numbered) → All (λ line. line.lane ≡ InA) first → All (λ line. line.lane ≡ InB) second → worker.lane ≡ InWorker → (c course : Course) → course ≡ c
    → IsAmidBlock hs c (first ++ (second ++ worker ∷ [])) course
amid-none hs first second worker first_lane second_lane worker_lane c course same =
    amid-skipped hs InA tt first (second ++ worker ∷ []) first_lane c course (ap (λ (x : Course). x.calls InA) same)
    (amid-skipped hs InB tt second (worker ∷ []) second_lane c course (ap (λ (x : Course). x.calls InB) same) (amid-worker hs worker worker_lane c course (inl (standing-same c course same))))
