-- Amid a block: what was answered behind the replies that are there.
use Rattle.std.proofs.Common.{◌≡◌, ◌⊎◌, inl, inr, ℕ, zero, suc, ◌<◌, Bool, true, false, List, [], ◌∷◌, ◌++◌, length, take, drop, refl, sym, ◌∙◌, ap, subst, arith}
use Rattle.std.proofs.lemmas.List.Elements.{All-head, All-tail, All-weaker}
use Rattle.std.specs.Prelude.{⊤}
use Rattle.std.specs.List.{All}
use Rattle.run_blocks.specs.script_Script.{is_of_worker}
use Rattle.run_blocks.specs.script_the_Line.{Line}
use Rattle.run_blocks.specs.script_the_Numbered.{Numbered}
use Rattle.run_blocks.specs.script_the_Lane.{Lane}
use Rattle.run_blocks.specs.script_the_Lane_TheVariants.{Script as InScript, A as InA, B as InB, Worker as InWorker}
use Rattle.run_blocks.specs.run_specs_the_Answered.{Answered}
use Rattle.run_blocks.specs.run_specs_the_Answered_TheVariants.{Inside, Outside as IsOutside}
use Rattle.run_blocks.specs.run_specs_the_LineReply.{LineReply}
use Rattle.run_blocks.specs.run_specs_the_Outside_TheVariants.{Created, Assembled, Examined, Alerts as ToldAlerts, Refused}
use Rattle.run_blocks.specs.run_specs_Histories.{History}
use Rattle.run_blocks.specs.run_specs_Replies.{Course, course_after, course_of, IsAnswerBeside}
use Rattle.run_blocks.specs.run_specs_States.{IsStanding, HasWorkedOn, IsAmidBlock, IsAmidBehind, AreAnswersBeside}
use Rattle.run_blocks.proofs.run_specs_Growth.{IsAmidLine}
use Rattle.run_session.specs.Sessions.{IsBlock, AreMadeOf}

-- all but the last are of a lane, and the last is the worker's
abbrev IsOfLanes : Lane → Type 0
IsOfLanes InA = ⊤
IsOfLanes InB = ⊤
IsOfLanes lane = ⊥

abbrev pub EndsWithWorker : List Numbered → Type 0
EndsWithWorker [] = ⊤
EndsWithWorker (l ∷ []) = l.lane ≡ InWorker
EndsWithWorker (l ∷ m ∷ lines) = IsOfLanes l.lane × EndsWithWorker (m ∷ lines)

till-lanes : (front rest : List Numbered) (worker : Numbered) → All (λ line. IsOfLanes line.lane) front → EndsWithWorker (worker ∷ rest) → EndsWithWorker (front ++ worker ∷ rest)
till-lanes [] rest worker all are = are
till-lanes (l ∷ []) rest worker all are = (All-head (λ line. IsOfLanes line.lane) l [] all, are)
till-lanes (l ∷ m ∷ front) rest worker all are =
    (All-head (λ line. IsOfLanes line.lane) l (m ∷ front) all, till-lanes (m ∷ front) rest worker (All-tail (λ line. IsOfLanes line.lane) l (m ∷ front) all) are)

pub block-till : (lines : List Numbered) → IsBlock lines → EndsWithWorker lines
block-till lines block =
    subst (λ (l : List Numbered). EndsWithWorker l) (sym block.is)
    (first block.first (of-a block.first block.first_lane) (till-lanes block.second [] block.worker (of-b block.second block.second_lane) block.worker_lane))
  where
    of-a : (ls : List Numbered) → All (λ line. line.lane ≡ InA) ls → All (λ line. IsOfLanes line.lane) ls
    of-a ls all = All-weaker (λ line. line.lane ≡ InA) (λ line. IsOfLanes line.lane) (λ line is. subst (λ (lane : Lane). IsOfLanes lane) (sym is) tt) ls all

    of-b : (ls : List Numbered) → All (λ line. line.lane ≡ InB) ls → All (λ line. IsOfLanes line.lane) ls
    of-b ls all = All-weaker (λ line. line.lane ≡ InB) (λ line. IsOfLanes line.lane) (λ line is. subst (λ (lane : Lane). IsOfLanes lane) (sym is) tt) ls all

    first : (front : List Numbered) → All (λ line. IsOfLanes line.lane) front → EndsWithWorker (block.second ++ block.worker ∷ []) → EndsWithWorker (front ++ (block.second ++ block.worker ∷ []))
    first front all are = by front block.second all are
      where
        by : (front second : List Numbered) → All (λ line. IsOfLanes line.lane) front → EndsWithWorker (second ++ block.worker ∷ []) → EndsWithWorker (front ++ (second ++ block.worker ∷ []))
        by front [] all are = till-lanes front [] block.worker all are
        by front (s ∷ second) all are = till-lanes front (second ++ block.worker ∷ []) s all are

pub take-drop-whole : (n : ℕ) (lines : List Numbered) → take n lines ++ drop n lines ≡ lines
take-drop-whole zero lines = refl
take-drop-whole (suc n) [] = refl
take-drop-whole (suc n) (l ∷ lines) = ap (λ (ls : List Numbered). l ∷ ls) (take-drop-whole n lines)

no-worker : (lane : Lane) → IsOfLanes lane → is_of_worker lane ≡ false
no-worker InA is = refl
no-worker InB is = refl
no-worker InScript is = absurd is
no-worker InWorker is = absurd is

-- the lines behind a block don't matter
amid-more : (hs : List History) (c course : Course) (l : Numbered) (lines more : List Numbered) → EndsWithWorker (l ∷ lines) → IsAmidBlock hs c (l ∷ lines) course → IsAmidBlock hs c (l ∷ lines ++ more) course
amid-more hs c course l [] more till was =
    subst (λ (b : Bool). IsAmidLine hs c l more course b) (sym (ap is_of_worker till)) (subst (λ (b : Bool). IsAmidLine hs c l [] course b) (ap is_of_worker till) was)
amid-more hs c course l (m ∷ lines) more (lane, till) was =
    subst (λ (b : Bool). IsAmidLine hs c l (m ∷ lines ++ more) course b) (sym (no-worker l.lane lane)) (by (subst (λ (b : Bool). IsAmidLine hs c l (m ∷ lines) course b) (no-worker l.lane lane) was) (λ told rest. amid-more hs told course m lines more till rest))
  where
    by : IsAmidLine hs c l (m ∷ lines) course false → ((told : Course) → IsAmidBlock hs told (m ∷ lines) course → IsAmidBlock hs told (m ∷ lines ++ more) course) → IsAmidLine hs c l (m ∷ lines ++ more) course false
    by (inl (none, rest)) later = inl (none, later c rest)
    by (inr (what, answer, rest)) later = inr (what, answer, later (course_after hs c l.lane l.line what) rest)

-- the worker was answered, though it has no reply
worker-answered : (hs : List History) (c course : Course) (line : Line) (what : Answered) → IsAnswerBeside hs c InWorker line what → IsStanding (course_after hs c InWorker line what) course → IsStanding c course ⊎ HasWorkedOn hs c course
worker-answered hs c course line (Inside epoch at) answer stands = inr record {
  running = answer.running;
  epoch = epoch;
  latest = answer.latest;
  history = answer.history;
  there = answer.there;
  earlier = answer.replied.earlier;
  place = at;
  worked = answer.replied.worked;
  stands = stands;
}
worker-answered hs c course line (IsOutside (Refused refusal)) answer stands = inl stands
worker-answered hs c course line (IsOutside Created) answer stands = absurd answer
worker-answered hs c course line (IsOutside (Assembled epoch status)) answer stands = absurd answer
worker-answered hs c course line (IsOutside (Examined slot found)) answer stands = absurd answer
worker-answered hs c course line (IsOutside (ToldAlerts list)) answer stands = absurd answer

-- so were other lines
amid-told : (hs : List History) (c course : Course) (l : Numbered) (lines : List Numbered) (whats : List Answered) → EndsWithWorker (l ∷ lines) → AreAnswersBeside hs c (l ∷ lines) whats → IsAmidBehind hs c (l ∷ lines) whats course
    → IsAmidBlock hs c (l ∷ lines) course
amid-told hs c course l lines [] till answers was = was
amid-told hs c course l [] (what ∷ []) till (answer, answers) was =
    subst (λ (b : Bool). IsAmidLine hs c l [] course b) (sym (ap is_of_worker till))
    (worker-answered hs c course l.line what (subst (λ (lane : Lane). IsAnswerBeside hs c lane l.line what) till answer)
    (subst (λ (lane : Lane). IsStanding (course_after hs c lane l.line what) course) till was))
amid-told hs c course l [] (what ∷ other ∷ whats) till (answer, answers) was = absurd answers
amid-told hs c course l (m ∷ lines) (what ∷ whats) (lane, till) (answer, answers) was =
    subst (λ (b : Bool). IsAmidLine hs c l (m ∷ lines) course b) (sym (no-worker l.lane lane))
    (inr (what, answer, amid-told hs (course_after hs c l.lane l.line what) course m lines whats till answers was))

-- behind the first replies to a block
pub amid-made : (tells : Type 0) (mark : ℕ) (hs : List History) (c course : Course) (lines more : List Numbered) (whats : List Answered) (made : List LineReply) → EndsWithWorker lines → length made < length lines → AreAnswersBeside hs c lines whats
    → IsAmidBehind hs c lines whats course → AreMadeOf tells mark hs lines whats made → IsAmidBlock hs (course_of hs c (take (length made) lines) made) (drop (length made) lines ++ more) course
amid-made tells mark hs c course [] more whats made till lt answers was told = absurd (omega (arith, lt))
amid-made tells mark hs c course (l ∷ lines) more whats [] till lt answers was told = amid-more hs c course l lines more till (amid-told hs c course l lines whats till answers was)
amid-made tells mark hs c course (l ∷ lines) more [] (r ∷ made) till lt answers was told = absurd told
amid-made tells mark hs c course (l ∷ lines) more (what ∷ whats) (r ∷ made) till lt (answer, answers) was (one, rest) =
    amid-made tells mark hs (course_after hs c l.lane l.line r.what) course lines more whats made (till-rest l lines till) (omega (arith, lt))
    (subst (λ (w : Answered). AreAnswersBeside hs (course_after hs c l.lane l.line w) lines whats) (sym one.what_is) answers)
    (subst (λ (w : Answered). IsAmidBehind hs (course_after hs c l.lane l.line w) lines whats course) (sym one.what_is) was) rest
  where
    till-rest : (l : Numbered) (lines : List Numbered) → EndsWithWorker (l ∷ lines) → EndsWithWorker lines
    till-rest l [] till = tt
    till-rest l (m ∷ lines) till = till.1
