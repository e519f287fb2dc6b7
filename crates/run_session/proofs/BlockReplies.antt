-- The replies to the lines of a block, by its answers.
use Rattle.std.proofs.Common.{◌≡◌, ◌≢◌, ℕ, zero, suc, ◌+◌, ◌-◌, ◌<◌, ◌≤◌, ◌&&◌, Bool, true, false, Option, Some, None, List, [], ◌∷◌, ◌++◌, length, take, drop, MatchOption, refl, sym, ◌∙◌, ap, subst, arith, length-append}
use Rattle.std.proofs.lemmas.List.Elements.{All-nil, All-cons, All-append, All-head, All-tail, All-weaker}
use Rattle.std.proofs.Math.ListN.{get_or}
use Rattle.std.proofs.Math.Seq.{take-append_seam, take-append-add, drop-append_seam, get_or-append_seam, get_or-append-add}
use Rattle.std.specs.Prelude.{if◌then◌else◌, IfSome, IsTrue, IsFalse, ⊤}
use Rattle.std.specs.List.{All, AllPass}
use Rattle.run_blocks.specs.history_the_Entry.{Entry}
use Rattle.run_blocks.specs.script_Script.{is_of_worker, is_within_limits, may_ask, may_follow, are_in_turn}
use Rattle.run_blocks.specs.script_the_Line.{Line}
use Rattle.run_blocks.specs.script_the_Line_TheVariants.{Create}
use Rattle.run_blocks.specs.script_the_Numbered.{Numbered}
use Rattle.run_blocks.specs.script_the_Lane.{Lane}
use Rattle.run_blocks.specs.script_the_Lane_TheVariants.{Script as InScript, A as InA, B as InB, Worker as InWorker}
use Rattle.run_blocks.specs.run_specs_the_Answered.{Answered}
use Rattle.run_blocks.specs.run_specs_the_Answered_TheVariants.{Inside, Outside as IsOutside}
use Rattle.run_blocks.specs.run_specs_the_LineReply.{LineReply}
use Rattle.run_blocks.specs.run_specs_the_Outside_TheVariants.{Created, Assembled, Examined, Alerts as ToldAlerts, Refused}
use Rattle.run_blocks.specs.run_specs_Histories.{History, entry_at}
use Rattle.run_blocks.specs.run_specs_Making.{Setting}
use Rattle.run_blocks.specs.run_specs_Caused.{Record}
use Rattle.run_blocks.specs.run_specs_Records.{IsRecordStored, IsRecordedIn, AreRecorded}
use Rattle.run_blocks.specs.run_specs_Replies.{Course, course_after, course_of, IsAnswerBeside, IsAnswerIn, mark_reached, mark_shown, IsEnd, AreReplies, AreInOrder}
use Rattle.run_blocks.specs.run_specs_States.{IsNamed, AreAnswersBeside, AreRecordedBeside, course_beside, EndsFrom}
use Rattle.run_blocks.specs.run_specs_Blocks.{is_in_lane}
use Rattle.run_blocks.proofs.run_specs_Growth.{IsWider, beside_named, beside_after}
use Rattle.run_blocks.proofs.run_requests_RecordLaws.{in-wider}
use Rattle.run_blocks.specs.Shown.{IsAnswerShort}
use Rattle.run_blocks.proofs.Shortness.{beside_short}
use Rattle.run_session.specs.Sessions.{IsBlock, is_of_a, front_length, block_length, IsEndNow, IsMadeOf, AreMadeOf}

-- what stands past the end of the lines
abbrev pub past-end : Numbered
past-end = record { number = 0; lane = InScript; line = Create record { uuid = []; shape = record { level = 0; layout = 0; chunk = 0; disks = 0 }; size = 0; offset = 0 } }

-- ---- the lines of a block

-- none is the script's own
pub block-lanes : (lines : List Numbered) → IsBlock lines → All (λ line. line.lane ≢ InScript) lines
block-lanes lines block =
    subst (λ (l : List Numbered). All (λ line. line.lane ≢ InScript) l) (sym block.is)
    (All-append (λ line. line.lane ≢ InScript) block.first (block.second ++ block.worker ∷ [])
    (All-weaker (λ line. line.lane ≡ InA) (λ line. line.lane ≢ InScript) (λ line lane. not-a line.lane lane) block.first block.first_lane)
    (All-append (λ line. line.lane ≢ InScript) block.second (block.worker ∷ [])
    (All-weaker (λ line. line.lane ≡ InB) (λ line. line.lane ≢ InScript) (λ line lane. not-b line.lane lane) block.second block.second_lane)
    (All-cons (λ line. line.lane ≢ InScript) block.worker [] (not-worker block.worker.lane block.worker_lane) (All-nil (λ line. line.lane ≢ InScript)))))
  where
    not-a : (lane : Lane) → lane ≡ InA → lane ≢ InScript
    not-a lane is same = absurd (let clash : InA ≡ InScript = sym is ∙ same in cc)

    not-b : (lane : Lane) → lane ≡ InB → lane ≢ InScript
    not-b lane is same = absurd (let clash : InB ≡ InScript = sym is ∙ same in cc)

    not-worker : (lane : Lane) → lane ≡ InWorker → lane ≢ InScript
    not-worker lane is same = absurd (let clash : InWorker ≡ InScript = sym is ∙ same in cc)

-- all but the last are those of its lanes
abbrev IsOfLanes : Lane → Type 0
IsOfLanes InA = ⊤
IsOfLanes InB = ⊤
IsOfLanes lane = ⊥

abbrev pub AreOfLanes : List Numbered → Type 0
AreOfLanes [] = ⊤
AreOfLanes (l ∷ []) = ⊤
AreOfLanes (l ∷ m ∷ lines) = IsOfLanes l.lane × AreOfLanes (m ∷ lines)

lanes-rest : (l : Numbered) (lines : List Numbered) → AreOfLanes (l ∷ lines) → AreOfLanes lines
lanes-rest l [] are = tt
lanes-rest l (m ∷ lines) are = are.1

lanes-before : (front rest : List Numbered) → All (λ line. IsOfLanes line.lane) front → AreOfLanes rest → AreOfLanes (front ++ rest)
lanes-before [] rest all are = are
lanes-before (l ∷ front) rest all are = before (front ++ rest) (lanes-before front rest (All-tail (λ line. IsOfLanes line.lane) l front all) are)
  where
    before : (lines : List Numbered) → AreOfLanes lines → AreOfLanes (l ∷ lines)
    before [] behind = tt
    before (m ∷ lines) behind = (All-head (λ line. IsOfLanes line.lane) l front all, behind)

pub block-order : (lines : List Numbered) → IsBlock lines → AreOfLanes lines
block-order lines block =
    subst (λ (l : List Numbered). AreOfLanes l) (sym block.is)
    (lanes-before block.first (block.second ++ block.worker ∷ []) (All-weaker (λ line. line.lane ≡ InA) (λ line. IsOfLanes line.lane) (λ line is. subst (λ (lane : Lane). IsOfLanes lane) (sym is) tt) block.first block.first_lane)
    (lanes-before block.second (block.worker ∷ []) (All-weaker (λ line. line.lane ≡ InB) (λ line. IsOfLanes line.lane) (λ line is. subst (λ (lane : Lane). IsOfLanes lane) (sym is) tt) block.second block.second_lane) tt))

pub block-some : (lines : List Numbered) → IsBlock lines → 1 ≤ length lines
block-some lines block =
    let long = ap (λ (l : List Numbered). length l) block.is in
    let sum = length-append block.first (block.second ++ block.worker ∷ []) in
    let more = length-append block.second (block.worker ∷ []) in
    omega (arith, long, sum, more)

-- lane a's lines stand at its front
front-is : (first second : List Numbered) → All (λ line. line.lane ≡ InA) first → All (λ line. line.lane ≡ InB) second → front_length (first ++ second) ≡ length first
front-is [] [] first_lane second_lane = refl
front-is [] (b ∷ second) first_lane second_lane = ap (λ (l : Lane). if is_of_a l then front_length second + 1 else 0) (All-head (λ line. line.lane ≡ InB) b second second_lane)
front-is (a ∷ first) second first_lane second_lane =
    ap (λ (l : Lane). if is_of_a l then front_length (first ++ second) + 1 else 0) (All-head (λ line. line.lane ≡ InA) a first first_lane)
    ∙ (let rest = front-is first second (All-tail (λ line. line.lane ≡ InA) a first first_lane) second_lane in
    let whole : front_length (first ++ second) + 1 ≡ length (a ∷ first) = omega (arith, rest) in whole)

-- ---- where a block ends

both-true : (a b : Bool) → (a && b) ≡ true → b ≡ true
both-true true b is = is
both-true false b is = absurd (cc)

-- the script goes on behind a worker
behind-worker : (lines : List Numbered) → are_in_turn InWorker lines ≡ true → are_in_turn InScript lines ≡ true
behind-worker [] is = refl
behind-worker (line ∷ lines) is = by line.lane is
  where
    by : (lane : Lane) → (may_follow InWorker lane && are_in_turn lane lines) ≡ true → (may_follow InScript lane && are_in_turn lane lines) ≡ true
    by InScript is = is
    by InA is = is
    by InB is = is
    by InWorker is = is

-- what begins with lane b, or the worker
record IsTail (lines : List Numbered) : Type 0 where
  second : List Numbered
  worker : Numbered
  is : take (block_length lines) lines ≡ second ++ worker ∷ []
  second_lane : All (λ line. line.lane ≡ InB) second
  worker_lane : worker.lane ≡ InWorker
  turns : are_in_turn InScript (drop (block_length lines) lines) ≡ true
  within : block_length lines ≤ length lines

tail-worker : (line : Numbered) (lines : List Numbered) → line.lane ≡ InWorker → are_in_turn InWorker lines ≡ true → IsTail (line ∷ lines)
tail-worker line lines lane turns =
    let one : block_length (line ∷ lines) ≡ 1 = ap (λ (l : Lane). if is_of_worker l then 1 else block_length lines + 1) lane in
    record {
      second = [];
      worker = line;
      is = ap (λ (n : ℕ). take n (line ∷ lines)) one;
      second_lane = All-nil (λ line. line.lane ≡ InB);
      worker_lane = lane;
      turns = ap (λ (n : ℕ). are_in_turn InScript (drop n (line ∷ lines))) one ∙ behind-worker lines turns;
      within = omega (arith, one);
    }

-- a line of lane b before the others
one-second : (line : Numbered) (lines : List Numbered) → line.lane ≡ InB → IsTail lines → IsTail (line ∷ lines)
one-second line lines lane rest =
    let one : block_length (line ∷ lines) ≡ suc (block_length lines) = ap (λ (l : Lane). if is_of_worker l then 1 else block_length lines + 1) lane ∙ (let s : block_length lines + 1 ≡ suc (block_length lines) = omega arith in s) in
    let within = rest.within in
    record {
      second = line ∷ rest.second;
      worker = rest.worker;
      is = ap (λ (n : ℕ). take n (line ∷ lines)) one ∙ ap (λ (l : List Numbered). line ∷ l) rest.is;
      second_lane = All-cons (λ line. line.lane ≡ InB) line rest.second lane rest.second_lane;
      worker_lane = rest.worker_lane;
      turns = ap (λ (n : ℕ). are_in_turn InScript (drop n (line ∷ lines))) one ∙ rest.turns;
      within = omega (arith, one, within);
    }

in-b : (lines : List Numbered) → are_in_turn InB lines ≡ true → IsTail lines
in-b [] is = absurd (cc)
in-b (line ∷ lines) is = by line.lane refl is (λ next. in-b lines next)
  where
    by : (lane : Lane) → line.lane ≡ lane → (may_follow InB lane && are_in_turn lane lines) ≡ true → (are_in_turn InB lines ≡ true → IsTail lines) → IsTail (line ∷ lines)
    by InScript lane is again = absurd (cc)
    by InA lane is again = absurd (cc)
    by InWorker lane is again = tail-worker line lines lane is
    by InB lane is again = one-second line lines lane (again is)

-- what begins with a block, and goes on with the script
pub record BeginsWithBlock (lines : List Numbered) : Type 0 where
  pub block : IsBlock (take (block_length lines) lines)
  pub turns : are_in_turn InScript (drop (block_length lines) lines) ≡ true
  pub within : block_length lines ≤ length lines

of-tail : (lines : List Numbered) → IsTail lines → BeginsWithBlock lines
of-tail lines tail = record {
  block = record { first = []; second = tail.second; worker = tail.worker; is = tail.is; first_lane = All-nil (λ line. line.lane ≡ InA); second_lane = tail.second_lane; worker_lane = tail.worker_lane };
  turns = tail.turns;
  within = tail.within;
}

-- a line of lane a before one
one-more : (line : Numbered) (lines : List Numbered) → line.lane ≡ InA → BeginsWithBlock lines → BeginsWithBlock (line ∷ lines)
one-more line lines lane rest =
    let one : block_length (line ∷ lines) ≡ suc (block_length lines) = ap (λ (l : Lane). if is_of_worker l then 1 else block_length lines + 1) lane ∙ (let s : block_length lines + 1 ≡ suc (block_length lines) = omega arith in s) in
    let within = rest.within in
    record {
      block = record {
        first = line ∷ rest.block.first;
        second = rest.block.second;
        worker = rest.block.worker;
        is = ap (λ (n : ℕ). take n (line ∷ lines)) one ∙ ap (λ (l : List Numbered). line ∷ l) rest.block.is;
        first_lane = All-cons (λ line. line.lane ≡ InA) line rest.block.first lane rest.block.first_lane;
        second_lane = rest.block.second_lane;
        worker_lane = rest.block.worker_lane;
      };
      turns = ap (λ (n : ℕ). are_in_turn InScript (drop n (line ∷ lines))) one ∙ rest.turns;
      within = omega (arith, one, within);
    }

in-a : (lines : List Numbered) → are_in_turn InA lines ≡ true → BeginsWithBlock lines
in-a [] is = absurd (cc)
in-a (line ∷ lines) is = by line.lane refl is (λ next. in-a lines next)
  where
    by : (lane : Lane) → line.lane ≡ lane → (may_follow InA lane && are_in_turn lane lines) ≡ true → (are_in_turn InA lines ≡ true → BeginsWithBlock lines) → BeginsWithBlock (line ∷ lines)
    by InScript lane is again = absurd (cc)
    by InA lane is again = one-more line lines lane (again is)
    by InB lane is again = of-tail (line ∷ lines) (one-second line lines lane (in-b lines is))
    by InWorker lane is again = of-tail (line ∷ lines) (tail-worker line lines lane is)

-- lines in turn, the first of which isn't the script's own, begin with a block
pub begins-block : (line : Numbered) (lines : List Numbered) → line.lane ≢ InScript → are_in_turn InScript (line ∷ lines) ≡ true → BeginsWithBlock (line ∷ lines)
begins-block line lines ne is = by line.lane refl ne is
  where
    by : (lane : Lane) → line.lane ≡ lane → lane ≢ InScript → (may_follow InScript lane && are_in_turn lane lines) ≡ true → BeginsWithBlock (line ∷ lines)
    by InScript lane ne is = absurd (ne refl)
    by InA lane ne is = one-more line lines lane (in-a lines is)
    by InB lane ne is = of-tail (line ∷ lines) (one-second line lines lane (in-b lines is))
    by InWorker lane ne is = of-tail (line ∷ lines) (tail-worker line lines lane is)

-- behind a line of its own the others are in turn
pub behind-line : (line : Numbered) (lines : List Numbered) → line.lane ≡ InScript → are_in_turn InScript (line ∷ lines) ≡ true → are_in_turn InScript lines ≡ true
behind-line line lines lane is = both-true (may_follow InScript InScript) (are_in_turn InScript lines) (sym (ap (λ (l : Lane). may_follow InScript l && are_in_turn l lines) lane) ∙ is)

-- so it is of a list that isn't empty
pub begins : (lines : List Numbered) (nothing : Numbered) → 1 ≤ length lines → (get_or lines 0 nothing).lane ≢ InScript → are_in_turn InScript lines ≡ true → BeginsWithBlock lines
begins [] nothing some ne is = absurd (omega (arith, some))
begins (line ∷ lines) nothing some ne is = begins-block line lines ne is

pub behind-first : (lines : List Numbered) (nothing : Numbered) → 1 ≤ length lines → (get_or lines 0 nothing).lane ≡ InScript → are_in_turn InScript lines ≡ true → are_in_turn InScript (drop 1 lines) ≡ true
behind-first [] nothing some lane is = absurd (omega (arith, some))
behind-first (line ∷ lines) nothing some lane is = behind-line line lines lane is

pub first-alone : (lines : List Numbered) (nothing : Numbered) → 1 ≤ length lines → take 1 lines ≡ get_or lines 0 nothing ∷ []
first-alone [] nothing some = absurd (omega (arith, some))
first-alone (line ∷ lines) nothing some = refl

-- ---- replies

answer-in : (setting : Setting) (hs : List History) (c : Course) (lane : Lane) → lane ≢ InScript → (line : Line) (end : ℕ) (what : Answered) → IsAnswerBeside hs c lane line what → IsAnswerIn setting hs c lane line end what
answer-in setting hs c InScript ne line end what is = absurd (ne refl)
answer-in setting hs c InA ne line end what is = is
answer-in setting hs c InB ne line end what is = is
answer-in setting hs c InWorker ne line end what is = is

within-lane : (tells : Type 0) (mark : ℕ) (reply : LineReply) (lane : Lane) → lane ≢ InScript → (what : Answered) → IsEndNow tells mark reply what → tells → mark_reached 0 lane what reply.end ≤ mark
within-lane tells mark reply InScript ne what now t = absurd (ne refl)
within-lane tells mark reply InA ne (Inside epoch at) now t = omega arith
within-lane tells mark reply InA ne (IsOutside outside) now t = let same = now t in omega (arith, same)
within-lane tells mark reply InB ne (Inside epoch at) now t = omega arith
within-lane tells mark reply InB ne (IsOutside outside) now t = let same = now t in omega (arith, same)
within-lane tells mark reply InWorker ne (Inside epoch at) now t = omega arith
within-lane tells mark reply InWorker ne (IsOutside outside) now t = let same = now t in omega (arith, same)

-- as many lines have got a reply
pub made-few : (tells : Type 0) (mark : ℕ) (hs : List History) (lines : List Numbered) (whats : List Answered) (made : List LineReply) → AreMadeOf tells mark hs lines whats made → (length made ≤ length lines) × (length made ≤ length whats)
made-few tells mark hs lines whats [] was = (omega arith, omega arith)
made-few tells mark hs [] whats (r ∷ made) was = absurd was
made-few tells mark hs (l ∷ lines) [] (r ∷ made) was = absurd was
made-few tells mark hs (l ∷ lines) (w ∷ whats) (r ∷ made) (one, rest) = let few = made-few tells mark hs lines whats made rest in (omega (arith, few.0), omega (arith, few.1))

-- they answer their lines
pub made-replies : (setting : Setting) (hs : List History) (c : Course) (lines : List Numbered) (whats : List Answered) (made : List LineReply) → All (λ line. line.lane ≢ InScript) lines → AreAnswersBeside hs c lines whats
    → AreMadeOf setting.tells (length setting.tape) hs lines whats made → AreReplies setting hs c (take (length made) lines) made
made-replies setting hs c lines whats [] lanes answers was = tt
made-replies setting hs c [] whats (r ∷ made) lanes answers was = absurd was
made-replies setting hs c (l ∷ lines) [] (r ∷ made) lanes answers was = absurd was
made-replies setting hs c (l ∷ lines) (w ∷ whats) (r ∷ made) lanes (answer, answers) (one, rest) =
    let ne = All-head (λ line. line.lane ≢ InScript) l lines lanes in (
      record {
        line = one.line;
        lane = one.lane;
        end = one.end;
        within = λ t. within-lane setting.tells (length setting.tape) r r.lane (λ is. ne (sym one.lane ∙ is)) r.what one.at_end t;
        answer = answer-in setting hs c l.lane ne l.line r.end r.what (subst (λ (x : Answered). IsAnswerBeside hs c l.lane l.line x) (sym one.what_is) answer);
      },
      made-replies setting hs (course_after hs c l.lane l.line r.what) lines whats made (All-tail (λ line. line.lane ≢ InScript) l lines lanes)
          (subst (λ (x : Answered). AreAnswersBeside hs (course_after hs c l.lane l.line x) lines whats) (sym one.what_is) answers) rest,
    )

-- a line of a lane leaves the record as it is
lane-next : (setting : Setting) (hs : List History) (c : Course) (lane : Lane) (line : Line) (what : Answered) (old next : Option Record) → IsOfLanes lane → IsRecordedIn setting hs c lane line what old next → next ≡ old
lane-next setting hs c InA line what old next of is = is
lane-next setting hs c InB line what old next of is = is
lane-next setting hs c InScript line what old next of is = absurd of
lane-next setting hs c InWorker line what old next of is = absurd of

-- so the record behind an answer is stored as the one before it, or as the one behind the whole block
next-stored : (was : Setting) (Stored : Record → Type 0) (hs : List History) (c behind : Course) (old next last : Option Record) (l : Numbered) (lines : List Numbered) (what : Answered) (whats : List Answered) → IfSome old Stored → AreOfLanes (l ∷ lines)
    → (length (what ∷ whats) ≡ length (l ∷ lines) → IfSome last Stored) → IsRecordedIn was hs c l.lane l.line what old next → AreRecordedBeside was hs behind next lines whats last → IfSome next Stored
next-stored was Stored hs c behind old next last l [] what [] stored are all here records = subst (λ (o : Option Record). IfSome o Stored) records (all refl)
next-stored was Stored hs c behind old next last l [] what (w ∷ whats) stored are all here records = absurd records
next-stored was Stored hs c behind old next last l (m ∷ lines) what whats stored are all here records =
    subst (λ (o : Option Record). IfSome o Stored) (sym (lane-next was hs c l.lane l.line what old next are.0 here)) stored

-- from one to the next there is the record that the answers tell, the last one behind all of them
pub made-records : (tells : Type 0) (mark : ℕ) (was now : Setting) → IsWider was now → (hs : List History) (c : Course) (old last : Option Record) (lines : List Numbered) (whats : List Answered) (made : List LineReply)
    → IfSome old (IsRecordStored now.tells now.given now.tape) → AreOfLanes lines → (length whats ≡ length lines → IfSome last (IsRecordStored now.tells now.given now.tape)) → AreRecordedBeside was hs c old lines whats last
    → AreMadeOf tells mark hs lines whats made → (at : Option Record) × AreRecorded now hs c old (take (length made) lines) made at × (length made ≡ length whats → at ≡ last)
made-records tells mark was now wider hs c old last lines [] [] stored are all same told = (old, refl, λ all. sym same)
made-records tells mark was now wider hs c old last lines (w ∷ whats) [] stored are all records told = (old, refl, λ all. absurd (omega (arith, all)))
made-records tells mark was now wider hs c old last [] [] (r ∷ made) stored are all records told = absurd told
made-records tells mark was now wider hs c old last [] (w ∷ whats) (r ∷ made) stored are all records told = absurd told
made-records tells mark was now wider hs c old last (l ∷ lines) [] (r ∷ made) stored are all records told = absurd told
made-records tells mark was now wider hs c old last (l ∷ lines) (w ∷ whats) (r ∷ made) stored are all (next, one, records) (reply, told) =
    let known = next-stored was (IsRecordStored now.tells now.given now.tape) hs c (course_after hs c l.lane l.line w) old next last l lines w whats stored are all one records in
    let more = made-records tells mark was now wider hs (course_after hs c l.lane l.line r.what) next last lines whats made known (lanes-rest l lines are) (λ rest. all (omega (arith, rest)))
    (subst (λ (x : Answered). AreRecordedBeside was hs (course_after hs c l.lane l.line x) next lines whats last) (sym reply.what_is) records) told in (
      more.0,
      (next, in-wider was now wider hs c l.lane l.line r.what old next (subst (λ (x : Answered). IsRecordedIn was hs c l.lane l.line x old next) (sym reply.what_is) one), known, more.1),
      λ whole. more.2 (omega (arith, whole)),
    )

-- the run stands where all answers tell
pub made-course : (tells : Type 0) (mark : ℕ) (hs : List History) (c : Course) (lines : List Numbered) (whats : List Answered) (made : List LineReply) → AreMadeOf tells mark hs lines whats made → length made ≡ length lines → length whats ≤ length lines
    → course_of hs c lines made ≡ course_beside hs c lines whats
made-course tells mark hs c [] [] [] was all few = refl
made-course tells mark hs c [] (w ∷ whats) [] was all few = absurd (omega (arith, few))
made-course tells mark hs c (l ∷ lines) whats [] was all few = absurd (omega (arith, all))
made-course tells mark hs c [] whats (r ∷ made) was all few = absurd was
made-course tells mark hs c (l ∷ lines) [] (r ∷ made) was all few = absurd was
made-course tells mark hs c (l ∷ lines) (w ∷ whats) (r ∷ made) (one, rest) all few =
    made-course tells mark hs (course_after hs c l.lane l.line r.what) lines whats made rest (omega (arith, all)) (omega (arith, few))
    ∙ ap (λ (x : Answered). course_beside hs (course_after hs c l.lane l.line x) lines whats) one.what_is

-- ---- when they were made

marked : (low : ℕ) (reply : LineReply) (lane : Lane) → lane ≢ InScript → (epoch at : ℕ) → reply.lane ≡ lane → reply.what ≡ Inside epoch at → mark_shown low reply ≡ low
marked low reply lane ne epoch at lane_is what_is =
    ap (λ (l : Lane). mark_reached low l reply.what reply.end) lane_is ∙ ap (λ (w : Answered). mark_reached low lane w reply.end) what_is ∙ by lane ne
  where
    by : (lane : Lane) → lane ≢ InScript → mark_reached low lane (Inside epoch at) reply.end ≡ low
    by InScript ne = absurd (ne refl)
    by InA ne = refl
    by InB ne = refl
    by InWorker ne = refl

outside-marked : (low : ℕ) (lane : Lane) (what : Answered) (end high : ℕ) → lane ≢ InScript → low ≤ end → end ≤ high → mark_reached low lane what end ≤ high
outside-marked low InScript what end high ne le within = within
outside-marked low InA (Inside epoch at) end high ne le within = omega (arith, le, within)
outside-marked low InA (IsOutside outside) end high ne le within = within
outside-marked low InB (Inside epoch at) end high ne le within = omega (arith, le, within)
outside-marked low InB (IsOutside outside) end high ne le within = within
outside-marked low InWorker (Inside epoch at) end high ne le within = omega (arith, le, within)
outside-marked low InWorker (IsOutside outside) end high ne le within = within

module _ (tells : Type 0) (hs : List History) (mid high : ℕ) (t : tells) where
  -- where the array runs, each is an entry of the block
  ordered-running : (low : ℕ) → low ≤ mid → mid ≤ high → (c : Course) → IsTrue c.running → (lines : List Numbered) (whats : List Answered) (made : List LineReply) → All (λ line. line.lane ≢ InScript) lines
      → AreAnswersBeside hs c lines whats → AreMadeOf tells high hs lines whats made → All (EndsFrom mid hs) whats → AreInOrder low high made
  ordered-running low le within c runs lines whats [] lanes answers was ends = omega (arith, le, within)
  ordered-running low le within c runs [] whats (r ∷ made) lanes answers was ends = absurd was
  ordered-running low le within c runs (l ∷ lines) [] (r ∷ made) lanes answers was ends = absurd was
  ordered-running low le within c runs (l ∷ lines) (Inside epoch at ∷ whats) (r ∷ made) lanes (answer, answers) (one, rest) ends =
      let ne = All-head (λ line. line.lane ≢ InScript) l lines lanes in
      let from = late (entry_at hs epoch at) (All-head (EndsFrom mid hs) (Inside epoch at) whats ends) (subst (λ (w : Answered). IsEnd hs r w) one.what_is one.end) in (
        omega (arith, le, from),
        subst (λ (n : ℕ). AreInOrder n high made) (sym (marked low r l.lane ne epoch at one.lane one.what_is))
            (ordered-running low le within (course_after hs c l.lane l.line (Inside epoch at)) ((beside_after hs c l.lane ne l.line (Inside epoch at) answer).running ∙ runs) lines whats made (All-tail (λ line. line.lane ≢ InScript) l lines lanes) answers rest
            (All-tail (EndsFrom mid hs) (Inside epoch at) whats ends)),
      )
    where
      late : (o : Option Entry) → MatchOption o ⊥ (λ e. mid ≤ e.end) → MatchOption o ⊥ (λ e. r.end ≡ e.end) → mid ≤ r.end
      late None from same = absurd from
      late (Some e) from same = omega (arith, from, same)
  ordered-running low le within c runs (l ∷ lines) (IsOutside Created ∷ whats) (r ∷ made) lanes (answer, answers) was ends = absurd answer
  ordered-running low le within c runs (l ∷ lines) (IsOutside (Assembled epoch status) ∷ whats) (r ∷ made) lanes (answer, answers) was ends = absurd answer
  ordered-running low le within c runs (l ∷ lines) (IsOutside (Examined slot found) ∷ whats) (r ∷ made) lanes (answer, answers) was ends = absurd answer
  ordered-running low le within c runs (l ∷ lines) (IsOutside (ToldAlerts list) ∷ whats) (r ∷ made) lanes (answer, answers) was ends = absurd answer
  ordered-running low le within c runs (l ∷ lines) (IsOutside (Refused refusal) ∷ whats) (r ∷ made) lanes (answer, answers) was ends = absurd (let clash : true ≡ false = sym runs ∙ answer.0 in cc)

  -- where none runs, each is made now
  ordered-idle : (low : ℕ) → low ≤ high → (c : Course) → IsFalse c.running → (lines : List Numbered) (whats : List Answered) (made : List LineReply) → All (λ line. line.lane ≢ InScript) lines
      → AreAnswersBeside hs c lines whats → AreMadeOf tells high hs lines whats made → AreInOrder low high made
  ordered-idle low le c idle lines whats [] lanes answers was = le
  ordered-idle low le c idle [] whats (r ∷ made) lanes answers was = absurd was
  ordered-idle low le c idle (l ∷ lines) [] (r ∷ made) lanes answers was = absurd was
  ordered-idle low le c idle (l ∷ lines) (Inside epoch at ∷ whats) (r ∷ made) lanes (answer, answers) was = absurd (let runs = answer.running in let clash : true ≡ false = sym runs ∙ idle in cc)
  ordered-idle low le c idle (l ∷ lines) (IsOutside outside ∷ whats) (r ∷ made) lanes (answer, answers) (one, rest) =
      let ne = All-head (λ line. line.lane ≢ InScript) l lines lanes in
      let now = subst (λ (w : Answered). IsEndNow tells high r w) one.what_is one.at_end t in
      let from : low ≤ r.end = omega (arith, le, now) in (
        from,
        ordered-idle (mark_shown low r) (outside-marked low r.lane r.what r.end high (λ is. ne (sym one.lane ∙ is)) from (omega (arith, now)))
            (course_after hs c l.lane l.line (IsOutside outside)) ((beside_after hs c l.lane ne l.line (IsOutside outside) answer).running ∙ idle) lines whats made (All-tail (λ line. line.lane ≢ InScript) l lines lanes) answers rest,
      )

  pub ordered : (low : ℕ) → low ≤ mid → mid ≤ high → (c : Course) (lines : List Numbered) (whats : List Answered) (made : List LineReply) → All (λ line. line.lane ≢ InScript) lines
      → AreAnswersBeside hs c lines whats → AreMadeOf tells high hs lines whats made → All (EndsFrom mid hs) whats → AreInOrder low high made
  ordered low le within c lines whats made lanes answers was ends = by c.running refl
    where
      by : (b : Bool) → c.running ≡ b → AreInOrder low high made
      by true runs = ordered-running low le within c runs lines whats made lanes answers was ends
      by false idle = ordered-idle low (omega (arith, le, within)) c idle lines whats made lanes answers was

-- behind the former replies
pub order-then : (low mid high : ℕ) (replies made : List LineReply) → AreInOrder low mid replies → ((from : ℕ) → from ≤ mid → AreInOrder from high made) → AreInOrder low high (replies ++ made)
order-then low mid high [] made was next = next low was
order-then low mid high (r ∷ replies) made (one, rest) next = (one, order-then (mark_shown low r) mid high replies made rest next)

-- ---- parts

pub all-taken : (P : Numbered → Type 0) (n : ℕ) (lines : List Numbered) → All P lines → All P (take n lines)
all-taken P zero lines all = All-nil P
all-taken P (suc n) [] all = All-nil P
all-taken P (suc n) (l ∷ lines) all = All-cons P l (take n lines) (All-head P l lines all) (all-taken P n lines (All-tail P l lines all))

pub all-dropped : (P : Numbered → Type 0) (n : ℕ) (lines : List Numbered) → All P lines → All P (drop n lines)
all-dropped P zero lines all = all
all-dropped P (suc n) [] all = all
all-dropped P (suc n) (l ∷ lines) all = all-dropped P n lines (All-tail P l lines all)

-- ---- one of them

pub all-at : (P : Numbered → Type 0) (lines : List Numbered) (i : ℕ) (nothing : Numbered) → All P lines → i < length lines → P (get_or lines i nothing)
all-at P [] i nothing all lt = absurd (omega (arith, lt))
all-at P (l ∷ lines) zero nothing all lt = All-head P l lines all
all-at P (l ∷ lines) (suc i) nothing all lt = all-at P lines i nothing (All-tail P l lines all) (omega (arith, lt))

-- ---- the parts of a block

-- what each of its lanes may ask
may-a : (ls : List Numbered) → All (λ line. line.lane ≡ InA) ls → AllPass (λ line. may_ask line.lane line.line) ls → AllPass is_in_lane ls
may-a [] lanes may = All-nil (λ line. is_in_lane line ≡ true)
may-a (l ∷ ls) lanes may =
    All-cons (λ line. is_in_lane line ≡ true) l ls
    (sym (ap (λ (lane : Lane). may_ask lane l.line) (All-head (λ line. line.lane ≡ InA) l ls lanes)) ∙ All-head (λ line. may_ask line.lane line.line ≡ true) l ls may)
    (may-a ls (All-tail (λ line. line.lane ≡ InA) l ls lanes) (All-tail (λ line. may_ask line.lane line.line ≡ true) l ls may))

may-b : (ls : List Numbered) → All (λ line. line.lane ≡ InB) ls → AllPass (λ line. may_ask line.lane line.line) ls → AllPass is_in_lane ls
may-b [] lanes may = All-nil (λ line. is_in_lane line ≡ true)
may-b (l ∷ ls) lanes may =
    All-cons (λ line. is_in_lane line ≡ true) l ls
    (sym (ap (λ (lane : Lane). may_ask lane l.line) (All-head (λ line. line.lane ≡ InB) l ls lanes)) ∙ All-head (λ line. may_ask line.lane line.line ≡ true) l ls may)
    (may-b ls (All-tail (λ line. line.lane ≡ InB) l ls lanes) (All-tail (λ line. may_ask line.lane line.line ≡ true) l ls may))

-- `one` is the number of lines of lane a
module _ (lines : List Numbered) (block : IsBlock lines) (one : ℕ) (counted : one ≡ front_length (take (length lines - 1) lines)) where
  abbrev first_part : List Numbered
  first_part = take one lines

  abbrev second_part : List Numbered
  second_part = take (length lines - 1 - one) (drop one lines)

  before : length lines - 1 ≡ length block.first + length block.second
  before =
      let long : length lines ≡ length (block.first ++ (block.second ++ block.worker ∷ [])) = ap (λ (l : List Numbered). length l) block.is in
      let sum = length-append block.first (block.second ++ block.worker ∷ []) in
      let more = length-append block.second (block.worker ∷ []) in
      omega (arith, long, sum, more)

  both : take (length lines - 1) lines ≡ block.first ++ block.second
  both = ap (λ (n : ℕ). take n lines) before ∙ ap (λ (l : List Numbered). take (length block.first + length block.second) l) block.is
      ∙ take-append-add block.first (block.second ++ block.worker ∷ []) (length block.second) ∙ ap (λ (l : List Numbered). block.first ++ l) (take-append_seam block.second (block.worker ∷ []))

  one-is : one ≡ length block.first
  one-is = counted ∙ ap (λ (l : List Numbered). front_length l) both ∙ front-is block.first block.second block.first_lane block.second_lane

  first-is : first_part ≡ block.first
  first-is = ap (λ (n : ℕ). take n lines) one-is ∙ ap (λ (l : List Numbered). take (length block.first) l) block.is ∙ take-append_seam block.first (block.second ++ block.worker ∷ [])

  second-is : second_part ≡ block.second
  second-is =
      let long : length lines - 1 - one ≡ length block.second = omega (arith, before, one-is) in
      ap (λ (n : ℕ). take n (drop one lines)) long ∙ ap (λ (n : ℕ). take (length block.second) (drop n lines)) one-is
      ∙ ap (λ (l : List Numbered). take (length block.second) (drop (length block.first) l)) block.is
      ∙ ap (λ (l : List Numbered). take (length block.second) l) (drop-append_seam block.first (block.second ++ block.worker ∷ [])) ∙ take-append_seam block.second (block.worker ∷ [])

  worker-is : (past : Numbered) → get_or lines (length lines - 1) past ≡ block.worker
  worker-is past =
      ap (λ (n : ℕ). get_or lines n past) before ∙ ap (λ (l : List Numbered). get_or l (length block.first + length block.second) past) block.is
      ∙ get_or-append-add block.first (block.second ++ block.worker ∷ []) (length block.second) past ∙ get_or-append_seam block.second block.worker [] past

  -- they are the whole block
  pub parts-whole : (past : Numbered) → first_part ++ (second_part ++ get_or lines (length lines - 1) past ∷ []) ≡ lines
  parts-whole past =
      ap (λ (l : List Numbered). l ++ (second_part ++ get_or lines (length lines - 1) past ∷ [])) first-is
      ∙ ap (λ (l : List Numbered). block.first ++ (l ++ get_or lines (length lines - 1) past ∷ [])) second-is
      ∙ ap (λ (l : Numbered). block.first ++ (block.second ++ l ∷ [])) (worker-is past) ∙ sym block.is

  pub parts-order : (past : Numbered) → All (λ line. line.lane ≡ InA) first_part × All (λ line. line.lane ≡ InB) second_part × ((get_or lines (length lines - 1) past).lane ≡ InWorker)
  parts-order past = (
    subst (λ (l : List Numbered). All (λ line. line.lane ≡ InA) l) (sym first-is) block.first_lane,
    subst (λ (l : List Numbered). All (λ line. line.lane ≡ InB) l) (sym second-is) block.second_lane,
    ap (λ (l : Numbered). l.lane) (worker-is past) ∙ block.worker_lane,
  )

  pub parts-all : (P : Numbered → Type 0) → All P lines → All P first_part × All P second_part
  parts-all P all = (all-taken P one lines all, all-taken P (length lines - 1 - one) (drop one lines) (all-dropped P one lines all))

  pub parts-may : AllPass (λ line. may_ask line.lane line.line) lines → AllPass is_in_lane first_part × AllPass is_in_lane second_part
  parts-may may =
      let each = parts-all (λ line. may_ask line.lane line.line ≡ true) may in
      let order = parts-order block.worker in (
        may-a first_part order.0 each.0,
        may-b second_part order.1 each.1,
      )

-- each answer names a short entry
pub answers-named : (hs : List History) (c : Course) (lines : List Numbered) (whats : List Answered) → AreAnswersBeside hs c lines whats → All (λ what. IsNamed hs what) whats
answers-named hs c lines [] was = All-nil (λ what. IsNamed hs what)
answers-named hs c [] (w ∷ whats) was = absurd was
answers-named hs c (l ∷ lines) (w ∷ whats) (one, rest) =
    All-cons (λ what. IsNamed hs what) w whats (beside_named hs c l.lane l.line w one) (answers-named hs (course_after hs c l.lane l.line w) lines whats rest)

pub answers-short : (hs : List History) (c : Course) (lines : List Numbered) (whats : List Answered) → AllPass (λ line. is_within_limits line.line) lines → AreAnswersBeside hs c lines whats → All (λ what. IsAnswerShort 0 hs what) whats
answers-short hs c lines [] limits was = All-nil (λ what. IsAnswerShort 0 hs what)
answers-short hs c [] (w ∷ whats) limits was = absurd was
answers-short hs c (l ∷ lines) (w ∷ whats) limits (one, rest) =
    All-cons (λ what. IsAnswerShort 0 hs what) w whats (beside_short hs c l.lane l.line w (All-head (λ line. is_within_limits line.line ≡ true) l lines limits) one)
    (answers-short hs (course_after hs c l.lane l.line w) lines whats (All-tail (λ line. is_within_limits line.line ≡ true) l lines limits) rest)

-- ---- one reply more

pub made-more : (tells : Type 0) (mark : ℕ) (hs : List History) (lines : List Numbered) (whats : List Answered) (made : List LineReply) (nothing : Numbered) (done : List Answered) (what : Answered) (others : List Answered) (reply : LineReply)
    → AreMadeOf tells mark hs lines whats made → whats ≡ done ++ what ∷ others → length done ≡ length made → length made < length lines → IsMadeOf tells mark hs (get_or lines (length made) nothing) what reply
    → AreMadeOf tells mark hs lines whats (made ++ reply ∷ [])
made-more tells mark hs [] whats made nothing done what others reply was is same lt one = absurd (omega (arith, lt))
made-more tells mark hs (l ∷ lines) whats [] nothing [] what others reply was is same lt one = subst (λ (ws : List Answered). AreMadeOf tells mark hs (l ∷ lines) ws (reply ∷ [])) (sym is) (one, tt)
made-more tells mark hs (l ∷ lines) whats [] nothing (d ∷ done) what others reply was is same lt one = absurd (omega (arith, same))
made-more tells mark hs (l ∷ lines) whats (r ∷ made) nothing [] what others reply was is same lt one = absurd (omega (arith, same))
made-more tells mark hs (l ∷ lines) [] (r ∷ made) nothing (d ∷ done) what others reply was is same lt one = absurd was
made-more tells mark hs (l ∷ lines) (w ∷ whats) (r ∷ made) nothing (d ∷ done) what others reply (first, rest) is same lt one =
    (first, made-more tells mark hs lines whats made nothing done what others reply rest (ap (λ (ws : List Answered). drop 1 ws) is) (omega (arith, same)) (omega (arith, lt)) one)
