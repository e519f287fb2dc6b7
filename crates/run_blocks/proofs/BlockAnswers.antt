-- What the answers to a block tell of where the run stands.
use Rattle.std.proofs.Common.{◌≡◌, ◌≢◌, ◌⊎◌, inl, inr, ℕ, ◌+◌, ◌^◌, ◌<◌, ◌≤◌, ◌==◌, ◌&&◌, Bool, true, false, Option, Some, None, List, [], ◌∷◌, ◌++◌, length, map, take, drop, slice_get, MatchOption, refl, sym, ◌∙◌, ap, subst, arith, append_assoc, length-append, eq-eqb, ne_eqb}
use Rattle.std.proofs.Math.Seq.{drop-append_seam}
use Rattle.std.proofs.lemmas.Bool.Decides.{nat_tests}
use Rattle.std.proofs.lemmas.List.{map-append, length-map, length-take-le, take_all}
use Rattle.std.proofs.lemmas.List.Elements.{All-nil, All-cons, All-append, All-head, All-tail, All-weaker}
use Rattle.std.proofs.lemmas.Option.{slice_get_within}
use Rattle.std.specs.Prelude.{if◌then◌else◌, nat_lt, is_some, IsNone, IsTrue, IsFalse, ⊤}
use Rattle.std.specs.Global.{Vec}
use Rattle.std.specs.List.{All}
use Rattle.std.specs.Option.{option_and_then, option_map_or}
use Rattle.run_line_answers.specs.sb_specs_Reading.{list_length}
use Rattle.script_status.specs.history_the_Entry.{Entry}
use Rattle.script_status.specs.history_the_Epoch.{Epoch}
use Rattle.script_status.specs.history_the_Event.{Event}
use Rattle.script_status.specs.history_the_Event_TheVariants.{Stepped}
use Rattle.script_status.specs.history_the_Request.{Request}
use Rattle.script_status.specs.history_the_Request_TheVariants.{Steps as AsksSteps}
use Rattle.script_status.specs.history_Flat.{next_number, number_after, length_of}
use Rattle.script_status.specs.history_Seen.{ends_call, reply_places}
use Rattle.script_status.specs.script_the_Line.{Line}
use Rattle.script_status.specs.script_the_Line_TheVariants.{Wait}
use Rattle.script_status.specs.script_the_Numbered.{Numbered}
use Rattle.script_status.specs.script_the_Lane.{Lane}
use Rattle.script_status.specs.script_the_Lane_TheVariants.{Script as InScript, A as InA, B as InB, Worker as InWorker}
use Rattle.lane_shared.specs.Blocks.{HasWorkedBy}
use Rattle.lane_shared.specs.Pace.{Paces}
use Rattle.lane_shared.specs.Worker.{left_after, AreTurns}
use Rattle.lane_shared.specs.declared.worker.Worked.{Worked}
use Rattle.lane_shared.specs.history_caller_laws_Callers.{RepliesFrom}
use Rattle.run_line_answers.specs.array_requests_the_Reply.{Reply}
use Rattle.run_line_answers.specs.array_requests_the_Reply_TheVariants.{Done, NoMemory as Short}
use Rattle.run_line_answers.specs.array_specs_Parts.{RunningParts}
use Rattle.run_line_answers.specs.run_specs_the_Answered.{Answered}
use Rattle.run_line_answers.specs.run_specs_the_Answered_TheVariants.{Inside, Outside as IsOutside}
use Rattle.run_line_answers.specs.run_specs_the_Outside_TheVariants.{Refused}
use Rattle.run_line_answers.specs.run_specs_the_State.{State}
use Rattle.run_line_answers.specs.run_specs_the_State_TheVariants.{Idle, Running}
use Rattle.lane_shared.specs.raid_types_the_Refusal_TheVariants.{NotRunning}
use Rattle.run_line_answers.specs.run_specs_Blocks.{caller_of, request_of, requests_in, IsCallersReply, AreCallersReplies, places_told, HasRunLane, IsOfBlock, IsBlockEntered}
use Rattle.run_line_answers.specs.run_specs_Caused.{Record, record_of}
use Rattle.run_line_answers.specs.run_specs_Histories.{History, histories_of, history_of, entry_at}
use Rattle.run_line_answers.specs.run_specs_Making.{Setting}
use Rattle.run_line_answers.specs.run_specs_Records.{IsLeftByBlock, IsRecordedIn}
use Rattle.run_line_answers.specs.run_specs_Replies.{Course, at_rest, calls_behind, longer_of, gone_on, course_behind, entries_to, course_after, leaves_more, leaves_more_at, most_turns, IsWorkedAt, IsWorked, IsRepliedBeside, AreCallsTold, IsAnswerBeside}
use Rattle.run_line_answers.specs.run_specs_States.{running_history, histories_in, course_with, course_in, record_in, RunsOwn, IsBlockTurn, AreAnswersBeside, course_beside, AreRecordedBeside, EndsFrom, IsStanding, HasWorkedOn, IsAmidBlock, IsAmidBehind, IsPastMemory, IsBlockAnswered}
use Rattle.run_line_answers.proofs.run_requests_Called.{calls_in}
use Rattle.run_line_answers.proofs.Turns.{get_last, grown_kept}
use Rattle.run_line_answers.proofs.run_specs_Losses.{losses-kept}
use Rattle.run_blocks.proofs.Amid.{IsLane, standing-same, amid-lane, amid-none, behind-part, behind-all, amid-worker}
use Rattle.run_blocks.specs.Answers.{insides, block_places, refusals}

-- ---- lists

snoc-length : {X : Type 0} (xs : List X) (x : X) → length (xs ++ x ∷ []) ≡ length xs + 1
snoc-length xs x = length-append xs (x ∷ [])

not-empty : {X : Type 0} (xs : List X) (x : X) → xs ++ x ∷ [] ≡ [] → ⊥
not-empty {X = X} xs x is = absurd (let long = ap (λ (l : List X). length l) is in let one = snoc-length xs x in omega (arith, long, one))

-- the last of these numbers
abbrev last_of_them : List ℕ → ℕ
last_of_them [] = 0
last_of_them (x ∷ []) = x
last_of_them (x ∷ y ∷ xs) = last_of_them (y ∷ xs)

last-snoc : (xs : List ℕ) (x : ℕ) → last_of_them (xs ++ x ∷ []) ≡ x
last-snoc [] x = refl
last-snoc (y ∷ []) x = refl
last-snoc (y ∷ z ∷ xs) x = last-snoc (z ∷ xs) x

differ : (n m : ℕ) → (n == m) ≡ false → n ≢ m
differ n m is same = absurd (let both : (n == m) ≡ true = eq-eqb n m same in let clash : true ≡ false = sym both ∙ is in cc)

-- a list is empty, or has a last element
split-last : (xs : List Entry) → (xs ≡ []) ⊎ ((front : List Entry) × (e : Entry) × (xs ≡ front ++ e ∷ []))
split-last [] = inl refl
split-last (x ∷ xs) = inr (by (split-last xs))
  where
    by : (xs ≡ []) ⊎ ((front : List Entry) × (e : Entry) × (xs ≡ front ++ e ∷ [])) → (front : List Entry) × (e : Entry) × (x ∷ xs ≡ front ++ e ∷ [])
    by (inl none) = ([], x, ap (λ (l : List Entry). x ∷ l) none)
    by (inr (front, e, is)) = (x ∷ front, e, ap (λ (l : List Entry). x ∷ l) is)

all-front : (P : ℕ → Type 0) (xs : List ℕ) (x : ℕ) → All P (xs ++ x ∷ []) → P x
all-front P [] x all = All-head P x [] all
all-front P (y ∷ xs) x all = all-front P xs x (All-tail P y (xs ++ x ∷ []) all)

-- ---- places

-- the last entry is a reply of its caller
last-place : (c place : ℕ) (xs : List Entry) (e : Entry) → e.caller ≡ c → (front : List ℕ) × (reply_places c place (xs ++ e ∷ []) ≡ front ++ (place + length xs) ∷ [])
last-place c place [] e same = ([], ap (λ (b : Bool). if b && true then place ∷ [] else []) (eq-eqb e.caller c same) ∙ ap (λ (n : ℕ). n ∷ []) (omega arith))
last-place c place (x ∷ xs) e same = by ((x.caller == c) && ends_call x (xs ++ e ∷ [])) refl (last-place c (place + 1) xs e same)
  where
    at : place + 1 + length xs ≡ place + length (x ∷ xs)
    at = omega arith

    by : (b : Bool) → ((x.caller == c) && ends_call x (xs ++ e ∷ [])) ≡ b → ((front : List ℕ) × (reply_places c (place + 1) (xs ++ e ∷ []) ≡ front ++ (place + 1 + length xs) ∷ []))
        → (front : List ℕ) × (reply_places c place (x ∷ xs ++ e ∷ []) ≡ front ++ (place + length (x ∷ xs)) ∷ [])
    by true is (front, rest) = (
      place ∷ front,
      ap (λ (b : Bool). if b then place ∷ reply_places c (place + 1) (xs ++ e ∷ []) else reply_places c (place + 1) (xs ++ e ∷ [])) is
          ∙ ap (λ (l : List ℕ). place ∷ l) (rest ∙ ap (λ (n : ℕ). front ++ n ∷ []) at),
    )
    by false is (front, rest) = (
      front,
      ap (λ (b : Bool). if b then place ∷ reply_places c (place + 1) (xs ++ e ∷ []) else reply_places c (place + 1) (xs ++ e ∷ [])) is
          ∙ rest ∙ ap (λ (n : ℕ). front ++ n ∷ []) at,
    )

-- the entry at a place was made at the mark or later
abbrev WasFrom : ℕ → List Entry → ℕ → Type 0
WasFrom mark entries place = MatchOption (slice_get entries place) ⊥ (λ e. mark ≤ e.end)

here : (xs : List Entry) (e : Entry) (more : List Entry) → slice_get (xs ++ e ∷ more) (length xs) ≡ Some e
here [] e more = refl
here (x ∷ xs) e more = here xs e more

-- so it is of each reply
ends-from : (before xs : List Entry) (c start mark : ℕ) → start ≡ length before → RepliesFrom mark xs → All (WasFrom mark (before ++ xs)) (reply_places c start xs)
ends-from before [] c start mark same from = All-nil (WasFrom mark (before ++ []))
ends-from before (e ∷ xs) c start mark same (first, from) =
    by
    (subst (λ (l : List Entry). All (WasFrom mark l) (reply_places c (start + 1) xs)) (append_assoc before (e ∷ []) xs)
    (ends-from (before ++ e ∷ []) xs c (start + 1) mark (let long = snoc-length before e in omega (arith, long, same)) from))
    (e.caller == c) (ends_call e xs) refl
  where
    there : mark ≤ e.end → WasFrom mark (before ++ e ∷ xs) start
    there le = subst (λ (n : ℕ). WasFrom mark (before ++ e ∷ xs) n) (sym same) (subst (λ (o : Option Entry). MatchOption o ⊥ (λ e. mark ≤ e.end)) (sym (here before e xs)) le)

    by : All (WasFrom mark (before ++ e ∷ xs)) (reply_places c (start + 1) xs) → (a b : Bool) → ends_call e xs ≡ b
        → All (WasFrom mark (before ++ e ∷ xs)) (if a && b then start ∷ reply_places c (start + 1) xs else reply_places c (start + 1) xs)
    by rest true true is = All-cons (WasFrom mark (before ++ e ∷ xs)) start (reply_places c (start + 1) xs) (there (first is)) rest
    by rest true false is = rest
    by rest false b is = rest

-- ---- how far replies reach

abbrev reach : ℕ → ℕ → ℕ
reach r p = if nat_lt r (p + 1) then p + 1 else r

reach-on : (r p : ℕ) → (r ≤ reach r p) × (p < reach r p) × ((n : ℕ) → r ≤ n → p < n → reach r p ≤ n)
reach-on r p = by (nat_lt r (p + 1)) refl
  where
    less : nat_lt r (p + 1) ≡ true → r < p + 1
    less is = grind (arith, nat_tests, is)

    more : nat_lt r (p + 1) ≡ false → p + 1 ≤ r
    more is = grind (arith, nat_tests, is)

    by : (b : Bool) → nat_lt r (p + 1) ≡ b → (r ≤ (if b then p + 1 else r)) × (p < (if b then p + 1 else r)) × ((n : ℕ) → r ≤ n → p < n → (if b then p + 1 else r) ≤ n)
    by true is = let lt = less is in (omega (arith, lt), omega arith, λ n a b. omega (arith, b))
    by false is = let le = more is in (omega arith, omega (arith, le), λ n a b. omega (arith, a))

-- ---- answers one after another

answers-front : (hs : List History) (c : Course) (lines more : List Numbered) (whats : List Answered) → AreAnswersBeside hs c lines whats → AreAnswersBeside hs c (lines ++ more) whats
answers-front hs c lines more [] was = tt
answers-front hs c [] more (what ∷ whats) was = absurd was
answers-front hs c (line ∷ lines) more (what ∷ whats) (one, rest) = (one, answers-front hs (course_after hs c line.lane line.line what) lines more whats rest)

answers-both : (hs : List History) (c : Course) (lines more : List Numbered) (whats others : List Answered) → length whats ≡ length lines → AreAnswersBeside hs c lines whats → AreAnswersBeside hs (course_beside hs c lines whats) more others
    → AreAnswersBeside hs c (lines ++ more) (whats ++ others)
answers-both hs c [] more [] others same was next = next
answers-both hs c (line ∷ lines) more [] others same was next = absurd (omega (arith, same))
answers-both hs c [] more (what ∷ whats) others same was next = absurd was
answers-both hs c (line ∷ lines) more (what ∷ whats) others same (one, rest) next =
    (one, answers-both hs (course_after hs c line.lane line.line what) lines more whats others (omega (arith, same)) rest next)

course-both : (hs : List History) (c : Course) (lines more : List Numbered) (whats others : List Answered) → length whats ≡ length lines
    → course_beside hs c (lines ++ more) (whats ++ others) ≡ course_beside hs (course_beside hs c lines whats) more others
course-both hs c [] more [] others same = refl
course-both hs c (line ∷ lines) more [] others same = absurd (omega (arith, same))
course-both hs c [] more (what ∷ whats) others same = absurd (omega (arith, same))
course-both hs c (line ∷ lines) more (what ∷ whats) others same = course-both hs (course_after hs c line.lane line.line what) lines more whats others (omega (arith, same))

few-told : (size : ℕ) (entries : List Entry) (caller number : ℕ) (requests : List Request) (rs : List Reply) → AreCallersReplies size entries caller number requests rs → length (places_told rs) ≤ length requests
few-told size entries caller number [] [] was = omega arith
few-told size entries caller number [] (r ∷ rs) was = absurd was
few-told size entries caller number (q ∷ qs) [] was = absurd was
few-told size entries caller number (q ∷ qs) (Done place event ∷ rs) (one, rest) = let few = few-told size entries caller (number + 1) qs rs rest in omega (arith, few)
few-told size entries caller number (q ∷ qs) (Short ∷ []) was = omega arith
few-told size entries caller number (q ∷ qs) (Short ∷ r ∷ rs) was = absurd was

-- ---- the worker

leaves-told : (place : ℕ) (event : Event) (more : ℕ) → left_after (Done place event) ≡ Some more → leaves_more event ≡ true
leaves-told place (Stepped done left None) more is = by (left == 0) refl
  where
    some : left == 0 ≡ false → nat_lt 0 left ≡ true
    some is = grind (arith, nat_tests, is)

    by : (b : Bool) → (left == 0) ≡ b → nat_lt 0 left ≡ true
    by true zero = absurd (let none : None ≡ Some more = sym (ap (λ (b : Bool). if b then None else Some left) zero) ∙ is in cc)
    by false some_left = some some_left
leaves-told place event more is = absurd (cc)

rests-told : (place : ℕ) (event : Event) → IsNone (left_after (Done place event)) → leaves_more event ≡ false
rests-told place (Stepped done left None) is = by (left == 0) refl
  where
    none : left == 0 ≡ true → nat_lt 0 left ≡ false
    none is = grind (arith, nat_tests, is)

    by : (b : Bool) → (left == 0) ≡ b → nat_lt 0 left ≡ false
    by true zero = none zero
    by false some_left = absurd (let clash : true ≡ false = sym (ap (λ (b : Bool). is_some (if b then None else Some left)) some_left) ∙ is in cc)
rests-told place event is = refl

abbrev asked : ℕ × Reply → Request
asked turn = AsksSteps turn.0

abbrev replied : ℕ × Reply → Reply
replied turn = turn.1

module _ (size : ℕ) (entries : List Entry) where
  leaves-at : {caller number place : ℕ} {request : Request} {event : Event} (reply : IsCallersReply size entries caller number place request) → reply.entry.event ≡ event → leaves_more_at entries place ≡ leaves_more event
  leaves-at reply told = ap (λ (o : Option Entry). option_map_or (λ e. leaves_more e.event) o false) reply.there ∙ ap (λ (e : Event). leaves_more e) told

  -- the worker's turns, the last of which has its reply at this place
  worked-at : (asks : ℕ → ℕ → ℕ → Type 0) (turn left number : ℕ) (before : List (ℕ × Reply)) (most at : ℕ) (event : Event)
      → AreCallersReplies size entries 255 number (map asked (before ++ (most, Done at event) ∷ [])) (map replied (before ++ (most, Done at event) ∷ [])) → AreTurns (Paces asks) turn left (before ++ (most, Done at event) ∷ [])
      → (earlier : List ℕ) × IsWorkedAt size entries earlier at number × (places_told (map replied (before ++ (most, Done at event) ∷ [])) ≡ earlier ++ at ∷ []) × (length earlier ≡ length before) × (leaves_more_at entries at ≡ leaves_more event)
  worked-at asks turn left number [] most at event ((reply, told), done) turns = ([], (most, turns.0.1, turns.0.2, reply), refl, refl, leaves-at reply told)
  worked-at asks turn left number ((m, Short) ∷ before) most at event was turns = absurd (not-empty before (most, Done at event) turns.1)
  worked-at asks turn left number ((m, Done p ev) ∷ before) most at event ((reply, told), rest) turns =
      by (left_after (Done p ev)) refl turns.1 (λ more next. worked-at asks (turn + 1) more (number + 1) before most at event rest next)
    where
      by : (o : Option ℕ) → left_after (Done p ev) ≡ o → MatchOption o (before ++ (most, Done at event) ∷ [] ≡ []) (λ more. AreTurns (Paces asks) (turn + 1) more (before ++ (most, Done at event) ∷ []))
          → ((more : ℕ) → AreTurns (Paces asks) (turn + 1) more (before ++ (most, Done at event) ∷ []) → (earlier : List ℕ) × IsWorkedAt size entries earlier at (number + 1)
          × (places_told (map replied (before ++ (most, Done at event) ∷ [])) ≡ earlier ++ at ∷ []) × (length earlier ≡ length before) × (leaves_more_at entries at ≡ leaves_more event))
          → (earlier : List ℕ) × IsWorkedAt size entries earlier at number × (places_told (map replied ((m, Done p ev) ∷ before ++ (most, Done at event) ∷ [])) ≡ earlier ++ at ∷ []) × (length earlier ≡ length ((m, Done p ev) ∷ before)) × (leaves_more_at entries at ≡ leaves_more event)
      by None is none again = absurd (not-empty before (most, Done at event) none)
      by (Some more) is going again =
          let now = again more going in
          let count = now.3 in (
            p ∷ now.0,
            ((m, turns.0.1, turns.0.2, reply), leaves-at reply told ∙ leaves-told p ev more is, now.1),
            ap (λ (l : List ℕ). p ∷ l) now.2,
            omega (arith, count),
            now.4,
          )

  -- the first of its turns, the last of which may have found no memory
  worked-some : (asks : ℕ → ℕ → ℕ → Type 0) (turn left number : ℕ) (turns : List (ℕ × Reply)) → AreCallersReplies size entries 255 number (map asked turns) (map replied turns) → AreTurns (Paces asks) turn left turns
      → (places_told (map replied turns) ≡ []) ⊎ ((earlier : List ℕ) × (at : ℕ) × IsWorkedAt size entries earlier at number × (places_told (map replied turns) ≡ earlier ++ at ∷ []))
  worked-some asks turn left number [] was turns = inl refl
  worked-some asks turn left number ((m, Short) ∷ rest) was turns = inl refl
  worked-some asks turn left number ((m, Done p ev) ∷ rest) ((reply, told), was) turns =
      by (left_after (Done p ev)) refl turns.1 (λ more going. worked-some asks (turn + 1) more (number + 1) rest was going)
    where
      by : (o : Option ℕ) → left_after (Done p ev) ≡ o → MatchOption o (rest ≡ []) (λ more. AreTurns (Paces asks) (turn + 1) more rest)
          → ((more : ℕ) → AreTurns (Paces asks) (turn + 1) more rest → (places_told (map replied rest) ≡ []) ⊎ ((earlier : List ℕ) × (at : ℕ) × IsWorkedAt size entries earlier at (number + 1) × (places_told (map replied rest) ≡ earlier ++ at ∷ [])))
          → (places_told (map replied ((m, Done p ev) ∷ rest)) ≡ []) ⊎ ((earlier : List ℕ) × (at : ℕ) × IsWorkedAt size entries earlier at number × (places_told (map replied ((m, Done p ev) ∷ rest)) ≡ earlier ++ at ∷ []))
      by None is none later = inr ([], p, (m, turns.0.1, turns.0.2, reply), ap (λ (l : List (ℕ × Reply)). p ∷ places_told (map replied l)) none)
      by (Some more) is going later = so_on (later more going)
        where
          so_on : (places_told (map replied rest) ≡ []) ⊎ ((earlier : List ℕ) × (at : ℕ) × IsWorkedAt size entries earlier at (number + 1) × (places_told (map replied rest) ≡ earlier ++ at ∷ []))
              → (places_told (map replied ((m, Done p ev) ∷ rest)) ≡ []) ⊎ ((earlier : List ℕ) × (at : ℕ) × IsWorkedAt size entries earlier at number × (places_told (map replied ((m, Done p ev) ∷ rest)) ≡ earlier ++ at ∷ []))
          so_on (inl none) = inr ([], p, (m, turns.0.1, turns.0.2, reply), ap (λ (l : List ℕ). p ∷ l) none)
          so_on (inr (earlier, at, worked, are)) = inr (p ∷ earlier, at, ((m, turns.0.1, turns.0.2, reply), leaves-at reply told ∙ leaves-told p ev more is, worked), ap (λ (l : List ℕ). p ∷ l) are)

  -- the last of them
  worked-last : (earlier : List ℕ) (at number : ℕ) → IsWorkedAt size entries earlier at number → (most : ℕ) × IsCallersReply size entries 255 (number + length earlier) at (AsksSteps most)
  worked-last [] at number (most, some, few, reply) =
      let same : number ≡ number + 0 = omega arith in
      (most, subst (λ (n : ℕ). IsCallersReply size entries 255 n at (AsksSteps most)) same reply)
  worked-last (first ∷ others) at number (one, going, rest) =
      let last = worked-last others at (number + 1) rest in
      let same : number + 1 + length others ≡ number + length (first ∷ others) = omega arith in
      (last.0, subst (λ (n : ℕ). IsCallersReply size entries 255 n at (AsksSteps last.0)) same last.1)

-- ---- the lanes

-- ---- the record of the array

-- a line of a lane leaves it as it is
lane-same : (setting : Setting) (hs : List History) (c : Course) (lane : Lane) → IsLane lane → (line : Line) (what : Answered) (old : Option Record) → IsRecordedIn setting hs c lane line what old old
lane-same setting hs c InA is line what old = refl
lane-same setting hs c InB is line what old = refl
lane-same setting hs c InScript is line what old = absurd is
lane-same setting hs c InWorker is line what old = absurd is

line-same : (setting : Setting) (hs : List History) (c : Course) (lane : Lane) → IsLane lane → (line : Numbered) → line.lane ≡ lane → (what : Answered) (old : Option Record) → IsRecordedIn setting hs c line.lane line.line what old old
line-same setting hs c lane is line same what old = subst (λ (l : Lane). IsRecordedIn setting hs c l line.line what old old) (sym same) (lane-same setting hs c lane is line.line what old)

-- so do the first of a lane's lines, and all of them before others
records-front : (setting : Setting) (hs : List History) (lane : Lane) → IsLane lane → (c : Course) (old : Option Record) (lines more : List Numbered) → All (λ line. line.lane ≡ lane) lines → (whats : List Answered) → length whats ≤ length lines
    → AreRecordedBeside setting hs c old (lines ++ more) whats old
records-front setting hs lane is c old lines more all [] few = refl
records-front setting hs lane is c old [] more all (what ∷ whats) few = absurd (omega (arith, few))
records-front setting hs lane is c old (line ∷ lines) more all (what ∷ whats) few = (
  old,
  line-same setting hs c lane is line (All-head (λ line. line.lane ≡ lane) line lines all) what old,
  records-front setting hs lane is (course_after hs c line.lane line.line what) old lines more (All-tail (λ line. line.lane ≡ lane) line lines all) whats (omega (arith, few)),
)

records-then : (setting : Setting) (hs : List History) (lane : Lane) → IsLane lane → (c : Course) (old last : Option Record) (lines more : List Numbered) → All (λ line. line.lane ≡ lane) lines → (whats others : List Answered) → length whats ≡ length lines
    → AreRecordedBeside setting hs (course_beside hs c lines whats) old more others last → AreRecordedBeside setting hs c old (lines ++ more) (whats ++ others) last
records-then setting hs lane is c old last [] more all [] others same next = next
records-then setting hs lane is c old last (line ∷ lines) more all [] others same next = absurd (omega (arith, same))
records-then setting hs lane is c old last [] more all (what ∷ whats) others same next = absurd (omega (arith, same))
records-then setting hs lane is c old last (line ∷ lines) more all (what ∷ whats) others same next = (
  old,
  line-same setting hs c lane is line (All-head (λ line. line.lane ≡ lane) line lines all) what old,
  records-then setting hs lane is (course_after hs c line.lane line.line what) old last lines more (All-tail (λ line. line.lane ≡ lane) line lines all) whats others (omega (arith, same)) next,
)

-- ---- where a lane leaves the run

-- it stands within a block of the array behind so many others, whose replies so far reach so far in these entries
record Stands (k size : ℕ) (entries : List Entry) (c : Course) (r : ℕ) : Type 0 where
  opened : c.opened ≡ k + 1
  running : IsTrue c.running
  size_is : c.size ≡ size
  within : r ≤ length entries
  block : c.block ≡ take r entries

-- a lane's lines have been answered at these places
record LaneBehind (k size : ℕ) (entries : List Entry) (lane : Lane) (c : Course) (r : ℕ) (places : List ℕ) (after : Course) : Type 0 where
  reached : ℕ
  stands : Stands k size entries after reached
  further : r ≤ reached
  covered : All (λ place. place < reached) places
  own : after.calls lane ≡ c.calls lane + length places
  others : (other : Lane) → caller_of other ≢ caller_of lane → after.calls other ≡ c.calls other

module _ {B : Type 0} (old new : RunningParts B) (epochs : Vec Epoch) where
  abbrev hs : List History
  hs = histories_in (Running new epochs)

  abbrev k : ℕ
  k = length epochs.items

  abbrev entries : List Entry
  entries = new.parts.entries

  abbrev size : ℕ
  size = list_length old.parts.members.newest

  last-there : slice_get hs k ≡ Some (running_history new.parts)
  last-there = ap (λ (n : ℕ). slice_get hs n) (sym (length-map epochs.items history_of)) ∙ get_last (histories_of epochs.items) (running_history new.parts)

  entry-is : (place : ℕ) → entry_at hs k place ≡ slice_get entries place
  entry-is place = ap (λ (o : Option History). option_and_then (λ h. slice_get h.entries place) o) last-there

  to-is : (place : ℕ) → entries_to hs k place ≡ take (place + 1) entries
  to-is place = ap (λ (o : Option History). option_map_or (λ h. take (place + 1) h.entries) o []) last-there

  -- where the run stands behind an entry that answers a line
  behind-is : (c : Course) (lane : Lane) (line : Line) (place : ℕ) (e : Entry) → slice_get entries place ≡ Some e
      → course_after hs c lane line (Inside k place) ≡ course_behind lane c (take (place + 1) entries) e
  behind-is c lane line place e there =
      ap (λ (o : Option Entry). option_map_or (course_behind lane c (entries_to hs k place)) o c) (entry-is place ∙ there)
      ∙ ap (λ (l : List Entry). course_behind lane c l e) (to-is place)

  -- the latest of two beginnings
  longer-is : (r place : ℕ) → r ≤ length entries → place < length entries → longer_of (take r entries) (take (place + 1) entries) ≡ take (reach r place) entries
  longer-is r place le lt =
      ap (λ (n : ℕ). if nat_lt n (length (take (place + 1) entries)) then take (place + 1) entries else take r entries) (length-take-le r entries le)
      ∙ ap (λ (n : ℕ). if nat_lt r n then take (place + 1) entries else take r entries) (length-take-le (place + 1) entries (omega (arith, lt)))
      ∙ by (nat_lt r (place + 1))
    where
      by : (b : Bool) → (if b then take (place + 1) entries else take r entries) ≡ take (if b then place + 1 else r) entries
      by true = refl
      by false = refl

  -- behind one reply more of a lane
  abbrev beside : Course → Entry → ℕ → Course
  beside c e place = record { opened = c.opened; running = c.running; calls = calls_behind c.calls e; size = c.size; block = longer_of c.block (take (place + 1) entries) }

  lane-is : (c : Course) (lane : Lane) (line : Line) (place : ℕ) (e : Entry) → IsLane lane → slice_get entries place ≡ Some e → course_after hs c lane line (Inside k place) ≡ beside c e place
  lane-is c lane line place e is there = behind-is c lane line place e there ∙ by lane is
    where
      by : (lane : Lane) → IsLane lane → course_behind lane c (take (place + 1) entries) e ≡ beside c e place
      by InA is = refl
      by InB is = refl
      by InScript is = absurd is
      by InWorker is = absurd is

  stands-on : (c : Course) (r place : ℕ) (e : Entry) → Stands k size entries c r → place < length entries → Stands k size entries (beside c e place) (reach r place)
  stands-on c r place e was lt = record {
    opened = was.opened;
    running = was.running;
    size_is = was.size_is;
    within = (reach-on r place).2 (length entries) was.within lt;
    block = ap (λ (l : List Entry). longer_of l (take (place + 1) entries)) was.block ∙ longer-is r place was.within lt;
  }

  -- a caller's next number behind an entry, and another's
  bumped : (n m c : ℕ) (e : Entry) → e.caller ≡ c → e.number ≡ m → number_after c n e ≡ m + 1
  bumped n m c e callers numbered = ap (λ (b : Bool). if b then e.number + 1 else n) (eq-eqb e.caller c callers) ∙ ap (λ (x : ℕ). x + 1) numbered

  unbumped : (n c d : ℕ) (e : Entry) → e.caller ≡ c → d ≢ c → number_after d n e ≡ n
  unbumped n c d e callers ne = ap (λ (b : Bool). if b then e.number + 1 else n) (ne_eqb e.caller d (λ is. ne (sym is ∙ callers)))

  lane-replied : (lane : Lane) (sectors number place : ℕ) (line : Line) → IsLane lane → IsCallersReply sectors entries (caller_of lane) number place (request_of line) → IsRepliedBeside lane sectors entries place number line
  lane-replied InA sectors number place line is reply = reply
  lane-replied InB sectors number place line is reply = reply
  lane-replied InScript sectors number place line is reply = absurd is
  lane-replied InWorker sectors number place line is reply = absurd is

  -- only behind the worker's reply is it told who has called
  abbrev CallsTold : Course → ℕ → Type 0
  CallsTold c place = AreCallsTold c.calls (longer_of c.block (take (place + 1) entries)) (slice_get entries place)

  lane-calls : (lane : Lane) (c : Course) (place : ℕ) → IsLane lane → lane ≡ InWorker → CallsTold c place
  lane-calls lane c place is worker = absurd (subst (λ (l : Lane). IsLane l) worker is)

  inside-answer : (c : Course) (r place : ℕ) (lane : Lane) (line : Line) → Stands k size entries c r → IsRepliedBeside lane size entries place (c.calls lane) line → (lane ≡ InWorker → CallsTold c place) → IsAnswerBeside hs c lane line (Inside k place)
  inside-answer c r place lane line was reply told = record {
    running = was.running;
    latest = sym was.opened;
    history = running_history new.parts;
    there = last-there;
    replied = subst (λ (n : ℕ). IsRepliedBeside lane n entries place (c.calls lane) line) (sym was.size_is) reply;
    calls = told;
  }

  lane-none : (lane : Lane) (c : Course) (r : ℕ) → Stands k size entries c r → LaneBehind k size entries lane c r [] c
  lane-none lane c r was = record {
    reached = r;
    stands = was;
    further = omega arith;
    covered = All-nil (λ place. place < r);
    own = omega arith;
    others = λ other ne. refl;
  }

  lane-behind : (lane : Lane) → IsLane lane → (lines : List Numbered) → All (λ line. line.lane ≡ lane) lines → (rs : List Reply) (c : Course) (r : ℕ) → Stands k size entries c r
      → AreCallersReplies size entries (caller_of lane) (c.calls lane) (requests_in lines) rs
      → AreAnswersBeside hs c lines (insides k (places_told rs)) × LaneBehind k size entries lane c r (places_told rs) (course_beside hs c lines (insides k (places_told rs)))
  lane-behind lane is [] all [] c r was told = (tt, lane-none lane c r was)
  lane-behind lane is [] all (x ∷ rs) c r was told = absurd told
  lane-behind lane is (line ∷ lines) all [] c r was told = absurd told
  lane-behind lane is (line ∷ lines) all (Short ∷ []) c r was told = (tt, lane-none lane c r was)
  lane-behind lane is (line ∷ lines) all (Short ∷ x ∷ rs) c r was told = absurd told
  lane-behind lane is (line ∷ lines) all (Done place event ∷ rs) c r was ((reply, event_is), told) =
      let lt = slice_get_within entries place reply.entry reply.there in
      let same = All-head (λ line. line.lane ≡ lane) line lines all in
      let next = beside c reply.entry place in
      let moved : course_after hs c line.lane line.line (Inside k place) ≡ next =
      ap (λ (l : Lane). course_after hs c l line.line (Inside k place)) same ∙ lane-is c lane line.line place reply.entry is reply.there in
      let bump : next.calls lane ≡ c.calls lane + 1 = bumped (c.calls lane) (c.calls lane) (caller_of lane) reply.entry reply.callers reply.numbered in
      let rest = lane-behind lane is lines (All-tail (λ line. line.lane ≡ lane) line lines all) rs next (reach r place) (stands-on c r place reply.entry was lt)
      (subst (λ (n : ℕ). AreCallersReplies size entries (caller_of lane) n (requests_in lines) rs) (sym bump) told) in
      let far = reach-on r place in
      let behind = rest.1 in
      let own = behind.own in
      let on = behind.further in (
        (
          subst (λ (l : Lane). IsAnswerBeside hs c l line.line (Inside k place)) (sym same) (inside-answer c r place lane line.line was (lane-replied lane size (c.calls lane) place line.line is reply) (lane-calls lane c place is)),
          subst (λ (x : Course). AreAnswersBeside hs x lines (insides k (places_told rs))) (sym moved) rest.0,
        ),
        subst (λ (x : Course). LaneBehind k size entries lane c r (place ∷ places_told rs) (course_beside hs x lines (insides k (places_told rs)))) (sym moved) record {
          reached = behind.reached;
          stands = behind.stands;
          further = omega (arith, far.0, on);
          covered = All-cons (λ place. place < behind.reached) place (places_told rs) (omega (arith, far.1, on)) behind.covered;
          own = omega (arith, own, bump);
          others = λ other ne. behind.others other ne ∙ unbumped (c.calls other) (caller_of lane) (caller_of other) reply.entry reply.callers ne;
        },
      )

  -- ---- the worker

  -- the last entry of a block is a reply, so its replies reach to the end
  module _ (entered : IsBlockEntered old.parts.entries entries) (first second : List ℕ) (earlier : List ℕ) (at reached : ℕ) (one : All (λ place. place < reached) first) (two : All (λ place. place < reached) second)
      (first_are : first ≡ reply_places 1 (length old.parts.entries) (drop (length old.parts.entries) entries)) (second_are : second ≡ reply_places 2 (length old.parts.entries) (drop (length old.parts.entries) entries))
      (worker_are : earlier ++ at ∷ [] ≡ reply_places 255 (length old.parts.entries) (drop (length old.parts.entries) entries)) where
    since : drop (length old.parts.entries) entries ≡ entered.more
    since = ap (drop (length old.parts.entries)) entered.grown ∙ drop-append_seam old.parts.entries entered.more

    whole : length entries ≤ reach reached at
    whole = by (split-last entered.more)
      where
        far : (reached ≤ reach reached at) × (at < reach reached at) × ((n : ℕ) → reached ≤ n → at < n → reach reached at ≤ n)
        far = reach-on reached at

        by : (entered.more ≡ []) ⊎ ((front : List Entry) × (e : Entry) × (entered.more ≡ front ++ e ∷ [])) → length entries ≤ reach reached at
        by (inl none) = absurd (not-empty earlier at (worker_are ∙ ap (reply_places 255 (length old.parts.entries)) (since ∙ none)))
        by (inr (front, e, is)) = of (subst (λ (l : List Entry). All (λ x. IsOfBlock x.caller) l) is entered.callers)
          where
            place : ℕ
            place = length old.parts.entries + length front

            long : length entries ≡ place + 1
            long = ap (λ (l : List Entry). length l) (entered.grown ∙ ap (λ (l : List Entry). old.parts.entries ++ l) is) ∙ length-append old.parts.entries (front ++ e ∷ []) ∙ ap (λ (n : ℕ). length old.parts.entries + n) (snoc-length front e)
                ∙ (let x : length old.parts.entries + (length front + 1) ≡ length old.parts.entries + length front + 1 = omega arith in x)

            last-of : (c : ℕ) → e.caller ≡ c → (before : List ℕ) × (reply_places c (length old.parts.entries) (drop (length old.parts.entries) entries) ≡ before ++ place ∷ [])
            last-of c same =
                let last = last-place c (length old.parts.entries) front e same in
                (last.0, ap (reply_places c (length old.parts.entries)) (since ∙ is) ∙ last.1)

            lane-covers : (c : ℕ) (places : List ℕ) → e.caller ≡ c → places ≡ reply_places c (length old.parts.entries) (drop (length old.parts.entries) entries) → All (λ place. place < reached) places → place < reached
            lane-covers c places same are all =
                let last = last-of c same in
                all-front (λ place. place < reached) last.0 place (subst (λ (l : List ℕ). All (λ place. place < reached) l) (are ∙ last.1) all)

            of : All (λ x. IsOfBlock x.caller) (front ++ e ∷ []) → length entries ≤ reach reached at
            of all = by_caller (last-entry front all)
              where
                last-entry : (xs : List Entry) → All (λ x. IsOfBlock x.caller) (xs ++ e ∷ []) → IsOfBlock e.caller
                last-entry [] all = All-head (λ x. IsOfBlock x.caller) e [] all
                last-entry (x ∷ xs) all = last-entry xs (All-tail (λ x. IsOfBlock x.caller) x (xs ++ e ∷ []) all)

                by_caller : IsOfBlock e.caller → length entries ≤ reach reached at
                by_caller (inl is_first) = let lt = lane-covers 1 first is_first first_are one in omega (arith, lt, far.0, long)
                by_caller (inr (inl is_second)) = let lt = lane-covers 2 second is_second second_are two in omega (arith, lt, far.0, long)
                by_caller (inr (inr is_worker)) =
                    let last = last-of 255 is_worker in
                    let same : at ≡ place = sym (last-snoc earlier at) ∙ ap last_of_them (worker_are ∙ last.1) ∙ last-snoc last.0 place in
                    omega (arith, same, far.1, long)

  -- ---- the whole block

  module _ (setting : Setting) (turn : IsBlockTurn setting (Running old epochs) (Running new epochs)) (left : IsLeftByBlock setting.before setting.now (record_of old) (record_of new)) (entered : IsBlockEntered old.parts.entries entries) (sized : length_of size entries ≡ list_length new.parts.members.newest)
      (later : setting.tells → RepliesFrom setting.began (drop (length old.parts.entries) entries)) (first second : List Numbered) (worker : Numbered) (first_lane : All (λ line. line.lane ≡ InA) first) (second_lane : All (λ line. line.lane ≡ InB) second) (worker_lane : worker.lane ≡ InWorker)
      (one two : List Reply) (ran_one : HasRunLane size old.parts.entries entries 1 (requests_in first) one) (ran_two : HasRunLane size old.parts.entries entries 2 (requests_in second) two)
      (asks : ℕ → ℕ → ℕ → Type 0) (steps : ℕ) (worked : Worked) (ran : HasWorkedBy (HasRunLane size old.parts.entries entries 255) (Paces asks) steps worked) where
    abbrev start : Course
    start = course_with k old

    abbrev places_one : List ℕ
    places_one = places_told one

    abbrev places_two : List ℕ
    places_two = places_told two

    few_one : length places_one ≤ length first
    few_one = let few = few-told size entries 1 (next_number 1 old.parts.entries) (requests_in first) one ran_one.replied in let same = length-map first (λ (l : Numbered). request_of l.line) in omega (arith, few, same)

    few_two : length places_two ≤ length second
    few_two = let few = few-told size entries 2 (next_number 2 old.parts.entries) (requests_in second) two ran_two.replied in let same = length-map second (λ (l : Numbered). request_of l.line) in omega (arith, few, same)

    stands : Stands k size entries start 0
    stands = record { opened = refl; running = refl; size_is = refl; within = omega arith; block = refl }

    lane_one : AreAnswersBeside hs start first (insides k places_one) × LaneBehind k size entries InA start 0 places_one (course_beside hs start first (insides k places_one))
    lane_one = lane-behind InA tt first first_lane one start 0 stands ran_one.replied

    abbrev mid : Course
    mid = course_beside hs start first (insides k places_one)

    second_calls : mid.calls InB ≡ next_number 2 old.parts.entries
    second_calls = lane_one.1.others InB (differ 2 1 refl)

    lane_two : AreAnswersBeside hs mid second (insides k places_two) × LaneBehind k size entries InB mid lane_one.1.reached places_two (course_beside hs mid second (insides k places_two))
    lane_two = lane-behind InB tt second second_lane two mid lane_one.1.reached lane_one.1.stands
        (subst (λ (n : ℕ). AreCallersReplies size entries 2 n (requests_in second) two) (sym second_calls) ran_two.replied)

    abbrev far : Course
    far = course_beside hs mid second (insides k places_two)

    told : (places : List ℕ) → length (insides k places) ≡ length places
    told places = length-map places (λ (at : ℕ). Inside k at)

    -- when the entries that they name were made
    from : (t : setting.tells) (c : ℕ) (places : List ℕ) → places ≡ reply_places c (length old.parts.entries) (drop (length old.parts.entries) entries) → All (WasFrom setting.began entries) places
    from t c places are =
        subst (λ (l : List ℕ). All (WasFrom setting.began entries) l) (sym are)
        (subst (λ (l : List Entry). All (WasFrom setting.began l) (reply_places c (length old.parts.entries) (drop (length old.parts.entries) entries))) whole_is
        (ends-from old.parts.entries (drop (length old.parts.entries) entries) c (length old.parts.entries) setting.began refl (later t)))
      where
        whole_is : old.parts.entries ++ drop (length old.parts.entries) entries ≡ entries
        whole_is = ap (λ (l : List Entry). old.parts.entries ++ l) (ap (drop (length old.parts.entries)) entered.grown ∙ drop-append_seam old.parts.entries entered.more) ∙ sym entered.grown

    ends-inside : (places : List ℕ) → All (WasFrom setting.began entries) places → All (EndsFrom setting.began hs) (insides k places)
    ends-inside [] all = All-nil (EndsFrom setting.began hs)
    ends-inside (place ∷ places) all =
        All-cons (EndsFrom setting.began hs) (Inside k place) (insides k places)
        (subst (λ (o : Option Entry). MatchOption o ⊥ (λ e. setting.began ≤ e.end)) (sym (entry-is place)) (All-head (WasFrom setting.began entries) place places all))
        (ends-inside places (All-tail (WasFrom setting.began entries) place places all))

    from_one : (t : setting.tells) → All (WasFrom setting.began entries) places_one
    from_one t = from t 1 places_one ran_one.places

    from_two : (t : setting.tells) → All (WasFrom setting.began entries) places_two
    from_two t = from t 2 places_two ran_two.places

    abbrev lines : List Numbered
    lines = first ++ (second ++ worker ∷ [])

    -- the record before the block
    abbrev was : Option Record
    was = Some (record_of old)

    -- ---- how far the block has come, whatever the worker was answered last
    worker_far : far.calls InWorker ≡ next_number 255 old.parts.entries
    worker_far = lane_two.1.others InWorker (differ 255 2 refl) ∙ lane_one.1.others InWorker (differ 255 1 refl)

    lanes_far : (lane : Lane) → caller_of lane ≢ 255 → calls_in entries lane ≡ far.calls lane
    lanes_far InScript ne = turn.course.script ∙ sym (lane_two.1.others InScript (differ 0 2 refl) ∙ lane_one.1.others InScript (differ 0 1 refl))
    lanes_far InA ne = ran_one.calls ∙ sym (lane_two.1.others InA (differ 1 2 refl) ∙ lane_one.1.own)
    lanes_far InB ne = ran_two.calls ∙ sym (lane_two.1.own ∙ ap (λ (n : ℕ). n + length places_two) second_calls)
    lanes_far InWorker ne = absurd (ne refl)

    -- behind the worker's calls
    module _ (earlier : List ℕ) (at : ℕ) (on : IsWorkedAt size entries earlier at (next_number 255 old.parts.entries)) (are : places_told (map replied ran.turns) ≡ earlier ++ at ∷ []) where
      on_last : (most : ℕ) × IsCallersReply size entries 255 (next_number 255 old.parts.entries + length earlier) at (AsksSteps most)
      on_last = worked-last size entries earlier at (next_number 255 old.parts.entries) on

      abbrev on_entry : Entry
      on_entry = on_last.1.entry

      on_calls : (lane : Lane) → calls_in entries lane ≡ calls_behind far.calls on_entry lane
      on_calls InScript = lanes_far InScript (differ 0 255 refl) ∙ sym (unbumped (far.calls InScript) 255 0 on_entry on_last.1.callers (differ 0 255 refl))
      on_calls InA = lanes_far InA (differ 1 255 refl) ∙ sym (unbumped (far.calls InA) 255 1 on_entry on_last.1.callers (differ 1 255 refl))
      on_calls InB = lanes_far InB (differ 2 255 refl) ∙ sym (unbumped (far.calls InB) 255 2 on_entry on_last.1.callers (differ 2 255 refl))
      on_calls InWorker =
          let next = ran.made.calls in
          let long = ap (λ (l : List ℕ). length l) are ∙ snoc-length earlier at in
          (let x : next_number 255 entries ≡ next_number 255 old.parts.entries + length earlier + 1 = omega (arith, next, long) in x)
          ∙ sym (bumped (far.calls InWorker) (next_number 255 old.parts.entries + length earlier) 255 on_entry on_last.1.callers on_last.1.numbered)

      worked_on : HasWorkedOn hs far (course_with k new)
      worked_on = record {
        running = lane_two.1.stands.running;
        epoch = k;
        latest = sym lane_two.1.stands.opened;
        history = running_history new.parts;
        there = last-there;
        earlier = earlier;
        place = at;
        worked = subst (λ (n : ℕ). IsWorkedAt n entries earlier at (far.calls InWorker)) (sym lane_two.1.stands.size_is) (subst (λ (n : ℕ). IsWorkedAt size entries earlier at n) (sym worker_far) on);
        stands = subst (λ (c : Course). IsStanding c (course_with k new)) (sym (behind-is far InWorker Wait at on_entry on_last.1.there))
            (record { opened = sym lane_two.1.stands.opened; running = sym lane_two.1.stands.running; calls = on_calls });
      }

    amid_far : IsStanding far (course_with k new) ⊎ HasWorkedOn hs far (course_with k new)
    amid_far = by (worked-some size entries asks 0 steps (next_number 255 old.parts.entries) ran.turns ran.made.replied ran.asked)
      where
        by : (places_told (map replied ran.turns) ≡ []) ⊎ ((earlier : List ℕ) × (at : ℕ) × IsWorkedAt size entries earlier at (next_number 255 old.parts.entries) × (places_told (map replied ran.turns) ≡ earlier ++ at ∷ []))
            → IsStanding far (course_with k new) ⊎ HasWorkedOn hs far (course_with k new)
        by (inl none) = inl record { opened = sym lane_two.1.stands.opened; running = sym lane_two.1.stands.running; calls = stood }
          where
            stood : (lane : Lane) → calls_in entries lane ≡ far.calls lane
            stood InScript = lanes_far InScript (differ 0 255 refl)
            stood InA = lanes_far InA (differ 1 255 refl)
            stood InB = lanes_far InB (differ 2 255 refl)
            stood InWorker = let next = ran.made.calls in let long = ap (λ (l : List ℕ). length l) none in let was_far = worker_far in omega (arith, next, long, was_far)
        by (inr (earlier, at, on, are)) = inr (worked_on earlier at on are)

    -- lane a has made no call but those told
    none_one : calls_in entries InA ≡ mid.calls InA
    none_one = lanes_far InA (differ 1 255 refl) ∙ lane_two.1.others InA (differ 1 2 refl)

    amid_second : IsAmidBlock hs far (worker ∷ []) (course_with k new)
    amid_second = amid-worker hs worker worker_lane far (course_with k new) amid_far

    many : length lines ≡ length first + (length second + 1)
    many = length-append first (second ++ worker ∷ []) ∙ ap (λ (n : ℕ). length first + n) (snoc-length second worker)

    -- memory was short for a line of lane a
    cut_first : length places_one < length first → IsBlockAnswered setting (Running old epochs) (Running new epochs) lines (insides k places_one)
    cut_first lt = record {
      turn = turn;
      few = let same = told places_one in omega (arith, same, many, few_one);
      answers = answers-front hs start first (second ++ worker ∷ []) (insides k places_one) lane_one.0;
      ends = λ t. ends-inside places_one (from_one t);
      course = λ all. absurd (let same = told places_one in omega (arith, same, all, many, lt));
      amid = inl (behind-part hs InA tt first (second ++ worker ∷ []) first_lane (insides k places_one) start (course_with k new) (let same = told places_one in omega (arith, same, few_one)) none_one
          (amid-lane hs InB tt second (worker ∷ []) second_lane (insides k places_two) mid (course_with k new) lane_two.0 (lanes_far InB (differ 2 255 refl)) amid_second));
      last = was;
      recorded = records-front setting hs InA tt start was first (second ++ worker ∷ []) first_lane (insides k places_one) (let same = told places_one in omega (arith, same, few_one));
      recorded_now = λ all. absurd (let same = told places_one in omega (arith, same, all, many, lt));
    }

    -- all lines of lane a were answered
    module _ (all_one : length places_one ≡ length first) where
      told_one : length (insides k places_one) ≡ length first
      told_one = told places_one ∙ all_one

      -- memory was short for a line of lane b
      cut_second : length places_two < length second → IsBlockAnswered setting (Running old epochs) (Running new epochs) lines (insides k (places_one ++ places_two))
      cut_second lt = record {
        turn = turn;
        few = let same = told (places_one ++ places_two) in let sum = length-append places_one places_two in omega (arith, same, sum, many, few_one, few_two);
        answers = subst (λ (l : List Answered). AreAnswersBeside hs start lines l) (sym (map-append (λ (at : ℕ). Inside k at) places_one places_two))
            (answers-both hs start first (second ++ worker ∷ []) (insides k places_one) (insides k places_two) told_one lane_one.0 (answers-front hs mid second (worker ∷ []) (insides k places_two) lane_two.0));
        ends = λ t. ends-inside (places_one ++ places_two) (All-append (WasFrom setting.began entries) places_one places_two (from_one t) (from_two t));
        course = λ all. absurd (let same = told (places_one ++ places_two) in let sum = length-append places_one places_two in omega (arith, same, sum, all, many, few_one, lt));
        amid = inl (subst (λ (l : List Answered). IsAmidBehind hs start lines l (course_with k new)) (sym (map-append (λ (at : ℕ). Inside k at) places_one places_two))
            (behind-all hs first (second ++ worker ∷ []) (insides k places_one) (insides k places_two) start (course_with k new) told_one
            (behind-part hs InB tt second (worker ∷ []) second_lane (insides k places_two) mid (course_with k new) (let same = told places_two in omega (arith, same, few_two)) (lanes_far InB (differ 2 255 refl)) amid_second)));
        last = was;
        recorded = subst (λ (l : List Answered). AreRecordedBeside setting hs start was lines l was) (sym (map-append (λ (at : ℕ). Inside k at) places_one places_two))
            (records-then setting hs InA tt start was was first (second ++ worker ∷ []) first_lane (insides k places_one) (insides k places_two) told_one
            (records-front setting hs InB tt mid was second (worker ∷ []) second_lane (insides k places_two) (let same = told places_two in omega (arith, same, few_two))));
        recorded_now = λ all. absurd (let same = told (places_one ++ places_two) in let sum = length-append places_one places_two in omega (arith, same, sum, all, many, few_one, lt));
      }

      -- all lines of lane b too
      module _ (all_two : length places_two ≡ length second) where
        told_two : length (insides k places_two) ≡ length second
        told_two = told places_two ∙ all_two

        both : (rest : List ℕ) → insides k (places_one ++ places_two ++ rest) ≡ insides k places_one ++ (insides k places_two ++ insides k rest)
        both rest = ap (λ (l : List ℕ). insides k l) (append_assoc places_one places_two rest) ∙ map-append (λ (at : ℕ). Inside k at) places_one (places_two ++ rest) ∙ ap (λ (l : List Answered). insides k places_one ++ l) (map-append (λ (at : ℕ). Inside k at) places_two rest)

        sum : (rest : List ℕ) → length (places_one ++ places_two ++ rest) ≡ length first + (length second + length rest)
        sum rest = ap (λ (l : List ℕ). length l) (append_assoc places_one places_two rest) ∙ length-append places_one (places_two ++ rest)
            ∙ (let x = length-append places_two rest in let y : length places_one + length (places_two ++ rest) ≡ length first + (length second + length rest) = omega (arith, x, all_one, all_two) in y)

        -- the lanes leave the record to the worker
        by_lanes : (rest : List ℕ) (now : Option Record) → AreRecordedBeside setting hs far was (worker ∷ []) (insides k rest) now → AreRecordedBeside setting hs start was lines (insides k (places_one ++ places_two ++ rest)) now
        by_lanes rest now records = subst (λ (l : List Answered). AreRecordedBeside setting hs start was lines l now) (sym (both rest))
            (records-then setting hs InA tt start was now first (second ++ worker ∷ []) first_lane (insides k places_one) (insides k places_two ++ insides k rest) told_one
            (records-then setting hs InB tt mid was now second (worker ∷ []) second_lane (insides k places_two) (insides k rest) told_two records))

        -- memory was short for the worker
        cut_worker : IsBlockAnswered setting (Running old epochs) (Running new epochs) lines (insides k (places_one ++ places_two ++ []))
        cut_worker = record {
          turn = turn;
          few = let same = told (places_one ++ places_two ++ []) in let long = sum [] in omega (arith, same, long, many);
          answers = subst (λ (l : List Answered). AreAnswersBeside hs start lines l) (sym (both []))
              (answers-both hs start first (second ++ worker ∷ []) (insides k places_one) (insides k places_two ++ []) told_one lane_one.0
              (answers-both hs mid second (worker ∷ []) (insides k places_two) [] told_two lane_two.0 tt));
          ends = λ t. ends-inside (places_one ++ places_two ++ []) (subst (λ (l : List ℕ). All (WasFrom setting.began entries) l) (sym (append_assoc places_one places_two [])) (All-append (WasFrom setting.began entries) places_one (places_two ++ []) (from_one t)
              (All-append (WasFrom setting.began entries) places_two [] (from_two t) (All-nil (WasFrom setting.began entries)))));
          course = λ all. absurd (let same = told (places_one ++ places_two ++ []) in let long = sum [] in omega (arith, same, long, all, many));
          amid = inl (subst (λ (l : List Answered). IsAmidBehind hs start lines l (course_with k new)) (sym (both []))
              (behind-all hs first (second ++ worker ∷ []) (insides k places_one) (insides k places_two ++ []) start (course_with k new) told_one
              (behind-all hs second (worker ∷ []) (insides k places_two) [] mid (course_with k new) told_two amid_second)));
          last = was;
          recorded = by_lanes [] was refl;
          recorded_now = λ all. absurd (let same = told (places_one ++ places_two ++ []) in let long = sum [] in omega (arith, same, long, all, many));
        }

        -- all were answered
        module _ (at : ℕ) (event : Event) (last : worked.last ≡ Done at event) where
          turns_are : ran.turns ≡ ran.last.0 ++ (ran.last.1, Done at event) ∷ []
          turns_are = ran.last.2 ∙ ap (λ (r : Reply). ran.last.0 ++ (ran.last.1, r) ∷ []) last

          worker_ran : HasRunLane size old.parts.entries entries 255 (map asked (ran.last.0 ++ (ran.last.1, Done at event) ∷ [])) (map replied (ran.last.0 ++ (ran.last.1, Done at event) ∷ []))
          worker_ran = subst (λ (l : List (ℕ × Reply)). HasRunLane size old.parts.entries entries 255 (map asked l) (map replied l)) turns_are ran.made

          facts : (earlier : List ℕ) × IsWorkedAt size entries earlier at (next_number 255 old.parts.entries)
              × (places_told (map replied (ran.last.0 ++ (ran.last.1, Done at event) ∷ [])) ≡ earlier ++ at ∷ []) × (length earlier ≡ length ran.last.0) × (leaves_more_at entries at ≡ leaves_more event)
          facts = worked-at size entries asks 0 steps (next_number 255 old.parts.entries) ran.last.0 ran.last.1 at event worker_ran.replied
              (subst (λ (l : List (ℕ × Reply)). AreTurns (Paces asks) 0 steps l) turns_are ran.asked)

          abbrev earlier : List ℕ
          earlier = facts.0

          worker_are : earlier ++ at ∷ [] ≡ reply_places 255 (length old.parts.entries) (drop (length old.parts.entries) entries)
          worker_are = sym facts.2 ∙ worker_ran.places

          ended : IsFalse (leaves_more_at entries at) ⊎ (length earlier + 1 ≡ most_turns)
          ended = by ran.ended
            where
              by : IsNone (left_after worked.last) ⊎ (worked.turns ≡ most_turns) → IsFalse (leaves_more_at entries at) ⊎ (length earlier + 1 ≡ most_turns)
              by (inl none) = inl (facts.4 ∙ rests-told at event (subst (λ (r : Reply). IsNone (left_after r)) last none))
              by (inr full) =
                  let count = ran.count in
                  let long = ap (λ (l : List (ℕ × Reply)). length l) turns_are ∙ snoc-length ran.last.0 (ran.last.1, Done at event) in
                  let same = facts.3 in
                  inr (omega (arith, full, count, long, same))

          worker_calls : far.calls InWorker ≡ next_number 255 old.parts.entries
          worker_calls = lane_two.1.others InWorker (differ 255 2 refl) ∙ lane_one.1.others InWorker (differ 255 1 refl)

          reply : (most : ℕ) × IsCallersReply size entries 255 (next_number 255 old.parts.entries + length earlier) at (AsksSteps most)
          reply = worked-last size entries earlier at (next_number 255 old.parts.entries) facts.1

          abbrev e : Entry
          e = reply.1.entry

          covered_one : All (λ place. place < lane_two.1.reached) places_one
          covered_one = All-weaker (λ place. place < lane_one.1.reached) (λ place. place < lane_two.1.reached) (λ place lt. let on = lane_two.1.further in omega (arith, lt, on)) places_one lane_one.1.covered

          block_is : longer_of far.block (take (at + 1) entries) ≡ entries
          block_is =
              let within = slice_get_within entries at e reply.1.there in
              ap (λ (l : List Entry). longer_of l (take (at + 1) entries)) lane_two.1.stands.block ∙ longer-is lane_two.1.reached at lane_two.1.stands.within within
              ∙ take_all (reach lane_two.1.reached at) entries (whole entered places_one places_two earlier at lane_two.1.reached covered_one lane_two.1.covered ran_one.places ran_two.places worker_are)

          worker_record : IsRecordedIn setting hs far worker.lane worker.line (Inside k at) was (Some (record_of new))
          worker_record = subst (λ (l : Lane). IsRecordedIn setting hs far l worker.line (Inside k at) was (Some (record_of new))) (sym worker_lane)
              (left, sym (ap (λ (l : List Entry). longer_of far.block l) (to-is at) ∙ block_is))

          calls_are : calls_behind far.calls e ≡ calls_in entries
          calls_are = λ i lane. by lane i
            where
              by : (lane : Lane) → calls_behind far.calls e lane ≡ calls_in entries lane
              by InScript = unbumped (far.calls InScript) 255 0 e reply.1.callers (differ 0 255 refl)
                  ∙ lane_two.1.others InScript (differ 0 2 refl) ∙ lane_one.1.others InScript (differ 0 1 refl) ∙ sym turn.course.script
              by InA = unbumped (far.calls InA) 255 1 e reply.1.callers (differ 1 255 refl) ∙ lane_two.1.others InA (differ 1 2 refl) ∙ lane_one.1.own ∙ sym ran_one.calls
              by InB = unbumped (far.calls InB) 255 2 e reply.1.callers (differ 2 255 refl) ∙ lane_two.1.own ∙ ap (λ (n : ℕ). n + length places_two) second_calls ∙ sym ran_two.calls
              by InWorker =
                  let next = worker_ran.calls in
                  let long = ap (λ (l : List ℕ). length l) facts.2 ∙ snoc-length earlier at in
                  bumped (far.calls InWorker) (next_number 255 old.parts.entries + length earlier) 255 e reply.1.callers reply.1.numbered
                  ∙ (let x : next_number 255 old.parts.entries + length earlier + 1 ≡ next_number 255 entries = omega (arith, next, long) in x)

          -- nobody but the lanes and the worker has called
          calls_told : CallsTold far at
          calls_told = subst (λ (o : Option Entry). AreCallsTold far.calls (longer_of far.block (take (at + 1) entries)) o) (sym reply.1.there)
              (subst (λ (l : List Entry). AreCallsTold far.calls l (Some e)) (sym block_is) (λ lane. sym (ap (λ (f : Lane → ℕ). f lane) calls_are)))

          worker_answer : IsAnswerBeside hs far worker.lane worker.line (Inside k at)
          worker_answer = subst (λ (l : Lane). IsAnswerBeside hs far l worker.line (Inside k at)) (sym worker_lane)
              (inside-answer far lane_two.1.reached at InWorker worker.line lane_two.1.stands
              (subst (λ (n : ℕ). IsWorked size entries at n) (sym worker_calls) record { earlier = earlier; worked = facts.1; ended = ended }) (λ worker. calls_told))

          abbrev standing : ℕ → Course
          standing n = record { opened = k + 1; running = true; calls = calls_in entries; size = n; block = [] }

          course_is : course_with k new ≡ course_after hs far worker.lane worker.line (Inside k at)
          course_is =
              let stood : Stands k size entries far lane_two.1.reached = lane_two.1.stands in
              let parts : gone_on (calls_behind far.calls e) (length_of far.size (longer_of far.block (take (at + 1) entries))) far ≡ standing (length_of size entries) =
              λ i. record { opened = stood.opened i; running = stood.running i; calls = calls_are i; size = length_of (stood.size_is i) (block_is i); block = [] } in
              let whole : standing (length_of size entries) ≡ course_with k new = ap standing sized in
              sym (ap (λ (l : Lane). course_after hs far l worker.line (Inside k at)) worker_lane ∙ behind-is far InWorker worker.line at e reply.1.there ∙ parts ∙ whole)

          answered : IsBlockAnswered setting (Running old epochs) (Running new epochs) lines (insides k (places_one ++ places_two ++ at ∷ []))
          answered = record {
            turn = turn;
            few = let same = told (places_one ++ places_two ++ at ∷ []) in let long = sum (at ∷ []) in omega (arith, same, long, many);
            answers = subst (λ (l : List Answered). AreAnswersBeside hs start lines l) (sym (both (at ∷ [])))
                (answers-both hs start first (second ++ worker ∷ []) (insides k places_one) (insides k places_two ++ Inside k at ∷ []) told_one lane_one.0
                (answers-both hs mid second (worker ∷ []) (insides k places_two) (Inside k at ∷ []) told_two lane_two.0 (worker_answer, tt)));
            ends = λ t. ends-inside (places_one ++ places_two ++ at ∷ []) (subst (λ (l : List ℕ). All (WasFrom setting.began entries) l) (sym (append_assoc places_one places_two (at ∷ []))) (All-append (WasFrom setting.began entries) places_one (places_two ++ at ∷ []) (from_one t)
                (All-append (WasFrom setting.began entries) places_two (at ∷ []) (from_two t)
                (All-cons (WasFrom setting.began entries) at [] (all-front (WasFrom setting.began entries) earlier at (from t 255 (earlier ++ at ∷ []) worker_are)) (All-nil (WasFrom setting.began entries))))));
            course = λ all. course_is
                ∙ sym (ap (λ (l : List Answered). course_beside hs start lines l) (both (at ∷ []))
                ∙ course-both hs start first (second ++ worker ∷ []) (insides k places_one) (insides k places_two ++ Inside k at ∷ []) told_one
                ∙ course-both hs mid second (worker ∷ []) (insides k places_two) (Inside k at ∷ []) told_two);
            amid = inl (subst (λ (l : List Answered). IsAmidBehind hs start lines l (course_with k new)) (sym (both (at ∷ [])))
                (behind-all hs first (second ++ worker ∷ []) (insides k places_one) (insides k places_two ++ Inside k at ∷ []) start (course_with k new) told_one
                (behind-all hs second (worker ∷ []) (insides k places_two) (Inside k at ∷ []) mid (course_with k new) told_two
                (standing-same (course_after hs far worker.lane worker.line (Inside k at)) (course_with k new) course_is))));
            last = Some (record_of new);
            recorded = by_lanes (at ∷ []) (Some (record_of new)) (Some (record_of new), worker_record, refl);
            recorded_now = λ all. refl;
          }

        worker-done : (r : Reply) → worked.last ≡ r → IsBlockAnswered setting (Running old epochs) (Running new epochs) lines (insides k (places_one ++ places_two ++ places_told (r ∷ [])))
        worker-done (Done at event) last = answered at event last
        worker-done Short last = cut_worker

    pub block-answered : IsBlockAnswered setting (Running old epochs) (Running new epochs) lines (insides k (block_places (length first) (length second) one two worked.last))
    block-answered = by (nat_lt (length places_one) (length first)) refl (nat_lt (length places_two) (length second)) refl
      where
        under : (n m : ℕ) → nat_lt n m ≡ true → n < m
        under n m is = grind (arith, nat_tests, is)

        full : (n m : ℕ) → n ≤ m → nat_lt n m ≡ false → n ≡ m
        full n m le is = let ge = at_least n m is in omega (arith, le, ge)
          where
            at_least : (n m : ℕ) → nat_lt n m ≡ false → m ≤ n
            at_least n m is = grind (arith, nat_tests, is)

        by : (a : Bool) → nat_lt (length places_one) (length first) ≡ a → (b : Bool) → nat_lt (length places_two) (length second) ≡ b → IsBlockAnswered setting (Running old epochs) (Running new epochs) lines (insides k (if a then places_one else if b then places_one ++ places_two else places_one ++ places_two ++ places_told (worked.last ∷ [])))
        by true is b second_is = cut_first (under (length places_one) (length first) is)
        by false is true second_is = cut_second (full (length places_one) (length first) few_one is) (under (length places_two) (length second) second_is)
        by false is false second_is =
            worker-done (full (length places_one) (length first) few_one is) (full (length places_two) (length second) few_two second_is) worked.last refl

-- by the number of the epoch
pub told-at : (places : List ℕ) {whats : List Answered} {n m : ℕ} → whats ≡ insides n places → n ≡ m → whats ≡ insides m places
told-at places is same = is ∙ ap (λ (n : ℕ). insides n places) same

-- ---- memory was short before the block, or no array runs

pub block-unanswered : {B : Type 0} (setting : Setting) (old new : State B) (lines : List Numbered) → IsBlockTurn setting old new → 1 ≤ length lines → IsAmidBlock (histories_in new) (course_in old) lines (course_in new) ⊎ IsPastMemory (histories_in new)
    → IsBlockAnswered setting old new lines []
block-unanswered setting old new lines turn some amid = record {
  turn = turn;
  few = omega arith;
  answers = tt;
  ends = λ t. All-nil (EndsFrom setting.began (histories_in new));
  course = λ none. absurd (omega (arith, some, none));
  amid = amid;
  last = record_in old;
  recorded = refl;
  recorded_now = λ none. absurd (omega (arith, some, none));
}

-- memory was short for all of the replies: the array is as it was, or has entered more than any memory holds
pub block-short : {B : Type 0} (old new : RunningParts B) (epochs : Vec Epoch) (first second : List Numbered) (worker : Numbered) → All (λ line. line.lane ≡ InA) first → All (λ line. line.lane ≡ InB) second → worker.lane ≡ InWorker
    → (new ≡ old) ⊎ (2 ^ 61 < length new.parts.entries)
    → IsAmidBlock (histories_in (Running new epochs)) (course_with (length epochs.items) old) (first ++ (second ++ worker ∷ [])) (course_with (length epochs.items) new) ⊎ IsPastMemory (histories_in (Running new epochs))
block-short {B = B} old new epochs first second worker first_lane second_lane worker_lane (inl same) =
    inl (amid-none (histories_in (Running new epochs)) first second worker first_lane second_lane worker_lane (course_with (length epochs.items) old) (course_with (length epochs.items) new)
    (ap (λ (a : RunningParts B). course_with (length epochs.items) a) same))
block-short old new epochs first second worker first_lane second_lane worker_lane (inr long) =
    inr (length epochs.items, running_history new.parts, last-there old new epochs, long)

pub block-still : {B : Type 0} (setting : Setting) (state : State B) → RunsOwn state → IsBlockTurn setting state state
block-still setting state own = record {
  own = own;
  losses = losses-kept setting (histories_in state);
  grown = grown_kept (histories_in state);
  course = record { opened = refl; running = refl; script = refl };
  left = inl refl;
}

pub some-lines : (first second : List Numbered) (worker : Numbered) → 1 ≤ length (first ++ (second ++ worker ∷ []))
some-lines first second worker =
    let sum = length-append first (second ++ worker ∷ []) in
    let more = snoc-length second worker in
    omega (arith, sum, more)

-- each line is refused, and the run stands where it stood
refused-answers : (hs : List History) (c : Course) → IsFalse c.running → (lines : List Numbered) → AreAnswersBeside hs c lines (refusals lines)
refused-answers histories c idle [] = tt
refused-answers histories c idle (line ∷ lines) = ((idle, refl), refused-answers histories c idle lines)

refused-course : (hs : List History) (c : Course) (lines : List Numbered) → course_beside hs c lines (refusals lines) ≡ c
refused-course histories c [] = refl
refused-course histories c (line ∷ lines) = refused-course histories c lines

refused-amid : (hs : List History) (c : Course) (lines : List Numbered) → IsAmidBehind hs c lines (refusals lines) c
refused-amid histories c [] = standing-same c c refl
refused-amid histories c (line ∷ lines) = refused-amid histories c lines

-- and there is no array before and behind
refused-none : (setting : Setting) (hs : List History) (c : Course) (lane : Lane) (line : Line) → IsRecordedIn setting hs c lane line (IsOutside (Refused NotRunning)) None None
refused-none setting histories c InScript line = refl
refused-none setting histories c InA line = refl
refused-none setting histories c InB line = refl
refused-none setting histories c InWorker line = (refl, refl)

refused-records : (setting : Setting) (hs : List History) (c : Course) (lines : List Numbered) → AreRecordedBeside setting hs c None lines (refusals lines) None
refused-records setting histories c [] = refl
refused-records setting histories c (line ∷ lines) = (None, refused-none setting histories c line.lane line.line, refused-records setting histories c lines)

refused-ends : (low : ℕ) (hs : List History) (lines : List Numbered) → All (EndsFrom low hs) (refusals lines)
refused-ends low histories [] = All-nil (EndsFrom low histories)
refused-ends low histories (line ∷ lines) = All-cons (EndsFrom low histories) (IsOutside (Refused NotRunning)) (refusals lines) tt (refused-ends low histories lines)

pub block-idle : {B : Type 0} (setting : Setting) (bank : B) (epochs : Vec Epoch) (lines : List Numbered) (whats : List Answered) → RunsOwn (Idle bank epochs) → whats ≡ refusals lines
    → IsBlockAnswered setting (Idle bank epochs) (Idle bank epochs) lines whats
block-idle setting bank epochs lines whats own is = subst (λ (l : List Answered). IsBlockAnswered setting (Idle bank epochs) (Idle bank epochs) lines l) (sym is) record {
  turn = block-still setting (Idle bank epochs) own;
  few = let long = length-map lines (λ (line : Numbered). IsOutside (Refused NotRunning)) in omega (arith, long);
  answers = refused-answers (histories_of epochs.items) (at_rest (length epochs.items)) refl lines;
  ends = λ t. refused-ends setting.began (histories_of epochs.items) lines;
  course = λ all. sym (refused-course (histories_of epochs.items) (at_rest (length epochs.items)) lines);
  amid = inl (refused-amid (histories_of epochs.items) (at_rest (length epochs.items)) lines);
  last = None;
  recorded = refused-records setting (histories_of epochs.items) (at_rest (length epochs.items)) lines;
  recorded_now = λ all. refl;
}

pub refusals-all : (first second : List Numbered) (worker : Numbered) {none one two whats : List Answered} → none ≡ [] → one ≡ none ++ refusals first → two ≡ one ++ refusals second → whats ≡ two ++ refusals (worker ∷ [])
    → whats ≡ refusals (first ++ (second ++ worker ∷ []))
refusals-all first second worker none_is one_is two_is is =
    let what : Numbered → Answered = λ line. IsOutside (Refused NotRunning) in
    is ∙ ap (λ (l : List Answered). l ++ refusals (worker ∷ [])) (two_is ∙ ap (λ (l : List Answered). l ++ refusals second) (one_is ∙ ap (λ (l : List Answered). l ++ refusals first) none_is))
    ∙ append_assoc (refusals first) (refusals second) (refusals (worker ∷ []))
    ∙ sym (map-append what first (second ++ worker ∷ []) ∙ ap (λ (l : List Answered). refusals first ++ l) (map-append what second (worker ∷ [])))
