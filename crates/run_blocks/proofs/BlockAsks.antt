-- A block of lanes that was asked, by what its lanes and its worker were answered.
use Rattle.std.proofs.Common.{◌≡◌, ◌≢◌, inl, inr, ℕ, ◌+◌, ◌<◌, ◌≤◌, ◌==◌, ◌^◌, Bool, true, false, Option, Some, None, List, [], ◌∷◌, length, map, take, drop, slice_get, MatchOption, refl, sym, ◌∙◌, ap, subst, arith}
use Rattle.std.proofs.Math.Seq.{drop-append_seam}
use Rattle.std.proofs.lemmas.Bool.Decides.{nat_tests}
use Rattle.std.proofs.lemmas.List.{length-map}
use Rattle.std.proofs.lemmas.List.Elements.{All-nil, All-cons, All-head, All-tail, All-weaker}
use Rattle.std.specs.Prelude.{IsFalse, ⊤, nat_le, nat_lt, ◌&&◌}
use Rattle.std.specs.List.{All, AllPass}
use Rattle.lane_shared.specs.bank_the_Operation.{Operation}
use Rattle.lane_shared.specs.bank_Given.{Given}
use Rattle.script_status.specs.history_the_Entry.{Entry}
use Rattle.script_status.specs.history_the_Event.{Event}
use Rattle.script_status.specs.history_the_Event_TheVariants.{Stopped, Halted}
use Rattle.script_status.specs.history_the_Request.{Request}
use Rattle.script_status.specs.history_the_Request_TheVariants.{Read as AsksRead, Write as AsksWrite, Flush as AsksFlush, Fail as AsksFail, Add as AsksAdd, Visible as AsksVisible, Grow as AsksGrow, Steps as AsksSteps, Show as AsksShow}
use Rattle.script_status.specs.history_Flat.{next_number}
use Rattle.lane_shared.proofs.raid_types_Tabulated.{length-tabulate}
use Rattle.script_status.specs.script_the_Line.{Line}
use Rattle.script_status.specs.script_the_Numbered.{Numbered}
use Rattle.script_status.specs.script_the_Line_TheVariants.{Read, Write, Flush, Fail}
use Rattle.script_status.specs.script_Grammar.{is_span, is_for_lanes}
use Rattle.script_status.specs.script_Script.{is_within_limits}
use Rattle.script_status.specs.script_Seeds.{seed_sector}
use Rattle.lane_shared.specs.Blocks.{HasRun, HasWorkedBy}
use Rattle.lane_shared.specs.Lane.{AreOneEach, StandsIn, done_of}
use Rattle.lane_shared.specs.declared.worker.Worked.{Worked}
use Rattle.lane_shared.specs.history_caller_laws_Callers.{IsReplyTo, AreReplied, IsLastOf, AreNumbered}
use Rattle.lane_shared.specs.Serving.{sectors_of, HasMade}
use Rattle.run_line_answers.specs.array_requests_Entered.{GoesOn, HasEntered}
use Rattle.run_line_answers.specs.array_requests_Replies.{IsAskable}
use Rattle.run_line_answers.specs.array_requests_the_Reply.{Reply}
use Rattle.run_line_answers.specs.array_requests_the_Reply_TheVariants.{Done, NoMemory as Short}
use Rattle.run_line_answers.specs.array_reply_specs_Replies.{RunningFits}
use Rattle.run_line_answers.specs.array_specs_Parts.{RunningParts}
use Rattle.run_line_answers.specs.run_specs_Blocks.{is_allowed, is_in_lane, request_of, requests_in, IsCallersReply, AreCallersReplies, places_told, HasRunLane, IsOfBlock, IsBlockEntered}
use Rattle.run_line_answers.specs.run_specs_Histories.{is_end}

-- ---- what a lane asks

-- the request doesn't ask what the array tells of itself
abbrev IsPlain : Request → Type 0
IsPlain AsksShow = ⊥
IsPlain request = ⊤

plain-lane : (line : Line) → IsPlain (request_of line)
plain-lane (Read at count) = tt
plain-lane (Write at count seed) = tt
plain-lane (Fail role) = tt
plain-lane line = tt

plain-lanes : (lines : List Numbered) → All IsPlain (requests_in lines)
plain-lanes [] = All-nil IsPlain
plain-lanes (line ∷ lines) = All-cons IsPlain (request_of line.line) (requests_in lines) (plain-lane line.line) (plain-lanes lines)

plain-steps : (turns : List (ℕ × Reply)) → All IsPlain (map (λ t. AsksSteps t.0) turns)
plain-steps [] = All-nil IsPlain
plain-steps (turn ∷ turns) = All-cons IsPlain (AsksSteps turn.0) (map (λ t. AsksSteps t.0) turns) tt (plain-steps turns)

-- each can be answered
three : (a b c : Bool) → (a && b && c) ≡ true → (a ≡ true) × (b ≡ true) × (c ≡ true)
three true true true is = (refl, refl, refl)
three true true false is = absurd (cc)
three true false c is = absurd (cc)
three false b c is = absurd (cc)

spanned : (at count : ℕ) → is_span (at, count) ≡ true → (1 ≤ count) × (count ≤ 128) × (at + count < 2 ^ 63)
spanned at count is =
    let parts = three (nat_le 1 count) (nat_le count 128) (nat_lt (at + count) (2 ^ 63)) is in
    (low count parts.0, high count parts.1, under (at + count) parts.2)
  where
    low : (n : ℕ) → nat_le 1 n ≡ true → 1 ≤ n
    low n is = grind (arith, nat_tests, is)

    high : (n : ℕ) → nat_le n 128 ≡ true → n ≤ 128
    high n is = grind (arith, nat_tests, is)

    under : (n : ℕ) → nat_lt n (2 ^ 63) ≡ true → n < 2 ^ 63
    under n is = grind (arith, nat_tests, is)

askable : (line : Line) → is_within_limits line ≡ true → is_for_lanes line ≡ true → IsAskable (request_of line)
askable (Read at count) within lane = spanned at count within
askable (Write at count seed) within lane =
    let long = length-tabulate count (λ k. seed_sector seed (at + k)) in
    let is = spanned at count within in
    (omega (arith, long, is.0), omega (arith, long, is.1), omega (arith, long, is.2))
askable (Fail role) within lane = tt
askable Flush within lane = tt
askable line within lane = absurd (cc)

pub all-askable : (lines : List Numbered) → AllPass is_allowed lines → AllPass is_in_lane lines → All IsAskable (requests_in lines)
all-askable [] within lanes = All-nil IsAskable
all-askable (line ∷ lines) within lanes =
    All-cons IsAskable (request_of line.line) (requests_in lines)
    (askable line.line (All-head (λ l. is_allowed l ≡ true) line lines within) (All-head (λ l. is_in_lane l ≡ true) line lines lanes))
    (all-askable lines (All-tail (λ l. is_allowed l ≡ true) line lines within) (All-tail (λ l. is_in_lane l ≡ true) line lines lanes))

-- ---- what it was answered

fits-plain : (size : ℕ) (before : List Entry) (e : Entry) (request : Request) → IsPlain request → IsReplyTo size before e request → RunningFits size before e request
fits-plain size before e AsksShow plain fits = absurd plain
fits-plain size before e (AsksRead at count) plain fits = fits
fits-plain size before e (AsksWrite at body) plain fits = fits
fits-plain size before e AsksFlush plain fits = fits
fits-plain size before e (AsksFail role) plain fits = fits
fits-plain size before e (AsksAdd slot) plain fits = fits
fits-plain size before e (AsksVisible limit) plain fits = fits
fits-plain size before e (AsksGrow wish) plain fits = fits
fits-plain size before e (AsksSteps most) plain fits = fits

one-reply : (size : ℕ) (entries : List Entry) (caller number place : ℕ) (request : Request) (event : Event) → IsPlain request → (found : Option Entry) → slice_get entries place ≡ found
    → MatchOption found ⊥ (λ e. (e.caller ≡ caller) × (e.event ≡ event)) → MatchOption found ⊥ (λ e. IsReplyTo size (take place entries) e request)
    → MatchOption found ⊥ (λ e. IsLastOf caller number (drop (place + 1) entries) e) → (reply : IsCallersReply size entries caller number place request) × (reply.entry.event ≡ event)
one-reply size entries caller number place request event plain None is told fits last = absurd told
one-reply size entries caller number place request event plain (Some e) is told fits last = (
  record {
    entry = e;
    there = is;
    callers = last.0;
    numbered = last.1;
    last = last.2;
    fits = fits-plain size (take place entries) e request plain fits;
  },
  told.1,
)

replies : (size : ℕ) (entries : List Entry) (caller number : ℕ) (requests : List Request) (replies : List Reply) → All IsPlain requests → AreOneEach requests replies → All (StandsIn caller entries) replies
    → AreReplied size entries (done_of requests replies) → AreNumbered caller number entries (done_of requests replies) → AreCallersReplies size entries caller number requests replies
replies size entries caller number [] [] plain each told fits last = tt
replies size entries caller number [] (r ∷ rs) plain each told fits last = absurd each
replies size entries caller number (q ∷ qs) [] plain each told fits last = absurd each
replies size entries caller number (q ∷ qs) (Done place event ∷ rs) plain each told fits last = (
  one-reply size entries caller number place q event (All-head IsPlain q qs plain) (slice_get entries place) refl (All-head (StandsIn caller entries) (Done place event) rs told) fits.0 last.0,
  replies size entries caller (number + 1) qs rs (All-tail IsPlain q qs plain) each (All-tail (StandsIn caller entries) (Done place event) rs told) fits.1 last.1,
)
replies size entries caller number (q ∷ qs) (Short ∷ []) plain each told fits last = tt
replies size entries caller number (q ∷ qs) (Short ∷ r ∷ rs) plain each told fits last = absurd each

-- where they stand
abbrev place_of : Request × ℕ → ℕ
place_of request = request.1

places : (requests : List Request) (replies : List Reply) → AreOneEach requests replies → map place_of (done_of requests replies) ≡ places_told replies
places [] [] each = refl
places [] (r ∷ rs) each = absurd each
places (q ∷ qs) [] each = absurd each
places (q ∷ qs) (Done place event ∷ rs) each = ap (λ (l : List ℕ). place ∷ l) (places qs rs each)
places (q ∷ qs) (Short ∷ []) each = none qs
  where
    none : (requests : List Request) → map place_of (done_of requests []) ≡ []
    none [] = refl
    none (q ∷ qs) = refl
places (q ∷ qs) (Short ∷ r ∷ rs) each = absurd each

module _ {B : Type 0} (start now : RunningParts B) (few : length now.parts.entries ≤ 2 ^ 61) (caller : ℕ) where
  lane : (requests : List Request) (rs : List Reply) → All IsPlain requests → HasRun start now caller requests rs → HasRunLane (sectors_of start) start.parts.entries now.parts.entries caller requests rs
  lane requests rs plain ran =
      let called = ran.made few in
      record {
        replied = replies (sectors_of start) now.parts.entries caller (next_number caller start.parts.entries) requests rs plain ran.each ran.told ran.fits called.numbers;
        places = sym (places requests rs ran.each) ∙ called.places;
        calls = called.next
            ∙ ap (λ (n : ℕ). next_number caller start.parts.entries + n) (sym (length-map (done_of requests rs) place_of) ∙ ap (λ (l : List ℕ). length l) (places requests rs ran.each));
      }

  pub lane-run : (lines : List Numbered) (requests : List Request) (rs : List Reply) → requests ≡ requests_in lines → HasRun start now caller requests rs
      → HasRunLane (sectors_of start) start.parts.entries now.parts.entries caller (requests_in lines) rs
  lane-run lines requests rs same ran =
      lane (requests_in lines) rs (plain-lanes lines) (subst (λ (l : List Request). HasRun start now caller l rs) same ran)

  pub worker-run : (answers : ℕ → ℕ → ℕ → Type 0) (left : ℕ) (worked : Worked) → HasWorkedBy (HasRun start now caller) answers left worked
      → HasWorkedBy (HasRunLane (sectors_of start) start.parts.entries now.parts.entries caller) answers left worked
  worker-run answers left worked was = record {
    turns = was.turns;
    made = lane (map (λ t. AsksSteps t.0) was.turns) (map (λ t. t.1) was.turns) (plain-steps was.turns) was.made;
    asked = was.asked;
    count = was.count;
    done = was.done;
    last = was.last;
    ended = was.ended;
    at_most = was.at_most;
    few = was.few;
  }

-- ---- what it left

goes : (event : Event) → GoesOn event → is_end event ≡ false
goes Stopped is = absurd is
goes Halted is = absurd is
goes event is = refl

-- who has a pass, or nobody
of-block : (more : List Entry) → ((c : ℕ) → c ≢ 1 → c ≢ 2 → c ≢ 255 → All (λ e. e.caller ≢ c) more) → All (λ e. IsOfBlock e.caller) more
of-block [] none = All-nil (λ e. IsOfBlock e.caller)
of-block (e ∷ more) none =
    All-cons (λ e. IsOfBlock e.caller) e more (by (e.caller == 1) refl (e.caller == 2) refl (e.caller == 255) refl)
    (of-block more (λ c one two worker. All-tail (λ e. e.caller ≢ c) e more (none c one two worker)))
  where
    is-so : (c d : ℕ) → (c == d) ≡ true → c ≡ d
    is-so c d is = grind (arith, nat_tests, is)

    not-so : (c d : ℕ) → (c == d) ≡ false → c ≢ d
    not-so c d is same = absurd (let both : (c == d) ≡ true = grind (arith, nat_tests, same) in let clash : true ≡ false = sym both ∙ is in cc)

    by : (a : Bool) → (e.caller == 1) ≡ a → (b : Bool) → (e.caller == 2) ≡ b → (c : Bool) → (e.caller == 255) ≡ c → IsOfBlock e.caller
    by true is b second c third = inl (is-so e.caller 1 is)
    by false is true second c third = inr (inl (is-so e.caller 2 second))
    by false is false second true third = inr (inr (is-so e.caller 255 third))
    by false is false second false third =
        absurd (All-head (λ x. x.caller ≢ e.caller) e more (none e.caller (not-so e.caller 1 is) (not-so e.caller 2 second) (not-so e.caller 255 third)) refl)

module _ {B : Type 0} {tells : Type 0} {given : B → Given} {tape : B → List Operation} {faults : B → ℕ → ℕ} (start now : RunningParts B) (entered : HasEntered start now)
    (others : (caller : ℕ) → caller ≢ 1 → caller ≢ 2 → caller ≢ 255 → HasMade tells given tape faults start now caller []) where
  more-is : (other : HasEntered start now) → other.more ≡ entered.more
  more-is other = sym (drop-append_seam start.parts.entries other.more) ∙ ap (drop (length start.parts.entries)) (sym other.grown ∙ entered.grown) ∙ drop-append_seam start.parts.entries entered.more

  pub block-entered : IsBlockEntered start.parts.entries now.parts.entries
  block-entered = record {
    more = entered.more;
    grown = entered.grown;
    calls = entered.calls;
    callers = of-block entered.more (λ c one two worker. subst (λ (l : List Entry). All (λ e. e.caller ≢ c) l) (more-is (others c one two worker).entered) ((others c one two worker).silent refl));
    going = All-weaker (λ e. GoesOn e.event) (λ e. IsFalse (is_end e.event)) (λ e is. goes e.event is) entered.more entered.going;
  }
