-- How long the text of an answer may be.
use Rattle.std.proofs.Common.{ℕ, ◌+◌, ◌≤◌, Option, List, [], ◌∷◌, take, refl, sym, ap, subst, arith}
use Rattle.std.proofs.lemmas.Bool.Decides.{nat_tests}
use Rattle.std.specs.Prelude.{slice_get, MatchOption, IsTrue}
use Rattle.std.specs.Option.{option_and_then}
use Rattle.script_status.specs.history_the_Entry.{Entry}
use Rattle.script_status.specs.history_the_Event.{Event}
use Rattle.script_status.specs.history_the_Event_TheVariants.{Read as IsRead, Shown}
use Rattle.script_status.specs.history_the_Request_TheVariants.{Read as AsksRead, Write as AsksWrite, Flush as AsksFlush, Fail as AsksFail, Add as AsksAdd, Visible as AsksVisible, Grow as AsksGrow, Steps as AsksSteps}
use Rattle.script_status.specs.history_Fits.{FitsStop, FitsHalt}
use Rattle.script_status.specs.history_Legal.{call_before}
use Rattle.script_status.specs.history_OneShape.{OneShapeAnswers}
use Rattle.run_line_answers.specs.array_reply_specs_Replies.{RunningAnswers, RunningFits}
use Rattle.run_line_answers.specs.run_specs_Blocks.{request_of, IsCallersReply}
use Rattle.lane_shared.specs.raid_types_the_Wish.{Wish}
use Rattle.script_status.specs.script_Script.{is_within_limits}
use Rattle.script_status.specs.script_Seeds.{seeded}
use Rattle.script_status.specs.script_the_Line.{Line}
use Rattle.script_status.specs.script_the_Lane.{Lane}
use Rattle.script_status.specs.script_the_Lane_TheVariants.{Script as InScript, A as InA, B as InB, Worker as InWorker}
use Rattle.script_status.specs.script_the_Line_TheVariants.{Create, Read, Write, Flush, Fail, Add, ArraySize, Grow, Step, Wait, Stop, Halt, Detail, Mdstat, Alerts, Examine, Assemble}
use Rattle.run_line_answers.specs.run_specs_the_Answered.{Answered}
use Rattle.run_line_answers.specs.run_specs_the_Answered_TheVariants.{Inside, Outside as IsOutside}
use Rattle.run_line_answers.specs.run_specs_Histories.{History}
use Rattle.run_line_answers.specs.run_specs_Making.{Setting}
use Rattle.run_line_answers.specs.run_specs_Replies.{Course, FitsLine, IsReplyAt, IsWaitedAt, IsRepliedAt, IsAnswer, IsWorkedAt, IsRepliedBeside, IsAnswerBeside, steps_at_once}
use Rattle.run_line_answers.specs.run_specs_Showing.{IsShown}
use Rattle.run_line_answers.specs.run_specs_the_Outside_TheVariants.{Created, Assembled, Examined, Alerts as ToldAlerts, Refused}
use Rattle.run_blocks.specs.Shown.{longest_reply, more_room, IsShort, IsAnswerShort}

short_read : (size : ℕ) (before call : List Entry) (at count : ℕ) (event : Event) → count ≤ 128 → OneShapeAnswers size before call (AsksRead at count) event → IsShort event
short_read size before call at count (IsRead a body) few is = omega (arith, few, is.1)
short_read size before call at count (Shown status) few is = absurd is
short_read size before call at count event few is = tt

short_write : (size : ℕ) (before call : List Entry) (at : ℕ) (body : List (List ℕ)) (event : Event) → RunningAnswers size before call (AsksWrite at body) event → IsShort event
short_write size before call at body (IsRead a b) is = absurd is
short_write size before call at body (Shown status) is = absurd is
short_write size before call at body event is = tt

short_flush : (size : ℕ) (before call : List Entry) (event : Event) → OneShapeAnswers size before call AsksFlush event → IsShort event
short_flush size before call (IsRead a b) is = absurd is
short_flush size before call (Shown status) is = absurd is
short_flush size before call event is = tt

short_fail : (size : ℕ) (before call : List Entry) (role : ℕ) (event : Event) → OneShapeAnswers size before call (AsksFail role) event → IsShort event
short_fail size before call role (IsRead a b) is = absurd is
short_fail size before call role (Shown status) is = absurd is
short_fail size before call role event is = tt

short_add : (size : ℕ) (before call : List Entry) (slot : ℕ) (event : Event) → OneShapeAnswers size before call (AsksAdd slot) event → IsShort event
short_add size before call slot (IsRead a b) is = absurd is
short_add size before call slot (Shown status) is = absurd is
short_add size before call slot event is = tt

short_visible : (size : ℕ) (before call : List Entry) (limit : Option ℕ) (event : Event) → RunningAnswers size before call (AsksVisible limit) event → IsShort event
short_visible size before call limit (IsRead a b) is = absurd is
short_visible size before call limit (Shown status) is = absurd is
short_visible size before call limit event is = tt

short_grow : (size : ℕ) (before call : List Entry) (wish : Wish) (event : Event) → RunningAnswers size before call (AsksGrow wish) event → IsShort event
short_grow size before call wish (IsRead a b) is = absurd is
short_grow size before call wish (Shown status) is = absurd is
short_grow size before call wish event is = tt

short_steps : (size : ℕ) (before call : List Entry) (most : ℕ) (event : Event) → RunningAnswers size before call (AsksSteps most) event → IsShort event
short_steps size before call most (IsRead a b) is = absurd is
short_steps size before call most (Shown status) is = absurd is
short_steps size before call most event is = tt

short_stop : (event : Event) → FitsStop event → IsShort event
short_stop (IsRead a b) is = absurd is
short_stop (Shown status) is = absurd is
short_stop event is = tt

short_halt : (event : Event) → FitsHalt event → IsShort event
short_halt (IsRead a b) is = absurd is
short_halt (Shown status) is = absurd is
short_halt event is = tt

short_shown : (size : ℕ) (before : List Entry) (event : Event) → IsShown size before event → IsShort event
short_shown size before (Shown status) is = (is.2, is.3)
short_shown size before event is = absurd is

few_read : (at count : ℕ) → IsTrue (is_within_limits (Read at count)) → count ≤ 128
few_read at count limits = grind (arith, nat_tests, limits)

-- an event that fits a line is short
short_line : (size : ℕ) (before : List Entry) (e : Entry) (line : Line) → IsTrue (is_within_limits line) → FitsLine size before e line → IsShort e.event
short_line size before e (Create spec) limits is = absurd is
short_line size before e (Read at count) limits is = short_read size before (call_before before e) at count e.event (few_read at count limits) is.answers
short_line size before e (Write at count seed) limits is = short_write size before (call_before before e) at (seeded seed at count) e.event is.answers
short_line size before e Flush limits is = short_flush size before (call_before before e) e.event is.answers
short_line size before e (Fail role) limits is = short_fail size before (call_before before e) role e.event is.answers
short_line size before e (Add slot) limits is = short_add size before (call_before before e) slot e.event is.answers
short_line size before e (ArraySize limit) limits is = short_visible size before (call_before before e) limit e.event is.answers
short_line size before e (Grow wish) limits is = short_grow size before (call_before before e) wish e.event is.answers
short_line size before e (Step most) limits is = short_steps size before (call_before before e) most e.event is.answers
short_line size before e Wait limits is = absurd is
short_line size before e Stop limits is = short_stop e.event is
short_line size before e Halt limits is = short_halt e.event is
short_line size before e Detail limits is = short_shown size before e.event is
short_line size before e Mdstat limits is = short_shown size before e.event is
short_line size before e Alerts limits is = absurd is
short_line size before e (Examine slot) limits is = absurd is
short_line size before e (Assemble uuid) limits is = absurd is

-- what an entry at a place tells, if any
abbrev IsShortAt : List Entry → ℕ → Type 0
IsShortAt entries place = MatchOption (slice_get entries place) ⊥ (λ e. IsShort e.event)

short_reply : (size : ℕ) (entries : List Entry) (place number : ℕ) (line : Line) → IsTrue (is_within_limits line) → IsReplyAt size entries place number line → IsShortAt entries place
short_reply size entries place number line limits was =
    subst (λ (o : Option Entry). MatchOption o ⊥ (λ e. IsShort e.event)) (sym was.there) (short_line size _ was.entry line limits was.fits)

short_waited : (size : ℕ) (entries : List Entry) (earlier : List ℕ) (place number : ℕ) → IsWaitedAt size entries earlier place number → IsShortAt entries place
short_waited size entries [] place number was = short_reply size entries place number (Step steps_at_once) refl was.0
short_waited size entries (first ∷ others) place number was = short_waited size entries others place (number + 1) (was.2)

short_replied : (size : ℕ) (entries : List Entry) (place number : ℕ) (line : Line) → IsTrue (is_within_limits line) → IsRepliedAt size entries place number line → IsShortAt entries place
short_replied size entries place number Wait limits was = short_waited size entries was.0 place number (was.1)
short_replied size entries place number line limits was = short_reply size entries place number line limits was

-- an answer to a line names a short entry
pub answer_short : (setting : Setting) (histories : List History) (course : Course) (line : Line) (end : ℕ) (what : Answered) → IsTrue (is_within_limits line) → IsAnswer setting histories course line end what
    → (room : ℕ) → longest_reply + more_room what ≤ room → IsAnswerShort room histories what
answer_short setting histories course line end (Inside epoch at) limits is room fits =
    subst (λ (o : Option Entry). MatchOption o ⊥ (λ e. IsShort e.event)) (sym (ap (λ (o : Option History). option_and_then (λ h. slice_get h.entries at) o) is.there))
    (short_replied course.size is.history.entries at (course.calls InScript) line limits is.replied)
answer_short setting histories course line end (IsOutside Created) limits is room fits = tt
answer_short setting histories course line end (IsOutside (Assembled epoch status)) limits is room fits = tt
answer_short setting histories course line end (IsOutside (Examined slot found)) limits is room fits = tt
answer_short setting histories course line end (IsOutside (ToldAlerts list)) limits is room fits = fits
answer_short setting histories course line end (IsOutside (Refused refusal)) limits is room fits = tt

-- ---- in a block

short_asked : (size : ℕ) (before : List Entry) (e : Entry) (line : Line) → IsTrue (is_within_limits line) → RunningFits size before e (request_of line) → IsShort e.event
short_asked size before e (Read at count) limits is = short_read size before (call_before before e) at count e.event (few_read at count limits) is.answers
short_asked size before e (Write at count seed) limits is = short_write size before (call_before before e) at (seeded seed at count) e.event is.answers
short_asked size before e (Fail role) limits is = short_fail size before (call_before before e) role e.event is.answers
short_asked size before e line limits is = short_flush size before (call_before before e) e.event is.answers

short_worked : (size : ℕ) (entries : List Entry) (earlier : List ℕ) (place number : ℕ) → IsWorkedAt size entries earlier place number → IsShortAt entries place
short_worked size entries [] place number (most, some, few, reply) =
    subst (λ (o : Option Entry). MatchOption o ⊥ (λ e. IsShort e.event)) (sym reply.there) (short_steps size (take place entries) (call_before (take place entries) reply.entry) most reply.entry.event reply.fits.answers)
short_worked size entries (first ∷ others) place number was = short_worked size entries others place (number + 1) was.2

short_lane : (size : ℕ) (entries : List Entry) (caller number place : ℕ) (line : Line) → IsTrue (is_within_limits line) → IsCallersReply size entries caller number place (request_of line) → IsShortAt entries place
short_lane size entries caller number place line limits reply =
    subst (λ (o : Option Entry). MatchOption o ⊥ (λ e. IsShort e.event)) (sym reply.there) (short_asked size _ reply.entry line limits reply.fits)

short_beside : (lane : Lane) (size : ℕ) (entries : List Entry) (place number : ℕ) (line : Line) → IsTrue (is_within_limits line) → IsRepliedBeside lane size entries place number line → IsShortAt entries place
short_beside InWorker size entries place number line limits was = short_worked size entries was.earlier place number was.worked
short_beside InScript size entries place number line limits was = short_lane size entries 0 number place line limits was
short_beside InA size entries place number line limits was = short_lane size entries 1 number place line limits was
short_beside InB size entries place number line limits was = short_lane size entries 2 number place line limits was

pub beside_short : (histories : List History) (course : Course) (lane : Lane) (line : Line) (what : Answered) → IsTrue (is_within_limits line) → IsAnswerBeside histories course lane line what → IsAnswerShort 0 histories what
beside_short histories course lane line (Inside epoch at) limits is =
    subst (λ (o : Option Entry). MatchOption o ⊥ (λ e. IsShort e.event)) (sym (ap (λ (o : Option History). option_and_then (λ h. slice_get h.entries at) o) is.there))
    (short_beside lane course.size is.history.entries at (course.calls lane) line limits is.replied)
beside_short histories course lane line (IsOutside Created) limits is = tt
beside_short histories course lane line (IsOutside (Assembled epoch status)) limits is = tt
beside_short histories course lane line (IsOutside (Examined slot found)) limits is = tt
beside_short histories course lane line (IsOutside (ToldAlerts list)) limits is = absurd is
beside_short histories course lane line (IsOutside (Refused refusal)) limits is = tt

-- ---- in a room

-- an answer that fits one room fits a wider one, and its own
pub short_wider : (histories : List History) (what : Answered) (room wider : ℕ) → room ≤ wider → IsAnswerShort room histories what → IsAnswerShort wider histories what
short_wider histories (Inside epoch at) room wider le is = is
short_wider histories (IsOutside Created) room wider le is = tt
short_wider histories (IsOutside (Assembled epoch status)) room wider le is = tt
short_wider histories (IsOutside (Examined slot found)) room wider le is = tt
short_wider histories (IsOutside (ToldAlerts list)) room wider le is = omega (arith, le, is)
short_wider histories (IsOutside (Refused refusal)) room wider le is = tt

pub short_itself : (histories : List History) (what : Answered) (room : ℕ) → IsAnswerShort room histories what → IsAnswerShort (longest_reply + more_room what) histories what
short_itself histories (Inside epoch at) room is = is
short_itself histories (IsOutside Created) room is = tt
short_itself histories (IsOutside (Assembled epoch status)) room is = tt
short_itself histories (IsOutside (Examined slot found)) room is = tt
short_itself histories (IsOutside (ToldAlerts list)) room is = omega arith
short_itself histories (IsOutside (Refused refusal)) room is = tt

-- the text fits the room
pub short_fits : (histories : List History) (what : Answered) (room : ℕ) → longest_reply ≤ room → IsAnswerShort room histories what → longest_reply + more_room what ≤ room
short_fits histories (Inside epoch at) room le is = omega (arith, le)
short_fits histories (IsOutside Created) room le is = omega (arith, le)
short_fits histories (IsOutside (Assembled epoch status)) room le is = omega (arith, le)
short_fits histories (IsOutside (Examined slot found)) room le is = omega (arith, le)
short_fits histories (IsOutside (ToldAlerts list)) room le is = is
short_fits histories (IsOutside (Refused refusal)) room le is = omega (arith, le)
