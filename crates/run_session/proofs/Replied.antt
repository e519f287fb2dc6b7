-- The reply to one line.
use Rattle.std.proofs.Common.{◌≡◌, ℕ, ◌+◌, ◌*◌, ◌≤◌, Bool, List, length, refl, sym, ◌∙◌, ap, subst, arith, Result, Ok, Err}
use Rattle.std.specs.Prelude.{IfOk, IsTrue}
use Rattle.run_blocks.specs.raid_types_the_NoMemory.{NoMemory}
use Rattle.run_blocks.specs.script_the_Line.{Line}
use Rattle.run_blocks.specs.run_specs_the_Answered.{Answered}
use Rattle.run_blocks.specs.run_specs_the_State.{State}
use Rattle.run_blocks.specs.run_specs_the_State_TheVariants.{Idle, Running}
use Rattle.run_blocks.specs.run_specs_the_Answered_TheVariants.{Inside, Outside as IsOutside}
use Rattle.run_blocks.specs.run_specs_the_Outside_TheVariants.{Created, Assembled, Examined, Alerts as ToldAlerts, Refused}
use Rattle.run_blocks.specs.script_the_Line_TheVariants.{Alerts as AsksAlerts}
use Rattle.run_blocks.specs.history_monitor_the_Alert.{Alert}
use Rattle.run_blocks.specs.history_monitor_the_AlertKind.{AlertKind}
use Rattle.run_blocks.specs.history_monitor_the_Past.{Past}
use Rattle.run_blocks.specs.history_monitor_Alerts.{past_of, alerts_since}
use Rattle.run_blocks.specs.history_monitor_Told.{AreTold}
use Rattle.run_blocks.specs.run_specs_Histories.{History}
use Rattle.run_blocks.specs.run_specs_Making.{Setting}
use Rattle.run_blocks.specs.run_specs_Replies.{Course, IsAnswer, IsEnd}
use Rattle.run_blocks.specs.script_Script.{is_within_limits}
use Rattle.run_blocks.specs.script_the_Numbered.{Numbered}
use Rattle.run_blocks.specs.run_specs_the_LineReply.{LineReply}
use Rattle.run_session.specs.Sessions.{IsEndNow, IsReplied}
use Rattle.run_blocks.specs.run_specs_States.{histories_in, course_in, IsNamed, IsTurn, IsTurnOrNone}
use Rattle.run_blocks.specs.run_specs_Written.{HasWritten, IsWritten, IsWrittenBy}
use Rattle.run_blocks.specs.Shown.{longest_reply, more_room, IsAnswerShort, is_refusal}
use Rattle.run_session.specs.Alerting.{entries_in, alerts_in, AreToldNow, IsScanned}
use Rattle.run_blocks.proofs.run_specs_Growth.{answer_named}
use Rattle.run_blocks.proofs.Shortness.{answer_short}

ok-same : {a b : Answered} → let one : Result Answered NoMemory = Ok a in let other : Result Answered NoMemory = Ok b in one ≡ other → a ≡ b
ok-same {a = a} is = ap (λ (r : Result Answered NoMemory). by r) is
  where
    by : Result Answered NoMemory → Answered
    by (Ok x) = x
    by (Err fault) = a

-- the room that its text takes, where the alerts that are to be told have room
answer_room : (setting : Setting) (hs : List History) (course : Course) (line : Line) (end : ℕ) (list : List Alert) (what : Answered) (room : ℕ) → IsAnswer setting hs course line end what
    → (line ≡ AsksAlerts → IsTrue course.running → what ≡ IsOutside (ToldAlerts list)) → longest_reply + 40 * length list ≤ room → longest_reply + more_room what ≤ room
answer_room setting hs course line end list (Inside epoch at) room answer told fits = omega (arith, fits)
answer_room setting hs course line end list (IsOutside Created) room answer told fits = omega (arith, fits)
answer_room setting hs course line end list (IsOutside (Assembled epoch status)) room answer told fits = omega (arith, fits)
answer_room setting hs course line end list (IsOutside (Examined slot found)) room answer told fits = omega (arith, fits)
answer_room setting hs course line end list (IsOutside (Refused refusal)) room answer told fits = omega (arith, fits)
answer_room setting hs course line end list (IsOutside (ToldAlerts tells)) room answer told fits =
    let same : 40 * length tells ≡ 40 * length list = ap more_room (told answer.1 answer.0) in omega (arith, same, fits)

-- no other line scans
none_scanned : {B : Type 0} (answers : AlertKind → ℕ → Bool → Type 0) (old : State B) (line : Line) (before next : Past) (list : List Alert) → (line ≡ AsksAlerts → IsTrue (course_in old).running → ⊥) → AreToldNow answers old before next line list → next ≡ before
none_scanned answers (Idle bank epochs) line before next list other now = now.1
none_scanned answers (Running array epochs) AsksAlerts before next list other now = absurd (other refl refl)
none_scanned answers (Running array epochs) line before next list other now = now.1

alerts_scanned : {B : Type 0} (answers : AlertKind → ℕ → Bool → Type 0) (old : State B) (line : Line) (before next : Past) (list : List Alert) → line ≡ AsksAlerts → IsTrue (course_in old).running → AreToldNow answers old before next line list
    → AreTold answers (alerts_since before.scanned (entries_in old)) list × (next ≡ past_of (entries_in old))
alerts_scanned answers (Idle bank epochs) line before next list asked runs now = absurd (cc)
alerts_scanned answers (Running array epochs) line before next list asked runs now = subst (λ (l : Line). AreToldNow answers (Running array epochs) before next l list) asked now

answer_scanned : {B : Type 0} (answers : AlertKind → ℕ → Bool → Type 0) (setting : Setting) (old : State B) (hs : List History) (line : Line) (end : ℕ) (before next : Past) (list : List Alert) (what : Answered) → IsAnswer setting hs (course_in old) line end what
    → (line ≡ AsksAlerts → IsTrue (course_in old).running → what ≡ IsOutside (ToldAlerts list)) → AreToldNow answers old before next line list → IsScanned answers (entries_in old) before next what
answer_scanned answers setting old hs line end before next list (Inside epoch at) answer told now = none_scanned answers old line before next list (λ asked runs. let clash : Inside epoch at ≡ IsOutside (ToldAlerts list) = told asked runs in cc) now
answer_scanned answers setting old hs line end before next list (IsOutside Created) answer told now = none_scanned answers old line before next list (λ asked runs. let clash : IsOutside Created ≡ IsOutside (ToldAlerts list) = told asked runs in cc) now
answer_scanned answers setting old hs line end before next list (IsOutside (Assembled epoch status)) answer told now = none_scanned answers old line before next list (λ asked runs. let clash : IsOutside (Assembled epoch status) ≡ IsOutside (ToldAlerts list) = told asked runs in cc) now
answer_scanned answers setting old hs line end before next list (IsOutside (Examined slot found)) answer told now = none_scanned answers old line before next list (λ asked runs. let clash : IsOutside (Examined slot found) ≡ IsOutside (ToldAlerts list) = told asked runs in cc) now
answer_scanned answers setting old hs line end before next list (IsOutside (Refused refusal)) answer told now = none_scanned answers old line before next list (λ asked runs. let clash : IsOutside (Refused refusal) ≡ IsOutside (ToldAlerts list) = told asked runs in cc) now
answer_scanned answers setting old hs line end before next list (IsOutside (ToldAlerts tells)) answer told now =
    let is = alerts_scanned answers old line before next list answer.1 answer.0 now in
    let same : list ≡ tells = sym (ap alerts_in (told answer.1 answer.0)) in
    (subst (λ (l : List Alert). AreTold answers (alerts_since before.scanned (entries_in old)) l) same is.0, is.1)

-- an answer is a turn, which names its entry
module _ {B : Type 0} {what : Answered} {r : Result Answered NoMemory} (setting : Setting) (old new : State B) (line : Line) (answered : IsTurnOrNone setting old new line r) (is : r ≡ Ok what) where
  turn : IsTurn setting old new line what
  turn = subst (λ (r : Result Answered NoMemory). IsTurnOrNone setting old new line r) is answered

  pub turn_named : IsNamed (histories_in new) what
  turn_named = answer_named setting (histories_in new) (course_in old) line (length setting.tape) what turn.answer

  -- its text is short
  pub turn_short : (room : ℕ) → IsTrue (is_within_limits line) → longest_reply + more_room what ≤ room → IsAnswerShort room (histories_in new) what
  turn_short room limits fits = answer_short setting (histories_in new) (course_in old) line (length setting.tape) what limits turn.answer room fits

  -- there is room for its text, and what is scanned for it is what it tells
  pub turn_room : (list : List Alert) (room : ℕ) → (line ≡ AsksAlerts → IsTrue (course_in old).running → r ≡ Ok (IsOutside (ToldAlerts list))) → longest_reply + 40 * length list ≤ room → longest_reply + more_room what ≤ room
  turn_room list room told fits = answer_room setting (histories_in new) (course_in old) line (length setting.tape) list what room turn.answer (λ asked runs. ok-same (sym is ∙ told asked runs)) fits

  pub turn_scanned : (answers : AlertKind → ℕ → Bool → Type 0) (before next : Past) (list : List Alert) → (line ≡ AsksAlerts → IsTrue (course_in old).running → r ≡ Ok (IsOutside (ToldAlerts list))) → AreToldNow answers old before next line list → IsScanned answers (entries_in old) before next what
  turn_scanned answers before next list told now = answer_scanned answers setting old (histories_in new) line (length setting.tape) before next list what turn.answer (λ asked runs. ok-same (sym is ∙ told asked runs)) now

-- where it isn't want of memory
module _ {B : Type 0} (setting : Setting) (old new : State B) (line : Line) (list : List Alert) where
  pub turn_rooms : (r : Result Answered NoMemory) (room : ℕ) → IsTurnOrNone setting old new line r → (line ≡ AsksAlerts → IsTrue (course_in old).running → r ≡ Ok (IsOutside (ToldAlerts list))) → longest_reply + 40 * length list ≤ room
      → IfOk r (λ what. longest_reply + more_room what ≤ room)
  turn_rooms (Ok what) room answered told fits = turn_room setting old new line answered refl list room told fits
  turn_rooms (Err fault) room answered told fits = tt

  pub turns_scanned : (answers : AlertKind → ℕ → Bool → Type 0) (before next : Past) (r : Result Answered NoMemory) → IsTurnOrNone setting old new line r → (line ≡ AsksAlerts → IsTrue (course_in old).running → r ≡ Ok (IsOutside (ToldAlerts list)))
      → AreToldNow answers old before next line list → IfOk r (λ what. IsScanned answers (entries_in old) before next what)
  turns_scanned answers before next (Ok what) answered told now = turn_scanned setting old new line answered refl answers before next list told now
  turns_scanned answers before next (Err fault) answered told now = tt

-- it is shown in a reply
pub turn_replied : {B : Type 0} {what : Answered} {r : Result Answered NoMemory} (setting : Setting) (old new : State B) (numbered : Numbered) (reply : LineReply) (refused : Bool) → IsTurnOrNone setting old new numbered.line r → r ≡ Ok what → reply.what ≡ what
    → reply.line ≡ numbered.number → reply.lane ≡ numbered.lane → IsEnd (histories_in new) reply what → IsEndNow setting.tells (length setting.tape) reply what → refused ≡ is_refusal (histories_in new) numbered.line what
    → (setting.tells → IsWrittenBy setting (course_in old).running (histories_in old) (histories_in new) numbered.line r) → IsReplied setting old new numbered reply refused
turn_replied setting old new numbered reply refused answered is told line lane end now refusal written = record {
  turn = subst (λ (w : Answered). IsTurn setting old new numbered.line w) (sym told) (subst (λ (r : Result Answered NoMemory). IsTurnOrNone setting old new numbered.line r) is answered);
  line = line;
  lane = lane;
  end = subst (λ (w : Answered). IsEnd (histories_in new) reply w) (sym told) end;
  at_end = subst (λ (w : Answered). IsEndNow setting.tells (length setting.tape) reply w) (sym told) now;
  refusal = refusal ∙ ap (λ (w : Answered). is_refusal (histories_in new) numbered.line w) (sym told);
  written = λ t. subst (λ (w : Answered). IsWritten setting (histories_in old) (histories_in new) (HasWritten setting.given setting.backup numbered.line w)) (sym told)
      (subst (λ (r : Result Answered NoMemory). IsWrittenBy setting (course_in old).running (histories_in old) (histories_in new) numbered.line r) is (written t));
}
