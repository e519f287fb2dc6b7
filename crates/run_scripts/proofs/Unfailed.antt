-- Runs in which nothing failed.
use Rattle.std.proofs.Common.{◌≡◌, ◌≢◌, ℕ, zero, suc, ◌≤◌, ◌<◌, true, false, Bool, ◌||◌, List, [], ◌∷◌, ◌++◌, Option, None, Some, IfSome, IsOk, Result, Ok, Err, inl, inr, ◌⊎◌, sym, ◌∙◌, ap, subst, refl, length, take, arith}
use Rattle.std.specs.List.{All, list_any}
use Rattle.std.specs.Option.{option_map_or}
use Rattle.std.proofs.lemmas.Bool.{cases_lt}
use Rattle.std.proofs.lemmas.List.{append_cancel_right}
use Rattle.std.proofs.lemmas.List.Elements.{All-nil}
use Rattle.run_session.specs.history_monitor_the_AlertKind.{AlertKind}
use Rattle.script_demo.specs.script_Script.{script_with}
use Rattle.script_demo.specs.script_the_Line.{Line}
use Rattle.script_demo.specs.script_the_Line_TheVariants.{Wait}
use Rattle.script_demo.specs.script_the_Numbered.{Numbered}
use Rattle.history_reopen_laws.specs.raid_types_the_Refusal_TheVariants.{Nothing}
use Rattle.history_reopen_laws.specs.history_the_Entry.{Entry}
use Rattle.history_reopen_laws.specs.history_the_Epoch.{Epoch}
use Rattle.history_reopen_laws.specs.history_the_Event.{Event}
use Rattle.history_reopen_laws.specs.history_the_Event_TheVariants.{Stepped, Refused}
use Rattle.run_session.specs.run_specs_the_LineReply.{LineReply}
use Rattle.run_session.specs.run_specs_Ended.{AreLegal}
use Rattle.run_session.specs.run_specs_Histories.{History, histories_of, entry_at}
use Rattle.run_session.specs.run_specs_Making.{Setting}
use Rattle.run_session.specs.run_specs_Replies.{at_rest}
use Rattle.run_session.specs.run_blocks_Shown.{tells_refusal, is_refusal, has_refusal}
use Rattle.run_session.specs.run_specs_the_Answered.{Answered}
use Rattle.run_session.specs.run_specs_the_Answered_TheVariants.{Inside, Outside as IsOutside}
use Rattle.run_session.specs.run_specs_the_Outside_TheVariants.{Refused as WasRefused}
use Rattle.array_whole_laws.specs.history_whole_laws_Unfailed.{TellsNoFailure}
use Rattle.run_scripts.specs.Done.{NoneFailed, AreUnfailed, IsAnswerUnfailed, IsWholeEpoch}
use Rattle.run_scripts.proofs.Done.{replies-unfailed, epochs-whole}
use Rattle.run_scripts.specs.Complete.{IsComplete, is_refused, is_refused_answer}
use Rattle.run_scripts.specs.Runs.{AreLossesFailed, IsAfterLines, IsBeforeLines, IsNothing, IsScriptBad, IsScriptPerformed, Sunk}
use Rattle.run_scripts.specs.Source.{longest_text, IsTextFor}

-- a run that performed nothing has no entries
pub none-unfailed : (epochs : List Epoch) → epochs ≡ [] → AreUnfailed epochs
none-unfailed epochs none = subst (λ (es : List Epoch). AreUnfailed es) (sym none) (All-nil (λ epoch. All (λ e. TellsNoFailure e.event) epoch.entries.items))

-- the text that a source which tells was read for is one
same-text : {tells : Type 0} (demo : Option ℕ) (old new one two : List ℕ) → tells → IsTextFor demo tells old new one → IsTextFor demo tells old new two → one ≡ two
same-text None old new one two told first second = append_cancel_right one two new (sym (first.moved told) ∙ second.moved told)
same-text (Some size) old new one two told first second = first ∙ sym second

-- a good script has no bad line
pub no-bad-line : {tells : Type 0} (demo : Option ℕ) (old new text : List ℕ) (line : ℕ) → tells → IsTextFor demo tells old new text → IsOk (script_with true text) → IsScriptBad demo tells old new line → ⊥
no-bad-line demo old new text line told is good bad =
    by (script_with true text) good (ap (λ (t : List ℕ). script_with true t) (same-text demo old new text bad.text told is bad.read) ∙ bad.bad)
  where
    by : {T : Type 0} (result : Result T ℕ) → IsOk result → result ≡ Err line → ⊥
    by (Ok x) good is = absurd (cc)
    by (Err e) good is = absurd (cc)

-- a status up to 6 that isn't one of those for bad words, a source or a sink
pub well-ended : (status : ℕ) → status ≤ 6 → (status ≡ 2 → ⊥) → (status ≡ 4 → ⊥) → (status ≡ 5 → ⊥) → (status ≤ 1) ⊎ (status ≡ 3) ⊎ (status ≡ 6)
well-ended status few words source sink = elim (cases_lt 1 status) [
  | inl more ↦ elim (cases_lt status 3) [
    | inl two ↦ absurd (words (omega (arith, more, two)))
    | inr three ↦ elim (cases_lt 3 status) [
      | inl past ↦ elim (cases_lt status 6) [
        | inl below ↦ elim (cases_lt status 5) [
          | inl four ↦ absurd (source (omega (arith, past, four)))
          | inr five ↦ absurd (sink (omega (arith, below, five)))
        ]
        | inr six ↦ inr (inr (omega (arith, few, six)))
      ]
      | inr here ↦ inr (inl (omega (arith, three, here)))
    ]
  ]
  | inr one ↦ inl one
]

-- ---- what is answered

-- what was performed, or nothing, by the status
performed-or_nothing : {Performed Undone Same : Type 0} (status : ℕ) → status ≤ 6 → (IsAfterLines status → Performed) → (status ≡ 6 → Performed ⊎ (Undone × Same)) → (IsBeforeLines status → Undone) → Performed ⊎ Undone
performed-or_nothing zero few after short before = inl (after (inl (omega arith)))
performed-or_nothing (suc zero) few after short before = inl (after (inr (inl (omega arith))))
performed-or_nothing (suc (suc zero)) few after short before = inr (before (inl (omega arith)))
performed-or_nothing (suc (suc (suc zero))) few after short before = inr (before (inr (inl (omega arith))))
performed-or_nothing (suc (suc (suc (suc zero)))) few after short before = inr (before (inr (inr (omega arith))))
performed-or_nothing (suc (suc (suc (suc (suc zero))))) few after short before = inl (after (inr (inr (omega arith))))
performed-or_nothing {Performed = Performed} {Undone = Undone} {Same = Same} (suc (suc (suc (suc (suc (suc n)))))) few after short before = by (short (omega (arith, few)))
  where
    by : Performed ⊎ (Undone × Same) → Performed ⊎ Undone
    by (inl done) = inl done
    by (inr (nothing, same)) = inr nothing

-- a run that performed nothing answered nothing
pub none-complete : (setting : Setting) (epochs : List Epoch) (lines : List LineReply) → epochs ≡ [] → lines ≡ [] → IsComplete setting epochs lines
none-complete setting epochs lines no-epochs no-lines = record {
  answers = λ told none. subst (λ (l : List LineReply). All (λ reply. IsAnswerUnfailed reply.what) l) (sym no-lines) (All-nil (λ reply. IsAnswerUnfailed reply.what));
  whole = λ told none. subst (λ (l : List Epoch). All (IsWholeEpoch setting) l) (sym no-epochs) (All-nil (IsWholeEpoch setting));
}

pub run-complete : {answers : AlertKind → ℕ → Bool → Type 0} {demo : Option ℕ} {tells Same : Type 0} {old new : List ℕ} {sunk : Sunk} (setting : Setting) (status : ℕ) (epochs : List Epoch) (lines : List LineReply)
    → (setting.tells → AreLegal setting.given setting.tape setting.backup epochs) → AreLossesFailed setting epochs → status ≤ 6
    → (IsAfterLines status → IsScriptPerformed answers demo tells old new setting sunk status epochs lines)
    → (status ≡ 6 → IsScriptPerformed answers demo tells old new setting sunk status epochs lines ⊎ (IsNothing sunk epochs lines × Same)) → (IsBeforeLines status → IsNothing sunk epochs lines) → IsComplete setting epochs lines
run-complete {answers = answers} {demo = demo} {tells = tells} {old = old} {new = new} {sunk = sunk} setting status epochs lines legal why few after short before = record {
  answers = λ told none. by told none (performed-or_nothing status few after short before);
  whole = λ told none. epochs-whole setting epochs none (legal told) why told;
}
  where
    by : setting.tells → NoneFailed setting.before setting.now → IsScriptPerformed answers demo tells old new setting sunk status epochs lines ⊎ IsNothing sunk epochs lines → All (λ reply. IsAnswerUnfailed reply.what) lines
    by told none (inl done) = replies-unfailed setting told none (histories_of epochs) (at_rest 0) (take (length lines) done.asked) lines done.performed.replies
    by told none (inr nothing) = subst (λ (l : List LineReply). All (λ reply. IsAnswerUnfailed reply.what) l) (sym nothing.lines_are) (All-nil (λ reply. IsAnswerUnfailed reply.what))

-- ---- refusals

event-refused : (line : Line) (event : Event) → tells_refusal line event ≡ true → is_refused event ≡ true
event-refused line (Refused refusal) told = refl
event-refused line (Stepped done left (Some refusal)) told = refl
event-refused Wait event told = told
event-refused line event told = told

answer-refused : (histories : List History) (line : Line) (what : Answered) → is_refusal histories line what ≡ true → is_refused_answer histories what ≡ true
answer-refused histories line (Inside epoch at) told = by (entry_at histories epoch at) told
  where
    by : (found : Option Entry) → option_map_or (λ e. tells_refusal line e.event) found false ≡ true → option_map_or (λ e. is_refused e.event) found false ≡ true
    by None told = told
    by (Some e) told = event-refused line e.event told
answer-refused histories line (IsOutside (WasRefused refusal)) told = refl
answer-refused histories line (IsOutside outside) told = told

-- where a reply is a refusal, one of them tells one
pub some-refused : (histories : List History) (lines : List Numbered) (replies : List LineReply) → has_refusal histories lines replies ≡ true → list_any (λ reply. is_refused_answer histories reply.what) replies ≡ true
some-refused histories [] [] told = absurd (cc)
some-refused histories (line ∷ lines) [] told = absurd (cc)
some-refused histories [] (reply ∷ replies) told = absurd (cc)
some-refused histories (line ∷ lines) (reply ∷ replies) told =
    by (is_refusal histories line.line reply.what) (answer-refused histories line.line reply.what) (λ rest. some-refused histories lines replies rest) told
  where
    either : (a b : Bool) → b ≡ true → (a || b) ≡ true
    either true b is = refl
    either false b is = is

    by : (b : Bool) → (b ≡ true → is_refused_answer histories reply.what ≡ true)
        → (has_refusal histories lines replies ≡ true → list_any (λ reply. is_refused_answer histories reply.what) replies ≡ true) → (b || has_refusal histories lines replies) ≡ true
        → (is_refused_answer histories reply.what || list_any (λ reply. is_refused_answer histories reply.what) replies) ≡ true
    by true this others told = ap (λ b. b || list_any (λ reply. is_refused_answer histories reply.what) replies) (this refl)
    by false this others told = either (is_refused_answer histories reply.what) (list_any (λ reply. is_refused_answer histories reply.what) replies) (others told)
