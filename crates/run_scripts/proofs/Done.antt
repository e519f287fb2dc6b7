-- Where no device failed, none is told to have failed, and the lines of an array that stays whole are done.
use Rattle.std.proofs.Common.{◌≡◌, ℕ, zero, suc, ◌+◌, ◌<◌, ◌≤◌, Bool, true, false, get_or, List, [], ◌∷◌, ◌++◌, length, take, Option, None, Some, MatchOption, IfSome, refl, sym, subst}
use Rattle.std.specs.Prelude.{slice_get}
use Rattle.std.specs.List.{All, AllPass}
use Rattle.std.proofs.lemmas.List.Elements.{All-nil, All-cons, All-head, All-tail, All-map}
use Rattle.history_reopen_laws.specs.bank_Given.{IsFaulted}
use Rattle.history_reopen_laws.specs.raid_types_the_Refusal.{Refusal}
use Rattle.history_reopen_laws.specs.raid_types_the_Refusal_TheVariants.{BackupFault, SlotFault}
use Rattle.history_reopen_laws.specs.history_the_Entry.{Entry}
use Rattle.history_reopen_laws.specs.history_the_Epoch.{Epoch}
use Rattle.history_reopen_laws.specs.history_the_Event.{Event}
use Rattle.history_reopen_laws.specs.history_the_Event_TheVariants.{Lost, SpareLost, Stepped, Refused}
use Rattle.history_reopen_laws.specs.history_the_LostCause_TheVariants.{Absent, Recovering, Command, Fault}
use Rattle.history_reopen_laws.specs.history_Epochs.{world_of}
use Rattle.history_reopen_laws.specs.history_Flat.{visible_of}
use Rattle.run_session.specs.history_invariant_laws_Reliable.{IsReliable}
use Rattle.array_whole_laws.specs.history_whole_laws_Unfailed.{IsForNoFailure, TellsNoFailure}
use Rattle.array_whole_laws.specs.history_whole_laws_Whole.{OpensWhole, LosesNone, StaysWhole, LacksNothing}
use Rattle.array_whole_laws.specs.array_reply_specs_Replies.{RunningFits}
use Rattle.array_whole_laws.specs.history_the_Request_TheVariants.{Write as AsksWrite}
use Rattle.array_whole_laws.specs.Done.{IsWriteDone, IsNoCommand}
use Rattle.array_whole_laws.proofs.history_whole_laws_Whole.{none-absent, whole-lack-nothing}
use Rattle.array_whole_laws.proofs.raid_types_Tabulated.{length-tabulate}
use Rattle.array_whole_laws.proofs.Done.{read-replied, write-replied, flush-replied, steps-replied, stop-done}
use Rattle.array_whole_laws.proofs.Outside.{create-unfailed, assemble-unfailed}
use Rattle.array_whole_laws.proofs.Relied.{all-relied}
use Rattle.script_demo.specs.script_Script.{may_ask}
use Rattle.script_demo.specs.script_Seeds.{seed_sector, seeded}
use Rattle.script_demo.specs.script_the_Lane.{Lane}
use Rattle.script_demo.specs.script_the_Lane_TheVariants.{Script as InScript, A as InA, B as InB, Worker as InWorker}
use Rattle.script_demo.specs.script_the_Line.{Line}
use Rattle.script_demo.specs.script_the_Line_TheVariants.{Create, Read, Write, Flush, Step, Wait, Stop, Examine, Assemble}
use Rattle.script_demo.specs.script_the_Numbered.{Numbered}
use Rattle.run_session.specs.run_specs_the_Answered.{Answered}
use Rattle.run_session.specs.run_specs_the_Answered_TheVariants.{Inside, Outside as IsOutside}
use Rattle.run_session.specs.run_specs_the_Outside_TheVariants.{Refused as WasRefused}
use Rattle.run_session.specs.run_specs_the_LineReply.{LineReply}
use Rattle.run_session.specs.run_specs_Blocks.{caller_of, request_of, IsCallersReply}
use Rattle.run_session.specs.run_specs_Ended.{AreLegal, IfReliable}
use Rattle.run_session.specs.run_specs_Histories.{History, history_of, histories_of}
use Rattle.run_session.specs.run_specs_Making.{Setting, held_at, history_world}
use Rattle.run_session.specs.run_specs_Replies.{Course, course_after, spec_of, FitsLine, steps_at_once, IsReplyAt, IsWaitedAt, IsRepliedAt, IsRefusedOutside, IsWorkedAt, IsRepliedBeside, IsAnswerIn, AreReplies}
use Rattle.run_session.specs.run_specs_States.{IsRefusalSince, IsLossSince, AreLossesBehind, with_entries}
use Rattle.run_scripts.specs.Done.{NoneFailed, AreUnfailed, IsAnswerUnfailed, AreAnswersUnfailed, IsWholeEpoch, IsDone, IsAnswerDone, AreAnswersDone}

-- ---- entries

module _ (setting : Setting) (none : NoneFailed setting.before setting.now) where
  unfailed-refusal : (refusal : Refusal) → IsRefusalSince setting refusal → IsForNoFailure refusal
  unfailed-refusal (SlotFault slot) why = absurd (none slot why)
  unfailed-refusal BackupFault why = by setting.backup why
    where
      by : (backup : Option ℕ) → MatchOption backup ⊥ (λ slot. IsFaulted slot setting.before setting.now) → ⊥
      by None why = why
      by (Some slot) why = none slot why
  unfailed-refusal refusal why = tt

  unfailed-event : (history : History) (event : Event) → IsLossSince setting history event → TellsNoFailure event
  unfailed-event history (Lost role Fault) why = none why.0 why.1
  unfailed-event history (SpareLost slot) why = none slot why.0
  unfailed-event history (Stepped done left ended) why = by ended why
    where
      by : (ended : Option Refusal) → IfSome ended (IsRefusalSince setting) → IfSome ended IsForNoFailure
      by None why = tt
      by (Some refusal) why = unfailed-refusal refusal why
  unfailed-event history (Refused refusal) why = unfailed-refusal refusal why
  unfailed-event history event why = tt

  unfailed-behind : (history : History) (before entries : List Entry) → AreLossesBehind setting history before entries → All (λ e. TellsNoFailure e.event) entries
  unfailed-behind history before [] why = All-nil (λ e. TellsNoFailure e.event)
  unfailed-behind history before (e ∷ entries) why = All-cons (λ e. TellsNoFailure e.event) e entries (unfailed-event (with_entries before history) e.event why.0)
      (unfailed-behind history (before ++ e ∷ []) entries why.1)

-- no entry tells a failure
pub unfailed-epochs : (setting : Setting) (epochs : List Epoch) → NoneFailed setting.before setting.now → All (λ epoch. AreLossesBehind setting (history_of epoch) [] epoch.entries.items) epochs → AreUnfailed epochs
unfailed-epochs setting epochs none why = λ k d lt. unfailed-behind setting none (history_of (get_or epochs k d)) [] (get_or epochs k d).entries.items (why k d lt)

-- ---- losses

module _ (setting : Setting) (told : setting.tells) (none : NoneFailed setting.before setting.now) where
  event-keeps : (history : History) (event : Event) → OpensWhole (history_world setting history) → IsNoCommand event → IsLossSince setting history event → LosesNone event
  event-keeps history (Lost role Absent) opened unasked why = none-absent (history_world setting history) role opened (why told).missing
  event-keeps history (Lost role Recovering) opened unasked why = none-absent (history_world setting history) role opened (why told).missing
  event-keeps history (Lost role Command) opened unasked why = unasked
  event-keeps history (Lost role Fault) opened unasked why = none why.0 why.1
  event-keeps history event opened unasked why = tt

  losses-none : (history : History) (before entries : List Entry) → OpensWhole (history_world setting history) → All (λ e. IsNoCommand e.event) entries → AreLossesBehind setting history before entries
      → All (λ e. LosesNone e.event) entries
  losses-none history before [] opened unasked why = All-nil (λ e. LosesNone e.event)
  losses-none history before (e ∷ entries) opened unasked why = All-cons (λ e. LosesNone e.event) e entries
      (event-keeps (with_entries before history) e.event opened (All-head (λ e. IsNoCommand e.event) e entries unasked) why.0)
      (losses-none history (before ++ e ∷ []) entries opened (All-tail (λ e. IsNoCommand e.event) e entries unasked) why.1)

-- ---- answers outside

same-unfailed : {a b : Refusal} → a ≡ b → IsForNoFailure b → IsForNoFailure a
same-unfailed same unfailed = subst IsForNoFailure (sym same) unfailed

module _ (setting : Setting) (told : setting.tells) (none : NoneFailed setting.before setting.now) where
  examine-unfailed : (slot : ℕ) (refusal : Refusal) → IsRefusedOutside setting false 0 (Examine slot) refusal → IsForNoFailure refusal
  examine-unfailed slot (SlotFault failed) why = none slot why.1
  examine-unfailed slot BackupFault why = why
  examine-unfailed slot refusal why = tt

  outside-unfailed : (running : Bool) (end : ℕ) (line : Line) (refusal : Refusal) → IsRefusedOutside setting running end line refusal → IsForNoFailure refusal
  outside-unfailed true end (Create spec) refusal why = same-unfailed why tt
  outside-unfailed true end (Assemble uuid) refusal why = same-unfailed why tt
  outside-unfailed true end (Examine slot) refusal why = examine-unfailed slot refusal why
  outside-unfailed true end line refusal why = absurd why
  outside-unfailed false end (Create spec) refusal why = create-unfailed setting.tells setting.given (held_at setting end) setting.backup setting.before setting.now none (spec_of spec) refusal why
  outside-unfailed false end (Assemble uuid) refusal why = assemble-unfailed setting.tells setting.given (held_at setting end) setting.backup setting.before setting.now none told uuid refusal why
  outside-unfailed false end (Examine slot) refusal why = examine-unfailed slot refusal why
  outside-unfailed false end line refusal why = same-unfailed why tt

  answer-unfailed : (histories : List History) (course : Course) (lane : Lane) (line : Line) (end : ℕ) (what : Answered) → IsAnswerIn setting histories course lane line end what → IsAnswerUnfailed what
  answer-unfailed histories course InScript line end (IsOutside (WasRefused refusal)) why = outside-unfailed course.running end line refusal why
  answer-unfailed histories course lane line end (IsOutside (WasRefused refusal)) why = same-unfailed why.1 tt
  answer-unfailed histories course lane line end what why = tt

  pub replies-unfailed : (histories : List History) (course : Course) (lines : List Numbered) (replies : List LineReply) → AreReplies setting histories course lines replies → AreAnswersUnfailed replies
  replies-unfailed histories course [] [] are = All-nil (λ reply. IsAnswerUnfailed reply.what)
  replies-unfailed histories course [] (reply ∷ replies) are = absurd are
  replies-unfailed histories course (line ∷ lines) [] are = All-nil (λ reply. IsAnswerUnfailed reply.what)
  replies-unfailed histories course (line ∷ lines) (reply ∷ replies) are = All-cons (λ reply. IsAnswerUnfailed reply.what) reply replies
      (answer-unfailed histories course line.lane line.line reply.end reply.what are.0.answer)
      (replies-unfailed histories (course_after histories course line.lane line.line reply.what) lines replies are.1)

-- ---- one line

module _ (size : ℕ) (before : List Entry) (e : Entry) (unfailed : TellsNoFailure e.event) (lacks : LacksNothing e.event) where
  seeded-done : (at count seed : ℕ) → RunningFits size before e (AsksWrite at (seeded seed at count)) → at + count ≤ visible_of size before → IsWriteDone e.event
  seeded-done at count seed fits = write-replied size before e unfailed lacks at count (seeded seed at count) (length-tabulate count (λ k. seed_sector seed (at + k))) fits

  line-done : (line : Line) → FitsLine size before e line → IsDone (visible_of size before) line e.event
  line-done (Read at count) fits = read-replied size before e unfailed lacks at count fits
  line-done (Write at count seed) fits = seeded-done at count seed fits
  line-done Flush fits = flush-replied size before e unfailed lacks fits
  line-done Stop fits = stop-done e.event fits lacks
  line-done (Step most) fits = steps-replied size before e unfailed lacks most fits
  line-done Wait fits = absurd fits
  line-done line fits = tt

  lane-done : (line : Line) → may_ask InA line ≡ true → RunningFits size before e (request_of line) → IsDone (visible_of size before) line e.event
  lane-done (Read at count) may fits = read-replied size before e unfailed lacks at count fits
  lane-done (Write at count seed) may fits = seeded-done at count seed fits
  lane-done Flush may fits = flush-replied size before e unfailed lacks fits
  lane-done Stop may fits = absurd (cc)
  lane-done (Step most) may fits = absurd (cc)
  lane-done Wait may fits = absurd (cc)
  lane-done line may fits = tt

-- ---- one answer

at-place : {X : Type 0} (P : X → Type 0) (xs : List X) (i : ℕ) → All P xs → IfSome (slice_get xs i) P
at-place P [] i all = tt
at-place P (x ∷ xs) zero all = All-head P x xs all
at-place P (x ∷ xs) (suc i) all = at-place P xs i (All-tail P x xs all)

module _ (size : ℕ) (entries : List Entry) (unfailed : All (λ e. TellsNoFailure e.event) entries) (lacks : All (λ e. LacksNothing e.event) entries) where
  -- the entry at this place is done as this line
  abbrev Done : ℕ → Line → Type 0
  Done place line = IfSome (slice_get entries place) (λ e. IsDone (visible_of size (take place entries)) line e.event)

  placed-done : (place : ℕ) (line : Line) (e : Entry) → slice_get entries place ≡ Some e
      → (TellsNoFailure e.event → LacksNothing e.event → IsDone (visible_of size (take place entries)) line e.event) → Done place line
  placed-done place line e there does = subst (λ (o : Option Entry). IfSome o (λ e. IsDone (visible_of size (take place entries)) line e.event)) (sym there)
      (does (subst (λ (o : Option Entry). IfSome o (λ e. TellsNoFailure e.event)) there (at-place (λ e. TellsNoFailure e.event) entries place unfailed))
      (subst (λ (o : Option Entry). IfSome o (λ e. LacksNothing e.event)) there (at-place (λ e. LacksNothing e.event) entries place lacks)))

  reply-done : (place number : ℕ) (line : Line) → IsReplyAt size entries place number line → Done place line
  reply-done place number line reply = placed-done place line reply.entry reply.there (λ unfailed lacks. line-done size (take place entries) reply.entry unfailed lacks line reply.fits)

  step-done : (place number : ℕ) → IsReplyAt size entries place number (Step steps_at_once) → Done place Wait
  step-done place number reply = placed-done place Wait reply.entry reply.there (λ unfailed lacks. line-done size (take place entries) reply.entry unfailed lacks (Step steps_at_once) reply.fits)

  wait-done : (earlier : List ℕ) (place number : ℕ) → IsWaitedAt size entries earlier place number → Done place Wait
  wait-done [] place number waited = step-done place number waited.0
  wait-done (first ∷ others) place number waited = wait-done others place (number + 1) waited.2

  script-done : (place number : ℕ) (line : Line) → IsRepliedAt size entries place number line → Done place line
  script-done place number Wait replied = wait-done replied.0 place number replied.1
  script-done place number line replied = reply-done place number line replied

  callers-done : (caller place number : ℕ) (line : Line) → may_ask InA line ≡ true → IsCallersReply size entries caller number place (request_of line) → Done place line
  callers-done caller place number line may reply = placed-done place line reply.entry reply.there (λ unfailed lacks. lane-done size (take place entries) reply.entry unfailed lacks line may reply.fits)

  worked-done : (earlier : List ℕ) (place number : ℕ) → IsWorkedAt size entries earlier place number → Done place Wait
  worked-done [] place number worked = placed-done place Wait worked.3.entry worked.3.there
      (λ unfailed lacks. steps-replied size (take place entries) worked.3.entry unfailed lacks worked.0 worked.3.fits)
  worked-done (first ∷ others) place number worked = worked-done others place (number + 1) worked.2

  beside-done : (lane : Lane) (place number : ℕ) (line : Line) → may_ask lane line ≡ true → (lane ≡ InScript → ⊥) → IsRepliedBeside lane size entries place number line → Done place line
  beside-done InScript place number line may apart replied = absurd (apart refl)
  beside-done InA place number line may apart replied = callers-done (caller_of InA) place number line may replied
  beside-done InB place number line may apart replied = callers-done (caller_of InB) place number line may replied
  beside-done InWorker place number Wait may apart replied = worked-done replied.earlier place number replied.worked
  beside-done InWorker place number line may apart replied = absurd (cc)

-- ---- one line after another

module _ (setting : Setting) where
  -- its entries tell no failure, and no lack where it stays whole and can be relied on
  abbrev IsSure : History → Type 0
  IsSure history = All (λ e. TellsNoFailure e.event) history.entries
      × (IsReliable (history_world setting history) history.entries → StaysWhole (history_world setting history) history.entries → All (λ e. LacksNothing e.event) history.entries)

  module _ (histories : List History) (sure : All IsSure histories) where
    in-history : (course : Course) (line : Line) (epoch at : ℕ) (history : History) → slice_get histories epoch ≡ Some history
        → (All (λ e. TellsNoFailure e.event) history.entries → All (λ e. LacksNothing e.event) history.entries → IfSome (slice_get history.entries at) (λ e. IsDone (visible_of course.size (take at history.entries)) line e.event))
        → IsAnswerDone setting histories course line (Inside epoch at)
    in-history course line epoch at history there does =
        let known : IsSure history = subst (λ (o : Option History). IfSome o IsSure) there (at-place IsSure histories epoch sure) in
        subst (λ (o : Option History). IfSome o (λ history. IsReliable (history_world setting history) history.entries → StaysWhole (history_world setting history) history.entries
        → IfSome (slice_get history.entries at) (λ e. IsDone (visible_of course.size (take at history.entries)) line e.event))) (sym there)
        (λ reliable whole. does known.0 (known.1 reliable whole))

    answer-done : (course : Course) (lane : Lane) (line : Line) (end : ℕ) (what : Answered) → may_ask lane line ≡ true → IsAnswerIn setting histories course lane line end what → IsAnswerDone setting histories course line what
    answer-done course InScript line end (Inside epoch at) may answer = in-history course line epoch at answer.history answer.there
        (λ unfailed lacks. script-done course.size answer.history.entries unfailed lacks at (course.calls InScript) line answer.replied)
    answer-done course InA line end (Inside epoch at) may answer = in-history course line epoch at answer.history answer.there
        (λ unfailed lacks. beside-done course.size answer.history.entries unfailed lacks InA at (course.calls InA) line may (λ same. absurd (cc)) answer.replied)
    answer-done course InB line end (Inside epoch at) may answer = in-history course line epoch at answer.history answer.there
        (λ unfailed lacks. beside-done course.size answer.history.entries unfailed lacks InB at (course.calls InB) line may (λ same. absurd (cc)) answer.replied)
    answer-done course InWorker line end (Inside epoch at) may answer = in-history course line epoch at answer.history answer.there
        (λ unfailed lacks. beside-done course.size answer.history.entries unfailed lacks InWorker at (course.calls InWorker) line may (λ same. absurd (cc)) answer.replied)
    answer-done course lane line end (IsOutside outside) may answer = tt

    lines-done : (course : Course) (lines : List Numbered) (replies : List LineReply) → AllPass (λ numbered. may_ask numbered.lane numbered.line) lines
        → AreReplies setting histories course lines replies → AreAnswersDone setting histories course lines replies
    lines-done course [] [] may are = tt
    lines-done course [] (reply ∷ replies) may are = tt
    lines-done course (line ∷ lines) [] may are = tt
    lines-done course (line ∷ lines) (reply ∷ replies) may are = (
      answer-done course line.lane line.line reply.end reply.what (All-head (λ numbered. may_ask numbered.lane numbered.line ≡ true) line lines may) are.0.answer,
      lines-done (course_after histories course line.lane line.line reply.what) lines replies (All-tail (λ numbered. may_ask numbered.lane numbered.line ≡ true) line lines may) are.1,
    )

module _ (setting : Setting) (epochs : List Epoch) (none : NoneFailed setting.before setting.now) (legal : AreLegal setting.given setting.tape setting.backup epochs)
    (why : All (λ epoch. AreLossesBehind setting (history_of epoch) [] epoch.entries.items) epochs) where
  -- an epoch that stays whole tells no lack
  abbrev TellsNoLack : Epoch → Type 0
  TellsNoLack epoch = IfReliable setting.given setting.tape setting.backup epoch
      (StaysWhole (world_of setting.given setting.tape setting.backup epoch) epoch.entries.items → All (λ e. LacksNothing e.event) epoch.entries.items)

  epoch-whole : (k : ℕ) (epoch : Epoch) → k < length epochs → TellsNoLack (get_or epochs k epoch)
  epoch-whole k epoch lt = λ reliable whole. whole-lack-nothing (world_of setting.given setting.tape setting.backup (get_or epochs k epoch)) (get_or epochs k epoch).entries.items
      ((legal k epoch lt).legal reliable) whole (unfailed-epochs setting epochs none why k epoch lt)

  pub epochs-whole : setting.tells → All (IsWholeEpoch setting) epochs
  epochs-whole told = λ k epoch lt. record {
    whole = epoch-whole k epoch lt;
    relied = λ keeps. all-relied (world_of setting.given setting.tape setting.backup (get_or epochs k epoch)) (get_or epochs k epoch).entries.items keeps
        (losses-none setting told none (history_of (get_or epochs k epoch)) [] (get_or epochs k epoch).entries.items keeps.opened keeps.unasked (why k epoch lt));
  }

  -- and its lines are done
  pub runs-done : (course : Course) (lines : List Numbered) (replies : List LineReply) → AllPass (λ numbered. may_ask numbered.lane numbered.line) lines
      → AreReplies setting (histories_of epochs) course lines replies → AreAnswersDone setting (histories_of epochs) course lines replies
  runs-done course lines replies may are =
      lines-done setting (histories_of epochs) (All-map (IsSure setting) history_of epochs (λ k epoch lt. (unfailed-epochs setting epochs none why k epoch lt, epoch-whole k epoch lt))) course lines replies may are
