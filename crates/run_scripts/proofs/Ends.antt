-- The end of a run: the array is halted, and the replies stay what they were.
use Rattle.std.proofs.Common.{◌≡◌, ℕ, ◌+◌, ◌-◌, ◌≤◌, ◌⊎◌, inl, inr, Bool, true, false, Option, Some, None, List, [], ◌∷◌, ◌++◌, length, take, drop, refl, sym, ◌∙◌, ap, subst, arith, append-nil, length-append}
use Rattle.std.specs.Prelude.{MatchOption, slice_get, unwrap_or}
use Rattle.std.specs.Global.{Vec}
use Rattle.std.specs.List.{AllPass}
use Rattle.std.proofs.lemmas.List.{length-map}
use Rattle.std.proofs.lemmas.List.Elements.{All-nil, All-cons, All-take}
use Rattle.history_reopen_laws.specs.bank_Given.{Given, NeverFalls}
use Rattle.history_reopen_laws.specs.history_the_Entry.{Entry}
use Rattle.history_reopen_laws.specs.history_the_Epoch.{Epoch}
use Rattle.history_reopen_laws.specs.history_the_Event_TheVariants.{Halted}
use Rattle.history_reopen_laws.specs.history_Flat.{next_number, last_of}
use Rattle.history_reopen_laws.specs.raid_types_the_Who.{Who}
use Rattle.run_session.specs.array_call_specs_Calls.{IsEntered, IsLossBy, AreLossesBy}
use Rattle.run_session.specs.array_specs_Parts.{RunningParts}
use Rattle.run_session.specs.sb_specs_Reading.{list_length}
use Rattle.script_demo.specs.script_Script.{may_ask}
use Rattle.script_demo.specs.script_the_Line_TheVariants.{Wait, Halt}
use Rattle.script_demo.specs.script_the_Numbered.{Numbered}
use Rattle.script_demo.specs.script_the_Lane.{Lane}
use Rattle.script_demo.specs.script_the_Lane_TheVariants.{Script as InScript, A as InA, B as InB, Worker as InWorker}
use Rattle.run_session.specs.declared.sessions.Session.{Session}
use Rattle.run_session.specs.declared.sessions.Stop.{Stop}
use Rattle.run_session.specs.declared.sessions.Stop.TheVariants.{WriteFault, NoMemory as WantsMemory}
use Rattle.run_session.specs.run_specs_the_State_TheVariants.{Idle, Running}
use Rattle.run_session.specs.run_specs_Asked.{script_who, IsAskedAt}
use Rattle.run_session.specs.run_specs_Histories.{History, history_of, histories_of, is_end}
use Rattle.run_session.specs.run_specs_Making.{Setting, setting_of}
use Rattle.history_reopen_laws.specs.bank_the_Operation.{Operation}
use Rattle.run_session.specs.run_specs_Replies.{Course, at_rest, course_of, AreCallsTold, AreReplies}
use Rattle.run_scripts.specs.Runs.{status_for, stop_of, IsHalted, AreLinesPerformed, AreLossesFailed, IsEnded}
use Rattle.run_session.specs.Sessions.{counted, IsCourse, IsCutBehind, IsInBlock, taken_whole, IsTaken, IsPerformed, IsShownTo}
use Rattle.run_session.specs.run_blocks_Shown.{report_text, has_refusal}
use Rattle.run_session.specs.run_specs_States.{running_history, histories_in, course_in, RunsOwn, AreLossesBehind, AreLossesFrom, IsWaitCut, IsAmidBlock, IsPastMemory}
use Rattle.run_session.specs.run_specs_Ended.{AreLegal, AreRising}
use Rattle.run_session.specs.Writes.{AreWritesPlaced}
use Rattle.run_session.specs.run_specs_Written.{IsWritten}
use Rattle.run_session.specs.array_members_Moving.{Grows}
use Rattle.run_session.proofs.run_requests_Called.{called_once, calls_in, calls_more}
use Rattle.run_session.proofs.run_specs_AskLaws.{one, with_reply}
use Rattle.run_session.proofs.array_members_SafeStretch.{grows-longer}
use Rattle.run_session.proofs.WritesPlaced.{placed-end, quiet-between}
use Rattle.run_session.proofs.run_specs_Growth.{IsWider, replies_stay, replies_front, courses_stay, cut_stays, amid_stays, past_memory_stays}
use Rattle.run_session.proofs.run_requests_RecordLaws.{records-stay}
use Rattle.run_session.proofs.run_blocks_ShownLaws.{shown_stays}
use Rattle.run_session.proofs.run_specs_Turned.{asked-tellable, halt-told}
use Rattle.run_session.proofs.run_specs_Losses.{losses-halted, losses-whole, losses-kept, losses-last, losses_add}
use Rattle.run_scripts.proofs.Done.{runs-done}
use Rattle.run_session.proofs.run_line_answers_Turns.{now_are, turn_ended, grown_kept, get_last}

last-snoc : (xs : List Entry) (e : Entry) → last_of (xs ++ e ∷ []) ≡ Some e
last-snoc [] e = refl
last-snoc (x ∷ xs) e = ap (λ (o : Option Entry). Some (unwrap_or o x)) (last-snoc xs e)

-- a halt tells no loss
halted-none : {tells : Type 0} {tape : List Operation} {old new : List Entry} (Had : ℕ → ℕ → Type 0) (Was : ℕ → Type 0) (f g : ℕ → ℕ) (who : Who) → IsEntered tells tape who old new (Halted ∷ []) → AreLossesBy Had Was f g old new
halted-none Had Was f g who entered = record {
  more = one who entered.end Halted ∷ [];
  grown = entered.is;
  failed = All-cons (λ e. IsLossBy Had Was f g e.event) (one who entered.end Halted) [] tt (All-nil (λ e. IsLossBy Had Was f g e.event));
}

-- the array that ran was halted
pub ended_running : {B tells : Type 0} {tape : List Operation} {place : ℕ} (setting : Setting) (who : Who) (array : RunningParts B) (epoch : Epoch) (epochs ended : Vec Epoch) → ended.items ≡ epochs.items ++ epoch ∷ [] → RunsOwn (Running array epochs)
    → IsEntered tells tape who array.parts.entries epoch.entries.items (Halted ∷ []) → epoch.uuid ≡ array.parts.uuid → epoch.given ≡ array.parts.given → epoch.first ≡ array.parts.first
    → (asked : IsAskedAt (list_length array.parts.members.newest) Halt array.parts.entries epoch.entries.items place) → asked.event ≡ Halted
    → IsEnded setting (Running array epochs) array.parts.bank ended.items
ended_running {place = place} setting who array epoch epochs ended items own entered uuid given first asked halts =
    let still : Setting = record { tells = ⊥; given = record { slots = 0; sectors = λ s. 0; start = λ s k. [] }; tape = []; backup = array.parts.backup; began = 0; before = λ s. 0; now = λ s. 0 } in
    let turn = turn_ended still array epoch array.parts.bank epochs ended items own (losses-halted still who (history_of epoch) entered) uuid given first Halt place asked (asked-tellable asked (halt-told asked.event asked.fits)) (halted-none _ _ (λ s. 0) (λ s. 0) who entered) tt (λ t. absurd t) (ap is_end halts) in
    let are = now_are still array epoch array.parts.bank epochs ended items own (losses-halted still who (history_of epoch) entered) uuid given first in
    let many : length (histories_of ended.items) ≡ length (histories_of epochs.items) + 1 =
    ap (λ (l : List History). length l) are ∙ length-append (histories_of epochs.items) (history_of epoch ∷ []) in
    record {
      same_bank = refl;
      grown = turn.grown;
      halted = record {
        count = many ∙ ap (λ (n : ℕ). n + 1) (length-map epochs.items history_of);
        halted = λ _. subst (λ (o : Option History). MatchOption o ⊥ (λ history. IsHalted (calls_in array.parts.entries) history))
            (sym (ap (λ (l : List History). slice_get l (length (histories_of ended.items) - 1)) are
            ∙ ap (λ (n : ℕ). slice_get (histories_of epochs.items ++ history_of epoch ∷ []) n) {y = length (histories_of epochs.items)} (omega (arith, many)) ∙ get_last (histories_of epochs.items) (history_of epoch)))
            (subst (λ (o : Option Entry). MatchOption o ⊥ (λ e. (e.caller ≡ 0) × (e.number ≡ next_number 0 array.parts.entries) × (e.event ≡ Halted)) × AreCallsTold (calls_in array.parts.entries) epoch.entries.items o)
            (sym (ap (λ (l : List Entry). last_of l) (with_reply asked) ∙ last-snoc (array.parts.entries ++ asked.inner) (one (script_who array.parts.entries) asked.end asked.event)))
            ((refl, refl, halts), λ lane. ap (λ (f : Lane → ℕ). f lane) (calls_more asked (called_once asked))));
      };
      script = turn.own;
      losses = subst (λ (l : List History). AreLossesFrom setting (histories_of epochs.items ++ running_history array.parts ∷ []) l) (sym are)
          (losses-last setting (histories_of epochs.items) (running_history array.parts) (history_of epoch) (losses-halted setting who (history_of epoch) entered));
    }

-- nothing ran
pub ended_idle : {B : Type 0} (setting : Setting) (bank : B) (epochs : Vec Epoch) → RunsOwn (Idle bank epochs) → IsEnded setting (Idle bank epochs) bank epochs.items
ended_idle setting bank epochs own = record {
  same_bank = refl;
  grown = grown_kept (histories_of epochs.items);
  halted = record { count = length-map epochs.items history_of; halted = λ runs. absurd (cc) };
  script = own;
  losses = losses-kept setting (histories_of epochs.items);
}

stop_of_status : (o : Option Stop) (refused : Bool) → stop_of (status_for o refused) ≡ o
stop_of_status None false = refl
stop_of_status None true = refl
stop_of_status (Some WriteFault) refused = refl
stop_of_status (Some WantsMemory) refused = refl

whole_losses : (setting : Setting) (epochs : List Epoch) → AreLossesFrom setting [] (histories_of epochs) → AreLossesFailed setting epochs
whole_losses setting [] lost = All-nil (λ epoch. AreLossesBehind setting (history_of epoch) [] epoch.entries.items)
whole_losses setting (epoch ∷ epochs) (one, more) =
    All-cons (λ epoch. AreLossesBehind setting (history_of epoch) [] epoch.entries.items) epoch epochs (losses-whole setting (history_of epoch) one) (whole_losses setting epochs more)

module _ {B bank_tells : Type 0} {given : Given} {backup : Option ℕ} {tape : List Operation} {start now : ℕ → ℕ} {lines : List Numbered} {session : Session B} {bank : B} (first_tape : List Operation) (epochs : List Epoch) (status : ℕ)
    (falls : NeverFalls start now) (performed : IsPerformed (setting_of bank_tells given first_tape tape backup start now) lines session) (ended : IsEnded (setting_of bank_tells given tape tape backup now now) session.state bank epochs) (told : status ≡ status_for session.stopped session.refused) where
  is_stop : stop_of status ≡ session.stopped
  is_stop = ap stop_of told ∙ stop_of_status session.stopped session.refused

  same_setting : IsWider (setting_of bank_tells given first_tape tape backup start now) (setting_of bank_tells given first_tape tape backup start now)
  same_setting = record { told = λ t. t; given = refl; backup = refl; grows = record { more = λ t. ([], sym (append-nil tape)) }; early = λ s. omega arith; between = falls; late = λ s. omega arith }

  shown_end : (report_text (histories_of epochs) lines session.replies.items ≡ report_text (histories_in session.state) lines session.replies.items)
      × (has_refusal (histories_of epochs) lines session.replies.items ≡ has_refusal (histories_in session.state) lines session.replies.items)
  shown_end = shown_stays (setting_of bank_tells given first_tape tape backup start now) (histories_in session.state) (histories_of epochs) (at_rest 0) (length session.replies.items) lines session.replies.items ended.grown performed.replies

  -- the text of the first so many replies
  part_end : (n : ℕ) → n ≤ length session.replies.items → report_text (histories_of epochs) lines (take n session.replies.items) ≡ report_text (histories_in session.state) lines (take n session.replies.items)
  part_end n le = (shown_stays (setting_of bank_tells given first_tape tape backup start now) (histories_in session.state) (histories_of epochs) (at_rest 0) n lines (take n session.replies.items) ended.grown
      (replies_front (setting_of bank_tells given first_tape tape backup start now) (histories_in session.state) (at_rest 0) n (length session.replies.items) lines session.replies.items le performed.replies)).0

  whole_end : (o : Option Stop) → report_text (histories_of epochs) lines (taken_whole o session.replies.items) ≡ report_text (histories_in session.state) lines (taken_whole o session.replies.items)
  whole_end None = shown_end.0
  whole_end (Some WriteFault) = part_end (length session.replies.items - 1) (omega arith)
  whole_end (Some WantsMemory) = shown_end.0

  pub end_status : status ≡ status_for (stop_of status) (has_refusal (histories_of epochs) lines session.replies.items)
  end_status = told ∙ ap (λ (b : Bool). status_for session.stopped b) (performed.refused ∙ sym (shown_end.1)) ∙ ap (λ (o : Option Stop). status_for o (has_refusal (histories_of epochs) lines session.replies.items)) (sym is_stop)

  abbrev told_by : List History → Course
  told_by histories = course_of histories (at_rest 0) (take (length session.replies.items) lines) session.replies.items

  told_still : told_by (histories_of epochs) ≡ told_by (histories_in session.state)
  told_still = courses_stay (setting_of bank_tells given first_tape tape backup start now) (histories_in session.state) (histories_of epochs) (at_rest 0) (take (length session.replies.items) lines) session.replies.items ended.grown performed.replies

  -- the lines that got no reply
  abbrev behind : List Numbered
  behind = drop (length session.replies.items) lines

  in_block : (ls : List Numbered) → IsInBlock (histories_in session.state) ls (told_by (histories_in session.state)) (course_in session.state) → IsInBlock (histories_of epochs) ls (told_by (histories_of epochs)) (course_in session.state)
  in_block [] block = absurd block
  in_block (l ∷ ls) (lane, block) = (
    lane,
    subst (λ (c : Course). IsAmidBlock (histories_of epochs) c (l ∷ ls) (course_in session.state) ⊎ IsPastMemory (histories_of epochs)) (sym told_still) (by block),
  )
    where
      by : IsAmidBlock (histories_in session.state) (told_by (histories_in session.state)) (l ∷ ls) (course_in session.state) ⊎ IsPastMemory (histories_in session.state)
          → IsAmidBlock (histories_of epochs) (told_by (histories_in session.state)) (l ∷ ls) (course_in session.state) ⊎ IsPastMemory (histories_of epochs)
      by (inl amid) = inl (amid_stays (histories_in session.state) (histories_of epochs) ended.grown (l ∷ ls) (told_by (histories_in session.state)) (course_in session.state) amid)
      by (inr past) = inr (past_memory_stays (histories_in session.state) (histories_of epochs) ended.grown past)

  by_stop : (o : Option Stop) → IsCourse o (histories_in session.state) behind (told_by (histories_in session.state)) (course_in session.state) → IsCourse o (histories_of epochs) behind (told_by (histories_of epochs)) (course_in session.state)
  by_stop None is = is ∙ sym told_still
  by_stop (Some WriteFault) (inl is) = inl (is ∙ sym told_still)
  by_stop (Some WriteFault) (inr block) = inr (in_block behind block)
  by_stop (Some WantsMemory) (inl is) = inl (is ∙ sym told_still)
  by_stop (Some WantsMemory) (inr (inl next)) = inr (inl (by_first behind next))
    where
      by_first : (ls : List Numbered) → IsCutBehind (histories_in session.state) ls (told_by (histories_in session.state)) (course_in session.state) → IsCutBehind (histories_of epochs) ls (told_by (histories_of epochs)) (course_in session.state)
      by_first [] next = absurd next
      by_first (l ∷ ls) (script, waits, cut) = (
        script,
        waits,
        subst (λ (c : Course). IsWaitCut (histories_of epochs) c (course_in session.state)) (sym told_still)
            (cut_stays (histories_in session.state) (histories_of epochs) (told_by (histories_in session.state)) Wait (course_in session.state) ended.grown cut),
      )
  by_stop (Some WantsMemory) (inr (inr block)) = inr (inr (in_block behind block))

  -- the writes, once the array is halted
  end_written : bank_tells → length first_tape ≤ length tape → IsWritten (setting_of bank_tells given tape tape backup now now) (histories_in session.state) (histories_of epochs) (λ slot. ⊥)
      → AreWritesPlaced (setting_of bank_tells given first_tape tape backup start now) (histories_of epochs) (stop_of status) (course_in session.state).running lines session.replies.items
  end_written t longer written =
      subst (λ (o : Option Stop). AreWritesPlaced (setting_of bank_tells given first_tape tape backup start now) (histories_of epochs) o (course_in session.state).running lines session.replies.items) (sym is_stop)
      (placed-end (setting_of bank_tells given first_tape tape backup start now) (setting_of bank_tells given tape tape backup now now) (histories_in session.state) (histories_of epochs) session.stopped (course_in session.state).running lines session.replies.items longer written (performed.written t))

  end_setting : IsWider (setting_of bank_tells given tape tape backup now now) (setting_of bank_tells given first_tape tape backup start now)
  end_setting = record { told = λ t. t; given = refl; backup = refl; grows = record { more = λ t. ([], sym (append-nil tape)) }; early = falls; between = λ s. omega arith; late = λ s. omega arith }

  pub end_losses : AreLossesFailed (setting_of bank_tells given first_tape tape backup start now) epochs
  end_losses = whole_losses (setting_of bank_tells given first_tape tape backup start now) epochs
      (losses_add (setting_of bank_tells given first_tape tape backup start now) (setting_of bank_tells given tape tape backup now now) (setting_of bank_tells given first_tape tape backup start now) same_setting end_setting (histories_in session.state) (histories_of epochs) ended.grown
      performed.losses ended.losses)

  end_replies : AreReplies (setting_of bank_tells given first_tape tape backup start now) (histories_of epochs) (at_rest 0) (take (length session.replies.items) lines) session.replies.items
  end_replies = replies_stay (setting_of bank_tells given first_tape tape backup start now) (setting_of bank_tells given first_tape tape backup start now) same_setting (histories_in session.state) (histories_of epochs) (at_rest 0) (take (length session.replies.items) lines) session.replies.items
      ended.grown performed.replies

  pub end_performed : (session.stopped ≡ None → length session.replies.items ≡ length lines) → Grows bank_tells first_tape tape
      → (bank_tells → IsWritten (setting_of bank_tells given tape tape backup now now) (histories_in session.state) (histories_of epochs) (λ slot. ⊥)) → (bank_tells → AreRising (length tape) (histories_of epochs))
      → (bank_tells → AreLegal given tape backup epochs) → AllPass (λ numbered. may_ask numbered.lane numbered.line) lines
      → AreLinesPerformed (setting_of bank_tells given first_tape tape backup start now) lines (stop_of status) epochs session.replies.items
  end_performed all grows written rising legal may = record {
    few = performed.few;
    all = λ going. all (sym is_stop ∙ going);
    replies = end_replies;
    last = performed.last;
    recorded = records-stay (setting_of bank_tells given first_tape tape backup start now) (setting_of bank_tells given first_tape tape backup start now) same_setting (histories_in session.state) (histories_of epochs) ended.grown (at_rest 0) None (take (length session.replies.items) lines)
        session.replies.items performed.last performed.replies performed.recorded;
    course = course_in session.state;
    told = subst (λ (o : Option Stop). IsCourse o (histories_of epochs) behind (told_by (histories_of epochs)) (course_in session.state)) (sym is_stop) (by_stop session.stopped performed.course);
    halted = ended.halted;
    script = ended.script;
    ends = performed.ends;
    written = λ t. end_written t (grows-longer grows t) (written t);
    quiet = λ t. quiet-between (setting_of bank_tells given first_tape tape backup start now) (stop_of status) (course_in session.state).running lines session.replies.items (length tape) epochs (rising t) (end_written t (grows-longer grows t) (written t));
    done = λ t none. runs-done (setting_of bank_tells given first_tape tape backup start now) epochs none (legal t) end_losses (at_rest 0) (take (length session.replies.items) lines) session.replies.items
        (All-take (λ numbered. may_ask numbered.lane numbered.line ≡ true) (length session.replies.items) lines may) (end_replies);
  }

  module _ {K : Type 0} {old new : List ℕ} {old_faults new_faults : ℕ} (shown : IsShownTo K lines session old new old_faults new_faults) where
    pub end_taken : K → IsTaken (stop_of status) old new (length (report_text (histories_of epochs) lines (taken_whole (stop_of status) session.replies.items))) (report_text (histories_of epochs) lines session.replies.items)
    end_taken holds = subst (λ (o : Option Stop). IsTaken o old new (length (report_text (histories_of epochs) lines (taken_whole o session.replies.items))) (report_text (histories_of epochs) lines session.replies.items)) (sym is_stop)
        (subst (λ (t : List ℕ). IsTaken session.stopped old new (length t) (report_text (histories_of epochs) lines session.replies.items)) (sym (whole_end session.stopped))
        (subst (λ (t : List ℕ). IsTaken session.stopped old new (length (report_text (histories_in session.state) lines (taken_whole session.stopped session.replies.items))) t) (sym (shown_end.0)) (shown.taken holds)))

    pub end_shown : session.shown ≡ counted (length (report_text (histories_of epochs) lines (taken_whole (stop_of status) session.replies.items)))
    end_shown = shown.shown ∙ ap (λ (t : List ℕ). counted (length t)) (sym (whole_end session.stopped))
        ∙ ap (λ (o : Option Stop). counted (length (report_text (histories_of epochs) lines (taken_whole o session.replies.items)))) (sym is_stop)
