-- One line more was performed and shown.
use Rattle.std.proofs.Common.{◌≡◌, ◌≢◌, ℕ, zero, suc, ◌+◌, ◌-◌, ◌<◌, ◌≤◌, ◌||◌, ◌⊎◌, inl, inr, Bool, false, Option, Some, None, List, [], ◌∷◌, ◌++◌, length, take, drop, refl, sym, ◌∙◌, ap, subst, arith, append_assoc, append-nil, length-append, length-drop}
use Rattle.std.specs.Global.{Vec}
use Rattle.std.proofs.lemmas.Bool.{cases_lt}
use Rattle.std.proofs.lemmas.Bool.Decides.{nat_tests}
use Rattle.std.specs.List.{All}
use Rattle.std.proofs.lemmas.List.Elements.{All-nil}
use Rattle.std.proofs.lemmas.List.{take_at, length-take-le, drop-append-le}
use Rattle.std.proofs.Math.Seq.{drop-cons, take-suc, take-append-add, take-take, take-add, drop-drop, get_or-take}
use Rattle.std.proofs.Math.ListN.{get_or}
use Rattle.std.specs.Prelude.{IfSome, MatchOption}
use Rattle.run_blocks.specs.bank_Given.{Given, NeverFalls}
use Rattle.run_blocks.specs.bank_the_Operation.{Operation}
use Rattle.run_blocks.specs.array_members_Moving.{Grows}
use Rattle.run_blocks.specs.history_the_Entry.{Entry}
use Rattle.script_io.specs.Causes.{HasRisen}
use Rattle.run_blocks.specs.history_the_Epoch.{Epoch}
use Rattle.run_blocks.specs.script_the_Line.{Line}
use Rattle.run_blocks.specs.script_the_Line_TheVariants.{Wait}
use Rattle.run_blocks.specs.script_the_Numbered.{Numbered}
use Rattle.run_blocks.specs.script_the_Lane.{Lane}
use Rattle.run_blocks.specs.script_the_Lane_TheVariants.{Script as InScript, A as InA, B as InB, Worker as InWorker}
use Rattle.run_blocks.specs.run_specs_the_Answered.{Answered}
use Rattle.run_blocks.specs.run_specs_the_Answered_TheVariants.{Inside, Outside as IsOutside}
use Rattle.run_blocks.specs.run_specs_the_LineReply.{LineReply}
use Rattle.run_blocks.specs.run_specs_the_State.{State}
use Rattle.run_blocks.specs.run_specs_the_State_TheVariants.{Idle}
use Rattle.run_session.specs.declared.sessions.Stop.{Stop}
use Rattle.run_session.specs.declared.sessions.Stop.TheVariants.{WriteFault, NoMemory as WantsMemory}
use Rattle.run_session.specs.declared.sessions.Session.{Session}
use Rattle.run_blocks.specs.run_specs_Histories.{History, histories_of, entry_at}
use Rattle.run_blocks.specs.run_specs_Making.{Setting, setting_of}
use Rattle.run_blocks.proofs.array_members_SafeStretch.{grows-longer}
use Rattle.run_blocks.specs.run_specs_Replies.{Course, at_rest, course_after, course_of, IsAnswer, IsAnswerIn, mark_reached, mark_shown, IsEnd, IsReplyTo, AreReplies, AreInOrder}
use Rattle.run_blocks.specs.Shown.{reply_text, report_text, has_refusal}
use Rattle.run_blocks.specs.run_specs_States.{histories_in, course_in, record_in, RunsOwn, IsOfScript, AreOfScript, AreLossesFrom, AreGrown, EndsBetween, IsWaitCut, IsCutShort, IsCourseShort, AreAnswersBeside, AreRecordedBeside, course_beside, IsAmidBlock, IsAmidBehind, IsPastMemory}
use Rattle.run_session.specs.Sessions.{counted, IsEndNow, IsUnreplied, IsReplyMore, IsStep, IsBlockStep, IsTurnStep, AreAllMade, IsCourse, IsCutBehind, IsInBlock, taken_whole, IsTaken, IsStopCause, IsPerformed, IsShownTo}
use Rattle.run_blocks.proofs.run_specs_Growth.{IsWider, answer_wider, replies_stay, replies_more, replies_both, course_more, course_both, courses_stay}
use Rattle.run_blocks.specs.run_specs_Caused.{Record}
use Rattle.run_blocks.specs.run_specs_Records.{IsRecordStored, IsRecorded, IsRecordedIn, AreRecorded}
use Rattle.run_blocks.proofs.run_requests_RecordLaws.{recorded-wider, last-stored, records-stay, records-both}
use Rattle.run_session.proofs.AmidBlocks.{block-till, take-drop-whole, amid-made}
use Rattle.run_session.proofs.BlockReplies.{block-lanes, block-order, made-few, made-replies, made-records, made-course, ordered, order-then, all-at}
use Rattle.run_blocks.proofs.ShownLaws.{shown_stays, text_more, text_both, text_front, refusal_more, refusal_both, refusal_front}
use Rattle.run_session.specs.Writes.{AreWritesPlaced}
use Rattle.run_blocks.proofs.run_specs_Losses.{losses_add}
use Rattle.run_session.proofs.WritesPlaced.{placed-none, placed-reply, placed-more, placed-short}

-- ---- where the replies were made

-- the present reply, by its answer
reply_between : (setting : Setting) (histories : List History) (reply : LineReply) (what : Answered) → setting.tells → EndsBetween setting.began (length setting.tape) histories what → IsEnd histories reply what
    → IsEndNow setting.tells (length setting.tape) reply what → (setting.began ≤ reply.end) × (reply.end ≤ length setting.tape)
reply_between setting histories reply (Inside epoch at) t between end now = by_entry (entry_at histories epoch at) between end
  where
    by_entry : (o : Option Entry) → MatchOption o ⊥ (λ e. (setting.began ≤ e.end) × (e.end ≤ length setting.tape)) → MatchOption o ⊥ (λ e. reply.end ≡ e.end) → (setting.began ≤ reply.end) × (reply.end ≤ length setting.tape)
    by_entry None is same = absurd is
    by_entry (Some e) (low, high) same = (omega (arith, low, same), omega (arith, high, same))
reply_between setting histories reply (IsOutside outside) t between end now = let same = now t in (omega (arith, between, same), omega (arith, same))

order_later : (low mark high : ℕ) (replies : List LineReply) → mark ≤ high → AreInOrder low mark replies → AreInOrder low high replies
order_later low mark high [] le was = omega (arith, le, was)
order_later low mark high (r ∷ replies) le (one, rest) = (one, order_later (mark_shown low r) mark high replies le rest)

order_more : (low mark high : ℕ) (replies : List LineReply) (reply : LineReply) → AreInOrder low mark replies → mark ≤ reply.end → reply.lane ≡ InScript → reply.end ≤ high → AreInOrder low high (replies ++ reply ∷ [])
order_more low mark high [] reply was le script within = (omega (arith, was, le), subst (λ (l : Lane). mark_reached low l reply.what reply.end ≤ high) (sym script) within)
order_more low mark high (r ∷ replies) reply (one, rest) le script within = (one, order_more (mark_shown low r) mark high replies reply rest le script within)

-- a line that went on has one reply more
pub one_reply : {B : Type 0} (tells : Type 0) (setting : Setting) (old new : Session B) (numbered : Numbered) (before after : List ℕ) (o : Option Stop) → o ≡ None → IsStep tells setting old new numbered before after o
    → length new.replies.items ≡ length old.replies.items + 1
one_reply tells setting old new numbered before after None going is = ap (λ (l : List LineReply). length l) is.reply.more ∙ length-append old.replies.items (is.reply.made.reply ∷ [])
one_reply tells setting old new numbered before after (Some stop) going is = absurd (cc)

-- where memory was short for a line, an array runs as before it
short-runs : (histories : List History) (old : Course) (line : Line) (new : Course) → IsCourseShort histories old line new → old.running ≡ new.running
short-runs histories old line new (inl is) = ap (λ (c : Course). c.running) (sym is)
short-runs histories old line new (inr cut) = by line cut
  where
    by : (line : Line) → IsCutShort histories old line new → old.running ≡ new.running
    by Wait cut = ap (λ (c : Course). c.running) (sym cut.now)
    by line cut = absurd cut

pub counted_more : (a b : ℕ) → counted (counted a + b) ≡ counted (a + b)
counted_more a b = grind (arith, nat_tests)

module _ {B bank_tells : Type 0} {given : Given} {backup : Option ℕ} {first_tape mid_tape tape : List Operation} {start mid now : ℕ → ℕ} {lines : List Numbered} {old : Session B} (new : Session B)
    (early : NeverFalls start mid) (late : NeverFalls mid now) (grew_early : Grows bank_tells first_tape mid_tape) (grew : Grows bank_tells mid_tape tape) (going : old.stopped ≡ None) (performed : IsPerformed (setting_of bank_tells given first_tape mid_tape backup start mid) lines old)
    (stored : IfSome (record_in new.state) (IsRecordStored bank_tells given tape)) where
  abbrev lines_before : List Numbered
  lines_before = take (length old.replies.items) lines

  -- where the run stands by the former replies
  abbrev told_before : List History → Course
  told_before histories = course_of histories (at_rest 0) lines_before old.replies.items

  course_before : course_in old.state ≡ told_before (histories_in old.state)
  course_before = subst (λ (o : Option Stop). IsCourse o (histories_in old.state) (drop (length old.replies.items) lines) (told_before (histories_in old.state)) (course_in old.state)) going performed.course

  pub course_still : AreGrown (histories_in old.state) (histories_in new.state) → course_in old.state ≡ told_before (histories_in new.state)
  course_still grown = course_before ∙ sym (courses_stay (setting_of bank_tells given first_tape mid_tape backup start mid) (histories_in old.state) (histories_in new.state) (at_rest 0) lines_before old.replies.items grown performed.replies)

  pub wider_was : IsWider (setting_of bank_tells given first_tape mid_tape backup start mid) (setting_of bank_tells given first_tape tape backup start now)
  wider_was = record { told = λ t. t; given = refl; backup = refl; grows = grew; early = λ s. omega arith; between = early; late = late }

  pub wider_step : IsWider (setting_of bank_tells given mid_tape tape backup mid now) (setting_of bank_tells given first_tape tape backup start now)
  wider_step = record { told = λ t. t; given = refl; backup = refl; grows = record { more = λ t. ([], sym (append-nil tape)) }; early = early; between = late; late = λ s. omega arith }

  -- the former replies still answer the former lines
  pub replies_still : AreGrown (histories_in old.state) (histories_in new.state)
      → AreReplies (setting_of bank_tells given first_tape tape backup start now) (histories_in new.state) (at_rest 0) (take (length old.replies.items) lines) old.replies.items
  replies_still grown =
      replies_stay (setting_of bank_tells given first_tape mid_tape backup start mid) (setting_of bank_tells given first_tape tape backup start now) wider_was (histories_in old.state) (histories_in new.state) (at_rest 0) (take (length old.replies.items) lines) old.replies.items grown
      performed.replies

  -- and so do the records between them
  pub records_still : AreGrown (histories_in old.state) (histories_in new.state) → AreRecorded (setting_of bank_tells given first_tape tape backup start now) (histories_in new.state) (at_rest 0) None lines_before old.replies.items performed.last
  records_still grown =
      records-stay (setting_of bank_tells given first_tape mid_tape backup start mid) (setting_of bank_tells given first_tape tape backup start now) wider_was (histories_in old.state) (histories_in new.state) grown (at_rest 0) None lines_before old.replies.items performed.last
      performed.replies performed.recorded

  pub shown_still : AreGrown (histories_in old.state) (histories_in new.state)
      → (report_text (histories_in new.state) lines old.replies.items ≡ report_text (histories_in old.state) lines old.replies.items)
      × (has_refusal (histories_in new.state) lines old.replies.items ≡ has_refusal (histories_in old.state) lines old.replies.items)
  shown_still grown = shown_stays (setting_of bank_tells given first_tape mid_tape backup start mid) (histories_in old.state) (histories_in new.state) (at_rest 0) (length old.replies.items) lines old.replies.items grown performed.replies

  pub written_before : bank_tells → AreWritesPlaced (setting_of bank_tells given first_tape mid_tape backup start mid) (histories_in old.state) None (course_in old.state).running lines old.replies.items
  written_before t = subst (λ (o : Option Stop). AreWritesPlaced (setting_of bank_tells given first_tape mid_tape backup start mid) (histories_in old.state) o (course_in old.state).running lines old.replies.items) going (performed.written t)

  module _ (nothing numbered : Numbered) (script : numbered.lane ≡ InScript) (lt : length old.replies.items < length lines) (here : get_or lines (length old.replies.items) nothing ≡ numbered) where
    module _ (is : IsReplyMore (setting_of bank_tells given mid_tape tape backup mid now) old new numbered) where
      reply : LineReply
      reply = is.made.reply

      one_more : length new.replies.items ≡ length old.replies.items + 1
      one_more = ap (λ (l : List LineReply). length l) is.more ∙ length-append old.replies.items (is.made.reply ∷ [])

      lines_taken : take (length new.replies.items) lines ≡ take (length old.replies.items) lines ++ numbered ∷ []
      lines_taken = ap (λ (n : ℕ). take n lines) {y = suc (length old.replies.items)} (omega (arith, one_more)) ∙ take-suc lines (length old.replies.items) nothing lt ∙ ap (λ (l : Numbered). take (length old.replies.items) lines ++ l ∷ []) here

      between : bank_tells → (length mid_tape ≤ is.made.reply.end) × (is.made.reply.end ≤ length tape)
      between t = reply_between (setting_of bank_tells given mid_tape tape backup mid now) (histories_in new.state) is.made.reply is.made.reply.what t (is.replied.turn.ends t) is.replied.end is.replied.at_end

      answer_to : (what : Answered) → IsEndNow bank_tells (length tape) is.made.reply what
          → IsAnswer (setting_of bank_tells given mid_tape tape backup mid now) (histories_in new.state) (told_before (histories_in new.state)) numbered.line (length tape) what
          → IsAnswer (setting_of bank_tells given first_tape tape backup start now) (histories_in new.state) (told_before (histories_in new.state)) numbered.line is.made.reply.end what
      answer_to (Inside epoch at) end was = was
      answer_to (IsOutside outside) end was =
          answer_wider (setting_of bank_tells given mid_tape tape backup mid now) (setting_of bank_tells given first_tape tape backup start now) wider_step (length tape) is.made.reply.end end (λ t. omega arith)
          (histories_in new.state) (told_before (histories_in new.state)) numbered.line (IsOutside outside) was

      reply_to : IsReplyTo (setting_of bank_tells given first_tape tape backup start now) (histories_in new.state) (told_before (histories_in new.state)) numbered is.made.reply
      reply_to = record {
        line = is.replied.line;
        lane = is.replied.lane;
        end = is.replied.end;
        within = λ t. subst (λ (l : Lane). mark_reached 0 l is.made.reply.what is.made.reply.end ≤ length tape) (sym (is.replied.lane ∙ script)) (between t).1;
        answer = subst (λ (l : Lane). IsAnswerIn (setting_of bank_tells given first_tape tape backup start now) (histories_in new.state) (told_before (histories_in new.state)) l numbered.line is.made.reply.end is.made.reply.what) (sym script)
            (answer_to is.made.reply.what is.replied.at_end
            (subst (λ (c : Course). IsAnswer (setting_of bank_tells given mid_tape tape backup mid now) (histories_in new.state) c numbered.line (length tape) is.made.reply.what) (course_still is.replied.turn.grown) is.replied.turn.answer));
      }

      ends_new : bank_tells → AreInOrder (length first_tape) (length tape) new.replies.items
      ends_new t = subst (λ (rs : List LineReply). AreInOrder (length first_tape) (length tape) rs) (sym is.more)
          (order_more (length first_tape) (length mid_tape) (length tape) old.replies.items is.made.reply (performed.ends t) ((between t).0) (is.replied.lane ∙ script) ((between t).1))

      replies_new : AreReplies (setting_of bank_tells given first_tape tape backup start now) (histories_in new.state) (at_rest 0) (take (length new.replies.items) lines) new.replies.items
      replies_new = subst (λ (ls : List Numbered). AreReplies (setting_of bank_tells given first_tape tape backup start now) (histories_in new.state) (at_rest 0) ls new.replies.items) (sym lines_taken)
          (subst (λ (rs : List LineReply). AreReplies (setting_of bank_tells given first_tape tape backup start now) (histories_in new.state) (at_rest 0) (take (length old.replies.items) lines ++ numbered ∷ []) rs) (sym is.more)
          (replies_more (setting_of bank_tells given first_tape tape backup start now) (histories_in new.state) (at_rest 0) (take (length old.replies.items) lines) old.replies.items numbered is.made.reply (replies_still is.replied.turn.grown) reply_to))

      recorded_here : IsRecordedIn (setting_of bank_tells given first_tape tape backup start now) (histories_in new.state) (told_before (histories_in new.state)) numbered.lane numbered.line is.made.reply.what performed.last (record_in new.state)
      recorded_here = subst (λ (l : Lane). IsRecordedIn (setting_of bank_tells given first_tape tape backup start now) (histories_in new.state) (told_before (histories_in new.state)) l numbered.line is.made.reply.what performed.last (record_in new.state)) (sym script)
          (recorded-wider (setting_of bank_tells given mid_tape tape backup mid now) (setting_of bank_tells given first_tape tape backup start now) wider_step (histories_in new.state) numbered.line is.made.reply.what performed.last (record_in new.state)
          (subst (λ (o : Option Record). IsRecorded (setting_of bank_tells given mid_tape tape backup mid now) (histories_in new.state) numbered.line is.made.reply.what o (record_in new.state)) (sym (performed.recorded_now going)) is.replied.turn.recorded))

      recorded_new : AreRecorded (setting_of bank_tells given first_tape tape backup start now) (histories_in new.state) (at_rest 0) None (take (length new.replies.items) lines) new.replies.items (record_in new.state)
      recorded_new = subst (λ (ls : List Numbered). AreRecorded (setting_of bank_tells given first_tape tape backup start now) (histories_in new.state) (at_rest 0) None ls new.replies.items (record_in new.state)) (sym lines_taken)
          (subst (λ (rs : List LineReply). AreRecorded (setting_of bank_tells given first_tape tape backup start now) (histories_in new.state) (at_rest 0) None (take (length old.replies.items) lines ++ numbered ∷ []) rs (record_in new.state)) (sym is.more)
          (records-both (setting_of bank_tells given first_tape tape backup start now) (histories_in new.state) (at_rest 0) None performed.last (record_in new.state) (take (length old.replies.items) lines) old.replies.items (numbered ∷ []) (is.made.reply ∷ []) (records_still is.replied.turn.grown)
          (record_in new.state, recorded_here, stored, refl)))

      course_new : course_in new.state ≡ course_of (histories_in new.state) (at_rest 0) (take (length new.replies.items) lines) new.replies.items
      course_new = is.replied.turn.course ∙ ap (λ (c : Course). course_after (histories_in new.state) c InScript numbered.line is.made.reply.what) (course_still is.replied.turn.grown)
          ∙ ap (λ (l : Lane). course_after (histories_in new.state) (told_before (histories_in new.state)) l numbered.line is.made.reply.what) (sym script)
          ∙ sym (course_more (histories_in new.state) (at_rest 0) lines_before old.replies.items numbered is.made.reply (length-take-le (length old.replies.items) lines (omega (arith, lt))))
          ∙ ap (λ (ls : List Numbered). course_of (histories_in new.state) (at_rest 0) ls (old.replies.items ++ is.made.reply ∷ [])) (sym lines_taken)
          ∙ ap (λ (rs : List LineReply). course_of (histories_in new.state) (at_rest 0) (take (length new.replies.items) lines) rs) (sym is.more)

      refused_new : new.refused ≡ has_refusal (histories_in new.state) lines new.replies.items
      refused_new = is.refused ∙ ap (λ (b : Bool). b || is.made.refused) (performed.refused ∙ sym ((shown_still is.replied.turn.grown).1))
          ∙ ap (λ (b : Bool). has_refusal (histories_in new.state) lines old.replies.items || b) is.replied.refusal
          ∙ sym (refusal_more (histories_in new.state) lines old.replies.items nothing numbered is.made.reply lt here)
          ∙ ap (λ (rs : List LineReply). has_refusal (histories_in new.state) lines rs) (sym is.more)

      performed_reply : (o : Option Stop) → new.stopped ≡ o → ((f c : Course) → c ≡ f → IsCourse o (histories_in new.state) (drop (length new.replies.items) lines) f c) → IsPerformed (setting_of bank_tells given first_tape tape backup start now) lines new
      performed_reply o stop course = record {
        own = is.replied.turn.own;
        few = omega (arith, one_more, lt);
        replies = replies_new;
        course = subst (λ (x : Option Stop). IsCourse x (histories_in new.state) (drop (length new.replies.items) lines) (course_of (histories_in new.state) (at_rest 0) (take (length new.replies.items) lines) new.replies.items) (course_in new.state)) (sym stop)
            (course (course_of (histories_in new.state) (at_rest 0) (take (length new.replies.items) lines) new.replies.items) (course_in new.state) course_new);
        last = record_in new.state;
        recorded = recorded_new;
        recorded_now = λ none. refl;
        losses = losses_add (setting_of bank_tells given first_tape mid_tape backup start mid) (setting_of bank_tells given mid_tape tape backup mid now) (setting_of bank_tells given first_tape tape backup start now) wider_was wider_step (histories_in old.state) (histories_in new.state) is.replied.turn.grown performed.losses is.replied.turn.losses;
        ends = ends_new;
        refused = refused_new;
        written = λ t. subst (λ (rs : List LineReply). AreWritesPlaced (setting_of bank_tells given first_tape tape backup start now) (histories_in new.state) new.stopped (course_in new.state).running lines rs) (sym is.more)
            (placed-reply given backup first_tape mid_tape tape start mid now (histories_in old.state) (histories_in new.state) lines old.replies.items nothing numbered t (grew.more t) lt here (performed.ends t) (course_in old.state).running (course_in new.state).running (written_before t) new.stopped is.made.reply is.replied.at_end
            (is.replied.written t));
      }

      text_new : report_text (histories_in new.state) lines new.replies.items ≡ report_text (histories_in old.state) lines old.replies.items ++ reply_text (histories_in new.state) numbered.line is.made.reply
      text_new = ap (λ (rs : List LineReply). report_text (histories_in new.state) lines rs) is.more ∙ text_more (histories_in new.state) lines old.replies.items nothing numbered is.made.reply lt here
          ∙ ap (λ (t : List ℕ). t ++ reply_text (histories_in new.state) numbered.line is.made.reply) ((shown_still is.replied.turn.grown).0)

    performed_short : IsUnreplied (setting_of bank_tells given mid_tape tape backup mid now) old.state new.state numbered.line → new.replies.items ≡ old.replies.items → new.refused ≡ old.refused → new.stopped ≡ Some WantsMemory
        → IsPerformed (setting_of bank_tells given first_tape tape backup start now) lines new
    performed_short none same refused stop = record {
      own = none.own;
      few = omega (arith, lt, ap (λ (l : List LineReply). length l) same);
      replies = subst (λ (rs : List LineReply). AreReplies (setting_of bank_tells given first_tape tape backup start now) (histories_in new.state) (at_rest 0) (take (length rs) lines) rs) (sym same) (replies_still none.grown);
      course = subst (λ (x : Option Stop). IsCourse x (histories_in new.state) (drop (length new.replies.items) lines) (course_of (histories_in new.state) (at_rest 0) (take (length new.replies.items) lines) new.replies.items) (course_in new.state)) (sym stop)
          (subst (λ (rs : List LineReply). IsCourse (Some WantsMemory) (histories_in new.state) (drop (length rs) lines) (course_of (histories_in new.state) (at_rest 0) (take (length rs) lines) rs) (course_in new.state)) (sym same) (by_course none.course));
      last = performed.last;
      recorded = subst (λ (rs : List LineReply). AreRecorded (setting_of bank_tells given first_tape tape backup start now) (histories_in new.state) (at_rest 0) None (take (length rs) lines) rs performed.last) (sym same) (records_still none.grown);
      recorded_now = λ going_on. absurd (let both : Some WantsMemory ≡ None = sym stop ∙ going_on in cc);
      losses = losses_add (setting_of bank_tells given first_tape mid_tape backup start mid) (setting_of bank_tells given mid_tape tape backup mid now) (setting_of bank_tells given first_tape tape backup start now) wider_was wider_step (histories_in old.state) (histories_in new.state) none.grown performed.losses none.losses;
      ends = λ t. subst (λ (rs : List LineReply). AreInOrder (length first_tape) (length tape) rs) (sym same) (order_later (length first_tape) (length mid_tape) (length tape) old.replies.items (grows-longer grew t) (performed.ends t));
      refused = refused ∙ performed.refused ∙ sym ((shown_still none.grown).1) ∙ ap (λ (rs : List LineReply). has_refusal (histories_in new.state) lines rs) (sym same);
      written = λ t. subst (λ (rs : List LineReply). AreWritesPlaced (setting_of bank_tells given first_tape tape backup start now) (histories_in new.state) new.stopped (course_in new.state).running lines rs) (sym same)
          (subst (λ (o : Option Stop). AreWritesPlaced (setting_of bank_tells given first_tape tape backup start now) (histories_in new.state) o (course_in new.state).running lines old.replies.items) (sym stop)
          (subst (λ (b : Bool). AreWritesPlaced (setting_of bank_tells given first_tape tape backup start now) (histories_in new.state) (Some WantsMemory) b lines old.replies.items) (short-runs (histories_in new.state) (course_in old.state) numbered.line (course_in new.state) none.course)
          (placed-short given backup first_tape mid_tape tape start mid now (histories_in old.state) (histories_in new.state) lines old.replies.items nothing numbered t (grew.more t) lt here (performed.ends t) (course_in old.state).running (course_in old.state).running (written_before t) (none.written t))));
    }
      where
        first_behind : drop (length old.replies.items) lines ≡ numbered ∷ drop (suc (length old.replies.items)) lines
        first_behind = drop-cons lines (length old.replies.items) nothing lt ∙ ap (λ (l : Numbered). l ∷ drop (suc (length old.replies.items)) lines) here

        by_course : IsCourseShort (histories_in new.state) (course_in old.state) numbered.line (course_in new.state)
            → (course_in new.state ≡ told_before (histories_in new.state)) ⊎ IsCutBehind (histories_in new.state) (drop (length old.replies.items) lines) (told_before (histories_in new.state)) (course_in new.state)
            ⊎ IsInBlock (histories_in new.state) (drop (length old.replies.items) lines) (told_before (histories_in new.state)) (course_in new.state)
        by_course (inl is) = inl (is ∙ course_still none.grown)
        by_course (inr next) = inr (inl (subst (λ (ls : List Numbered). IsCutBehind (histories_in new.state) ls (told_before (histories_in new.state)) (course_in new.state)) (sym first_behind)
            (let waits = by_line numbered.line next in (script, waits.0, waits.1))))
          where
            by_line : (line : Line) → IsCutShort (histories_in new.state) (course_in old.state) line (course_in new.state) → (line ≡ Wait) × IsWaitCut (histories_in new.state) (told_before (histories_in new.state)) (course_in new.state)
            by_line Wait cut = (refl, subst (λ (c : Course). IsWaitCut (histories_in new.state) c (course_in new.state)) (course_still none.grown) cut)
            by_line line cut = absurd cut

    module _ {tells : Type 0} {first before : List ℕ} {first_faults before_faults : ℕ} (after : List ℕ) (after_faults : ℕ) (shown : IsShownTo tells lines old first before first_faults before_faults) where
      taken_before : tells → before ≡ first ++ report_text (histories_in old.state) lines old.replies.items
      taken_before told = subst (λ (o : Option Stop). IsTaken o first before (length (report_text (histories_in old.state) lines (taken_whole o old.replies.items))) (report_text (histories_in old.state) lines old.replies.items)) going (shown.taken told)

      shown_before : old.shown ≡ counted (length (report_text (histories_in old.state) lines old.replies.items))
      shown_before = subst (λ (o : Option Stop). old.shown ≡ counted (length (report_text (histories_in old.state) lines (taken_whole o old.replies.items)))) going shown.shown

      -- a line was performed, by whether the run stops there
      pub step : (o : Option Stop) → new.stopped ≡ o → IsStep tells (setting_of bank_tells given mid_tape tape backup mid now) old new numbered before after o → IsStopCause o before_faults after_faults → before_faults ≤ after_faults
          → IsPerformed (setting_of bank_tells given first_tape tape backup start now) lines new × IsShownTo tells lines new first after first_faults after_faults
      step None stop is cause le = (
        performed_reply is.reply None stop (λ f c same. same),
        record {
          taken = λ told. subst (λ (o : Option Stop). IsTaken o first after (length (report_text (histories_in new.state) lines (taken_whole o new.replies.items))) (report_text (histories_in new.state) lines new.replies.items)) (sym stop)
              (is.taken told ∙ ap (λ (t : List ℕ). t ++ reply_text (histories_in new.state) numbered.line is.reply.made.reply) (taken_before told)
              ∙ append_assoc first (report_text (histories_in old.state) lines old.replies.items) (reply_text (histories_in new.state) numbered.line is.reply.made.reply)
              ∙ ap (λ (t : List ℕ). first ++ t) (sym (text_new is.reply)));
          shown = subst (λ (o : Option Stop). new.shown ≡ counted (length (report_text (histories_in new.state) lines (taken_whole o new.replies.items)))) (sym stop)
              (is.shown ∙ ap (λ (n : ℕ). counted (n + length (reply_text (histories_in new.state) numbered.line is.reply.made.reply))) shown_before
              ∙ counted_more (length (report_text (histories_in old.state) lines old.replies.items)) (length (reply_text (histories_in new.state) numbered.line is.reply.made.reply))
              ∙ ap counted (sym (length-append (report_text (histories_in old.state) lines old.replies.items) (reply_text (histories_in new.state) numbered.line is.reply.made.reply)))
              ∙ ap (λ (t : List ℕ). counted (length t)) (sym (text_new is.reply)));
          cause = subst (λ (o : Option Stop). IsStopCause o first_faults after_faults) (sym stop) tt;
          never_falls = omega (arith, le, shown.never_falls);
        },
      )
      step (Some WriteFault) stop is cause le = (
        performed_reply is.reply (Some WriteFault) stop (λ f c same. inl same),
        record {
          taken = λ told. subst (λ (o : Option Stop). IsTaken o first after (length (report_text (histories_in new.state) lines (taken_whole o new.replies.items))) (report_text (histories_in new.state) lines new.replies.items)) (sym stop)
              (part told (is.taken told));
          shown = subst (λ (o : Option Stop). new.shown ≡ counted (length (report_text (histories_in new.state) lines (taken_whole o new.replies.items)))) (sym stop)
              (is.shown ∙ shown_before ∙ ap (λ (t : List ℕ). counted (length t)) (sym ((shown_still is.reply.replied.turn.grown).0))
              ∙ ap (λ (rs : List LineReply). counted (length (report_text (histories_in new.state) lines rs))) (sym all_but_last));
          cause = subst (λ (o : Option Stop). IsStopCause o first_faults after_faults) (sym stop) (risen_since cause);
          never_falls = omega (arith, le, shown.never_falls);
        },
      )
        where
          all_but_last : take (length new.replies.items - 1) new.replies.items ≡ old.replies.items
          all_but_last = ap (λ (rs : List LineReply). take (length new.replies.items - 1) rs) is.reply.more
              ∙ take_at old.replies.items (is.reply.made.reply ∷ []) (length new.replies.items - 1) (omega (arith, one_more is.reply))

          part : tells → ((n : ℕ) × (after ≡ before ++ take n (reply_text (histories_in new.state) numbered.line is.reply.made.reply))) → (n : ℕ) × (length (report_text (histories_in new.state) lines (take (length new.replies.items - 1) new.replies.items)) ≤ n) × (after ≡ first ++ take n (report_text (histories_in new.state) lines new.replies.items))
          part told (n, taken) = (
            length (report_text (histories_in old.state) lines old.replies.items) + n,
            (let whole = ap (λ (rs : List LineReply). length (report_text (histories_in new.state) lines rs)) all_but_last ∙ ap (λ (t : List ℕ). length t) ((shown_still is.reply.replied.turn.grown).0) in omega (arith, whole)),
            taken ∙ ap (λ (t : List ℕ). t ++ take n (reply_text (histories_in new.state) numbered.line is.reply.made.reply)) (taken_before told)
                ∙ append_assoc first (report_text (histories_in old.state) lines old.replies.items) (take n (reply_text (histories_in new.state) numbered.line is.reply.made.reply))
                ∙ ap (λ (t : List ℕ). first ++ t) (sym (take-append-add (report_text (histories_in old.state) lines old.replies.items) (reply_text (histories_in new.state) numbered.line is.reply.made.reply) n)
                ∙ ap (λ (t : List ℕ). take (length (report_text (histories_in old.state) lines old.replies.items) + n) t) (sym (text_new is.reply))),
          )

          risen_since : HasRisen before_faults after_faults → HasRisen first_faults after_faults
          risen_since risen = grind (arith, nat_tests, risen, shown.never_falls)
      step (Some WantsMemory) stop is cause le = (
        performed_short is.none is.same is.refused stop,
        record {
          taken = λ told. subst (λ (o : Option Stop). IsTaken o first after (length (report_text (histories_in new.state) lines (taken_whole o new.replies.items))) (report_text (histories_in new.state) lines new.replies.items)) (sym stop)
              (is.taken ∙ taken_before told ∙ ap (λ (t : List ℕ). first ++ t) (sym same_text));
          shown = subst (λ (o : Option Stop). new.shown ≡ counted (length (report_text (histories_in new.state) lines (taken_whole o new.replies.items)))) (sym stop)
              (is.shown ∙ shown_before ∙ ap (λ (t : List ℕ). counted (length t)) (sym same_text));
          cause = subst (λ (o : Option Stop). IsStopCause o first_faults after_faults) (sym stop) tt;
          never_falls = omega (arith, le, shown.never_falls);
        },
      )
        where
          same_text : report_text (histories_in new.state) lines new.replies.items ≡ report_text (histories_in old.state) lines old.replies.items
          same_text = ap (λ (rs : List LineReply). report_text (histories_in new.state) lines rs) is.same ∙ (shown_still is.none.grown).0

  -- ---- a block

  module _ (count : ℕ) (some : 1 ≤ count) (fits : length old.replies.items + count ≤ length lines) {tells : Type 0} {old_taken new_taken : List ℕ}
      (did : IsBlockStep tells (setting_of bank_tells given mid_tape tape backup mid now) old new (take count (drop (length old.replies.items) lines)) old_taken new_taken) where
    abbrev n : ℕ
    n = length old.replies.items

    abbrev rest : List Numbered
    rest = drop n lines

    abbrev block : List Numbered
    block = take count rest

    abbrev hs : List History
    hs = histories_in new.state

    abbrev made : List LineReply
    made = did.shown.shown.made

    abbrev m : ℕ
    m = length made

    abbrev wide : Setting
    wide = setting_of bank_tells given first_tape tape backup start now

    grown : AreGrown (histories_in old.state) hs
    grown = did.answered.turn.grown

    rest_long : count ≤ length rest
    rest_long = let long = length-drop n lines in omega (arith, long, fits)

    block_long : length block ≡ count
    block_long = length-take-le count rest rest_long

    few : (m ≤ length block) × (m ≤ length did.whats)
    few = made-few bank_tells (length tape) hs block did.whats made did.shown.shown.told

    few_made : m ≤ count
    few_made = let le = few.0 in omega (arith, le, block_long)

    lanes : All (λ line. line.lane ≢ InScript) block
    lanes = block-lanes block did.block

    answers : AreAnswersBeside hs (told_before hs) block did.whats
    answers = subst (λ (c : Course). AreAnswersBeside hs c block did.whats) (course_still grown) did.answered.answers

    longer : length new.replies.items ≡ n + m
    longer = ap (λ (l : List LineReply). length l) did.shown.shown.more ∙ length-append old.replies.items made

    front : take m block ≡ take m rest
    front = take-take m count rest few_made

    lines_are : take (length new.replies.items) lines ≡ take n lines ++ take m rest
    lines_are = ap (λ (k : ℕ). take k lines) longer ∙ take-add n m lines

    block_replies : AreReplies wide hs (at_rest 0) (take (length new.replies.items) lines) new.replies.items
    block_replies = subst (λ (ls : List Numbered). AreReplies wide hs (at_rest 0) ls new.replies.items) (sym lines_are)
        (subst (λ (rs : List LineReply). AreReplies wide hs (at_rest 0) (take n lines ++ take m rest) rs) (sym did.shown.shown.more)
        (replies_both wide hs (at_rest 0) (take n lines) old.replies.items (take m rest) made (replies_still grown)
        (subst (λ (ls : List Numbered). AreReplies wide hs (told_before hs) ls made) front (made-replies wide hs (told_before hs) block did.whats made lanes answers did.shown.shown.told))))

    -- the records from one to the next of them
    made_recorded : (at : Option Record) × AreRecorded wide hs (told_before hs) performed.last (take m block) made at × (m ≡ length did.whats → at ≡ did.answered.last)
    made_recorded = made-records bank_tells (length tape) (setting_of bank_tells given mid_tape tape backup mid now) wide wider_step hs (told_before hs) performed.last did.answered.last block did.whats made
        (last-stored wide hs (at_rest 0) None lines_before old.replies.items performed.last tt (records_still grown)) (block-order block did.block)
        (λ all. subst (λ (o : Option Record). IfSome o (IsRecordStored bank_tells given tape)) (sym (did.answered.recorded_now all)) stored)
        (subst (λ (o : Option Record). AreRecordedBeside (setting_of bank_tells given mid_tape tape backup mid now) hs (told_before hs) o block did.whats did.answered.last) (sym (performed.recorded_now going))
        (subst (λ (c : Course). AreRecordedBeside (setting_of bank_tells given mid_tape tape backup mid now) hs c (record_in old.state) block did.whats did.answered.last) (course_still grown) did.answered.recorded))
        did.shown.shown.told

    abbrev last_now : Option Record
    last_now = made_recorded.0

    block_recorded : AreRecorded wide hs (at_rest 0) None (take (length new.replies.items) lines) new.replies.items last_now
    block_recorded = subst (λ (ls : List Numbered). AreRecorded wide hs (at_rest 0) None ls new.replies.items last_now) (sym lines_are)
        (subst (λ (rs : List LineReply). AreRecorded wide hs (at_rest 0) None (take n lines ++ take m rest) rs last_now) (sym did.shown.shown.more)
        (records-both wide hs (at_rest 0) None performed.last last_now (take n lines) old.replies.items (take m rest) made (records_still grown)
        (subst (λ (ls : List Numbered). AreRecorded wide hs (told_before hs) performed.last ls made last_now) front made_recorded.1)))

    last_is : (o : Option Stop) → o ≡ None → AreAllMade o (length block) m → last_now ≡ record_in new.state
    last_is None goes all =
        let known = few.1 in
        let most = did.answered.few in
        made_recorded.2 (omega (arith, all, known, most)) ∙ did.answered.recorded_now (omega (arith, all, known, most))
    last_is (Some stop) goes all = absurd (cc)

    -- where the run stands by the replies
    abbrev told_now : Course
    told_now = course_of hs (at_rest 0) (take (length new.replies.items) lines) new.replies.items

    told_is : told_now ≡ course_of hs (told_before hs) (take m rest) made
    told_is = ap (λ (ls : List Numbered). course_of hs (at_rest 0) ls new.replies.items) lines_are
        ∙ ap (λ (rs : List LineReply). course_of hs (at_rest 0) (take n lines ++ take m rest) rs) did.shown.shown.more
        ∙ course_both hs (at_rest 0) (take n lines) old.replies.items (take m rest) made (length-take-le n lines (omega (arith, fits)))

    -- all replies were made
    exact : m ≡ count → course_in new.state ≡ told_now
    exact all =
        let known = few.1 in
        let most = did.answered.few in
        did.answered.course (omega (arith, all, known, most, block_long)) ∙ ap (λ (c : Course). course_beside hs c block did.whats) (course_still grown)
        ∙ sym (made-course bank_tells (length tape) hs (told_before hs) block did.whats made did.shown.shown.told (omega (arith, all, block_long)) most)
        ∙ ap (λ (k : ℕ). course_of hs (told_before hs) (take k rest) made) (sym all) ∙ sym told_is

    -- or not all
    next : m < count → (drop (length new.replies.items) lines ≡ get_or rest m did.block.worker ∷ drop (suc m) rest) × ((get_or rest m did.block.worker).lane ≢ InScript)
    next lt = (
      ap (λ (k : ℕ). drop k lines) longer ∙ sym (drop-drop m n lines) ∙ drop-cons rest m did.block.worker (omega (arith, lt, rest_long)),
      subst (λ (l : Numbered). l.lane ≢ InScript) (get_or-take count rest m did.block.worker lt) (all-at (λ line. line.lane ≢ InScript) block m did.block.worker lanes (omega (arith, lt, block_long))),
    )

    -- what was answered of the lines that have no reply
    amid : m < count → IsAmidBlock hs told_now (get_or rest m did.block.worker ∷ drop (suc m) rest) (course_in new.state) ⊎ IsPastMemory hs
    amid lt = by did.answered.amid
      where
        by : IsAmidBehind hs (course_in old.state) block did.whats (course_in new.state) ⊎ IsPastMemory hs → IsAmidBlock hs told_now (get_or rest m did.block.worker ∷ drop (suc m) rest) (course_in new.state) ⊎ IsPastMemory hs
        by (inl behind) = inl
            (subst (λ (ls : List Numbered). IsAmidBlock hs told_now ls (course_in new.state)) (drop-cons rest m did.block.worker (omega (arith, lt, rest_long)))
            (subst (λ (ls : List Numbered). IsAmidBlock hs told_now (drop m ls) (course_in new.state)) (take-drop-whole count rest)
            (subst (λ (ls : List Numbered). IsAmidBlock hs told_now ls (course_in new.state)) (sym (drop-append-le m block (drop count rest) (omega (arith, lt, block_long))))
            (subst (λ (c : Course). IsAmidBlock hs c (drop m block ++ drop count rest) (course_in new.state)) (sym (told_is ∙ ap (λ (ls : List Numbered). course_of hs (told_before hs) ls made) (sym front)))
            (amid-made bank_tells (length tape) hs (told_before hs) (course_in new.state) block (drop count rest) did.whats made (block-till block did.block) (omega (arith, lt, block_long)) answers
            (subst (λ (c : Course). IsAmidBehind hs c block did.whats (course_in new.state)) (course_still grown) behind) did.shown.shown.told)))))
        by (inr past) = inr past

    in_block : m < count → IsInBlock hs (drop (length new.replies.items) lines) told_now (course_in new.state)
    in_block lt = subst (λ (ls : List Numbered). IsInBlock hs ls told_now (course_in new.state)) (sym (next lt).0) ((next lt).1, amid lt)

    block_course : (o : Option Stop) → AreAllMade o (length block) m → IsCourse o hs (drop (length new.replies.items) lines) told_now (course_in new.state)
    block_course None all = exact (omega (arith, all, block_long))
    block_course (Some WriteFault) all = elim (cases_lt m count) [
      | inl lt ↦ inr (in_block lt)
      | inr past ↦ inl (exact (omega (arith, past, few_made)))
    ]
    block_course (Some WantsMemory) all = inr (inr (in_block (omega (arith, all, block_long))))

    block_refused : new.refused ≡ has_refusal hs lines new.replies.items
    block_refused = did.shown.shown.refused ∙ ap (λ (b : Bool). b || has_refusal hs block made) (performed.refused ∙ sym ((shown_still grown).1))
        ∙ ap (λ (b : Bool). has_refusal hs lines old.replies.items || b) (refusal_front hs count rest made few_made)
        ∙ sym (refusal_both hs lines old.replies.items made (omega (arith, fits)))
        ∙ ap (λ (rs : List LineReply). has_refusal hs lines rs) (sym did.shown.shown.more)

    block_ends : bank_tells → AreInOrder (length first_tape) (length tape) new.replies.items
    block_ends t = subst (λ (rs : List LineReply). AreInOrder (length first_tape) (length tape) rs) (sym did.shown.shown.more)
        (order-then (length first_tape) (length mid_tape) (length tape) old.replies.items made (performed.ends t)
        (λ from le. ordered bank_tells hs (length mid_tape) (length tape) t from le (grows-longer grew t) (told_before hs) block did.whats made lanes answers did.shown.shown.told (did.answered.ends t)))

    block_performed : IsPerformed wide lines new
    block_performed = record {
      own = did.answered.turn.own;
      few = omega (arith, longer, few_made, fits);
      replies = block_replies;
      course = block_course new.stopped did.shown.all;
      last = last_now;
      recorded = block_recorded;
      recorded_now = λ goes. last_is new.stopped goes did.shown.all;
      losses = losses_add (setting_of bank_tells given first_tape mid_tape backup start mid) (setting_of bank_tells given mid_tape tape backup mid now) wide wider_was wider_step (histories_in old.state) hs grown performed.losses did.answered.turn.losses;
      ends = block_ends;
      refused = block_refused;
      written = λ t. subst (λ (rs : List LineReply). AreWritesPlaced wide hs new.stopped (course_in new.state).running lines rs) (sym did.shown.shown.more)
          (placed-more given backup first_tape mid_tape tape start mid now (histories_in old.state) hs lines old.replies.items did.block.worker (get_or lines n did.block.worker) t (grew.more t) (omega (arith, some, fits)) refl (performed.ends t) (course_in old.state).running (course_in new.state).running (written_before t) new.stopped made
          (did.written t));
    }

    -- the text of all replies, and of the first of them
    text_is : (more : List LineReply) → length more ≤ count → report_text hs lines (old.replies.items ++ more) ≡ report_text (histories_in old.state) lines old.replies.items ++ report_text hs block more
    text_is more le = text_both hs lines old.replies.items more (omega (arith, fits)) ∙ ap (λ (t : List ℕ). t ++ report_text hs rest more) ((shown_still grown).0)
        ∙ ap (λ (t : List ℕ). report_text (histories_in old.state) lines old.replies.items ++ t) (sym (text_front hs count rest more le))

    whole_is : (o : Option Stop) → AreAllMade o (length block) m → taken_whole o new.replies.items ≡ old.replies.items ++ taken_whole o made
    whole_is None all = did.shown.shown.more
    whole_is (Some WriteFault) all = ap (λ (rs : List LineReply). take (length rs - 1) rs) did.shown.shown.more
        ∙ ap (λ (k : ℕ). take k (old.replies.items ++ made)) {y = n + (m - 1)} (let sum = length-append old.replies.items made in omega (arith, sum, all)) ∙ take-append-add old.replies.items made (m - 1)
    whole_is (Some WantsMemory) all = did.shown.shown.more

    whole_few : (o : Option Stop) → length (taken_whole o made) ≤ count
    whole_few None = few_made
    whole_few (Some WriteFault) = let long = length-take-le (m - 1) made (omega arith) in omega (arith, long, few_made)
    whole_few (Some WantsMemory) = few_made

    module _ {first : List ℕ} {first_faults before_faults : ℕ} (after_faults : ℕ) (shown : IsShownTo tells lines old first old_taken first_faults before_faults) (cause : IsStopCause new.stopped before_faults after_faults) (falls : before_faults ≤ after_faults) where
      abbrev text : List ℕ
      text = report_text (histories_in old.state) lines old.replies.items

      was_taken : tells → old_taken ≡ first ++ text
      was_taken told = subst (λ (o : Option Stop). IsTaken o first old_taken (length (report_text (histories_in old.state) lines (taken_whole o old.replies.items))) text) going (shown.taken told)

      was_shown : old.shown ≡ counted (length text)
      was_shown = subst (λ (o : Option Stop). old.shown ≡ counted (length (report_text (histories_in old.state) lines (taken_whole o old.replies.items)))) going shown.shown

      taken_on : (told : tells) (o : Option Stop) (whole : ℕ) → IsTaken o old_taken new_taken whole (report_text hs block made) → IsTaken o first new_taken (length text + whole) (text ++ report_text hs block made)
      taken_on told None whole is = is ∙ ap (λ (t : List ℕ). t ++ report_text hs block made) (was_taken told) ∙ append_assoc first text (report_text hs block made)
      taken_on told (Some WriteFault) whole (k, le, is) = (
        length text + k,
        omega (arith, le),
        is ∙ ap (λ (t : List ℕ). t ++ take k (report_text hs block made)) (was_taken told) ∙ append_assoc first text (take k (report_text hs block made))
            ∙ ap (λ (t : List ℕ). first ++ t) (sym (take-append-add text (report_text hs block made) k)),
      )
      taken_on told (Some WantsMemory) whole is = is ∙ ap (λ (t : List ℕ). t ++ report_text hs block made) (was_taken told) ∙ append_assoc first text (report_text hs block made)

      cause_on : (o : Option Stop) → IsStopCause o before_faults after_faults → IsStopCause o first_faults after_faults
      cause_on None is = tt
      cause_on (Some WriteFault) is = grind (arith, nat_tests, is, shown.never_falls)
      cause_on (Some WantsMemory) is = tt

      -- the bytes of the replies that were taken whole
      whole_long : length (report_text hs lines (taken_whole new.stopped new.replies.items)) ≡ length text + length (report_text hs block (taken_whole new.stopped made))
      whole_long = ap (λ (rs : List LineReply). length (report_text hs lines rs)) (whole_is new.stopped did.shown.all)
          ∙ ap (λ (t : List ℕ). length t) (text_is (taken_whole new.stopped made) (whole_few new.stopped)) ∙ length-append text (report_text hs block (taken_whole new.stopped made))

      block_shown : IsShownTo tells lines new first new_taken first_faults after_faults
      block_shown = record {
        taken = λ told. subst (λ (w : ℕ). IsTaken new.stopped first new_taken w (report_text hs lines new.replies.items)) (sym whole_long)
            (subst (λ (t : List ℕ). IsTaken new.stopped first new_taken (length text + length (report_text hs block (taken_whole new.stopped made))) t) (sym (ap (λ (rs : List LineReply). report_text hs lines rs) did.shown.shown.more ∙ text_is made few_made))
            (taken_on told new.stopped (length (report_text hs block (taken_whole new.stopped made))) (did.shown.shown.taken told)));
        shown = did.shown.shown.shown (length text) was_shown ∙ ap counted (sym whole_long);
        cause = cause_on new.stopped cause;
        never_falls = omega (arith, falls, shown.never_falls);
      }

      pub block_step : IsPerformed wide lines new × IsShownTo tells lines new first new_taken first_faults after_faults
      block_step = (block_performed, block_shown)

  -- ---- a turn

  -- its first line
  first-is : (others : List Numbered) (count : ℕ) (first numbered : Numbered) → 1 ≤ count → take count (first ∷ others) ≡ numbered ∷ [] → first ≡ numbered
  first-is others zero first numbered some is = absurd (omega (arith, some))
  first-is others (suc count) first numbered some is = ap (λ (ls : List Numbered). get_or ls 0 first) is

  module _ (count : ℕ) (some : 1 ≤ count) (fits : length old.replies.items + count ≤ length lines) {tells : Type 0} {old_taken new_taken : List ℕ} where
    pub turn_step : {first : List ℕ} {first_faults before_faults : ℕ} (after_faults : ℕ) → IsShownTo tells lines old first old_taken first_faults before_faults → IsTurnStep tells (setting_of bank_tells given mid_tape tape backup mid now) old new (take count (drop (length old.replies.items) lines)) old_taken new_taken → IsStopCause new.stopped before_faults after_faults → before_faults ≤ after_faults
        → IsPerformed (setting_of bank_tells given first_tape tape backup start now) lines new × IsShownTo tells lines new first new_taken first_faults after_faults
    turn_step after_faults shown (inl line) cause falls =
        let lt : length old.replies.items < length lines = omega (arith, some, fits) in
        let here : get_or lines (length old.replies.items) line.numbered ≡ line.numbered =
        first-is (drop (suc (length old.replies.items)) lines) count (get_or lines (length old.replies.items) line.numbered) line.numbered some
        (ap (λ (ls : List Numbered). take count ls) (sym (drop-cons lines (length old.replies.items) line.numbered lt)) ∙ line.is) in
        step line.numbered line.numbered line.script lt here new_taken after_faults shown new.stopped refl line.step cause falls
    turn_step after_faults shown (inr did) cause falls = block_step count some fits did after_faults shown cause falls

    -- a turn that went on has a reply more for each of its lines
    pub turn_count : new.stopped ≡ None → IsTurnStep tells (setting_of bank_tells given mid_tape tape backup mid now) old new (take count (drop (length old.replies.items) lines)) old_taken new_taken → length new.replies.items ≡ length old.replies.items + count
    turn_count going (inl line) =
        let long = length-drop (length old.replies.items) lines in
        let whole = length-take-le count (drop (length old.replies.items) lines) (omega (arith, long, fits)) in
        let one = ap (λ (ls : List Numbered). length ls) line.is in
        let more = one_reply tells (setting_of bank_tells given mid_tape tape backup mid now) old new line.numbered old_taken new_taken new.stopped going line.step in
        omega (arith, whole, one, more)
    turn_count going (inr did) =
        let all = subst (λ (o : Option Stop). AreAllMade o (length (take count (drop (length old.replies.items) lines))) (length did.shown.shown.made)) going did.shown.all in
        let long = length-drop (length old.replies.items) lines in
        let whole = length-take-le count (drop (length old.replies.items) lines) (omega (arith, long, fits)) in
        let more = ap (λ (l : List LineReply). length l) did.shown.shown.more in
        let sum = length-append old.replies.items did.shown.shown.made in
        omega (arith, all, whole, more, sum)

-- where the run stands once all that is told was done
course_told : (histories : List History) (behind : List Numbered) (told course : Course) (o : Option Stop) → course ≡ told → IsCourse o histories behind told course
course_told histories others told course None same = same
course_told histories others told course (Some WriteFault) same = inl same
course_told histories others told course (Some WantsMemory) same = inl same

-- nothing was performed yet
pub performed_none : {B bank_tells : Type 0} {given : Given} {backup : Option ℕ} {tape : List Operation} {start : ℕ → ℕ} (lines : List Numbered) (session : Session B) (bank : B) (epochs : Vec Epoch) → session.state ≡ Idle bank epochs → epochs.items ≡ []
    → session.replies.items ≡ [] → session.refused ≡ false → (o : Option Stop) → session.stopped ≡ o → IsPerformed (setting_of bank_tells given tape tape backup start start) lines session
performed_none {B = B} {bank_tells = bank_tells} {given = given} {backup = backup} {tape = tape} {start = start} lines session bank epochs idle empty none refused o going = record {
  own = subst (λ (s : State B). RunsOwn s) (sym idle) (subst (λ (l : List Epoch). AreOfScript (histories_of l)) (sym empty) (All-nil IsOfScript));
  few = omega (arith, ap (λ (l : List LineReply). length l) none);
  replies = subst (λ (rs : List LineReply). AreReplies (setting_of bank_tells given tape tape backup start start) (histories_in session.state) (at_rest 0) (take (length rs) lines) rs) (sym none) tt;
  course = subst (λ (o : Option Stop). IsCourse o (histories_in session.state) (drop (length session.replies.items) lines) (course_of (histories_in session.state) (at_rest 0) (take (length session.replies.items) lines) session.replies.items) (course_in session.state)) (sym going)
      (course_told _ _ _ _ o (ap (λ (s : State B). course_in s) idle ∙ ap (λ (l : List Epoch). at_rest (length l)) empty ∙ ap (λ (rs : List LineReply). course_of (histories_in session.state) (at_rest 0) (take (length rs) lines) rs) (sym none)));
  last = None;
  recorded = subst (λ (rs : List LineReply). AreRecorded (setting_of bank_tells given tape tape backup start start) (histories_in session.state) (at_rest 0) None (take (length rs) lines) rs None) (sym none) refl;
  recorded_now = λ going_on. sym (ap (λ (s : State B). record_in s) idle);
  losses = subst (λ (s : State B). AreLossesFrom (setting_of bank_tells given tape tape backup start start) [] (histories_in s)) (sym idle) (subst (λ (l : List Epoch). AreLossesFrom (setting_of bank_tells given tape tape backup start start) [] (histories_of l)) (sym empty) tt);
  ends = λ t. subst (λ (rs : List LineReply). AreInOrder (length tape) (length tape) rs) (sym none) (omega arith);
  refused = refused ∙ ap (λ (rs : List LineReply). has_refusal (histories_in session.state) lines rs) (sym none);
  written = λ t. placed-none (setting_of bank_tells given tape tape backup start start) (histories_in session.state) session.stopped (course_in session.state).running lines session.replies.items (ap (λ (s : State B). histories_in s) idle ∙ ap histories_of empty) (omega arith);
}

-- and nothing was shown, where the run goes on, and where memory was short before its first line
module _ {B : Type 0} (tells : Type 0) (lines : List Numbered) (session : Session B) (taken : List ℕ) (faults : ℕ) (none : session.replies.items ≡ []) (shown : session.shown ≡ 0) where
  none_taken : taken ≡ taken ++ report_text (histories_in session.state) lines session.replies.items
  none_taken = subst (λ (rs : List LineReply). taken ≡ taken ++ report_text (histories_in session.state) lines rs) (sym none) (sym (append-nil taken))

  none_shown : session.shown ≡ counted (length (report_text (histories_in session.state) lines session.replies.items))
  none_shown = subst (λ (rs : List LineReply). session.shown ≡ counted (length (report_text (histories_in session.state) lines rs))) (sym none) shown

  pub shown_none : session.stopped ≡ None → IsShownTo tells lines session taken taken faults faults
  shown_none going = record {
    taken = λ t. subst (λ (o : Option Stop). IsTaken o taken taken (length (report_text (histories_in session.state) lines (taken_whole o session.replies.items))) (report_text (histories_in session.state) lines session.replies.items)) (sym going) none_taken;
    shown = subst (λ (o : Option Stop). session.shown ≡ counted (length (report_text (histories_in session.state) lines (taken_whole o session.replies.items)))) (sym going) none_shown;
    cause = subst (λ (o : Option Stop). IsStopCause o faults faults) (sym going) tt;
    never_falls = omega arith;
  }
