-- What a block of lanes does to a run.
use Rattle.std.proofs.Common.{◌≡◌, ◌⊎◌, inl, inr, ℕ, ◌+◌, ◌||◌, Bool, true, Option, List, [], ◌∷◌, ◌++◌, drop, fold, length, refl, sym, ◌∙◌, ap, subst, arith, append_assoc, append-nil, ne_eqb}
use Rattle.std.proofs.Math.Seq.{drop-append_seam}
use Rattle.std.proofs.lemmas.List.Folds.{list_any-append}
use Rattle.std.proofs.lemmas.List.Sums.{fold-append}
use Rattle.std.proofs.lemmas.List.Elements.{All-append, All-head, All-tail, All-weaker}
use Rattle.std.specs.Prelude.{IsTrue, IsFalse, if◌then◌else◌}
use Rattle.std.specs.Global.{Vec}
use Rattle.std.specs.List.{All, list_any}
use Rattle.lane_shared.specs.bank_the_Operation.{Operation}
use Rattle.lane_shared.specs.bank_Given.{Given}
use Rattle.run_line_answers.specs.sb_specs_the_Members.{Members}
use Rattle.run_line_answers.specs.sb_specs_Reading.{is_reshaping, list_length}
use Rattle.run_line_answers.specs.sb_specs_Reads.{has_spare}
use Rattle.script_status.specs.history_the_Entry.{Entry}
use Rattle.script_status.specs.history_the_Epoch.{Epoch}
use Rattle.script_status.specs.history_the_Event.{Event}
use Rattle.script_status.specs.history_the_Event_TheVariants.{Added}
use Rattle.script_status.specs.history_Flat.{next_number, number_after, length_of, limit_of}
use Rattle.script_status.specs.history_Reshaped.{is_planned}
use Rattle.script_status.specs.history_World.{World}
use Rattle.run_line_answers.specs.reshape_request_Left.{phases_of}
use Rattle.run_line_answers.specs.array_call_specs_Calls.{IsEndOf}
use Rattle.run_line_answers.specs.run_specs_the_State_TheVariants.{Running}
use Rattle.run_line_answers.specs.array_requests_Going.{is_added as is_told_added, MayHoldSince, WasMemberSince, MayBeNewSpare, AreHeldSince as AreHeldBy, AreLossesSince as AreLossesBy, HasGoneOn}
use Rattle.run_line_answers.specs.array_reply_specs_Going.{is_begin, may_drop}
use Rattle.run_line_answers.specs.array_specs_Parts.{RunningParts}
use Rattle.run_line_answers.specs.run_specs_Asked.{IsSizedBy}
use Rattle.run_line_answers.specs.run_specs_Blocks.{IsOfBlock, IsBlockEntered}
use Rattle.run_line_answers.specs.run_specs_Caused.{record_of}
use Rattle.run_line_answers.specs.run_specs_Ended.{IsGoing}
use Rattle.run_line_answers.specs.run_specs_Histories.{History, histories_of, is_end}
use Rattle.run_line_answers.specs.run_specs_Making.{Setting, setting_of, world_at, history_world, is_added, IsSpareSince, MayHaveHeld, AreHeldSince}
use Rattle.run_line_answers.specs.run_specs_Records.{IsLeftTold, IsLeftByBlock}
use Rattle.run_line_answers.specs.array_steps_Steps.{is_turn}
use Rattle.run_line_answers.specs.run_specs_Written.{IsWritten}
use Rattle.run_line_answers.proofs.run_requests_Writing.{written-inside}
use Rattle.run_line_answers.specs.run_specs_States.{running_history, histories_in, IsCaller, IsGrown, AreLossesBehind, AreLossesSince, RunsOwn, IsBlockTurn}
use Rattle.run_line_answers.specs.Turning.{IsTurningTold}
use Rattle.run_line_answers.proofs.run_requests_Apart.{apart-all, own-all}
use Rattle.run_line_answers.proofs.run_requests_Legal.{former_grown, accepted-grown}
use Rattle.run_line_answers.proofs.array_members_SafeStretch.{grows-longer}
use Rattle.run_line_answers.proofs.run_specs_Losses.{IsHistoryLater, told-behind, held-more, held-before, may-held, loss-since, losses-last}
use Rattle.run_line_answers.proofs.run_requests_Sizes.{sized-now}
use Rattle.run_line_answers.proofs.run_specs_Told.{IsRefusalTold, HasTold, told_more}
use Rattle.run_line_answers.proofs.run_requests_Called.{epoch-opening, told-backup}
use Rattle.run_line_answers.proofs.Turns.{grown_last}

-- ---- what may have held a role

-- a slot that is told added is
added-same : (slot : ℕ) (event : Event) → is_told_added slot event ≡ is_added slot event
added-same slot (Added added) = refl
added-same slot event = refl

any-added : (slot : ℕ) (entries : List Entry) → list_any (λ e. is_told_added slot e.event) entries ≡ list_any (λ e. is_added slot e.event) entries
any-added slot [] = refl
any-added slot (e ∷ entries) = λ i. added-same slot e.event i || any-added slot entries i

module _ (world : World) (old done : List Entry) (members : Members) (since : AreHeldSince world old members) where
  told-before : (passes : Entry → Bool) → IsTrue (list_any passes old) → IsTrue (list_any passes (old ++ done))
  told-before passes told = list_any-append passes old done ∙ ap (λ (b : Bool). b || list_any passes done) told

  spare-more : (slot : ℕ) → IsSpareSince world old slot → IsSpareSince world (old ++ done) slot
  spare-more slot (inl first) = inl first
  spare-more slot (inr (inl told)) = inr (inl (told-before (λ e. is_added slot e.event) told))
  spare-more slot (inr (inr (finished, had, held))) = inr (inr (told-before (λ e. may_drop e.event) finished, had, held))

  spare-since : (slot : ℕ) → MayBeNewSpare members done slot → IsSpareSince world (old ++ done) slot
  spare-since slot (inl told) = inr (inl (told-behind (λ e. is_added slot e.event) old done (sym (any-added slot done) ∙ told)))
  spare-since slot (inr (finished, had, held)) = of (held-more world old done had slot (since.roles had slot held))
    where
      of : MayHaveHeld world (old ++ done) had slot → IsSpareSince world (old ++ done) slot
      of (inl first) = inr (inr (told-behind (λ e. may_drop e.event) old done finished, had, first))
      of (inr spare) = spare

  held-since : (role slot : ℕ) → MayHoldSince members done role slot → MayHaveHeld world (old ++ done) role slot
  held-since role slot (inl may) = held-more world old done role slot (may-held world old members since role slot may)
  held-since role slot (inr spare) = inr (spare-since slot spare)

  was-since : (slot : ℕ) → WasMemberSince members done slot → (role : ℕ) × MayHaveHeld world (old ++ done) role slot
  was-since slot (inl (inl spare)) = (0, held-since 0 slot (inl (inr spare)))
  was-since slot (inl (inr (role, had))) = (role, held-since role slot (inl (inl had)))
  was-since slot (inr added) = (0, held-since 0 slot (inr (inl added)))

  -- and of the members that are left
  held-now : (new : Members) → AreHeldBy members new done → AreHeldSince world (old ++ done) new
  held-now new held = record { roles = λ role slot is. held-since role slot (held.roles role slot is); spares = λ slot is. by slot (held.spares slot is) }
    where
      by : (slot : ℕ) → (has_spare members.spares slot ≡ true) ⊎ MayBeNewSpare members done slot → IsSpareSince world (old ++ done) slot
      by slot (inl spare) = spare-more slot (since.spares slot spare)
      by slot (inr spare) = spare-since slot spare

-- ---- each loss has its cause

module _ (setting : Setting) (old : List Entry) (history : History) (members : Members) (since : setting.tells → AreHeldSince (history_world setting history) old members) where
  losses-behind : (done more : List Entry) → AreLossesBy members setting.before setting.now done more → All (λ e. IsRefusalTold setting e.event) more → AreLossesBehind setting history (old ++ done) more
  losses-behind done [] was told = tt
  losses-behind done (e ∷ more) (one, was) told = (
    loss-since setting (old ++ done) history (MayHoldSince members done) (WasMemberSince members done) (λ t role slot had. held-since (history_world setting history) old done members (since t) role slot had)
        (λ t slot was. was-since (history_world setting history) old done members (since t) slot was) e.event one (All-head (λ e. IsRefusalTold setting e.event) e more told),
    subst (λ (l : List Entry). AreLossesBehind setting history l more) (sym (append_assoc old done (e ∷ [])))
        (losses-behind (done ++ e ∷ []) more was (All-tail (λ e. IsRefusalTold setting e.event) e more told)),
  )

  losses-called : (more : List Entry) → history.entries ≡ old ++ more → AreLossesBy members setting.before setting.now [] more → HasTold setting old history.entries → AreLossesSince setting old history
  losses-called more is was told = record {
    more = more;
    grown = is;
    failed = subst (λ (l : List Entry). AreLossesBehind setting history l more) (append-nil old) (losses-behind [] more was (told_more setting told more is));
  }

-- ---- the script has called nothing

none-script : (n : ℕ) (more : List Entry) → All (λ e. IsOfBlock e.caller) more → fold (number_after 0) n more ≡ n
none-script n [] all = refl
none-script n (e ∷ more) all =
    ap (λ (b : Bool). fold (number_after 0) (if b then e.number + 1 else n) more) (ne_eqb e.caller 0 (λ is. apart e.caller (All-head (λ x. IsOfBlock x.caller) e more all) is))
    ∙ none-script n more (All-tail (λ x. IsOfBlock x.caller) e more all)
  where
    apart : (c : ℕ) → IsOfBlock c → c ≡ 0 → ⊥
    apart c (inl first) none = absurd (omega (arith, first, none))
    apart c (inr (inl second)) none = absurd (omega (arith, second, none))
    apart c (inr (inr worker)) none = absurd (omega (arith, worker, none))

-- ---- the block

module _ {B tells : Type 0} (given : B → Given) (tape : B → List Operation) (faults : B → ℕ → ℕ) (backup : Option ℕ) (old new : RunningParts B) (epochs : Vec Epoch)
    (was : IsGoing tells (given old.parts.bank) (tape old.parts.bank) backup old.parts epochs.items) (went : HasGoneOn tells given tape faults old new) where
  later : IsHistoryLater (running_history old.parts) (running_history new.parts)
  later = record { same = epoch-opening went.same; more = went.more; grown = went.grown }

  pub block-going : IsEndOf tells new.parts.first new.parts.entries (tape new.parts.bank) → IsGoing tells (given old.parts.bank) (tape new.parts.bank) backup new.parts epochs.items
  block-going ended = record {
    backup_is = went.same.backup ∙ was.backup_is;
    former = λ t. former_grown (given old.parts.bank) backup old.parts.first new.parts.first epochs.items went.grows t (omega (arith, went.same.first)) (was.former t);
    begun = λ t. omega (arith, went.same.first, was.begun t, grows-longer went.grows t);
    accepted = accepted-grown (given old.parts.bank) backup (running_history old.parts) (running_history new.parts) went.grows later.same was.begun was.accepted;
    held = λ t. subst (λ (l : List Entry). AreHeldSince (world_at (given old.parts.bank) (tape new.parts.bank) backup (running_history new.parts)) l new.parts.members) (sym went.grown)
        (held-now (world_at (given old.parts.bank) (tape new.parts.bank) backup (running_history new.parts)) old.parts.entries went.more old.parts.members
        (held-before (given old.parts.bank) backup (running_history old.parts) (running_history new.parts) old.parts.members went.grows later.same was.held t) new.parts.members went.held);
    ended = ended;
  }

  -- each write since is inside the epoch
  pub block-written : IsEndOf tells new.parts.first new.parts.entries (tape new.parts.bank) → tells
      → IsWritten (setting_of tells (given old.parts.bank) (tape old.parts.bank) (tape new.parts.bank) backup (faults old.parts.bank) (faults new.parts.bank)) (histories_in (Running old epochs)) (histories_in (Running new epochs)) (λ slot. ⊥)
  block-written ended t =
      written-inside (setting_of tells (given old.parts.bank) (tape old.parts.bank) (tape new.parts.bank) backup (faults old.parts.bank) (faults new.parts.bank)) (histories_of epochs.items) (running_history old.parts) (running_history new.parts) (λ slot. ⊥)
      went.same.first (was.begun t) (grows-longer went.grows t) (was.ended t) (ended t)

  module _ (own : RunsOwn (Running old epochs)) (entered : IsBlockEntered old.parts.entries new.parts.entries) (turning : IsTurningTold (is_reshaping new.parts.members.newest) (phases_of new.ahead) new.parts.entries)
      (told : IsLeftTold (record_of new)) (limited : limit_of new.parts.entries ≡ new.limit) where
    abbrev setting : Setting
    setting = setting_of tells (given old.parts.bank) (tape old.parts.bank) (tape new.parts.bank) backup (faults old.parts.bank) (faults new.parts.bank)

    callers : All (λ e. IsCaller e.caller) entered.more
    callers = All-weaker (λ e. IsOfBlock e.caller) (λ e. IsCaller e.caller) (λ e is. inr is) entered.more entered.callers

    sized : IsSizedBy (list_length old.parts.members.newest) (list_length new.parts.members.newest) old.parts.entries new.parts.entries
    sized = record { more = went.more; grown = went.grown; sized = went.sized }

    lost : AreLossesSince setting old.parts.entries (running_history new.parts)
    lost = losses-called setting old.parts.entries (running_history new.parts) old.parts.members
        (held-before (given old.parts.bank) backup (running_history old.parts) (running_history new.parts) old.parts.members went.grows later.same was.held)
        went.more went.grown went.losses (told-backup was.backup_is went.refusals)

    grown : IsGrown (running_history old.parts) (running_history new.parts)
    grown = record {
      uuid = went.same.uuid;
      given = went.same.given;
      first = went.same.first;
      more = entered.more;
      grown = entered.grown;
      later = apart-all old.parts.entries new.parts.entries entered.more entered.grown entered.calls callers own.script;
    }

    calls : next_number 0 new.parts.entries ≡ next_number 0 old.parts.entries
    calls = ap (λ (l : List Entry). next_number 0 l) entered.grown ∙ fold-append (number_after 0) 0 old.parts.entries entered.more ∙ none-script (next_number 0 old.parts.entries) entered.more entered.callers

    -- what it leaves of the array's record
    more-is : went.more ≡ entered.more
    more-is = sym (drop-append_seam old.parts.entries went.more) ∙ ap (drop (length old.parts.entries)) (sym went.grown ∙ entered.grown) ∙ drop-append_seam old.parts.entries entered.more

    pub block-left : IsLeftByBlock (faults old.parts.bank) (faults new.parts.bank) (record_of old) (record_of new)
    block-left = record {
      entered = entered;
      sized = went.sized ∙ ap (λ (l : List Entry). length_of (list_length old.parts.members.newest) l) more-is;
      held = subst (λ (l : List Entry). AreHeldBy old.parts.members new.parts.members l) more-is went.held;
      losses = subst (λ (l : List Entry). AreLossesBy old.parts.members (faults old.parts.bank) (faults new.parts.bank) [] l) more-is went.losses;
      same = record { uuid = went.same.uuid; given = went.same.given; first = went.same.first; backup = went.same.backup };
      active = λ still none. went.active still (ap (list_any (λ e. is_begin e.event)) more-is ∙ none);
      ahead = λ planless none. went.ahead planless (ap (list_any (λ e. is_planned e.event)) more-is ∙ none);
      turning = turning;
      left = told;
      limit = limited;
      way = record {
        size = went.way.size;
        aim = λ none. went.way.aim (ap (list_any (λ e. is_planned e.event)) more-is ∙ none);
        unturned = λ none calm.
            let same = went.way.unturned (ap (list_any (λ e. is_planned e.event)) more-is ∙ none) (ap (list_any (λ e. is_turn e.event)) more-is ∙ calm) in
            record { active = same.active; shape = same.shape; final = same.final; ahead = same.ahead };
      };
    }

    pub block-turn : IsBlockTurn setting (Running old epochs) (Running new epochs)
    block-turn = record {
      own = record {
        former = own.former;
        script = own-all old.parts.entries new.parts.entries entered.more entered.grown entered.calls callers own.script;
        going = subst (λ (l : List Entry). All (λ e. IsFalse (is_end e.event)) l) (sym entered.grown) (All-append (λ e. IsFalse (is_end e.event)) old.parts.entries entered.more own.going entered.going);
        sized = (sized-now own.sized sized).1;
        turning = turning;
        room = own.room;
        few = own.few;
      };
      losses = losses-last setting (histories_of epochs.items) (running_history old.parts) (running_history new.parts) lost;
      grown = grown_last (histories_of epochs.items) (running_history old.parts) (running_history new.parts) grown;
      course = record { opened = refl; running = refl; script = calls };
      left = inr block-left;
    }
