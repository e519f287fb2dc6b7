-- The refusals that calls told, and their causes.
use Rattle.std.proofs.Common.{◌≡◌, ℕ, ◌+◌, Bool, true, false, Option, List, [], ◌∷◌, ◌++◌, length, drop, Result, Ok, Err, refl, sym, ◌∙◌, ap, subst, append-nil}
use Rattle.std.proofs.Math.Seq.{drop-append_seam}
use Rattle.std.proofs.lemmas.List.Elements.{All-nil, All-cons, All-push, All-weaker}
use Rattle.std.specs.Prelude.{nat_lt, MatchBool}
use Rattle.std.specs.List.{All}
use Rattle.array_requests.specs.bank_Given.{Given, IsFaulted}
use Rattle.array_requests.specs.bank_the_Operation.{Operation}
use Rattle.array_requests.specs.raid_types_the_Who.{Who}
use Rattle.array_requests.specs.raid_types_the_Fault.{Fault}
use Rattle.array_requests.specs.raid_types_the_Fault_TheVariants.{Refused as IsRefusedWith, NoMemory as WantsMemory}
use Rattle.array_requests.specs.raid_types_the_Refusal.{Refusal}
use Rattle.array_requests.specs.raid_types_the_Refusal_TheVariants.{TooManyMissing, NotResynced, BackupFault, NoSuchRole, SlotFault}
use Rattle.array_requests.specs.sb_specs_the_Members.{Members}
use Rattle.script.specs.history_the_Entry.{Entry}
use Rattle.script.specs.history_the_Event.{Event}
use Rattle.script.specs.history_the_Event_TheVariants.{Added, Stepped, Refused}
use Rattle.script.specs.history_the_Request.{Request}
use Rattle.script.specs.history_the_Request_TheVariants.{Read as AsksRead, Write as AsksWrite, Flush as AsksFlush, Fail as AsksFail, Add as AsksAdd}
use Rattle.script.specs.history_Flat.{visible_of}
use Rattle.script.specs.history_Fits.{IsReadRefused, FitsStop}
use Rattle.script.specs.history_Plain.{entries_of}
use Rattle.script.specs.history_Transfers.{IsRefusedAt, IsPastEnd}
use Rattle.script.specs.history_OneShape.{IsOfCall, OneShapeAnswers, EndsIdleSteps}
use Rattle.array_requests.specs.history_append_Losing.{losses_of}
use Rattle.array_requests.proofs.history_append_CallLaws.{losses-are}
use Rattle.array_requests.proofs.array_call_specs_ReplyLaws.{inside-losses}
use Rattle.array_requests.specs.array_call_specs_Calls.{StandsInside, IsReplied, IsAnswered, IsAddedFor, IsBehind, IsEntered}
use Rattle.array_requests.specs.history_invariant_Recorded.{entry_of}
use Rattle.array_requests.specs.array_reshaping_laws_Writing.{IsRepliedBehind, IsWriteReplied}
use Rattle.script.specs.history_Legal.{call_before}
use Rattle.array_requests.specs.array_reply_specs_Replies.{IsRefusalBy, IsRefusalToldBy, HasToldBy}
use Rattle.run_specs.specs.Making.{Setting}
use Rattle.run_specs.proofs.AskLaws.{one}
use Rattle.array_requests.proofs.history_laws_OneShapeGrowing.{entries-both}

-- a refusal that the event tells has its cause
abbrev pub IsRefusalTold : Setting → Event → Type 0
IsRefusalTold setting event = IsRefusalToldBy setting.backup setting.before setting.now event

-- More entries stand behind the old ones, and each refusal that they tell has its cause.
abbrev pub HasTold : Setting → List Entry → List Entry → Type 0
HasTold setting old new = HasToldBy setting.backup setting.before setting.now old new

-- these are the entries behind the old ones
pub told_more : (setting : Setting) {old new : List Entry} (was : HasTold setting old new) (more : List Entry) → new ≡ old ++ more → All (λ e. IsRefusalTold setting e.event) more
told_more setting {old = old} {new = new} was more is =
    subst (λ (l : List Entry). All (λ e. IsRefusalTold setting e.event) l)
    (sym (drop-append_seam old was.more) ∙ ap (λ (l : List Entry). drop (length old) l) (sym was.grown ∙ is) ∙ drop-append_seam old more) was.told

module _ (backup : Option ℕ) (before now : ℕ → ℕ) where
  abbrev Told : Entry → Type 0
  Told e = IsRefusalToldBy backup before now e.event

  pub told_none : {old new : List Entry} → new ≡ old → HasToldBy backup before now old new
  told_none {old = old} same = record { more = []; grown = same ∙ sym (append-nil old); told = All-nil Told }

  -- ---- one call

  idle_told : (refusal : Refusal) → EndsIdleSteps refusal → IsRefusalBy backup before now refusal
  idle_told (TooManyMissing count most) is = tt
  idle_told (NotResynced role) is = tt
  idle_told refusal is = absurd is

  inside_told : (event : Event) → StandsInside event → IsRefusalToldBy backup before now event
  inside_told (Refused refusal) is = idle_told refusal is
  inside_told (Stepped done left ended) is = absurd is
  inside_told event is = tt

  -- the events of a call of which the last one is its reply
  told_last : {old new : List Entry} (who : Who) (end : ℕ) (inner : List Event) (event : Event) → All (λ e. StandsInside e.event) (entries_of who end inner) → new ≡ old ++ entries_of who end (inner ++ event ∷ [])
      → IsRefusalToldBy backup before now event → HasToldBy backup before now old new
  told_last who end inner event inside is told = record {
    more = entries_of who end (inner ++ event ∷ []);
    grown = is;
    told = subst (λ (l : List Entry). All Told l) (sym (entries-both who end inner (event ∷ [])))
        (All-push Told (entries_of who end inner) (one who end event) (All-weaker (λ e. StandsInside e.event) Told (λ e is. inside_told e.event is) (entries_of who end inner) inside) told);
  }

  pub told_behind : {old new : List Entry} {who : Who} {event : Event} → IsBehind who old new event → IsRefusalToldBy backup before now event → HasToldBy backup before now old new
  told_behind {who = who} {event = event} was told = told_last who was.end (losses_of was.roles was.spares) event (inside-losses who was.end (losses_of was.roles was.spares) (losses-are was.roles was.spares)) was.is told

  pub told_entered : {tells : Type 0} {tape : List Operation} {old new : List Entry} {who : Who} {event : Event} → IsEntered tells tape who old new (event ∷ []) → IsRefusalToldBy backup before now event → HasToldBy backup before now old new
  told_entered {who = who} {event = event} was told = record { more = one who was.end event ∷ []; grown = was.is; told = All-cons Told (one who was.end event) [] told (All-nil Told) }

  -- a request is answered so that a refusal has its cause
  abbrev Answers : Request → Type 0
  Answers request = (size : ℕ) (before_reply call : List Entry) (event : Event) → OneShapeAnswers size before_reply call request event → IsRefusalToldBy backup before now event

  told_replied : {size : ℕ} {request : Request} {who : Who} {old new : List Entry} {event : Event} → IsReplied size request who old new event → IsRefusalToldBy backup before now event → HasToldBy backup before now old new
  told_replied {who = who} {event = event} was told = told_last who was.end was.inner event was.inside was.is told

  told_by : {size : ℕ} {request : Request} {who : Who} {old new : List Entry} {event : Event} → Answers request → IsReplied size request who old new event → HasToldBy backup before now old new
  told_by {size = size} {who = who} {old = old} {event = event} answers was =
      let before_reply : List Entry = old ++ entries_of who was.end was.inner in
      told_replied was (answers size before_reply (call_before before_reply (one who was.end event)) event was.fits.answers)

  pub told_answered : (size : ℕ) (request : Request) (who : Who) {old new : List Entry} (event : Event) (r : Result (Unit {0}) Fault) → Answers request → IsAnswered size request who old new event r → HasToldBy backup before now old new
  told_answered size request who event (Ok x) answers was = told_by answers was
  told_answered size request who event (Err (IsRefusedWith refusal)) answers was = told_by answers was
  told_answered size request who event (Err WantsMemory) answers was = told_none was

  -- ---- what a reply may tell

  transfer : (visible to : ℕ) (refusal : Refusal) → IsRefusedAt visible to IsReadRefused refusal → IsRefusalBy backup before now refusal
  transfer visible to (SlotFault slot) is = absurd (neither (nat_lt visible to) is)
    where
      neither : (b : Bool) → MatchBool b (IsPastEnd (SlotFault slot)) (IsReadRefused (SlotFault slot) × (IsPastEnd (SlotFault slot) → ⊥)) → ⊥
      neither true is = absurd is
      neither false is = absurd is.0
  transfer visible to BackupFault is = absurd (neither (nat_lt visible to) is)
    where
      neither : (b : Bool) → MatchBool b (IsPastEnd BackupFault) (IsReadRefused BackupFault × (IsPastEnd BackupFault → ⊥)) → ⊥
      neither true is = absurd is
      neither false is = absurd is.0
  transfer visible to refusal is = tt

  pub read_told : (at count : ℕ) → Answers (AsksRead at count)
  read_told at count size before_reply call (Refused refusal) is = transfer (visible_of size before_reply) (at + count) refusal is
  read_told at count size before_reply call (Stepped done left ended) is = absurd is
  read_told at count size before_reply call event is = tt

  write_told : (at : ℕ) (body : List (List ℕ)) → Answers (AsksWrite at body)
  write_told at body size before_reply call (Refused refusal) is = transfer (visible_of size before_reply) (at + length body) refusal is
  write_told at body size before_reply call (Stepped done left ended) is = absurd is
  write_told at body size before_reply call event is = tt

  pub flush_told : Answers AsksFlush
  flush_told size before_reply call (Refused (TooManyMissing count most)) is = tt
  flush_told size before_reply call (Refused refusal) is = absurd is
  flush_told size before_reply call (Stepped done left ended) is = absurd is
  flush_told size before_reply call event is = tt

  pub fail_told : (role : ℕ) → Answers (AsksFail role)
  fail_told role size before_reply call (Refused (NoSuchRole asked)) is = tt
  fail_told role size before_reply call (Refused refusal) is = absurd is
  fail_told role size before_reply call (Stepped done left ended) is = absurd is
  fail_told role size before_reply call event is = tt

  pub stop_told : (event : Event) → FitsStop event → IsRefusalToldBy backup before now event
  stop_told (Refused (TooManyMissing count most)) is = tt
  stop_told (Refused refusal) is = absurd is
  stop_told (Stepped done left ended) is = absurd is
  stop_told event is = tt

  -- ---- a write, which may finish a window first

  told_written : {size : ℕ} {at : ℕ} {body : List (List ℕ)} {who : Who} {old new : List Entry} {event : Event} → IsRepliedBehind size (AsksWrite at body) who old new event → HasToldBy backup before now old new
  told_written {size = size} {at = at} {body = body} {who = who} {old = old} {event = event} was = record {
    more = was.call ++ entry_of who was.end event ∷ [];
    grown = was.is;
    told = All-push Told was.call (entry_of who was.end event) (All-weaker (λ e. IsOfCall who e × StandsInside e.event) Told (λ e is. inside_told e.event is.1) was.call was.own)
        (write_told at body size (old ++ was.call) (call_before (old ++ was.call) (entry_of who was.end event)) event was.fits.answers);
  }

  pub write_told_by : (size at : ℕ) (body : List (List ℕ)) (who : Who) {old new : List Entry} (r : Result (Unit {0}) Fault) → (r ≡ Err (IsRefusedWith BackupFault) → IsRefusalBy backup before now BackupFault) → IsWriteReplied size at body who old new r
      → HasToldBy backup before now old new
  write_told_by size at body who (Ok x) failed was = told_written was
  write_told_by size at body who (Err (IsRefusedWith BackupFault)) failed was =
      record { more = entry_of who (was.0) (Refused BackupFault) ∷ []; grown = was.1; told = All-cons Told (entry_of who (was.0) (Refused BackupFault)) [] (failed refl) (All-nil Told) }
  write_told_by size at body who (Err (IsRefusedWith refusal)) failed was = told_written was
  write_told_by size at body who (Err WantsMemory) failed was = told_none was

  -- ---- a slot that was to be made a spare

  added_told : (size slot : ℕ) (before_reply call : List Entry) (event : Event) → OneShapeAnswers size before_reply call (AsksAdd slot) event → ((failed : ℕ) → event ≡ Refused (SlotFault failed) → IsFaulted failed before now) → IsRefusalToldBy backup before now event
  added_told size slot before_reply call (Refused (SlotFault failed)) is cause = cause failed refl
  added_told size slot before_reply call (Refused BackupFault) is cause = absurd is
  added_told size slot before_reply call (Refused refusal) is cause = tt
  added_told size slot before_reply call (Stepped done left ended) is cause = absurd is
  added_told size slot before_reply call event is cause = tt

  told_added_by : {size slot : ℕ} {who : Who} {old new : List Entry} {event : Event} → IsReplied size (AsksAdd slot) who old new event → ((failed : ℕ) → event ≡ Refused (SlotFault failed) → IsFaulted failed before now) → HasToldBy backup before now old new
  told_added_by {size = size} {slot = slot} {who = who} {old = old} {event = event} was cause =
      let before_reply : List Entry = old ++ entries_of who was.end was.inner in
      told_replied was (added_told size slot before_reply (call_before before_reply (one who was.end event)) event was.fits.answers cause)

  pub told_added : (size slot : ℕ) (who : Who) (given : Given) (backup_is : Option ℕ) (old new : List Entry) (members after : Members) (r : Result (Unit {0}) Fault)
      → IsAnswered size (AsksAdd slot) who old new (Added slot) r → IsAddedFor given backup_is slot members after before now r → HasToldBy backup before now old new
  told_added size slot who given backup_is old new members after (Ok x) was added = told_added_by was (λ failed is. absurd (cc))
  told_added size slot who given backup_is old new members after (Err (IsRefusedWith (SlotFault told))) was added =
      told_added_by was (λ failed is. subst (λ (s : ℕ). IsFaulted s before now) (sym added.0 ∙ same_slot is) added.2)
    where
      same_slot : {a b : ℕ} → Refused (SlotFault a) ≡ Refused (SlotFault b) → a ≡ b
      same_slot is = cc
  told_added size slot who given backup_is old new members after (Err (IsRefusedWith refusal)) was added = told_added_by was (λ failed is. absurd (cc))
  told_added size slot who given backup_is old new members after (Err WantsMemory) was added = told_none was
