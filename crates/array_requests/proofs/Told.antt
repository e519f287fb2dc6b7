-- The refusals that a call told, and their causes.
use Rattle.std.proofs.Common.{◌≡◌, ℕ, ◌+◌, Bool, true, false, Option, Some, None, Result, Ok, Err, List, [], ◌∷◌, ◌++◌, length, refl, sym, ◌∙◌, subst, append-nil}
use Rattle.std.proofs.lemmas.List.Elements.{All-nil, All-cons, All-push, All-weaker}
use Rattle.std.specs.Prelude.{nat_lt, MatchBool, MatchOption, IfSome, IsSome}
use Rattle.bank.specs.Given.{Given, IsFaulted}
use Rattle.bank.specs.declared.bank.Operation.{Operation}
use Rattle.array_call_specs.specs.raid_types_the_Who.{Who}
use Rattle.array_call_specs.specs.raid_types_the_Fault.{Fault}
use Rattle.array_call_specs.specs.raid_types_the_Fault_TheVariants.{Refused as IsRefusedWith, NoMemory as WantsMemory}
use Rattle.array_call_specs.specs.raid_types_the_Refusal.{Refusal}
use Rattle.array_call_specs.specs.raid_types_the_Refusal_TheVariants.{TooManyMissing, NotResynced, BackupFault, NoSuchRole, SlotFault}
use Rattle.array_open.specs.sb_specs_the_Members.{Members}
use Rattle.history_append.specs.history_the_Entry.{Entry}
use Rattle.history_append.specs.history_the_Event.{Event}
use Rattle.history_append.specs.history_the_Event_TheVariants.{Wrote, Added, Stepped, Refused}
use Rattle.history_append.specs.history_the_Request.{Request}
use Rattle.history_append.specs.history_the_Request_TheVariants.{Read as AsksRead, Write as AsksWrite, Flush as AsksFlush, Fail as AsksFail, Add as AsksAdd}
use Rattle.history_append.specs.history_Flat.{visible_of}
use Rattle.history_append.specs.history_Fits.{IsReadRefused, IsWriteRefused}
use Rattle.history_append.specs.history_Legal.{call_before}
use Rattle.history_append.specs.history_Transfers.{IsRefusedAt, IsPastEnd}
use Rattle.history_append.specs.history_OneShape.{IsOfCall, EndsIdleSteps}
use Rattle.history_append.proofs.PlainLaws.{one}
use Rattle.array_open.specs.array_call_specs_Calls.{StandsInside, IsAddedFor, IsEntered}
use Rattle.array_open.specs.array_reply_specs_Replies.{RunningAnswers, IsRefusalBy, IsRefusalToldBy, HasToldBy}
use Rattle.array_requests.proofs.Plain.{IsCallEntered, IsCallAnswered}

module _ (backup : Option ℕ) (before now : ℕ → ℕ) where
  abbrev Told : Entry → Type 0
  Told e = IsRefusalToldBy backup before now e.event

  pub told-none : {old new : List Entry} → new ≡ old → HasToldBy backup before now old new
  told-none {old = old} same = record { more = []; grown = same ∙ sym (append-nil old); told = All-nil Told }

  pub told-entered : {tells : Type 0} {tape : List Operation} {old new : List Entry} {who : Who} {event : Event} → IsEntered tells tape who old new (event ∷ []) → IsRefusalToldBy backup before now event → HasToldBy backup before now old new
  told-entered {who = who} {event = event} was told = record { more = one who was.end event ∷ []; grown = was.is; told = All-cons Told (one who was.end event) [] told (All-nil Told) }

  -- ---- one call

  idle-told : (refusal : Refusal) → EndsIdleSteps refusal → IsRefusalBy backup before now refusal
  idle-told (TooManyMissing count most) is = tt
  idle-told (NotResynced role) is = tt
  idle-told refusal is = absurd is

  inside-told : (event : Event) → StandsInside event → IsRefusalToldBy backup before now event
  inside-told (Refused refusal) is = idle-told refusal is
  inside-told (Stepped done left ended) is = absurd is
  inside-told event is = tt

  -- its reply has its cause
  call-told : {size : ℕ} {request : Request} {who : Who} {old new : List Entry} {event : Event} → IsCallEntered size request who old new event → IsRefusalToldBy backup before now event → HasToldBy backup before now old new
  call-told {who = who} {event = event} was told = record {
    more = was.inner ++ one who was.end event ∷ [];
    grown = was.is;
    told = All-push Told was.inner (one who was.end event) (All-weaker (λ e. IsOfCall who e × StandsInside e.event) Told (λ e is. inside-told e.event is.1) was.inner was.own) told;
  }

  -- a request's replies that are no refusal for a slot or the backup, or have its cause
  abbrev pub Answers : ℕ → Request → Event → Type 0
  Answers size request event = (before_reply call : List Entry) → RunningAnswers size before_reply call request event → IsRefusalToldBy backup before now event

  -- by the answer
  abbrev pub AnswersAll : {T : Type 0} → ℕ → Request → Event → Result T Fault → Type 0
  AnswersAll size request event (Ok x) = Answers size request event
  AnswersAll size request event (Err (IsRefusedWith refusal)) = Answers size request (Refused refusal)
  AnswersAll size request event (Err WantsMemory) = Answers size request event

  told-by : {size : ℕ} {request : Request} {who : Who} {old new : List Entry} {event : Event} → Answers size request event → IsCallEntered size request who old new event → HasToldBy backup before now old new
  told-by {who = who} {old = old} {event = event} answers was = call-told was (answers (old ++ was.inner) (call_before (old ++ was.inner) (one who was.end event)) was.fits.answers)

  pub told-answered : {T : Type 0} (size : ℕ) (request : Request) (who : Who) (old new : List Entry) (event : Event) (result : Result T Fault) → AnswersAll size request event result → IsCallAnswered size request who old new event result
      → HasToldBy backup before now old new
  told-answered size request who old new event (Ok x) answers was = told-by answers was
  told-answered size request who old new event (Err (IsRefusedWith refusal)) answers was = told-by answers was
  told-answered size request who old new event (Err WantsMemory) answers was = told-none was

  -- where each reply has its cause, so has that of each answer
  answers-all : {T : Type 0} (size : ℕ) (request : Request) (event : Event) (result : Result T Fault) → ((event : Event) → Answers size request event) → AnswersAll size request event result
  answers-all size request event (Ok x) all = all event
  answers-all size request event (Err (IsRefusedWith refusal)) all = all (Refused refusal)
  answers-all size request event (Err WantsMemory) all = all event

  -- ---- what a reply may tell

  read-refused : (visible to : ℕ) (refusal : Refusal) → IsRefusedAt visible to IsReadRefused refusal → IsRefusalBy backup before now refusal
  read-refused visible to (SlotFault slot) is = absurd (neither (nat_lt visible to) is)
    where
      neither : (b : Bool) → MatchBool b (IsPastEnd (SlotFault slot)) (IsReadRefused (SlotFault slot) × (IsPastEnd (SlotFault slot) → ⊥)) → ⊥
      neither true is = absurd is
      neither false is = absurd is.0
  read-refused visible to BackupFault is = absurd (neither (nat_lt visible to) is)
    where
      neither : (b : Bool) → MatchBool b (IsPastEnd BackupFault) (IsReadRefused BackupFault × (IsPastEnd BackupFault → ⊥)) → ⊥
      neither true is = absurd is
      neither false is = absurd is.0
  read-refused visible to refusal is = tt

  -- of a write it may be the backup's, where that has failed
  write-refused : (visible to : ℕ) (refusal : Refusal) → (refusal ≡ BackupFault → IsRefusalBy backup before now BackupFault) → IsRefusedAt visible to IsWriteRefused refusal → IsRefusalBy backup before now refusal
  write-refused visible to (SlotFault slot) failed is = absurd (neither (nat_lt visible to) is)
    where
      neither : (b : Bool) → MatchBool b (IsPastEnd (SlotFault slot)) (IsWriteRefused (SlotFault slot) × (IsPastEnd (SlotFault slot) → ⊥)) → ⊥
      neither true is = absurd is
      neither false is = absurd is.0
  write-refused visible to BackupFault failed is = failed refl
  write-refused visible to refusal failed is = tt

  read-answers : (size at count : ℕ) (event : Event) → Answers size (AsksRead at count) event
  read-answers size at count (Refused refusal) before_reply call is = read-refused (visible_of size before_reply) (at + count) refusal is
  read-answers size at count (Stepped done left ended) before_reply call is = absurd is
  read-answers size at count event before_reply call is = tt

  pub read-told : {T : Type 0} (size at count : ℕ) (event : Event) (result : Result T Fault) → AnswersAll size (AsksRead at count) event result
  read-told size at count event result = answers-all size (AsksRead at count) event result (read-answers size at count)

  flush-answers : (size : ℕ) (event : Event) → Answers size AsksFlush event
  flush-answers size (Refused (TooManyMissing count most)) before_reply call is = tt
  flush-answers size (Refused refusal) before_reply call is = absurd is
  flush-answers size (Stepped done left ended) before_reply call is = absurd is
  flush-answers size event before_reply call is = tt

  pub flush-told : {T : Type 0} (size : ℕ) (event : Event) (result : Result T Fault) → AnswersAll size AsksFlush event result
  flush-told size event result = answers-all size AsksFlush event result (flush-answers size)

  fail-answers : (size role : ℕ) (event : Event) → Answers size (AsksFail role) event
  fail-answers size role (Refused (NoSuchRole asked)) before_reply call is = tt
  fail-answers size role (Refused refusal) before_reply call is = absurd is
  fail-answers size role (Stepped done left ended) before_reply call is = absurd is
  fail-answers size role event before_reply call is = tt

  pub fail-told : {T : Type 0} (size role : ℕ) (event : Event) (result : Result T Fault) → AnswersAll size (AsksFail role) event result
  fail-told size role event result = answers-all size (AsksFail role) event result (fail-answers size role)

  -- ---- a write

  write-answers : (size at : ℕ) (body : List (List ℕ)) (event : Event) → (event ≡ Refused BackupFault → IsRefusalBy backup before now BackupFault) → Answers size (AsksWrite at body) event
  write-answers size at body (Refused refusal) failed before_reply call is = write-refused (visible_of size before_reply) (at + length body) refusal (λ barred. failed (λ i. Refused (barred i))) is
  write-answers size at body (Stepped done left ended) failed before_reply call is = absurd is
  write-answers size at body event failed before_reply call is = tt

  pub write-told : {T : Type 0} (size at : ℕ) (body : List (List ℕ)) (result : Result T Fault) → (result ≡ Err (IsRefusedWith BackupFault) → IsRefusalBy backup before now BackupFault)
      → AnswersAll size (AsksWrite at body) (Wrote at body) result
  write-told size at body (Ok x) failed = write-answers size at body (Wrote at body) (λ is. absurd (cc))
  write-told size at body (Err (IsRefusedWith refusal)) failed = write-answers size at body (Refused refusal) (λ is. failed (λ i. Err (IsRefusedWith (same is i))))
    where
      same : {r s : Refusal} → Refused r ≡ Refused s → r ≡ s
      same is = cc
  write-told size at body (Err WantsMemory) failed = write-answers size at body (Wrote at body) (λ is. absurd (cc))

  -- ---- a slot that was to be made a spare

  add-answers : (size slot : ℕ) (event : Event) → ((failed : ℕ) → event ≡ Refused (SlotFault failed) → IsFaulted failed before now) → Answers size (AsksAdd slot) event
  add-answers size slot (Refused (SlotFault failed)) cause before_reply call is = cause failed refl
  add-answers size slot (Refused BackupFault) cause before_reply call is = absurd is
  add-answers size slot (Refused refusal) cause before_reply call is = tt
  add-answers size slot (Stepped done left ended) cause before_reply call is = absurd is
  add-answers size slot event cause before_reply call is = tt

  pub add-told : {T : Type 0} (size slot : ℕ) (given : Given) (backup_is : Option ℕ) (members after : Members) (result : Result T Fault) → IsAddedFor given backup_is slot members after before now result
      → AnswersAll size (AsksAdd slot) (Added slot) result
  add-told size slot given backup_is members after (Ok x) added = add-answers size slot (Added slot) (λ failed is. absurd (cc))
  add-told size slot given backup_is members after (Err (IsRefusedWith (SlotFault told))) added =
      add-answers size slot (Refused (SlotFault told)) (λ failed is. subst (λ (s : ℕ). IsFaulted s before now) (sym added.0 ∙ same is) added.2)
    where
      same : {a b : ℕ} → Refused (SlotFault a) ≡ Refused (SlotFault b) → a ≡ b
      same is = cc
  add-told size slot given backup_is members after (Err (IsRefusedWith refusal)) added = add-answers size slot (Refused refusal) (λ failed is. absurd (cc))
  add-told size slot given backup_is members after (Err WantsMemory) added = add-answers size slot (Added slot) (λ failed is. absurd (cc))

-- an array that has a backup, which failed
pub backup-failed : (backup : Option ℕ) (Failed : ℕ → Type 0) → IsSome backup → IfSome backup Failed → MatchOption backup ⊥ Failed
backup-failed None Failed some failed = absurd (cc)
backup-failed (Some slot) Failed some failed = failed
