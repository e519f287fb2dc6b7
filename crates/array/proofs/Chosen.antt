-- What one of the two states says is what the words of both say.
use Rattle.std.proofs.Common.{◌≡◌, ℕ, ◌+◌, inl, inr, Bool, true, false, List, [], ◌∷◌, ◌++◌, MatchBool, Result, Ok, Err, OnOk, OnErr, All, refl, sym, ap, subst, length, arith}
use Rattle.std.proofs.lemmas.List.Elements.{All-nil, All-cons, All-head, All-tail}
use Rattle.array_grow.specs.raid_types_Sectors.{Sector}
use Rattle.array_grow.specs.raid_types_the_Fault.{Fault}
use Rattle.array_grow.specs.raid_types_the_Fault_TheVariants.{Refused as IsRefusedWith, NoMemory}
use Rattle.array_grow.specs.raid_types_the_Refusal_TheVariants.{BackupFault}
use Rattle.array_grow.specs.raid_types_the_Who.{Who}
use Rattle.array_grow.specs.raid_types_the_Shape.{Shape}
use Rattle.array_grow.specs.bank_the_Operation.{Operation}
use Rattle.array_takeover.specs.sb_specs_the_Members.{Members}
use Rattle.array_takeover.specs.sb_specs_Reading.{is_reshaping, shape_of}
use Rattle.array_takeover.specs.history_the_Entry.{Entry}
use Rattle.array_takeover.specs.history_the_Event.{Event}
use Rattle.array_takeover.specs.history_the_Event_TheVariants.{Wrote, Refused}
use Rattle.array_takeover.specs.history_the_Request.{Request}
use Rattle.array_takeover.specs.history_the_Request_TheVariants.{Write as AsksWrite}
use Rattle.array_takeover.specs.history_Growing.{EndBy}
use Rattle.array_takeover.specs.history_OneShape.{IsOfCall}
use Rattle.array_takeover.specs.history_Plain.{entries_of}
use Rattle.array_grow.specs.array_members_Lacking.{IsUnread, IsUnwritten, are_synced, synced_rows}
use Rattle.array_grow.specs.array_call_specs_Calls.{IsRefusedFor, IsCausedBy, IsAnswered, IsEntered, IsReplied, StandsInside}
use Rattle.array_grow.specs.stripe_region_resync_Resyncs.{relied_sector}
use Rattle.array_grow.specs.history_invariant_Recorded.{entry_of}
use Rattle.array_grow.specs.array_specs_Parts.{RunningParts, visible_in}
use Rattle.array_grow.specs.reshape_progress_Course.{hidden_in}
use Rattle.array_grow.specs.array_reshaping_state_First.{IsUnreadAround}
use Rattle.array_grow.specs.array_reshaping_laws_Writing.{IsWriteBarred, IsRepliedBehind, IsWriteReplied}
use Rattle.array_grow.proofs.array_call_specs_RecordLaws.{ends-call}
use Rattle.array.specs.Calls.{IsReadLacked, IsWriteLackedIn}

pub on-ok : {T E : Type 0} (r : Result T E) {F : Type 0} → F → OnOk r F
on-ok (Ok x) fact = fact
on-ok (Err e) fact = tt

pub on-err : {T E : Type 0} (r : Result T E) {F : Type 0} → F → OnErr r F
on-err (Ok x) fact = tt
on-err (Err e) fact = fact

pub err-so : {T E : Type 0} (r : Result T E) {F G : Type 0} → (F → G) → OnErr r F → OnErr r G
err-so (Ok x) so fact = tt
err-so (Err e) so fact = so fact

-- ---- why a read or a write isn't done

module _ {B : Type 0} (array : RunningParts B) (at count : ℕ) (old new : Members) {T : Type 0} (result : Result T Fault) where
  pub read-still : is_reshaping array.parts.members.newest ≡ false
      → IsCausedBy (visible_in array) (at + count) (IsUnread (shape_of array.parts.members.newest) (synced_rows array.parts.work.resync array.parts.members) at count) old new result
      → IsCausedBy (visible_in array) (at + count) (IsReadLacked array at count) old new result
  read-still still caused = subst (λ (b : Bool). IsCausedBy (visible_in array) (at + count) (λ m refusal. MatchBool b (IsUnreadAround (hidden_in array.course.window) (relied_sector array.parts.members.newest array.parts.work.resync) at (at + count) m refusal)
      (IsUnread (shape_of array.parts.members.newest) (synced_rows array.parts.work.resync array.parts.members) at count m refusal)) old new result) (sym still) caused

  pub read-moving : is_reshaping array.parts.members.newest ≡ true
      → IsCausedBy (visible_in array) (at + count) (IsUnreadAround (hidden_in array.course.window) (relied_sector array.parts.members.newest array.parts.work.resync) at (at + count)) old new result
      → IsCausedBy (visible_in array) (at + count) (IsReadLacked array at count) old new result
  read-moving active caused = subst (λ (b : Bool). IsCausedBy (visible_in array) (at + count) (λ m refusal. MatchBool b (IsUnreadAround (hidden_in array.course.window) (relied_sector array.parts.members.newest array.parts.work.resync) at (at + count) m refusal)
      (IsUnread (shape_of array.parts.members.newest) (synced_rows array.parts.work.resync array.parts.members) at count m refusal)) old new result) (sym active) caused

  pub write-still : is_reshaping array.parts.members.newest ≡ false
      → IsCausedBy (visible_in array) (at + count) (IsUnwritten (shape_of array.parts.members.newest)
      (are_synced (shape_of array.parts.members.newest) (synced_rows array.parts.work.resync array.parts.members) (at + count))) old new result
      → IsCausedBy (visible_in array) (at + count) (IsWriteLackedIn array at count) old new result
  write-still still caused = subst (λ (b : Bool). IsCausedBy (visible_in array) (at + count) (λ m refusal. MatchBool b (IsWriteBarred array.course.window (relied_sector array.parts.members.newest array.parts.work.resync) at (at + count) m refusal)
      (IsUnwritten (shape_of array.parts.members.newest) (are_synced (shape_of array.parts.members.newest) (synced_rows array.parts.work.resync array.parts.members) (at + count)) m refusal)) old new result) (sym still) caused

  pub write-moving : is_reshaping array.parts.members.newest ≡ true
      → IsCausedBy (visible_in array) (at + count) (IsWriteBarred array.course.window (relied_sector array.parts.members.newest array.parts.work.resync) at (at + count)) old new result
      → IsCausedBy (visible_in array) (at + count) (IsWriteLackedIn array at count) old new result
  write-moving active caused = subst (λ (b : Bool). IsCausedBy (visible_in array) (at + count) (λ m refusal. MatchBool b (IsWriteBarred array.course.window (relied_sector array.parts.members.newest array.parts.work.resync) at (at + count) m refusal)
      (IsUnwritten (shape_of array.parts.members.newest) (are_synced (shape_of array.parts.members.newest) (synced_rows array.parts.work.resync array.parts.members) (at + count)) m refusal)) old new result) (sym active) caused

-- ---- the reply of a write

inner-own : (who : Who) (end : ℕ) (inner : List Event) → All (λ e. StandsInside e.event) (entries_of who end inner) → All (λ e. IsOfCall who e × StandsInside e.event) (entries_of who end inner)
inner-own who end [] inside = All-nil (λ e. IsOfCall who e × StandsInside e.event)
inner-own who end (event ∷ inner) inside =
    All-cons (λ e. IsOfCall who e × StandsInside e.event) (entry_of who end event) (entries_of who end inner)
    ((refl, refl), All-head (λ e. StandsInside e.event) (entry_of who end event) (entries_of who end inner) inside)
    (inner-own who end inner (All-tail (λ e. StandsInside e.event) (entry_of who end event) (entries_of who end inner) inside))

entries-two : (who : Who) (end : ℕ) (inner : List Event) (event : Event) → entries_of who end (inner ++ event ∷ []) ≡ entries_of who end inner ++ entry_of who end event ∷ []
entries-two who end [] event = refl
entries-two who end (x ∷ inner) event = ap (λ l. entry_of who end x ∷ l) (entries-two who end inner event)

replied-behind : (size : ℕ) (request : Request) (who : Who) (old new : List Entry) (event : Event) → IsReplied size request who old new event → IsRepliedBehind size request who old new event
replied-behind size request who old new event replied = record {
  call = entries_of who replied.end replied.inner;
  end = replied.end;
  own = inner-own who replied.end replied.inner replied.inside;
  is = rw (← entries-two who replied.end replied.inner event) replied.is;
  fits = replied.fits;
}

-- without a reshape none is refused for the backup
never-for : (visible to : ℕ) (shape : Shape) (synced : Bool) (old new : Members) → IsRefusedFor visible to (IsUnwritten shape synced) old new BackupFault → ⊥
never-for visible to shape synced old new (within, inl lacks) = absurd (let told = lacks.told in cc)
never-for visible to shape synced old new (within, inr lacked) = absurd (let told = lacked.1 in cc)

pub no-backup_fault : {P T : Type 0} (visible to : ℕ) (shape : Shape) (synced : Bool) (old new : Members) (result : Result T Fault) → result ≡ Err (IsRefusedWith BackupFault) → IsCausedBy visible to (IsUnwritten shape synced) old new result → P
no-backup_fault visible to shape synced old new result is caused =
    absurd (never-for visible to shape synced old new (subst (λ r. IsCausedBy visible to (IsUnwritten shape synced) old new r) is caused))

pub write-replied : {T : Type 0} (visible to : ℕ) (shape : Shape) (synced : Bool) (before after : Members) (size at : ℕ) (body : List Sector) (who : Who) (old new : List Entry) (result : Result T Fault)
    → IsAnswered size (AsksWrite at body) who old new (Wrote at body) result → IsCausedBy visible to (IsUnwritten shape synced) before after result → IsWriteReplied size at body who old new result
write-replied visible to shape synced before after size at body who old new (Ok x) replied caused = replied-behind size (AsksWrite at body) who old new (Wrote at body) replied
write-replied visible to shape synced before after size at body who old new (Err (IsRefusedWith BackupFault)) replied caused = absurd (never-for visible to shape synced before after caused)
write-replied visible to shape synced before after size at body who old new (Err (IsRefusedWith refusal)) replied caused = replied-behind size (AsksWrite at body) who old new (Refused refusal) replied
write-replied visible to shape synced before after size at body who old new (Err NoMemory) replied caused = replied

-- ---- the end

pub ends-halted : (tells : Type 0) (tape : List Operation) (who : Who) (old new : List Entry) (events : List Event) → (tells → EndBy (length tape) old) → IsEntered tells tape who old new events → tells → EndBy (length tape) new
ends-halted tells tape who old new events was entered t = rw (entered.is, entered.at_end t) (ends-call (length tape) old who (length tape) events (omega arith) (was t))
