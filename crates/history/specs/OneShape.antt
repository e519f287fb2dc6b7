-- What a history must be for an array that keeps its shape and may lose members, over what its opening found: no bank occurs
-- here. In each definition `before` are the entries before the entry, and `rest` are those behind it that are of the same call.
use Rattle.std.specs.Prelude.{◌≡◌, ◌⊎◌, ℕ, ◌+◌, ◌<◌, ◌≤◌, Bool, true, false, not, ◌&&◌, ◌||◌, ◌==◌, nat_lt, List, [], ◌∷◌, ◌++◌, length, take, slice_range, fold, count_by, Option, MatchOption, MatchBool, IfSome, IsSome, IsTrue, ⊤, Some}
use Rattle.std.specs.Option.{option_map_or}
use Rattle.std.specs.List.{list_any, list_all, All}
use Rattle.raid_types.specs.Sectors.{Sector}
use Rattle.raid_types.specs.Search.{count_below, any_below}
use Rattle.raid_types.specs.Shapes.{tolerance_of}
use Rattle.raid_types.specs.declared.answers.Refusal.{Refusal}
use Rattle.raid_types.specs.declared.answers.Refusal.TheVariants.{PastEnd, TooManyMissing, NotResynced, NoSuchRole, NoSuchSlot, SlotTaken, SlotTooSmall, SlotFault, Nothing}
use Rattle.raid_types.specs.declared.answers.Who.{Who}
use Rattle.sb_read_laws.specs.sb_specs_Reading.{is_whole, role_state, role_count, Reading, holder, is_backup}
use Rattle.sb_read_laws.specs.sb_specs_Reads.{has_spare}
use Rattle.history.specs.declared.events.Event.{Event}
use Rattle.history.specs.declared.events.Event.TheVariants.{Read, Wrote, Torn, Flushed, Lost, SpareLost, Rebuilt, Added, Failed, Step, Stepped, Shown, Stopped, Halted, Refused}
use Rattle.history.specs.declared.events.LostCause.{LostCause}
use Rattle.history.specs.declared.events.LostCause.TheVariants.{Absent, Recovering, Command, Fault}
use Rattle.history.specs.declared.events.StepKind.{StepKind}
use Rattle.history.specs.declared.events.StepKind.TheVariants.{ResyncStripe, ResyncEnded, RebuildTaken, RebuildStripe, RebuildEnded, Begun, TakenOver}
use Rattle.history.specs.declared.events.Entry.{Entry}
use Rattle.history.specs.declared.events.Request.{Request}
use Rattle.history.specs.declared.events.Request.TheVariants.{Read as AsksRead, Write as AsksWrite, Flush as AsksFlush, Fail as AsksFail, Add as AsksAdd, Steps as AsksSteps}
use Rattle.history.specs.Flat.{rest_of_call, last_of, next_number, visible_of}
use Rattle.history.specs.Transfers.{IsTimedBetween, IsReadOver, EndsWithinOver, IsTornOver, IsRefusedAt}
use Rattle.history.specs.World.{World, until, reading_at, opening_list}
use Rattle.history.specs.Losses.{was_dirty, is_gone, gone_count, unsettles, settles, is_resync_end, is_unsynced, is_unclean}
use Rattle.history.specs.Legal.{IsNumbered, IsInnerOrLast, IsOfOpening, IsAbsentAtFirst, IsFailed, IsFailedByCall, call_before, known_left, KeepsLeft, level_at, IsLegal}
use Rattle.history.specs.Reshaped.{IsReshaped}
use Rattle.history.specs.Fits.{Fits, WhereAsked, IsIdle, IsNoRole, IsTaken, IsDataEnd, slot_length, AreTornOf, IsReadRefused, is_lost_event, is_step_event}
use Rattle.history.specs.Plain.{loses_role}

-- ---- the opening

-- what an opening found: the flat list, the mark, how many roles there are, how many members the level can do without, whether the
-- array was dirty, and which roles were missing; and of the bank how many slots there are, how long each is, which is the backup, and
-- which held a role or were spares
pub record ShapeOpening : Type 0 where
  pub list : List Sector
  pub first : ℕ
  pub disks : ℕ
  pub tolerance : ℕ
  pub dirty : Bool
  pub missing : ℕ → Bool
  pub slots : ℕ
  pub sectors : ℕ → ℕ
  pub backup : Option ℕ
  pub used : ℕ → Bool

-- the bank at the opening is as it was found
pub record IsFoundAs (world : World) (opening : ShapeOpening) : Type 0 where
  pub list : opening.list ≡ opening_list world
  pub first : opening.first ≡ world.first
  pub tolerance : opening.tolerance ≡ tolerance_of (level_at world [])
  pub dirty : opening.dirty ≡ was_dirty world
  pub missing : (role : ℕ) → IsTrue (opening.missing role) → IsAbsentAtFirst world role

-- a slot holds a role there, or is a spare
abbrev pub is_used_in : Reading → ℕ → Bool
is_used_in r slot = any_below 32 (λ role. is_backup (holder (role_state r role)) slot) || has_spare r.spares slot

-- what this bank shows at the opening
abbrev pub is_absent_at_first : World → ℕ → Bool
is_absent_at_first world role =
    option_map_or (λ r. nat_lt role (role_count r.newest) && not (is_whole (role_state r role))) (reading_at world world.first) false

abbrev pub opening_in : World → ShapeOpening
opening_in world = record {
  list = opening_list world;
  first = world.first;
  disks = option_map_or (λ r. role_count r.newest) (reading_at world world.first) 0;
  tolerance = tolerance_of (level_at world []);
  dirty = was_dirty world;
  missing = is_absent_at_first world;
  slots = world.scope.sizes.slots;
  sectors = world.scope.sizes.sectors;
  backup = world.scope.backup;
  used = λ slot. option_map_or (λ r. is_used_in r slot) (reading_at world world.first) false;
}

-- ---- losses, and what is gone by the entries alone

-- the role is lost in these entries
abbrev pub is_lost : List Entry → ℕ → Bool
is_lost entries role = list_any (λ e. loses_role role e.event) entries

-- the event gives the role a whole holder
abbrev pub gives_role : ℕ → Event → Bool
gives_role role (Rebuilt rebuilt) = rebuilt == role
gives_role role event = false

-- the role is gone after one more entry
abbrev pub is_gone_with : ℕ → Bool → Entry → Bool
is_gone_with role gone e = gone && not (gives_role role e.event) || loses_role role e.event

-- the role is gone after all of these entries: it was lost, and not rebuilt since
abbrev pub is_gone_now : List Entry → ℕ → Bool
is_gone_now entries role = fold (is_gone_with role) false entries

abbrev pub gone_count_now : List Entry → ℕ
gone_count_now entries = count_below 32 (is_gone_now entries)

-- gone after the first k entries, or lost by one of those from there up to the first j
abbrev pub is_gone_by : List Entry → ℕ → ℕ → ℕ → Bool
is_gone_by entries k j role = is_gone_now (take k entries) role || is_lost (slice_range entries k j) role

abbrev pub gone_count_by : List Entry → ℕ → ℕ → ℕ
gone_count_by entries k j = count_below 32 (is_gone_by entries k j)

-- a loss that the opening found stands first, under the number of the opening
pub record IsFoundMissing (opening : ShapeOpening) (before : List Entry) (e : Entry) (role : ℕ) : Type 0 where
  pub caller : e.caller ≡ 254
  pub number : e.number ≡ 0
  pub stands_first : IsTrue (list_all (λ e. e.caller == 254) before)
  pub was_missing : IsTrue (opening.missing role)

-- a loss by command is of a call that ends with Failed
abbrev pub IsOneShapeLost : ShapeOpening → List Entry → Entry → List Entry → ℕ → LostCause → Type 0
IsOneShapeLost opening before e rest role Absent = IsFoundMissing opening before e role
IsOneShapeLost opening before e rest role Recovering = IsFoundMissing opening before e role
IsOneShapeLost opening before e rest role Command = MatchOption (last_of rest) ⊥ (λ last. IsFailed role last.event)
IsOneShapeLost opening before e rest role Fault = ⊤

-- ---- spares, and what is left to do, by the entries alone

-- The entries tell the slot to be a spare, after one more event: it was shown or added as one, and since then it wasn't told lost, and
-- no role was given to a spare.
abbrev pub is_spare_after : ℕ → Bool → Event → Bool
is_spare_after slot spare (Shown status) = has_spare status.spares slot
is_spare_after slot spare (Added added) = (added == slot) || spare
is_spare_after slot spare (SpareLost lost) = spare && not (lost == slot)
is_spare_after slot spare (Step RebuildTaken left) = false
is_spare_after slot spare event = spare

abbrev pub is_spare_now : List Entry → ℕ → Bool
is_spare_now entries slot = fold (λ spare e. is_spare_after slot spare e.event) false entries

-- opened dirty, and no resync has ended in these entries
abbrev pub is_resyncing : ShapeOpening → List Entry → Bool
is_resyncing opening before = opening.dirty && not (list_any (λ e. is_resync_end e.event) before)

-- each role of the array is there
abbrev pub IsNoneGone : ShapeOpening → List Entry → Type 0
IsNoneGone opening before = (role : ℕ) → role < opening.disks → is_gone_now before role ≡ false

-- no slot is told to be a spare
abbrev pub IsNoneSpare : List Entry → Type 0
IsNoneSpare before = (slot : ℕ) → is_spare_now before slot ≡ false

-- Nothing is left to do: no resync is pending, and no role is gone, or no slot is told to be a spare for one.
pub record IsNothingLeft (opening : ShapeOpening) (before : List Entry) : Type 0 where
  pub synced : is_resyncing opening before ≡ false
  pub built : IsNoneGone opening before ⊎ IsNoneSpare before

-- the event adds the slot
abbrev pub adds_slot : ℕ → Event → Bool
adds_slot slot (Added added) = added == slot
adds_slot slot event = false

-- the slot held a role or was a spare at the opening, or it was added
abbrev pub is_used_now : ShapeOpening → List Entry → ℕ → Bool
is_used_now opening before slot = opening.used slot || list_any (λ e. adds_slot slot e.event) before

-- ---- refusals

-- more roles are gone than the level can do without
pub record AreTooManyLost (opening : ShapeOpening) (before : List Entry) (count tolerance : ℕ) : Type 0 where
  pub above : tolerance < count
  pub lost : count ≤ gone_count_now before
  pub tolerated : tolerance ≡ opening.tolerance

-- there is no such role, or it is gone
abbrev pub IsNoRoleNow : ShapeOpening → List Entry → ℕ → Type 0
IsNoRoleNow opening before role = (opening.disks ≤ role) ⊎ IsTrue (is_gone_now before role)

-- the slot is the backup, or was used since the opening
abbrev pub IsTakenNow : ShapeOpening → List Entry → ℕ → Type 0
IsTakenNow opening before slot = (opening.backup ≡ Some slot) ⊎ IsTrue (is_used_now opening before slot)

-- some slot has so many sectors, which are fewer than are wanted, and one that was used since the opening has as many as that
pub record IsTooSmallNow (opening : ShapeOpening) (before : List Entry) (have want : ℕ) : Type 0 where
  pub fewer : have < want
  pub short : (slot : ℕ) × (have ≡ opening.sectors slot)
  pub long : (slot : ℕ) × IsTrue (is_used_now opening before slot) × (want ≤ opening.sectors slot)

abbrev pub IsOneShapeRefusal : ShapeOpening → List Entry → Refusal → Type 0
IsOneShapeRefusal opening before (PastEnd visible) = visible ≡ visible_of (length opening.list) before
IsOneShapeRefusal opening before (TooManyMissing count tolerance) = AreTooManyLost opening before count tolerance
IsOneShapeRefusal opening before (NotResynced role) = IsTrue (is_gone_now before role) × IsTrue (is_resyncing opening before)
IsOneShapeRefusal opening before (NoSuchRole role) = IsNoRoleNow opening before role
IsOneShapeRefusal opening before (NoSuchSlot slot) = opening.slots ≤ slot
IsOneShapeRefusal opening before (SlotTaken slot) = IsTakenNow opening before slot
IsOneShapeRefusal opening before (SlotTooSmall have want) = IsTooSmallNow opening before have want
IsOneShapeRefusal opening before Nothing = IsNothingLeft opening before
IsOneShapeRefusal opening before refusal = ⊤

-- ---- steps

-- the steps without a reshape: those of a resync and of a rebuild
abbrev pub IsIdleStep : StepKind → Type 0
IsIdleStep ResyncStripe = ⊤
IsIdleStep ResyncEnded = ⊤
IsIdleStep RebuildTaken = ⊤
IsIdleStep RebuildStripe = ⊤
IsIdleStep RebuildEnded = ⊤
IsIdleStep kind = ⊥

-- a step lowers the steps that are left by one
abbrev pub IsOneShapeStep : List Entry → Entry → List Entry → StepKind → ℕ → Type 0
IsOneShapeStep before e rest kind left = IsIdleStep kind × IfSome (known_left before e rest) (λ n. left + 1 ≡ n)

-- so many steps are left: as many as were told last, and none only where nothing is left to do
abbrev pub IsOneShapeLeft : ShapeOpening → List Entry → Entry → List Entry → ℕ → Type 0
IsOneShapeLeft opening before e rest left = KeepsLeft before e rest left × (left ≡ 0 → IsNothingLeft opening before)

-- a request for steps tells how many are left, and what refused one
abbrev pub IsOneShapeStepped : ShapeOpening → List Entry → Entry → List Entry → ℕ → Option Refusal → Type 0
IsOneShapeStepped opening before e rest left ended = IsOneShapeLeft opening before e rest left × IfSome ended (IsOneShapeRefusal opening before)

-- ---- an entry, and a history

-- no other events occur
abbrev pub IsOneShapeEvent : ShapeOpening → List Entry → Entry → List Entry → Event → Type 0
IsOneShapeEvent opening before e rest (Read at body) = IsReadOver opening.list before at body
IsOneShapeEvent opening before e rest (Wrote at body) = EndsWithinOver opening.list before at body
IsOneShapeEvent opening before e rest (Torn at body) = IsTornOver opening.list before at body rest
IsOneShapeEvent opening before e rest Flushed = ⊤
IsOneShapeEvent opening before e rest (Lost role cause) = IsOneShapeLost opening before e rest role cause
IsOneShapeEvent opening before e rest (SpareLost slot) = ⊤
IsOneShapeEvent opening before e rest (Rebuilt role) = ⊤
IsOneShapeEvent opening before e rest (Added slot) = ⊤
IsOneShapeEvent opening before e rest (Failed role) = IsFailedByCall before e role
IsOneShapeEvent opening before e rest (Step kind left) = IsOneShapeStep before e rest kind left
IsOneShapeEvent opening before e rest (Stepped done left ended) = IsOneShapeStepped opening before e rest left ended
IsOneShapeEvent opening before e rest (Shown status) = IsOneShapeLeft opening before e rest status.left
IsOneShapeEvent opening before e rest Stopped = ⊤
IsOneShapeEvent opening before e rest Halted = ⊤
IsOneShapeEvent opening before e rest (Refused refusal) = IsOneShapeRefusal opening before refusal
IsOneShapeEvent opening before e rest event = ⊥

-- an entry is legal; the tape has so many operations
pub record IsOneShapeEntry (opening : ShapeOpening) (ops : ℕ) (before : List Entry) (e : Entry) (rest : List Entry) : Type 0 where
  pub numbered : IsNumbered before e
  pub timed : IsTimedBetween opening.first ops before e
  pub inner : IsInnerOrLast e.event rest
  pub caller : MatchBool (e.caller == 254) (IsOfOpening e.event) ⊤
  pub event : IsOneShapeEvent opening before e rest e.event

abbrev pub AreOneShape : ShapeOpening → ℕ → List Entry → List Entry → Type 0
AreOneShape opening ops before [] = ⊤
AreOneShape opening ops before (e ∷ entries) =
    IsOneShapeEntry opening ops before e (rest_of_call e entries) × AreOneShape opening ops (before ++ e ∷ []) entries

-- the history is legal
abbrev pub IsOneShapeLegal : ShapeOpening → ℕ → List Entry → Type 0
IsOneShapeLegal opening ops entries = AreOneShape opening ops [] entries

-- Such a history is legal over a bank that was found so, and no reshape is in it.
abbrev pub OneShapeHistoriesAreLegal : Type 0
OneShapeHistoriesAreLegal = (world : World) (opening : ShapeOpening) (entries : List Entry) → IsFoundAs world opening
    → IsOneShapeLegal opening (length world.tape) entries → IsLegal world entries × IsReshaped world entries

-- ---- a call that goes on

-- what may stand in a call of steps before its last entry
abbrev pub GoesOnBehind : Event → Type 0
GoesOnBehind (Step kind left) = ⊤
GoesOnBehind (Lost role Fault) = ⊤
GoesOnBehind (SpareLost slot) = ⊤
GoesOnBehind (Rebuilt role) = ⊤
GoesOnBehind (Refused refusal) = ⊤
GoesOnBehind event = ⊥

-- the entry is of this call
abbrev pub IsOfCall : Who → Entry → Type 0
IsOfCall who e = (e.caller ≡ who.caller) × (e.number ≡ who.number)

-- The call begins here, or it goes on: each of its entries so far may stand before others.
pub record IsCallOpen (entries : List Entry) (who : Who) : Type 0 where
  pub before : List Entry
  pub call : List Entry
  pub is : entries ≡ before ++ call
  pub own : All (λ e. IsOfCall who e × GoesOnBehind e.event) call
  pub number : who.number ≡ next_number who.caller before

-- ---- what a bank says is gone or unclean

-- neither a reshape begins nor a level is taken over
abbrev pub keeps_shape : StepKind → Bool
keeps_shape Begun = false
keeps_shape TakenOver = false
keeps_shape kind = true

abbrev pub keeps_shape_event : Event → Bool
keeps_shape_event (Step kind left) = keeps_shape kind
keeps_shape_event event = true

abbrev pub KeepShape : List Entry → Type 0
KeepShape entries = IsTrue (list_all (λ e. keeps_shape_event e.event) entries)

-- written since the last flush or stop
abbrev pub is_unsettled : List Entry → Bool
is_unsettled [] = false
is_unsettled (e ∷ entries) = unsettles e.event && not (list_any (λ e. settles e.event) entries) || is_unsettled entries

-- written in the first j entries since the last flush or stop of the first k
abbrev pub is_written : List Entry → ℕ → ℕ → Bool
is_written entries k j = is_unsettled (take k entries) || list_any (λ e. unsettles e.event) (slice_range entries k j)

-- a role is gone, and the array unclean, where the entries alone say so
pub record AreLossesGone (world : World) (entries : List Entry) (k j : ℕ) : Type 0 where
  pub gone : (role : ℕ) → is_gone world entries k j role ≡ is_gone_by entries k j role
  pub count : gone_count world entries k j ≡ gone_count_by entries k j
  pub unclean : is_unclean world entries k j ≡ (is_unsynced world (take k entries) || is_written entries k j)

-- In an array of one shape what is lost is gone, until it is rebuilt.
abbrev pub LossesAreGone : Type 0
LossesAreGone = (world : World) (entries : List Entry) (k j : ℕ) → KeepShape entries → AreLossesGone world entries k j

-- ---- replies

-- A request for at most so many steps did those that its call enters, and one for each loss at most that it doesn't enter. It
-- ends where so many are done, none is left, one is refused, or a role was lost.
pub record DidOneShapeSteps (call : List Entry) (most done left : ℕ) (ended : Option Refusal) : Type 0 where
  pub at_most : done ≤ most
  pub all_done : (done ≡ most) ⊎ (left ≡ 0) ⊎ IsSome ended ⊎ IsTrue (list_any (λ e. is_lost_event e.event) call)
  pub some_done : (1 ≤ done) ⊎ IsSome ended
  pub counted : count_by (λ e. is_step_event e.event) call ≤ done
  pub not_more : done ≤ count_by (λ e. is_step_event e.event) call + count_by (λ e. is_lost_event e.event) call

-- what refuses a step without a reshape
abbrev pub EndsIdleSteps : Refusal → Type 0
EndsIdleSteps (TooManyMissing count tolerance) = ⊤
EndsIdleSteps (NotResynced role) = ⊤
EndsIdleSteps refusal = ⊥

-- the reply's event answers the request, over a list of so many sectors at the opening, behind these entries of its call
abbrev pub OneShapeAnswers : ℕ → List Entry → List Entry → Request → Event → Type 0
OneShapeAnswers size before call (AsksRead at count) (Read a body) = (a ≡ at) × (length body ≡ count)
OneShapeAnswers size before call (AsksRead at count) (Refused refusal) = IsRefusedAt (visible_of size before) (at + count) IsReadRefused refusal
OneShapeAnswers size before call (AsksWrite at body) (Wrote a b) = (a ≡ at) × (b ≡ body)
OneShapeAnswers size before call (AsksWrite at body) (Refused refusal) = IsRefusedAt (visible_of size before) (at + length body) IsReadRefused refusal
OneShapeAnswers size before call AsksFlush Flushed = ⊤
OneShapeAnswers size before call AsksFlush (Refused (TooManyMissing count tolerance)) = ⊤
OneShapeAnswers size before call (AsksFail role) (Failed failed) = failed ≡ role
OneShapeAnswers size before call (AsksFail role) (Refused (NoSuchRole asked)) = asked ≡ role
OneShapeAnswers size before call (AsksAdd slot) (Added added) = added ≡ slot
OneShapeAnswers size before call (AsksAdd slot) (Refused (NoSuchSlot asked)) = asked ≡ slot
OneShapeAnswers size before call (AsksAdd slot) (Refused (SlotTaken taken)) = taken ≡ slot
OneShapeAnswers size before call (AsksAdd slot) (Refused (SlotTooSmall have want)) = have < want
OneShapeAnswers size before call (AsksAdd slot) (Refused (SlotFault failed)) = failed ≡ slot
OneShapeAnswers size before call (AsksAdd slot) (Refused (TooManyMissing count tolerance)) = ⊤
OneShapeAnswers size before call (AsksSteps most) (Stepped done left ended) = DidOneShapeSteps call most done left ended × IfSome ended EndsIdleSteps
OneShapeAnswers size before call (AsksSteps most) (Refused Nothing) = ⊤
OneShapeAnswers size before call request event = ⊥

-- the reply fits its request, by the entries before it
pub record OneShapeFits (size : ℕ) (before : List Entry) (e : Entry) (request : Request) : Type 0 where
  pub answers : OneShapeAnswers size before (call_before before e) request e.event
  pub torn : AreTornOf request (call_before before e)

-- where the entry says that there is no such role, the superblocks have none that is whole
abbrev pub IsNoneRight : World → List Entry → Entry → Type 0
IsNoneRight world before e = (role : ℕ) → e.event ≡ Refused (NoSuchRole role) → WhereAsked (until e.end world) before e.end (IsNoRole role)

-- where the entry says that nothing is left to do, nothing is pending
abbrev pub IsIdleRight : World → List Entry → Entry → Type 0
IsIdleRight world before e = e.event ≡ Refused Nothing → WhereAsked (until e.end world) before e.end (IsIdle (until e.end world) before)

-- where the entry refuses to add this slot, the bank has no such slot, or the superblocks say that it is taken, or too small
pub record IsAddRight (world : World) (before : List Entry) (e : Entry) (slot : ℕ) : Type 0 where
  pub none : e.event ≡ Refused (NoSuchSlot slot) → world.scope.sizes.slots ≤ slot
  pub taken : e.event ≡ Refused (SlotTaken slot) → WhereAsked (until e.end world) before e.end (IsTaken world slot)
  pub small : (have want : ℕ) → e.event ≡ Refused (SlotTooSmall have want)
      → (have ≡ slot_length world slot) × WhereAsked (until e.end world) before e.end (IsDataEnd want)

-- Such a reply fits its request over a bank with a list of that size at the opening.
abbrev pub OneShapeRepliesFit : Type 0
OneShapeRepliesFit = (world : World) (size : ℕ) (before : List Entry) (e : Entry) (request : Request) → size ≡ length (opening_list world)
    → world.first ≤ e.end → IsNoneRight world before e → IsIdleRight world before e → ((slot : ℕ) → request ≡ AsksAdd slot → IsAddRight world before e slot)
    → OneShapeFits size before e request → Fits world before e request
