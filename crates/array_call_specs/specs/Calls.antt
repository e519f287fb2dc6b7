-- What a call of an array answers, why it is refused, and what it enters.
use Rattle.std.specs.Prelude.{◌≡◌, ◌≢◌, ◌⊎◌, ℕ, ◌+◌, ◌<◌, ◌≤◌, ◌++◌, ◌==◌, Bool, true, false, not, List, [], ◌∷◌, length, drop, slice_set, Option, option_map, Some, None, IsSome, IfSome, IsTrue, MatchOption, Result, Ok, Err, ⊤, Contains}
use Rattle.std.specs.List.{list_any, All}
use Rattle.raid_types.specs.declared.answers.Who.{Who}
use Rattle.raid_types.specs.declared.answers.Fault.{Fault}
use Rattle.raid_types.specs.declared.answers.Fault.TheVariants.{Refused as IsRefusedWith, NoMemory}
use Rattle.raid_types.specs.declared.answers.Refusal.{Refusal}
use Rattle.raid_types.specs.declared.answers.Refusal.TheVariants.{PastEnd, TooManyMissing, NotResynced, NoSuchRole, NoSuchSlot, SlotTaken, SlotTooSmall, SlotFault}
use Rattle.history_append.specs.bank_the_Operation.{Operation}
use Rattle.history_append.specs.bank_Given.{Given, IsFaulted}
use Rattle.history_append.specs.sb_codec_the_Sb.{Sb}
use Rattle.history_append.specs.sb_specs_the_Members.{Members}
use Rattle.raid_types.specs.declared.status.Role.TheVariants.{Whole, Recovering}
use Rattle.history_append.specs.sb_specs_Reading.{shape_of, role_count, is_backup, role_state, data_offset_of}
use Rattle.history_append.specs.sb_specs_Reads.{has_spare}
use Rattle.history_append.specs.stripe_row_Rows.{reading_of, is_missing}
use Rattle.history_append.specs.history_the_Entry.{Entry}
use Rattle.history_append.specs.history_the_Event.{Event}
use Rattle.history_append.specs.history_the_Event_TheVariants.{Torn, Flushed, Lost, SpareLost, Rebuilt, Step, Stopped, Refused}
use Rattle.history_append.specs.history_the_LostCause.{LostCause}
use Rattle.history_append.specs.history_the_LostCause_TheVariants.{Command, Fault as ByFault}
use Rattle.history_append.specs.history_the_Request.{Request}
use Rattle.history_append.specs.history_World.{World, opening_list}
use Rattle.history_append.specs.history_Transfers.{last_end_from}
use Rattle.raid_types.specs.Sectors.{Sector}
use Rattle.history_append.specs.history_Flat.{values_of}
use Rattle.history_append.specs.history_Fits.{is_lost_event}
use Rattle.history_append.specs.history_Legal.{disturbs}
use Rattle.history_append.specs.history_Plain.{entries_of}
use Rattle.history_append.specs.history_OneShape.{EndsIdleSteps, OneShapeFits}
use Rattle.history_append.specs.array_members_Placed.{is_unassigned}
use Rattle.history_append.specs.Losing.{losses_of}
use Rattle.history_append.specs.crash_views_Regions.{DoWithout}
use Rattle.history_append.specs.array_members_Lacking.{AreTooMany, IsNotResynced}
use Rattle.history_append.specs.array_members_Parts.{Parts}
use Rattle.history_append.specs.array_members_the_Work.{Work}
use Rattle.history_append.specs.array_members_Status.{stripes_of, rebuilt_of}
use Rattle.history_append.specs.array_members_Numbers.{bears, free_number}
use Rattle.history_append.specs.array_members_Rebuilding.{IfOwn, Held, MayHold}
use Rattle.array_call_specs.specs.Kept.{scope_in, world_in}

-- ---- what a call enters

-- A call entered these events, under its own number, where the tape ended.
pub record IsEntered (tells : Type 0) (tape : List Operation) (who : Who) (old new : List Entry) (events : List Event) : Type 0 where
  pub end : ℕ
  pub at_end : tells → end ≡ length tape
  pub is : new ≡ old ++ entries_of who end events

-- what may stand in a call before its reply: a loss, a torn write, a step, and what refused one
abbrev pub StandsInside : Event → Type 0
StandsInside (Torn at body) = ⊤
StandsInside (Lost role cause) = ⊤
StandsInside (SpareLost slot) = ⊤
StandsInside (Rebuilt role) = ⊤
StandsInside (Step kind left) = ⊤
StandsInside (Refused refusal) = EndsIdleSteps refusal
StandsInside event = ⊥

-- A call was answered by this event, which fits its request and stands behind the other entries of the call.
pub record IsReplied (size : ℕ) (request : Request) (who : Who) (old new : List Entry) (event : Event) : Type 0 where
  pub inner : List Event
  pub end : ℕ
  pub inside : All (λ e. StandsInside e.event) (entries_of who end inner)
  pub is : new ≡ old ++ entries_of who end (inner ++ event ∷ [])
  pub fits : OneShapeFits size (old ++ entries_of who end inner) (record { caller = who.caller; number = who.number; end = end; event = event }) request

-- the reply of a request by its answer, with the event of an Ok
abbrev pub IsAnswered : {T : Type 0} → ℕ → Request → Who → List Entry → List Entry → Event → Result T Fault → Type 0
IsAnswered size request who old new event (Ok x) = IsReplied size request who old new event
IsAnswered size request who old new event (Err (IsRefusedWith refusal)) = IsReplied size request who old new (Refused refusal)
IsAnswered size request who old new event (Err NoMemory) = new ≡ old

-- A call was answered by this event, behind the entries of what it lost.
pub record IsBehind (who : Who) (old new : List Entry) (event : Event) : Type 0 where
  pub roles : ℕ
  pub spares : ℕ
  pub end : ℕ
  pub is : new ≡ old ++ entries_of who end (losses_of roles spares ++ event ∷ [])

-- These events are a call's last ones, behind the entries of what it lost.
abbrev pub IsBehindAll : Who → List Entry → List Entry → List Event → Type 0
IsBehindAll who old new events = (roles : ℕ) × (spares : ℕ) × (end : ℕ) × (new ≡ old ++ entries_of who end (losses_of roles spares ++ events))

-- why a flush or a stop was not done
abbrev pub IsUnsettled : Who → List Entry → List Entry → Fault → Type 0
IsUnsettled who old new (IsRefusedWith refusal) = IsBehind who old new (Refused refusal)
IsUnsettled who old new NoMemory = new ≡ old

-- a flush's or a stop's event, by its answer
abbrev pub IsSettled : {T : Type 0} → Who → List Entry → List Entry → Event → Result T Fault → Type 0
IsSettled who old new event (Ok x) = IsBehind who old new event
IsSettled who old new event (Err (IsRefusedWith refusal)) = IsBehind who old new (Refused refusal)
IsSettled who old new event (Err NoMemory) = new ≡ old

abbrev pub IsSettling : Event → Type 0
IsSettling event = (event ≡ Flushed) ⊎ (event ≡ Stopped)

-- one of the entries behind the old ones tells of a torn write
abbrev pub is_torn : Event → Bool
is_torn (Torn at body) = true
is_torn event = false

abbrev pub has_torn : List Entry → List Entry → Bool
has_torn old new = list_any (λ e. is_torn e.event) (drop (length old) new)

-- the tape stands where the last entry ended; at the opening mark, if there is none
abbrev pub IsEndOf : Type 0 → ℕ → List Entry → List Operation → Type 0
IsEndOf tells first entries tape = tells → last_end_from first entries ≡ length tape

-- ---- why it is refused

-- a slot holds this role of the array, whole or in part
abbrev pub HasRole : Members → ℕ → Type 0
HasRole members role = (role < role_count members.newest) × (is_unassigned (reading_of members) role ≡ false)

-- what stands behind a refusal
abbrev pub IsRefusedHere : ℕ → Option ℕ → Members → Refusal → Type 0
IsRefusedHere visible resync members (PastEnd told) = told ≡ visible
IsRefusedHere visible resync members (TooManyMissing count most) = AreTooMany members (TooManyMissing count most)
IsRefusedHere visible resync members (NotResynced role) = IsSome resync × (role < role_count members.newest) × (is_missing (reading_of members) role ≡ true)
IsRefusedHere visible resync members (NoSuchRole role) = HasRole members role → ⊥
IsRefusedHere visible resync members refusal = ⊥

-- A refusal's cause: the call ends past the visible size; or else what its kind gives for the members that it leaves.
abbrev pub IsRefusedFor : ℕ → ℕ → (Members → Refusal → Type 0) → Members → Members → Refusal → Type 0
IsRefusedFor visible to why old new (PastEnd told) = (told ≡ visible) × (visible < to) × (new ≡ old)
IsRefusedFor visible to why old new refusal = (to ≤ visible) × why new refusal

-- why a stripe of a resync isn't mended
abbrev pub IsUnmendable : Members → Refusal → Type 0
IsUnmendable members refusal = AreTooMany members refusal ⊎ IsNotResynced (shape_of members.newest) false members refusal

-- nothing of the kind spoke against a call that is answered Ok
abbrev pub IsCausedBy : {T : Type 0} → ℕ → ℕ → (Members → Refusal → Type 0) → Members → Members → Result T Fault → Type 0
IsCausedBy visible to why old new (Ok x) = (to ≤ visible) × ((refusal : Refusal) → why old refusal → ⊥)
IsCausedBy visible to why old new (Err (IsRefusedWith refusal)) = IsRefusedFor visible to why old new refusal
IsCausedBy visible to why old new (Err NoMemory) = new ≡ old

-- the cause where it was refused or memory was short
abbrev pub IsFaultFor : ℕ → ℕ → (Members → Refusal → Type 0) → Members → Members → Fault → Type 0
IsFaultFor visible to why old new (IsRefusedWith refusal) = IsRefusedFor visible to why old new refusal
IsFaultFor visible to why old new NoMemory = new ≡ old

-- the refusal of a call that ends at `to`, before its kind is asked
abbrev pub IsRefusalOf : ℕ → ℕ → (Members → Refusal → Type 0) → Members → Option Refusal → Type 0
IsRefusalOf visible to why members None = (to ≤ visible) × ((refusal : Refusal) → why members refusal → ⊥)
IsRefusalOf visible to why members (Some refusal) = IsRefusedFor visible to why members members refusal

-- a fail is answered Ok exactly where a slot holds the role, which it loses, and refused, with nothing changed, exactly where none does
abbrev pub IsFailedFor : {T : Type 0} → ℕ → Members → Members → Result T Fault → Type 0
IsFailedFor role old new (Ok x) = HasRole old role × (is_unassigned (reading_of new) role ≡ true)
IsFailedFor role old new (Err (IsRefusedWith refusal)) = (refusal ≡ NoSuchRole role) × (new ≡ old) × (HasRole old role → ⊥)
IsFailedFor role old new (Err NoMemory) = new ≡ old

-- a fact that holds where memory was short
abbrev pub OnNoMemory : {T : Type 0} → Result T Fault → Type 0 → Type 0
OnNoMemory (Err NoMemory) fact = fact
OnNoMemory result fact = ⊤

-- ---- steps

-- a slot recovers the role
abbrev pub IsRecovered : Members → ℕ → Type 0
IsRecovered members role = (role < role_count members.newest) × (slot : ℕ) × (role_state (reading_of members) role ≡ Recovering slot)

-- a resync is pending, and has a stripe to mend
abbrev pub HasStripeLeft : Option ℕ → Members → Type 0
HasStripeLeft resync members = MatchOption resync ⊥ (λ mended. mended < stripes_of members)

-- a resync is pending, and has mended every stripe
abbrev pub IsAllSynced : Option ℕ → Members → Type 0
IsAllSynced resync members = resync ≡ Some (stripes_of members)

-- the resync after the step that mends its next stripe
abbrev pub one_more : Option ℕ → Option ℕ
one_more resync = option_map (λ mended. mended + 1) resync

-- one value where a step was done, and another where it was refused
abbrev pub by_answer : {T : Type 0} {A : Type 0} → Result T Fault → A → A → A
by_answer (Ok x) done refused = done
by_answer (Err fault) done refused = refused

-- the role's next stripe is to be rebuilt on the slot that recovers it
abbrev pub HasStripeUnbuilt : Work → Members → ℕ → Type 0
HasStripeUnbuilt work members role = IsRecovered members role × (rebuilt_of work role < stripes_of members)

-- every stripe of it is
abbrev pub AreStripesRebuilt : Work → Members → ℕ → Type 0
AreStripesRebuilt work members role = IsRecovered members role × (stripes_of members ≤ rebuilt_of work role)

-- the slot recovers the role, or no slot holds it
abbrev pub IsRecoveredOrLost : Members → ℕ → ℕ → Type 0
IsRecoveredOrLost members role slot = (role_state (reading_of members) role ≡ Recovering slot) ⊎ (is_unassigned (reading_of members) role ≡ true)

-- the role is whole on the slot that recovered it, or no slot holds it
abbrev pub IsWholeOrLost : Members → Members → ℕ → Type 0
IsWholeOrLost old new role = ((slot : ℕ) × (role_state (reading_of old) role ≡ Recovering slot) × (role_state (reading_of new) role ≡ Whole slot))
    ⊎ (is_unassigned (reading_of new) role ≡ true)

-- so many stripes of the role are rebuilt
abbrev pub with_rebuilt : ℕ → ℕ → Work → Work
with_rebuilt role stripes work = record work { rebuilt = slice_set work.rebuilt role stripes }

-- none of the entries behind the old ones tells a loss
abbrev pub TellNoLoss : List Entry → List Entry → Type 0
TellNoLoss old new = IsTrue (not (list_any (λ e. disturbs e.event) (drop (length old) new)))

-- none tells the loss of a role
abbrev pub TellNoRoleLoss : List Entry → List Entry → Type 0
TellNoRoleLoss old new = IsTrue (not (list_any (λ e. is_lost_event e.event) (drop (length old) new)))

-- A step lowers the steps that are left by one where its call tells no loss, and by one at least where it tells that of no role.
pub record AreStepsFewer (old new : List Entry) (left left' : ℕ) : Type 0 where
  pub one : TellNoLoss old new → left' + 1 ≡ left
  pub some : TellNoRoleLoss old new → left' + 1 ≤ left

-- A step that is refused leaves as many steps as before where its call tells no loss, and no more where it tells that of no role.
pub record AreStepsKept (old new : List Entry) (left left' : ℕ) : Type 0 where
  pub same : TellNoLoss old new → left' ≡ left
  pub fewer : TellNoRoleLoss old new → left' ≤ left

-- each sector of the list that stood at the opening holds what it held, and a stop may leave the same in its place
abbrev pub AreValuesKept : List Entry → List Entry → Type 0
AreValuesKept old new = (list : List Sector) (x : ℕ) → values_of list new x ≡ values_of list old x

-- A call entered losses alone, and that of this role is among them.
pub record IsRoleLost (who : Who) (old new : List Entry) (role : ℕ) : Type 0 where
  pub roles : ℕ
  pub spares : ℕ
  pub end : ℕ
  pub is : new ≡ old ++ entries_of who end (losses_of roles spares)
  pub among : Contains (losses_of roles spares) (Lost role ByFault)

-- a step of a rebuild ended with its own entries, or with the loss of the slot that was rebuilt, or it was refused
abbrev pub IsRebuildStepped : {T : Type 0} → Who → List Entry → List Entry → Members → ℕ → List Event → Result T Fault → Type 0
IsRebuildStepped who old new members role events (Ok x) = IsBehindAll who old new events ⊎ (IsRoleLost who old new role × (is_unassigned (reading_of members) role ≡ true))
IsRebuildStepped who old new members role events (Err (IsRefusedWith refusal)) = IsBehind who old new (Refused refusal)
IsRebuildStepped who old new members role events (Err NoMemory) = new ≡ old

-- ---- what it lost

-- it held the role, or it is the spare that is given it
abbrev pub IsHeldOrGiven : Members → ℕ → ℕ → ℕ → ℕ → Type 0
IsHeldOrGiven members given to role slot = Held members role slot ⊎ ((role ≡ given) × (slot ≡ to))

-- a lost role had such a slot, which has failed since, unless it was taken out by command
abbrev pub IsRoleLossBy : (ℕ → ℕ → Type 0) → (ℕ → ℕ) → (ℕ → ℕ) → ℕ → LostCause → Type 0
IsRoleLossBy Had before now role ByFault = (slot : ℕ) × Had role slot × IsFaulted slot before now
IsRoleLossBy Had before now role Command = (slot : ℕ) × Had role slot
IsRoleLossBy Had before now role cause = ⊥

-- the slot was a spare
abbrev pub WasSpare : Members → ℕ → Type 0
WasSpare members slot = has_spare members.spares slot ≡ true

-- a slot that is told lost as a spare was one, and has failed since
abbrev pub IsLossBy : (ℕ → ℕ → Type 0) → (ℕ → Type 0) → (ℕ → ℕ) → (ℕ → ℕ) → Event → Type 0
IsLossBy Had Was before now (Lost role cause) = IsRoleLossBy Had before now role cause
IsLossBy Had Was before now (SpareLost slot) = Was slot × IsFaulted slot before now
IsLossBy Had Was before now event = ⊤

-- More entries stand behind the old ones, and each loss that they tell has its cause, by the slots that had the role, and by the spares.
pub record AreLossesBy (Had : ℕ → ℕ → Type 0) (Was : ℕ → Type 0) (before now : ℕ → ℕ) (old new : List Entry) : Type 0 where
  pub more : List Entry
  pub grown : new ≡ old ++ more
  pub failed : All (λ e. IsLossBy Had Was before now e.event) more

-- the same where roles are only lost, and no slot is made a spare
abbrev pub AreLossesOf : Members → (ℕ → ℕ) → (ℕ → ℕ) → List Entry → List Entry → Type 0
AreLossesOf members before now old new = AreLossesBy (Held members) (WasSpare members) before now old new

-- each spare was one before
abbrev pub AreSparesFewer : Members → Members → Type 0
AreSparesFewer old new = (slot : ℕ) → has_spare new.spares slot ≡ true → has_spare old.spares slot ≡ true

-- each role that has a slot had it before, or that slot was a spare; each spare was one before
pub record AreHeldOrSpare (old new : Members) : Type 0 where
  pub roles : (role slot : ℕ) → Held new role slot → MayHold old role slot
  pub spares : AreSparesFewer old new

-- ---- a slot that is made a spare

-- the slot is the backup, holds a role or is a spare
abbrev pub IsTaken : Option ℕ → Members → ℕ → Type 0
IsTaken backup members slot = IsTrue (is_backup backup slot) ⊎ ((role : ℕ) × MayHold members role slot)

-- the sector at which the rows begin on the slot of the lowest role that one holds
abbrev pub IsFirstOffset : Members → ℕ → Type 0
IsFirstOffset members offset = ((role slot : ℕ) → Held members role slot → ((lower : ℕ) → lower < role → is_unassigned (reading_of members) lower ≡ true)
    → offset ≡ data_offset_of (reading_of members) slot)

-- why a slot isn't made a spare, before it is touched
abbrev pub IsUnaddable : Given → Option ℕ → ℕ → Members → Refusal → Type 0
IsUnaddable given backup slot members (NoSuchSlot asked) = (asked ≡ slot) × (given.slots ≤ slot)
IsUnaddable given backup slot members (SlotTaken taken) = (taken ≡ slot) × (slot < given.slots) × IsTaken backup members slot
IsUnaddable given backup slot members (TooManyMissing count most) = (slot < given.slots) × (IsTaken backup members slot → ⊥) × AreTooMany members (TooManyMissing count most)
IsUnaddable given backup slot members (SlotTooSmall have want) = (slot < given.slots) × (IsTaken backup members slot → ⊥) × DoWithout members
    × (have ≡ given.sectors slot) × (have < want) × (offset : ℕ) × IsFirstOffset members offset × (want ≡ offset + members.newest.size)
IsUnaddable given backup slot members refusal = ⊥

-- An add is done exactly where nothing speaks against it and the slot didn't fail. A refusal before it leaves the members as they are.
abbrev pub IsAddedFor : {T : Type 0} → Given → Option ℕ → ℕ → Members → Members → (ℕ → ℕ) → (ℕ → ℕ) → Result T Fault → Type 0
IsAddedFor given backup slot old new before after (Ok x) = ((refusal : Refusal) → IsUnaddable given backup slot old refusal → ⊥) × (has_spare new.spares slot ≡ true)
IsAddedFor given backup slot old new before after (Err (IsRefusedWith (SlotFault failed))) = (failed ≡ slot) × ((refusal : Refusal) → IsUnaddable given backup slot old refusal → ⊥)
    × IsFaulted slot before after × (has_spare new.spares slot ≡ false)
IsAddedFor given backup slot old new before after (Err (IsRefusedWith refusal)) = IsUnaddable given backup slot old refusal × (new ≡ old)
IsAddedFor given backup slot old new before after (Err NoMemory) = new ≡ old

-- the new spare's superblock has the free number, and the data offset of the slot that holds the lowest role
abbrev pub IsAddedAs : Members → Work → Members → ℕ → Type 0
IsAddedAs old work new slot = IfOwn new slot (λ sb. (free_number old.newest work ≡ Some sb.dev_number) × IsFirstOffset old sb.data_offset)

-- What is under way stays. The superblock of another slot may bear the numbers that it might before, and that of this one at most one more, which was free.
pub record IsWorkAdded (newest : Sb) (slot : ℕ) (old new : Work) : Type 0 where
  pub resync : new.resync ≡ old.resync
  pub rebuilt : new.rebuilt ≡ old.rebuilt
  pub others : (s number : ℕ) → s ≢ slot → bears new s number ≡ bears old s number
  pub one : (number : ℕ) → bears new slot number ≡ true → (bears old slot number ≡ true) ⊎ (free_number newest old ≡ Some number)

-- once its new superblock is written, it bears the number that was free, and no other; or else those that it might before too
abbrev pub AreNumbersBorne : {T : Type 0} → Sb → ℕ → Work → Work → Result T Fault → Type 0
AreNumbersBorne newest slot old new (Ok x) = IfSome (free_number newest old) (λ free. (number : ℕ) → number < 128 → bears new slot number ≡ (number == free))
AreNumbersBorne newest slot old new (Err fault) = (number : ℕ) → bears old slot number ≡ true → bears new slot number ≡ true

-- ---- what no call changes

-- the world of an array over its bank
abbrev pub world_for : {B : Type 0} → Given → List Operation → Parts B → World
world_for given tape parts = world_in given tape (scope_in given parts.uuid parts.given parts.backup) parts.first

-- over a bank that tells its contents the list at the opening is among it
pub record IsSameArray {B : Type 0} (tells : Type 0) (old new : Parts B) (before after : World) : Type 0 where
  pub uuid : new.uuid ≡ old.uuid
  pub given : new.given ≡ old.given
  pub first : new.first ≡ old.first
  pub backup : new.backup ≡ old.backup
  pub shape : shape_of new.members.newest ≡ shape_of old.members.newest
  pub size : new.members.newest.size ≡ old.members.newest.size
  pub list : tells → opening_list after ≡ opening_list before
