-- A request to grow an array: what is asked, what is answered, and what a plan leaves.
use Rattle.std.specs.Prelude.{◌≡◌, ℕ, ◌+◌, ◌<◌, ◌≤◌, ◌++◌, List, [], ◌∷◌, length, Option, Some, None, option_map, Result, Ok, Err, ⊤}
use Rattle.array_reply_specs.specs.raid_types_the_Fault.{Fault}
use Rattle.array_reply_specs.specs.raid_types_the_Fault_TheVariants.{Refused as IsRefusedWith, NoMemory}
use Rattle.array_reply_specs.specs.raid_types_the_Refusal.{Refusal}
use Rattle.array_reply_specs.specs.raid_types_the_Who.{Who}
use Rattle.array_reply_specs.specs.raid_types_the_Wish.{Wish}
use Rattle.array_reply_specs.specs.bank_Given.{Given, sizes}
use Rattle.array_transition.specs.reshape_plan_Plans.{phases, phases_steps, largest_window, AreSound}
use Rattle.array_transition.specs.sb_specs_the_Members.{Members}
use Rattle.array_transition.specs.sb_specs_Reading.{shape_of}
use Rattle.array_reply_specs.specs.history_the_Entry.{Entry}
use Rattle.array_reply_specs.specs.history_the_Event.{Event}
use Rattle.array_reply_specs.specs.history_the_Event_TheVariants.{Refused}
use Rattle.array_reply_specs.specs.history_the_Request.{Request}
use Rattle.array_reply_specs.specs.history_the_Request_TheVariants.{Visible as AsksVisible, Grow as AsksGrow}
use Rattle.array_transition.specs.history_Fits.{Fits, WhereAsked, phases_left}
use Rattle.array_transition.specs.history_Plain.{entries_of}
use Rattle.array_transition.specs.history_World.{World}
use Rattle.array_transition.specs.array_members_Status.{left_of}
use Rattle.array_transition.specs.reshape_request_Asked.{Asked, asked_of, grow_refusal}
use Rattle.array_transition.specs.reshape_request_Fitting.{IsReadLike}
use Rattle.array_transition.specs.reshape_request_Left.{phases_of}
use Rattle.array_transition.specs.history_invariant_Recorded.{entry_of}
use Rattle.array_reply_specs.specs.history_invariant_laws_Reliable.{IsReliable}
use Rattle.array_transition.specs.array_fixed_invariant_Still.{AreNoneMissing}
use Rattle.array_transition.specs.array_specs_Parts.{RunningParts, visible_in}

-- ---- what is asked

-- what is asked to grow of an array
abbrev pub asked_in : {B : Type 0} → Given → RunningParts B → Asked
asked_in given array = asked_of array.parts.members array.parts.work.resync (length (phases_of array.ahead)) (visible_in array) (option_map (sizes given).sectors array.parts.backup)

-- A request is done exactly where nothing speaks against it, and refused for the first that does; memory may be short for either.
abbrev pub IsJudged : {T : Type 0} → Option Refusal → Result T Fault → Type 0
IsJudged first (Ok x) = first ≡ None
IsJudged first (Err (IsRefusedWith refusal)) = first ≡ Some refusal
IsJudged first (Err NoMemory) = ⊤

-- so a grow is planned
abbrev pub IsGrowJudged : {T : Type 0} → Asked → Wish → Result T Fault → Type 0
IsGrowJudged a wish result = IsJudged (grow_refusal a wish) result

-- ---- what is answered

-- where roles and spares of the superblocks are asked for, they say at this end what the members do
abbrev pub IsReadWhereAsked : World → List Entry → ℕ → Members → Type 0
IsReadWhereAsked world before end members = WhereAsked world before end (λ r. IsReadLike r members)

-- where so many phases are ahead, the history tells some that haven't ended
abbrev pub ArePhasesTold : World → List Entry → ℕ → Type 0
ArePhasesTold world entries phases = 0 < phases → 0 < phases_left world entries

-- The reply to a request is entered where the tape ends. It fits the request, where what the history says can be relied on and it tells the phases that are ahead, so many of them, and where the
-- superblocks say what the members do as far as they are asked.
pub record IsReplyTo (tells : Type 0) (world : World) (phases : ℕ) (members : Members) (request : Request) (who : Who) (old new : List Entry) (event : Event) : Type 0 where
  pub end : ℕ
  pub at_end : tells → end ≡ length world.tape
  pub is : new ≡ old ++ entries_of who end (event ∷ [])
  pub fits : tells → IsReliable world old → ArePhasesTold world old phases → IsReadWhereAsked world old end members → Fits world old (entry_of who end event) request

-- the reply by the answer, with the event of an Ok
abbrev pub IsReplied : {T : Type 0} → Type 0 → World → ℕ → Members → Request → Who → List Entry → List Entry → Event → Result T Fault → Type 0
IsReplied tells world phases members request who old new event (Ok x) = IsReplyTo tells world phases members request who old new event
IsReplied tells world phases members request who old new event (Err (IsRefusedWith refusal)) = IsReplyTo tells world phases members request who old new (Refused refusal)
IsReplied tells world phases members request who old new event (Err NoMemory) = new ≡ old

-- a reshape refuses the request
abbrev pub IsRefusedInReshape : Request → Type 0
IsRefusedInReshape (AsksGrow wish) = ⊤
IsRefusedInReshape (AsksVisible limit) = ⊤
IsRefusedInReshape request = ⊥

-- so it is of a request to grow
abbrev pub IsGrowReply : Type 0 → World → Asked → Wish → Who → List Entry → List Entry → Event → Type 0
IsGrowReply tells world a wish who old new event = IsReplyTo tells world a.phases a.members (AsksGrow wish) who old new event

abbrev pub IsGrowAnswered : {T : Type 0} → Type 0 → World → Asked → Wish → Who → List Entry → List Entry → Event → Result T Fault → Type 0
IsGrowAnswered tells world a wish who old new event result = IsReplied tells world a.phases a.members (AsksGrow wish) who old new event result

-- ---- what it leaves

-- the array is as it was, but for its history, its plan and its limit
pub record IsAsBefore {B : Type 0} (old new : RunningParts B) : Type 0 where
  pub bank : new.parts.bank ≡ old.parts.bank
  pub uuid : new.parts.uuid ≡ old.parts.uuid
  pub given : new.parts.given ≡ old.parts.given
  pub first : new.parts.first ≡ old.parts.first
  pub backup : new.parts.backup ≡ old.parts.backup
  pub members : new.parts.members ≡ old.parts.members
  pub work : new.parts.work ≡ old.parts.work
  pub course : new.course ≡ old.course

-- where the largest window of a plan has so many sectors, it has a backup, with room for its header and for them
abbrev pub HasWideBackup : Given → Option ℕ → ℕ → Type 0
HasWideBackup given backup window = 0 < window → (slot : ℕ) × (backup ≡ Some slot) × (slot < given.slots) × (8 + window ≤ given.sectors slot)

-- The phases of the wish are ahead, which can follow each other, and nothing else is left to do, no role is missing, the backup has room for each window, and the history tells as many phases that haven't ended.
pub record IsGrowPlanned {B : Type 0} (tells : Type 0) (given : Given) (world : World) (wish : Wish) (left : ℕ) (new : RunningParts B) : Type 0 where
  pub ahead : phases_of new.ahead ≡ phases (shape_of new.parts.members.newest) wish
  pub left_is : left ≡ phases_steps (shape_of new.parts.members.newest) new.parts.members.newest.size (phases_of new.ahead)
  pub some : 0 < left
  pub idle : left_of new.parts.work new.parts.members ≡ 0
  pub whole : AreNoneMissing new.parts.members
  pub sound : AreSound (shape_of new.parts.members.newest) new.parts.members.newest.size (phases_of new.ahead)
  pub backed : HasWideBackup given new.parts.backup (largest_window (shape_of new.parts.members.newest) new.parts.members.newest.size (phases_of new.ahead))
  pub told : tells → IsReliable world new.parts.entries → phases_left world new.parts.entries ≡ length (phases_of new.ahead)
