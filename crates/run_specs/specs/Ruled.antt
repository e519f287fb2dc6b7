-- What the records of a run rule out.
use Rattle.std.specs.Prelude.{◌≡◌, ◌≢◌, ℕ, ◌+◌, ◌-◌, ◌<◌, ◌≤◌, true, false, List, length, take, drop, slice_get, Option, Some, ⊤}
use Rattle.std.specs.List.{All, list_any}
use Rattle.array_requests.specs.raid_types_the_Refusal.{Refusal}
use Rattle.array_requests.specs.raid_types_the_Refusal_TheVariants.{SlotTaken, SlotFault, Degraded}
use Rattle.array_requests.specs.raid_types_the_Status.{Status}
use Rattle.array_requests.specs.raid_types_the_Wish.{Wish}
use Rattle.array_requests.specs.bank_Given.{Given, IsFaulted}
use Rattle.script.specs.reshape_plan_Plans.{target}
use Rattle.array_requests.specs.sb_specs_Reading.{Reading, is_clean, is_reshaping, shape_of, target_of, role_count}
use Rattle.array_requests.specs.sb_specs_Reads.{has_spare}
use Rattle.script.specs.history_the_Event.{Event}
use Rattle.script.specs.history_the_Event_TheVariants.{Lost, Planned, Stepped, Refused}
use Rattle.script.specs.history_the_LostCause_TheVariants.{Fault as ByFault}
use Rattle.script.specs.history_Legal.{told_left, IsLegal}
use Rattle.script.specs.history_Losses.{is_gone_after}
use Rattle.script.specs.history_Transfers.{last_end_from}
use Rattle.script.specs.history_Reshaped.{is_planned}
use Rattle.script.specs.history_World.{World, reading_at}
use Rattle.array_requests.specs.Going.{is_added}
use Rattle.array_requests.specs.array_call_specs_Calls.{IsTaken}
use Rattle.array_requests.specs.history_invariant_laws_Reliable.{IsReliable}
use Rattle.array_requests.specs.array_members_Rebuilding.{Held}
use Rattle.array_requests.specs.array_Calls.{running_left, IsShownAs, IsReplyNow}
use Rattle.array_requests.specs.array_grow_Stored.{AreStoredAt, IsStoredBy}
use Rattle.array_requests.specs.array_specs_Plans.{aim_of}
use Rattle.script.specs.declared.lines.CreateLine.{CreateLine}
use Rattle.script.specs.declared.lines.Line.{Line}
use Rattle.script.specs.declared.lines.Line.TheVariants.{Fail, Add, ArraySize, Grow, Step, Wait, Detail, Mdstat}
use Rattle.script.specs.declared.reply.Lane.{Lane}
use Rattle.script.specs.declared.reply.Lane.TheVariants.{Script as InScript}
use Rattle.run_specs.specs.declared.report.Answered.TheVariants.{Inside}
use Rattle.run_specs.specs.Blocks.{caller_of, IsOfBlock}
use Rattle.run_specs.specs.Histories.{History}
use Rattle.run_specs.specs.Replies.{Course, course_after, IsAnsweredInside}
use Rattle.run_specs.specs.Caused.{Record, IsJudgedBy}
use Rattle.run_specs.specs.Records.{IsLeftTold, IsNewRecord, IsLeftBy, IsLeftByBlock}

-- A fail of a role of an array that was just made isn't refused.
abbrev pub NewRolesFail : Type 0
NewRolesFail = (backup : Option ℕ) (line : CreateLine) (array : Record) (given : Given) (role : ℕ) (refusal : Refusal) → IsNewRecord backup line array → role < line.shape.disks → IsJudgedBy given array (Fail role) (Refused refusal) → ⊥

-- Nor is an add of a slot that it doesn't use, for being taken.
abbrev pub UnusedSlotsAreFree : Type 0
UnusedSlotsAreFree = (backup : Option ℕ) (line : CreateLine) (array : Record) (given : Given) (slot taken : ℕ) → IsNewRecord backup line array → line.shape.disks ≤ slot → backup ≢ Some slot → IsJudgedBy given array (Add slot) (Refused (SlotTaken taken)) → ⊥

-- Nor is a step behind a plan that tells steps.
abbrev pub PlansAreStepped : Type 0
PlansAreStepped = (given : Given) (before now : ℕ → ℕ) (old planned : Record) (wish : Wish) (left most : ℕ) (refusal : Refusal) → IsJudgedBy given old (Grow wish) (Planned left wish) → IsLeftBy before now old planned (Grow wish) (Planned left wish)
    → 0 < left → IsJudgedBy given planned (Step most) (Refused refusal) → ⊥

-- Behind a plan a wait that leaves no step leaves the shape that was wished for.
abbrev pub PlansArrive : Type 0
PlansArrive = (given : Given) (before now : ℕ → ℕ) (old planned new : Record) (wish : Wish) (left : ℕ) (event : Event) → IsJudgedBy given old (Grow wish) (Planned left wish) → IsLeftBy before now old planned (Grow wish) (Planned left wish)
    → IsLeftBy before now planned new Wait event → running_left new ≡ 0 → shape_of new.parts.members.newest ≡ target (shape_of old.parts.members.newest) wish

-- Behind a block whose entries tell no plan a wait that leaves no step leaves the shape that the array went to before the block.
abbrev pub BlocksLeadOn : Type 0
BlocksLeadOn = (before now : ℕ → ℕ) (old next new : Record) (event : Event) → (left : IsLeftByBlock before now old next) → list_any (λ e. is_planned e.event) left.entered.more ≡ false → IsLeftBy before now next new Wait event → running_left new ≡ 0
    → shape_of new.parts.members.newest ≡ aim_of old

-- A step isn't refused as having nothing to do where the history tells that some are left.
abbrev pub ToldStepsAreLeft : Type 0
ToldStepsAreLeft = (array : Record) (given : Given) (left most : ℕ) (refusal : Refusal) → IsLeftTold array → told_left array.parts.entries ≡ Some left → 0 < left → IsJudgedBy given array (Step most) (Refused refusal) → ⊥

-- the line uses no member: it shows the array, limits it or plans, or it fails a role or adds a slot and is refused before one is touched
abbrev pub UsesNoMember : Line → Event → Type 0
UsesNoMember (Fail role) (Refused refusal) = ⊤
UsesNoMember (Add slot) (Refused (SlotFault failed)) = ⊥
UsesNoMember (Add slot) (Refused refusal) = ⊤
UsesNoMember (ArraySize limit) event = ⊤
UsesNoMember (Grow wish) event = ⊤
UsesNoMember Detail event = ⊤
UsesNoMember Mdstat event = ⊤
UsesNoMember line event = ⊥

-- A spare stays one by such a line.
abbrev pub SparesStay : Type 0
SparesStay = (before now : ℕ → ℕ) (old new : Record) (line : Line) (event : Event) (slot : ℕ) → UsesNoMember line event → IsLeftBy before now old new line event → has_spare old.parts.members.spares slot ≡ true
    → has_spare new.parts.members.spares slot ≡ true

-- A slot that isn't taken before a block, and that none of the block's entries tells added, isn't taken behind it: an add of it isn't refused so.
abbrev pub FreeSlotsStay : Type 0
FreeSlotsStay = (before now : ℕ → ℕ) (old new : Record) (given : Given) (slot taken : ℕ) → (left : IsLeftByBlock before now old new) → (IsTaken old.parts.backup old.parts.members slot → ⊥) → list_any (λ e. is_added slot e.event) left.entered.more ≡ false
    → IsJudgedBy given new (Add slot) (Refused (SlotTaken taken)) → ⊥

-- The stored superblocks say at this mark what the status tells: the shape, the one that a reshape goes to, the size, whether the array is clean, and how far a reshape has come.
pub record IsStatusStored (world : World) (mark : ℕ) (status : Status) : Type 0 where
  pub found : Reading
  pub is : reading_at world mark ≡ Some found
  pub shape : status.shape ≡ shape_of found.newest
  pub target : status.target ≡ target_of found.newest
  pub size : status.size ≡ found.newest.size
  pub clean : status.clean ≡ is_clean found.newest
  pub position : is_reshaping found.newest ≡ true → status.position ≡ found.newest.reshape_position

-- So it is of the status of an array whose members are those that are stored.
abbrev pub StatusesAreStored : Type 0
StatusesAreStored = (world : World) (mark : ℕ) (array : Record) (status : Status) → AreStoredAt world mark array.parts.members → IsShownAs array status → IsStatusStored world mark status

-- Where a history is legal, no lane and no worker has called between the replies to two lines of the script, one of which follows the other.
abbrev pub LanesCallInBlocks : Type 0
LanesCallInBlocks = (world : World) (histories : List History) (history : History) (course : Course) (epoch here there : ℕ) (line next : Line) → slice_get histories epoch ≡ Some history → IsLegal world history.entries
    → IsAnsweredInside histories course epoch here line → IsAnsweredInside histories (course_after histories course InScript line (Inside epoch here)) epoch there next
    → All (λ e. IsOfBlock e.caller → ⊥) (take (there - here) (drop (here + 1) history.entries))

-- Up to the reply to a line of the script behind which no call of a lane, or of the worker, is told, none of the entries is its.
abbrev pub UnaskedLanesAreSilent : Type 0
UnaskedLanesAreSilent = (histories : List History) (history : History) (course : Course) (epoch place : ℕ) (line : Line) (lane : Lane) → slice_get histories epoch ≡ Some history → IsAnsweredInside histories course epoch place line
    → lane ≢ InScript → course.calls lane ≡ 0 → All (λ e. e.caller ≢ caller_of lane) (take (place + 1) history.entries)

-- Where by its history one role of an array isn't gone, the stored superblocks say what its record does.
abbrev pub RecordsAreStored : Type 0
RecordsAreStored = (world : World) (array : Record) (role : ℕ) → IsStoredBy world array → IsReliable world array.parts.entries → role < role_count array.parts.members.newest → is_gone_after world array.parts.entries role ≡ false
    → AreStoredAt world (last_end_from world.first array.parts.entries) array.parts.members

-- Steps end for a role that is missing only where by the history it is gone.
abbrev pub GoneRolesEndSteps : Type 0
GoneRolesEndSteps = (world : World) (array : Record) (done left role : ℕ) → IsStoredBy world array → IsReliable world array.parts.entries → IsReplyNow array (Stepped done left (Some (Degraded role))) → is_gone_after world array.parts.entries role ≡ true

-- By a fail a role isn't told lost by a fault whose slot hasn't failed.
abbrev pub HealthyRolesStay : Type 0
HealthyRolesStay = (before now : ℕ → ℕ) (old new : Record) (asked : ℕ) (event : Event) (role slot : ℕ) → IsLeftBy before now old new (Fail asked) event → Held old.parts.members role slot → (IsFaulted slot before now → ⊥)
    → All (λ e. e.event ≢ Lost role ByFault) (drop (length old.parts.entries) new.parts.entries)
