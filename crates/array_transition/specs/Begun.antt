-- A reshape begins in an array that had none: what is asked of it, and what it leaves.
use Rattle.std.specs.Prelude.{◌≡◌, ◌≢◌, ◌⊎◌, ℕ, ◌+◌, ◌-◌, ◌<◌, ◌≤◌, ◌++◌, Bool, true, false, List, [], ◌∷◌, Option, Some, IfSome, if◌then◌else◌, ⊤}
use Rattle.std.specs.List.{list_any}
use Rattle.array_reshaping_steps.specs.raid_types_the_Refusal.{Refusal}
use Rattle.array_reshaping_steps.specs.raid_types_the_Refusal_TheVariants.{PastEnd, TooManyMissing, NotResynced, Degraded, NeedSpares, BackupFault}
use Rattle.array_reshaping_steps.specs.raid_types_the_Who.{Who}
use Rattle.array_reshaping_steps.specs.raid_types_the_Shape.{Shape}
use Rattle.array_reshaping_steps.specs.raid_types_the_Phase_TheVariants.{Reshape}
use Rattle.array_reshaping_steps.specs.raid_types_Shapes.{has_slot}
use Rattle.array_reshaping_steps.specs.bank_the_Operation.{Operation}
use Rattle.array_reshaping_steps.specs.bank_Given.{Given, IsFaulted, NeverFalls}
use Rattle.array_reshaping_steps.specs.bank_Tape.{Contents}
use Rattle.array_reshaping_steps.specs.reshape_geometry_Geometry.{list_end}
use Rattle.array_reshaping_steps.specs.reshape_plan_Plans.{phase_window}
use Rattle.array_reshaping_steps.specs.sb_specs_the_Members.{Members}
use Rattle.array_reshaping_steps.specs.sb_specs_Reading.{is_clean, shape_of, role_count, role_state, holder, list_length}
use Rattle.array_reshaping_steps.specs.sb_specs_Reads.{has_spare}
use Rattle.array_reshaping_steps.specs.stripe_row_Rows.{reading_of, present}
use Rattle.array_reshaping_steps.specs.history_the_Entry.{Entry}
use Rattle.array_reshaping_steps.specs.history_the_Event.{Event}
use Rattle.array_reshaping_steps.specs.history_the_Event_TheVariants.{Step, Refused, Resized}
use Rattle.array_reshaping_steps.specs.history_the_StepKind_TheVariants.{Begun}
use Rattle.array_reshaping_steps.specs.history_Plain.{entries_of}
use Rattle.array_reshaping_steps.specs.history_Reshaped.{is_done}
use Rattle.array_reshaping_steps.specs.history_append_Losing.{losses_of}
use Rattle.array_reshaping_steps.specs.array_members_Placed.{is_unassigned, AreStillHeld}
use Rattle.array_reshaping_steps.specs.array_members_Lacking.{HaveRolesFailed}
use Rattle.array_reshaping_steps.specs.array_members_Moving.{Grows}
use Rattle.array_reshaping_steps.specs.array_members_Status.{spare_count}
use Rattle.array_reshaping_steps.specs.array_call_specs_Calls.{AreSparesFewer, AreLossesOf, IsEndOf}
use Rattle.array_reshaping_steps.specs.reshape_sb_updates_Beginning.{goes_back}
use Rattle.array_reshaping_steps.specs.reshape_begin_end_Begun.{begun_plan}
use Rattle.array_reshaping_steps.specs.reshape_request_the_PhasesLeft.{PhasesLeft}
use Rattle.array_reshaping_steps.specs.reshape_request_Left.{IsAtStartOf}
use Rattle.array_reshaping_steps.specs.reshape_request_Asked.{lowest_missing}
use Rattle.array_reshaping_steps.specs.history_invariant_Recorded.{IsCallGoing}
use Rattle.array_reshaping_steps.specs.reshape_progress_Laws.{closed}
use Rattle.array_reshaping_steps.specs.array_fixed_invariant_Still.{AreNoneMissing}
use Rattle.array_reshaping_steps.specs.array_specs_Parts.{RunningParts, left_in, still_left}

-- ---- what is asked

-- the event changes the length of the list
abbrev pub is_resize : Event → Bool
is_resize (Resized n) = true
is_resize event = false

-- A call goes on that has changed no length so far, and told of steps that are left wherever it told of steps.
pub record HasKeptLength (entries : List Entry) (who : Who) : Type 0 where
  pub goes : IsCallGoing entries who
  pub lengths : list_any (λ e. is_resize e.event) goes.call ≡ false
  pub steps : list_any (λ e. is_done e.event) goes.call ≡ false

-- The slot can be the backup of a reshape to this shape: it holds no role and is no spare, and has room for the header and the sectors of each window.
pub record IsBackupAt (given : Given) (members : Members) (to : Shape) (slot : ℕ) : Type 0 where
  pub known : slot < given.slots
  pub apart : has_spare members.spares slot ≡ false
  pub own : (role : ℕ) → holder (role_state (reading_of members) role) ≡ Some slot → ⊥
  pub room : 8 + phase_window (shape_of members.newest) members.newest.size (Reshape to) ≤ given.sectors slot

-- ---- why it doesn't begin

-- no role is missing, and there are spares for the new roles
abbrev pub CanBegin : Members → Shape → Type 0
CanBegin members to = AreNoneMissing members × (to.disks ≤ (shape_of members.newest).disks + spare_count members)

-- a role is missing, of which the lowest is told, or there are too few spares
abbrev pub IsUnbegun : Members → Shape → Refusal → Type 0
IsUnbegun members to refusal = ((role : ℕ) × (lowest_missing members ≡ Some role) × (refusal ≡ Degraded role))
    ⊎ (AreNoneMissing members × ((shape_of members.newest).disks + spare_count members < to.disks)
    × (refusal ≡ NeedSpares (spare_count members) (to.disks - (shape_of members.newest).disks)))

-- the refusal says nothing of what was entered before it
abbrev pub IsPlain : Refusal → Type 0
IsPlain (PastEnd visible) = ⊥
IsPlain (TooManyMissing count most) = ⊥
IsPlain (NotResynced role) = ⊥
IsPlain refusal = ⊤

-- ---- what it leaves

-- the same array, from the same mark on, with the same limit of its visible size
pub record StaysItself {B : Type 0} (old new : RunningParts B) : Type 0 where
  pub uuid : new.parts.uuid ≡ old.parts.uuid
  pub given : new.parts.given ≡ old.parts.given
  pub first : new.parts.first ≡ old.parts.first
  pub backup : new.parts.backup ≡ old.parts.backup
  pub work : new.parts.work ≡ old.parts.work
  pub limit : new.limit ≡ old.limit

-- each slot that was a spare is one still, or it has failed
abbrev pub AreSparesKeptOrFailed : Members → Members → (ℕ → ℕ) → (ℕ → ℕ) → Type 0
AreSparesKeptOrFailed old new before after = (slot : ℕ) → has_spare old.spares slot ≡ true → (has_spare new.spares slot ≡ true) ⊎ IsFaulted slot before after

-- every sector but the superblocks and the backup's header is as it was
abbrev pub AreOtherSectorsKept : Option ℕ → Contents → Contents → Type 0
AreOtherSectorsKept backup before after = (slot k : ℕ) → k ≢ 8 → (backup ≢ Some slot) ⊎ (k ≢ 0) → after slot k ≡ before slot k

-- a reshape to fewer data disks makes the list shorter as it begins
abbrev pub begun_length : Bool → ℕ → List Event
begun_length back size = if back then Resized size ∷ [] else []

-- A call entered that the reshape began, with so many steps left, and behind it the new length, where the list gets shorter, and what its update lost: each role that no slot holds then, and each
-- spare of the plan that is none then, and no other slot as a spare.
pub record IsBegunWith (who : Who) (back : Bool) (size : ℕ) (plan later : Members) (old new : List Entry) (left : ℕ) : Type 0 where
  pub roles : ℕ
  pub spares : ℕ
  pub end : ℕ
  pub roles_told : (role : ℕ) → role < role_count later.newest → is_unassigned (reading_of later) role ≡ true → has_slot roles role ≡ true
  pub spares_told : (slot : ℕ) → has_spare plan.spares slot ≡ true → (has_spare later.spares slot ≡ true) ⊎ (has_slot spares slot ≡ true)
  pub spares_were : (slot : ℕ) → has_slot spares slot ≡ true → has_spare plan.spares slot ≡ true
  pub is : new ≡ old ++ entries_of who end (Step Begun left ∷ begun_length back size ++ losses_of roles spares)

-- The reshape to this shape has begun: no role was missing, and the lowest spares have the new roles, but those slots that failed in it; the list is as long as both shapes have room
-- for, and these phases are ahead. Nothing is changed on the slots but superblocks and the backup's header.
pub record IsReshapeBegun {B : Type 0} (tells : Type 0) (given : Given) (tape tape' : List Operation) (before after : ℕ → ℕ) (who : Who) (to : Shape) (behind : PhasesLeft) (old new : RunningParts B) : Type 0 where
  pub could : CanBegin old.parts.members to
  pub entered : IsBegunWith who (goes_back (shape_of old.parts.members.newest) to) (list_length new.parts.members.newest) (begun_plan old.parts.members to) new.parts.members old.parts.entries new.parts.entries (left_in new.parts.work new.parts.members new.course new.ahead)
  pub ended : IsEndOf tells new.parts.first new.parts.entries tape'
  pub grows : Grows tells tape tape'
  pub left : left_in new.parts.work new.parts.members new.course new.ahead + 1 ≡ still_left old.parts.work old.parts.members old.ahead
  pub start : IsAtStartOf old.parts.members.newest to new.parts.members.newest
  pub long : list_length new.parts.members.newest ≡ list_end (shape_of old.parts.members.newest) to old.parts.members.newest.size
  pub held : AreStillHeld (begun_plan old.parts.members to) new.parts.members
  pub spares : AreSparesFewer (begun_plan old.parts.members to) new.parts.members
  pub kept : HaveRolesFailed (begun_plan old.parts.members to) new.parts.members before after
  pub spares_kept : AreSparesKeptOrFailed (begun_plan old.parts.members to) new.parts.members before after
  pub losses : AreLossesOf (begun_plan old.parts.members to) before after old.parts.entries new.parts.entries
  pub never_falls : NeverFalls before after
  pub clean : is_clean new.parts.members.newest ≡ is_clean old.parts.members.newest
  pub others : tells → AreOtherSectorsKept old.parts.backup (present given tape) (present given tape')
  pub course : new.course ≡ closed 0
  pub ahead : new.ahead ≡ behind
  pub steps : new.parts.steps + 1 ≡ old.parts.steps
  pub same : StaysItself old new

-- The array is as it was, and this refusal is entered. Nothing is changed on the slots but, perhaps, the backup's header.
pub record IsGivenBack {B : Type 0} (tells : Type 0) (given : Given) (tape tape' : List Operation) (who : Who) (refusal : Refusal) (old new : RunningParts B) : Type 0 where
  pub end : ℕ
  pub entered : new.parts.entries ≡ old.parts.entries ++ entries_of who end (Refused refusal ∷ [])
  pub ended : IsEndOf tells new.parts.first new.parts.entries tape'
  pub members : new.parts.members ≡ old.parts.members
  pub others : tells → AreOtherSectorsKept old.parts.backup (present given tape) (present given tape')
  pub course : new.course ≡ closed 0
  pub ahead : new.ahead ≡ old.ahead
  pub steps : new.parts.steps + 1 ≡ old.parts.steps
  pub same : StaysItself old new

-- why it was refused: before anything was done, or because the backup failed
abbrev pub IsBeginRefused : {B : Type 0} → (ℕ → ℕ) → (ℕ → ℕ) → Shape → Refusal → RunningParts B → RunningParts B → Type 0
IsBeginRefused before after to refusal old new = (IsUnbegun old.parts.members to refusal × (new.parts.bank ≡ old.parts.bank))
    ⊎ (CanBegin old.parts.members to × (refusal ≡ BackupFault) × IfSome old.parts.backup (λ slot. IsFaulted slot before after))
