-- A level is taken over: when, and what it leaves.
use Rattle.std.specs.Prelude.{◌≡◌, ◌⊎◌, ℕ, ◌+◌, ◌-◌, ◌<◌, ◌++◌, ◌==◌, true, List, [], ◌∷◌, Some, None, if◌then◌else◌}
use Rattle.array_takeover_laws.specs.raid_types_Shapes.{has_slot}
use Rattle.array_takeover_laws.specs.raid_types_the_Refusal.{Refusal}
use Rattle.array_takeover_laws.specs.raid_types_the_Refusal_TheVariants.{Degraded, NeedSpares}
use Rattle.array_takeover_laws.specs.raid_types_the_Who.{Who}
use Rattle.array_takeover_laws.specs.raid_types_the_Shape.{Shape}
use Rattle.array_takeover_laws.specs.raid_types_the_Role_TheVariants.{Whole}
use Rattle.array_takeover_laws.specs.raid_types_the_Phase.{Phase}
use Rattle.array_takeover_laws.specs.raid_types_the_Phase_TheVariants.{UpTo6, DownTo5}
use Rattle.array_fixed_sync.specs.bank_the_Operation.{Operation}
use Rattle.array_fixed_sync.specs.bank_Given.{Given, NeverFalls}
use Rattle.array_fixed_sync.specs.sb_specs_the_Members.{Members}
use Rattle.array_fixed_sync.specs.sb_specs_Reading.{list_length, role_count, role_state}
use Rattle.array_fixed_sync.specs.sb_specs_Reads.{has_spare}
use Rattle.array_fixed_sync.specs.stripe_row_Rows.{reading_of, present}
use Rattle.array_fixed_sync.specs.history_the_Entry.{Entry}
use Rattle.array_fixed_sync.specs.history_the_Event_TheVariants.{Step, Refused}
use Rattle.array_fixed_sync.specs.history_the_StepKind_TheVariants.{TakenOver}
use Rattle.array_fixed_sync.specs.history_Plain.{entries_of}
use Rattle.array_fixed_sync.specs.crash_safety_laws_Marking.{AreOthersPresent}
use Rattle.reshape_sb_takeover.specs.TakingOver.{IsTakenTo, taken_plan}
use Rattle.array_fixed_sync.specs.array_members_the_Work.{Work}
use Rattle.array_fixed_sync.specs.array_members_Lacking.{HaveRolesFailed}
use Rattle.array_fixed_sync.specs.array_members_Moving.{Grows}
use Rattle.array_fixed_sync.specs.array_members_Placed.{is_unassigned, AreStillHeld}
use Rattle.array_takeover_laws.specs.history_append_Losing.{losses_of}
use Rattle.array_fixed_sync.specs.array_call_specs_Calls.{AreLossesOf, AreSparesFewer, AreStepsFewer, IsEndOf, with_rebuilt}
use Rattle.array_fixed_sync.specs.reshape_request_the_PhasesLeft.{PhasesLeft}
use Rattle.array_fixed_sync.specs.reshape_request_Asked.{lowest_missing}
use Rattle.array_fixed_sync.specs.array_specs_Parts.{RunningParts, still_left}
use Rattle.array_fixed_sync.specs.array_fixed_invariant_Still.{AreNoneMissing}
use Rattle.array_fixed_sync.specs.array_fixed_invariant_reshape_progress_Laws.{closed}
use Rattle.array_fixed_sync.specs.Rebuilding.{first_spare}

-- ---- when

-- the next phase is a takeover to this shape, and these stand behind it
abbrev pub IsTakeoverNext : List Phase → Shape → List Phase → Type 0
IsTakeoverNext phases to behind = (phases ≡ UpTo6 to ∷ behind) ⊎ (phases ≡ DownTo5 to ∷ behind)

-- the slot that a takeover changes: the lowest spare, which gets the last role of level 6; or the one that holds that role, which becomes a spare
abbrev pub IsTakenSlot : Members → Shape → ℕ → Type 0
IsTakenSlot m to slot = ((to.level ≡ 6) × (first_spare m ≡ Some slot)) ⊎ ((to.level ≡ 5) × (role_state (reading_of m) to.disks ≡ Whole slot))

-- a role is missing, of which the lowest is told, or there is no spare for the last role of level 6
abbrev pub IsUntaken : Members → Shape → Refusal → Type 0
IsUntaken m to refusal = ((role : ℕ) × (lowest_missing m ≡ Some role) × (refusal ≡ Degraded role)) ⊎ (AreNoneMissing m × (to.level ≡ 6) × (first_spare m ≡ None) × (refusal ≡ NeedSpares 0 1))

-- ---- what it leaves

-- what is under way then: nothing is rebuilt yet of the last role of level 6
abbrev pub work_then : Shape → Work → Work
work_then to work = if to.level == 6 then with_rebuilt (to.disks - 1) 0 work else work

-- the same array, from the same mark on, with the same limit of its visible size
pub record StaysItself {B : Type 0} (old new : RunningParts B) : Type 0 where
  pub uuid : new.parts.uuid ≡ old.parts.uuid
  pub given : new.parts.given ≡ old.parts.given
  pub first : new.parts.first ≡ old.parts.first
  pub backup : new.parts.backup ≡ old.parts.backup
  pub limit : new.limit ≡ old.limit

-- A call entered that the level was taken over, with so many steps left, and behind it what its update lost: each role that no slot holds then, and each spare of the plan that is none then, and no
-- other slot as a spare.
pub record IsTakenWith (who : Who) (plan later : Members) (old new : List Entry) (left : ℕ) : Type 0 where
  pub roles : ℕ
  pub spares : ℕ
  pub end : ℕ
  pub roles_told : (role : ℕ) → role < role_count later.newest → is_unassigned (reading_of later) role ≡ true → has_slot roles role ≡ true
  pub spares_told : (slot : ℕ) → has_spare plan.spares slot ≡ true → (has_spare later.spares slot ≡ true) ⊎ (has_slot spares slot ≡ true)
  pub spares_were : (slot : ℕ) → has_slot spares slot ≡ true → has_spare plan.spares slot ≡ true
  pub is : new ≡ old ++ entries_of who end (Step TakenOver left ∷ losses_of roles spares)

-- The level is taken over to this shape: no role was missing. To level 6 the lowest spare has the last role, of which it recovers the first row on; to level 5 the slot of the last role is a
-- spare; but those slots that failed in it. The list is as long, and these phases are ahead. Nothing is changed on the slots but superblocks.
pub record IsLevelTaken {B : Type 0} (tells : Type 0) (given : Given) (tape tape' : List Operation) (before after : ℕ → ℕ) (who : Who) (to : Shape) (behind : PhasesLeft) (old new : RunningParts B) : Type 0 where
  pub whole : AreNoneMissing old.parts.members
  pub slot : ℕ
  pub chosen : IsTakenSlot old.parts.members to slot
  pub entered : IsTakenWith who (taken_plan old.parts.members to slot) new.parts.members old.parts.entries new.parts.entries (still_left new.parts.work new.parts.members new.ahead)
  pub ended : IsEndOf tells new.parts.first new.parts.entries tape'
  pub grows : Grows tells tape tape'
  pub left : AreStepsFewer old.parts.entries new.parts.entries (still_left old.parts.work old.parts.members old.ahead) (still_left new.parts.work new.parts.members new.ahead)
  pub newest : IsTakenTo old.parts.members.newest to new.parts.members.newest
  pub long : list_length new.parts.members.newest ≡ list_length old.parts.members.newest
  pub held : AreStillHeld (taken_plan old.parts.members to slot) new.parts.members
  pub spares : AreSparesFewer (taken_plan old.parts.members to slot) new.parts.members
  pub kept : HaveRolesFailed (taken_plan old.parts.members to slot) new.parts.members before after
  pub losses : AreLossesOf (taken_plan old.parts.members to slot) before after old.parts.entries new.parts.entries
  pub never_falls : NeverFalls before after
  pub others : tells → AreOthersPresent (present given tape) (present given tape')
  pub course : new.course ≡ closed 0
  pub ahead : new.ahead ≡ behind
  pub steps : new.parts.steps + 1 ≡ old.parts.steps
  pub work : new.parts.work ≡ work_then to old.parts.work
  pub same : StaysItself old new

-- The array is as it was, and this refusal is entered.
pub record IsUntouched {B : Type 0} (tells : Type 0) (tape : List Operation) (who : Who) (refusal : Refusal) (old new : RunningParts B) : Type 0 where
  pub end : ℕ
  pub entered : new.parts.entries ≡ old.parts.entries ++ entries_of who end (Refused refusal ∷ [])
  pub ended : IsEndOf tells new.parts.first new.parts.entries tape
  pub bank : new.parts.bank ≡ old.parts.bank
  pub members : new.parts.members ≡ old.parts.members
  pub work : new.parts.work ≡ old.parts.work
  pub course : new.course ≡ closed 0
  pub ahead : new.ahead ≡ old.ahead
  pub steps : new.parts.steps + 1 ≡ old.parts.steps
  pub same : StaysItself old new
