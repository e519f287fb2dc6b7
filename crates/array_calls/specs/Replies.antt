-- A reply to a request for steps in a reshape.
use Rattle.std.specs.Prelude.{◌≡◌, ◌⊎◌, false, IsSome, MatchOption, ⊤}
use Rattle.array_type.specs.raid_types_the_Refusal.{Refusal}
use Rattle.array_type.specs.raid_types_the_Refusal_TheVariants.{BackupFault}
use Rattle.array_type.specs.raid_types_the_Shape.{Shape}
use Rattle.array_type.specs.sb_specs_the_Members.{Members}
use Rattle.array_type.specs.history_the_Event.{Event}
use Rattle.array_type.specs.history_the_Event_TheVariants.{Stepped}
use Rattle.array_type.specs.array_members_the_Work.{Work}
use Rattle.array_type.specs.array_members_Placed.{IsInForce}
use Rattle.array_type.specs.array_members_Lacking.{AreTooMany, IsNotResynced}
use Rattle.array_type.specs.reshape_request_the_PhasesLeft.{PhasesLeft}
use Rattle.array_type.specs.reshape_progress_the_Course.{Course}
use Rattle.array_type.specs.array_specs_Parts.{left_in}

-- a resync is pending, and a role is missing that has data by a shape in force
abbrev pub IsUnmendableNow : Work → Members → Refusal → Type 0
IsUnmendableNow work members refusal = IsSome work.resync × (shape : Shape) × IsInForce members.newest shape × IsNotResynced shape false members refusal

-- a step of a reshape that ended the request was refused for what is missing now, in the pending resync also for a role that has data, or for the backup
abbrev pub IsEndedInReshape : Work → Members → Refusal → Type 0
IsEndedInReshape work members refusal = AreTooMany members refusal ⊎ (IsUnmendableNow work members refusal ⊎ (refusal ≡ BackupFault))

-- so many steps are left, and a step was refused rightly that ended the request
abbrev pub IsReplyInReshape : Work → Members → Course → PhasesLeft → Event → Type 0
IsReplyInReshape work members course ahead (Stepped done left ended) = (left ≡ left_in work members course ahead) × MatchOption ended ⊤ (IsEndedInReshape work members)
IsReplyInReshape work members course ahead event = ⊥
