-- What contracts see of an array, whether a reshape is active in it or not.
use Rattle.std.specs.Prelude.{ℕ, ◌+◌, Option}
use Rattle.array_reshaping_state.specs.reshape_plan_Plans.{phases_steps}
use Rattle.array_reshaping_state.specs.sb_specs_the_Members.{Members}
use Rattle.array_reshaping_state.specs.sb_specs_Reading.{shape_of, list_length}
use Rattle.array_reshaping_state.specs.array_members_the_Work.{Work}
use Rattle.array_reshaping_state.specs.array_members_Parts.{Parts}
use Rattle.array_reshaping_state.specs.array_members_Status.{left_of}
use Rattle.array_reshaping_state.specs.reshape_request_the_PhasesLeft.{PhasesLeft}
use Rattle.array_reshaping_state.specs.reshape_request_Left.{phases_of, grow_left}
use Rattle.array_reshaping_state.specs.stripe_region_resync_Left.{resync_left}
use Rattle.array_reshaping_state.specs.reshape_progress_the_Course.{Course}
use Rattle.array_reshaping_state.specs.Left.{visible_by}

-- what is seen of an array of one shape too, how far the reshape has come, the phases of the plan that are ahead, and the limit of the visible size
pub record RunningParts (B : Type 0) : Type 0 where
  pub parts : Parts B
  pub course : Course
  pub ahead : PhasesLeft
  pub limit : Option ℕ

-- how many sectors can be read and written: those of the list, or of these those below the limit
abbrev pub visible_size : Members → Option ℕ → ℕ
visible_size members limit = visible_by (list_length members.newest) limit

abbrev pub visible_in : {B : Type 0} → RunningParts B → ℕ
visible_in array = visible_size array.parts.members array.limit

-- the steps that are left, of the reshape, of a pending resync and of the phases ahead
abbrev pub left_in : Work → Members → Course → PhasesLeft → ℕ
left_in work members course ahead = grow_left members.newest course.window course.zeroed (phases_of ahead) + resync_left members.newest course.window work.resync

-- the steps that are left where no reshape is active: of a pending resync, of the roles that are to be rebuilt, and of the phases of a plan
abbrev pub still_left : Work → Members → PhasesLeft → ℕ
still_left work members ahead = left_of work members + phases_steps (shape_of members.newest) members.newest.size (phases_of ahead)
