-- What an array without an active reshape keeps between its calls.
use Rattle.std.specs.Prelude.{◌≡◌, ◌⊎◌, ℕ, ◌*◌, ◌<◌, ◌≤◌, true, false, List, [], Option}
use Rattle.std.specs.List.{list_any}
use Rattle.array_fixed_invariant.specs.raid_types_Shapes.{has_slot}
use Rattle.array_fixed_invariant.specs.bank_the_Operation.{Operation}
use Rattle.array_fixed_invariant.specs.bank_Given.{Given}
use Rattle.array_fixed_invariant.specs.reshape_plan_Plans.{AreSound}
use Rattle.array_fixed_invariant.specs.sb_specs_the_Members.{Members}
use Rattle.array_fixed_invariant.specs.sb_specs_Reading.{Scope, shape_of, list_length}
use Rattle.array_fixed_invariant.specs.history_the_Entry.{Entry}
use Rattle.array_fixed_invariant.specs.history_Flat.{length_of, limit_of}
use Rattle.array_fixed_invariant.specs.array_members_the_Work.{Work}
use Rattle.array_fixed_invariant.specs.reshape_request_the_PhasesLeft.{PhasesLeft}
use Rattle.array_fixed_invariant.specs.reshape_request_Left.{phases_of}
use Rattle.array_fixed_invariant.specs.history_invariant_Safe.{world_in}
use Rattle.array_fixed_invariant.specs.Still.{IsStill}
use Rattle.array_specs.specs.Parts.{still_left}
use Rattle.array_specs.specs.Plans.{turns_shape, KeepsShape}
use Rattle.array_fixed_laws.specs.Plain.{AreToldPlainly, IsPlainKept}

-- The array keeps its record, with the steps that are left. The entries tell the length of its list and the limit of its visible size; the phases ahead can follow. Each slot that wasn't
-- found sound has failed, and there is room for the entries of so many steps and of its end, and for the rows of one call in two regions. As long as its history keeps its shape, it says what one of
-- one shape says; and a plan has phases ahead only where that was told.
pub record IsReady (tells : Type 0) (given : Given) (tape : List Operation) (scope : Scope) (first : ℕ) (entries : List Entry)
    (members : Members) (work : Work) (ahead : PhasesLeft) (limit : Option ℕ) (faults : ℕ → ℕ) (steps room rows buffer far_rows far_buffer : ℕ) : Type 0 where
  pub kept : IsStill tells given tape scope first entries members work (still_left work members ahead)
  pub sized : length_of (list_length members.newest) entries ≡ list_length members.newest
  pub limited : limit_of entries ≡ limit
  pub planned : AreSound (shape_of members.newest) members.newest.size (phases_of ahead)
  pub failed : (slot : ℕ) → slot < given.slots → has_slot scope.given slot ≡ false → 0 < faults slot
  pub room_left : 50 * steps < room
  pub rows_fit : 128 ≤ rows
  pub buffer_fits : 1048576 ≤ buffer
  pub far_rows_fit : 128 ≤ far_rows
  pub far_buffer_fits : 1048576 ≤ far_buffer
  pub plain : tells → KeepsShape (world_in given tape scope first) entries → IsPlainKept (world_in given tape scope first) members entries
  pub plainly : list_any (λ e. turns_shape e.event) entries ≡ false → AreToldPlainly entries
  pub ahead_told : (phases_of ahead ≡ []) ⊎ (list_any (λ e. turns_shape e.event) entries ≡ true)
