-- What an array keeps alike, whether a reshape is active in it or not.
use Rattle.std.proofs.Common.{◌≡◌, ℕ, ◌*◌, ◌<◌, ◌≤◌, Bool, false, List, length, Option}
use Rattle.std.specs.Prelude.{IsSome}
use Rattle.array_state.specs.raid_types_Shapes.{has_slot, tolerance, tolerance_of}
use Rattle.sb_election.specs.bank_Given.{Given, sizes}
use Rattle.sb_election.specs.bank_the_Operation.{Operation}
use Rattle.sb_election.specs.sb_specs_the_Members.{Members}
use Rattle.sb_election.specs.sb_specs_Reading.{Scope, is_reshaping, is_clean, shape_of, list_length}
use Rattle.array_parts.specs.history_the_Entry.{Entry}
use Rattle.array_parts.specs.history_Flat.{length_of, limit_of}
use Rattle.array_parts.specs.history_Legal.{level_at}
use Rattle.array_parts.specs.array_members_the_Work.{Work}
use Rattle.array_parts.specs.array_members_Placed.{IsPlaced}
use Rattle.array_parts.specs.array_members_Rebuilding.{AreSparesFree}
use Rattle.array_parts.specs.reshape_request_the_PhasesLeft.{PhasesLeft}
use Rattle.array_reshaping_laws.specs.crash_views_Regions.{DoWithout}
use Rattle.array_reshaping_laws.specs.crash_safety_laws_Steady.{AreUnlost}
use Rattle.array_reshaping_laws.specs.history_invariant_Safe.{world_in}
use Rattle.array_reshaping_laws.specs.history_invariant_Recorded.{IsHistoryKept}
use Rattle.array_reshaping_laws.specs.history_invariant_laws_Reliable.{IsReliable, AreToldGone}
use Rattle.array_reshaping_laws.specs.array_fixed_laws_Ready.{IsReady as IsReadyAtRest}
use Rattle.array_reshaping_laws.specs.Ready.{IsReady as IsReadyInReshape}
use Rattle.array_reshaping_laws.specs.reshape_progress_the_Course.{Course}
use Rattle.array_type.specs.One.{KeepsBy}
use Rattle.array_type.proofs.Rest.{in-rest, in-move, on-both}

-- the members: each has its place, no slot that holds a role was lost, and each spare is free
pub record AreInPlace (given : Given) (members : Members) : Type 0 where
  pub placed : IsPlaced given members
  pub unlost : AreUnlost members
  pub free : AreSparesFree given members
  pub spares : length members.spares ≤ 32

-- What is missing was told so, and a dirty mark; over a bank that tells its contents the history is legal, and reaches to the tape's end.
pub record IsKeptAlike (tells : Type 0) (given : Given) (tape : List Operation) (scope : Scope) (first : ℕ) (entries : List Entry) (members : Members) (resync : Option ℕ) : Type 0 where
  pub slots : given.slots ≤ 32
  pub members_are : AreInPlace given members
  pub sizes_are : scope.sizes ≡ sizes given
  pub dirty : DoWithout members → IsSome resync → is_clean members.newest ≡ false
  pub levelled : tells → IsReliable (world_in given tape scope first) entries → tolerance_of (level_at (world_in given tape scope first) entries) ≡ tolerance (shape_of members.newest)
  pub gone : tells → IsReliable (world_in given tape scope first) entries → AreToldGone (world_in given tape scope first) entries members
  pub recorded : tells → IsHistoryKept (IsReliable (world_in given tape scope first) entries) (world_in given tape scope first) (list_length members.newest) entries

-- The entries tell the length of its list and the limit of its visible size; each slot that wasn't found sound has failed, and there is room for the entries of so many steps and of its end,
-- and for the rows of one call in two regions.
pub record IsReadyAlike (tells : Type 0) (given : Given) (tape : List Operation) (scope : Scope) (first : ℕ) (entries : List Entry)
    (members : Members) (resync : Option ℕ) (limit : Option ℕ) (faults : ℕ → ℕ) (steps room rows buffer far_rows far_buffer : ℕ) : Type 0 where
  pub kept : IsKeptAlike tells given tape scope first entries members resync
  pub sized : length_of (list_length members.newest) entries ≡ list_length members.newest
  pub limited : limit_of entries ≡ limit
  pub failed : (slot : ℕ) → slot < given.slots → has_slot scope.given slot ≡ false → 0 < faults slot
  pub room_left : 50 * steps < room
  pub rows_fit : 128 ≤ rows
  pub buffer_fits : 1048576 ≤ buffer
  pub far_rows_fit : 128 ≤ far_rows
  pub far_buffer_fits : 1048576 ≤ far_buffer

module _ {tells : Type 0} {given : Given} {tape : List Operation} {scope : Scope} {first : ℕ} {entries : List Entry} {members : Members} {work : Work} {ahead : PhasesLeft}
    {limit : Option ℕ} {faults : ℕ → ℕ} {steps room rows buffer far_rows far_buffer : ℕ} where
  still-alike : IsReadyAtRest tells given tape scope first entries members work ahead limit faults steps room rows buffer far_rows far_buffer
      → IsReadyAlike tells given tape scope first entries members work.resync limit faults steps room rows buffer far_rows far_buffer
  still-alike was = record {
    kept = record {
      slots = was.kept.slots;
      members_are = record { placed = was.kept.members_are.placed; unlost = was.kept.members_are.unlost; free = was.kept.members_are.free; spares = was.kept.members_are.spares };
      sizes_are = was.kept.sizes_are;
      dirty = was.kept.dirty;
      levelled = was.kept.levelled;
      gone = was.kept.gone;
      recorded = was.kept.recorded;
    };
    sized = was.sized;
    limited = was.limited;
    failed = was.failed;
    room_left = was.room_left;
    rows_fit = was.rows_fit;
    buffer_fits = was.buffer_fits;
    far_rows_fit = was.far_rows_fit;
    far_buffer_fits = was.far_buffer_fits;
  }

  -- it is kept where no reshape is active
  pub stays-at-rest : {move rest : Type 0} → rest → IsReadyAtRest tells given tape scope first entries members work ahead limit faults steps room rows buffer far_rows far_buffer
      → KeepsBy (is_reshaping members.newest) move (rest × IsReadyAtRest tells given tape scope first entries members work ahead limit faults steps room rows buffer far_rows far_buffer)
  stays-at-rest none done = in-rest done.kept.members_are.still (none, done)

module _ {tells : Type 0} {given : Given} {tape : List Operation} {scope : Scope} {first : ℕ} {entries : List Entry} {members : Members} {work : Work} {course : Course} {ahead : PhasesLeft}
    {limit : Option ℕ} {window : List ℕ} {faults : ℕ → ℕ} {steps room rows buffer far_rows far_buffer : ℕ} where
  moved-alike : IsReadyInReshape tells given tape scope first entries members work course ahead limit window faults steps room rows buffer far_rows far_buffer
      → IsReadyAlike tells given tape scope first entries members work.resync limit faults steps room rows buffer far_rows far_buffer
  moved-alike was = record {
    kept = record {
      slots = was.kept.slots;
      members_are = record { placed = was.kept.members_are.placed; unlost = was.kept.members_are.unlost; free = was.kept.members_are.free; spares = was.kept.members_are.spares };
      sizes_are = was.kept.sizes_are;
      dirty = was.kept.dirty;
      levelled = was.kept.levelled;
      gone = was.kept.gone;
      recorded = was.kept.recorded;
    };
    sized = was.sized;
    limited = was.limited;
    failed = was.failed;
    room_left = was.room_left;
    rows_fit = was.rows_fit;
    buffer_fits = was.buffer_fits;
    far_rows_fit = was.far_rows_fit;
    far_buffer_fits = was.far_buffer_fits;
  }

  -- what it keeps alike
  pub alike : {active : Bool} {some rest : Type 0}
      → KeepsBy active (some × IsReadyInReshape tells given tape scope first entries members work course ahead limit window faults steps room rows buffer far_rows far_buffer)
      (rest × IsReadyAtRest tells given tape scope first entries members work ahead limit faults steps room rows buffer far_rows far_buffer)
      → IsReadyAlike tells given tape scope first entries members work.resync limit faults steps room rows buffer far_rows far_buffer
  alike {active = active} kept = on-both active (λ yes. moved-alike (kept.moves yes).1) (λ no. still-alike (kept.rests no).1)

  -- it is kept in a reshape
  pub goes-on : {some rest : Type 0} → some → IsReadyInReshape tells given tape scope first entries members work course ahead limit window faults steps room rows buffer far_rows far_buffer
      → KeepsBy (is_reshaping members.newest) (some × IsReadyInReshape tells given tape scope first entries members work course ahead limit window faults steps room rows buffer far_rows far_buffer) rest
  goes-on backed done = in-move done.kept.members_are.active (backed, done)
