-- When the marks of an epoch are safe, and what a stop may leave now, whether the array is reshaped or not.
use Rattle.std.specs.Prelude.{◌≡◌, ◌⊎◌, ℕ, ◌+◌, ◌≤◌, ◌||◌, Bool, true, false, List, length, remove, Some, IfSome, IsTrue}
use Rattle.std.specs.List.{list_any}
use Rattle.array_call_specs.specs.bank_the_Operation.{Operation}
use Rattle.array_call_specs.specs.bank_Given.{Given}
use Rattle.array_call_specs.specs.bank_Tape.{Contents, disk}
use Rattle.array_call_specs.specs.sb_specs_the_Members.{Members}
use Rattle.array_call_specs.specs.sb_specs_Reading.{Scope, Reading, is_reshaping}
use Rattle.array_call_specs.specs.history_the_Entry.{Entry}
use Rattle.array_call_specs.specs.history_the_Event.{Event}
use Rattle.array_call_specs.specs.history_the_Event_TheVariants.{Step}
use Rattle.array_call_specs.specs.history_the_StepKind_TheVariants.{TakenOver}
use Rattle.array_call_specs.specs.history_World.{World, contents_at, opening_list, reading_at}
use Rattle.array_call_specs.specs.history_Flat.{length_of, values_of}
use Rattle.array_call_specs.specs.history_Losses.{loses, is_gone_after, is_unsynced}
use Rattle.array_call_specs.specs.history_OneShape.{is_unsettled}
use Rattle.array_call_specs.specs.history_CrashSafe.{MayBeLeftOut}
use Rattle.array_call_specs.specs.history_Growing.{IsSafeThroughout}
use Rattle.array_call_specs.specs.history_Opened.{HasFittingSections, HasZeroTail}
use Rattle.array_call_specs.specs.history_Sound.{OpensFit, LeavesSoundThroughout}
use Rattle.array_call_specs.specs.crash_views_Views.{Ledger}
use Rattle.array_call_specs.specs.crash_safety_laws_Changing.{IsSpentByEither}
use Rattle.array_call_specs.specs.crash_safety_laws_Safety.{HasLiveSlot}
use Rattle.array_call_specs.specs.crash_safety_laws_Steady.{IsSafeOver}
use Rattle.history_invariant.specs.Told.{told_now}

-- an epoch's world
abbrev pub world_in : Given → List Operation → Scope → ℕ → World
world_in given tape scope first = record { start = given.start; tape = tape; scope = scope; first = first }

-- no entry takes a role's holder away
abbrev pub TakesNone : World → List Entry → Type 0
TakesNone world entries = (role : ℕ) → list_any (loses world role) entries ≡ false

-- the event takes a level over
abbrev pub is_taken_over : Event → Bool
is_taken_over (Step TakenOver left) = true
is_taken_over event = false

-- no entry takes a level over
abbrev pub KeepsLevel : List Entry → Type 0
KeepsLevel entries = list_any (λ e. is_taken_over e.event) entries ≡ false

-- What a sound opening finds of a reshape itself: each section that the header names is that of the next window, or lies in the new region, and the tail is zero.
pub record IsReshapeFit (scope : Scope) (c : Contents) (r : Reading) : Type 0 where
  pub sections : HasFittingSections scope c r.newest
  pub tail : HasZeroTail c r

-- a reshape that is active at the opening is found so, whatever is found of rows
abbrev pub OpensOnCourse : World → Type 0
OpensOnCourse world = IfSome (reading_at world world.first) (λ r. IsTrue (is_reshaping r.newest) → IsReshapeFit world.scope (contents_at world world.first) r)

-- What is filled in is right: there is nothing to fill in, for no role was taken from its holder and no level taken over, and a reshape is found on its course; or the epoch opened fit.
abbrev pub IsFilledRight : World → List Entry → Type 0
IsFilledRight world entries = (TakesNone world entries × OpensOnCourse world × KeepsLevel entries) ⊎ OpensFit world

-- the event count rose by no more than the operations since the opening
pub record IsCounted (world : World) (members : Members) : Type 0 where
  pub found : Reading
  pub is : reading_at world world.first ≡ Some found
  pub events : members.newest.events + world.first ≤ found.newest.events + length world.tape

-- the whole history tells it, but the list is the one without the change of length at this place
abbrev pub told_without : World → List Entry → ℕ → Ledger
told_without world entries place = record {
  size = length_of (length (opening_list world)) (remove entries place);
  values = values_of (opening_list world) (remove entries place);
  gone = is_gone_after world entries;
  unclean = is_unsynced world entries || is_unsettled entries;
  reshaping = true;
  carried = λ slot number. true;
}

-- No live slot is left, and none had kept the last change of length: each view is right with it or without it, and nothing is written any more.
pub record IsUnkept (world : World) (given : Given) (members : Members) (carried : ℕ → ℕ → Bool) (reshaping : Bool) (entries : List Entry) : Type 0 where
  pub place : ℕ
  pub left_out : MayBeLeftOut world entries (length entries) place
  pub spent : IsSpentByEither (OpensFit world) world.scope given (told_without world entries place) (told_now world carried reshaping entries)
      members (disk given.start world.tape)

-- What a stop may leave now is right by what the whole history tells.
abbrev pub IsNowRight : World → Given → Members → (ℕ → ℕ → Bool) → Bool → List Entry → Type 0
IsNowRight world given members carried reshaping entries =
    IsSafeOver world given (told_now world carried reshaping entries) members world.tape ⊎ IsUnkept world given members carried reshaping entries

-- Every mark so far is safe, and leaves sound images where that is claimed of the array; what a stop may leave now is right, and the next update may
-- start; as long as a live slot is left, the event count has room.
pub record IsSafeHistory (claims : Type 0) (world : World) (given : Given) (members : Members) (carried : ℕ → ℕ → Bool) (reshaping : Bool) (entries : List Entry) : Type 0 where
  pub past : IsSafeThroughout world entries
  pub sound : claims → OpensFit world → LeavesSoundThroughout world
  pub now : IsNowRight world given members carried reshaping entries
  pub counted : HasLiveSlot members → IsCounted world members
