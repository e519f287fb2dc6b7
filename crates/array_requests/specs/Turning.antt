-- Whether a reshape may be active in an array, or ahead of it, by the entries of its history alone: no bank is asked.
use Rattle.std.specs.Prelude.{◌≡◌, ℕ, Bool, true, false, not, ◌&&◌, ◌||◌, ◌==◌, is_some, List, [], take, slice_get, fold, MatchOption, IsTrue}
use Rattle.array_call_specs.specs.raid_types_the_Phase.{Phase}
use Rattle.history_append.specs.history_the_Entry.{Entry}
use Rattle.history_append.specs.history_the_Event.{Event}
use Rattle.history_append.specs.history_the_Event_TheVariants.{Planned, Step, Stepped, Shown}
use Rattle.history_append.specs.history_the_StepKind_TheVariants.{Begun}
use Rattle.array_open.specs.array_reply_specs_Replies.{MayTellBy}

-- A reshape may be active from when a status tells one, as that of an opening does which found one, or a step that one began, until an answer to a request for steps tells that none is left.
abbrev pub active_after : Bool → Event → Bool
active_after active (Shown status) = active || is_some status.target
active_after active (Step Begun left) = true
active_after active (Stepped done left ended) = active && not (left == 0)
active_after active event = active

abbrev pub may_be_active : List Entry → Bool
may_be_active entries = fold (λ active e. active_after active e.event) false entries

-- one may be ahead from when it is planned until then
abbrev pub ahead_after : Bool → Event → Bool
ahead_after ahead (Planned left wish) = true
ahead_after ahead (Stepped done left ended) = ahead && not (left == 0)
ahead_after ahead event = ahead

abbrev pub may_be_ahead : List Entry → Bool
may_be_ahead entries = fold (λ ahead e. ahead_after ahead e.event) false entries

-- The entry at this place tells nothing that, by the entries before it, only a reshape that may be active, or ahead, could tell.
abbrev pub IsTellable : List Entry → ℕ → Type 0
IsTellable entries place = MatchOption (slice_get entries place) ⊥ (λ e. MayTellBy (IsTrue (may_be_active (take place entries))) (IsTrue (may_be_ahead (take place entries))) e.event)

-- Where no reshape may be active by these entries, none is; and where none may be ahead, no phase is.
pub record IsTurningTold (active : Bool) (ahead : List Phase) (entries : List Entry) : Type 0 where
  pub active_told : may_be_active entries ≡ false → active ≡ false
  pub ahead_told : may_be_ahead entries ≡ false → ahead ≡ []
