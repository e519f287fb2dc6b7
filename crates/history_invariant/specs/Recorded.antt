-- What is kept of the history of an array, whether a reshape stands in it or not, and what a call owes that is entered behind it.
use Rattle.std.specs.Prelude.{◌≡◌, ◌⊎◌, ℕ, ◌≤◌, ◌++◌, Bool, true, false, List, [], ◌∷◌, length, ⊤}
use Rattle.std.specs.List.{list_any, All}
use Rattle.array_call_specs.specs.raid_types_the_Who.{Who}
use Rattle.array_call_specs.specs.history_the_Entry.{Entry}
use Rattle.array_call_specs.specs.history_the_Event.{Event}
use Rattle.array_call_specs.specs.history_the_Event_TheVariants.{Rebuilt, Resized, Step}
use Rattle.array_call_specs.specs.history_the_StepKind_TheVariants.{Begun, Finished}
use Rattle.array_call_specs.specs.history_Flat.{length_of, next_number}
use Rattle.array_call_specs.specs.history_Growing.{EndBy}
use Rattle.array_call_specs.specs.history_Legal.{IsInnerOrLast, IsLegalEvent, IsLegal}
use Rattle.array_call_specs.specs.history_OneShape.{GoesOnBehind, IsOfCall}
use Rattle.array_call_specs.specs.history_Plain.{entries_of}
use Rattle.array_call_specs.specs.history_Reshaped.{is_done, IsReshapedBy, IsReshaped}
use Rattle.array_call_specs.specs.history_Sound.{OpensFit}
use Rattle.array_call_specs.specs.history_Stands.{stands}
use Rattle.array_call_specs.specs.history_Transfers.{last_end_from}
use Rattle.array_call_specs.specs.history_World.{World, contents_at, opening_list}

-- Over a bank that tells its contents: the list has this size, and where what was filled in is right the history is legal, and, if the opening was sound, its
-- reshapes end right, since rows that were copied before it are only known by that; and it reaches to the tape's end.
pub record IsHistoryKept (right : Type 0) (world : World) (size : ℕ) (entries : List Entry) : Type 0 where
  pub begun : world.first ≤ length world.tape
  pub sized : length_of (length (opening_list world)) entries ≡ size
  pub legal : right → IsLegal world entries
  pub reshaped : right → OpensFit world → IsReshaped world entries
  pub ends : EndBy (length world.tape) entries
  pub ended : last_end_from world.first entries ≡ length world.tape

-- ---- what a call owes

-- one entry of a call
abbrev pub entry_of : Who → ℕ → Event → Entry
entry_of who end event = record { caller = who.caller; number = who.number; end = end; event = event }

-- each event of the call is legal, by the entries before it and those behind it, and may stand where it stands
abbrev pub IsLegalCall : World → List Entry → Who → ℕ → List Event → Type 0
IsLegalCall world before who end [] = ⊤
IsLegalCall world before who end (event ∷ events) =
    IsLegalEvent world before (entry_of who end event) (entries_of who end events) event
    × IsInnerOrLast event (entries_of who end events)
    × IsLegalCall world (before ++ entry_of who end event ∷ []) who end events

-- each of them ends right what it ends
abbrev pub IsReshapedCall : World → List Entry → Who → ℕ → List Event → Type 0
IsReshapedCall world before who end [] = ⊤
IsReshapedCall world before who end (event ∷ events) =
    IsReshapedBy world before (entry_of who end event) (entries_of who end events)
    × IsReshapedCall world (before ++ entry_of who end event ∷ []) who end events

-- the event ends a reshape, or leaves no step
abbrev pub ends_reshape : Event → Bool
ends_reshape (Step Finished left) = true
ends_reshape event = is_done event

-- ---- a call that goes on

-- what may stand in a call of steps before its last entry; a reshape may change the length
abbrev pub MayGoOn : Event → Type 0
MayGoOn (Resized n) = ⊤
MayGoOn event = GoesOnBehind event

-- The call begins here, or it goes on: each of its entries so far may stand before others.
pub record IsCallGoing (entries : List Entry) (who : Who) : Type 0 where
  pub before : List Entry
  pub call : List Entry
  pub is : entries ≡ before ++ call
  pub own : All (λ e. IsOfCall who e × MayGoOn e.event) call
  pub number : who.number ≡ next_number who.caller before

-- a change of length is what the contents at the entry's end say
abbrev pub IsLengthKept : World → ℕ → Event → Type 0
IsLengthKept world end (Resized n) = n ≡ length (stands world.scope (contents_at world end))
IsLengthKept world end event = ⊤

-- nothing was left open by the entry that other entries could change: each length was kept by some slot, and steps are left
pub record IsOpenBehind (world : World) (call : List Entry) : Type 0 where
  pub kept : All (λ e. IsLengthKept world e.end e.event) call
  pub steps : list_any (λ e. is_done e.event) call ≡ false

-- the event may give a role a holder
abbrev pub gives_some : Event → Bool
gives_some (Rebuilt role) = true
gives_some (Step Begun left) = true
gives_some event = false

-- The call so far left nothing open that these entries could change, or they give no role a holder.
abbrev pub MayFollow : World → List Entry → List Entry → Type 0
MayFollow world call added = IsOpenBehind world call ⊎ (list_any (λ e. gives_some e.event) added ≡ false)
