-- What a history must be for an array that can do without no member, over a flat list that is given.
use Rattle.std.specs.Prelude.{◌≡◌, ℕ, ◌+◌, ◌<◌, ◌≤◌, Bool, false, not, ◌==◌, List, [], ◌∷◌, ◌++◌, length, IsTrue, IsFalse, ⊤}
use Rattle.std.specs.List.{list_any, list_all}
use Rattle.raid_types.specs.Search.{count_below}
use Rattle.raid_types.specs.Sectors.{Sector}
use Rattle.raid_types.specs.declared.answers.Who.{Who}
use Rattle.raid_types.specs.declared.answers.Refusal.{Refusal}
use Rattle.raid_types.specs.declared.answers.Refusal.TheVariants.{PastEnd, TooManyMissing}
use Rattle.history.specs.declared.events.Event.{Event}
use Rattle.history.specs.declared.events.Event.TheVariants.{Read, Wrote, Torn, Flushed, Lost, SpareLost, Shown, Stopped, Halted, Refused}
use Rattle.history.specs.declared.events.LostCause.TheVariants.{Fault}
use Rattle.history.specs.declared.events.Entry.{Entry}
use Rattle.history.specs.Flat.{rest_of_call, visible_of}
use Rattle.history.specs.Transfers.{IsTimedBetween, IsReadOver, EndsWithinOver, IsTornOver}
use Rattle.history.specs.World.{World, opening_list}
use Rattle.history.specs.Legal.{IsNumbered, IsInnerOrLast, KeepsLeft, is_loss, IsLegal}
use Rattle.history.specs.Reshaped.{IsReshaped}

-- the flat list at the opening, and the mark there
pub record Opening : Type 0 where
  pub list : List Sector
  pub first : ℕ

-- the roles that these entries lose
abbrev pub loses_role : ℕ → Event → Bool
loses_role role (Lost lost cause) = lost == role
loses_role role event = false

abbrev pub lost_count : List Entry → ℕ
lost_count entries = count_below 32 (λ role. list_any (λ e. loses_role role e.event) entries)

-- too many are missing where one is
pub record IsOneMissing (before : List Entry) (count tolerance : ℕ) : Type 0 where
  pub none_tolerated : tolerance ≡ 0
  pub some : 0 < count
  pub lost : count ≤ lost_count before

abbrev pub IsPlainRefusal : Opening → List Entry → Refusal → Type 0
IsPlainRefusal opening before (PastEnd visible) = visible ≡ visible_of (length opening.list) before
IsPlainRefusal opening before (TooManyMissing count tolerance) = IsOneMissing before count tolerance
IsPlainRefusal opening before refusal = ⊥

-- no other events occur
abbrev pub IsPlainEvent : Opening → List Entry → Entry → List Entry → Event → Type 0
IsPlainEvent opening before e rest (Read at body) = IsReadOver opening.list before at body
IsPlainEvent opening before e rest (Wrote at body) = EndsWithinOver opening.list before at body
IsPlainEvent opening before e rest (Torn at body) = IsTornOver opening.list before at body rest
IsPlainEvent opening before e rest Flushed = ⊤
IsPlainEvent opening before e rest (Lost role Fault) = ⊤
IsPlainEvent opening before e rest (SpareLost slot) = ⊤
IsPlainEvent opening before e rest (Shown status) = KeepsLeft before e rest status.left
IsPlainEvent opening before e rest Stopped = ⊤
IsPlainEvent opening before e rest Halted = ⊤
IsPlainEvent opening before e rest (Refused refusal) = IsPlainRefusal opening before refusal
IsPlainEvent opening before e rest event = ⊥

-- an entry is legal, where `before` stands before it, and `rest` are those behind it that are of the same call; the tape
-- has so many operations
pub record IsPlainEntry (opening : Opening) (ops : ℕ) (before : List Entry) (e : Entry) (rest : List Entry) : Type 0 where
  pub numbered : IsNumbered before e
  pub timed : IsTimedBetween opening.first ops before e
  pub inner : IsInnerOrLast e.event rest
  pub caller : IsFalse (e.caller == 254)
  pub event : IsPlainEvent opening before e rest e.event

abbrev pub ArePlain : Opening → ℕ → List Entry → List Entry → Type 0
ArePlain opening ops before [] = ⊤
ArePlain opening ops before (e ∷ entries) =
    IsPlainEntry opening ops before e (rest_of_call e entries) × ArePlain opening ops (before ++ e ∷ []) entries

-- the history is legal
abbrev pub IsPlainLegal : Opening → ℕ → List Entry → Type 0
IsPlainLegal opening ops entries = ArePlain opening ops [] entries

-- the entries of one call that ends at one moment
abbrev pub entries_of : Who → ℕ → List Event → List Entry
entries_of who end [] = []
entries_of who end (event ∷ events) = record { caller = who.caller; number = who.number; end = end; event = event } ∷ entries_of who end events

-- the event is no loss
abbrev pub is_no_loss : Entry → Bool
is_no_loss e = not (is_loss e.event)

-- Where no role is lost, such a history is legal over a bank on which the list stood at the opening, and no reshape is in it.
abbrev pub PlainHistoriesAreLegal : Type 0
PlainHistoriesAreLegal = (world : World) (opening : Opening) (entries : List Entry) → opening.list ≡ opening_list world → opening.first ≡ world.first
    → IsTrue (list_all is_no_loss entries) → IsPlainLegal opening (length world.tape) entries → IsLegal world entries × IsReshaped world entries
