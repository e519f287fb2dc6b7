-- What an array leaves is what the next one opens with.
use Rattle.std.specs.Prelude.{ℕ, List, [], ◌∷◌, Option, ⊤}
use Rattle.history_reopen_laws.specs.bank_Given.{Given}
use Rattle.history_reopen_laws.specs.bank_Tape.{contents, OnlyFlushesBetween}
use Rattle.history_reopen_laws.specs.bank_the_Operation.{Operation}
use Rattle.history_reopen_laws.specs.history_the_Epoch.{Epoch}
use Rattle.history_reopen_laws.specs.history_Epochs.{world_of, HasRoomForEvents}
use Rattle.history_reopen_laws.specs.history_Opened.{OpensSound}
use Rattle.history_reopen_laws.specs.history_Reopened.{EndsSettled, OpensWith, IsSameArray}
use Rattle.history_reopen_laws.specs.history_Sound.{OpensFit}
use Rattle.history_reopen_laws.specs.history_Transfers.{last_end_from}
use Rattle.history_reopen_laws.specs.history_World.{opening_list}
use Rattle.run_session.specs.run_specs_Ended.{IfReliable, IfShapeKept, IfFilledRight}
use Rattle.history_reopen_laws.specs.Later.{OpensAsEnded}

-- The next epoch is of the same array, behind nothing but flushes: in the same slots, or in fewer, where by what they hold those that lack, as
-- failed ones do, have no part in it any more.
pub record IsOpenedAgain (given : Given) (tape : List Operation) (backup : Option ℕ) (former next : Epoch) : Type 0 where
  pub array : IsSameArray (world_of given tape backup former).scope (world_of given tape backup next).scope (contents given.start tape next.first)
  pub flushes : OnlyFlushesBetween tape (last_end_from former.first former.entries.items) next.first

-- the former epoch ends with a flush or a stop, and the next one is so
pub record IsFoundAgain (given : Given) (tape : List Operation) (backup : Option ℕ) (former next : Epoch) : Type 0 where
  pub settled : EndsSettled former.entries.items
  pub again : IsOpenedAgain given tape backup former next

-- the next one opens with the list that the former left, sector by sector
abbrev pub OpensAsLeft : Given → List Operation → Option ℕ → Epoch → Epoch → Type 0
OpensAsLeft given tape backup former next =
    IsFoundAgain given tape backup former next → OpensWith (world_of given tape backup next) (opening_list (world_of given tape backup former)) former.entries.items

-- Where the former epoch can be relied on, the next one that finds it again opens as it left it, also where members were lost; or without the last change of its list's length, where by its entries each role was gone behind that one.
-- Where the former kept its shape, it opens as it left it, and it is enough that what it filled in is right.
pub record IsListKept (given : Given) (tape : List Operation) (backup : Option ℕ) (former next : Epoch) : Type 0 where
  pub relied : IfReliable given tape backup former (IsFoundAgain given tape backup former next → OpensAsEnded (world_of given tape backup former) (world_of given tape backup next) former.entries.items)
  pub plain : IfShapeKept given tape backup former (IfFilledRight given tape backup former (OpensAsLeft given tape backup former next))

-- Where the former epoch opened fit, with room for its events, and is opened again, perhaps in fewer slots, the
-- next one opens sound, however the former ended.
abbrev pub IsSoundKept : Given → List Operation → Option ℕ → Epoch → Epoch → Type 0
IsSoundKept given tape backup former next =
    OpensFit (world_of given tape backup former) → HasRoomForEvents (world_of given tape backup former)
    → IsOpenedAgain given tape backup former next → OpensSound (world_of given tape backup next)

-- so it is of each epoch and the next one
abbrev pub AreKept : Given → List Operation → Option ℕ → List Epoch → Type 0
AreKept given tape backup [] = ⊤
AreKept given tape backup (former ∷ []) = ⊤
AreKept given tape backup (former ∷ next ∷ epochs) =
    IsListKept given tape backup former next × IsSoundKept given tape backup former next × AreKept given tape backup (next ∷ epochs)
