-- A call goes on behind entries that may stand before others.
use Rattle.std.proofs.Common.{ℕ, List, [], ◌∷◌, ◌++◌, refl}
use Rattle.std.specs.List.{All}
use Rattle.std.proofs.lemmas.List.Elements.{All-nil, All-cons}
use Rattle.history_invariant_laws.specs.raid_types_the_Who.{Who}
use Rattle.reshape_progress_resync_laws.specs.history_the_Entry.{Entry}
use Rattle.reshape_progress_resync_laws.specs.history_the_Event.{Event}
use Rattle.reshape_progress_resync_laws.specs.history_the_Event_TheVariants.{Lost, SpareLost}
use Rattle.reshape_progress_resync_laws.specs.history_the_LostCause_TheVariants.{Fault}
use Rattle.reshape_progress_resync_laws.specs.history_OneShape.{IsOfCall}
use Rattle.reshape_progress_resync_laws.specs.history_Plain.{entries_of}
use Rattle.history_invariant_laws.specs.history_append_Losing.{losses_of}
use Rattle.history_invariant_laws.proofs.history_append_CallLaws.{AreLossEvents, losses-are}
use Rattle.history_invariant_laws.specs.history_invariant_Recorded.{IsCallGoing, MayGoOn, entry_of}
use Rattle.history_invariant_laws.proofs.history_invariant_Records.{going-more}

-- losses and such an event behind them may stand before others
go-on : (who : Who) (end : ℕ) (xs : List Event) (event : Event) → AreLossEvents xs → MayGoOn event → All (λ e. IsOfCall who e × MayGoOn e.event) (entries_of who end (xs ++ event ∷ []))
go-on who end [] event are may = All-cons (λ e. IsOfCall who e × MayGoOn e.event) (entry_of who end event) [] ((refl, refl), may) (All-nil (λ e. IsOfCall who e × MayGoOn e.event))
go-on who end (Lost role Fault ∷ xs) event are may =
    All-cons (λ e. IsOfCall who e × MayGoOn e.event) (entry_of who end (Lost role Fault)) (entries_of who end (xs ++ event ∷ [])) ((refl, refl), tt) (go-on who end xs event are may)
go-on who end (SpareLost slot ∷ xs) event are may =
    All-cons (λ e. IsOfCall who e × MayGoOn e.event) (entry_of who end (SpareLost slot)) (entries_of who end (xs ++ event ∷ [])) ((refl, refl), tt) (go-on who end xs event are may)
go-on who end (x ∷ xs) event are may = absurd are

-- behind them the call goes on
pub going-on : (entries : List Entry) (who : Who) (end roles spares : ℕ) (event : Event) → IsCallGoing entries who → MayGoOn event → IsCallGoing (entries ++ entries_of who end (losses_of roles spares ++ event ∷ [])) who
going-on entries who end roles spares event goes may = going-more entries (entries_of who end (losses_of roles spares ++ event ∷ [])) who goes (go-on who end (losses_of roles spares) event (losses-are roles spares) may)
