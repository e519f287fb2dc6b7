-- The number of a call that goes on.
use Rattle.std.proofs.Common.{◌≡◌, ℕ, ◌+◌, List, [], ◌∷◌, ◌++◌, refl, sym, ◌∙◌, ap, subst}
use Rattle.std.specs.List.{All}
use Rattle.std.proofs.lemmas.List.Elements.{All-nil, All-cons}
use Rattle.array_fixed_invariant.specs.raid_types_the_Who.{Who}
use Rattle.array_fixed_invariant.specs.history_the_Entry.{Entry}
use Rattle.array_fixed_invariant.specs.history_the_Event.{Event}
use Rattle.array_fixed_invariant.specs.history_the_Event_TheVariants.{Resized}
use Rattle.array_fixed_invariant.specs.history_OneShape.{IsOfCall, GoesOnBehind}
use Rattle.array_fixed_invariant.specs.history_Plain.{entries_of}
use Rattle.array_fixed_invariant.specs.history_append_Losing.{losses_of}
use Rattle.array_fixed_invariant.proofs.history_append_CallLaws.{losses-are}
use Rattle.array_fixed_invariant.proofs.history_append_PlainLaws.{one}
use Rattle.array_fixed_invariant.proofs.history_append_StepLaws.{GoOnBehind, losses-go_on}
use Rattle.array_fixed_invariant.specs.history_invariant_Recorded.{IsCallGoing, MayGoOn}
use Rattle.array_fixed_invariant.proofs.history_invariant_Records.{going-more}

-- ---- it goes on

-- what may go on where no reshape is may here
may-go : (event : Event) → GoesOnBehind event → MayGoOn event
may-go (Resized n) goes = tt
may-go event goes = goes

go-behind : (who : Who) (end : ℕ) (events : List Event) → GoOnBehind events → All (λ e. IsOfCall who e × MayGoOn e.event) (entries_of who end events)
go-behind who end [] goes = All-nil (λ e. IsOfCall who e × MayGoOn e.event)
go-behind who end (event ∷ events) goes =
    All-cons (λ e. IsOfCall who e × MayGoOn e.event) (one who end event) (entries_of who end events) ((refl, refl), may-go event goes.0) (go-behind who end events goes.1)

-- with such events behind it, as a method enters them
pub still-going : {old mid new : List Entry} (who : Who) (end : ℕ) (events : List Event) → IsCallGoing old who → GoOnBehind events → mid ≡ old → new ≡ mid ++ entries_of who end events → IsCallGoing new who
still-going {old = old} who end events goes behind mid_is is =
    subst (λ (l : List Entry). IsCallGoing l who) (sym (is ∙ ap (λ (l : List Entry). l ++ entries_of who end events) mid_is)) (going-more old (entries_of who end events) who goes (go-behind who end events behind))

-- with losses, and one of them behind those
pub step-going : {old mid new : List Entry} (who : Who) (end roles spares : ℕ) (event : Event) → IsCallGoing old who → GoesOnBehind event → mid ≡ old → new ≡ mid ++ entries_of who end (losses_of roles spares ++ event ∷ []) → IsCallGoing new who
step-going who end roles spares event goes behind = still-going who end (losses_of roles spares ++ event ∷ []) goes (losses-go_on (losses_of roles spares) event (losses-are roles spares) behind)
