-- The entries of the members that a call loses.
use Rattle.std.specs.Prelude.{◌≡◌, ℕ, zero, suc, Bool, true, false, List, [], ◌∷◌, ◌++◌, if◌then◌else◌}
use Rattle.history_laws.specs.raid_types_Shapes.{has_slot}
use Rattle.array_members.specs.history_the_Epoch.{Epoch}
use Rattle.array_members.specs.history_the_Event.{Event}
use Rattle.array_members.specs.history_the_Event_TheVariants.{Torn, Lost, SpareLost, Refused}
use Rattle.history_laws.specs.raid_types_Sectors.{Sector}
use Rattle.history_laws.specs.raid_types_the_Refusal.{Refusal}
use Rattle.array_members.specs.history_the_LostCause_TheVariants.{Fault}

abbrev pub role_loss : ℕ → ℕ → List Event
role_loss roles role = if has_slot roles role then Lost role Fault ∷ [] else []

-- a loss for each of these roles below n, in order
unfoldable pub role_losses : ℕ → ℕ → List Event
role_losses roles zero = []
role_losses roles (suc n) = role_losses roles n ++ role_loss roles n

abbrev pub spare_loss : ℕ → ℕ → List Event
spare_loss spares slot = if has_slot spares slot then SpareLost slot ∷ [] else []

-- a loss for each of these spares below n, in order
unfoldable pub spare_losses : ℕ → ℕ → List Event
spare_losses spares zero = []
spare_losses spares (suc n) = spare_losses spares n ++ spare_loss spares n

-- the losses of these roles, and then those of these spares
abbrev pub losses_of : ℕ → ℕ → List Event
losses_of roles spares = role_losses roles 16 ++ spare_losses spares 32

-- the same array, from the same mark on
pub record IsSameEpoch (old new : Epoch) : Type 0 where
  pub uuid : new.uuid ≡ old.uuid
  pub given : new.given ≡ old.given
  pub first : new.first ≡ old.first

-- what a call enters that lost these roles and spares: the write may be torn
abbrev pub failure_events : ℕ → ℕ → Bool → ℕ → List Sector → Refusal → List Event
failure_events roles spares true at body refusal = (losses_of roles spares ++ Torn at body ∷ []) ++ Refused refusal ∷ []
failure_events roles spares false at body refusal = losses_of roles spares ++ Refused refusal ∷ []
