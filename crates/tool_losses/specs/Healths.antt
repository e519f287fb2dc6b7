-- The lines that tell how an array stands.
use Rattle.std.specs.Prelude.{ℕ, ◌==◌, Bool, true, false, if◌then◌else◌, List, [], ◌∷◌, ◌++◌, codes, count_by, decimal}
use Rattle.std.specs.List.{flat_map}
use Rattle.history.specs.declared.events.Entry.{Entry}
use Rattle.history.specs.declared.events.Event.{Event}
use Rattle.history.specs.declared.events.Event.TheVariants.{Shown}
use Rattle.raid_types.specs.Shapes.{tolerance}
use Rattle.raid_types.specs.declared.status.Role.{Role}
use Rattle.raid_types.specs.declared.status.Role.TheVariants.{Whole, Recovering, Missing}
use Rattle.raid_types.specs.declared.status.Status.{Status}

-- no member holds all of the role
abbrev pub is_gone : Role → Bool
is_gone (Whole slot) = false
is_gone (Recovering slot) = true
is_gone Missing = true

abbrev pub gone_in : List Role → ℕ
gone_in roles = count_by is_gone roles

-- so many of its members are missing, of as many whose loss the level tolerates
abbrev pub missing_line : ℕ → ℕ → List ℕ
missing_line gone tolerated =
    (codes "mdgrow: the array is degraded: " ++ decimal gone) ++ (codes " of " ++ decimal tolerated ++ codes " tolerated members missing" ++ 10 ∷ [])

abbrev pub degraded_line : ℕ → ℕ → List ℕ
degraded_line gone tolerated = if gone == 0 then [] else missing_line gone tolerated

abbrev pub dirty_line : Bool → List ℕ
dirty_line clean = if clean then [] else codes "mdgrow: the array is dirty: the next assembly resyncs it" ++ 10 ∷ []

abbrev pub health_lines : Status → List ℕ
health_lines status = degraded_line (gone_in status.roles) (tolerance status.shape) ++ dirty_line status.clean

-- those of each state that a history shows, in its order
abbrev pub shown_lines : Event → List ℕ
shown_lines (Shown status) = health_lines status
shown_lines event = []

abbrev pub state_lines : List Entry → List ℕ
state_lines entries = flat_map (λ entry. shown_lines entry.event) entries
