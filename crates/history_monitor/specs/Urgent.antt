-- The alerts that no caller may leave out.
use Rattle.std.specs.Prelude.{◌≡◌, ℕ, ◌<◌, ◌^◌, Bool, true, false}
use Rattle.history_monitor.specs.declared.alerts.AlertKind.{AlertKind}
use Rattle.history_monitor.specs.declared.alerts.AlertKind.TheVariants.{RebuildStarted, RebuildFinished, Fail, FailSpare, SpareActive, DegradedArray}

abbrev pub is_urgent : AlertKind → Bool
is_urgent Fail = true
is_urgent DegradedArray = true
is_urgent RebuildStarted = false
is_urgent RebuildFinished = false
is_urgent FailSpare = false
is_urgent SpareActive = false

-- each answer to an urgent alert is yes
abbrev pub WantsUrgent : (AlertKind → ℕ → Bool → Type 0) → Type 0
WantsUrgent answers = (kind : AlertKind) (number : ℕ) (wanted : Bool) → number < 2 ^ 32 → is_urgent kind ≡ true
    → answers kind number wanted → wanted ≡ true
