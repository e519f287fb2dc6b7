-- What is told of alerts to a caller who doesn't want them all.
use Rattle.std.specs.Prelude.{◌≡◌, ℕ, ◌≤◌, Bool, true, false, ◌⊎◌, List, [], ◌∷◌, ◌++◌, length, take, filter}
use Rattle.history.specs.declared.events.Entry.{Entry}
use Rattle.history_monitor.specs.declared.alerts.Alert.{Alert}
use Rattle.history_monitor.specs.declared.alerts.AlertKind.{AlertKind}
use Rattle.history_monitor.specs.declared.past.Past.{Past}
use Rattle.history_monitor.specs.Alerts.{past_of}
use Rattle.history_monitor.specs.Urgent.{is_urgent}

-- Of these alerts, those were told to which the answer was yes, in order; the others got a no. `answers` are the possible
-- answers to an alert's kind and number.
abbrev pub AreSifted : (AlertKind → ℕ → Bool → Type 0) → List Alert → List Alert → Type 0
AreSifted answers [] told = told ≡ []
AreSifted answers (alert ∷ alerts) told =
    (answers alert.kind alert.number true × ((rest : List Alert) × (told ≡ alert ∷ rest) × AreSifted answers alerts rest))
    ⊎ (answers alert.kind alert.number false × AreSifted answers alerts told)

-- the urgent ones among alerts
abbrev pub urgent_of : List Alert → List Alert
urgent_of alerts = filter (λ alert. is_urgent alert.kind) alerts

-- what is told of these alerts: the wanted ones, and each urgent one
pub record AreTold (answers : AlertKind → ℕ → Bool → Type 0) (alerts told : List Alert) : Type 0 where
  pub sifted : AreSifted answers alerts told
  pub urgent : urgent_of told ≡ urgent_of alerts

-- the same, of what was put behind a list
pub record AreAdded (answers : AlertKind → ℕ → Bool → Type 0) (alerts old new : List Alert) : Type 0 where
  pub told : List Alert
  pub behind : new ≡ old ++ told
  pub right : AreTold answers alerts told

-- the monitor has scanned so many entries, and knows of them what it needs
pub record HasScanned (past : Past) (entries : List Entry) : Type 0 where
  pub within : past.scanned ≤ length entries
  pub known : past ≡ past_of (take past.scanned entries)
