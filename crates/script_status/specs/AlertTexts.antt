-- The text of `alerts`. What ends the line doesn't stand in it.
use Rattle.std.specs.Prelude.{ℕ, List, ◌++◌, length, codes}
use Rattle.std.specs.List.{flat_map}
use Rattle.history_monitor.specs.declared.alerts.Alert.{Alert}
use Rattle.history_monitor.specs.declared.alerts.AlertKind.{AlertKind}
use Rattle.history_monitor.specs.declared.alerts.AlertKind.TheVariants.{RebuildStarted, RebuildFinished, Fail, FailSpare, SpareActive, DegradedArray}
use Rattle.script_status.specs.Texts.{counted}

-- an alert of this kind: its name, and the role or slot that it tells of
abbrev pub alert_text : AlertKind → ℕ → List ℕ
alert_text RebuildStarted number = codes " RebuildStarted"
alert_text RebuildFinished number = codes " RebuildFinished"
alert_text Fail role = counted (codes " Fail ") role
alert_text FailSpare slot = counted (codes " FailSpare ") slot
alert_text SpareActive role = counted (codes " SpareActive ") role
alert_text DegradedArray role = counted (codes " DegradedArray ") role

abbrev pub each_text : List Alert → List ℕ
each_text alerts = flat_map (λ alert. alert_text alert.kind alert.number) alerts

-- how many there are, and each of them
abbrev pub alerts_text : List Alert → List ℕ
alerts_text alerts = counted (codes "alerts ") (length alerts) ++ each_text alerts
