-- Which alerts a history tells.
use Rattle.std.specs.Prelude.{ℕ, ◌+◌, Bool, true, false, ◌||◌, if◌then◌else◌, List, [], ◌∷◌, ◌++◌, length, take, drop, fold, Option, Some, None}
use Rattle.std.specs.List.{list_any}
use Rattle.history.specs.declared.events.Event.{Event}
use Rattle.history.specs.declared.events.Event.TheVariants.{Lost, SpareLost, Rebuilt, Step}
use Rattle.history.specs.declared.events.LostCause.{LostCause}
use Rattle.history.specs.declared.events.LostCause.TheVariants.{Absent, Recovering, Command, Fault}
use Rattle.history.specs.declared.events.StepKind.{StepKind}
use Rattle.history.specs.declared.events.StepKind.TheVariants.{Begun, Finished, ResyncStripe, ResyncEnded, RebuildTaken, RebuildStripe, RebuildEnded}
use Rattle.history.specs.declared.events.Entry.{Entry}
use Rattle.history_monitor.specs.declared.alerts.Alert.{Alert}
use Rattle.history_monitor.specs.declared.alerts.AlertKind.{AlertKind}
use Rattle.history_monitor.specs.declared.alerts.AlertKind.TheVariants.{RebuildStarted, RebuildFinished, Fail, FailSpare, SpareActive, DegradedArray}
use Rattle.history_monitor.specs.declared.past.Past.{Past}

-- ---- what the entries so far leave to know

-- a role had no whole holder when the array was opened
abbrev pub is_absence : Event → Bool
is_absence (Lost role Absent) = true
is_absence (Lost role Recovering) = true
is_absence event = false

abbrev pub is_resync_stripe : Event → Bool
is_resync_stripe (Step ResyncStripe left) = true
is_resync_stripe event = false

-- a rebuild is under way from its first step on, until a role is rebuilt or lost
abbrev pub rebuilding_after : Bool → Event → Bool
rebuilding_after rebuilding (Step RebuildTaken left) = true
rebuilding_after rebuilding (Step RebuildStripe left) = true
rebuilding_after rebuilding (Rebuilt role) = false
rebuilding_after rebuilding (Lost role cause) = false
rebuilding_after rebuilding event = rebuilding

abbrev pub past_of : List Entry → Past
past_of before = record {
  scanned = length before;
  degraded = list_any (λ e. is_absence e.event) before;
  resynced = list_any (λ e. is_resync_stripe e.event) before;
  rebuilding = fold (λ rebuilding e. rebuilding_after rebuilding e.event) false before;
}

-- the same, one event later
abbrev pub past_after : Past → Event → Past
past_after past event = record {
  scanned = past.scanned + 1;
  degraded = past.degraded || is_absence event;
  resynced = past.resynced || is_resync_stripe event;
  rebuilding = rebuilding_after past.rebuilding event;
}

-- ---- what the next entry tells

abbrev pub alert : Past → AlertKind → ℕ → Alert
alert past kind number = record { kind = kind; number = number; place = past.scanned }

-- unless the past says that it was told
abbrev pub unless : Bool → Alert → Option Alert
unless said told = if said then None else Some told

abbrev pub of_loss : Past → ℕ → LostCause → Option Alert
of_loss past role Command = Some (alert past Fail role)
of_loss past role Fault = Some (alert past Fail role)
of_loss past role Absent = unless past.degraded (alert past DegradedArray role)
of_loss past role Recovering = unless past.degraded (alert past DegradedArray role)

abbrev pub of_step : Past → StepKind → Option Alert
of_step past Begun = Some (alert past RebuildStarted 0)
of_step past ResyncStripe = unless past.resynced (alert past RebuildStarted 0)
of_step past RebuildTaken = unless past.rebuilding (alert past RebuildStarted 0)
of_step past RebuildStripe = unless past.rebuilding (alert past RebuildStarted 0)
of_step past Finished = Some (alert past RebuildFinished 0)
of_step past ResyncEnded = Some (alert past RebuildFinished 0)
of_step past RebuildEnded = Some (alert past RebuildFinished 0)
of_step past kind = None

abbrev pub alert_at : Past → Event → Option Alert
alert_at past (Lost role cause) = of_loss past role cause
alert_at past (SpareLost slot) = Some (alert past FailSpare slot)
alert_at past (Rebuilt role) = Some (alert past SpareActive role)
alert_at past (Step kind left) = of_step past kind
alert_at past event = None

-- ---- the whole history

abbrev pub as_list : Option Alert → List Alert
as_list None = []
as_list (Some told) = told ∷ []

-- the alerts of these entries, behind others
abbrev pub alerts_behind : List Entry → List Entry → List Alert
alerts_behind before [] = []
alerts_behind before (e ∷ entries) = as_list (alert_at (past_of before) e.event) ++ alerts_behind (before ++ e ∷ []) entries

abbrev pub alerts : List Entry → List Alert
alerts entries = alerts_behind [] entries

-- those of the entries from a place on
abbrev pub alerts_since : ℕ → List Entry → List Alert
alerts_since n entries = alerts_behind (take n entries) (drop n entries)
