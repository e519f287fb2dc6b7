use Rattle.std.proofs.Common.{◌≡◌, ◌≤◌, take, drop}
use Rattle.history_monitor.specs.Alerts.{past_of, alerts_behind}
use Rattle.history_monitor.specs.Told.{AreTold}
use Rattle.history_monitor.specs.Hooks.{wanted_by}
use Rattle.history_monitor.proofs.scanning.Monitor.scan.Given as goal

abbrev pub invariant-loop-at : goal.invariant-loop-at
invariant-loop-at g l =
    (l.fn.self.scanned ≤ l.at)
    × (l.past ≡ past_of (take l.at l.entries.items))
    × AreTold (goal.F-post g (wanted_by l.hook)) (alerts_behind (take l.fn.self.scanned l.entries.items) (drop l.fn.self.scanned (take l.at l.entries.items))) l.list
