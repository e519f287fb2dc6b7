use Rattle.std.proofs.Common.{◌≡◌, ◌+◌, ◌*◌, ◌≤◌, length, ◌++◌, drop, vec_capacity}
use Rattle.script_status.specs.AlertTexts.{each_text}
use Rattle.script_status.proofs.alerts.push_each.Given as goal

-- what is written so far, with the alerts that are left, is the whole
abbrev pub invariant-loop-alert : goal.invariant-loop-alert
invariant-loop-alert l = record {
  whole : l.text.items ++ each_text (drop l.alert-index l.alerts) ≡ l.fn.text.items ++ each_text l.alerts;
  few : length l.text.items ≤ length l.fn.text.items + 40 * l.alert-index;
  room : vec_capacity l.fn.text ≤ vec_capacity l.text;
}
