pub mod Texts
pub mod AlertTexts
pub use Rattle.script.specs.Appends as script_Appends
pub use Rattle.script.specs.Grammar as script_Grammar
pub use Rattle.script.specs.Script as script_Script
pub use Rattle.script.specs.Seeds as script_Seeds
pub use Rattle.script.specs.Texts as script_Texts
pub use Rattle.script.specs.declared.lines.Line as script_the_Line
pub use Rattle.script.specs.declared.lines.Line.TheVariants as script_the_Line_TheVariants
pub use Rattle.script.specs.declared.lines.Numbered as script_the_Numbered
pub use Rattle.script.specs.declared.reply.Lane as script_the_Lane
pub use Rattle.script.specs.declared.reply.Lane.TheVariants as script_the_Lane_TheVariants
pub use Rattle.script.specs.history_Fits
pub use Rattle.script.specs.history_Flat
pub use Rattle.script.specs.history_Legal
pub use Rattle.script.specs.history_OneShape
pub use Rattle.script.specs.history_Reshaped
pub use Rattle.script.specs.history_Seen
pub use Rattle.script.specs.history_Transfers
pub use Rattle.script.specs.history_World
pub use Rattle.script.specs.history_the_Entry
pub use Rattle.script.specs.history_the_Epoch
pub use Rattle.script.specs.history_the_Event
pub use Rattle.script.specs.history_the_Event_TheVariants
pub use Rattle.script.specs.history_the_Request
pub use Rattle.script.specs.history_the_Request_TheVariants
pub use Rattle.history_monitor.specs.Alerts as history_monitor_Alerts
pub use Rattle.history_monitor.specs.Hooks as history_monitor_Hooks
pub use Rattle.history_monitor.specs.Told as history_monitor_Told
pub use Rattle.history_monitor.specs.Urgent as history_monitor_Urgent
pub use Rattle.history_monitor.specs.declared.alerts.Alert as history_monitor_the_Alert
pub use Rattle.history_monitor.specs.declared.alerts.AlertKind as history_monitor_the_AlertKind
pub use Rattle.history_monitor.specs.declared.past.Past as history_monitor_the_Past
