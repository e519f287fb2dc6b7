pub mod UuidLaws
pub mod Grouped
pub mod LoopLines
pub use Rattle.history_monitor.proofs.ToldLaws as history_monitor_ToldLaws
