pub mod FewerSound
pub mod Settled
pub use Rattle.history.proofs.OneShapeLegal as history_OneShapeLegal
pub use Rattle.history.proofs.ReopenedLaws as history_ReopenedLaws
