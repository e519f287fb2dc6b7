pub mod AppendLaws
pub mod KindLaws
pub mod RunLaws
pub mod ScriptLaws
pub mod SeedLaws
pub mod LimitLaws
pub mod TurnLaws
pub mod NumberLaws
pub mod KeyLaws
pub mod ReadingLaws
pub mod PlaceLaws
pub mod WrongLaws
pub mod JudgeLaws
pub mod KeyWrongLaws
pub mod LineWrongLaws
pub mod DiagnosisLaws
pub use Rattle.history.proofs.LegalLaws as history_LegalLaws
pub use Rattle.history.proofs.OneShapeLegal as history_OneShapeLegal
pub use Rattle.history.proofs.SoundLaws as history_SoundLaws
pub use Rattle.history.proofs.StretchLaws as history_StretchLaws
pub use Rattle.history.proofs.reshape_plan_Sound
