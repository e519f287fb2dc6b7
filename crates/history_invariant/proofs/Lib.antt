pub mod Tests
pub mod Growing
pub mod Ledgers
pub mod Marks
pub mod Calls
pub mod Longer
pub mod Records
pub mod Reshapes
pub mod KeptCalls
pub mod Changes
pub mod Entered
pub mod Lists
pub mod Seen
pub mod Idle
pub mod Unkept
pub mod Turned
pub mod Turns
pub mod Opened
pub mod Anew
pub mod Lengths
pub use Rattle.array_call_specs.proofs.DegradedLaws as array_call_specs_DegradedLaws
pub use Rattle.array_call_specs.proofs.KeptLaws as array_call_specs_KeptLaws
pub use Rattle.array_call_specs.proofs.LedgerLaws as array_call_specs_LedgerLaws
pub use Rattle.array_call_specs.proofs.LossLaws as array_call_specs_LossLaws
pub use Rattle.array_call_specs.proofs.NowLaws as array_call_specs_NowLaws
pub use Rattle.array_call_specs.proofs.OnlyLaws as array_call_specs_OnlyLaws
pub use Rattle.array_call_specs.proofs.ReadyLaws as array_call_specs_ReadyLaws
pub use Rattle.array_call_specs.proofs.RecordLaws as array_call_specs_RecordLaws
pub use Rattle.array_call_specs.proofs.ReplyLaws as array_call_specs_ReplyLaws
pub use Rattle.array_call_specs.proofs.StepsLeft as array_call_specs_StepsLeft
pub use Rattle.array_call_specs.proofs.ToldLosses as array_call_specs_ToldLosses
pub use Rattle.array_call_specs.proofs.bank_Marks
pub use Rattle.array_call_specs.proofs.history_append_CallLaws
pub use Rattle.array_call_specs.proofs.history_append_LeftLaws
pub use Rattle.array_call_specs.proofs.history_append_LosingLaws
pub use Rattle.array_call_specs.proofs.history_append_PlainLaws
pub use Rattle.array_call_specs.proofs.history_append_StepLaws
pub use Rattle.array_call_specs.proofs.history_LegalLaws
pub use Rattle.array_call_specs.proofs.history_OneShapeGone
pub use Rattle.array_call_specs.proofs.history_OneShapeLegal
pub use Rattle.array_call_specs.proofs.history_laws_GrowingLaws
pub use Rattle.array_call_specs.proofs.history_laws_NumberLaws
pub use Rattle.array_call_specs.proofs.history_laws_OneShapeGrowing
pub use Rattle.array_call_specs.proofs.history_laws_ReshapedLaws
pub use Rattle.array_call_specs.proofs.raid_types_SectorLaws
pub use Rattle.array_call_specs.proofs.raid_types_Tabulated
pub use Rattle.array_call_specs.proofs.crash_safety_laws_Steady
pub use Rattle.array_call_specs.proofs.array_members_SoundViews
pub use Rattle.array_call_specs.proofs.history_append_BearerLaws
pub use Rattle.array_call_specs.proofs.IdleLaws as array_call_specs_IdleLaws
