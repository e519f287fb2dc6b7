pub mod LastStep
pub mod Behind
pub mod Plans
pub mod Quiet
pub mod Adding
pub mod Settling
pub mod Failed
pub mod Giving
pub use Rattle.history_invariant.proofs.history_append_CallLaws
pub use Rattle.history_invariant.proofs.history_append_LeftLaws
pub use Rattle.history_invariant.proofs.history_append_PlainLaws
pub use Rattle.history_invariant.proofs.history_append_StepLaws
pub use Rattle.history_invariant.proofs.history_append_LosingLaws
pub use Rattle.history_invariant.proofs.Growing as history_invariant_Growing
pub use Rattle.history_invariant.proofs.Ledgers as history_invariant_Ledgers
pub use Rattle.history_invariant.proofs.Lists as history_invariant_Lists
pub use Rattle.history_invariant.proofs.Entered as history_invariant_Entered
pub use Rattle.history_invariant.proofs.Longer as history_invariant_Longer
pub use Rattle.history_invariant.proofs.Calls as history_invariant_Calls
pub use Rattle.history_invariant.proofs.KeptCalls as history_invariant_KeptCalls
pub use Rattle.history_invariant.proofs.Reshapes as history_invariant_Reshapes
pub use Rattle.history_invariant.proofs.Turned as history_invariant_Turned
pub use Rattle.history_invariant.proofs.Turns as history_invariant_Turns
pub use Rattle.history_invariant.proofs.Lengths as history_invariant_Lengths
pub use Rattle.history_invariant.proofs.Records as history_invariant_Records
pub use Rattle.history_invariant.proofs.Seen as history_invariant_Seen
pub use Rattle.history_invariant.proofs.Tests as history_invariant_Tests
pub use Rattle.history_invariant.proofs.Idle as history_invariant_Idle
pub use Rattle.history_invariant.proofs.Opened as history_invariant_Opened
pub use Rattle.history_invariant.proofs.Anew as history_invariant_Anew
pub use Rattle.history_invariant.proofs.Marks as history_invariant_Marks
pub use Rattle.history_invariant.proofs.history_laws_OneShapeGrowing
pub use Rattle.history_invariant.proofs.history_laws_NumberLaws
pub use Rattle.history_invariant.proofs.history_laws_ReshapedLaws
pub use Rattle.history_invariant.proofs.history_laws_GrowingLaws
pub use Rattle.history_invariant.proofs.array_call_specs_DegradedLaws
pub use Rattle.history_invariant.proofs.array_call_specs_KeptLaws
pub use Rattle.history_invariant.proofs.array_call_specs_LedgerLaws
pub use Rattle.history_invariant.proofs.array_call_specs_LossLaws
pub use Rattle.history_invariant.proofs.array_call_specs_NowLaws
pub use Rattle.history_invariant.proofs.array_call_specs_OnlyLaws
pub use Rattle.history_invariant.proofs.array_call_specs_ReadyLaws
pub use Rattle.history_invariant.proofs.array_call_specs_RecordLaws
pub use Rattle.history_invariant.proofs.array_call_specs_ReplyLaws
pub use Rattle.history_invariant.proofs.array_call_specs_StepsLeft
pub use Rattle.history_invariant.proofs.array_call_specs_ToldLosses
pub use Rattle.history_invariant.proofs.raid_types_SectorLaws
pub use Rattle.history_invariant.proofs.raid_types_Tabulated
pub use Rattle.history_invariant.proofs.history_append_BearerLaws
pub use Rattle.history_invariant.proofs.array_call_specs_IdleLaws
