pub mod ReadLaws
pub mod WriteLaws
pub mod SettledLaws
pub mod FailedLaws
pub mod TouchedLaws
pub mod AbsentLaws
pub mod AddLaws
pub mod AddedKept
pub mod AddedNumbers
pub mod AddedLosses
pub mod AdoptingLaws
pub mod ResyncLaws
pub mod EndLaws
pub mod RebuildLaws
pub mod RebuildFilled
pub mod RebuildGiven
pub mod RebuildEnded
pub use Rattle.array_call_specs.proofs.FoundLaws as array_call_specs_FoundLaws
pub use Rattle.array_call_specs.proofs.ReplyLaws as array_call_specs_ReplyLaws
pub use Rattle.array_call_specs.proofs.StepsLeft as array_call_specs_StepsLeft
pub use Rattle.array_call_specs.proofs.history_append_CallLaws
pub use Rattle.array_call_specs.proofs.history_append_LosingLaws
pub use Rattle.array_call_specs.proofs.history_append_PlainLaws
pub use Rattle.array_call_specs.proofs.raid_types_Least
pub use Rattle.array_call_specs.proofs.raid_types_SectorLaws
pub use Rattle.array_call_specs.proofs.raid_types_Tabulated
pub use Rattle.array_call_specs.proofs.crash_safety_laws_Since
