pub mod FirstLaws
pub mod UnmendableLaws
pub use Rattle.array_call_laws.proofs.history_append_CallLaws
pub use Rattle.array_call_laws.proofs.history_append_PlainLaws
pub use Rattle.array_call_laws.proofs.raid_types_Least
pub use Rattle.array_call_laws.proofs.raid_types_SectorLaws
