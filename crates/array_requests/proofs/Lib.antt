mod LimitLaws
mod PlanLaws
pub mod Leaving
pub mod Sizes
mod Plain
mod Told
mod Held
mod Ways
pub mod GoneOn
mod Done
pub mod Turned
pub mod Entered
pub use Rattle.array_call_specs.proofs.ReplyLaws as array_call_specs_ReplyLaws
pub use Rattle.array_reply_specs.proofs.Fitting as array_reply_specs_Fitting
pub use Rattle.array_reply_specs.proofs.GoneOn as array_reply_specs_GoneOn
pub use Rattle.history_append.proofs.CallLaws as history_append_CallLaws
pub use Rattle.array_open.proofs.array_members_Flushed
pub use Rattle.array_open.proofs.array_members_Still
pub use Rattle.array_open.proofs.history_invariant_Turned
pub use Rattle.array_open.proofs.history_invariant_Growing
pub use Rattle.array_open.proofs.array_Ended
pub use Rattle.array_open.proofs.reshape_request_FirstLaws
pub use Rattle.array_open.proofs.history_laws_OneShapeGrowing
pub use Rattle.array_open.proofs.history_laws_ReshapedLaws
pub use Rattle.array_open.proofs.history_laws_GrowingLaws
mod Arms
pub use Rattle.array_call_specs.proofs.raid_types_SectorLaws
pub use Rattle.array_call_specs.proofs.raid_types_Tabulated
pub use Rattle.bank.proofs.Images as bank_Images
pub use Rattle.bank.proofs.Laws as bank_Laws
pub use Rattle.history_append.proofs.array_members_SafeStretch
pub use Rattle.array_open.proofs.array_members_MovedLaws
