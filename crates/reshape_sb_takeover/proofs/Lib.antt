pub mod TakenPlan
pub mod TakenLosses
pub use Rattle.reshape_begin_end.proofs.raid_layout_Limits
