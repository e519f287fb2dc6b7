pub mod Windows
pub mod Beside
pub use Rattle.stripe_region_read.proofs.raid_layout_Places
pub use Rattle.reshape_window_steps.proofs.raid_layout_Limits
