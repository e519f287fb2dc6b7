pub mod Finishing
pub mod Fetching
pub use Rattle.stripe_region_read.specs.raid_layout_Layout
pub use Rattle.reshape_window_steps.specs.stripe_region_laws_Regions
