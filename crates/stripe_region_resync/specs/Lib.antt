pub mod Mends
pub mod Laws
pub mod Left
pub use Rattle.stripe_region_write.specs.stripe_region_read_Stretches
pub use Rattle.stripe_region_write.specs.Runs as stripe_region_write_Runs
pub use Rattle.stripe_region_write.specs.declared.runs.Run as stripe_region_write_the_Run
pub use Rattle.stripe_region_write.specs.sb_safe_updates_Frame
pub use Rattle.stripe_region_write.specs.sb_safe_updates_First
pub use Rattle.stripe_region_write.specs.sb_safe_updates_Unused
