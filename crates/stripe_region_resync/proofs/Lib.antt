pub mod StripeLaws
pub mod ReliedLaws
pub mod Alike
pub mod RefusalLaws
pub mod StripeRows
pub mod SyncedLists
pub mod LeftLaws
pub use Rattle.stripe_region_write.proofs.LowRuns as stripe_region_write_LowRuns
pub use Rattle.stripe_region_write.proofs.RunLists as stripe_region_write_RunLists
pub use Rattle.stripe_region_write.proofs.Sides as stripe_region_write_Sides
pub use Rattle.stripe_region_write.proofs.Together as stripe_region_write_Together
pub use Rattle.stripe_region_write.proofs.RunLaws as stripe_region_write_RunLaws
pub use Rattle.stripe_region_write.proofs.sb_safe_updates_RefusingLaws
pub use Rattle.stripe_region_write.proofs.sb_safe_updates_Unused
