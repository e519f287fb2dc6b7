pub mod ShiftLaws
pub use Rattle.stripe_region_laws.proofs.RegionLaws as stripe_region_laws_RegionLaws
