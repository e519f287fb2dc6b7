pub mod Shifts
pub use Rattle.stripe_region_laws.specs.Regions as stripe_region_laws_Regions
