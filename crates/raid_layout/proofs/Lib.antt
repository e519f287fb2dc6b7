mod LayoutChecks
pub mod Limits
pub mod Dealt
pub mod Stripes
pub mod Places
pub mod OnlyParity
pub use Rattle.raid_types.proofs.Least as raid_types_Least
pub use Rattle.raid_types.proofs.Tabulated as raid_types_Tabulated
