pub mod Buffers
pub mod Factors
pub mod Gathered
pub mod Parts
pub mod Places
pub use Rattle.raid_parity.specs.Exponents as raid_parity_Exponents
pub use Rattle.raid_parity.specs.Fills as raid_parity_Fills
pub use Rattle.raid_parity.specs.Parity as raid_parity_Parity
pub use Rattle.raid_parity.specs.Rows as raid_parity_Rows
pub use Rattle.raid_parity.specs.raid_gf256_Field
pub use Rattle.raid_parity.specs.raid_types_Search
pub use Rattle.raid_parity.specs.raid_types_the_RowRoles
