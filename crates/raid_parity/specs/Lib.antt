pub mod Exponents
pub mod Parity
pub mod Rows
pub mod Fills
pub use Rattle.raid_gf256.specs.Field as raid_gf256_Field
pub use Rattle.raid_types.specs.Search as raid_types_Search
pub use Rattle.raid_types.specs.declared.places.RowRoles as raid_types_the_RowRoles
