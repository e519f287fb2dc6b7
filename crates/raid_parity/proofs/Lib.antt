pub mod FilledLaws
pub mod ParityChecks
pub mod Totals
pub mod Columns
pub mod Solving
pub mod Bytes
pub mod Walk
pub mod Parts
pub mod Filling
pub mod Lacking
pub mod Contents
pub mod Refilled
pub mod RowBytes
pub mod OwnFills
pub use Rattle.raid_gf256.proofs.FieldLaws as raid_gf256_FieldLaws
pub use Rattle.raid_types.proofs.Tabulated as raid_types_Tabulated
