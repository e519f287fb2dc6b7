pub mod Tables
pub mod Lacks
pub mod Losses
pub mod RowBytes
pub mod Turns
pub mod NewRow
pub mod Written
pub mod Apart
pub use Rattle.raid_parity_simd.proofs.raid_parity_Columns
pub use Rattle.raid_parity_simd.proofs.raid_parity_Contents
pub use Rattle.raid_parity_simd.proofs.raid_parity_OwnFills
pub use Rattle.raid_parity_simd.proofs.raid_parity_Totals
pub use Rattle.raid_parity_simd.proofs.raid_gf256_FieldLaws
pub use Rattle.sb_specs.proofs.FeatureBits as sb_specs_FeatureBits
pub use Rattle.sb_specs.proofs.Searches as sb_specs_Searches
pub use Rattle.sb_specs.proofs.SlotSets as sb_specs_SlotSets
pub use Rattle.sb_specs.proofs.bank_Causes
pub use Rattle.sb_specs.proofs.bank_Marks
