pub mod SameLaws
pub mod FeatureBits
pub mod Searches
pub mod ValidFields
pub mod RoleTables
pub mod Updates
pub mod SlotSets
pub mod StoredSlots
pub mod Taken
pub mod LiveAfter
pub mod ReadLists
pub mod ReadAlike
pub mod HeldReads
pub mod PlannedSb
pub mod WrittenReads
pub mod UpdateReads
pub mod Exact
pub use Rattle.bank.proofs.Causes as bank_Causes
pub use Rattle.bank.proofs.Laws as bank_Laws
pub use Rattle.bank.proofs.Marks as bank_Marks
pub use Rattle.bank.proofs.Present as bank_Present
pub use Rattle.bank.proofs.raid_types_Least
pub use Rattle.bank.proofs.raid_types_Tabulated
pub use Rattle.reshape_geometry.proofs.ClosedForms as reshape_geometry_ClosedForms
pub use Rattle.reshape_geometry.proofs.Divisions as reshape_geometry_Divisions
pub use Rattle.reshape_geometry.proofs.Rows as reshape_geometry_Rows
pub use Rattle.reshape_geometry.proofs.Valid as reshape_geometry_Valid
pub use Rattle.raid_layout.proofs.Limits as raid_layout_Limits
pub use Rattle.raid_layout.proofs.Places as raid_layout_Places
pub use Rattle.raid_layout.proofs.Stripes as raid_layout_Stripes
pub use Rattle.sb_codec.proofs.Encoded as sb_codec_Encoded
pub use Rattle.sb_codec.proofs.RoleTable as sb_codec_RoleTable
pub use Rattle.sb_codec.proofs.SuperblockLaws as sb_codec_SuperblockLaws
