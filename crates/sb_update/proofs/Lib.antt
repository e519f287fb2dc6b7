pub mod Turns
pub mod Passes
pub mod Naming
pub mod RoleStates
pub mod Orders
pub mod Checksums
pub mod HeldSlots
pub mod RoleCounts
pub mod Namings
pub use Rattle.bank.proofs.Calls as bank_Calls
pub use Rattle.bank.proofs.Causes as bank_Causes
pub use Rattle.bank.proofs.Laws as bank_Laws
pub use Rattle.bank.proofs.Marks as bank_Marks
pub use Rattle.bank.proofs.raid_types_Tabulated
pub use Rattle.sb_specs.proofs.FeatureBits as sb_specs_FeatureBits
pub use Rattle.sb_specs.proofs.HeldReads as sb_specs_HeldReads
pub use Rattle.sb_specs.proofs.PlannedSb as sb_specs_PlannedSb
pub use Rattle.sb_specs.proofs.ReadAlike as sb_specs_ReadAlike
pub use Rattle.sb_specs.proofs.ReadLists as sb_specs_ReadLists
pub use Rattle.sb_specs.proofs.Searches as sb_specs_Searches
pub use Rattle.sb_specs.proofs.SlotSets as sb_specs_SlotSets
pub use Rattle.sb_specs.proofs.UpdateReads as sb_specs_UpdateReads
pub use Rattle.sb_specs.proofs.ValidFields as sb_specs_ValidFields
pub use Rattle.sb_specs.proofs.reshape_geometry_ClosedForms
pub use Rattle.sb_specs.proofs.reshape_geometry_Divisions
pub use Rattle.sb_specs.proofs.reshape_geometry_Rows
pub use Rattle.sb_specs.proofs.reshape_geometry_Valid
pub use Rattle.sb_specs.proofs.raid_layout_Limits
pub use Rattle.sb_specs.proofs.sb_codec_SuperblockLaws
